-- What a step came to stays so where the steps of the worker are kept.
use Rattle.std.proofs.Common.{◌≡◌, ◌∙◌, ℕ, List, Option, None, Ok, Err, ap, arith, inl, inr, refl, subst, sym}
use Rattle.std.specs.declared.result.Result.{Result}
use Rattle.mp_names.specs.declared.kinds.Kept.{Kept}
use Rattle.mp_names.specs.declared.kinds.Kind.{Kind}
use Rattle.mp_names.specs.declared.kinds.Kind.TheVariants.{Exchange, Write}
use Rattle.mp_names.specs.declared.names.Name.{Name}
use Rattle.mp_names.specs.Logs.{Log}
use Rattle.mp_names.specs.Outlines.{Outline}
use Rattle.mp_machine.specs.Steps.{KindFits}
use Rattle.mp_stamps.specs.declared.seen.Seen.{Seen}
use Rattle.mp_outside.specs.Sink.{Beside, OnlyAppends}
use Rattle.mp_model.specs.Facts.{JobFacts, QueryFacts}
use Rattle.mp_outline.specs.JobOutline.{outline_of}
use Rattle.mp_board.specs.declared.causes.Cause.{Cause}
use Rattle.mp_worker_refinement.specs.Ends.{Standing, Waiting}
use Rattle.mp_worker_refinement.specs.Served.{IsAtHub}
use Rattle.mp_worker_refinement.specs.State.{CanMake, Makes, WorkerState, kept_with}
use Rattle.mp_worker_refinement.specs.Steps.{Sees}
use Rattle.mp_worker_refinement.proofs.Alone.{post_same}
use Rattle.mp_worker_steps.specs.Writing.{WritesNoMore}
use Rattle.mp_turns.specs.declared.turn.Stop.{Stop}
use Rattle.mp_turns.specs.declared.turn.Stop.TheVariants as stop
use Rattle.mp_turns.specs.declared.turn.Turn.{Turn}
use Rattle.mp_turns.specs.declared.turn.Turn.TheVariants as turn
use Rattle.mp_worker.specs.Exchanging.{Exchanges}
use Rattle.mp_turns.specs.Keeping.{steps_after}
use Rattle.mp_worker.specs.Keeping.{with_steps}
use Rattle.mp_worker.specs.Stepping.{StepsAtHub, StepsAtPost, StepsAtSink}
use Rattle.mp_worker.specs.Turns.{Answers}
use Rattle.mp_worker.specs.Writing.{WritesInTurn}

-- where no steps are kept, none are after a step
pub none_after : (kind : Kind) (r : Result Turn Stop) → None ≡ steps_after None kind r
none_after kind (Ok (turn.Did x n)) = refl
none_after kind (Ok (turn.Seen version)) = refl
none_after kind (Ok turn.NotNow) = refl
none_after kind (Ok turn.Busy) = refl
none_after kind (Err e) = refl

can_make_with : (o : Outline) (kind : Kind) (s : WorkerState) (steps : Option (List Kept)) (x : Name) → CanMake o kind s x → CanMake o kind (with_steps steps s) x
can_make_with o kind s steps x can = record { fits = can.fits; next = can.next; ready = can.ready }

can_make_without : (o : Outline) (kind : Kind) (s : WorkerState) (steps : Option (List Kept)) (x : Name) → CanMake o kind (with_steps steps s) x → CanMake o kind s x
can_make_without o kind s steps x can = record { fits = can.fits; next = can.next; ready = can.ready }

module _ (s now : WorkerState) (steps later : Option (List Kept)) where
  same_with : now ≡ s → later ≡ steps → with_steps later now ≡ with_steps steps s
  same_with same e = λ i. record (same i) { steps = e i }

  makes_with : (o : Outline) (kind : Kind) (xs : List Name) → Makes o kind s xs now → later ≡ kept_with steps kind 0 → Makes o kind (with_steps steps s) xs (with_steps later now)
  makes_with o kind xs makes e = record {
    first = makes.first;
    can = can_make_with o kind s steps makes.first makes.can;
    names = makes.names;
    after = λ i. record (makes.after i) { steps = e i };
  }

  sees_with : (version : ℕ) → Sees s version now → later ≡ kept_with steps Exchange version → Sees (with_steps steps s) version (with_steps later now)
  sees_with version sees e = record { after = λ i. record (sees.after i) { steps = e i }; version_is = sees.version_is; later = sees.later }

  answers_with : (had_room was_full was_empty : ℕ → ℕ → Type 0) (o : Outline) (kind : Kind) (r : Result Turn Stop) → Answers had_room was_full was_empty o kind s now r → later ≡ steps_after steps kind r
      → Answers had_room was_full was_empty o kind (with_steps steps s) (with_steps later now) r
  answers_with f g h o kind (Ok (turn.Did x n)) a e = record { names = a.names; tells = a.tells; makes = makes_with o kind a.names a.makes e; allows = a.allows }
  answers_with f g h o kind (Ok (turn.Seen version)) a e = (a.0, sees_with version a.1 (e ∙ ap (λ (k : Kind). kept_with steps k version) a.0))
  answers_with f g h o kind (Ok turn.NotNow) a e = ((λ x can. a.0 x (can_make_without o kind s steps x can)), same_with a.1 e)
  answers_with f g h o kind (Ok turn.Busy) a e = (a.0, same_with a.1 e)
  answers_with f g h o kind (Err stop.Write) a e = (a.0, same_with a.1 e)
  answers_with f g h o kind (Err stop.Memory) a e = same_with a e
  answers_with f g h o kind (Err (stop.Other cause)) a e = (a.0, same_with a.1 e)

-- At the post

module _ {P : Type 0} (workers depth : P → ℕ) (serves : P → ℕ → Type 0) (denotes : P → Standing) (waits : P → Waiting) (had_room was_full was_empty : P → ℕ → ℕ → Type 0) (o : Outline) (kind : Kind) where
  abbrev AtPost : (s now : WorkerState) (old new : P) → Result Turn Stop → Type 0
  AtPost = StepsAtPost workers depth serves denotes waits had_room was_full was_empty o kind

  pub post_with : (s now : WorkerState) (steps later : Option (List Kept)) (old new : P) (r : Result Turn Stop) → later ≡ steps_after steps kind r → AtPost s now old new r → AtPost (with_steps steps s) (with_steps later now) old new r
  post_with s now steps later old new r e at = record { answers = answers_with s now steps later (had_room old) (was_full old) (was_empty old) o kind r at.answers e; mail = at.mail }

  -- a step of a kind that the job doesn't have isn't made
  pub post_unfit : (KindFits o kind → ⊥) → (s : WorkerState) (post : P) → AtPost s s post post (Ok turn.NotNow)
  post_unfit lacks s post = record { answers = ((λ x can. absurd (lacks can.fits)), refl); mail = post_same workers depth serves denotes waits o s.number s.log s.log post refl refl }

  -- without memory nothing changes
  pub post_no_memory : (s : WorkerState) (post : P) → AtPost s s post post (Err stop.Memory)
  post_no_memory s post = record { answers = refl; mail = post_same workers depth serves denotes waits o s.number s.log s.log post refl refl }

-- At the hub

fits_exchange : (o : Outline) (kind : Kind) → kind ≡ Exchange → KindFits o kind
fits_exchange o kind is = subst (KindFits o) (sym is) tt

fits_write : (o : Outline) (kind : Kind) → kind ≡ Write → KindFits o kind
fits_write o kind is = subst (KindFits o) (sym is) tt

module _ {H : Type 0} (serves : H → ℕ → Type 0) (posted : H → ℕ → Log) (version : H → ℕ) (after : H → ℕ → Log → H → Type 0) (kept : H → H → Type 0) (shows : H → Seen → Type 0) (goes_on : H → Type 0) (was_stopped : H → Cause → Type 0) (was_busy : H → Type 0) (kind : Kind) where
  abbrev AtHub : (s now : WorkerState) (old new : H) → Result Turn Stop → Type 0
  AtHub = StepsAtHub serves posted version after kept shows goes_on was_stopped was_busy kind

  pub at_hub_with : (s : WorkerState) (steps : Option (List Kept)) (hub : H) → IsAtHub serves posted version s hub → IsAtHub serves posted version (with_steps steps s) hub
  at_hub_with s steps hub at = record { served = at.served; has_posted = at.has_posted; grows = at.grows; later = at.later }

  exchanges_with : (s now : WorkerState) (steps later : Option (List Kept)) (old new : H) (r : Result Turn Stop) → later ≡ steps_after steps Exchange r
      → Exchanges after kept shows goes_on was_stopped was_busy s now old new r → Exchanges after kept shows goes_on was_stopped was_busy (with_steps steps s) (with_steps later now) old new r
  exchanges_with s now steps later old new (Ok (turn.Did x n)) e says = absurd says
  exchanges_with s now steps later old new (Ok (turn.Seen version)) e says = (sees_with s now steps later version says.0 e, says.1, says.2)
  exchanges_with s now steps later old new (Ok turn.NotNow) e says = (same_with s now steps later says.0 e, says.1, says.2, says.3)
  exchanges_with s now steps later old new (Ok turn.Busy) e says = (same_with s now steps later says.0 e, says.1, says.2)
  exchanges_with s now steps later old new (Err stop.Write) e says = absurd says
  exchanges_with s now steps later old new (Err stop.Memory) e says = (same_with s now steps later says.0 e, says.1)
  exchanges_with s now steps later old new (Err (stop.Other cause)) e says = (same_with s now steps later says.0 e, says.1, says.2)

  pub hub_with : (s now : WorkerState) (steps later : Option (List Kept)) (old new : H) (r : Result Turn Stop) → later ≡ steps_after steps kind r → AtHub s now old new r → AtHub (with_steps steps s) (with_steps later now) old new r
  hub_with s now steps later old new r e at = record {
    exchanges = λ is. exchanges_with s now steps later old new r (e ∙ ap (λ (k : Kind). steps_after steps k r) is) (at.exchanges is);
    others_post_nothing = at.others_post_nothing;
    at_hub = at_hub_with now later new at.at_hub;
    still_serves = at.still_serves;
  }

  pub hub_unfit : (o : Outline) → (KindFits o kind → ⊥) → (s : WorkerState) (hub : H) → IsAtHub serves posted version s hub → AtHub s s hub hub (Ok turn.NotNow)
  hub_unfit o lacks s hub at = record { exchanges = λ is. absurd (lacks (fits_exchange o kind is)); others_post_nothing = λ _. refl; at_hub = at; still_serves = λ w h. h }

  pub hub_no_memory : (s : WorkerState) (hub : H) → IsAtHub serves posted version s hub → AtHub s s hub hub (Err stop.Memory)
  hub_no_memory s hub at = record { exchanges = λ is. (refl, refl); others_post_nothing = λ _. refl; at_hub = at; still_serves = λ w h. h }

-- In the sink

module _ {Cell S : Type 0} (q : QueryFacts Cell) (job : JobFacts) (written : S → Option (List ℕ)) (frame : S → Beside) (faults : S → ℕ) (kind : Kind) where
  abbrev AtSink : WorkerState → (old new : S) → Result Turn Stop → Type 0
  AtSink = StepsAtSink q job written frame faults kind

  no_more_with : (s : WorkerState) (steps : Option (List Kept)) (old new : S) → WritesNoMore q job written faults s old new → WritesNoMore q job written faults (with_steps steps s) old new
  no_more_with s steps old new (inl same) = inl same
  no_more_with s steps old new (inr part) = inr (part.0, part.1, can_make_with (outline_of q job) Write s steps _ part.2, part.3)

  writes_with : (s : WorkerState) (steps : Option (List Kept)) (old new : S) (r : Result Turn Stop) → WritesInTurn q job written faults s old new r → WritesInTurn q job written faults (with_steps steps s) old new r
  writes_with s steps old new (Ok (turn.Did x n)) says = says
  writes_with s steps old new (Ok (turn.Seen version)) says = says
  writes_with s steps old new (Ok turn.NotNow) says = says
  writes_with s steps old new (Ok turn.Busy) says = says
  writes_with s steps old new (Err stop.Write) says = (no_more_with s steps old new says.0, says.1)
  writes_with s steps old new (Err stop.Memory) says = (no_more_with s steps old new says.0, says.1)
  writes_with s steps old new (Err (stop.Other cause)) says = says

  pub sink_with : (s : WorkerState) (steps : Option (List Kept)) (old new : S) (r : Result Turn Stop) → AtSink s old new r → AtSink (with_steps steps s) old new r
  sink_with s steps old new r at = record { writes = λ is. writes_with s steps old new r (at.writes is); others_write_nothing = at.others_write_nothing; appends_only = at.appends_only }

  pub same_sink : (sink : S) → OnlyAppends frame faults sink sink
  same_sink sink = record { same_frame = refl; faults_grow = omega arith }

  pub sink_unfit : (o : Outline) → (KindFits o kind → ⊥) → (s : WorkerState) (sink : S) → AtSink s sink sink (Ok turn.NotNow)
  sink_unfit o lacks s sink = record { writes = λ is. absurd (lacks (fits_write o kind is)); others_write_nothing = λ _. refl; appends_only = same_sink sink }

  pub sink_no_memory : (s : WorkerState) (sink : S) → AtSink s sink sink (Err stop.Memory)
  sink_no_memory s sink = record { writes = λ is. (inl refl, refl); others_write_nothing = λ _. refl; appends_only = same_sink sink }
