-- What a step of each kind leaves at the post, at the hub and in the sink.
use Rattle.std.proofs.Common.{◌≡◌, ◌≢◌, ◌∙◌, ℕ, List, Option, Some, Ok, Err, ap, refl, subst, sym}
use Rattle.std.specs.Prelude.{IfNone, IfSome, IsErrAnd}
use Rattle.std.specs.declared.result.Result.{Result}
use Rattle.mp_names.specs.declared.kinds.Kind.{Kind}
use Rattle.mp_names.specs.declared.kinds.Kind.TheVariants.{Exchange, Write}
use Rattle.mp_names.specs.Logs.{Log}
use Rattle.mp_names.specs.Outlines.{Outline}
use Rattle.mp_stamps.specs.declared.seen.Seen.{Seen}
use Rattle.mp_outside.specs.Sink.{Beside, OnlyAppends}
use Rattle.mp_model.specs.Facts.{JobFacts, QueryFacts}
use Rattle.mp_board.specs.declared.causes.Cause.{Cause}
use Rattle.mp_msg.specs.declared.names.Names.{Names}
use Rattle.mp_output.specs.declared.refused.OutRefused.{OutRefused}
use Rattle.mp_worker_refinement.specs.Ends.{Standing, Waiting}
use Rattle.mp_worker_refinement.specs.Served.{IsAtHub, PostFollows}
use Rattle.mp_worker_refinement.specs.State.{WorkerState}
use Rattle.mp_worker_refinement.specs.Steps.{StepsAlone, StepsByMail}
use Rattle.mp_worker_refinement.proofs.Alone.{alone_by_mail, post_kept, post_same}
use Rattle.mp_worker_steps.specs.Writing.{Writes}
use Rattle.mp_turns.specs.declared.turn.Stop.{Stop}
use Rattle.mp_turns.specs.declared.turn.Stop.TheVariants as stop
use Rattle.mp_turns.specs.declared.turn.Turn.{Turn}
use Rattle.mp_turns.specs.declared.turn.Turn.TheVariants as turn
use Rattle.mp_worker.specs.Exchanging.{Exchanges}
use Rattle.mp_worker.specs.Stepping.{StepsAtHub, StepsAtPost, StepsAtSink}
use Rattle.mp_turns.specs.Stops.{stop_of_write}
use Rattle.mp_worker.specs.Turns.{Answers}
use Rattle.mp_worker.proofs.Lifted.{same_sink}
use Rattle.mp_worker.proofs.Turned.{answers, answers_exchange, answers_no_memory, answers_refused, refused_in_turn, same_log_after, stays_at_hub, writes_in_turn}

pub apart : (kind : Kind) → kind ≡ Exchange → kind ≡ Write → ⊥
apart kind exchange write = differ (sym exchange ∙ write)
  where
    differ : Exchange ≡ Write → ⊥
    differ e = cc

-- the answer of a step with these names, or none
abbrev pub IsTurnOf : Option Names → Turn → Type 0
IsTurnOf names given = IfSome names (λ told. given ≡ turn.Did told.first told.count) × IfNone names (given ≡ turn.NotNow)

-- At the post

module _ {P : Type 0} (workers depth : P → ℕ) (serves : P → ℕ → Type 0) (denotes : P → Standing) (waits : P → Waiting) (had_room was_full was_empty : P → ℕ → ℕ → Type 0) (o : Outline) (kind : Kind) (s now : WorkerState) where
  abbrev AtPost : (old new : P) → Result Turn Stop → Type 0
  AtPost = StepsAtPost workers depth serves denotes waits had_room was_full was_empty o kind s now

  module _ {H : Type 0} (after : H → ℕ → Log → H → Type 0) (kept : H → H → Type 0) (shows : H → Seen → Type 0) (goes_on : H → Type 0) (was_stopped : H → Cause → Type 0) (was_busy : H → Type 0) (hub next : H) where
    pub exchange_at_post : kind ≡ Exchange → (post : P) (r : Result Turn Stop) → Exchanges after kept shows goes_on was_stopped was_busy s now hub next r → AtPost post post r
    exchange_at_post is post r says =
        let same = same_log_after (had_room post) (was_full post) (was_empty post) o kind s now after kept shows goes_on was_stopped was_busy hub next r says in
        record {
          answers = answers_exchange (had_room post) (was_full post) (was_empty post) o kind s now after kept shows goes_on was_stopped was_busy hub next is r says;
          mail = post_same workers depth serves denotes waits o s.number s.log now.log post (ap (λ (l : Log). l.sent) same) (ap (λ (l : Log). l.took) same);
        }

  pub write_at_post : kind ≡ Write → (post : P) (names : Option Names) (given : Turn) → IsTurnOf names given → StepsAlone {E = Unit {0}} o Write s now (Ok names) → AtPost post post (Ok given)
  write_at_post is post names given tells made =
      let by_mail : StepsByMail (had_room post) (was_full post) (was_empty post) o kind s now {E = Unit {0}} (Ok names) =
      subst (λ (k : Kind). StepsByMail (had_room post) (was_full post) (was_empty post) o k s now {E = Unit {0}} (Ok names)) (sym is)
      (alone_by_mail (had_room post) (was_full post) (was_empty post) o {E = Unit {0}} Write (λ w x. tt) s now (Ok names) made) in
      record {
        answers = answers (had_room post) (was_full post) (was_empty post) o kind s now (Unit {0}) names given tells.0 tells.1 by_mail;
        mail = post_kept workers depth serves denotes waits o {E = Unit {0}} Write (λ log x. (refl, refl)) s now post (Ok names) made;
      }

  pub refused_at_post : kind ≡ Write → (post : P) (e : OutRefused) (r : Result Turn Stop) → IsErrAnd r (λ t. t ≡ stop_of_write e) → now ≡ s → AtPost post post r
  refused_at_post is post e r why same = record {
    answers = answers_refused (had_room post) (was_full post) (was_empty post) o kind s now e r why is same;
    mail = post_same workers depth serves denotes waits o s.number s.log now.log post (ap (λ (n : WorkerState). n.log.sent) same) (ap (λ (n : WorkerState). n.log.took) same);
  }

  pub mail_at_post : (old new : P) (names : Option Names) (given : Turn) → IsTurnOf names given → StepsByMail (had_room old) (was_full old) (was_empty old) o kind s now {E = Unit {0}} (Ok names) → PostFollows workers depth serves denotes waits o s.number s.log now.log old new
      → AtPost old new (Ok given)
  mail_at_post old new names given tells made mail = record { answers = answers (had_room old) (was_full old) (was_empty old) o kind s now (Unit {0}) names given tells.0 tells.1 made; mail = mail }

  pub no_mail_at_post : (old new : P) (r : Result Turn Stop) → IsErrAnd r (λ t. t ≡ stop.Memory) → now ≡ s → PostFollows workers depth serves denotes waits o s.number s.log now.log old new → AtPost old new r
  no_mail_at_post old new r why same mail = record { answers = answers_no_memory (had_room old) (was_full old) (was_empty old) o kind s now r why same; mail = mail }

-- At the hub

module _ {H : Type 0} (serves : H → ℕ → Type 0) (posted : H → ℕ → Log) (version : H → ℕ) (after : H → ℕ → Log → H → Type 0) (kept : H → H → Type 0) (shows : H → Seen → Type 0) (goes_on : H → Type 0) (was_stopped : H → Cause → Type 0) (was_busy : H → Type 0) (kind : Kind) (s now : WorkerState) where
  abbrev AtHub : (old new : H) → Result Turn Stop → Type 0
  AtHub = StepsAtHub serves posted version after kept shows goes_on was_stopped was_busy kind s now

  pub exchange_at_hub : kind ≡ Exchange → (old new : H) (r : Result Turn Stop) → Exchanges after kept shows goes_on was_stopped was_busy s now old new r → IsAtHub serves posted version now new → ((w : ℕ) → serves old w → serves new w) → AtHub old new r
  exchange_at_hub is old new r says at still = record { exchanges = λ _. says; others_post_nothing = λ other. absurd (other is); at_hub = at; still_serves = still }

  -- a step of another kind leaves the hub, and the worker there
  pub others_at_hub : (o : Outline) → kind ≢ Exchange → (hub : H) (r : Result Turn Stop) (had_room was_full was_empty : ℕ → ℕ → Type 0) → IsAtHub serves posted version s hub → Answers had_room was_full was_empty o kind s now r → AtHub hub hub r
  others_at_hub o other hub r f g h at says = record {
    exchanges = λ is. absurd (other is);
    others_post_nothing = λ _. refl;
    at_hub = still_at r says;
    still_serves = λ w serves. serves;
  }
    where
      same_at : now ≡ s → IsAtHub serves posted version now hub
      same_at same = subst (λ (n : WorkerState). IsAtHub serves posted version n hub) (sym same) at

      still_at : (r : Result Turn Stop) → Answers f g h o kind s now r → IsAtHub serves posted version now hub
      still_at (Ok (turn.Did x n)) a = stays_at_hub f g h o kind s now serves posted version hub at {E = Unit {0}} (Ok (Some (record { first = x; count = n }))) a
      still_at (Ok (turn.Seen seen)) a = absurd (other a.0)
      still_at (Ok turn.NotNow) a = same_at a.1
      still_at (Ok turn.Busy) a = same_at a.1
      still_at (Err stop.Write) a = same_at a.1
      still_at (Err stop.Memory) a = same_at a
      still_at (Err (stop.Other cause)) a = same_at a.1

-- In the sink

module _ {Cell S : Type 0} (q : QueryFacts Cell) (job : JobFacts) (written : S → Option (List ℕ)) (frame : S → Beside) (faults : S → ℕ) (kind : Kind) (s : WorkerState) where
  abbrev AtSink : (old new : S) → Result Turn Stop → Type 0
  AtSink = StepsAtSink q job written frame faults kind s

  pub others_in_sink : kind ≢ Write → (sink : S) (r : Result Turn Stop) → AtSink sink sink r
  others_in_sink other sink r = record { writes = λ is. absurd (other is); others_write_nothing = λ _. refl; appends_only = same_sink q job written frame faults kind sink }

  pub exchange_in_sink : kind ≡ Exchange → (sink : S) (r : Result Turn Stop) → AtSink sink sink r
  exchange_in_sink is = others_in_sink (apart kind is)

  pub write_in_sink : kind ≡ Write → (old new : S) (names : Option Names) (given : Turn) → IsTurnOf names given → Writes q job written faults s old new (Ok names) → OnlyAppends frame faults old new → AtSink old new (Ok given)
  write_in_sink is old new names given tells writes appends =
      record { writes = λ _. writes_in_turn q job written faults s old new names given tells.0 tells.1 writes; others_write_nothing = λ other. absurd (other is); appends_only = appends }

  pub refused_in_sink : kind ≡ Write → (old new : S) (e : OutRefused) (r : Result Turn Stop) → IsErrAnd r (λ t. t ≡ stop_of_write e) → Writes q job written faults s old new (Err e) → OnlyAppends frame faults old new → AtSink old new r
  refused_in_sink is old new e r why writes appends =
      record { writes = λ _. refused_in_turn q job written faults s old new e r why writes; others_write_nothing = λ other. absurd (other is); appends_only = appends }
