use Rattle.std.proofs.Common.{◌≡◌, ◌<◌, ◌+◌, ◌*◌, ◌%◌, ◌∙◌, ◌∷◌, ◌++◌, [], ℕ, true, length, refl, sym, arith, subst, Err, Some, ap, slice_get}
use Rattle.std.proofs.Math.Nat.{mod-lt}
use Rattle.std.proofs.lemmas.Result.{err_from_is_err_and}
use Rattle.mp_names.specs.declared.controls.Shape.{Shape}
use Rattle.mp_names.specs.declared.kinds.Kind.{Kind}
use Rattle.mp_model.specs.Tables.{table_of}
use Rattle.mp_outline.specs.JobOutline.{outline_of}
use Rattle.mp_machine.specs.Places.{kinds_of, places}
use Rattle.mp_machine.specs.Runs.{Turn, is_made, made_count}
use Rattle.mp_plain.specs.Driven.{AreReached, Driven, LeadsOn, lines_of, turn_in}
use Rattle.mp_plain.specs.Places.{IsPlaceIn, kind_count, place_number}
use Rattle.mp_schedule.specs.Refused.{RefusesPick}
use Rattle.mp_plain.proofs.Leading.{leads_further, leads_nowhere, still_there, turn_is}
use Rattle.mp_plain.proofs.Leaving.{HaveLeft, left_all, left_more, left_none, left_stopped, step_stops}
use Rattle.mp_plain.proofs.Made.{one_made}
use Rattle.mp_plain.proofs.Numbered.{as_many, first_of_round, goes_round, kind_fits, kind_within, some_places, stands}
use Rattle.mp_schedule.proofs.Picked.{picks}
use Rattle.mp_plain.proofs.Refusing.{handed_on}
use Rattle.mp_schedule.proofs.Refusing.{refuses_draw, write_tried}
use Rattle.mp_schedule.proofs.Tried.{ComesNext, all_know, at_ahead, idle_turn, made_turn, none_in_row, none_more}
use Rattle.mp_schedule.proofs.seed.step_from.Given as given
use Rattle.mp_schedule.proofs.seed.step_from.Goals as goal
use Rattle.mp_schedule.proofs.seed.step_from.Goals.{After-count_of_places-places, After-kind_at-kind, After-pass_empty-empty, After-shape-shape, in-Did, in_default}

shape_is : (g : given.Over) (c : After-shape-shape g) → c.shape-shape.result ≡ g.J.Naming.job.shape
shape_is g c = c.shape-shape.ensures.shape

count_is : (g : given.Over) (c : After-count_of_places-places g) → c.count_of_places-places.result ≡ length (places (outline_of (table_of g.Q.Query.facts g.J.Naming.job) g.J.Naming.job))
count_is g c =
    let shape = shape_is g c.before in
    c.count_of_places-places.ensures.count (outline_of (table_of g.Q.Query.facts g.J.Naming.job) g.J.Naming.job) (ap (λ (s : Shape). s.workers) (sym shape)) (ap (λ (s : Shape). s.stages) (sym shape))

some : (g : given.Over) (c : After-count_of_places-places g) → 0 < length (places (outline_of (table_of g.Q.Query.facts g.J.Naming.job) g.J.Naming.job))
some g c = some_places (outline_of (table_of g.Q.Query.facts g.J.Naming.job) g.J.Naming.job) c.shape-shape.ensures.sound.some_worker

pub nonzero_rem-draw : goal.nonzero_rem-draw
nonzero_rem-draw g c =
    let at = (goal.at.nonzero_rem-draw g c).After-count_of_places-places in
    omega (arith, count_is g at, some g at)

pub place_at-place-requires : goal.place_at-place-requires
place_at-place-requires g c =
    let at = (goal.at.place_at-place-requires g c).After-count_of_places-places in
    let some : 0 < c.count_of_places-places.result = omega (arith, count_is g at, some g at) in
    omega (arith, mod-lt c.args.draw some, c.count_of_places-places.ensures.product)

pub loop-tried-init : goal.loop-tried-init
loop-tried-init g c =
    let job = g.J.Naming.job in
    let o = outline_of (table_of g.Q.Query.facts job) job in
    let at = (goal.at.loop-tried-init g c).After-count_of_places-places in
    let place = c.place_at-place.result in
    let shape = shape_is g at.before in
    let number : place_number job.shape place ≡ c.args.draw % c.count_of_places-places.result = subst (λ (s : Shape). place_number s place ≡ c.args.draw % c.count_of_places-places.result) shape c.place_at-place.ensures.number in
    record {
      still = still_there o c.args.plain.now.state;
      made = refl;
      place = subst (λ (s : Shape). IsPlaceIn s place) shape c.place_at-place.ensures.place;
      at = first_of_round c.args.draw (place_number job.shape place) (length (places o)) (some g at) (subst (λ (n : ℕ). place_number job.shape place ≡ c.args.draw % n) (count_is g at) number);
      none = λ k l. absurd (omega arith);
      left = left_none (table_of g.Q.Query.facts job) job g.S.Sink.written g.S.Sink.faults g.S.Sink.frame c.args.plain.now.state c.args.sink.now;
    }

-- the kind that is tried
kind_is : (g : given.Over) (c : After-kind_at-kind g) → slice_get (kinds_of (outline_of (table_of g.Q.Query.facts g.J.Naming.job) g.J.Naming.job)) c.loop-tried.place.kind ≡ Some c.kind_at-kind.result
kind_is g c =
    let job = g.J.Naming.job in
    let o = outline_of (table_of g.Q.Query.facts job) job in
    let shape : c.shape-shape.result ≡ job.shape = c.shape-shape.ensures.shape in
    c.kind_at-kind.ensures o (ap (λ (s : Shape). s.workers) (sym shape)) (ap (λ (s : Shape). s.stages) (sym shape)) (kind_within o job.shape c.loop-tried.place refl refl c.loop-tried.invariant.place)

-- and its place
comes_next : (g : given.Over) (c : After-kind_at-kind g) → ComesNext (outline_of (table_of g.Q.Query.facts g.J.Naming.job) g.J.Naming.job) c.args.plain.now.state c.args.draw c.loop-tried.tried (c.loop-tried.place.worker, c.kind_at-kind.result)
comes_next g c =
    let job = g.J.Naming.job in
    let o = outline_of (table_of g.Q.Query.facts job) job in
    let shape : c.shape-shape.result ≡ job.shape = c.shape-shape.ensures.shape in
    let count = c.count_of_places-places.ensures.count o (ap (λ (s : Shape). s.workers) (sym shape)) (ap (λ (s : Shape). s.stages) (sym shape)) in
    let here = c.loop-tried.invariant in
    let place = c.loop-tried.place in
    record {
      some = some_places o c.shape-shape.ensures.sound.some_worker;
      below = omega (arith, count, c.loop-tried-test.true);
      none = here.none;
      is = subst (λ (i : ℕ). slice_get (places o) i ≡ Some (place.worker, c.kind_at-kind.result)) here.at (stands o job.shape place c.kind_at-kind.result refl refl here.place (kind_is g c));
    }

pub try_step-requires-clause-place : goal.try_step-requires-clause-place
try_step-requires-clause-place g c κs within =
    let o = outline_of (table_of g.Q.Query.facts g.J.Naming.job) g.J.Naming.job in
    (c.loop-tried.invariant.place.worker, kind_fits o c.kind_at-kind.result c.loop-tried.place.kind (kind_is g (goal.at.try_step-requires-clause-place g c).After-kind_at-kind))

pub place_after-place-requires : goal.place_after-place-requires
place_after-place-requires g c =
    let shape : c.shape-shape.result ≡ g.J.Naming.job.shape = c.shape-shape.ensures.shape in
    subst (λ (s : Shape). IsPlaceIn s c.loop-tried.place) (sym shape) c.loop-tried.invariant.place

-- looks into mailboxes change nothing

still_here : (g : given.Over) (c : After-pass_empty-empty g) → LeadsOn (outline_of (table_of g.Q.Query.facts g.J.Naming.job) g.J.Naming.job) [] [] c.args.plain.now.state c.pass_empty-empty.new.self.state
still_here g c =
    let o = outline_of (table_of g.Q.Query.facts g.J.Naming.job) g.J.Naming.job in
    subst (λ (u : Driven). LeadsOn o [] [] c.args.plain.now.state u.state) (sym c.pass_empty-empty.ensures.same) c.loop-tried.invariant.still

made_here : (g : given.Over) (c : After-pass_empty-empty g) → c.pass_empty-empty.new.self.made ≡ c.args.plain.now.made
made_here g c = ap (λ (u : Driven). u.made) c.pass_empty-empty.ensures.same ∙ c.loop-tried.invariant.made

left_here : (g : given.Over) (c : After-pass_empty-empty g) → let job = g.J.Naming.job in let s = g.S.Sink in
    HaveLeft (table_of g.Q.Query.facts job) job s.written s.faults s.frame c.args.plain.now.state c.pass_empty-empty.new.self.state c.args.sink.now c.loop-tried.sink
left_here g c =
    let job = g.J.Naming.job in
    let s = g.S.Sink in
    subst (λ (u : Driven). HaveLeft (table_of g.Q.Query.facts job) job s.written s.faults s.frame c.args.plain.now.state u.state c.args.sink.now c.loop-tried.sink) (sym c.pass_empty-empty.ensures.same) c.loop-tried.invariant.left

pub returns-in_err-turn-clause-refused : goal.returns-in_err-turn-clause-refused
returns-in_err-turn-clause-refused g c =
    let job = g.J.Naming.job in
    let q = table_of g.Q.Query.facts job in
    let o = outline_of q job in
    let place : ℕ × Kind = (c.loop-tried.place.worker, c.kind_at-kind.result) in
    let e = c.in_err-turn.ensures in
    let why = c.in_err-turn.field-0.0 in
    let had = g.S.Sink.written c.args.sink.now in
    let has = g.S.Sink.written c.try_step.new.sink in
    let at = goal.at.returns-in_err-turn-clause-refused g c in
    let same = e.makes.counted in
    let before = made_here g at.After-pass_empty-empty in
    let next = comes_next g at.After-kind_at-kind in
    let p = err_from_is_err_and c.from_residual.result c.from_residual.ensures.1 in
    handed_on (λ why. RefusesPick q job c.args.draw why c.args.plain.now c.try_step.new.self had has) c.from_residual.result why p.0 p.1 p.2
    (record {
      still = leads_further o [] [] [] [] c.args.plain.now.state c.pass_empty-empty.new.self.state c.try_step.new.self.state (still_here g at.After-pass_empty-empty) e.makes.unchanged;
      counted = omega arith;
      refused = refuses_draw q job c.args.draw place.1 why c.args.plain.now.state c.try_step.new.self.state had has (write_tried o c.args.plain.now.state c.args.draw c.loop-tried.tried place next)
          (λ f. (e.leaves.failed (ap Err f)).0)
          (λ before h. e.leaves.part before ((left_here g at.After-pass_empty-empty).lines before h));
    })

pub returns-in_err-turn-clause-leaves : goal.returns-in_err-turn-clause-leaves
returns-in_err-turn-clause-leaves g c =
    let job = g.J.Naming.job in
    let q = table_of g.Q.Query.facts job in
    let s = g.S.Sink in
    let p = err_from_is_err_and c.from_residual.result c.from_residual.ensures.1 in
    let e = c.in_err-turn.ensures in
    let mid = c.pass_empty-empty.new.self.state in
    let new = c.try_step.new.self.state in
    let here_at = (goal.at.returns-in_err-turn-clause-leaves g c).After-pass_empty-empty in
    let reached = c.shape-shape.ensures.reached in
    let here : AreReached (outline_of q job) new = ((reached.0 ++ []) ++ [], e.makes.unchanged.state_is (reached.0 ++ []) ((still_here g here_at).state_is reached.0 reached.1)) in
    left_stopped q job s.written s.faults s.frame c.from_residual.result c.in_err-turn.field-0.0 p.0 (lines_of q job.events new) [] c.args.plain.now.state mid c.args.sink.now c.loop-tried.sink c.try_step.new.sink p.1 p.2 (left_here g here_at)
    (step_stops q job s.written s.faults s.frame c.kind_at-kind.result c.in_err-turn.field-0.0 [] mid new c.loop-tried.sink c.try_step.new.sink c.shape-shape.ensures.sound here e.leaves)

pub returns-then-matches-clause-makes : goal.returns-then-matches-clause-makes
returns-then-matches-clause-makes g c =
    let o = outline_of (table_of g.Q.Query.facts g.J.Naming.job) g.J.Naming.job in
    let t = c.args.plain.now.state in
    let place : ℕ × Kind = (c.loop-tried.place.worker, c.kind_at-kind.result) in
    let at = goal.at.returns-then-matches-clause-makes g c in
    let next = comes_next g at.After-kind_at-kind in
    let turn = turn_in c.in_ok-turn.turn in
    let step = c.in_ok-turn.ensures.makes in
    let lead = leads_further o [] (place ∷ []) [] (turn ∷ []) t c.pass_empty-empty.new.self.state c.try_step.new.self.state (still_here g at.After-pass_empty-empty) step.turn in
    let made : is_made turn ≡ true = elim c.match-matches.branch [ in-Did w ↦ made_turn c.in_ok-turn.turn w.in-Did.is | in_default w ↦ absurd (cc) ] in
    record {
      step = place;
      turn = turn;
      picked = λ before are. picks o t c.args.draw c.loop-tried.tried place next before are turn (turn_is o place turn t c.try_step.new.self.state lead before are) made;
      lead = lead;
      made = made;
      counted =
          let one = one_made turn made in
          let grown = step.counted in
          let before = made_here g at.After-pass_empty-empty in
          omega arith;
    }

pub returns-then-matches-clause-leaves : goal.returns-then-matches-clause-leaves
returns-then-matches-clause-leaves g c =
    let job = g.J.Naming.job in
    let q = table_of g.Q.Query.facts job in
    let s = g.S.Sink in
    let here_at = (goal.at.returns-then-matches-clause-leaves g c).After-pass_empty-empty in
    let left = left_more q job s.written s.faults s.frame c.kind_at-kind.result c.in_ok-turn.turn c.args.plain.now.state c.pass_empty-empty.new.self.state c.try_step.new.self.state c.args.sink.now c.loop-tried.sink c.try_step.new.sink (left_here g here_at) c.in_ok-turn.ensures.leaves in
    left_all q job s.written s.faults s.frame _ _ c.args.plain.now.state c.try_step.new.self.state c.args.sink.now c.try_step.new.sink left refl

pub loop-tried-preserved-then-empty-gt0 : goal.loop-tried-preserved-then-empty-gt0
loop-tried-preserved-then-empty-gt0 g c =
    let job = g.J.Naming.job in
    let o = outline_of (table_of g.Q.Query.facts job) job in
    let t = c.args.plain.now.state in
    let here_at = (goal.at.loop-tried-preserved-then-empty-gt0 g c).After-pass_empty-empty in
    let shape : c.shape-shape.result ≡ job.shape = c.shape-shape.ensures.shape in
    let was = c.loop-tried.invariant in
    let place = c.loop-tried.place in
    let empty = c.pass_empty-empty.result in
    let tried = c.loop-tried.tried in
    let mid = c.loop-tried.plain.state in
    let inside : place.kind + empty < kind_count job.shape = subst (λ (s : Shape). place.kind + empty < kind_count s) shape c.pass_empty-empty.ensures.inside in
    record {
      still = still_here g here_at;
      made = made_here g here_at;
      place = record { worker = was.place.worker; kind = inside };
      at = at_ahead o t c.args.draw tried empty job.shape place mid refl refl was.place inside was.at empty (omega arith);
      none = none_in_row o t c.args.draw tried empty job.shape place mid refl refl was.place inside was.at was.none was.still c.pass_empty-empty.ensures.none;
      left = left_here g here_at;
    }

pub loop-tried-preserved : goal.loop-tried-preserved
loop-tried-preserved g c =
    elim c.match-matches.branch [
      | in-Did w ↦ absurd (cc)
      | in_default w ↦
          let job = g.J.Naming.job in
          let o = outline_of (table_of g.Q.Query.facts job) job in
          let n = length (places o) in
          let next = comes_next g (goal.at.loop-tried-preserved g c).After-kind_at-kind in
          let shape : c.shape-shape.result ≡ job.shape = c.shape-shape.ensures.shape in
          let here = c.loop-tried.place in
          let behind = c.place_after-place.result in
          let number : place_number job.shape behind ≡ (place_number job.shape here + 1) % (job.shape.workers * kind_count job.shape) =
          subst (λ (s : Shape). place_number s behind ≡ (place_number s here + 1) % (s.workers * kind_count s)) shape c.place_after-place.ensures.number in
          let idle = idle_turn c.in_ok-turn.turn w.in_default.not-Did w.in_default.not-Seen in
          let place : ℕ × Kind = (here.worker, c.kind_at-kind.result) in
          let mid = c.pass_empty-empty.new.self.state in
          let here_at = (goal.at.loop-tried-preserved g c).After-pass_empty-empty in
          let still = still_here g here_at in
          let new = c.try_step.new.self.state in
          let lead = subst (λ (t : Turn). LeadsOn o (place ∷ []) (t ∷ []) mid new) idle c.in_ok-turn.ensures.makes.turn in
          let was = c.loop-tried.invariant in
          record {
            made =
                let none : made_count (turn_in c.in_ok-turn.turn ∷ []) ≡ 0 = subst (λ (t : Turn). made_count (t ∷ []) ≡ 0) (sym idle) refl in
                let grown = c.in_ok-turn.ensures.makes.counted in
                let before = made_here g here_at in
                omega arith;
            still = leads_further o [] [] [] [] c.args.plain.now.state mid new still (leads_nowhere o place mid new lead);
            place = subst (λ (s : Shape). IsPlaceIn s behind) shape c.place_after-place.ensures.place;
            at = goes_round (c.args.draw % n) c.loop-tried.tried (place_number job.shape behind) (place_number job.shape here) n was.at (subst (λ (m : ℕ). place_number job.shape behind ≡ (place_number job.shape here + 1) % m) (sym (as_many o job.shape refl refl)) number);
            none = none_more o c.args.plain.now.state c.args.draw c.loop-tried.tried place mid new next still lead;
            left = left_more (table_of g.Q.Query.facts job) job g.S.Sink.written g.S.Sink.faults g.S.Sink.frame c.kind_at-kind.result c.in_ok-turn.turn c.args.plain.now.state mid new c.args.sink.now c.loop-tried.sink c.try_step.new.sink (left_here g here_at) c.in_ok-turn.ensures.leaves;
          }
    ]

pub unreachable-requires : goal.unreachable-requires
unreachable-requires g c =
    let o = outline_of (table_of g.Q.Query.facts g.J.Naming.job) g.J.Naming.job in
    let at = (goal.at.unreachable-requires g c).After-count_of_places-places in
    let count = count_is g at in
    let reached = c.shape-shape.ensures.reached in
    let none = λ (k : ℕ) (l : k < length (places o)). c.loop-tried.invariant.none k (omega arith) in
    c.requires.unfinished (all_know o c.args.plain.now.state c.shape-shape.ensures.sound c.requires.depth reached (c.args.draw % length (places o)) (mod-lt c.args.draw (some g at)) none)
