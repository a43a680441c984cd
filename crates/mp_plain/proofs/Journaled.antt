-- What workers keep of steps: of one step, of steps behind others, and of none.
use Rattle.std.proofs.Common.{◌≡◌, ℕ, zero, suc, ◌<◌, ◌==◌, All, cond, Bool, true, false, List, [], ◌∷◌, ◌++◌, None, Some, Option, Ok, length, map, refl, sym, ap, ◌∙◌, subst, ⊎_elim, append-nil, append_assoc, arith}
use Rattle.std.specs.Prelude.{IsSome, slice_get, slice_set, unwrap_or}
use Rattle.std.specs.Option.{option_map_or}
use Rattle.std.proofs.lemmas.List.Elements.{All-head, All-tail}
use Rattle.std.proofs.lemmas.Bool.{false≢true, cases_eq, cond-false, cond-true, eq-eqb, ne_eqb}
use Rattle.mp_names.specs.declared.kinds.Kept.{Kept}
use Rattle.mp_names.specs.declared.kinds.Kind.{Kind}
use Rattle.mp_names.specs.declared.names.Name.{Name}
use Rattle.mp_names.specs.Outlines.{Outline}
use Rattle.mp_mailbox.specs.Queues.{Queues}
use Rattle.mp_machine.specs.Worlds.{start_of_machine}
use Rattle.mp_machine.specs.Runs.{run_of_machine}
use Rattle.mp_board.specs.Boards.{Posted}
use Rattle.mp_journal_laws.specs.Kept.{kept_at, kept_of}
use Rattle.mp_journal_laws.proofs.Keeping.{kept_more}
use Rattle.mp_worker_refinement.specs.State.{WorkerState}
use Rattle.mp_worker_refinement.specs.SystemState.{SystemState}
use Rattle.mp_worker.specs.Below.{Turn as Answered}
use Rattle.mp_worker.specs.Below.turn as worker
use Rattle.mp_worker.specs.Below.{no_steps, steps_after}
use Rattle.mp_plain.specs.Driven.{AreReachedBy, IsJournalOf, turn_in}
use Rattle.mp_plain.specs.Journals.{HaveKept, journal_at, with_more}

pub more_none : (j : Option (List Kept)) → j ≡ with_more j []
more_none None = refl
more_none (Some kept) = ap Some (sym (append-nil kept))

pub more_twice : (j : Option (List Kept)) (a b : List Kept) → with_more (with_more j a) b ≡ with_more j (a ++ b)
more_twice None a b = refl
more_twice (Some kept) a b = ap Some (append_assoc kept a b)

-- what a worker keeps by its answer is what is kept by the machine's turn
pub more_by : (steps : Option (List Kept)) (kind : Kind) (turn : Answered) → steps_after steps kind (Ok turn) ≡ with_more steps (kept_at kind (turn_in turn))
more_by None kind (worker.Did x n) = refl
more_by (Some steps) kind (worker.Did x n) = refl
more_by None kind (worker.Seen version) = refl
more_by (Some steps) kind (worker.Seen version) = refl
more_by steps kind worker.NotNow = more_none steps
more_by steps kind worker.Busy = more_none steps

-- Lists with another element at one place

set_here : {X : Type 0} (xs : List X) (w : ℕ) (x y : X) → slice_get xs w ≡ Some x → slice_get (slice_set xs w y) w ≡ Some y
set_here [] w x y e = absurd (cc)
set_here (z ∷ xs) zero x y e = refl
set_here (z ∷ xs) (suc w) x y e = set_here xs w x y e

set_other : {X : Type 0} (xs : List X) (w v : ℕ) (y : X) → (w ≡ v → ⊥) → slice_get (slice_set xs w y) v ≡ slice_get xs v
set_other [] w v y n = refl
set_other (z ∷ xs) zero zero y n = absurd (n refl)
set_other (z ∷ xs) zero (suc v) y n = refl
set_other (z ∷ xs) (suc w) zero y n = refl
set_other (z ∷ xs) (suc w) (suc v) y n = set_other xs w v y (λ e. n (ap suc e))

-- what stands in a list of values is the value of what stands there
pub at_mapped : {X Y : Type 0} (f : X → Y) (xs : List X) (i : ℕ) (y : Y) → slice_get (map f xs) i ≡ Some y → (x : X) × (slice_get xs i ≡ Some x) × (y ≡ f x)
at_mapped f [] i y e = absurd (cc)
at_mapped f (x ∷ xs) zero y e = let same : f x ≡ y = cc in (x, refl, sym same)
at_mapped f (x ∷ xs) (suc i) y e = at_mapped f xs i y e

abbrev pub steps_at : Option WorkerState → Option (List Kept)
steps_at s = option_map_or (λ (s : WorkerState). s.steps) s None

-- where one worker has kept more, its journal has more, and every other is as it was
pub one_keeps : (t : SystemState) (w : ℕ) (s new : WorkerState) (board : Posted) (post : Queues (List Name)) (more : List Kept) → slice_get t.workers w ≡ Some s → new.steps ≡ with_more s.steps more
    → (v : ℕ) → journal_at (record { workers = slice_set t.workers w new; board = board; post = post }) v ≡ with_more (journal_at t v) (cond (w == v) more [])
one_keeps t w s new board post more was grown v =
    ⊎_elim
    (λ (e : w ≡ v).
    let here : steps_at (slice_get (slice_set t.workers w new) w) ≡ with_more (steps_at (slice_get t.workers w)) more = ap steps_at (set_here t.workers w s new was) ∙ grown ∙ sym (ap (λ (r : Option WorkerState). with_more (steps_at r) more) was) in
    subst (λ (u : ℕ). steps_at (slice_get (slice_set t.workers w new) u) ≡ with_more (steps_at (slice_get t.workers u)) more) e here
    ∙ ap (with_more (journal_at t v)) (sym (cond-true (w == v) more [] (eq-eqb w v e))))
    (λ (n : w ≡ v → ⊥).
    ap steps_at (set_other t.workers w v new n)
    ∙ more_none (journal_at t v)
    ∙ ap (with_more (journal_at t v)) (sym (cond-false (w == v) more [] (ne_eqb w v n))))
    (cases_eq w v)

-- what was kept before and what is kept then is what is kept in all
grown_to : (j : Option (List Kept)) (was more kept : List Kept) → ((k : List Kept) → j ≡ Some k → k ≡ was) → Some kept ≡ with_more j more → kept ≡ was ++ more
grown_to None was more kept had e = absurd (cc)
grown_to (Some k) was more kept had e =
    let same : kept ≡ k ++ more = cc in
    same ∙ ap (λ (l : List Kept). l ++ more) (had k refl)

module _ (o : Outline) where
  pub kept_further : (before steps : List (ℕ × Kind)) (old new : SystemState) → new.post.depth ≡ old.post.depth → HaveKept o before old
      → ((w : ℕ) → journal_at new w ≡ with_more (journal_at old w) (kept_of o old.post.depth (run_of_machine o old.post.depth before) steps w)) → HaveKept o (before ++ steps) new
  kept_further before steps old new level had grown w kept is =
      let d = old.post.depth in
      let start = start_of_machine o in
      let here : kept ≡ kept_of o d start (before ++ steps) w =
      grown_to (journal_at old w) (kept_of o d start before w) (kept_of o d (run_of_machine o d before) steps w) kept (had w) (sym is ∙ grown w) ∙ sym (kept_more o d start before steps w) in
      subst (λ (n : ℕ). kept ≡ kept_of o n start (before ++ steps) w) (sym level) here

-- Workers that have made no step

-- what such a worker has kept is nothing
nothing : (keeps : Bool) (steps : Option (List Kept)) (kept : List Kept) → steps ≡ no_steps keeps → steps ≡ Some kept → kept ≡ []
nothing true steps kept none is = let e : Some kept ≡ Some [] = sym is ∙ none in cc
nothing false steps kept none is = let e : Some kept ≡ None = sym is ∙ none in absurd (cc)

pub nothing_kept : (keeps : Bool) (workers : List WorkerState) → All (λ (s : WorkerState). s.steps ≡ no_steps keeps) workers → (w : ℕ) (kept : List Kept) → steps_at (slice_get workers w) ≡ Some kept → kept ≡ []
nothing_kept keeps [] all w kept is = absurd (cc)
nothing_kept keeps (s ∷ workers) all zero kept is = nothing keeps s.steps kept (All-head (λ (s : WorkerState). s.steps ≡ no_steps keeps) s workers all) is
nothing_kept keeps (s ∷ workers) all (suc w) kept is = nothing_kept keeps workers (All-tail (λ (s : WorkerState). s.steps ≡ no_steps keeps) s workers all) w kept is

-- the journal of one of them
pub journals_begin : (keeps : Bool) (workers : List WorkerState) → All (λ (s : WorkerState). s.steps ≡ no_steps keeps) workers → (w : ℕ) → w < length workers → steps_at (slice_get workers w) ≡ no_steps keeps
journals_begin keeps [] all w l = absurd (omega arith)
journals_begin keeps (s ∷ workers) all zero l = All-head (λ (s : WorkerState). s.steps ≡ no_steps keeps) s workers all
journals_begin keeps (s ∷ workers) all (suc w) l = journals_begin keeps workers (All-tail (λ (s : WorkerState). s.steps ≡ no_steps keeps) s workers all) w (omega arith)

-- the journal of a worker is told by its list
some_kept : (j : Option (List Kept)) → IsSome j → j ≡ Some (unwrap_or j [])
some_kept None some = absurd (false≢true some)
some_kept (Some kept) some = refl

pub is_journal : (o : Outline) (t : SystemState) (n : ℕ) → AreReachedBy o t n → (w : ℕ) (kept : List Kept) → kept ≡ unwrap_or (journal_at t w) [] → IsSome (journal_at t w) → IsJournalOf o t w kept
is_journal o t n by w kept is some = (by.0, by.1, is ∙ by.3 w (unwrap_or (journal_at t w) []) (some_kept (journal_at t w) some))
