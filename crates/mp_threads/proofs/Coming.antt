-- The workers of a crew, as they begin and as they come back.
use Rattle.std.proofs.Common.{◌≡◌, ℕ, List, [], ◌∷◌, Some, Ok, Err, All, ap, refl, sym, ◌∙◌, subst}
use Rattle.std.specs.Prelude.{IfOk, map, slice_get}
use Rattle.std.specs.declared.result.Result.{Result}
use Rattle.mp_names.specs.Logs.{empty_log}
use Rattle.mp_names.specs.Outlines.{Outline}
use Rattle.mp_worker_refinement.specs.State.{WorkerState}
use Rattle.mp_threads_member.specs.Driving.{IsFinished}
use Rattle.mp_threads_member.specs.Members.{HasDoneNothing, MemberState}
use Rattle.mp_threads_crew.specs.Crews.{AreByNumber, AreFinished}
use Rattle.mp_threads_place.specs.Places.{mark_of}
use Rattle.mp_threads.specs.Runs.{ComeBack}
use Rattle.mp_threads_place.specs.declared.back.Marked.{Marked}
use Rattle.mp_threads_crew.proofs.Lists.{all_at}
use Rattle.mp_threads.proofs.Lists.{all_head, as_many, numbers_same}

pub record Begins (m : MemberState) : Type 0 where
  pub zeroth : m.worker.number ≡ 0
  pub empty : m.worker.log ≡ empty_log

-- the first one is worker 0, and has done nothing
pub first_begins : (workers : ℕ) (crew : List MemberState) (first : MemberState) (rest : List MemberState) → crew ≡ first ∷ rest → AreByNumber workers crew → All HasDoneNothing crew → Begins first
first_begins workers crew first rest is by new =
    record {
      zeroth = by.numbers 0 first (subst (λ (l : List MemberState). slice_get l 0 ≡ Some first) (sym is) refl);
      empty = (all_head HasDoneNothing crew first rest is new).0;
    }

-- marks tell numbers
numbers_of_workers : (ws : List WorkerState) → map (λ (k : Marked). k.number) (map mark_of ws) ≡ map (λ (s : WorkerState). s.number) ws
numbers_of_workers [] = refl
numbers_of_workers (s ∷ ws) = ap (λ l. s.number ∷ l) (numbers_of_workers ws)

numbers_of_members : (ms : List MemberState) → map (λ (k : Marked). k.number) (map (λ (m : MemberState). mark_of m.worker) ms) ≡ map (λ (m : MemberState). m.worker.number) ms
numbers_of_members [] = refl
numbers_of_members (m ∷ ms) = ap (λ l. m.worker.number ∷ l) (numbers_of_members ms)

if_ok : {V E : Type 0} (r : Result V E) (P Q : V → Type 0) → ((v : V) → P v → Q v) → IfOk r P → IfOk r Q
if_ok (Ok v) P Q f p = f v p
if_ok (Err e) P Q f p = tt

-- workers with the marks of a crew, each finished, are all of it
pub all_come_back : (o : Outline) (crew : List MemberState) (back : List WorkerState) → AreByNumber o.workers crew → map mark_of back ≡ map (λ (m : MemberState). mark_of m.worker) crew → All (IsFinished o) back → AreFinished o back
all_come_back o crew back by marks finished =
    let same = sym (numbers_of_workers back) ∙ ap (map (λ (k : Marked). k.number)) marks ∙ numbers_of_members crew in
    record {
      all = as_many (λ (s : WorkerState). s.number) (λ (m : MemberState). m.worker.number) back crew same ∙ by.all;
      numbers = numbers_same (λ (s : WorkerState). s.number) (λ (m : MemberState). m.worker.number) back crew same by.numbers;
      each = λ k s at. all_at (IsFinished o) back k s finished at;
    }

module _ {V E : Type 0} (r : Result V E) (items : V → List WorkerState) (o : Outline) (marks : List Marked) where
  -- where a run has its workers, they are all of the crew with these marks
  pub all_come_back_if : (crew : List MemberState) → AreByNumber o.workers crew → marks ≡ map (λ (m : MemberState). mark_of m.worker) crew → IfOk r (λ v. ComeBack o marks (items v)) → IfOk r (λ v. AreFinished o (items v))
  all_come_back_if crew by same come = if_ok r (λ v. ComeBack o marks (items v)) (λ v. AreFinished o (items v)) (λ v c. all_come_back o crew (items v) by (c.marks ∙ same) c.finished) come

  -- the marks are those of a list, by another name
  pub marked_as : (other : List Marked) → marks ≡ other → IfOk r (λ v. ComeBack o marks (items v)) → IfOk r (λ v. map mark_of (items v) ≡ other)
  marked_as other same come = if_ok r (λ v. ComeBack o marks (items v)) (λ v. map mark_of (items v) ≡ other) (λ v c. c.marks ∙ same) come
