-- How a search goes on.
use Rattle.std.proofs.Common.{◌≡◌, ℕ, suc, ◌+◌, ◌<◌, List, [], ◌∷◌, ◌++◌, length, refl, sym, ap, ◌∙◌, subst, ⊎_elim, arith, zero-add, suc-add, get_or-set_other, get_or-set_same, Some, Result, Ok, Err, OnOk, IfOk}
use Rattle.mp_audit.specs.declared.searching.AuditStop.{AuditStop}
use Rattle.std.proofs.Math.Path.{fun_ext}
use Rattle.std.specs.List.{slice_get}
use Rattle.std.proofs.lemmas.Bool.{cases_eq}
use Rattle.mp_names.specs.Outlines.{Outline}
use Rattle.mp_machine.specs.Worlds.{World, start_of_machine}
use Rattle.mp_machine.specs.Steps.{rest_of}
use Rattle.mp_machine.specs.Runs.{step_of_machine, IsFinished}
use Rattle.mp_machine.proofs.Puts.{put_here, put_other}
use Rattle.mp_names.specs.declared.kinds.Kept.{Kept}
use Rattle.mp_journal_laws.specs.Journals.{Journal}
use Rattle.mp_journal_laws.specs.Merges.{end_of}
use Rattle.mp_journal_laws.specs.Searches.{MayBeTaken, left_behind, MayBeTakenInTurn, left_after, IsStuck, AllAreTaken}
use Rattle.mp_journal_laws.proofs.Searches.{found_merge, no_run}
use Rattle.mp_audit.specs.Lists.{list_of, one_taken}
use Rattle.mp_audit.specs.Going.{HasLegalMerge, HasNone, Leads}

-- one step less
pub one_further : (lists : List (List Kept)) (w : ℕ) → w < length lists → list_of (one_taken lists w) ≡ left_behind (list_of lists) w
one_further lists w l = fun_ext (λ u.
    ⊎_elim
    (λ (e : u ≡ w). here u e)
    (λ (e : u ≡ w → ⊥). get_or-set_other lists w u (rest_of (list_of lists w)) [] e ∙ sym (put_other w u (rest_of (list_of lists w)) (list_of lists) e))
    (cases_eq u w))
  where
    here : (u : ℕ) → u ≡ w → list_of (one_taken lists w) u ≡ left_behind (list_of lists) w u
    here u e =
        subst (λ (v : ℕ). list_of (one_taken lists w) v ≡ left_behind (list_of lists) w v) (sym e)
        (get_or-set_same lists w (rest_of (list_of lists w)) [] l ∙ sym (put_here w w (rest_of (list_of lists w)) (list_of lists) refl))

-- where a step is left it is the next
pub next_is : (left : List Kept) (step : Kept) → slice_get left 0 ≡ Some step → left ≡ step ∷ rest_of left
next_is [] step e = absurd (cc)
next_is (s ∷ left) step e = let same : s ≡ step = cc in ap (λ (t : Kept). t ∷ left) same

pub some_there : (left : List Kept) (step : Kept) → slice_get left 0 ≡ Some step → 0 < length left
some_there [] step e = absurd (cc)
some_there (s ∷ left) step e = omega arith

-- no step, and one

pub leads_nowhere : (o : Outline) (depth : ℕ) (world : World) (left : Journal) → Leads o depth world left world left 0
leads_nowhere o depth world left = record { taken = []; may = tt; world_is = refl; left_is = refl; many = refl }

pub leads_by_one : (o : Outline) (depth : ℕ) (world after : World) (left still : Journal) (w : ℕ) (step : Kept) → MayBeTaken o depth world left w step → after ≡ step_of_machine o depth world w step.kind → still ≡ left_behind left w → Leads o depth world left after still 1
leads_by_one o depth world after left still w step may e f = record { taken = (w, step) ∷ []; may = (may, tt); world_is = sym e; left_is = sym f; many = refl }

-- one way after another

module _ (o : Outline) (depth : ℕ) where
  taken_more : (these those : List (ℕ × Kept)) (world : World) (left : Journal) → MayBeTakenInTurn o depth world left these → MayBeTakenInTurn o depth (end_of o depth world these) (left_after left these) those → MayBeTakenInTurn o depth world left (these ++ those)
  taken_more [] those world left may more = more
  taken_more (s ∷ these) those world left may more = (may.0, taken_more these those (step_of_machine o depth world s.0 s.1.kind) (left_behind left s.0) may.1 more)

  end_more : (these those : List (ℕ × Kept)) (world : World) → end_of o depth world (these ++ those) ≡ end_of o depth (end_of o depth world these) those
  end_more [] those world = refl
  end_more (s ∷ these) those world = end_more these those (step_of_machine o depth world s.0 s.1.kind)

  left_more : (these those : List (ℕ × Kept)) (left : Journal) → left_after left (these ++ those) ≡ left_after (left_after left these) those
  left_more [] those left = refl
  left_more (s ∷ these) those left = left_more these those (left_behind left s.0)

  many_more : (these those : List (ℕ × Kept)) → length (these ++ those) ≡ length these + length those
  many_more [] those = sym (zero-add (length those))
  many_more (s ∷ these) those = ap suc (many_more these those) ∙ sym (suc-add (length these) (length those))

  pub leads_further : (a b c : World) (p q r : Journal) (n m : ℕ) → Leads o depth a p b q n → Leads o depth b q c r m → Leads o depth a p c r (n + m)
  leads_further a b c p q r n m f g =
      record {
        taken = f.taken ++ g.taken;
        may = taken_more f.taken g.taken a p f.may (subst (λ (w : World). MayBeTakenInTurn o depth w (left_after p f.taken) g.taken) (sym f.world_is) (subst (λ (l : Journal). MayBeTakenInTurn o depth b l g.taken) (sym f.left_is) g.may));
        world_is = end_more f.taken g.taken a ∙ ap (λ (w : World). end_of o depth w g.taken) f.world_is ∙ g.world_is;
        left_is = left_more f.taken g.taken p ∙ ap (λ (l : Journal). left_after l g.taken) f.left_is ∙ g.left_is;
        many = many_more f.taken g.taken ∙ ap (λ (k : ℕ). k + length g.taken) f.many ∙ ap (λ (k : ℕ). n + k) g.many;
      }

-- the end

module _ (o : Outline) (depth : ℕ) (journal : Journal) (start world : World) (left : Journal) (n : ℕ) (is : start ≡ start_of_machine o) (leads : Leads o depth start journal world left n) where
  from_start : MayBeTakenInTurn o depth (start_of_machine o) journal leads.taken
  from_start = subst (λ (v : World). MayBeTakenInTurn o depth v journal leads.taken) is leads.may

  ends_here : end_of o depth (start_of_machine o) leads.taken ≡ world
  ends_here = ap (λ (v : World). end_of o depth v leads.taken) (sym is) ∙ leads.world_is

  pub has_merge : AllAreTaken left → IsFinished o world → HasLegalMerge o depth journal n
  has_merge all over = (
    leads.taken,
    record {
      merge = found_merge o depth leads.taken (start_of_machine o) journal from_start (subst AllAreTaken (sym leads.left_is) all);
      finished = subst (IsFinished o) (sym ends_here) over;
    },
    leads.many,
  )

  pub has_none : IsStuck o depth world left → (AllAreTaken left → IsFinished o world → ⊥) → HasNone o depth journal
  has_none stuck unfinished steps legal =
      no_run o depth leads.taken (start_of_machine o) journal from_start
      (subst (λ (v : World). IsStuck o depth v (left_after journal leads.taken)) (sym ends_here) (subst (IsStuck o depth world) (sym leads.left_is) stuck))
      (λ all over. unfinished (subst AllAreTaken leads.left_is all) (subst (IsFinished o) ends_here over))
      steps legal.merge legal.finished

-- what holds of an answer, by what holds of its count
pub if_found : (r : Result ℕ AuditStop) (A B : Type 0) (count : ℕ) (P : ℕ → Type 0) → OnOk r A → OnOk r B → IfOk r (λ n. n ≡ count) → (A → B → P count) → IfOk r P
if_found (Ok n) A B count P a b e h = subst P (sym e) (h a b)
if_found (Err why) A B count P a b e h = tt
