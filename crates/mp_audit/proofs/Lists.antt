-- Lists of steps, and what is left of them.
use Rattle.std.proofs.Common.{◌≡◌, ℕ, suc, ◌+◌, ◌-◌, ◌<◌, ◌≤◌, true, false, List, [], ◌∷◌, length, map, take, drop, set, get_or, get_or-set_same, length-set, Option, None, refl, Some, sym, ap, ◌∙◌, add-one, drop_of_length-le, arith}
use Rattle.std.proofs.Math.ListN.{get_or-map}
use Rattle.std.proofs.Math.Seq.{drop-cons, map-set_same, take-length}
use Rattle.std.proofs.lemmas.Option.{none-some}
use Rattle.std.proofs.lemmas.List.{get_or-map as get_or-map-below, get_or_past, map-set}
use Rattle.mp_names.specs.declared.kinds.Kept.{Kept}
use Rattle.mp_journal_laws.specs.Journals.{is_exchange, next_version}
use Rattle.mp_journal_laws.proofs.Versions.{next_is_later, not_empty}
use Rattle.mp_machine.specs.Steps.{rest_of}
use Rattle.mp_audit.specs.Lists.{IsLater, list_of, one_taken}
use Rattle.std.proofs.lemmas.Bool.{cond-true}

module _ (steps : List Kept) (i : ℕ) (d : Kept) (l : i < length steps) where
  pub next_here : is_exchange (get_or steps i d).kind ≡ true → next_version (drop i steps) ≡ Some (get_or steps i d).version
  next_here e = ap next_version (drop-cons steps i d l) ∙ cond-true (is_exchange (get_or steps i d).kind) (Some (get_or steps i d).version) (next_version (drop (suc i) steps)) e

  pub next_on : is_exchange (get_or steps i d).kind ≡ false → next_version (drop i steps) ≡ next_version (drop (i + 1) steps)
  next_on e = ap next_version (drop-cons steps i d l) ∙ next_is_later (get_or steps i d) (drop (suc i) steps) e ∙ ap (λ (n : ℕ). next_version (drop n steps)) (sym (add-one i))

pub next_none : (steps : List Kept) (i : ℕ) → length steps ≤ i → next_version (drop i steps) ≡ None
next_none steps i l = ap next_version (drop_of_length-le steps l)

-- no worker past the last has steps
pub none_past : (lists : List (List Kept)) (w : ℕ) → length lists ≤ w → list_of lists w ≡ []
none_past lists w l = get_or_past lists w [] l

-- where nothing is left there is no exchange
pub nothing_later : (steps : List Kept) (version : ℕ) → steps ≡ [] → IsLater (next_version steps) version
nothing_later steps version e later d = absurd (none-some later (sym (ap next_version e) ∙ d))

-- the version of the next exchange stays, where a step that is none is taken
pub next_stays : (steps : List Kept) (d : Kept) → 0 < length steps → is_exchange (get_or steps 0 d).kind ≡ false → next_version (rest_of steps) ≡ next_version steps
next_stays [] d l e = absurd (omega arith)
next_stays (s ∷ steps) d l e = sym (next_is_later s steps e)

-- all but the first, as a part of a slice
pub rest_is : (steps : List Kept) → take (length steps - 1) (drop 1 steps) ≡ rest_of steps
rest_is [] = refl
rest_is (s ∷ steps) = let one_less : suc (length steps) - 1 ≡ length steps = omega arith in ap (λ (n : ℕ). take n steps) one_less ∙ take-length steps

module _ (nexts : List (Option ℕ)) (lists : List (List Kept)) (are : nexts ≡ map next_version lists) where
  -- the versions of next exchanges, one by one
  pub next_at : (v : ℕ) → get_or nexts v None ≡ next_version (list_of lists v)
  next_at v = ap (λ (ns : List (Option ℕ)). get_or ns v None) are ∙ get_or-map next_version lists v []

  -- they are those still, where a list is another and so is its version, or where its version is the same
  pub another_next : (w : ℕ) (steps : List Kept) → set nexts w (next_version steps) ≡ map next_version (set lists w steps)
  another_next w steps = ap (λ (ns : List (Option ℕ)). set ns w (next_version steps)) are ∙ sym (map-set next_version lists w steps)

  pub same_next : (w : ℕ) (steps : List Kept) → next_version steps ≡ next_version (list_of lists w) → nexts ≡ map next_version (set lists w steps)
  same_next w steps e = are ∙ sym (map-set_same next_version lists w steps [] e)

-- a list that is read at its place
pub list_at : {X : Type 0} (items : X → List Kept) (all : List X) (w : ℕ) (x : X) → w < length all → x ≡ get_or all w x → list_of (map items all) w ≡ items x
list_at items all w x l e = get_or-map-below items all w x [] l ∙ ap items (sym e)

-- where a step is taken the worker has one less, and there are as many workers
pub fewer_by_one : (lists new : List (List Kept)) (w : ℕ) → w < length lists → new ≡ one_taken lists w → 0 < length (list_of lists w) → (length new ≡ length lists) × (length (list_of lists w) ≡ length (list_of new w) + 1)
fewer_by_one lists new w l e some = (
  ap length e ∙ length-set lists w (rest_of (list_of lists w)),
  one_less (list_of lists w) some ∙ ap (λ (steps : List Kept). length steps + 1) (sym (ap (λ (ls : List (List Kept)). list_of ls w) e ∙ get_or-set_same lists w (rest_of (list_of lists w)) [] l)),
)
  where
    one_less : (steps : List Kept) → 0 < length steps → length steps ≡ length (rest_of steps) + 1
    one_less [] some = absurd (omega arith)
    one_less (s ∷ steps) some = sym (add-one (length steps))

-- where none is left none is next
pub nothing_next : (steps : List Kept) (step : Kept) → length steps ≡ 0 → steps ≡ step ∷ rest_of steps → ⊥
nothing_next [] step e f = not_empty step [] f
nothing_next (s ∷ steps) step e f = absurd (omega arith)
