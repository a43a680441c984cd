-- Any step that may be taken serves, the first of a merge may be taken, and what a search shows.
use Rattle.std.proofs.Common.{◌≡◌, ℕ, suc, ◌+◌, ◌≤◌, ◌⊎◌, List, [], ◌∷◌, length, refl, sym, ap, ◌∙◌, subst, inl, inr, ⊎_elim, zero-add, suc-add}
use Rattle.std.proofs.lemmas.Bool.{cases_eq}
use Rattle.mp_names.specs.Outlines.{Outline}
use Rattle.mp_machine.specs.Worlds.{World}
use Rattle.mp_machine.specs.Steps.{rest_of}
use Rattle.mp_machine.specs.Runs.{step_of_machine, IsFinished}
use Rattle.mp_machine.proofs.Puts.{put_here, put_other, put_all}
use Rattle.mp_names.specs.declared.kinds.Kept.{Kept}
use Rattle.mp_journal_laws.specs.Journals.{Journal, steps_of, next_version}
use Rattle.mp_journal_laws.specs.Merges.{AreMade, IsMerge, end_of}
use Rattle.mp_journal_laws.specs.Searches.{MayBeTaken, left_behind, MayBeTakenInTurn, left_after, IsStuck, AllAreTaken}
use Rattle.mp_journal_laws.specs.MergePromises.{GoesOn}
use Rattle.mp_journal_laws.proofs.Versions.{not_empty, own_steps, other_steps, cases_posted, version_rises, version_then, carries_later}
use Rattle.mp_journal_laws.proofs.Swaps.{swap}

-- one step

pub any_serves : (o : Outline) (depth : ℕ) (world : World) (left : Journal) (steps : List (ℕ × Kept)) (w : ℕ) (step : Kept) → IsMerge o depth world left steps → MayBeTaken o depth world left w step → (more : List (ℕ × Kept)) × GoesOn o depth world left steps (step_of_machine o depth world w step.kind) (left_behind left w) more
any_serves o depth world left steps w step m may =
    let r =
    swap o depth w step (rest_of (left w)) steps world m.made (m.order w ∙ may.next) may.made
    (λ x changed v version n e. may.alone x changed v version n (ap next_version (sym (m.order v)) ∙ e)) in (
      r.0,
      record {
        merge = record { order = λ u. put_all (λ (u : ℕ) (kept : List Kept). steps_of u r.0 ≡ kept) w (rest_of (left w)) left r.1.own (λ u n. r.1.others u n ∙ m.order u) u; made = r.1.made };
        same_end = r.1.same_end;
        one_less = r.1.one_less;
      },
    )

first_of_all : {X : Type 0} (all rest : List X) (x : X) → all ≡ x ∷ rest → all ≡ x ∷ rest_of all
first_of_all all rest x e = e ∙ ap (λ l. x ∷ l) (ap rest_of (sym e))

pub first_may : (o : Outline) (depth : ℕ) (world : World) (left : Journal) (first : ℕ × Kept) (steps : List (ℕ × Kept)) → IsMerge o depth world left (first ∷ steps) → MayBeTaken o depth world left first.0 first.1
first_may o depth world left first steps m =
    record {
      next = first_of_all (left first.0) (steps_of first.0 steps) first.1 (sym (m.order first.0) ∙ own_steps first.0 first steps refl);
      made = m.made.0;
      alone = λ x changed v version n e.
          let later =
          carries_later o depth v steps (step_of_machine o depth world first.0 first.1.kind) version m.made.1
          (ap next_version (sym (other_steps v first steps (λ q. n (sym q))) ∙ m.order v) ∙ e) in
          ⊎_elim
          (λ d. absurd (changed d))
          (λ d. subst (λ (n : ℕ). n ≤ version) (version_then o depth world first.0 first.1 x m.made.0 ∙ version_rises world first.0 d.1) later)
          (cases_posted (world.worker first.0));
    }

pub some_may : (o : Outline) (depth : ℕ) (world : World) (left : Journal) (steps : List (ℕ × Kept)) → IsMerge o depth world left steps → AllAreTaken left ⊎ ((w : ℕ) × (step : Kept) × MayBeTaken o depth world left w step)
some_may o depth world left [] m = inl (λ w. sym (m.order w))
some_may o depth world left (s ∷ steps) m = inr (s.0, s.1, first_may o depth world left s steps m)

-- where no step is left, a merge has none
none_left : (o : Outline) (depth : ℕ) (world : World) (left : Journal) (steps : List (ℕ × Kept)) → IsMerge o depth world left steps → AllAreTaken left → steps ≡ []
none_left o depth world left [] m none = refl
none_left o depth world left (s ∷ steps) m none = absurd (not_empty s.1 (steps_of s.0 steps) (sym (none s.0) ∙ sym (m.order s.0) ∙ own_steps s.0 s steps refl))

-- two merges

-- without its first step a merge is one of what is left
behind_first : (o : Outline) (depth : ℕ) (world : World) (left : Journal) (s : ℕ × Kept) (steps : List (ℕ × Kept)) → IsMerge o depth world left (s ∷ steps) → IsMerge o depth (step_of_machine o depth world s.0 s.1.kind) (left_behind left s.0) steps
behind_first o depth world left s steps m =
    record {
      order = λ u.
          put_all (λ (u : ℕ) (kept : List Kept). steps_of u steps ≡ kept) s.0 (rest_of (left s.0)) left
          (ap rest_of (sym (own_steps s.0 s steps refl) ∙ m.order s.0))
          (λ u n. sym (other_steps u s steps (λ q. n (sym q))) ∙ m.order u)
          u;
      made = m.made.1;
    }

pub ends_alike : (o : Outline) (depth : ℕ) (these : List (ℕ × Kept)) (world : World) (left : Journal) (those : List (ℕ × Kept)) → IsMerge o depth world left these → IsMerge o depth world left those → (end_of o depth world these ≡ end_of o depth world those) × (length these ≡ length those)
ends_alike o depth [] world left those m n =
    let none = none_left o depth world left those n (λ w. sym (m.order w)) in
    (ap (end_of o depth world) (sym none), ap length (sym none))
ends_alike o depth (s ∷ these) world left those m n =
    let r = any_serves o depth world left those s.0 s.1 n (first_may o depth world left s these m) in
    let q = ends_alike o depth these (step_of_machine o depth world s.0 s.1.kind) (left_behind left s.0) r.0 (behind_first o depth world left s these m) r.1.merge in
    (q.0 ∙ r.1.same_end, ap suc q.1 ∙ sym r.1.one_less)

-- a search

module _ (o : Outline) (depth : ℕ) where
  taken_are_made : (taken : List (ℕ × Kept)) (world : World) (left : Journal) → MayBeTakenInTurn o depth world left taken → AreMade o depth world taken
  taken_are_made [] world left may = tt
  taken_are_made (s ∷ taken) world left may = (may.0.made, taken_are_made taken (step_of_machine o depth world s.0 s.1.kind) (left_behind left s.0) may.1)

  taken_in_order : (taken : List (ℕ × Kept)) (world : World) (left : Journal) → MayBeTakenInTurn o depth world left taken → AllAreTaken (left_after left taken) → (w : ℕ) → steps_of w taken ≡ left w
  taken_in_order [] world left may none w = sym (none w)
  taken_in_order (s ∷ taken) world left may none w =
      let on = taken_in_order taken (step_of_machine o depth world s.0 s.1.kind) (left_behind left s.0) may.1 none w in
      ⊎_elim
      (λ (is : s.0 ≡ w). own_steps w s taken is ∙ ap (λ (l : List Kept). s.1 ∷ l) (on ∙ put_here s.0 w (rest_of (left s.0)) left (sym is)) ∙ sym may.0.next ∙ ap left is)
      (λ (n : s.0 ≡ w → ⊥). other_steps w s taken n ∙ on ∙ put_other s.0 w (rest_of (left s.0)) left (λ q. n (sym q)))
      (cases_eq s.0 w)

  pub found_merge : (taken : List (ℕ × Kept)) (world : World) (left : Journal) → MayBeTakenInTurn o depth world left taken → AllAreTaken (left_after left taken) → IsMerge o depth world left taken
  found_merge taken world left may none = record { order = taken_in_order taken world left may none; made = taken_are_made taken world left may }

  abbrev pub StillMerges : List (ℕ × Kept) → World → Journal → List (ℕ × Kept) → Type 0
  StillMerges taken world left steps =
      (more : List (ℕ × Kept)) × IsMerge o depth (end_of o depth world taken) (left_after left taken) more × (end_of o depth (end_of o depth world taken) more ≡ end_of o depth world steps) × (length steps ≡ length taken + length more)

  pub goes_on : (taken : List (ℕ × Kept)) (world : World) (left : Journal) (steps : List (ℕ × Kept)) → MayBeTakenInTurn o depth world left taken → IsMerge o depth world left steps → StillMerges taken world left steps
  goes_on [] world left steps may m = (steps, m, refl, sym (zero-add (length steps)))
  goes_on (s ∷ taken) world left steps may m =
      let r = any_serves o depth world left steps s.0 s.1 m may.0 in
      let q = goes_on taken (step_of_machine o depth world s.0 s.1.kind) (left_behind left s.0) r.0 may.1 r.1.merge in
      (q.0, q.1, q.2 ∙ r.1.same_end, r.1.one_less ∙ ap suc q.3 ∙ sym (suc-add (length taken) (length q.0)))

  pub no_run : (taken : List (ℕ × Kept)) (world : World) (left : Journal) → MayBeTakenInTurn o depth world left taken → IsStuck o depth (end_of o depth world taken) (left_after left taken) → (AllAreTaken (left_after left taken) → IsFinished o (end_of o depth world taken) → ⊥) → (steps : List (ℕ × Kept)) → IsMerge o depth world left steps → IsFinished o (end_of o depth world steps) → ⊥
  no_run taken world left may stuck unfinished steps m over =
      let r = goes_on taken world left steps may m in
      ⊎_elim
      (λ (none : AllAreTaken (left_after left taken)).
      let empty = none_left o depth (end_of o depth world taken) (left_after left taken) r.0 r.1 none in
      unfinished none (subst (IsFinished o) (sym r.2 ∙ ap (end_of o depth (end_of o depth world taken)) empty) over))
      (λ (k : (w : ℕ) × (step : Kept) × MayBeTaken o depth (end_of o depth world taken) (left_after left taken) w step). stuck k.0 k.1 k.2)
      (some_may o depth (end_of o depth world taken) (left_after left taken) r.0 r.1)
