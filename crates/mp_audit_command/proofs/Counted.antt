-- How many steps a merge has.
use Rattle.std.proofs.Common.{◌≡◌, ◌∙◌, ◌<◌, ◌==◌, ℕ, zero, suc, true, false, List, [], ◌∷◌, ap, arith, get_or-set_same, length, refl, set, subst, sym, ⊎_elim}
use Rattle.std.specs.Prelude.{nat_lt}
use Rattle.std.proofs.lemmas.Bool.{both_ways, cases_Bool, eq-eqb, eqb-true, ltb-false, ltb-true}
use Rattle.std.proofs.lemmas.List.{get_or-set_other}
use Rattle.std.proofs.lemmas.List.Sums.{sum_by-cons, sum_by-set}
use Rattle.mp_audit.specs.Going.{HasLegalMerge}
use Rattle.mp_audit.specs.Lists.{list_of}
use Rattle.mp_audit.proofs.Lists.{none_past}
use Rattle.mp_journal_laws.specs.Journals.{steps_of}
use Rattle.mp_journal_laws.proofs.Versions.{not_empty, other_steps, own_steps}
use Rattle.mp_command.specs.Audits.{HasRightAnswer, IsLegal, outline_audited}
use Rattle.mp_command.specs.Inputs.{Found}
use Rattle.mp_command.specs.Lines.{step_count}
use Rattle.mp_names.specs.declared.kinds.Kept.{Kept}
use Rattle.mp_words.specs.Values.{AuditAsked}

-- lists that are all empty have no steps
nothing : (lists : List (List Kept)) → ((w : ℕ) → [] ≡ list_of lists w) → step_count lists ≡ 0
nothing [] none = refl
nothing (list ∷ lists) none =
    let empty : 0 ≡ length list = ap length (none zero) in omega (arith, empty, sum_by-cons length list lists, nothing lists (λ w. none (suc w)))

-- the steps of all workers in one order are as many as the lists have
pub all_counted : (steps : List (ℕ × Kept)) (lists : List (List Kept)) → ((w : ℕ) → steps_of w steps ≡ list_of lists w) → length steps ≡ step_count lists
all_counted [] lists order = sym (nothing lists order)
all_counted (s ∷ steps) lists order =
    let rest : List Kept = steps_of s.0 steps in
    let own : s.1 ∷ rest ≡ list_of lists s.0 = sym (own_steps s.0 s steps refl) ∙ order s.0 in
    let there : s.0 < length lists =
    ⊎_elim
    (λ (l : nat_lt s.0 (length lists) ≡ true). ltb-true s.0 (length lists) l)
    (λ (l : nat_lt s.0 (length lists) ≡ false). absurd (not_empty s.1 rest (sym (own ∙ none_past lists s.0 (ltb-false s.0 (length lists) l)))))
    (cases_Bool (nat_lt s.0 (length lists))) in
    let others : (w : ℕ) → steps_of w steps ≡ list_of (set lists s.0 rest) w = λ w.
    ⊎_elim
    (λ (e : (s.0 == w) ≡ true). subst (λ (v : ℕ). steps_of v steps ≡ list_of (set lists s.0 rest) v) (eqb-true s.0 w e) (sym (get_or-set_same lists s.0 rest [] there)))
    (λ (e : (s.0 == w) ≡ false).
    let apart : s.0 ≡ w → ⊥ = λ is. both_ways (s.0 == w) e (eq-eqb s.0 w is) in
    sym (other_steps w s steps apart) ∙ order w ∙ sym (get_or-set_other lists s.0 w rest [] (λ is. apart (sym is))))
    (cases_Bool (s.0 == w)) in
    let again = all_counted steps (set lists s.0 rest) others in
    omega (arith, again, sum_by-set length lists s.0 rest [] there, ap length own)

-- what a judgement says of a legal journal: it is legal, and has so many steps
pub legal_by : (asked : AuditAsked) (found : Found) (n : ℕ)
    → HasLegalMerge (outline_audited asked found) asked.depth (list_of found.journal) n → HasRightAnswer asked found → IsLegal asked found × (n ≡ step_count found.journal)
legal_by asked found n merge answer =
    let many = all_counted merge.0 found.journal merge.1.merge.order in
    (record { merge = (merge.0, merge.1, many); answer = answer }, sym merge.2 ∙ many)
