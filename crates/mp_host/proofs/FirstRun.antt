-- The records of the first group are the first run of records of one group, or none of it.
use Rattle.std.proofs.Common.{◌≡◌, ◌⊎◌, ℕ, suc, ◌+◌, ◌==◌, Bool, true, false, List, [], ◌∷◌, Some, length, slice_get, take, refl, ap, sym, ◌∙◌, subst, inl, inr, ⊎_elim, arith}
use Rattle.std.specs.List.{prefix_len}
use Rattle.std.proofs.lemmas.Bool.{and_from, and_parts, cases_Bool, eq-eqb, eqb-true}
use Rattle.std.proofs.lemmas.List.{take-take}
use Rattle.std.proofs.lemmas.List.Folds.{length-prefix_len}
use Rattle.mp_model.specs.declared.record.Rec.{Rec}
use Rattle.mp_ordered_runs.specs.Runs.{first_run}
use Rattle.mp_host_laws.specs.Hosted.{is_of}

-- those that pass in front, of which all pass
prefix_twice : (q : Rec → Bool) (rs : List Rec) → prefix_len q (take (prefix_len q rs) rs) ≡ prefix_len q rs
prefix_twice q [] = refl
prefix_twice q (r ∷ rs) =
    ⊎_elim
    (λ (e : q r ≡ true). let more : 1 + prefix_len q rs ≡ suc (prefix_len q rs) = omega arith in rw (e, more, e) (ap (λ n. 1 + n) (prefix_twice q rs) ∙ more))
    (λ (e : q r ≡ false). rw e refl)
    (cases_Bool (q r))

abbrev pub same_group : Rec → Rec → Bool
same_group r s = is_of r.time r.key s

-- the run of a record's own group
own_run : (r : Rec) (rs : List Rec) → (q : Rec → Bool) → q ≡ same_group r → take (prefix_len q (first_run same_group (r ∷ rs))) (first_run same_group (r ∷ rs)) ≡ first_run same_group (r ∷ rs)
own_run r rs q e = subst (λ (p : Rec → Bool). take (prefix_len p (first_run same_group (r ∷ rs))) (first_run same_group (r ∷ rs)) ≡ first_run same_group (r ∷ rs)) (sym e) own
  where
    itself : same_group r r ≡ true
    itself = and_from (r.time == r.time) (r.key == r.key) (eq-eqb r.time r.time refl) (eq-eqb r.key r.key refl)

    own : take (prefix_len (same_group r) (r ∷ take (prefix_len (same_group r) rs) rs)) (r ∷ take (prefix_len (same_group r) rs) rs) ≡ r ∷ take (prefix_len (same_group r) rs) rs
    own =
        let more : 1 + prefix_len (same_group r) rs ≡ suc (prefix_len (same_group r) rs) = omega arith in
        rw (itself, prefix_twice (same_group r) rs, more) (ap (λ (ss : List Rec). r ∷ ss) (take-take (prefix_len (same_group r) rs) (prefix_len (same_group r) rs) rs (omega arith)))

own_front : (r : Rec) (rs : List Rec) → (q : Rec → Bool) → q ≡ same_group r → take (prefix_len q (r ∷ rs)) (r ∷ rs) ≡ first_run same_group (r ∷ rs)
own_front r rs q e = subst (λ (p : Rec → Bool). take (prefix_len p (r ∷ rs)) (r ∷ rs) ≡ first_run same_group (r ∷ rs)) (sym e) own
  where
    itself : same_group r r ≡ true
    itself = and_from (r.time == r.time) (r.key == r.key) (eq-eqb r.time r.time refl) (eq-eqb r.key r.key refl)

    own : take (prefix_len (same_group r) (r ∷ rs)) (r ∷ rs) ≡ r ∷ take (prefix_len (same_group r) rs) rs
    own = let more : 1 + prefix_len (same_group r) rs ≡ suc (prefix_len (same_group r) rs) = omega arith in rw (itself, more) refl

module _ (t k : ℕ) where
  its_group : (r : Rec) → is_of t k r ≡ true → is_of t k ≡ same_group r
  its_group r e =
      let both = and_parts (r.time == t) (r.key == k) e in
      ap (λ (a : ℕ). is_of a k) (sym (eqb-true r.time t both.0)) ∙ ap (λ (b : ℕ). is_of r.time b) (sym (eqb-true r.key k both.1))

  -- the records of a group that stand in front of all are the same in the first run
  pub run_taken : (rs : List Rec) → take (prefix_len (is_of t k) (first_run same_group rs)) (first_run same_group rs) ≡ take (prefix_len (is_of t k) rs) rs
  run_taken [] = refl
  run_taken (r ∷ rs) =
      ⊎_elim
      (λ (e : is_of t k r ≡ true). own_run r rs (is_of t k) (its_group r e) ∙ sym (own_front r rs (is_of t k) (its_group r e)))
      (λ (e : is_of t k r ≡ false). rw e refl)
      (cases_Bool (is_of t k r))

  -- they are all of it or none
  pub run_whole : (rs : List Rec) → (length (take (prefix_len (is_of t k) (first_run same_group rs)) (first_run same_group rs)) ≡ 0) ⊎ (length (take (prefix_len (is_of t k) (first_run same_group rs)) (first_run same_group rs)) ≡ length (first_run same_group rs))
  run_whole [] = inl refl
  run_whole (r ∷ rs) =
      ⊎_elim
      (λ (e : is_of t k r ≡ true). inr (ap length (own_run r rs (is_of t k) (its_group r e))))
      (λ (e : is_of t k r ≡ false). inl (rw e refl))
      (cases_Bool (is_of t k r))

  -- a run that begins with a record of the group is of the group
  pub run_passes : (run : List Rec) (first : Rec) → slice_get run 0 ≡ Some first → is_of t k first ≡ true → first_run same_group run ≡ run → prefix_len (is_of t k) run ≡ length run
  run_passes [] first there e whole = cc
  run_passes (r ∷ rs) first there e whole =
      let same : r ≡ first = cc in
      let q = is_of t k in
      let passes : q r ≡ true = rw same e in
      let taken : take (prefix_len q (r ∷ rs)) (r ∷ rs) ≡ r ∷ rs = subst (λ (run : List Rec). take (prefix_len q run) run ≡ run) whole (own_run r rs q (its_group r passes)) in
      sym (length-prefix_len q (r ∷ rs)) ∙ ap length taken

-- the first run of the first run is itself
pub run_of_run : (rs : List Rec) → first_run same_group (first_run same_group rs) ≡ first_run same_group rs
run_of_run [] = refl
run_of_run (r ∷ rs) = rw (prefix_twice (same_group r) rs) (ap (λ (ss : List Rec). r ∷ ss) (take-take (prefix_len (same_group r) rs) (prefix_len (same_group r) rs) rs (omega arith)))
