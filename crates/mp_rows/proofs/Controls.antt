-- How many control records of a time have to be sent.
use Rattle.std.proofs.Common.{◌≡◌, ℕ, zero, suc, ◌+◌, ◌≤◌, ◌==◌, Bool, true, false, cond, List, [], ◌∷◌, ◌++◌, length, take, count_by, refl, sym, ap, ◌∙◌, arith, add-one}
use Rattle.std.specs.List.{sum_by}
use Rattle.std.proofs.lemmas.List.{take_more}
use Rattle.std.proofs.lemmas.List.Sums.{sum_by-append, sum_by_push}
use Rattle.mp_names.specs.declared.controls.Control.{Control}
use Rattle.mp_names.specs.declared.names.Name.{Name}
use Rattle.mp_names.specs.declared.names.Name.TheVariants.{Ctrl}
use Rattle.mp_names.specs.Controls.{control_of, no_control}
use Rattle.mp_names.specs.Names.{joined_below}
use Rattle.mp_rows.proofs.Sums.{add_same}

one_of : (b : Bool) (m n : ℕ) → n ≡ cond b m 0 → n + cond b 1 0 ≡ cond b (suc m) 0
one_of true m n e = omega arith
one_of false m n e = omega arith

-- the names of a control record, one for each worker
abbrev pub to_each : ℕ → ℕ → List Name
to_each workers i = joined_below workers (λ v. Ctrl i v ∷ [])

module _ (p : Name → Bool) where
  count_to_each : (workers i : ℕ) (b : Bool) → ((v : ℕ) → p (Ctrl i v) ≡ b) → count_by p (to_each workers i) ≡ cond b workers 0
  count_to_each zero i true h = refl
  count_to_each zero i false h = refl
  count_to_each (suc n) i b h =
      sum_by_push (λ x. cond (p x) 1 0) (to_each n i) (Ctrl i n)
      ∙ ap (λ (a : Bool). count_by p (to_each n i) + cond a 1 0) (h n)
      ∙ one_of b n (count_by p (to_each n i)) (count_to_each n i b h)

  -- those of the time, where they pass
  pub count_controls : (controls : List Control) (workers t n : ℕ) → n ≤ length controls → ((i v : ℕ) → p (Ctrl i v) ≡ ((control_of controls i).time == t)) → count_by p (joined_below n (to_each workers)) ≡ sum_by (λ c. cond (c.time == t) workers 0) (take n controls)
  count_controls controls workers t zero l h = refl
  count_controls controls workers t (suc n) l h =
      let f = λ (c : Control). cond (c.time == t) workers 0 in
      let a = sum_by-append (λ x. cond (p x) 1 0) (joined_below n (to_each workers)) (to_each workers n) in
      let b = count_controls controls workers t n (omega arith) h in
      let c = count_to_each workers n ((control_of controls n).time == t) (h n) in
      let d : take (suc n) controls ≡ take n controls ++ control_of controls n ∷ [] = rw (← add-one n) (take_more controls n no_control (omega arith)) in
      let e = sum_by_push f (take n controls) (control_of controls n) in
      a ∙ add_same (count_by p (joined_below n (to_each workers))) (sum_by f (take n controls)) (count_by p (to_each workers n)) (f (control_of controls n)) b c ∙ sym e ∙ sym (ap (sum_by f) d)

  -- none, where none passes
  pub count_no_controls : (workers n : ℕ) → ((i v : ℕ) → p (Ctrl i v) ≡ false) → count_by p (joined_below n (to_each workers)) ≡ 0
  count_no_controls workers zero h = refl
  count_no_controls workers (suc n) h =
      let a = sum_by-append (λ x. cond (p x) 1 0) (joined_below n (to_each workers)) (to_each workers n) in
      a ∙ add_same (count_by p (joined_below n (to_each workers))) 0 (count_by p (to_each workers n)) 0 (count_no_controls workers n h) (count_to_each workers n false (h n))
