use Rattle.std.proofs.Common.{◌≡◌, ◌<◌, ◌≤◌, ◌+◌, ◌++◌, ◌∷◌, [], ◌∙◌, ℕ, List, ap, arith, get_or, length, length-append, ⊎_elim}
use Rattle.std.proofs.lemmas.Bool.{cases_lt}
use Rattle.std.proofs.lemmas.List.{get_or_append_left, get_or-append-add}
use Rattle.mp_test_values.proofs.stamps.times_below.Goals as goal

pub loop-time-preserved : goal.loop-time-preserved
loop-time-preserved c =
    let l = c.loop-time in
    let xs : List ℕ = l.times.items in
    let n = l.time in
    let is : c.push.new.self.items ≡ xs ++ n ∷ [] = c.in_ok-push.ensures.items in
    let long : length xs ≡ n = l.invariant.long in
    record {
      long = omega (arith, ap (λ (ys : List ℕ). length ys) is, length-append xs (n ∷ []), long);
      each = λ k m.
          ap (λ (ys : List ℕ). get_or ys k 0) is
          ∙ ⊎_elim
          (λ (b : k < n). get_or_append_left xs (n ∷ []) 0 k (omega (arith, b, long)) ∙ l.invariant.each k b)
          (λ (b : n ≤ k).
          let e : k ≡ length xs + 0 = omega (arith, b, m, long) in
          let f : n ≡ k = omega (arith, b, m) in
          ap (λ (i : ℕ). get_or (xs ++ n ∷ []) i 0) e ∙ get_or-append-add xs (n ∷ []) 0 0 ∙ f)
          (cases_lt k n);
    }

pub returns : goal.returns
returns c =
    let l = c.loop-time in
    λ k m.
    let long : length l.times.items ≡ l.time = l.invariant.long in
    let here : get_or l.times.items k 0 ≡ k = l.invariant.each k (omega (arith, m, long)) in
    let next : get_or l.times.items (k + 1) 0 ≡ k + 1 = l.invariant.each (k + 1) (omega (arith, m, long)) in
    omega (arith, here, next)
