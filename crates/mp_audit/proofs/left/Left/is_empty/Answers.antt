use Rattle.std.proofs.Common.{◌≡◌, ◌<◌, ◌≤◌, ℕ, ◌==◌, [], ◌∷◌, List, length, map, refl, ap, sym, ◌∙◌, below_more, ⊎_elim, arith}
use Rattle.std.proofs.lemmas.Bool.{cases_lt, eqb-true, false≢true}
use Rattle.std.proofs.lemmas.List.{length-map}
use Rattle.mp_names.specs.declared.kinds.Kept.{Kept}
use Rattle.mp_audit.specs.Lists.{list_of}
use Rattle.mp_audit.proofs.Lists.{list_at, none_past}
use Rattle.mp_audit.proofs.left.Left.is_empty.Goals as goal

pub returns-then-not-is_empty : goal.returns-then-not-is_empty
returns-then-not-is_empty c =
    let w = c.loop-worker.worker in
    let rest = c.self.inside.rest.items in
    let low : w < length rest = omega (arith, c.loop-worker-test.true, c.len-worker-end.ensures) in
    let here = list_at (λ s. s.now) rest w c.index.result.now low c.index.ensures in (
      (λ h. absurd (false≢true h)),
      (λ none. sym c.if-not-is_empty.true ∙ c.is_empty.ensures ∙ ap (λ (s : List Kept). length s == 0) (sym here ∙ ap (λ (ls : List (List Kept)). list_of ls w) c.self.view_is ∙ none w)),
    )

pub loop-worker-preserved : goal.loop-worker-preserved
loop-worker-preserved c =
    let w = c.loop-worker.worker in
    let rest = c.self.inside.rest.items in
    let low : w < length rest = omega (arith, c.loop-worker-test.true, c.len-worker-end.ensures) in
    let here = list_at (λ s. s.now) rest w c.index.result.now low c.index.ensures in
    let none : length c.index.result.now.now ≡ 0 = eqb-true _ 0 (sym c.is_empty.ensures ∙ c.if-not-is_empty.false) in
    below_more _ _ c.loop-worker.invariant (here ∙ no_items c.index.result.now.now none)
  where
    no_items : (xs : List Kept) → length xs ≡ 0 → xs ≡ []
    no_items [] e = refl
    no_items (x ∷ xs) e = absurd (omega arith)

pub returns : goal.returns
returns c =
    let lists = map (λ s. s.now) c.self.inside.rest.items in
    let same = λ (w : ℕ). ap (λ (ls : List (List Kept)). list_of ls w) (sym c.self.view_is) in (
      (λ h w.
          ⊎_elim
          (λ (l : w < c.loop-worker.worker). same w ∙ c.loop-worker.invariant w l)
          (λ (l : c.loop-worker.worker ≤ w). let past : length lists ≤ w = omega (arith, l, c.loop-worker-test.false, c.len-worker-end.ensures, length-map c.self.inside.rest.items (λ s. s.now)) in same w ∙ none_past lists w past)
          (cases_lt w c.loop-worker.worker)),
      (λ none. refl),
    )
