use Rattle.std.proofs.Common.{ℕ, ◌≡◌, ◌+◌, ◌*◌, ◌/◌, List, ◌∷◌, ◌++◌, [], ◌∙◌, All, ap, arith, length, subst, sym}
use Rattle.std.proofs.lemmas.List.FromFn.{length-map-range_with_len, map-range_with_len_more}
use Rattle.mp_q_window.specs.Windows.{IsEndWithin, ends_after}
use Rattle.mp_q_window.proofs.Ends.{ends_within}
use Rattle.mp_q_window.proofs.windows.next_ends.Goals as goal

pub push-requires : goal.push-requires
push-requires c =
    omega (arith, ap length c.loop-i.invariant, length-map-range_with_len (λ (i : ℕ). (c.args.time / c.args.slide + 1 + i) * c.args.slide) 0 c.loop-i.i)

pub loop-i-preserved : goal.loop-i-preserved
loop-i-preserved c =
    let end : ℕ → ℕ = λ i. (c.args.time / c.args.slide + 1 + i) * c.args.slide in
    c.push.ensures ∙ ap (λ ends. ends ++ end c.loop-i.i ∷ []) c.loop-i.invariant ∙ sym (map-range_with_len_more end 0 c.loop-i.i c.loop-i.i (omega arith))

pub returns-clause-within : goal.returns-clause-within
returns-clause-within c =
    let all : c.loop-i.i ≡ c.args.slides = omega arith in
    let ends = c.loop-i.invariant ∙ ap (λ (n : ℕ). ends_after c.args.slide n c.args.time) all in
    subst (λ (ends : List ℕ). All (IsEndWithin c.args.slide (c.args.slide * c.args.slides) c.args.time) ends) (sym ends) (ends_within c.args.slide c.args.slides c.args.time c.requires.some_slide)
