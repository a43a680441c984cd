use Rattle.std.proofs.Common.{◌≡◌, ◌<◌, ◌≤◌, ℕ, List, None, length, map, refl, ap, sym, ◌∙◌, below_more, ⊎_elim, arith}
use Rattle.std.proofs.lemmas.Bool.{cases_lt, false≢true}
use Rattle.std.proofs.lemmas.List.{get_or_default, length-map}
use Rattle.mp_names.specs.declared.kinds.Kept.{Kept}
use Rattle.mp_journal_laws.specs.Journals.{next_version}
use Rattle.mp_audit.specs.Lists.{list_of}
use Rattle.mp_audit.proofs.Lists.{next_at, none_past, nothing_later}
use Rattle.mp_audit.proofs.left.Left.is_alone.Goals as goal
use Rattle.mp_audit.proofs.left.Left.is_alone.Goals.{else-other-worker-via-then-other-worker+else-not-is_later, else-other-worker-via-else-other-worker}

pub returns-then-not-is_later : goal.returns-then-not-is_later
returns-then-not-is_later c =
    let nexts = c.self.inside.nexts.items in
    let v = c.loop-other.other in
    let low : v < length nexts = omega (arith, c.loop-other-test.true, c.len-other-end.ensures) in
    let here = c.index.ensures ∙ get_or_default nexts v c.index.result.now None low ∙ next_at nexts (map (λ s. s.now) c.self.inside.rest.items) c.self.invariant v ∙ ap (λ (ls : List (List Kept)). next_version (list_of ls v)) c.self.view_is in (
      (λ h. absurd (false≢true h)),
      (λ alone. sym c.if-not-is_later.true ∙ c.is_later.ensures.1 (λ later e. alone v c.if-other-worker.true later (sym here ∙ e))),
    )

pub loop-other-preserved : goal.loop-other-preserved
loop-other-preserved c =
    let nexts = c.self.inside.nexts.items in
    let v = c.loop-other.other in
    let low : v < length nexts = omega (arith, c.loop-other-test.true, c.len-other-end.ensures) in
    below_more _ _ c.loop-other.invariant (λ n.
    elim c.else-other-worker.branch [
      | else-other-worker-via-then-other-worker+else-not-is_later w ↦ λ later e. w.is_later.ensures.0 w.if-not-is_later.false later (w.index.ensures ∙ get_or_default nexts v w.index.result.now None low ∙ e)
      | else-other-worker-via-else-other-worker w ↦ absurd (n w.if-other-worker.false)
    ])

pub returns : goal.returns
returns c =
    let nexts = c.self.inside.nexts.items in
    let lists = map (λ s. s.now) c.self.inside.rest.items in
    let at = λ (v : ℕ). next_at nexts lists c.self.invariant v ∙ ap (λ (ls : List (List Kept)). next_version (list_of ls v)) c.self.view_is in
    let many : length nexts ≡ length lists = ap length c.self.invariant ∙ length-map lists next_version in (
      (λ h v n.
          ⊎_elim
          (λ (l : v < c.loop-other.other). λ later e. c.loop-other.invariant v l n later (at v ∙ e))
          (λ (l : c.loop-other.other ≤ v).
          let end = c.loop-other-test.false in
          let past : length lists ≤ v = omega (arith, many, l, end, c.len-other-end.ensures) in
          nothing_later (list_of c.args.self.now v) c.args.version (ap (λ (ls : List (List Kept)). list_of ls v) (sym c.self.view_is) ∙ none_past lists v past))
          (cases_lt v c.loop-other.other)),
      (λ alone. refl),
    )
