use Rattle.std.proofs.Common.{◌≡◌, ℕ, ◌+◌, [], List, length, map, get_or, Option, sym, ap, ◌∙◌, subst, arith}
use Rattle.std.specs.Prelude.{IfSome, IfNone}
use Rattle.std.proofs.lemmas.List.{get_or-map, length-map}
use Rattle.std.specs.List.{slice_get}
use Rattle.mp_ordered.specs.InOrder.{InOrder}
use Rattle.mp_chart.specs.declared.entry.Entry.{Entry}
use Rattle.mp_standing.specs.Held.{IsLeastFirst}
use Rattle.mp_standing.proofs.Least.{IsLeastBelow, first_at, least_more, some_least, none_least}
use Rattle.mp_standing.proofs.held.Held.first.Goals as goal

abbrev items : InOrder Entry → List Entry
items o = o.items

pub returns-clause-some : goal.returns-clause-some
returns-clause-some c =
    let xs = c.deref-list-items.result.now in
    let all : c.loop-list.list-index ≡ length (map items xs) = omega (arith, length-map xs items) in
    let same : map items xs ≡ c.args.self.now = ap (map items) c.deref-list-items.ensures.value ∙ c.self.view_is in
    subst (λ (held : List (List Entry)). IfSome c.loop-list.least (λ x. IsLeastFirst held x)) same (some_least (map items xs) c.loop-list.list-index c.loop-list.least all c.loop-list.invariant)

pub returns-clause-none : goal.returns-clause-none
returns-clause-none c =
    let xs = c.deref-list-items.result.now in
    let all : c.loop-list.list-index ≡ length (map items xs) = omega (arith, length-map xs items) in
    let same : map items xs ≡ c.args.self.now = ap (map items) c.deref-list-items.ensures.value ∙ c.self.view_is in
    subst (λ (held : List (List Entry)). IfNone c.loop-list.least ((v : ℕ) → get_or held v [] ≡ [])) same (none_least (map items xs) c.loop-list.list-index c.loop-list.least all c.loop-list.invariant)

pub loop-list-preserved : goal.loop-list-preserved
loop-list-preserved c =
    let xs = c.deref-list-items.result.now in
    let i = c.loop-list.list-index in
    let one = c.list-item.result in
    let here : first_at (map items xs) i ≡ c.first_of.result = ap (λ (l : List Entry). slice_get l 0) (get_or-map items xs i one [] c.loop-list-test.true ∙ ap items (sym c.list-item.is)) ∙ sym c.first_of.ensures in
    subst (λ (r : Option Entry). IsLeastBelow (map items xs) (i + 1) r) (sym c.lesser-least.ensures) (least_more (map items xs) i c.loop-list.least c.first_of.result c.loop-list.invariant here)
