use Rattle.std.proofs.Common.{◌≡◌, ◌<◌, List, length, map, take, ◌-◌, drop, set, ap, sym, ◌∙◌, subst, arith}
use Rattle.std.proofs.lemmas.List.{length-map, map-set}
use Rattle.mp_names.specs.declared.kinds.Kept.{Kept}
use Rattle.mp_machine.specs.Steps.{rest_of}
use Rattle.mp_journal_laws.specs.Journals.{next_version}
use Rattle.mp_audit.specs.Lists.{list_of, one_taken}
use Rattle.mp_audit.proofs.Lists.{another_next, same_next, list_at, next_stays, rest_is}
use Rattle.mp_audit.proofs.left.Left.take.Goals as goal

pub invariant_of-self : goal.invariant_of-self
invariant_of-self c =
    let rest = c.self.inside.rest.items in
    let list = c.index-list.result.now.now in
    let steps = take (length list - 1) (drop 1 list) in
    ap (set c.self.inside.nexts.items c.args.worker) c.next_version.ensures
    ∙ another_next c.self.inside.nexts.items (map (λ s. s.now) rest) c.self.invariant c.args.worker steps
    ∙ ap (map next_version) (sym (map-set (λ s. s.now) rest c.args.worker _))

pub invariant_of-self-else-is_exchange : goal.invariant_of-self-else-is_exchange
invariant_of-self-else-is_exchange c =
    let rest = c.self.inside.rest.items in
    let w = c.args.worker in
    let list = c.index-list.result.now in
    let low : w < length rest = omega (arith, c.requires.worker, length-map rest (λ s. s.now), ap length c.self.view_is) in
    let here : list_of (map (λ s. s.now) rest) w ≡ list.now = list_at (λ s. s.now) rest w list low c.index-list.ensures in
    let some : 0 < length list.now = subst (λ (ls : List Kept). 0 < length ls) (ap (λ (ls : List (List Kept)). list_of ls w) (sym c.self.view_is) ∙ here) c.requires.some in
    let same = ap next_version (rest_is list.now) ∙ next_stays list.now _ some (sym c.is_exchange.ensures ∙ c.if-is_exchange.false) ∙ ap next_version (sym here) in
    same_next c.self.inside.nexts.items (map (λ s. s.now) rest) c.self.invariant w (take (length list.now - 1) (drop 1 list.now)) same ∙ ap (map next_version) (sym (map-set (λ s. s.now) rest w _))

pub returns-then-is_exchange : goal.returns-then-is_exchange
returns-then-is_exchange c =
    let rest = c.self.inside.rest.items in
    let w = c.args.worker in
    let list = c.index-list.result.now in
    let low : w < length rest = omega (arith, c.requires.worker, length-map rest (λ s. s.now), ap length c.self.view_is) in
    let here = list_at (λ s. s.now) rest w list low c.index-list.ensures in
    map-set (λ s. s.now) rest w _ ∙ ap (set (map (λ s. s.now) rest) w) (rest_is list.now ∙ ap rest_of (sym here)) ∙ ap (λ (ls : List (List Kept)). one_taken ls w) c.self.view_is

pub returns-else-is_exchange : goal.returns-else-is_exchange
returns-else-is_exchange c =
    let rest = c.self.inside.rest.items in
    let w = c.args.worker in
    let list = c.index-list.result.now in
    let low : w < length rest = omega (arith, c.requires.worker, length-map rest (λ s. s.now), ap length c.self.view_is) in
    let here = list_at (λ s. s.now) rest w list low c.index-list.ensures in
    map-set (λ s. s.now) rest w _ ∙ ap (set (map (λ s. s.now) rest) w) (rest_is list.now ∙ ap rest_of (sym here)) ∙ ap (λ (ls : List (List Kept)). one_taken ls w) c.self.view_is
