use Rattle.std.proofs.Common.{◌≡◌, ◌<◌, List, [], ◌∷◌, ◌++◌, length, map, get_or, set, ap, sym, ◌∙◌, arith}
use Rattle.std.proofs.lemmas.List.{get_or-map, map-set}
use Rattle.mp_journal.specs.Journals.{Said, with_step}
use Rattle.mp_names.specs.declared.kinds.Kept.{Kept}
use Rattle.mp_journal.proofs.reading.StepLists.push.Goals as goal

pub returns : goal.returns
returns c =
    let lists = c.self.inside.lists.items in
    let worker = c.args.line.worker in
    let step = c.args.line.step in
    let here : worker < length lists = omega (arith, c.requires, c.self.invariant, ap (λ (s : Said). s.shape.workers) c.self.view_is) in
    let before : get_or (map (λ v. v.items) lists) worker [] ≡ c.index_mut.result.now.items =
    get_or-map (λ v. v.items) lists worker c.index_mut.result.now [] here ∙ ap (λ v. v.items) (sym c.index_mut.ensures.value) in
    let steps = map-set (λ v. v.items) lists worker c.push.new.self ∙ ap (λ (s : List Kept). set (map (λ v. v.items) lists) worker s) (c.in_ok-push.ensures.items ∙ ap (λ (s : List Kept). s ++ step ∷ []) (sym before)) in
    ap (λ (ls : List (List Kept)). record { shape = c.self.inside.shape; last = worker; lists = ls }) steps ∙ ap (λ (s : Said). with_step s worker step) c.self.view_is
