use Rattle.std.proofs.Common.{◌≡◌, ◌++◌, ◌∙◌, ℕ, List, ap, map, refl, sym}
use Rattle.std.specs.Vec.Iter.{into_iter_items}
use Rattle.std.proofs.lemmas.List.{append-nil, nil_from_length}
use Rattle.mp_worker_parts.proofs.last.add_states.Goals as goal

-- equal lists and equal stages give the same
alike : {Held State : Type 0} (state : Held → State) (xs ys : List (ℕ × State)) (i j : ℕ) (hs held : List Held) → xs ≡ ys → i ≡ j → hs ≡ held → xs ++ map (λ s. (i, state s)) hs ≡ ys ++ map (λ s. (j, state s)) held
alike state xs ys i j hs held e f g = rw (e, f, g) refl

pub returns-clause-states : goal.returns-clause-states
returns-clause-states g c =
    let i = c.loop-one in
    let over = nil_from_length (into_iter_items i.one-iterator) (sym i.one-iterator.rest.ok.0 ∙ c.in-None.ensures.steps.0) in
    let had : c.reserve.new.self.items ≡ c.args.states.now.items = c.in_ok-reserve.ensures.items in
    let stage : c.stage-stage.result ≡ c.args.host.stage = c.stage-stage.ensures in
    let held : c.into_states-held.result.items ≡ c.args.host.held = c.into_states-held.ensures.held in
    let given : into_iter_items c.into_iter-one-iterator.result ≡ c.into_states-held.result.items = c.into_iter-one-iterator.ensures.into_iter_gives.0 in
    sym (append-nil i.states.items) ∙ (ap (λ left. i.states.items ++ map (λ s. (c.stage-stage.result, s.state)) left) (sym over) ∙ (i.invariant.states ∙ alike (λ s. s.state) _ _ _ _ _ _ had stage (given ∙ held)))
