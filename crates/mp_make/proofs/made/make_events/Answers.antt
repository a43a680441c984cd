use Rattle.std.proofs.Common.{◌≡◌, ◌+◌, ◌-◌, ◌<◌, ◌^◌, ◌++◌, ◌∷◌, [], List, ℕ, suc, ap, sym, ◌∙◌, ◌≤◌, subst, append_assoc, append-nil, arith}
use Rattle.mp_model.specs.Legal.{EventsAreLegal}
use Rattle.mp_model.specs.Plain.{EventsArePlain}
use Rattle.mp_make.proofs.Legal.{made_are_legal}
use Rattle.mp_make.proofs.PlainNames.{made_are_plain}
use Rattle.mp_model.specs.declared.record.Event.{Event}
use Rattle.mp_make.specs.Made.{event_at, events_from}
use Rattle.mp_make.proofs.made.make_events.Goals as goal

one_more : (old new all : List Event) (index n x y : ℕ) (e : Event) → old ++ events_from index (n - index) x ≡ all → index < n
    → e ≡ (event_at index x).0 → y ≡ (event_at index x).1 → new ≡ old ++ e ∷ [] → new ++ events_from (index + 1) (n - (index + 1)) y ≡ all
one_more old new all index n x y e before low event last is =
    let left : n - index ≡ suc (n - (index + 1)) = omega (arith, low) in
    let rest : List Event = events_from (index + 1) (n - (index + 1)) (event_at index x).1 in
    ap (λ l. l ++ events_from (index + 1) (n - (index + 1)) y) is
    ∙ append_assoc old (e ∷ []) (events_from (index + 1) (n - (index + 1)) y)
    ∙ ap (λ z. old ++ e ∷ events_from (index + 1) (n - (index + 1)) z) last
    ∙ ap (λ d. old ++ d ∷ rest) event
    ∙ ap (λ m. old ++ events_from index m x) (sym left)
    ∙ before

pub loop-index-preserved : goal.loop-index-preserved
loop-index-preserved c =
    one_more c.loop-index.events.items c.push.new.self.items _ c.loop-index.index c.args.count c.loop-index.draws c.event_at.new.draws c.in_ok-event_at.field-0 c.loop-index.invariant c.loop-index-test.true
    c.in_ok-event_at.ensures.event c.in_ok-event_at.ensures.draws c.in_ok-push.ensures.items

whole : (items all : List Event) (index n x : ℕ) → items ++ events_from index (n - index) x ≡ all → n ≤ index → all ≡ items
whole items all index n x before over =
    let none : n - index ≡ 0 = omega (arith, over) in
    sym before ∙ ap (λ m. items ++ events_from index m x) none ∙ append-nil items

pub returns-clause-legal : goal.returns-clause-legal
returns-clause-legal c = λ few.
    subst EventsAreLegal (whole _ _ c.loop-index.index c.args.count c.loop-index.draws c.loop-index.invariant c.loop-index-test.false) (made_are_legal c.args.count c.args.seed few)

pub returns-clause-plain : goal.returns-clause-plain
returns-clause-plain c =
    let few : c.args.count < 2 ^ 64 = omega arith in
    subst EventsArePlain (whole _ _ c.loop-index.index c.args.count c.loop-index.draws c.loop-index.invariant c.loop-index-test.false) (made_are_plain c.args.count c.args.seed few)
