use Rattle.std.proofs.Common.{◌≡◌, ◌∙◌, None, Some, ap, sym}
use Rattle.std.specs.Option.{option_map}
use Rattle.std.proofs.lemmas.Option.{none-some, same_Some}
use Rattle.mp_saved.specs.Numbers.{numbers_in}
use Rattle.mp_auctions.specs.Bidding.{bids_said}
use Rattle.mp_auctions.specs.Laws.Texts.{read_first, read_later, read_some}
use Rattle.mp_auctions.proofs.closed.ClosedSaved.read_cell.Goals as goal

-- no numbers are read
pub returns-in_default : goal.returns-in_default
returns-in_default g c = λ key until cell h e.
    let laws = g.met.S.Sales in
    let vs = g.S.Sales.values c.args.self.now.sales in
    let none : None ≡ numbers_in c.args.text.now = sym (ap (option_map (λ v. v.items)) c.in_default.is) ∙ c.in_ok-numbers.ensures in
    absurd (read_some g.S.Sales.party g.S.Sales.numbers (g.S.Sales.sales vs) (laws.numbers_tell vs) c.args.stage key until cell c.args.text.now h e none)

-- in the first stage they say the bidding
pub returns-then-stage-eq0 : goal.returns-then-stage-eq0
returns-then-stage-eq0 g c = λ key until cell h e.
    let laws = g.met.S.Sales in
    let vs = g.S.Sales.values c.args.self.now.sales in
    let ns = c.in-Some.numbers.items in
    let read : Some ns ≡ numbers_in c.args.text.now = sym (ap (option_map (λ v. v.items)) c.in-Some.is) ∙ c.in_ok-numbers.ensures in
    let bidding = c.said-bidding.ensures ∙ ap bids_said c.as_slice.ensures.value in
    let sales = c.none-sales.ensures in
    (λ i. Some (record { bidding = bidding i; sales = sales i }))
    ∙ ap Some (read_first g.S.Sales.party g.S.Sales.numbers (g.S.Sales.sales vs) (laws.numbers_tell vs) c.args.stage key until cell c.args.text.now ns c.if-stage-eq0.true h e read)

-- later they say what is kept of sales
pub returns-in_default-said : goal.returns-in_default-said
returns-in_default-said g c = λ key until cell h e.
    let laws = g.met.S.Sales in
    let vs = g.S.Sales.values c.args.self.now.sales in
    let ns = c.in-Some.numbers.items in
    let read : Some ns ≡ numbers_in c.args.text.now = sym (ap (option_map (λ v. v.items)) c.in-Some.is) ∙ c.in_ok-numbers.ensures in
    let told = read_later g.S.Sales.party g.S.Sales.numbers (g.S.Sales.sales vs) (laws.numbers_tell vs) c.args.stage key until cell c.args.text.now ns c.if-stage-eq0.false h e read in
    absurd (none-some cell.sales (c.in_default-said.ensures cell.sales told.1 told.2))

pub returns : goal.returns
returns g c = λ key until cell h e.
    let laws = g.met.S.Sales in
    let vs = g.S.Sales.values c.args.self.now.sales in
    let ns = c.in-Some.numbers.items in
    let read : Some ns ≡ numbers_in c.args.text.now = sym (ap (option_map (λ v. v.items)) c.in-Some.is) ∙ c.in_ok-numbers.ensures in
    let told = read_later g.S.Sales.party g.S.Sales.numbers (g.S.Sales.sales vs) (laws.numbers_tell vs) c.args.stage key until cell c.args.text.now ns c.if-stage-eq0.false h e read in
    let bidding = c.new-bidding.ensures ∙ told.0 in
    let sales = same_Some c.in-Some-said.sales cell.sales (c.in-Some-said.ensures cell.sales told.1 told.2) in
    λ i. Some (record { bidding = bidding i; sales = sales i })
