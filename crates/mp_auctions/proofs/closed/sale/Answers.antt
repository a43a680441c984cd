use Rattle.std.proofs.Common.{◌∙◌, Some, ap, sym}
use Rattle.std.specs.Option.{option_map}
use Rattle.mp_model.specs.declared.value.Value.TheVariants.{Sale}
use Rattle.mp_auctions.proofs.closed.sale.Goals as goal

pub returns-in-Some : goal.returns-in-Some
returns-in-Some g c =
    (λ i. Some (Sale (c.party.ensures i) c.in-Some.price))
    ∙ ap (option_map (λ s. Sale (g.S.Sales.party s.0) s.1)) (sym c.in-Some.is ∙ c.sold_in.ensures)
