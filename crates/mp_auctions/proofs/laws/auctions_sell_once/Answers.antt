use Rattle.mp_model.specs.Stages.{input_records}
use Rattle.mp_auctions.specs.Laws.Selling.{few_sales, sold_once}
use Rattle.mp_auctions.specs.SaleLaws.{closed_in}
use Rattle.mp_auctions.proofs.laws.auctions_sell_once.Goals as goal

pub returns-clause-once : goal.returns-clause-once
returns-clause-once g c = λ job. sold_once g.S.Sales.party g.S.Sales.sales job (input_records (closed_in g.S.Sales.party g.S.Sales.sales job) job.events)

pub returns-clause-few : goal.returns-clause-few
returns-clause-few g c = few_sales g.S.Sales.party g.S.Sales.sales
