use Rattle.mp_rows_laws.proofs.Ingested.{ingested}
use Rattle.mp_rows_laws.proofs.laws.ingested_events_are_counted.Goals as goal

pub returns : goal.returns
returns c = λ o w log ok good t k g mine fresh. ingested o w log ok good t k g mine fresh
