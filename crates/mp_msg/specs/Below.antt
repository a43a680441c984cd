-- What the crates above take of those below through this one.
pub use Rattle.mp_outline.proofs.Named.{In_named, named_In}
pub use Rattle.mp_outline.proofs.Outputs.{stage_outputs_in_order}
pub use Rattle.mp_outline.proofs.Pairs.{Pairs, Pairs-filter, Pairs-within}
pub use Rattle.mp_outline.specs.Below.{Contains-cases, Contains-filter, Contains-here, Contains-later, filter-Contains, nothing_in_nil}
pub use Rattle.mp_outline.specs.JobOutline.{name_of_row, outline_of}
pub use Rattle.mp_outline.specs.Laws.{OutputsInOrder, TagIsBefore}
