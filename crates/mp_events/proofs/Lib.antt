-- The lemmas of this crate.
pub mod LegalEvents
mod EventLines
mod LineSteps
mod PlainNames
mod Renumbered
mod UsualLines
mod UsualNumbers
mod WrittenLines
mod Numbers
mod Pieces
