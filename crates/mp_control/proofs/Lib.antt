-- The lemmas of this crate.
mod DrainSteps
mod FirstVersion
mod LegalControls
mod LegalSettings
mod LineSteps
mod Made
mod Marked
mod Numbers
mod Planned
mod SaidSteps
mod ValuesSaid
