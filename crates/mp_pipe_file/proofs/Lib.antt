-- The lemmas of this crate.
mod StageSteps
mod StagesRead
