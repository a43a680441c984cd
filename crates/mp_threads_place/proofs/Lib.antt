-- Lemmas.
pub mod Marks
