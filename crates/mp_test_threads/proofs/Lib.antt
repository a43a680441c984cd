-- Lemmas.
mod GivingRows
