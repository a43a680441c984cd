-- What contracts see of a group.
use Rattle.std.specs.Prelude.{ℕ, Bool, List}
use Rattle.mp_model.specs.declared.record.Rec.{Rec}

-- a key at a time: whether it is woken, and its records in order of their tags
pub record Entry : Type 0 where
  pub time : ℕ
  pub key : ℕ
  pub woken : Bool
  pub recs : List Rec
