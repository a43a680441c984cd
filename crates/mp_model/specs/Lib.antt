-- What the contracts of this crate cite.
pub mod Always
pub mod Answers
pub mod Ascending
pub mod Entry
pub mod Facts
pub mod Fields
pub mod Folds
pub mod Legal
pub mod Plain
pub mod QueryLaws
pub mod Rules
pub mod Stages
pub mod Tables
pub mod Texts
pub mod TableLaws
