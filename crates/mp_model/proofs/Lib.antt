pub mod GroupRecords
pub mod LastTimes
pub mod LegalRecords
pub mod Lists
pub mod PlainNumbers
pub mod SavedWakes
pub mod Tables
