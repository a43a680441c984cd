-- The record of an event, and the worker that takes it in.
pub use Rattle.mp_shares.specs.Records.{is_taken_by, record_at, share_of, shares_of}
