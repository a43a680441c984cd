-- What the crates above take of those below through this one.
pub use Rattle.mp_worker_parts.specs.Below.{IsTallyOf, Moved, MovedHasKeys, Tally, name_of_moved, others_write_nothing, push_all, sent_packets, written_lines}
pub use Rattle.mp_worker_parts.specs.Exchanging.{IsPosted, ShowsNothingNew}
