-- The list has the first bytes.
use Rattle.std.proofs.Common.{◌≡◌, take}
use Rattle.mp_model.proofs.text.short.Given as goal

abbrev pub invariant-loop-byte : goal.invariant-loop-byte
invariant-loop-byte l = l.list ≡ take l.byte-index l.bytes
