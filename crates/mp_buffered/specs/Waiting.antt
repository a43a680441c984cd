-- What of a buffer waits.
use Rattle.std.specs.Prelude.{ℕ, List, drop}
use Rattle.mp_buffered.specs.declared.buffered.Buffered.{Buffered}

-- the bytes that were gathered and aren't handed on yet
abbrev pub waiting : {S : Type 0} → Buffered S → List ℕ
waiting buffered = drop buffered.handed buffered.gathered.now.items
