-- What holds where an exchange gives one answer or another.
use Rattle.std.specs.Prelude.{Ok, Err}
use Rattle.std.specs.declared.result.Result.{Result}
use Rattle.mp_stamps.specs.declared.seen.Seen.{Seen}
use Rattle.mp_board.specs.declared.causes.Answer.{Answer}
use Rattle.mp_board.specs.declared.causes.Answer.TheVariants.{Got, Busy}
use Rattle.mp_board.specs.declared.causes.Cause.{Cause}
use Rattle.mp_board.specs.declared.causes.HubStop.{HubStop}
use Rattle.mp_board.specs.declared.causes.HubStop.TheVariants.{Other}

-- the log was posted, and P holds of what was seen
abbrev pub IfGot : Result Answer HubStop → (Seen → Type 0) → Type 0
IfGot (Ok (Got seen)) P = P seen
IfGot _ P = Unit {0}

-- the board was held by another
abbrev pub IfBusy : Result Answer HubStop → Type 0 → Type 0
IfBusy (Ok Busy) P = P
IfBusy _ P = Unit {0}

-- another worker had stopped, and P holds of its cause
abbrev pub IfStopped : Result Answer HubStop → (Cause → Type 0) → Type 0
IfStopped (Err (Other cause)) P = P cause
IfStopped _ P = Unit {0}

-- the board was reached, and no worker had stopped: the log was posted
abbrev pub IfTried : Result Answer HubStop → Type 0 → Type 0
IfTried (Ok (Got seen)) P = P
IfTried _ P = Unit {0}

-- the log wasn't posted
abbrev pub IfNotPosted : Result Answer HubStop → Type 0 → Type 0
IfNotPosted (Ok (Got seen)) P = Unit {0}
IfNotPosted _ P = P
