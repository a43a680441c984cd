-- What a run's inputs and its size are, as they are read.
use Rattle.mp_names.specs.Limits.{deepest_mailbox, most_workers}
use Rattle.mp_words.specs.Limits.{IsBinCount, IsPositiveUpTo}
use Rattle.mp_words.specs.Values.{InputsAsked, SizeAsked, query_in}
use Rattle.mp_words.specs.declared.values.Inputs.{Inputs}
use Rattle.mp_words.specs.declared.values.Size.{Size}

-- the inputs that were read
abbrev pub inputs_read : Inputs → InputsAsked
inputs_read i = record { query = query_in i.query; events = i.events.now; config = i.config.now }

-- the size that was read
abbrev pub size_read : Size → SizeAsked
size_read s = record { workers = s.workers; bins = s.bins; depth = s.depth }

-- its numbers are within their limits
pub record SizeIsWithinLimits (s : Size) : Type 0 where
  pub workers : IsPositiveUpTo most_workers s.workers
  pub bins : IsBinCount s.bins
  pub depth : IsPositiveUpTo deepest_mailbox s.depth
