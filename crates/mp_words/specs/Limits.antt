-- What holds of whatever a command asks for.
use Rattle.std.specs.Prelude.{◌≡◌, ◌≤◌, ◌^◌, ℕ, true}
use Rattle.mp_names.specs.Limits.{deepest_mailbox, greatest_seed, greatest_time, most_events, most_workers}
use Rattle.mp_words.specs.declared.options.AuditOptions.{AuditOptions}
use Rattle.mp_words.specs.declared.options.CheckOptions.{CheckOptions}
use Rattle.mp_words.specs.declared.options.Command.{Command}
use Rattle.mp_words.specs.declared.options.Command.TheVariants.{Run, Check, Make, Demo, Audit}
use Rattle.mp_words.specs.declared.options.DemoOptions.{DemoOptions}
use Rattle.mp_words.specs.declared.options.MakeOptions.{MakeOptions}
use Rattle.mp_words.specs.declared.options.RunOptions.{RunOptions}
use Rattle.mp_words.specs.declared.options.Schedule.{Schedule}
use Rattle.mp_words.specs.declared.options.Schedule.TheVariants.{Threads, Seeded}
use Rattle.mp_words.specs.declared.options.Span.{Span}
use Rattle.mp_words.specs.declared.options.Span.TheVariants.{Whole, Until, From}
use Rattle.mp_words.specs.Values.{names_are_apart, options_in, span_is_allowed}

-- a number is at least 1 and at most `most`
abbrev pub IsPositiveUpTo : ℕ → ℕ → Type 0
IsPositiveUpTo most n = (1 ≤ n) × (n ≤ most)

-- a power of two from 1 to 4096
abbrev pub IsBinCount : ℕ → Type 0
IsBinCount bins = (k : ℕ) × (k ≤ 12) × (bins ≡ 2 ^ k)

-- the seed, where there is one, is within its limit
abbrev pub SeedIsWithinLimit : Schedule → Type 0
SeedIsWithinLimit Threads = Unit {0}
SeedIsWithinLimit (Seeded seed) = seed ≤ greatest_seed

-- the time that a run stops at, where there is one, is within its limits
abbrev pub SpanIsWithinLimit : Span → Type 0
SpanIsWithinLimit Whole = Unit {0}
SpanIsWithinLimit (Until time save) = IsPositiveUpTo greatest_time time
SpanIsWithinLimit (From name) = Unit {0}

-- the numbers are within their limits, what is written has names of its own, and a run of a part of the events is that of a named query and keeps no journal
pub record AreWithinLimits (options : RunOptions) : Type 0 where
  pub workers : IsPositiveUpTo most_workers options.workers
  pub bins : IsBinCount options.bins
  pub depth : IsPositiveUpTo deepest_mailbox options.depth
  pub seed : SeedIsWithinLimit options.schedule
  pub time : SpanIsWithinLimit options.span
  pub names : names_are_apart (options_in options) ≡ true
  pub span : span_is_allowed (options_in options) ≡ true

-- the numbers of `check` are within their limits
pub record CheckIsWithinLimits (options : CheckOptions) : Type 0 where
  pub workers : IsPositiveUpTo most_workers options.workers
  pub bins : IsBinCount options.bins

-- the numbers of `make` are within their limits
pub record MakeIsWithinLimits (options : MakeOptions) : Type 0 where
  pub count : options.count ≤ most_events
  pub seed : options.seed ≤ greatest_seed

-- the numbers of `demo` are within their limits
pub record DemoIsWithinLimits (options : DemoOptions) : Type 0 where
  pub count : options.count ≤ most_events
  pub seed : options.seed ≤ greatest_seed
  pub workers : IsPositiveUpTo most_workers options.workers
  pub bins : IsBinCount options.bins
  pub depth : IsPositiveUpTo deepest_mailbox options.depth

-- the numbers of `audit` are within their limits
pub record AuditIsWithinLimits (options : AuditOptions) : Type 0 where
  pub workers : IsPositiveUpTo most_workers options.workers
  pub bins : IsBinCount options.bins
  pub depth : IsPositiveUpTo deepest_mailbox options.depth

-- what a command asks for is within its limits
abbrev pub IsWithinLimits : Command → Type 0
IsWithinLimits (Run options) = AreWithinLimits options
IsWithinLimits (Check options) = CheckIsWithinLimits options
IsWithinLimits (Make options) = MakeIsWithinLimits options
IsWithinLimits (Demo options) = DemoIsWithinLimits options
IsWithinLimits (Audit options) = AuditIsWithinLimits options
