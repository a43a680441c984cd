-- Which words are a command.
use Rattle.std.specs.Prelude.{ℕ, List, [], ◌∷◌, Option, None, codes, map, string_bytes, String, if◌then◌else◌, option_map, option_and_then}
use Rattle.std.specs.Str.{bytes_eq}
use Rattle.std.specs.Global.{Global}
use Rattle.clap.specs.Words.{Kinds, Row, fault_of, subcommand_of}
use Rattle.mp_words.specs.Command.{command_app}
use Rattle.mp_words.specs.declared.options.Command.{Command}
use Rattle.mp_words.specs.declared.options.Command.TheVariants as read
use Rattle.mp_words.specs.declared.options.DemoOptions.{DemoOptions}
use Rattle.mp_words.specs.declared.options.Schedule.TheVariants.{Threads}
use Rattle.mp_words.specs.Values.{AuditAsked, Options, CheckAsked, MakeAsked, audit_in, audit_of, check_in, check_of, demo_of, make_in, make_of, options_in, options_of, replay_of}

-- what a command asks for
pub data Asked : Type 0 where
  Run : (options : Options) → Asked
  Check : (options : CheckAsked) → Asked
  Make : (options : MakeAsked) → Asked
  Demo : (options : DemoOptions) → Asked
  Audit : (options : AuditAsked) → Asked

-- what the command that was read asks for
abbrev pub asked_in : Command → Asked
asked_in (read.Run options) = Run (options_in options)
asked_in (read.Check options) = Check (check_in options)
asked_in (read.Make options) = Make (make_in options)
asked_in (read.Demo options) = Demo options
asked_in (read.Audit options) = Audit (audit_in options)

-- what the subcommand of this name asks for by the values of its options, if each is allowed
abbrev pub asked_of : List ℕ × List Row → Option Asked
asked_of used =
    if bytes_eq used.0 (codes "run") then option_map Run (options_of Threads used.1)
    else if bytes_eq used.0 (codes "replay") then option_map Run (replay_of used.1)
    else if bytes_eq used.0 (codes "check") then option_map Check (check_of used.1)
    else if bytes_eq used.0 (codes "make") then option_map Make (make_of used.1)
    else if bytes_eq used.0 (codes "demo") then option_map Demo (demo_of used.1)
    else if bytes_eq used.0 (codes "audit") then option_map Audit (audit_of used.1)
    else None

-- the subcommand that was met, where the words have no fault
abbrev pub values_without : Kinds → Option (List ℕ × List Row) → Option (List ℕ × List Row)
values_without [] met = met
values_without (fault ∷ more) met = None

-- The subcommand that clap finds in words that it finds no fault with, and the values of its options. The first word is the
-- program's name, whatever it is; the subcommand comes next; then the options in any order. An option's value is the word after it, which
-- doesn't begin with `-` unless it is `-` alone, or what stands in its own word after the first `=`. No option comes twice, a
-- `--` at the end is passed over, and any other word is a fault
unfoldable pub values_in : List (List ℕ) → Option (List ℕ × List Row)
values_in words = values_without (fault_of command_app words) (subcommand_of command_app words)

-- what words ask for, where clap takes them and each value is allowed
abbrev pub command_of : List (List ℕ) → Option Asked
command_of words = option_and_then asked_of (values_in words)

-- what the words of a command line ask for, if they are in the command set
abbrev pub command_in : List (String Global) → Option Asked
command_in words = command_of (map string_bytes words)
