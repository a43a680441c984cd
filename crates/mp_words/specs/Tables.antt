-- What a command that is built from tables is as plain data.
use Rattle.std.specs.Prelude.{◌≡◌, ◌∷◌, [], ℕ, List, false, map}
use Rattle.clap.specs.Words.{App, Rule, Shape, shape_of, with_subcommand}
use Rattle.clap.specs.Simple.{new_shape}
use Rattle.clap.specs.declared.builder.command.Command.{Command}
use Rattle.clap.specs.declared.builder.command.Command.TheViews.{out-Command}
use Rattle.mp_words.specs.Command.{defaulted, flag, needed, valued}
use Rattle.mp_words.specs.declared.command.CommandRule.{CommandRule}
use Rattle.mp_words.specs.declared.command.OptionRule.{OptionRule}
use Rattle.mp_words.specs.declared.command.OptionRule.TheVariants.{Defaulted, Flag, Needed, Valued}

-- no argument of the command is global
abbrev pub IsLocal : Command → Type 0
IsLocal c = (out-Command c).has_globals ≡ false

-- the command is this data, and local
pub record Denotes (s : Shape) (c : Command) : Type 0 where
  pub shape : shape_of c ≡ s
  pub local : IsLocal c

-- what a table says of an option
abbrev pub rule_in : OptionRule → Rule
rule_in (Valued name) = valued name.now
rule_in (Needed name) = needed name.now
rule_in (Defaulted name value) = defaulted name.now value.now
rule_in (Flag name) = flag name.now

-- a command of this name with these options
abbrev pub shape_with : List ℕ → List OptionRule → Shape
shape_with name options = record (new_shape name) { rules = map rule_in options }

-- a program with these commands after its own
abbrev pub with_all : App → List CommandRule → App
with_all program [] = program
with_all program (c ∷ more) = with_all (with_subcommand program (shape_with c.name.now c.options.now)) more
