-- The command set, as plain data that clap's definitions read.
use Rattle.std.specs.Prelude.{true, Some, List, [], ◌∷◌, ◌++◌, ℕ, codes}
use Rattle.clap.specs.Words.{App, Rule, Shape, new_app, new_rule, with_subcommand}
use Rattle.clap.specs.Simple.{new_shape, on_top}
use Rattle.clap.specs.declared.builder.action.ArgAction.TheVariants.{Set, SetTrue}

-- an option `--name` that takes one value
abbrev pub valued : List ℕ → Rule
valued name = record (new_rule name) { long = Some name; action = Some Set }

-- one that has to be there
abbrev pub needed : List ℕ → Rule
needed name = record (valued name) { required = true }

-- one whose value is `value` where it isn't there
abbrev pub defaulted : List ℕ → List ℕ → Rule
defaulted name value = record (valued name) { defaults = value ∷ [] }

-- a flag `--name`, which takes no value
abbrev pub flag : List ℕ → Rule
flag name = record (new_rule name) { long = Some name; action = Some SetTrue }

-- the options of what a job reads
abbrev pub input_rules : List Rule
input_rules = needed (codes "query") ∷ valued (codes "pipe") ∷ needed (codes "events") ∷ needed (codes "config") ∷ []

-- those of its size
abbrev pub size_rules : List Rule
size_rules = defaulted (codes "workers") (codes "1") ∷ defaulted (codes "bins") (codes "16") ∷ []

-- that of the mailboxes' depth
abbrev pub depth_rules : List Rule
depth_rules = defaulted (codes "depth") (codes "64") ∷ []

-- those of the machine that runs
abbrev pub machine_rules : List Rule
machine_rules = flag (codes "paced") ∷ (size_rules ++ depth_rules)

-- those of the part of the events that is taken
abbrev pub span_rules : List Rule
span_rules = valued (codes "until") ∷ valued (codes "save") ∷ valued (codes "from") ∷ []

-- the options that both commands have which write an answer
abbrev pub shared_rules : List Rule
shared_rules = input_rules ++ needed (codes "out") ∷ valued (codes "report") ∷ valued (codes "journal") ∷ (span_rules ++ machine_rules)

-- a command with these options
abbrev pub shared_shape : List ℕ → Shape
shared_shape name = record (new_shape name) { rules = shared_rules }

-- `run` has no more
abbrev pub run_shape : Shape
run_shape = shared_shape (codes "run")

-- `replay` may have a seed
abbrev pub replay_shape : Shape
replay_shape = record (shared_shape (codes "replay")) { rules = shared_rules ++ valued (codes "seed") ∷ [] }

-- `check` reads what `run` reads
abbrev pub check_shape : Shape
check_shape = record (new_shape (codes "check")) { rules = input_rules ++ size_rules }

-- `make` makes so many events, and may have a seed
abbrev pub make_shape : Shape
make_shape = record (new_shape (codes "make")) { rules = needed (codes "count") ∷ needed (codes "out") ∷ valued (codes "seed") ∷ [] }

-- `demo` makes so many events and runs them
abbrev pub demo_shape : Shape
demo_shape = record (new_shape (codes "demo")) {
  rules = needed (codes "query") ∷ needed (codes "count") ∷ valued (codes "seed") ∷ (size_rules ++ depth_rules);
}

-- `audit` reads what `run` reads, and then an answer and a journal
abbrev pub audit_shape : Shape
audit_shape = record (new_shape (codes "audit")) { rules = input_rules ++ needed (codes "out") ∷ needed (codes "journal") ∷ machine_rules }

-- no option of the program itself, none for help or the version, no command `help`, and a subcommand has to be there
abbrev pub bare : Shape → Shape
bare s = record s { disable_help_flag = true; disable_version_flag = true; disable_help_subcommand = true; subcommand_required = true }

-- the program with the subcommands that write an answer
abbrev pub with_runs : App → App
with_runs program = with_subcommand (with_subcommand program run_shape) replay_shape

-- the program with those that write none
abbrev pub with_others : App → App
with_others program = with_subcommand (with_subcommand (with_subcommand program check_shape) make_shape) demo_shape

-- the program with the one that reads an answer
abbrev pub with_audit : App → App
with_audit program = with_subcommand program audit_shape

-- the program with its subcommands
unfoldable pub command_app : App
command_app = with_audit (with_others (with_runs (on_top bare (new_app (codes "megaphone")))))
