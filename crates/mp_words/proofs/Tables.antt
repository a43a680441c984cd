-- A command that is built from tables, step by step.
use Rattle.std.proofs.Common.{◌≡◌, ◌∙◌, ◌||◌, ◌++◌, ◌+◌, ◌∷◌, ◌<◌, ℕ, List, [], ap, ap₂, false, sym, add-one, drop, get_or, length, map, take}
use Rattle.std.proofs.Math.Seq.{drop-cons, take-suc}
use Rattle.std.proofs.lemmas.List.{map-append}
use Rattle.clap.specs.Words.{AddsArg, AddsSubcommand, App, Rule, Shape, app_of, new_app, rule_of, with_subcommand}
use Rattle.clap.specs.Simple.{new_shape}
use Rattle.clap.specs.declared.builder.arg.Arg.{Arg}
use Rattle.clap.specs.declared.builder.command.Command.{Command}
use Rattle.mp_words.specs.Tables.{Denotes, IsLocal, rule_in, shape_with, with_all}
use Rattle.mp_words.specs.declared.command.CommandRule.{CommandRule}
use Rattle.mp_words.specs.declared.command.OptionRule.{OptionRule}

-- a new command has no options
pub fresh : (name : List ℕ) (options : List OptionRule) (c : Command) → app_of c ≡ new_app name → IsLocal c → Denotes (shape_with name (take 0 options)) c
fresh name options c is local = record { shape = ap (λ (a : App). a.top) is; local = local }

-- one more argument is one more option
pub added : (name : List ℕ) (options : List OptionRule) (i : ℕ) (d : OptionRule) (old : Command) (arg : Arg) (new : Command)
    → i < length options → Denotes (shape_with name (take i options)) old → AddsArg old arg new
    → rule_of arg ≡ rule_in (get_or options i d) → arg.global ≡ false → Denotes (shape_with name (take (i + 1) options)) new
added name options i d old arg new low done adds is local =
    let more : take (i + 1) options ≡ take i options ++ get_or options i d ∷ [] = rw add-one (take-suc options i d low) in
    let rules : map rule_in (take (i + 1) options) ≡ map rule_in (take i options) ++ rule_in (get_or options i d) ∷ [] =
    ap (map rule_in) more ∙ map-append rule_in (take i options) (get_or options i d ∷ []) in
    record {
      shape = ap (λ (a : App). a.top) (adds.shape local)
          ∙ ap₂ (λ (s : Shape) (rule : Rule). record s { rules = s.rules ++ rule ∷ [] }) done.shape is
          ∙ ap (λ (all : List Rule). record (new_shape name) { rules = all }) (sym rules);
      local = adds.globals ∙ ap₂ (λ a b. a || b) done.local local;
    }

-- one more command, and those that are left
pub joined : (commands : List CommandRule) (i : ℕ) (d : CommandRule) (old sub new : Command)
    → i < length commands → Denotes (shape_with (get_or commands i d).name.now (get_or commands i d).options.now) sub → AddsSubcommand old sub new
    → with_all (app_of new) (drop (i + 1) commands) ≡ with_all (app_of old) (drop i commands)
joined commands i d old sub new low made adds =
    let here = get_or commands i d in
    let left : drop i commands ≡ here ∷ drop (i + 1) commands = rw add-one (drop-cons commands i d low) in
    let grown : app_of new ≡ with_subcommand (app_of old) (shape_with here.name.now here.options.now) = adds.shape made.local ∙ ap (with_subcommand (app_of old)) made.shape in
    ap (λ (a : App). with_all a (drop (i + 1) commands)) grown ∙ ap (with_all (app_of old)) (sym left)
