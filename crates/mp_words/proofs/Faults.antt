-- What clap's clauses come to at the command set.
use Rattle.std.proofs.Common.{◌≡◌, ◌∙◌, refl, sym, subst, true, ℕ, List, [], ◌∷◌, Option, Some, None, inl, inr, ap, option_map}
use Rattle.std.specs.Prelude.{MatchResult, option_and_then}
use Rattle.std.specs.Option.{ok_or}
use Rattle.clap.specs.Words.{App, HasKind, HasMatchesOf, Kinds, fault_of, is_simple, Row, is_simple_and_free, kind_of, subcommand_of, subcommand_rows_of}
use Rattle.clap.specs.declared.error.Error.{Error}
use Rattle.clap.specs.declared.parser.matches.ArgMatches.{ArgMatches}
use Rattle.clap.proofs.OnLiterals.{clap_on_literals}
use Rattle.mp_words.specs.Command.{command_app}
use Rattle.mp_words.specs.Refused.{refusal_of}
use Rattle.mp_words.specs.Words.{Asked, asked_in, asked_of, command_of, values_in, values_without}
use Rattle.mp_words.specs.declared.options.Command.{Command}
use Rattle.mp_words.specs.declared.refused.WordsRefused.TheVariants.{Usage, NoMemory}

-- clap's definitions say all of what it does with this command
pub simple : is_simple command_app ≡ true
unfolding command_app clap_on_literals
simple = refl

pub simple_and_free : is_simple_and_free command_app ≡ true
unfolding command_app clap_on_literals
simple_and_free = refl

-- an error that isn't want of memory comes of one of the faults
faulty : (faults : Kinds) (met : Option (List ℕ × List Row)) (e : Error) → HasKind faults e → refusal_of (kind_of e) ≡ Usage
    → option_and_then asked_of (values_without faults met) ≡ None
faulty [] met e (inl memory) is =
    let no : NoMemory ≡ Usage = sym (ap refusal_of memory) ∙ is in
    cc
faulty [] met e (inr none) is = absurd none
faulty (k ∷ ks) met e has is = refl

-- where clap finds a fault, the words are no command
pub refused : (app : App) (words : List (List ℕ)) (e : Error) → app ≡ command_app → HasKind (fault_of app words) e
    → refusal_of (kind_of e) ≡ Usage → command_of words ≡ None
unfolding values_in
refused app words e same has is =
    faulty (fault_of command_app words) (subcommand_of command_app words) e (subst (λ (a : App). HasKind (fault_of a words) e) same has) is

-- where it finds none, they ask for what the values that it found ask for
pub taken : (app : App) (words : List (List ℕ)) (m : ArgMatches) → app ≡ command_app → fault_of app words ≡ []
    → HasMatchesOf app words m → option_and_then asked_of (subcommand_rows_of m) ≡ command_of words
unfolding values_in
taken app words m same none found =
    let rows : subcommand_rows_of m ≡ subcommand_of command_app words = (found (ap is_simple same ∙ simple)).1 ∙ ap (λ (a : App). subcommand_of a words) same in
    let clean : fault_of command_app words ≡ [] = subst (λ (a : App). fault_of a words ≡ []) same none in
    ap (option_and_then asked_of) rows
    ∙ ap (λ (faults : Kinds). option_and_then asked_of (values_without faults (subcommand_of command_app words))) (sym clean)

-- an answer is that of the words
pub answered : (asked : Option Asked) (o : Option Command) → option_map asked_in o ≡ asked
    → MatchResult (ok_or o Usage) (λ command. asked ≡ Some (asked_in command)) (λ why. why ≡ Usage → asked ≡ None)
answered asked (Some command) is = sym is
answered asked None is = λ _. sym is
