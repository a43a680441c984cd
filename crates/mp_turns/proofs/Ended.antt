-- All locations of a job have come to their end where those of each stage have and the others.
use Rattle.std.proofs.Common.{ℕ, ◌<◌, Option}
use Rattle.mp_names.specs.declared.locations.Loc.TheVariants.{Ctl, CtlMail, Source, Route, Mail, Move, State, Host, OutRoute, OutMail}
use Rattle.mp_stamps.specs.declared.seen.Seen.{Seen}
use Rattle.mp_turns.specs.Done.{AllHaveEnded, OthersHaveEnded, StageHasEnded}

module _ (until : Option ℕ) (n : ℕ) (seen : Seen) where
  pub stage_of_all : AllHaveEnded until n seen → (j : ℕ) → j < n → StageHasEnded until j seen
  stage_of_all all j l = record {
    route = all (Route j) l;
    mail = all (Mail j) l;
    move = all (Move j) l;
    state = all (State j) l;
    host = all (Host j) l;
  }

  pub others_of_all : AllHaveEnded until n seen → OthersHaveEnded until seen
  others_of_all all = record {
    ctl = all Ctl tt;
    ctl_mail = all CtlMail tt;
    source = all Source tt;
    out_route = all OutRoute tt;
    out_mail = all OutMail tt;
  }

  pub all_of_both : ((j : ℕ) → j < n → StageHasEnded until j seen) → OthersHaveEnded until seen → AllHaveEnded until n seen
  all_of_both stages others Ctl has = others.ctl
  all_of_both stages others CtlMail has = others.ctl_mail
  all_of_both stages others Source has = others.source
  all_of_both stages others OutRoute has = others.out_route
  all_of_both stages others OutMail has = others.out_mail
  all_of_both stages others (Route j) has = (stages j has).route
  all_of_both stages others (Mail j) has = (stages j has).mail
  all_of_both stages others (Move j) has = (stages j has).move
  all_of_both stages others (State j) has = (stages j has).state
  all_of_both stages others (Host j) has = (stages j has).host
