use Rattle.std.proofs.Common.{◌≡◌, ◌≤◌, get_or, length, rules, subst, sym}
use Rattle.std.proofs.lemmas.List.{get_or_past}
use Rattle.mp_names.specs.declared.locations.Frontier.{Frontier}
use Rattle.mp_names.specs.declared.locations.Frontier.TheVariants.{Done}
use Rattle.mp_stamps.specs.Counts.{CountTable, count_in}
use Rattle.mp_stamps.specs.Flow.{AreFirstTimes, IsFirstTime}
use Rattle.mp_stamps.specs.Places.{place_of}
use Rattle.mp_stamps.proofs.counts.Counts.first_time.Goals as goal

pub returns-in-Some : goal.returns-in-Some
returns-in-Some c =
    let firsts = c.self.inside.firsts in
    let are : AreFirstTimes c.args.self.now firsts = subst (λ (t : CountTable). AreFirstTimes t firsts) c.self.view_is c.self.invariant.1 in
    let e : c.in-Some.first.now ≡ get_or firsts (place_of c.args.loc) Done = search rules in
    subst (λ (f : Frontier). IsFirstTime (count_in c.args.self.now c.args.loc) f) (sym e) (are c.args.loc)

pub returns-in-None : goal.returns-in-None
returns-in-None c =
    let firsts = c.self.inside.firsts in
    let are : AreFirstTimes c.args.self.now firsts = subst (λ (t : CountTable). AreFirstTimes t firsts) c.self.view_is c.self.invariant.1 in
    let past : length firsts ≤ place_of c.args.loc = search rules in
    subst (λ (f : Frontier). IsFirstTime (count_in c.args.self.now c.args.loc) f) (get_or_past firsts (place_of c.args.loc) Done past) (are c.args.loc)
