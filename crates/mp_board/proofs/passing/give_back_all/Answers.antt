use Rattle.std.proofs.Common.{◌≡◌, ◌<◌, ◌≤◌, ◌∙◌, ℕ, ap, arith, rules, subst, sym, max}
use Rattle.mp_names.specs.declared.locations.Frontier.{Frontier}
use Rattle.mp_names.specs.Frontiers.{HasPassed}
use Rattle.mp_names.specs.Locations.{IsLocation}
use Rattle.mp_stamps.specs.Counts.{IsCounted, low_of, piece_start}
use Rattle.mp_stamps.specs.Places.{places_of}
use Rattle.mp_stamps.specs.Seen.{seen_at}
use Rattle.mp_stamps.proofs.Tables.{location_placed}
use Rattle.mp_board.specs.Passing.{end_of}
use Rattle.mp_board.proofs.GivenBack.{none_given_back, one_more_given}
use Rattle.mp_board.proofs.passing.give_back_all.Goals as goal

pub loop-place-init : goal.loop-place-init
loop-place-init c = none_given_back c.args.seen.now c.args.counts.now

pub drop_below-requires : goal.drop_below-requires
drop_below-requires c =
    let stages = c.args.seen.now.stages in
    let loc = c.loc_at-loc.result in
    let n = c.loop-place.place in
    let below : n < places_of stages = search rules in
    let has = location_placed stages loc (omega (arith, below, c.loc_at-loc.ensures.there)) in
    record {
      none = λ t l. c.loop-place.invariant.counts loc t ∙ c.requires.quiet loc t has (subst (λ (f : Frontier). HasPassed f t) c.frontier.ensures (c.end_of.ensures.passed t l));
    }

pub loop-place-preserved : goal.loop-place-preserved
loop-place-preserved c =
    let seen = c.args.seen.now in
    let loc = c.loc_at-loc.result in
    let l = c.loop-place in
    let n = l.place in
    let old = c.args.counts.now in
    let below : n < places_of seen.stages = search rules in
    let has : IsLocation l.counts.stages loc = subst (λ (k : ℕ). IsLocation k loc) (sym (l.invariant.stages ∙ c.requires.stages)) (location_placed seen.stages loc (omega (arith, below, c.loc_at-loc.ensures.there))) in
    let end : c.end_of.result ≡ end_of (seen_at seen loc) = c.end_of.ensures.is ∙ ap end_of c.frontier.ensures in
    one_more_given seen n old l.counts c.drop_below.new.self l.invariant loc c.loc_at-loc.ensures.there c.loc_at-loc.ensures.alone has c.drop_below.ensures.counts
    (subst (λ (e : ℕ). IsLocation l.counts.stages loc → low_of c.drop_below.new.self loc ≡ max (low_of l.counts loc) (piece_start l.counts.times e)) end c.drop_below.ensures.given_back)
    (subst (λ (e : ℕ). (t : ℕ) → e ≤ t → IsCounted l.counts loc t → IsCounted c.drop_below.new.self loc t) end c.drop_below.ensures.kept)
    c.drop_below.ensures.others
    c.drop_below.ensures.same
