use Rattle.std.proofs.Common.{◌≡◌, ◌≢◌, ◌↔◌, ◌+◌, ◌-◌, ℕ, true, List, Option, Some, sym, ap, subst, ◌∙◌, arith}
use Rattle.std.specs.List.{Contains, remove}
use Rattle.std.specs.Option.{IfSome}
use Rattle.std.proofs.lemmas.List.Quantifiers.{all_pairs_remove}
use Rattle.mp_names.specs.declared.controls.Move.{Move}
use Rattle.mp_names.specs.Names.{is_before}
use Rattle.mp_bins.specs.Changes.{AreRanked, rank_of_move}
use Rattle.mp_bins.proofs.Ranking.{count_there, parts_there, upto_first, without}
use Rattle.mp_bins.proofs.ranked.take_out.Goals as goal

pub take_last_in_front-requires : goal.take_last_in_front-requires
take_last_in_front-requires c =
    let old = c.args.changes.now.items in
    let change = c.in-Some.change in
    let there = subst (λ (o : Option Move). IfSome o (Contains old)) c.in-Some.is c.requires.there in
    record { parted = upto_first old (rank_of_move change) c.requires.ranked; some = omega (arith, count_there old c.requires.ranked change there) }

pub returns-in-Some-clause-ranked : goal.returns-in-Some-clause-ranked
returns-in-Some-clause-ranked c =
    let old = c.args.changes.now.items in
    let change = c.in-Some.change in
    let there = subst (λ (o : Option Move). IfSome o (Contains old)) c.in-Some.is c.requires.there in
    let at = there.0 in
    let place = count_there old c.requires.ranked change there in
    let less : at + 1 - 1 ≡ at = omega arith in
    let taken = c.take_last_in_front.ensures.items ∙ ap (λ (n : ℕ). remove old (n - 1)) place ∙ ap (λ (n : ℕ). remove old n) less in
    subst AreRanked (sym taken) (all_pairs_remove (λ a b. is_before (rank_of_move a) (rank_of_move b) ≡ true) old at there.1 c.requires.ranked)

pub returns-in-Some-clause-others : goal.returns-in-Some-clause-others
returns-in-Some-clause-others c =
    let old = c.args.changes.now.items in
    let change = c.in-Some.change in
    let there = subst (λ (o : Option Move). IfSome o (Contains old)) c.in-Some.is c.requires.there in
    let at = there.0 in
    let inside = there.1 in
    let place = count_there old c.requires.ranked change there in
    let less : at + 1 - 1 ≡ at = omega arith in
    let taken = c.take_last_in_front.ensures.items ∙ ap (λ (n : ℕ). remove old (n - 1)) place ∙ ap (λ (n : ℕ). remove old n) less in
    λ move.
    subst (λ (o : Option Move). Contains c.take_last_in_front.new.self.items move ↔ (Contains old move × (o ≢ Some move))) (sym c.in-Some.is)
    (subst (λ (ms : List Move). Contains ms move ↔ (Contains old move × (Some change ≢ Some move))) (sym taken)
    (without old c.requires.ranked change at (omega arith) (parts_there old c.requires.ranked change there) there move))
