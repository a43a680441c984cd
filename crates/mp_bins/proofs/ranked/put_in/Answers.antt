use Rattle.std.proofs.Common.{◌≡◌, ◌↔◌, ◌⊎◌, List, Option, Some, sym, subst, ◌∙◌}
use Rattle.std.specs.List.{Contains, prefix_len}
use Rattle.std.specs.Option.{IfSome}
use Rattle.std.proofs.lemmas.List.Sums.{prefix_len-le-length}
use Rattle.mp_names.specs.declared.controls.Move.{Move}
use Rattle.mp_names.specs.Names.{is_before}
use Rattle.mp_bins.specs.Changes.{AreRanked, rank_of_move}
use Rattle.mp_bins.proofs.Ranking.{put_is_insert, put_parts, ranked_with, with_one}
use Rattle.mp_bins.proofs.ranked.put_in.Goals as goal

pub returns-in-Some-clause-ranked : goal.returns-in-Some-clause-ranked
returns-in-Some-clause-ranked c =
    let old = c.args.changes.now.items in
    let change = c.in-Some.change in
    let at = prefix_len (λ m. is_before (rank_of_move m) (rank_of_move change)) old in
    let inside = prefix_len-le-length (λ m. is_before (rank_of_move m) (rank_of_move change)) old in
    let put = c.insert_reserved.ensures.put ∙ put_is_insert old change c.requires.ranked in
    let fresh = subst (λ (o : Option Move). IfSome o (λ m. Contains old m → ⊥)) c.in-Some.is c.requires.fresh in
    let split = put_parts old change c.requires.ranked in
    subst AreRanked (sym put) (ranked_with old c.requires.ranked change at inside split fresh)

pub returns-in-Some-clause-one_more : goal.returns-in-Some-clause-one_more
returns-in-Some-clause-one_more c =
    let old = c.args.changes.now.items in
    let change = c.in-Some.change in
    let at = prefix_len (λ m. is_before (rank_of_move m) (rank_of_move change)) old in
    let inside = prefix_len-le-length (λ m. is_before (rank_of_move m) (rank_of_move change)) old in
    let put = c.insert_reserved.ensures.put ∙ put_is_insert old change c.requires.ranked in
    let split = put_parts old change c.requires.ranked in
    λ move.
    subst (λ (o : Option Move). Contains c.insert_reserved.new.self.items move ↔ (Contains old move ⊎ (o ≡ Some move))) (sym c.in-Some.is)
    (subst (λ (ms : List Move). Contains ms move ↔ (Contains old move ⊎ (Some change ≡ Some move))) (sym put)
    (with_one old c.requires.ranked change at inside split move))
