use Rattle.std.specs.BTreeMap.{get_by_text}
use Rattle.std.proofs.lemmas.Map.Text.{btree_map_updates_text}
use Rattle.mp_outside.proofs.ShelfLemmas.{held-set}
use Rattle.mp_outside.proofs.shelf.Shelf.put.Goals as goal

pub returns-clause-ok : goal.returns-clause-ok
returns-clause-ok c =
    held-set (λ v. v.items) (get_by_text c.args.self.now.files) (get_by_text c.insert.new.self) _ _ _ c.in_ok-held.held c.in_ok-from_str.ensures.ok (c.in_ok-held.ensures.items_if_clones_equal (λ x y same. same))
    (btree_map_updates_text _ c.args.self.now.files c.insert.new.self _ c.in_ok-insert.ensures.updates)
