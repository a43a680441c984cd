use Rattle.std.proofs.Common.{◌≡◌, Some, refl, sym, rules}
use Rattle.std.specs.BTreeMap.{get_by_text}
use Rattle.std.proofs.lemmas.Map.Text.{btree_map_updates_text}
use Rattle.std.proofs.lemmas.Result.{err_from_is_err_and}
use Rattle.mp_outside.proofs.ShelfLemmas.{held-grow, held-same, none-held}
use Rattle.mp_outside.proofs.shelf.Shelf.append.Goals as goal

pub returns-in_err-extend_from_slice-clause-unchanged : goal.returns-in_err-extend_from_slice-clause-unchanged
returns-in_err-extend_from_slice-clause-unchanged c =
    let left = c.extend_from_slice.new.self in
    let was : get_by_text c.args.self.now.files c.args.name.now ≡ Some c.in-Some.bytes.now = sym c.in-Some.ensures.value in
    let sets = (c.get_mut.follows.holds left).3 (search rules) in
    let p = err_from_is_err_and c.from_residual.result c.from_residual.ensures.1 in
    rw p.1 (held-same (λ v. v.items) (get_by_text c.args.self.now.files) (get_by_text (c.get_mut.follows.lender left)) c.args.name.now c.in-Some.bytes.now left was c.in_err-extend_from_slice.ensures.items
    (btree_map_updates_text c.args.name.now c.args.self.now.files (c.get_mut.follows.lender left) (Some left) sets))

pub returns-in_ok-extend_from_slice-clause-ok : goal.returns-in_ok-extend_from_slice-clause-ok
returns-in_ok-extend_from_slice-clause-ok c =
    let left = c.extend_from_slice.new.self in
    let was : get_by_text c.args.self.now.files c.args.name.now ≡ Some c.in-Some.bytes.now = sym c.in-Some.ensures.value in
    let sets = (c.get_mut.follows.holds left).3 (search rules) in
    held-grow (λ v. v.items) (get_by_text c.args.self.now.files) (get_by_text (c.get_mut.follows.lender left)) c.args.name.now c.args.piece.now c.in-Some.bytes.now left was c.in_ok-extend_from_slice.ensures.items
    (btree_map_updates_text c.args.name.now c.args.self.now.files (c.get_mut.follows.lender left) (Some left) sets)

pub returns-in_default-clause-ok : goal.returns-in_default-clause-ok
returns-in_default-clause-ok c = absurd (none-held (λ v. v.items) (get_by_text c.args.self.now.files c.args.name.now) c.in_default.ensures.value (c.requires _ refl))
