-- The packets of the moves of an outline are its packets.
use Rattle.std.proofs.Common.{◌≡◌, ◌∙◌, ℕ, Bool, true, false, cond, List, [], ◌∷◌, filter, map, refl, ap}
use Rattle.mp_names.specs.declared.controls.Control.{Control}
use Rattle.mp_names.specs.declared.names.Name.{Name}
use Rattle.mp_names.specs.declared.names.Name.TheVariants.{Packet}
use Rattle.mp_names.specs.Controls.{is_change, move_in}
use Rattle.mp_names.specs.Names.{ascending}
use Rattle.mp_names.specs.Outlines.{Outline, moves_of, packets_of}
use Rattle.mp_job_lists.specs.Packets.{name_of_move}

module _ (controls : List Control) (first : ℕ → ℕ → ℕ) where
  one_back : (b : Bool) (x : Name) (ys : List Name) → name_of_move (move_in controls first x) ≡ x → map name_of_move (map (move_in controls first) ys) ≡ ys → map name_of_move (map (move_in controls first) (cond b (x ∷ ys) ys)) ≡ cond b (x ∷ ys) ys
  one_back true x ys e h = ap (λ (n : Name). n ∷ map name_of_move (map (move_in controls first) ys)) e ∙ ap (λ (l : List Name). x ∷ l) h
  one_back false x ys e h = h

  -- a packet is that of its move
  back : (xs : List Name) → map name_of_move (map (move_in controls first) (filter (is_change controls first) xs)) ≡ filter (is_change controls first) xs
  back [] = refl
  back (Packet j b t ∷ xs) = one_back (is_change controls first (Packet j b t)) (Packet j b t) (filter (is_change controls first) xs) refl (back xs)
  back (_ ∷ xs) = back xs

pub packets_are : (o : Outline) → map name_of_move (moves_of o) ≡ packets_of o
unfolding moves_of packets_of
packets_are o = back o.controls o.first_owner (ascending (map (λ c. Packet c.stage c.bin c.time) o.controls))
