-- The first entry of a tournament's tree is the first of its wakes.
use Rattle.std.proofs.Common.{◌≡◌, ℕ, zero, suc, ◌+◌, ◌-◌, ◌*◌, ◌<◌, [], ◌∷◌, None, drop, get_or, length, take, sym, ◌∙◌, ap, arith, length-drop, drop-cons}
use Rattle.std.proofs.lemmas.List.{get_or-drop, take_all, take_more}
use Rattle.mp_tournament.specs.Firsts.{IsTournament, IsWonAt, earlier_of, entry_at, first_among}
use Rattle.mp_tournament.proofs.Earlier.{earlier-none, earlier_assoc, earlier_comm}
use Rattle.mp_tournament.proofs.Among.{Wakes, first_push}

-- as many entries as are in front of them
abbrev level : Wakes → ℕ → Wakes
level tree m = take m (drop m tree)

-- two more at the end
first_push_two : (n : ℕ) (ws : Wakes) → n + 1 < length ws → first_among (take (n + 2) ws) ≡ earlier_of (earlier_of (get_or ws n None) (get_or ws (n + 1) None)) (first_among (take n ws))
first_push_two n ws h =
    let a = get_or ws n None in
    let b = get_or ws (n + 1) None in
    let rest = first_among (take n ws) in
    let once : first_among (take (n + 1) ws) ≡ earlier_of rest a = ap first_among (take_more ws n None (omega arith)) ∙ first_push (take n ws) a in
    let twice : first_among (take ((n + 1) + 1) ws) ≡ earlier_of (earlier_of rest a) b = ap first_among (take_more ws (n + 1) None (omega arith)) ∙ first_push (take (n + 1) ws) b ∙ ap (λ f. earlier_of f b) once in
    let same : (n + 1) + 1 ≡ n + 2 = omega arith in
    ap (λ k. first_among (take k ws)) (sym same) ∙ twice ∙ earlier_assoc rest a b ∙ earlier_comm rest (earlier_of a b)

-- a level whose first entry is the earlier of the two behind it has the same first wake as the next one
next_level : (tree : Wakes) (p : ℕ) → 2 * suc p + 1 < length tree → IsWonAt tree (suc p) → first_among (level tree (suc p)) ≡ first_among (level tree (suc (suc p)))
next_level tree p h won =
    let behind = drop (suc (suc p)) tree in
    let size : length behind ≡ length tree - suc (suc p) = length-drop (suc (suc p)) tree in
    let rest = first_among (take p behind) in
    let head : first_among (level tree (suc p)) ≡ earlier_of (entry_at tree (suc p)) rest = ap (λ ws. first_among (take (suc p) ws)) (drop-cons tree (suc p) None (omega arith)) in
    let at_one : suc (suc p) + p ≡ 2 * suc p = omega arith in
    let at_two : suc (suc p) + (p + 1) ≡ 2 * suc p + 1 = omega arith in
    let one : get_or behind p None ≡ entry_at tree (2 * suc p) = get_or-drop (suc (suc p)) tree p None ∙ ap (entry_at tree) at_one in
    let two : get_or behind (p + 1) None ≡ entry_at tree (2 * suc p + 1) = get_or-drop (suc (suc p)) tree (p + 1) None ∙ ap (entry_at tree) at_two in
    let tail : first_among (take (p + 2) behind) ≡ earlier_of (earlier_of (get_or behind p None) (get_or behind (p + 1) None)) rest = first_push_two p behind (omega arith) in
    let as_many : p + 2 ≡ suc (suc p) = omega arith in
    let both : earlier_of (get_or behind p None) (get_or behind (p + 1) None) ≡ entry_at tree (suc p) = ap (λ v. earlier_of v (get_or behind (p + 1) None)) one ∙ ap (earlier_of (entry_at tree (2 * suc p))) two ∙ sym won in
    head ∙ sym (ap (λ v. earlier_of v rest) both) ∙ sym tail ∙ ap (λ k. first_among (take k behind)) as_many

module _ (count : ℕ) (tree : Wakes) (order : IsTournament count tree) where
  same_level : (gap p : ℕ) → suc p + gap ≡ count → first_among (level tree (suc p)) ≡ first_among (drop count tree)
  same_level zero p e =
      let here : suc p ≡ count = omega arith in
      ap (λ m. first_among (level tree m)) here ∙ ap first_among (take_all count (drop count tree) (omega (arith, length-drop count tree, order.size)))
  same_level (suc gap) p e =
      let inside : suc p < count = omega arith in
      next_level tree p (omega (arith, order.size)) (order.won (suc p) (omega arith) inside (λ d. omega arith)) ∙ same_level gap (suc p) (omega arith)

  -- entry 1 is the first of the wakes
  pub first_is_root : entry_at tree 1 ≡ first_among (drop count tree)
  first_is_root =
      let some : 0 < count = order.inside in
      let alone : level tree 1 ≡ entry_at tree 1 ∷ [] = ap (take 1) (drop-cons tree 1 None (omega (arith, order.size))) in
      sym (earlier-none (entry_at tree 1)) ∙ sym (ap first_among alone) ∙ same_level (count - 1) 0 (omega arith)
