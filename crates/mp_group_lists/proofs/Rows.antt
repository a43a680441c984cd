-- How many groups a worker applies until it has an answer row.
use Rattle.std.proofs.Common.{◌≡◌, ◌↔◌, ℕ, ◌-◌, ◌==◌, ◌<◌, ◌≤◌, ◌⊎◌, true, false, List, take, get_or, length, length-take, sym, ap, ◌∙◌, subst, ⊎_elim, arith}
use Rattle.std.specs.List.Sorted.{IsPartitionPoint}
use Rattle.std.proofs.lemmas.Bool.{both_ways}
use Rattle.std.proofs.lemmas.List.{get_or-take}
use Rattle.mp_names.specs.declared.names.Name.{Name}
use Rattle.mp_names.specs.declared.names.Name.TheVariants.{Group, Row}
use Rattle.mp_names.specs.declared.names.Tag.{Tag}
use Rattle.mp_names.specs.Names.{In, ascending}
use Rattle.mp_names.specs.Outlines.{Outline, OutlineIsSound, due_groups, sender}
use Rattle.mp_names.specs.Logs.{is_owned, owned_groups}
use Rattle.mp_names.proofs.Listed.{group_due}
use Rattle.mp_names.proofs.Lists.{In_filter, filter_In}
use Rattle.mp_names.proofs.Orders.{In_ascending}
use Rattle.mp_player_laws.specs.Decisions.{rows_to_send}
use Rattle.mp_player_laws.specs.Counted.{IsGivenWithin}
use Rattle.mp_chart.specs.declared.entry.Entry.{Entry}
use Rattle.mp_chart.specs.Entries.{entries_of, entry_of}
use Rattle.mp_parted.proofs.Fitting.{In-get_or}
use Rattle.mp_outline_lists.proofs.InOrder.{contains_from_in}
use Rattle.mp_group_lists.specs.declared.moments.Moment.{Moment}
use Rattle.mp_group_lists.specs.Moments.{comes_before, moment_of}
use Rattle.mp_group_lists.proofs.Runs.{never_before_itself}
use Rattle.mp_group_lists.proofs.InTurn.{ascending_at, entry_at, group_moments, is_of_stage, length-entries, owned_ascend}

module _ (o : Outline) (ok : OutlineIsSound o) (w : ℕ) where
  abbrev last : ℕ
  last = o.stages - 1

  abbrev groups : List Name
  groups = owned_groups o w last

  -- the group that gives an answer row is one of the worker's
  giver : (t : ℕ) (g : Tag) → In (Row t g) (rows_to_send o w) → In (Group last t g.0) groups
  giver t g i =
      let sent = In_filter (λ x. sender o x == w) (Row t g) (ascending o.rows) i in
      let row = In_ascending (Row t g) o.rows sent.0 in
      let due = group_due o last (Group last t g.0) (ok.rows_given t g row) (ok.rows_stop (Row t g) row) in
      filter_In (is_owned o w) (Group last t g.0) (due_groups o last) due sent.1

  module _ (t : ℕ) (g : Tag) (here : In (Row t g) (rows_to_send o w)) (r : ℕ) (bound : r ≤ length groups) (point : IsPartitionPoint (λ e. comes_before (record { time = t; key = g.0 }) (moment_of e.name) ≡ false) (λ e. comes_before (record { time = t; key = g.0 }) (moment_of e.name) ≡ true) (entries_of o groups) r) where
    abbrev group : Name
    group = Group last t g.0

    abbrev moment : Moment
    moment = record { time = t; key = g.0 }

    abbrev none : Entry
    none = entry_of o group

    moment_at : (i : ℕ) → i < length groups → moment_of (get_or (entries_of o groups) i none).name ≡ moment_of (get_or groups i group)
    moment_at i l = ap (λ (e : Entry). moment_of e.name) (entry_at o groups i none group l)

    -- the group stands in front of the place
    in_front : (i : ℕ) → i < length groups → get_or groups i group ≡ group → i < r
    in_front i l e =
        ⊎_elim
        (λ (m : i < r). m)
        (λ (m : r ≤ i).
        let n = length-entries o groups in
        let later = point.1 i none m (omega arith) in
        absurd (both_ways (comes_before moment moment) (never_before_itself moment) (subst (λ (n : Moment). comes_before moment n ≡ true) (moment_at i l ∙ ap moment_of e) later)))
        (order i r)
      where
        order : (a b : ℕ) → (a < b) ⊎ (b ≤ a)
        order a b = grind arith

    within : (n : ℕ) → r ≤ n → In group (take n groups)
    within n l =
        let there = contains_from_in group groups (giver t g here) in
        let i = there.0 in
        let near = in_front i there.1 there.2 in
        let m = length-take n groups in
        let inside = there.1 in
        let at = get_or-take n groups i group (omega arith) ∙ there.2 in
        subst (λ (x : Name). In x (take n groups)) at (In-get_or (take n groups) i group (omega arith))

    enough : (n : ℕ) → In group (take n groups) → r ≤ n
    enough n i =
        ⊎_elim
        (λ (l : r ≤ n). l)
        (λ (l : n < r).
        let there = contains_from_in group (take n groups) i in
        let p = there.0 in
        let inside = there.1 in
        let m = length-take n groups in
        let near : p < n = omega arith in
        let far : n < length groups = omega arith in
        let at = sym (get_or-take n groups p group near) ∙ there.2 in
        let less = ascending_at groups p n group (owned_ascend o ok w last) near far in
        let group_here = In-get_or groups p group (omega arith) in
        let next_here = In-get_or groups n group far in
        let rises = group_moments last (get_or groups p group) (get_or groups n group) (is_of_stage o ok w last (get_or groups p group) group_here) (is_of_stage o ok w last (get_or groups n group) next_here) less in
        let no_later = subst (λ (k : Moment). comes_before moment k ≡ false) (moment_at n far) (point.0 n none (omega arith) l) in
        absurd (both_ways (comes_before moment (moment_of (get_or groups n group))) no_later (subst (λ (x : Name). comes_before (moment_of x) (moment_of (get_or groups n group)) ≡ true) at rises)))
        (order r n)
      where
        order : (a b : ℕ) → (a ≤ b) ⊎ (b < a)
        order a b = grind arith

    pub given_within : (n : ℕ) → IsGivenWithin o w n (Row t g) ↔ r ≤ n
    given_within n = (enough n, within n)
