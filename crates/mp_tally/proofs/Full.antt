-- What a full log holds: the groups that its worker owns, and the packets of the moves from it.
use Rattle.std.proofs.Common.{◌≡◌, ℕ, Bool, true, List, [], ◌∷◌, ◌++◌, length, filter, sym, subst, refl}
use Rattle.std.specs.Prelude.{◌↔◌}
use Rattle.std.proofs.lemmas.Bool.{false≢true, eqb-true, eq-eqb, both_ways, false_from_ne_true}
use Rattle.mp_names.specs.declared.names.Name.{Name}
use Rattle.mp_names.specs.declared.names.Name.TheVariants.{Packet, Group}
use Rattle.mp_names.specs.Names.{has, In, Distinct, IsPrefix, joined_below, is_group, is_packet}
use Rattle.mp_names.specs.Outlines.{Outline, OutlineIsSound, owner_before, IsMove, due_groups}
use Rattle.mp_names.specs.Logs.{Log, LogIsLegal, IsReadyGroup, is_owned, owned_groups}
use Rattle.mp_names.proofs.Lists.{In_filter, In_left, filter_In, In_joined, joined_In, Distinct_filter, Distinct_joined}
use Rattle.mp_names.proofs.Orders.{ascending_once, filter_ascends}
use Rattle.mp_names.proofs.Owners.{move_in_shape}
use Rattle.mp_names.proofs.Listed.{groups_are, due_group, due_groups_ascend}
use Rattle.mp_names.proofs.Counting.{length_equal, once_by_tests}
use Rattle.mp_names.proofs.NameParts.{stage_in}
use Rattle.mp_machine.specs.Promises.{LogIsFull}

group_stage : (j : ℕ) (x : Name) → is_group j x ≡ true → stage_in x ≡ j
group_stage j (Group i t k) e = eqb-true i j e
group_stage j _ e = absurd (false≢true e)

packet_stage : (j : ℕ) (x : Name) → is_packet j x ≡ true → stage_in x ≡ j
packet_stage j (Packet i b t) e = eqb-true i j e
packet_stage j _ e = absurd (false≢true e)

-- the front of a list of names that stand once
prefix_once : (xs ys : List Name) → IsPrefix xs ys → Distinct ys → Distinct xs
prefix_once xs ys p d = go xs (subst Distinct (sym p.1) d)
  where
    go : (xs : List Name) → Distinct (xs ++ p.0) → Distinct xs
    go [] h = tt
    go (x ∷ xs) h = (false_from_ne_true (has xs x) (λ i. both_ways (has (xs ++ p.0) x) h.0 (In_left x xs p.0 i)), go xs h.1)

module _ (o : Outline) (ok : OutlineIsSound o) (w : ℕ) where
  all_owned : List Name
  all_owned = joined_below o.stages (owned_groups o w)

  owned_once : (j : ℕ) → Distinct (owned_groups o w j)
  owned_once j = ascending_once (owned_groups o w j) (filter_ascends (is_owned o w) (due_groups o j) (due_groups_ascend o j))

  all_owned_once : Distinct all_owned
  unfolding all_owned
  all_owned_once =
      Distinct_joined o.stages (owned_groups o w) stage_in (λ j l. owned_once j) (λ j x l i. group_stage j x (groups_are o ok j x (due_group o j x (In_filter (is_owned o w) x (due_groups o j) i).0).0).1)

  module _ (log : Log) (legal : LogIsLegal o w log) where
    -- no group is applied twice
    pub applied_once : Distinct log.applied
    applied_once = once_by_tests log.applied (λ x i. test x (legal.applied_ready x i))
      where
        test : (x : Name) → IsReadyGroup o w log x → (p : Name → Bool) × (p x ≡ true) × Distinct (filter p log.applied)
        test (Group j t k) r = (is_group j, eq-eqb j j refl, prefix_once (filter (is_group j) log.applied) (owned_groups o w j) (legal.applied_in_order j r.0) (owned_once j))
        test _ r = absurd r

  module _ (log : Log) (legal : LogIsLegal o w log) (full : LogIsFull o w log) where
    applied_within : (x : Name) → In x log.applied → In x all_owned
    unfolding all_owned
    applied_within x i = form x i (legal.applied_ready x i)
      where
        form : (x : Name) → In x log.applied → IsReadyGroup o w log x → In x (joined_below o.stages (owned_groups o w))
        form (Group j t k) i r =
            let own = subst (In (Group j t k)) (full.applied j r.0) (filter_In (is_group j) (Group j t k) log.applied i (eq-eqb j j refl)) in
            joined_In o.stages (owned_groups o w) (Group j t k) j r.0 own
        form _ i r = absurd r

    all_applied : (x : Name) → In x all_owned → In x log.applied
    unfolding all_owned
    all_applied x i =
        let r = In_joined o.stages (owned_groups o w) x i in
        (In_filter (is_group r.0) x log.applied (subst (In x) (sym (full.applied r.0 r.1)) r.2)).0

    -- as many groups are applied as the worker owns
    pub applied_are_owned : length log.applied ≡ length (joined_below o.stages (owned_groups o w))
    unfolding all_owned
    applied_are_owned = length_equal log.applied all_owned (applied_once log legal) all_owned_once applied_within all_applied

-- the packets that a log has sent, by stage
abbrev sent_packets : Outline → Log → List Name
sent_packets o log = joined_below o.stages (λ j. filter (is_packet j) log.sent)

-- in a full log they are those of the moves from its worker
pub sent_packets_are_moves : (o : Outline) → OutlineIsSound o → (w : ℕ) (log : Log) → LogIsLegal o w log → LogIsFull o w log → (j b t : ℕ) → In (Packet j b t) (joined_below o.stages (λ j. filter (is_packet j) log.sent)) ↔ (IsMove o j b t × (owner_before o j b t ≡ w))
sent_packets_are_moves o ok w log legal full j b t = (moved, sent)
  where
    moved : In (Packet j b t) (sent_packets o log) → IsMove o j b t × (owner_before o j b t ≡ w)
    moved i =
        let r = In_joined o.stages (λ j. filter (is_packet j) log.sent) (Packet j b t) i in
        legal.sent_owed (Packet j b t) (In_filter (is_packet r.0) (Packet j b t) log.sent r.2).0

    sent : IsMove o j b t × (owner_before o j b t ≡ w) → In (Packet j b t) (sent_packets o log)
    sent m =
        joined_In o.stages (λ j. filter (is_packet j) log.sent) (Packet j b t) j (move_in_shape o ok j b t m.0).0
        (filter_In (is_packet j) (Packet j b t) log.sent (full.sent (Packet j b t) m) (eq-eqb j j refl))

-- in a legal log each stands once
pub sent_packets_are_distinct : (o : Outline) (w : ℕ) (log : Log) → LogIsLegal o w log → Distinct (joined_below o.stages (λ j. filter (is_packet j) log.sent))
sent_packets_are_distinct o w log legal =
    Distinct_joined o.stages (λ j. filter (is_packet j) log.sent) stage_in (λ j l. Distinct_filter (is_packet j) log.sent legal.sent_once) (λ j x l i. packet_stage j x (In_filter (is_packet j) x log.sent i).1)
