-- The first wake tells whether the first group has one.
use Rattle.std.proofs.Common.{◌≡◌, ◌↔◌, ◌&&◌, ℕ, true, false, Option, None, Some, [], arith, nat_eq, subst, sym}
use Rattle.std.specs.List.{list_any}
use Rattle.std.specs.Option.{option_eq}
use Rattle.std.proofs.lemmas.Bool.{false≢true, or_right}
use Rattle.std.proofs.lemmas.List.Elements.{All-nil}
use Rattle.mp_model.specs.Facts.{JobFacts, QueryFacts}
use Rattle.mp_msg.specs.Contents.{IsRecordOf}
use Rattle.mp_postdated.specs.Wakes.{ComesNoLater}
use Rattle.mp_host_laws.specs.Hosted.{Hosted, StandsInOrder, first_group, first_wake_of, has_wake_at, is_of, waits_at}
use Rattle.mp_host_laws.proofs.Firsts.{first_waits, none_waits}
use Rattle.mp_host_laws.proofs.Logs.{same_test}

same_group : (w : ℕ × ℕ) (t k : ℕ) → ComesNoLater w (t, k) → ComesNoLater (t, k) w → (w.0 ≡ t) × (w.1 ≡ k)
same_group w t k a b = grind arith

equal_parts : (w : ℕ × ℕ) (t k : ℕ) → ((nat_eq w.0 t && nat_eq w.1 k) ≡ true) ↔ ((w.0 ≡ t) × (w.1 ≡ k))
equal_parts w t k = grind arith

module _ {Cell : Type 0} (q : QueryFacts Cell) (job : JobFacts) (h : Hosted Cell) (denotes : StandsInOrder q job h) (t k : ℕ) (first : first_group h ≡ Some (t, k)) where
  -- the host without its records, of which the first wake is the first group
  abbrev wakes_alone : Hosted Cell
  wakes_alone = record h { records = [] }

  wakes_stand : StandsInOrder q job wakes_alone
  wakes_stand = record { content = All-nil (IsRecordOf q job h.stage); records = λ i j d l m. absurd (omega arith); states = denotes.states }

  -- the key of the first group is to be woken at its time just where the first wake is that group's
  pub first_woken : (o : Option (ℕ × ℕ)) → o ≡ first_wake_of h.held → option_eq (λ x y. nat_eq x.0 y.0 && nat_eq x.1 y.1) o (Some (t, k)) ≡ has_wake_at h t k
  first_woken None e = same_test false (has_wake_at h t k) (λ f. absurd (false≢true f)) (λ there. absurd (none_waits q job wakes_alone wakes_stand (sym e) t k there))
  first_woken (Some w) e = same_test (nat_eq w.0 t && nat_eq w.1 k) (has_wake_at h t k) to from
    where
      least : (waits_at wakes_alone w.0 w.1 ≡ true) × ((u l : ℕ) → waits_at wakes_alone u l ≡ true → ComesNoLater w (u, l))
      least = first_waits q job wakes_alone wakes_stand w.0 w.1 (sym e)

      to : (nat_eq w.0 t && nat_eq w.1 k) ≡ true → has_wake_at h t k ≡ true
      to same =
          let both = (equal_parts w t k).0 same in
          subst (λ (u : ℕ). has_wake_at h u k ≡ true) both.0 (subst (λ (l : ℕ). has_wake_at h w.0 l ≡ true) both.1 least.0)

      from : has_wake_at h t k ≡ true → (nat_eq w.0 t && nat_eq w.1 k) ≡ true
      from there =
          let waits = or_right (list_any (is_of w.0 w.1) h.records) (has_wake_at h w.0 w.1) least.0 in
          (equal_parts w t k).1 (same_group w t k (least.1 t k there) ((first_waits q job h denotes t k first).1 w.0 w.1 waits))
