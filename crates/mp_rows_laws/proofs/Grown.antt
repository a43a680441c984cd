-- Groups that wait are groups of the stage, and where nothing is lost from one log to another a wake that is here stays.
use Rattle.std.proofs.Common.{◌≡◌, ◌⊎◌, ℕ, ◌&&◌, ◌||◌, ◌==◌, nat_le, nat_lt, true, false, not, List, ap, ◌∙◌, subst, inl, inr, ⊎_elim}
use Rattle.std.specs.List.{list_any}
use Rattle.std.proofs.lemmas.Bool.{false≢true, and_from, and_parts, eqb-true, not-true, not_from_false, or_cases, or_left, or_right}
use Rattle.mp_names.specs.declared.names.Name.{Name}
use Rattle.mp_names.specs.declared.names.Name.TheVariants.{Rec, Packet, Group}
use Rattle.mp_names.specs.declared.names.Tag.{Tag}
use Rattle.mp_names.specs.Logs.{Log, brings_wake, has_record, has_wake, is_opening_here, is_pending, is_record_of, is_wake_here, left_since}
use Rattle.mp_names.specs.Names.{has, In}
use Rattle.mp_names.specs.Outlines.{Outline, OutlineIsSound, groups_of, is_posted}
use Rattle.mp_names.proofs.Hosts.{Brought, brought_at, brought_from, opening_at, opening_from, wake_woken, woken_group}
use Rattle.mp_names.proofs.Listed.{record_group}
use Rattle.mp_names.proofs.Lists.{any_at, any_from}

-- a group that waits is one of the stage, where only records of the job are taken
pub waiting_group : (o : Outline) → OutlineIsSound o → (w : ℕ) (log : Log) → ((i s l : ℕ) (g : Tag) → In (Rec i s l g) log.took → In (Rec i s l g) (o.records i)) → (j u k : ℕ) → is_pending o w log (Group j u k) ≡ true → In (Group j u k) (groups_of o j)
waiting_group o ok w log known j u k h =
    let p = and_parts (not (has log.applied (Group j u k))) (has_record log j u k || has_wake o w log j u k) h in
    ⊎_elim
    (λ (f : has_record log j u k ≡ true). let r = any_at (is_record_of j u k) log.took f in by_record r.0 r.1 r.2)
    (λ (f : has_wake o w log j u k ≡ true). woken_group o ok j u k (wake_woken o w log j u k f))
    (or_cases (has_record log j u k) (has_wake o w log j u k) p.1)
  where
    by_record : (x : Name) → In x log.took → is_record_of j u k x ≡ true → In (Group j u k) (groups_of o j)
    by_record (Rec i s l g) f e =
        let p = and_parts (i == j) (s == u && l == k) e in
        let q = and_parts (s == u) (l == k) p.1 in
        let at = known i s l g f in
        subst (λ (n : ℕ). In (Group n u k) (groups_of o n)) (eqb-true i j p.0)
        (subst (λ (v : ℕ). In (Group i v k) (groups_of o i)) (eqb-true s u q.0) (subst (λ (v : ℕ). In (Group i s v) (groups_of o i)) (eqb-true l k q.1) (record_group o i s l g at)))
    by_record _ f e = absurd (false≢true e)

module _ (o : Outline) (log new : Log) where
  -- the wakes that packets brought, where no more bins left
  pub brought_grows : (j b s u : ℕ) → ((m : ℕ) → left_since log j b m ≡ false → left_since new j b m ≡ false) → (xs : List Name) → list_any (brings_wake log j b s u) xs ≡ true → list_any (brings_wake new j b s u) xs ≡ true
  brought_grows j b s u left xs h = let r = any_at (brings_wake log j b s u) xs h in any_from (brings_wake new j b s u) r.0 xs r.1 (stays r.0 r.2)
    where
      stays : (x : Name) → brings_wake log j b s u x ≡ true → brings_wake new j b s u x ≡ true
      stays (Packet i c m) e =
          let old_rest = not (left_since log j b m) in
          let rest = not (left_since new j b m) in
          let p = and_parts (i == j) (c == b && (nat_lt s m && (nat_le m u && old_rest))) e in
          let q = and_parts (c == b) (nat_lt s m && (nat_le m u && old_rest)) p.1 in
          let r = and_parts (nat_lt s m) (nat_le m u && old_rest) q.1 in
          let z = and_parts (nat_le m u) old_rest r.1 in
          and_from (i == j) (c == b && (nat_lt s m && (nat_le m u && rest))) p.0
          (and_from (c == b) (nat_lt s m && (nat_le m u && rest)) q.0
          (and_from (nat_lt s m) (nat_le m u && rest) r.0 (and_from (nat_le m u) rest z.0 (not_from_false (left_since new j b m) (left m (not-true (left_since log j b m) z.1))))))
      stays _ e = absurd (false≢true e)

  -- the wakes of a key
  module _
      (w j u k : ℕ)
      (applied : (s : ℕ) → In (Group j s k) log.applied → In (Group j s k) new.applied)
      (left : (m : ℕ) → left_since log j (o.bin_of k) m ≡ false → left_since new j (o.bin_of k) m ≡ false)
      (brought : (s : ℕ) → list_any (brings_wake log j (o.bin_of k) s u) log.took ≡ true → list_any (brings_wake new j (o.bin_of k) s u) new.took ≡ true) where
    here_grows : (x : Name) → is_wake_here o log j u k x ≡ true → is_wake_here o new j u k x ≡ true
    here_grows (Rec i s l g) e =
        let b = o.bin_of k in
        let posted = is_posted o (Rec i s l g) u in
        let old_stayed = not (left_since log j b s) in
        let stayed = not (left_since new j b s) in
        let old_came = list_any (brings_wake log j b s u) log.took in
        let came = list_any (brings_wake new j b s u) new.took in
        let old_here = has log.applied (Group j s k) && old_stayed in
        let here = has new.applied (Group j s k) && stayed in
        let p = and_parts (l == k) (posted && (old_here || old_came)) e in
        let q = and_parts posted (old_here || old_came) p.1 in
        and_from (l == k) (posted && (here || came)) p.0
        (and_from posted (here || came) q.0
        (⊎_elim
        (λ (f : old_here ≡ true).
        let r = and_parts (has log.applied (Group j s k)) old_stayed f in
        or_left here came (and_from (has new.applied (Group j s k)) stayed (applied s r.0) (not_from_false (left_since new j b s) (left s (not-true (left_since log j b s) r.1)))))
        (λ (f : old_came ≡ true). or_right here came (brought s f))
        (or_cases old_here old_came q.1)))
    here_grows _ e = absurd (false≢true e)

    opening_grows : is_opening_here o w log j u k ≡ true → is_opening_here o w new j u k ≡ true
    opening_grows h =
        let b = o.bin_of k in
        let r = opening_at o w log j u k h in
        opening_from o w new j u k (
          r.0,
          ⊎_elim
              (λ (d : (o.first_owner j b ≡ w) × (left_since log j b 0 ≡ false)). inl (d.0, left 0 d.1))
              (λ (d : Brought log j b 0 u). inr (brought_at new j b 0 u (brought 0 (brought_from log j b 0 u d))))
              r.1,
        )

    pub wake_grows : has_wake o w log j u k ≡ true → has_wake o w new j u k ≡ true
    wake_grows h =
        ⊎_elim
        (λ (e : is_opening_here o w log j u k ≡ true). or_left (is_opening_here o w new j u k) (list_any (is_wake_here o new j u k) (o.records j)) (opening_grows e))
        (λ (e : list_any (is_wake_here o log j u k) (o.records j) ≡ true).
        let r = any_at (is_wake_here o log j u k) (o.records j) e in
        or_right (is_opening_here o w new j u k) (list_any (is_wake_here o new j u k) (o.records j)) (any_from (is_wake_here o new j u k) r.0 (o.records j) r.1 (here_grows r.0 r.2)))
        (or_cases (is_opening_here o w log j u k) (list_any (is_wake_here o log j u k) (o.records j)) h)

    -- a group that waits, waits on, unless it is applied
    pub waiting_grows : has new.applied (Group j u k) ≡ has log.applied (Group j u k) → (has_record log j u k ≡ true → has_record new j u k ≡ true) → is_pending o w log (Group j u k) ≡ true → is_pending o w new (Group j u k) ≡ true
    waiting_grows same record_stays h =
        let p = and_parts (not (has log.applied (Group j u k))) (has_record log j u k || has_wake o w log j u k) h in
        and_from (not (has new.applied (Group j u k))) (has_record new j u k || has_wake o w new j u k) (ap not same ∙ p.0)
        (⊎_elim
        (λ (f : has_record log j u k ≡ true). or_left (has_record new j u k) (has_wake o w new j u k) (record_stays f))
        (λ (f : has_wake o w log j u k ≡ true). or_right (has_record new j u k) (has_wake o w new j u k) (wake_grows f))
        (or_cases (has_record log j u k) (has_wake o w log j u k) p.1))
