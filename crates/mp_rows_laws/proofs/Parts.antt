-- The parts of what a log has in hand that stay the same from one log to another.
use Rattle.std.proofs.Common.{◌≡◌, ℕ, zero, suc, ◌-◌, ◌&&◌, ◌||◌, ◌==◌, nat_lt, nat_le, Bool, not, List, refl, ap, ◌∙◌}
use Rattle.std.specs.List.{list_any}
use Rattle.mp_names.specs.declared.names.Name.{Name}
use Rattle.mp_names.specs.declared.names.Name.TheVariants.{Ctrl, Rec, Packet, Row, Group}
use Rattle.mp_names.specs.Logs.{Log, brings_wake, has_record, has_wake, is_given, is_opening_here, is_packet_after, is_pending, is_record_of, is_wake_here, left_since}
use Rattle.mp_names.specs.Names.{has}
use Rattle.mp_names.specs.Outlines.{Outline, is_posted}

module _ (o : Outline) (log new : Log) where
  -- what is given, by what is ingested and applied
  pub given_same : (w : ℕ) → new.ingested ≡ log.ingested → new.applied ≡ log.applied → (x : Name) → is_given o w new x ≡ is_given o w log x
  given_same w e f (Ctrl i v) = refl
  given_same w e f (Rec zero t k g) = ap (λ (xs : List Name). has xs (Rec 0 t k g)) e
  given_same w e f (Rec (suc j) t k g) = ap (λ (xs : List Name). has xs (Group j t g.0)) f
  given_same w e f (Row t g) = ap (λ (xs : List Name). has xs (Group (o.stages - 1) t g.0)) f
  given_same w e f _ = refl

  -- the wakes that packets brought
  pub brought_same : (j b t u : ℕ) → ((m : ℕ) → left_since new j b m ≡ left_since log j b m) → (xs : List Name) → list_any (brings_wake new j b t u) xs ≡ list_any (brings_wake log j b t u) xs
  brought_same j b t u left xs = ap (λ (p : Name → Bool). list_any p xs) (λ i x. each x i)
    where
      each : (x : Name) → brings_wake new j b t u x ≡ brings_wake log j b t u x
      each (Packet i c m) =
          ap2 (left m)
        where
          ap2 : left_since new j b m ≡ left_since log j b m → brings_wake new j b t u (Packet i c m) ≡ brings_wake log j b t u (Packet i c m)
          ap2 e = ap (λ (l : Bool). i == j && (c == b && (nat_lt t m && (nat_le m u && not l)))) e
      each _ = refl

  -- the wakes of a key
  module _
      (w j u k : ℕ)
      (applied : (s : ℕ) → has new.applied (Group j s k) ≡ has log.applied (Group j s k))
      (left : (m : ℕ) → left_since new j (o.bin_of k) m ≡ left_since log j (o.bin_of k) m)
      (brought : (s : ℕ) → list_any (brings_wake new j (o.bin_of k) s u) new.took ≡ list_any (brings_wake log j (o.bin_of k) s u) log.took) where
    wake_here_same : (x : Name) → is_wake_here o new j u k x ≡ is_wake_here o log j u k x
    wake_here_same (Rec i s l g) =
        let b = o.bin_of k in
        ap (λ (c : Bool). l == k && (is_posted o (Rec i s l g) u && (c && not (left_since new j b s) || list_any (brings_wake new j b s u) new.took))) (applied s)
        ∙ ap (λ (c : Bool). l == k && (is_posted o (Rec i s l g) u && (has log.applied (Group j s k) && not c || list_any (brings_wake new j b s u) new.took))) (left s)
        ∙ ap (λ (c : Bool). l == k && (is_posted o (Rec i s l g) u && (has log.applied (Group j s k) && not (left_since log j b s) || c))) (brought s)
    wake_here_same _ = refl

    opening_same : is_opening_here o w new j u k ≡ is_opening_here o w log j u k
    opening_same =
        let b = o.bin_of k in
        let opening = has (o.opening j) (Group j u k) in
        let first = o.first_owner j b == w in
        ap (λ (c : Bool). opening && (first && not c || list_any (brings_wake new j b 0 u) new.took)) (left 0)
        ∙ ap (λ (c : Bool). opening && (first && not (left_since log j b 0) || c)) (brought 0)

    pub wake_same : has_wake o w new j u k ≡ has_wake o w log j u k
    wake_same =
        ap (λ (c : Bool). c || list_any (is_wake_here o new j u k) (o.records j)) opening_same
        ∙ ap (λ (p : Name → Bool). is_opening_here o w log j u k || list_any p (o.records j)) (λ i x. wake_here_same x i)

    -- and its group, where its records are the same
    pub pending_same : has_record new j u k ≡ has_record log j u k → is_pending o w new (Group j u k) ≡ is_pending o w log (Group j u k)
    pending_same e =
        ap (λ (c : Bool). not c && (has_record new j u k || has_wake o w new j u k)) (applied u)
        ∙ ap (λ (c : Bool). not (has log.applied (Group j u k)) && (c || has_wake o w new j u k)) e
        ∙ ap (λ (c : Bool). not (has log.applied (Group j u k)) && (has_record log j u k || c)) wake_same

  -- what is in hand, where nothing is applied, sent or taken
  pub pending_kept : (w : ℕ) → new.applied ≡ log.applied → new.sent ≡ log.sent → new.took ≡ log.took → (x : Name) → is_pending o w new x ≡ is_pending o w log x
  pending_kept w e f h (Group j u k) =
      let left : (b m : ℕ) → left_since new j b m ≡ left_since log j b m = λ b m. ap (λ (xs : List Name). list_any (is_packet_after j b m) xs) f in
      pending_same w j u k
      (λ s. ap (λ (xs : List Name). has xs (Group j s k)) e)
      (left (o.bin_of k))
      (λ s. ap (λ (xs : List Name). list_any (brings_wake new j (o.bin_of k) s u) xs) h ∙ brought_same j (o.bin_of k) s u (left (o.bin_of k)) log.took)
      (ap (λ (xs : List Name). list_any (is_record_of j u k) xs) h)
  pending_kept w e f h _ = refl
