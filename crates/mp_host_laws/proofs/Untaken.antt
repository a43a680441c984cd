-- Of a bin whose packet a worker hasn't taken it has applied no group from then on, and sent no packet of a later time.
use Rattle.std.proofs.Common.{◌≡◌, ◌⊎◌, ℕ, zero, suc, ◌<◌, ◌≤◌, false, sym, ◌∙◌, subst, ⊎_elim, arith}
use Rattle.std.proofs.lemmas.Bool.{both_ways, cases_lt, cases_order}
use Rattle.mp_names.specs.declared.names.Name.TheVariants.{Group, Packet}
use Rattle.mp_names.specs.Names.{has, In}
use Rattle.mp_names.specs.Outlines.{Outline, IsMove, IsOwedBy, IsOwedTo, owner_at, owner_before}
use Rattle.mp_names.specs.Logs.{Log, LogIsLegal, InHandBefore}
use Rattle.mp_host_laws.specs.HostOf.{MovesInOrder}
use Rattle.mp_host_laws.proofs.Stays.{gives_up}

-- a worker that owns the bin at m, and to which it moves later, gives it up between
pub gives_up_between : (o : Outline) (w j b m n : ℕ) → m < n → owner_at o j b m ≡ w → IsOwedTo o w (Packet j b n) → (d : ℕ) × (m < d) × (d < n) × IsOwedBy o w (Packet j b d)
gives_up_between o w j b m n l mine comes =
    let r = gives_up (owner_before o j b) (suc m) n (omega arith) (λ e. comes.0 (sym e ∙ (mine ∙ sym comes.1))) in
    let k = r.1 in
    (r.0, omega arith, r.2, (r.4, r.3 ∙ mine))

-- the last move before a time by which the bin is in hand is no earlier than another one, and its packet is taken
pub last_is_taken : (o : Outline) (w : ℕ) (log : Log) (j b m n : ℕ) → InHandBefore o w log j b n → m < n → IsMove o j b m → (l : ℕ) × (m ≤ l) × (l < n) × In (Packet j b l) log.took
last_is_taken o w log j b m n hand less move =
    ⊎_elim
    (λ (none : (m : ℕ) → m < n → IsMove o j b m → ⊥). absurd (none m less move))
    (λ (some : (l : ℕ) × (l < n) × IsMove o j b l × ((k : ℕ) → l < k → k < n → IsMove o j b k → ⊥) × In (Packet j b l) log.took).
    ⊎_elim
    (λ (k : some.0 < m). absurd (some.3 m k less move))
    (λ (k : m ≤ some.0). (some.0, k, some.1, some.4))
    (cases_lt some.0 m))
    hand.1

module _
    (o : Outline) (w : ℕ) (log : Log) (good : LogIsLegal o w log) (j b m : ℕ) (moves : MovesInOrder o w log j)
    (comes : IsOwedTo o w (Packet j b m)) (untaken : has log.took (Packet j b m) ≡ false) where
  -- before a packet of the bin of a later time that is taken the worker gives the bin up
  given_up : (n : ℕ) → m ≤ n → In (Packet j b n) log.took → (d : ℕ) × (m < d) × (d < n) × IsOwedBy o w (Packet j b d)
  given_up n l i =
      ⊎_elim
      (λ (e : m ≡ n). absurd (both_ways (has log.took (Packet j b m)) untaken (subst (λ (u : ℕ). In (Packet j b u) log.took) (sym e) i)))
      (λ (e : (m < n) ⊎ (n < m)).
      ⊎_elim
      (λ (k : m < n). gives_up_between o w j b m n k comes.1 (good.took_owed (Packet j b n) i))
      (λ (k : n < m). absurd (omega arith))
      e)
      (cases_order m n)

  none_sent_below : (v n : ℕ) → n < v → m < n → In (Packet j b n) log.sent → ⊥
  none_sent_below zero n l k i = omega arith
  none_sent_below (suc v) n l k i =
      let hand = (good.sent_given (Packet j b n) i).0 in
      let last = last_is_taken o w log j b m n hand k comes.0 in
      let before = last.2 in
      let d = given_up last.0 last.1 last.3 in
      let less = d.2 in
      none_sent_below v d.0 (omega arith) d.1 (moves.packets b d.0 n (omega arith) i d.3)

  -- no packet of a later time is sent
  pub none_sent_untaken : (n : ℕ) → m < n → In (Packet j b n) log.sent → ⊥
  none_sent_untaken n l i = none_sent_below (suc n) n (omega arith) l i

  -- and no group from then on is applied
  pub none_applied_untaken : (u k : ℕ) → o.bin_of k ≡ b → m ≤ u → In (Group j u k) log.applied → ⊥
  none_applied_untaken u k own l i =
      let hand = subst (λ (c : ℕ). InHandBefore o w log j c (suc u)) own (good.applied_ready (Group j u k) i).2 in
      let last = last_is_taken o w log j b m (suc u) hand (omega arith) comes.0 in
      let before = last.2 in
      let d = given_up last.0 last.1 last.3 in
      let less = d.2 in
      let sent = moves.groups u k d.0 (omega arith) i (subst (λ (c : ℕ). IsOwedBy o w (Packet j c d.0)) (sym own) d.3) in
      none_sent_untaken d.0 d.1 (subst (λ (c : ℕ). In (Packet j c d.0) log.sent) own sent)
