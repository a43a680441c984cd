-- What a host has of a bin just before a time by which the bin is in hand: the state of the stay that ends then, and of those that began before no other.
use Rattle.std.proofs.Common.{◌≡◌, ◌⊎◌, ℕ, zero, suc, ◌<◌, ◌≤◌, ◌==◌, ◌&&◌, nat_lt, Bool, true, false, Option, None, Some, List, [], ◌∷◌, Contains, find, refl, sym, ap, ◌∙◌, subst, ⊎_elim, arith}
use Rattle.std.proofs.lemmas.Bool.{and_from, and_parts, both_ways, cases_Bool, cases_eq, cases_lt, cases_order, cond-false, cond-true, eq-eqb, eqb-true, false_from_ne_true, lt-ltb, ltb-true}
use Rattle.mp_names.specs.declared.names.Name.TheVariants.{Packet, Group}
use Rattle.mp_names.specs.Names.{has, In}
use Rattle.mp_names.specs.Controls.{is_below}
use Rattle.mp_names.specs.Outlines.{Outline, OutlineIsSound, control_at, group_owner, groups_of, IsMove, IsOwedBy, owner_before}
use Rattle.mp_names.specs.Logs.{InHandBefore, Log, LogIsLegal, left_since}
use Rattle.mp_names.proofs.Hosts.{left_at, left_from}
use Rattle.mp_names.proofs.Lists.{In_here, In_right}
use Rattle.mp_names.proofs.Owners.{move_in_shape, owners_follow}
use Rattle.mp_job.proofs.Members.{Contains-cases, Contains-here, Contains-later, nothing_in_nil}
use Rattle.mp_model.specs.Facts.{JobFacts, QueryFacts}
use Rattle.mp_outline.specs.JobOutline.{outline_of}
use Rattle.mp_outline.proofs.Found.{found, found_there}
use Rattle.mp_host_laws.specs.declared.held.Held.{Held}
use Rattle.mp_host_laws.specs.Hosted.{Hosted, began_before, is_held_before, state_before}
use Rattle.mp_host_laws.specs.HostOf.{IsHostOf, IsInHandSince}
use Rattle.mp_host_laws.specs.Laws.{MayLeaveNow}

-- Owners, by the worker just before each time

le_cases : (s u : ℕ) → s ≤ suc u → (s ≤ u) ⊎ (s ≡ suc u)
le_cases s u l = grind arith

-- who owns just before s and not just before u gives up between
pub gives_up : (b : ℕ → ℕ) (s u : ℕ) → s ≤ u → (b s ≡ b u → ⊥) → (d : ℕ) × (s ≤ d) × (d < u) × (b d ≡ b s) × (b d ≡ b (suc d) → ⊥)
gives_up b s zero l apart = let e : s ≡ 0 = omega arith in absurd (apart (ap b e))
gives_up b s (suc u) l apart =
    ⊎_elim
    (λ (k : s ≤ u).
    ⊎_elim
    (λ (e : b s ≡ b u). (u, k, omega arith, sym e, (λ f. apart (e ∙ f))))
    (λ (e : b s ≡ b u → ⊥). let r = gives_up b s u k e in let m = r.2 in (r.0, r.1, omega arith, r.3, r.4))
    (cases_eq (b s) (b u)))
    (λ (e : s ≡ suc u). absurd (apart (ap b e)))
    (le_cases s u l)

-- who owns just before s gives up by the time of a move from then on
pub ends_by : (b : ℕ → ℕ) (s m : ℕ) → s ≤ m → (b m ≡ b (suc m) → ⊥) → (d : ℕ) × (s ≤ d) × (d ≤ m) × (b d ≡ b s) × (b d ≡ b (suc d) → ⊥)
ends_by b s m l move =
    ⊎_elim
    (λ (e : b s ≡ b m). (m, l, omega arith, sym e, move))
    (λ (e : b s ≡ b m → ⊥). let r = gives_up b s m l e in let k = r.2 in (r.0, r.1, omega arith, r.3, r.4))
    (cases_eq (b s) (b m))

-- with no move between, the owner just before s is that just before u
pub same_owner : (b : ℕ → ℕ) (s u : ℕ) → s ≤ u → ((m : ℕ) → s ≤ m → m < u → (b m ≡ b (suc m) → ⊥) → ⊥) → b s ≡ b u
same_owner b s u l still =
    ⊎_elim (λ (e : b s ≡ b u). e) (λ (e : b s ≡ b u → ⊥). let r = gives_up b s u l e in absurd (still r.0 r.1 r.2 r.4)) (cases_eq (b s) (b u))

-- just before 0 it is the first owner
pub owner_first : (o : Outline) (j b : ℕ) → owner_before o j b 0 ≡ o.first_owner j b
owner_first o j b =
    (owners_follow o j b 0).1 (λ i l. false_from_ne_true (is_below j b 0 (control_at o i)) (λ e.
    let c = control_at o i in
    let p = and_parts (c.stage == j) (c.bin == b && nat_lt c.time 0) e in
    let r = and_parts (c.bin == b) (nat_lt c.time 0) p.1 in
    let n : c.time < 0 = ltb-true c.time 0 r.1 in
    omega arith))

-- Stays

-- the stay of the bin that ends at t began then: it is the first one, or the last move before t, whose packet is taken, began it
abbrev pub StaysSince : Outline → Log → ℕ → ℕ → ℕ → Option ℕ → Type 0
StaysSince o log j b t None = (m : ℕ) → m < t → IsMove o j b m → ⊥
StaysSince o log j b t (Some m) = (m < t) × IsMove o j b m × ((n : ℕ) → m < n → n < t → IsMove o j b n → ⊥) × In (Packet j b m) log.took

-- the bin that is in hand just before t is so since some stay began
pub stay_before : (o : Outline) (w : ℕ) (log : Log) (j b t : ℕ) → InHandBefore o w log j b t → (a : Option ℕ) × StaysSince o log j b t a
stay_before o w log j b t hand =
    ⊎_elim
    (λ (none : (m : ℕ) → m < t → IsMove o j b m → ⊥). (None, none))
    (λ (some : (m : ℕ) × (m < t) × IsMove o j b m × ((n : ℕ) → m < n → n < t → IsMove o j b n → ⊥) × In (Packet j b m) log.took). (Some some.0, (some.1, some.2, some.3, some.4)))
    hand.1

-- it began before
pub stay_began : (o : Outline) (log : Log) (j b t : ℕ) (a : Option ℕ) → StaysSince o log j b t a → began_before t a ≡ true
stay_began o log j b t None stays = refl
stay_began o log j b t (Some m) stays = lt-ltb m t stays.0

-- there is no move in it
pub no_move_in : (o : Outline) (log : Log) (j b t : ℕ) (a : Option ℕ) → StaysSince o log j b t a → (s : ℕ) → began_before s a ≡ true → (m : ℕ) → s ≤ m → m < t → IsMove o j b m → ⊥
no_move_in o log j b t None stays s began m k l = stays m l
no_move_in o log j b t (Some n) stays s began m k l = let c : n < s = ltb-true n s began in stays.2 m (omega arith) l

-- so in it the bin has one owner
pub owned_in : (o : Outline) (log : Log) (j b t : ℕ) (a : Option ℕ) → StaysSince o log j b t a → (s : ℕ) → began_before s a ≡ true → s ≤ t → owner_before o j b s ≡ owner_before o j b t
owned_in o log j b t a stays s began l = same_owner (owner_before o j b) s t l (no_move_in o log j b t a stays s began)

module _ {Cell : Type 0} (q : QueryFacts Cell) (job : JobFacts) (w : ℕ) (log : Log) (good : LogIsLegal (outline_of q job) w log) (j b t : ℕ) where
  -- the state of the stay hasn't left, where no packet of the bin from t on is sent
  pub since_in_hand : b < job.shape.bins → owner_before (outline_of q job) j b t ≡ w → ((n : ℕ) → t ≤ n → In (Packet j b n) log.sent → ⊥) → (a : Option ℕ) → StaysSince (outline_of q job) log j b t a → IsInHandSince q job w log j b a
  since_in_hand inside mine none None stays =
      let o = outline_of q job in
      let still : owner_before o j b 0 ≡ owner_before o j b t = same_owner (owner_before o j b) 0 t (omega arith) (λ m k l. stays m l) in
      let unsent : (m : ℕ) → has log.sent (Packet j b m) ≡ false = λ m.
      false_from_ne_true (has log.sent (Packet j b m)) (λ i. ⊎_elim (λ (l : m < t). stays m l (good.sent_owed (Packet j b m) i).0) (λ (l : t ≤ m). none m l i) (cases_lt m t)) in
      (inside, sym (owner_first o j b) ∙ still ∙ mine, unsent)
  since_in_hand inside mine none (Some m) stays = (
    stays.3,
    false_from_ne_true (left_since log j b m) (λ e.
        let r = left_at log j b m e in
        ⊎_elim (λ (l : r.0 < t). stays.2 r.0 r.1 l (good.sent_owed (Packet j b r.0) r.2).0) (λ (l : t ≤ r.0). none r.0 l r.2) (cases_lt r.0 t)),
  )

  -- so of a bin that is in hand just before t, and of which none is sent from t on, a state is in hand that began before
  pub since_before : b < job.shape.bins → InHandBefore (outline_of q job) w log j b t → ((n : ℕ) → t ≤ n → In (Packet j b n) log.sent → ⊥) → (a : Option ℕ) × IsInHandSince q job w log j b a × (began_before t a ≡ true)
  since_before inside hand none =
      let o = outline_of q job in
      let stay = stay_before o w log j b t hand in
      (stay.0, since_in_hand inside hand.0 none stay.0 stay.1, stay_began o log j b t stay.0 stay.1)

  module _ (sent : (m : ℕ) → m < t → IsOwedBy (outline_of q job) w (Packet j b m) → In (Packet j b m) log.sent) where
    -- a stay of the worker that is over before a move that is before t has left
    over : (s m : ℕ) → owner_before (outline_of q job) j b s ≡ w → s ≤ m → m < t → IsMove (outline_of q job) j b m → (d : ℕ) × (s ≤ d) × In (Packet j b d) log.sent
    over s m mine l k move =
        let o = outline_of q job in
        let r = ends_by (owner_before o j b) s m l move in
        let e = r.2 in
        (r.0, r.1, sent r.0 (omega arith) (r.4, r.3 ∙ mine))

    -- a state in hand that began before t is that of the stay
    pub since_is_stay : (a c : Option ℕ) → StaysSince (outline_of q job) log j b t a → IsInHandSince q job w log j b c → began_before t c ≡ true → c ≡ a
    since_is_stay None None stays held began = refl
    since_is_stay (Some m) None stays held began =
        let o = outline_of q job in
        let d = over 0 m (owner_first o j b ∙ held.1) (omega arith) stays.0 stays.1 in
        absurd (both_ways (has log.sent (Packet j b d.0)) (held.2 d.0) d.2)
    since_is_stay None (Some n) stays held began = absurd (stays n (ltb-true n t began) (good.took_owed (Packet j b n) held.0).0)
    since_is_stay (Some m) (Some n) stays held began =
        let owed = good.took_owed (Packet j b n) held.0 in
        let l : n < t = ltb-true n t began in
        ⊎_elim
        (λ (e : n ≡ m). ap Some e)
        (λ (e : (n < m) ⊎ (m < n)).
        ⊎_elim
        (λ (k : n < m).
        let d = over (suc n) m owed.1 (omega arith) stays.0 stays.1 in
        let g = d.1 in
        absurd (both_ways (left_since log j b n) held.1 (left_from log j b n d.0 (omega arith) d.2)))
        (λ (k : m < n). absurd (stays.2 n k l owed.0))
        e)
        (cases_order n m)

-- What is found

-- where an element passes, the first that does is found
pub find_some : {X : Type 0} (p : X → Bool) (xs : List X) (x : X) → Contains xs x → p x ≡ true → (y : X) × (find p xs ≡ Some y) × Contains xs y × (p y ≡ true)
find_some p [] x i e = absurd (nothing_in_nil x i)
find_some {X} p (z ∷ zs) x i e =
    ⊎_elim
    (λ (f : p z ≡ true). (z, cond-true (p z) (Some z) (find p zs) f, Contains-here z zs, f))
    (λ (f : p z ≡ false).
    let later = ⊎_elim
    (λ (s : z ≡ x). absurd (both_ways (p z) f (subst (λ (u : X). p u ≡ true) (sym s) e)))
    (λ (k : Contains zs x). k)
    (Contains-cases z x zs i) in
    let r = find_some p zs x later e in
    (r.0, cond-false (p z) (Some z) (find p zs) f ∙ r.1, Contains-later z r.0 zs r.2, r.3))
    (cases_Bool (p z))

-- The bin's state in hand just before t, of the stay that began then: it is found, and no other began before t
pub record IsStateThen {Cell : Type 0} (q : QueryFacts Cell) (job : JobFacts) (log : Log) (h : Hosted Cell) (b t : ℕ) (a : Option ℕ) (s : Held Cell) : Type 0 where
  pub stays : StaysSince (outline_of q job) log h.stage b t a
  pub found : state_before h b t ≡ Some s
  pub here : Contains h.held s
  pub bin : s.bin ≡ b
  pub since : s.since ≡ a
  pub only : (r : Held Cell) → Contains h.held r → is_held_before b t r ≡ true → (r.bin ≡ b) × (r.since ≡ a)

module _ {Cell : Type 0} (q : QueryFacts Cell) (job : JobFacts) (log : Log) (h : Hosted Cell) (host : IsHostOf q job log h) (good : LogIsLegal (outline_of q job) h.worker log) (b t : ℕ) where
  -- a bin in hand just before t, of which the packets due before t are sent and none from t on, has one state that began before t
  pub state_then : b < job.shape.bins → InHandBefore (outline_of q job) h.worker log h.stage b t
      → ((m : ℕ) → m < t → IsOwedBy (outline_of q job) h.worker (Packet h.stage b m) → In (Packet h.stage b m) log.sent)
      → ((n : ℕ) → t ≤ n → In (Packet h.stage b n) log.sent → ⊥) → (a : Option ℕ) × (s : Held Cell) × IsStateThen q job log h b t a s
  state_then inside hand sent none =
      let o = outline_of q job in
      let w = h.worker in
      let j = h.stage in
      let stay = stay_before o w log j b t hand in
      let a = stay.0 in
      let began = stay_began o log j b t a stay.1 in
      let here = found (λ (s : Held Cell). (s.bin ≡ b) × (s.since ≡ a)) h.held ((host.held b a).1 (since_in_hand q job w log good j b t inside hand.0 none a stay.1)) in
      let passes = and_from (here.0.bin == b) (began_before t here.0.since) (eq-eqb here.0.bin b here.2.0) (subst (λ (c : Option ℕ). began_before t c ≡ true) (sym here.2.1) began) in
      let first = find_some (is_held_before b t) h.held here.0 here.1 passes in
      let only : (r : Held Cell) → Contains h.held r → is_held_before b t r ≡ true → (r.bin ≡ b) × (r.since ≡ a) = λ r i e.
      let p = and_parts (r.bin == b) (began_before t r.since) e in
      let bin = eqb-true r.bin b p.0 in
      let since = (host.held b r.since).0 (found_there (λ (s : Held Cell). (s.bin ≡ b) × (s.since ≡ r.since)) h.held r i (bin, refl)) in
      (bin, since_is_stay q job w log good j b t sent a r.since stay.1 since p.1) in
      let own = only first.0 first.2 first.3 in
      (a, first.0, record { stays = stay.1; found = first.1; here = first.2; bin = own.0; since = own.1; only = only })

  -- of a bin that has to leave at t none is sent from t on
  pub none_from_leaving : IsOwedBy (outline_of q job) h.worker (Packet h.stage b t) → has log.sent (Packet h.stage b t) ≡ false → (n : ℕ) → t ≤ n → In (Packet h.stage b n) log.sent → ⊥
  none_from_leaving owed unsent n l i =
      ⊎_elim
      (λ (e : t ≡ n). both_ways (has log.sent (Packet h.stage b t)) unsent (subst (λ (m : ℕ). In (Packet h.stage b m) log.sent) (sym e) i))
      (λ (e : (t < n) ⊎ (n < t)).
      ⊎_elim
      (λ (k : t < n). both_ways (has log.sent (Packet h.stage b t)) unsent (host.moves.packets b t n k i owed))
      (λ (k : n < t). omega arith)
      e)
      (cases_order t n)

  -- so it has one state that began before
  pub state_leaving : OutlineIsSound (outline_of q job) → MayLeaveNow q job log h b t → (a : Option ℕ) × (s : Held Cell) × IsStateThen q job log h b t a s
  state_leaving sound leaves =
      let o = outline_of q job in
      let x = Packet h.stage b t in
      let given = leaves.legal.sent_given x (In_right x log.sent (x ∷ []) (In_here x [])) in
      state_then (move_in_shape o sound h.stage b t leaves.owed.0).1 given.0 leaves.earlier (none_from_leaving leaves.owed leaves.unsent)

-- of the bin of a group that isn't applied none is sent from the next time on
pub none_from_group : (o : Outline) (w : ℕ) (log : Log) → LogIsLegal o w log → (j u k : ℕ) → In (Group j u k) (groups_of o j) → group_owner o j u k ≡ w → has log.applied (Group j u k) ≡ false
    → (n : ℕ) → suc u ≤ n → In (Packet j (o.bin_of k) n) log.sent → ⊥
none_from_group o w log good j u k group mine unapplied n l i =
    both_ways (has log.applied (Group j u k)) unapplied ((good.sent_given (Packet j (o.bin_of k) n) i).1 u k (omega arith) refl mine group)
