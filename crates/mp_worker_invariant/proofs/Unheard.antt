-- What the parts of a worker don't hear: what grows in its log and is no concern of theirs leaves them what they are.
use Rattle.std.proofs.Common.{◌≡◌, ◌↔◌, ℕ, zero, suc, ◌-◌, ◌<◌, ◌≤◌, ◌||◌, nat_lt, Bool, true, false, Option, None, Some, List, [], ◌∷◌, ◌++◌, refl, sym, ap, ◌∙◌, subst, inl, inr, ⊎_elim}
use Rattle.std.proofs.lemmas.Bool.{false≢true, eq-eqb, eqb-true, both_ways}
use Rattle.std.proofs.lemmas.List.Elements.{All-weaker}
use Rattle.mp_names.specs.declared.names.Name.{Name}
use Rattle.mp_names.specs.declared.names.Name.TheVariants.{Rec as RecName, Packet, Row, Group, Written}
use Rattle.mp_names.specs.declared.names.Tag.{Tag}
use Rattle.mp_names.specs.Names.{has, In, is_packet, is_rec, is_row, is_written}
use Rattle.mp_names.specs.Outlines.{Outline}
use Rattle.mp_names.specs.Logs.{Log, LogGrows, is_given, left_since, with_applied, with_ingested, with_sent, with_settled, with_took}
use Rattle.mp_names.specs.Keeping.{IsHeld}
use Rattle.mp_names.proofs.Grows.{grown_closed}
use Rattle.mp_names.proofs.Hosts.{left_at, left_from}
use Rattle.mp_stamps.specs.declared.seen.Seen.{Seen}
use Rattle.mp_model.specs.declared.record.Output.{Output}
use Rattle.mp_model.specs.Entry.{Entry}
use Rattle.mp_model.specs.Facts.{JobFacts, QueryFacts}
use Rattle.mp_model.specs.Folds.{fold_of}
use Rattle.mp_stamps.specs.Seen.{SeenIsDone}
use Rattle.mp_outline.specs.JobOutline.{outline_of}
use Rattle.mp_outline.specs.Laws.{timeline_of}
use Rattle.mp_route.specs.Routed.{Routed}
use Rattle.mp_route.specs.Unsent.{HoldsAllBut}
use Rattle.mp_output.specs.Holding.{HoldsUnwritten}
use Rattle.mp_host_laws.specs.declared.held.Held.{Held}
use Rattle.mp_host_laws.specs.Hosted.{Hosted}
use Rattle.mp_host_laws.specs.HostOf.{CameInto, IsHostOf, IsInHandSince, IsStateOf, MovesInOrder, is_taken_in}
use Rattle.mp_host_laws.proofs.Holding.{wake_same}
use Rattle.mp_host_laws.proofs.Lists.{filter_within}
use Rattle.mp_host_laws.proofs.Logs.{has_push, same_test}
use Rattle.mp_worker_invariant.specs.Parts.{HoldsRowsBut}
use Rattle.mp_worker_invariant.specs.Laws.{HostsStay, RoutersStay, UnsentRowsStay, UnwrittenStay}

-- Names of two kinds are two
pub apart_by : (p : Name → Bool) (x y : Name) → p y ≡ false → p x ≡ true → y ≡ x → ⊥
apart_by p x y n h e = both_ways (p y) n (subst (λ (z : Name). p z ≡ true) (sym e) h)

-- a name of this kind stands where it stood, with one more of another kind
pub unheard : (p : Name → Bool) (xs : List Name) (x y : Name) → p y ≡ false → p x ≡ true → has xs x ≡ has (xs ++ y ∷ []) x
unheard p xs x y n h = sym (has_push xs x y (apart_by p x y n h))

-- groups of two stages are two
pub other_stage : (i t k j u l : ℕ) → (i ≡ j → ⊥) → Group i t k ≡ Group j u l → ⊥
other_stage i t k j u l n e = n (cc)

-- What is held

module _ (o : Outline) (w : ℕ) where
  -- by both logs the same names of this kind are held
  abbrev pub HeldAlike : (Name → Bool) → Log → Log → Type 0
  HeldAlike p old new = (x : Name) → (IsHeld o w old p x ↔ IsHeld o w new p x)

  held_from : (p : Name → Bool) (old new : Log) (x : Name) → is_given o w old x ≡ is_given o w new x → has old.sent x ≡ has new.sent x → IsHeld o w old p x → IsHeld o w new p x
  held_from p old new x e f h = (h.0, h.1, sym e ∙ h.2, sym f ∙ h.3)

  held_alike : (p : Name → Bool) (old new : Log) → ((x : Name) → p x ≡ true → is_given o w old x ≡ is_given o w new x) → ((x : Name) → p x ≡ true → has old.sent x ≡ has new.sent x) → HeldAlike p old new
  held_alike p old new g s x = (
    (λ h. held_from p old new x (g x h.0) (s x h.0) h),
    (λ h. held_from p new old x (sym (g x h.0)) (sym (s x h.0)) h),
  )

  -- what is given is given by what is ingested and applied alone
  pub given_alike : (old new : Log) → old.ingested ≡ new.ingested → old.applied ≡ new.applied → (x : Name) → is_given o w old x ≡ is_given o w new x
  given_alike old new e f (RecName zero t k g) = ap (λ (xs : List Name). has xs (RecName 0 t k g)) e
  given_alike old new e f (RecName (suc j) t k g) = ap (λ (xs : List Name). has xs (Group j t g.0)) f
  given_alike old new e f (Row t g) = ap (λ (xs : List Name). has xs (Group (o.stages - 1) t g.0)) f
  given_alike old new e f _ = refl

  pub took_alike : (p : Name → Bool) (log : Log) (y : Name) → HeldAlike p log (with_took log y)
  took_alike p log y = held_alike p log (with_took log y) (λ x h. given_alike log (with_took log y) refl refl x) (λ x h. refl)

  pub settled_alike : (p : Name → Bool) (log : Log) (y : Name) → HeldAlike p log (with_settled log y)
  settled_alike p log y = held_alike p log (with_settled log y) (λ x h. given_alike log (with_settled log y) refl refl x) (λ x h. refl)

  pub sent_alike : (p : Name → Bool) (log : Log) (y : Name) → p y ≡ false → HeldAlike p log (with_sent log y)
  sent_alike p log y n = held_alike p log (with_sent log y) (λ x h. given_alike log (with_sent log y) refl refl x) (λ x h. unheard p log.sent x y n h)

  ingested_given : (log : Log) (y : Name) (j : ℕ) → (j ≡ 0 → ⊥) → (x : Name) → is_rec j x ≡ true → is_given o w log x ≡ is_given o w (with_ingested log y) x
  ingested_given log y j n (RecName zero t k g) h = absurd (n (sym (eqb-true 0 j h)))
  ingested_given log y j n (RecName (suc i) t k g) h = refl
  ingested_given log y j n _ h = refl

  -- records of later stages don't come from events
  pub ingested_alike : (j : ℕ) (log : Log) (y : Name) → (j ≡ 0 → ⊥) → HeldAlike (is_rec j) log (with_ingested log y)
  ingested_alike j log y n = held_alike (is_rec j) log (with_ingested log y) (ingested_given log y j n) (λ x h. refl)

  ingested_row : (log : Log) (y x : Name) → is_row x ≡ true → is_given o w log x ≡ is_given o w (with_ingested log y) x
  ingested_row log y (RecName zero t k g) h = absurd (false≢true h)
  ingested_row log y (RecName (suc i) t k g) h = refl
  ingested_row log y _ h = refl

  pub ingested_rows_alike : (log : Log) (y : Name) → HeldAlike is_row log (with_ingested log y)
  ingested_rows_alike log y = held_alike is_row log (with_ingested log y) (ingested_row log y) (λ x h. refl)

  applied_given : (log : Log) (i t k j : ℕ) → (j ≡ suc i → ⊥) → (x : Name) → is_rec j x ≡ true → is_given o w log x ≡ is_given o w (with_applied log (Group i t k)) x
  applied_given log i t k j n (RecName zero s l g) h = refl
  applied_given log i t k j n (RecName (suc m) s l g) h =
      sym (has_push log.applied (Group m s g.0) (Group i t k) (other_stage i t k m s g.0 (λ e. n (sym (eqb-true (suc m) j h) ∙ ap suc (sym e)))))
  applied_given log i t k j n (Row s g) h = absurd (false≢true h)
  applied_given log i t k j n _ h = refl

  -- a stage is given records by the one before it
  pub applied_alike : (j : ℕ) (log : Log) (i t k : ℕ) → (j ≡ suc i → ⊥) → HeldAlike (is_rec j) log (with_applied log (Group i t k))
  applied_alike j log i t k n = held_alike (is_rec j) log (with_applied log (Group i t k)) (applied_given log i t k j n) (λ x h. refl)

  applied_row : (log : Log) (i t k : ℕ) → (i ≡ o.stages - 1 → ⊥) → (x : Name) → is_row x ≡ true → is_given o w log x ≡ is_given o w (with_applied log (Group i t k)) x
  applied_row log i t k n (Row s g) h = sym (has_push log.applied (Group (o.stages - 1) s g.0) (Group i t k) (other_stage i t k (o.stages - 1) s g.0 n))
  applied_row log i t k n (RecName zero s l g) h = refl
  applied_row log i t k n (RecName (suc m) s l g) h = absurd (false≢true h)
  applied_row log i t k n _ h = refl

  -- answer rows are given by the last stage
  pub applied_rows_alike : (log : Log) (i t k : ℕ) → (i ≡ o.stages - 1 → ⊥) → HeldAlike is_row log (with_applied log (Group i t k))
  applied_rows_alike log i t k n = held_alike is_row log (with_applied log (Group i t k)) (applied_row log i t k n) (λ x h. refl)

-- Routers, and answer rows to be sent

module _ {Cell : Type 0} (q : QueryFacts Cell) (job : JobFacts) (w : ℕ) where
  pub router_stays : (old new : Log) (rest : List Name) (h : Routed) → HeldAlike (outline_of q job) w (is_rec h.stage) old new → HoldsAllBut q job w old rest h → HoldsAllBut q job w new rest h
  router_stays old new rest h same holds = record {
    once = holds.once;
    unsent = λ x. ((λ i. (same x).0 ((holds.unsent x).0 i)), (λ u. (holds.unsent x).1 ((same x).1 u)));
  }

  pub rows_stay : (old new : Log) (rest : List Name) (rows : List Output) → HeldAlike (outline_of q job) w is_row old new → HoldsRowsBut q job w old rest rows → HoldsRowsBut q job w new rest rows
  rows_stay old new rest rows same holds = record {
    once = holds.once;
    unsent = λ x. ((λ i. (same x).0 ((holds.unsent x).0 i)), (λ u. (holds.unsent x).1 ((same x).1 u)));
  }

  -- what was seen to be over stays over
  pub seen_stays : (old new : Log) (seen : Seen) → LogGrows old new → SeenIsDone (outline_of q job) w old seen → SeenIsDone (outline_of q job) w new seen
  seen_stays old new seen grows done at t l passed = grown_closed (outline_of q job) w old new grows at t (done at t l passed)

-- Answer rows to be written

pub unwritten_stay : (old new : Log) (rows : List Output) → ((t : ℕ) (g : Tag) → has old.took (Row t g) ≡ has new.took (Row t g)) → ((t : ℕ) → has old.settled (Written t) ≡ has new.settled (Written t)) → HoldsUnwritten old rows → HoldsUnwritten new rows
unwritten_stay old new rows taken written holds = record {
  held = λ t g. (
    (λ i. let a = (holds.held t g).0 i in (sym (taken t g) ∙ a.0, sym (written t) ∙ a.1)),
    (λ a. (holds.held t g).1 (taken t g ∙ a.0, written t ∙ a.1)),
  );
  once = holds.once;
}

pub unwritten_took : (log : Log) (rows : List Output) (y : Name) → is_row y ≡ false → HoldsUnwritten log rows → HoldsUnwritten (with_took log y) rows
unwritten_took log rows y n = unwritten_stay log (with_took log y) rows (λ t g. unheard is_row log.took (Row t g) y n refl) (λ t. refl)

pub unwritten_settled : (log : Log) (rows : List Output) (y : Name) → is_written y ≡ false → HoldsUnwritten log rows → HoldsUnwritten (with_settled log y) rows
unwritten_settled log rows y n = unwritten_stay log (with_settled log y) rows (λ t g. refl) (λ t. unheard is_written log.settled (Written t) y n refl)

-- what is ingested, sent or applied is no concern of theirs
pub unwritten_ingested : (log : Log) (rows : List Output) (y : Name) → HoldsUnwritten log rows → HoldsUnwritten (with_ingested log y) rows
unwritten_ingested log rows y = unwritten_stay log (with_ingested log y) rows (λ t g. refl) (λ t. refl)

pub unwritten_sent : (log : Log) (rows : List Output) (y : Name) → HoldsUnwritten log rows → HoldsUnwritten (with_sent log y) rows
unwritten_sent log rows y = unwritten_stay log (with_sent log y) rows (λ t g. refl) (λ t. refl)

pub unwritten_applied : (log : Log) (rows : List Output) (y : Name) → HoldsUnwritten log rows → HoldsUnwritten (with_applied log y) rows
unwritten_applied log rows y = unwritten_stay log (with_applied log y) rows (λ t g. refl) (λ t. refl)

-- Hosts

-- Both logs have the same of what a host of the stage hears: of its records and packets that are taken, of its packets that are sent, and of its groups that are applied
record AreHeardAlike (j : ℕ) (old new : Log) : Type 0 where
  pub records : (t k : ℕ) (g : Tag) → has old.took (RecName j t k g) ≡ has new.took (RecName j t k g)
  pub brought : (b t : ℕ) → has old.took (Packet j b t) ≡ has new.took (Packet j b t)
  pub sent : (b t : ℕ) → has old.sent (Packet j b t) ≡ has new.sent (Packet j b t)
  pub groups : (t k : ℕ) → has old.applied (Group j t k) ≡ has new.applied (Group j t k)

module _ (j : ℕ) (old new : Log) (same : AreHeardAlike j old new) where
  alike_turn : AreHeardAlike j new old
  alike_turn = record { records = λ t k g. sym (same.records t k g); brought = λ b t. sym (same.brought b t); sent = λ b t. sym (same.sent b t); groups = λ t k. sym (same.groups t k) }

  moves_stay : (o : Outline) (w : ℕ) → MovesInOrder o w old j → MovesInOrder o w new j
  moves_stay o w moves = record {
    packets = λ b m n l i owed. sym (same.sent b m) ∙ moves.packets b m n l (same.sent b n ∙ i) owed;
    groups = λ u k m l i owed. sym (same.sent (o.bin_of k) m) ∙ moves.groups u k m l (same.groups u k ∙ i) owed;
  }

  left_too : (b s : ℕ) → left_since old j b s ≡ true → left_since new j b s ≡ true
  left_too b s e = let r = left_at old j b s e in left_from new j b s r.0 r.1 (sym (same.sent b r.0) ∙ r.2)

  came_too : (since : Option ℕ) (k s u : ℕ) → CameInto old j since k s u → CameInto new j since k s u
  came_too None k s u came = sym (same.groups s k) ∙ came
  came_too (Some m) k s u came =
      ⊎_elim
      (λ (c : (s < m) × (m ≤ u)). inl c)
      (λ (c : (m ≤ s) × In (Group j s k) old.applied). inr (c.0, sym (same.groups s k) ∙ c.1))
      came

  taken_alike : (since : Option ℕ) (u k : ℕ) → is_taken_in old j since u k ≡ is_taken_in new j since u k
  taken_alike None u k = same.groups u k
  taken_alike (Some m) u k = ap (λ (b : Bool). nat_lt u m || b) (same.groups u k)

-- the bin left since then by both logs, or by neither
left_alike : (j : ℕ) (old new : Log) → AreHeardAlike j old new → (b s : ℕ) → left_since old j b s ≡ left_since new j b s
left_alike j old new same b s = same_test (left_since old j b s) (left_since new j b s) (left_too j old new same b s) (left_too j new old (alike_turn j old new same) b s)

module _ {Cell : Type 0} (q : QueryFacts Cell) (job : JobFacts) where
  since_stays : (j : ℕ) (old new : Log) → AreHeardAlike j old new → (w b : ℕ) (since : Option ℕ) → IsInHandSince q job w old j b since → IsInHandSince q job w new j b since
  since_stays j old new same w b None own = (own.0, own.1, (λ m. sym (same.sent b m) ∙ own.2 m))
  since_stays j old new same w b (Some m) own = (sym (same.brought b m) ∙ own.0, sym (left_alike j old new same b m) ∙ own.1)

  module _ (old new : Log) (j : ℕ) (same : AreHeardAlike j old new) where
    state_stays : (s : Held Cell) → IsStateOf q job old j s → IsStateOf q job new j s
    state_stays s state = record {
      wakes = λ u k own. (
        (λ i. let a = (state.wakes u k own).0 i in (sym (same.groups u k) ∙ a.0, wake_same q job old new j s.since k u (λ v. came_too j old new same s.since k v u) a.1)),
        (λ a. (state.wakes u k own).1 (same.groups u k ∙ a.0, wake_same q job new old j s.since k u (λ v. came_too j new old (alike_turn j old new same) s.since k v u) a.1)),
      );
      cells = λ k own.
          state.cells k own
          ∙ ap (fold_of q j (q.opening j k)) (filter_within (λ (e : Entry). is_taken_in old j s.since e.time k) (λ (e : Entry). is_taken_in new j s.since e.time k) (timeline_of q job j k) (λ e i. taken_alike j old new same s.since e.time k));
    }

  host_stays : (old new : Log) (h : Hosted Cell) → AreHeardAlike h.stage old new → IsHostOf q job old h → IsHostOf q job new h
  host_stays old new h same host =
      let j = h.stage in
      let back = alike_turn j old new same in
      record {
        moves = moves_stay j old new same (outline_of q job) h.worker host.moves;
        records = λ r. (
          (λ i. let a = (host.records r).0 i in (a.0, sym (same.records r.time r.key r.tag) ∙ a.1, sym (same.groups r.time r.key) ∙ a.2)),
          (λ a. (host.records r).1 (a.0, same.records r.time r.key r.tag ∙ a.1, same.groups r.time r.key ∙ a.2)),
        );
        once = host.once;
        held = λ b since. (
          (λ i. since_stays j old new same h.worker b since ((host.held b since).0 i)),
          (λ own. (host.held b since).1 (since_stays j new old back h.worker b since own)),
        );
        held_once = host.held_once;
        states = All-weaker (IsStateOf q job old j) (IsStateOf q job new j) (state_stays old new j same) h.held host.states;
      }

  pub host_ingested : (log : Log) (h : Hosted Cell) (y : Name) → IsHostOf q job log h → IsHostOf q job (with_ingested log y) h
  host_ingested log h y =
      host_stays log (with_ingested log y) h (record { records = λ t k g. refl; brought = λ b t. refl; sent = λ b t. refl; groups = λ t k. refl })

  pub host_settled : (log : Log) (h : Hosted Cell) (y : Name) → IsHostOf q job log h → IsHostOf q job (with_settled log y) h
  host_settled log h y =
      host_stays log (with_settled log y) h (record { records = λ t k g. refl; brought = λ b t. refl; sent = λ b t. refl; groups = λ t k. refl })

  pub host_sent : (log : Log) (h : Hosted Cell) (y : Name) → is_packet h.stage y ≡ false → IsHostOf q job log h → IsHostOf q job (with_sent log y) h
  host_sent log h y n =
      let j = h.stage in
      host_stays log (with_sent log y) h
      (record { records = λ t k g. refl; brought = λ b t. refl; sent = λ b t. unheard (is_packet j) log.sent (Packet j b t) y n (eq-eqb j j refl); groups = λ t k. refl })

  pub host_took : (log : Log) (h : Hosted Cell) (y : Name) → is_rec h.stage y ≡ false → is_packet h.stage y ≡ false → IsHostOf q job log h → IsHostOf q job (with_took log y) h
  host_took log h y m n =
      let j = h.stage in
      host_stays log (with_took log y) h
      (record {
        records = λ t k g. unheard (is_rec j) log.took (RecName j t k g) y m (eq-eqb j j refl);
        brought = λ b t. unheard (is_packet j) log.took (Packet j b t) y n (eq-eqb j j refl);
        sent = λ b t. refl;
        groups = λ t k. refl;
      })

  pub host_applied : (log : Log) (h : Hosted Cell) (i t k : ℕ) → (i ≡ h.stage → ⊥) → IsHostOf q job log h → IsHostOf q job (with_applied log (Group i t k)) h
  host_applied log h i t k n =
      host_stays log (with_applied log (Group i t k)) h
      (record {
        records = λ u l g. refl;
        brought = λ b u. refl;
        sent = λ b u. refl;
        groups = λ u l. sym (has_push log.applied (Group h.stage u l) (Group i t k) (other_stage i t k h.stage u l n));
      })

  pub hosts_stay : HostsStay q job
  hosts_stay = record { ingested = host_ingested; sent = host_sent; took = host_took; applied = host_applied; settled = host_settled }

module _ {Cell : Type 0} (q : QueryFacts Cell) (job : JobFacts) (w : ℕ) (rest : List Name) where
  pub routers_stay : RoutersStay q job w rest
  routers_stay =
      let o = outline_of q job in
      record {
        ingested = λ log h x n. router_stays q job w log (with_ingested log x) rest h (ingested_alike o w h.stage log x n);
        sent = λ log h x n. router_stays q job w log (with_sent log x) rest h (sent_alike o w (is_rec h.stage) log x n);
        took = λ log h x. router_stays q job w log (with_took log x) rest h (took_alike o w (is_rec h.stage) log x);
        applied = λ log h i t k n. router_stays q job w log (with_applied log (Group i t k)) rest h (applied_alike o w h.stage log i t k n);
        settled = λ log h x. router_stays q job w log (with_settled log x) rest h (settled_alike o w (is_rec h.stage) log x);
      }

  pub unsent_rows_stay : UnsentRowsStay q job w rest
  unsent_rows_stay =
      let o = outline_of q job in
      record {
        ingested = λ log rows x. rows_stay q job w log (with_ingested log x) rest rows (ingested_rows_alike o w log x);
        sent = λ log rows x n. rows_stay q job w log (with_sent log x) rest rows (sent_alike o w is_row log x n);
        took = λ log rows x. rows_stay q job w log (with_took log x) rest rows (took_alike o w is_row log x);
        applied = λ log rows i t k n. rows_stay q job w log (with_applied log (Group i t k)) rest rows (applied_rows_alike o w log i t k n);
        settled = λ log rows x. rows_stay q job w log (with_settled log x) rest rows (settled_alike o w is_row log x);
      }

pub unwritten_rows_stay : UnwrittenStay
unwritten_rows_stay = record { ingested = unwritten_ingested; sent = unwritten_sent; took = unwritten_took; applied = unwritten_applied; settled = unwritten_settled }
