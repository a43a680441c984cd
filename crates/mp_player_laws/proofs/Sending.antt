-- What a worker sends but for records goes in a fixed order.
use Rattle.std.proofs.Common.{◌≡◌, ℕ, ◌<◌, ◌==◌, Bool, true, false, ◌&&◌, List, [], ◌∷◌, ◌++◌, filter, refl, sym, ap, ◌∙◌, subst, append-nil}
use Rattle.std.proofs.lemmas.Bool.{false≢true, eqb-true, eq-eqb, both_ways, false_from_ne_true, and_parts, and_from, cond-false}
use Rattle.std.proofs.lemmas.List.Elements.{filter-append}
use Rattle.mp_names.specs.declared.names.Name.{Name}
use Rattle.mp_names.specs.declared.names.Name.TheVariants.{Ctrl, Rec, Packet, Row}
use Rattle.mp_names.specs.declared.locations.Loc.{Loc}
use Rattle.mp_names.specs.declared.kinds.Kind.{Kind}
use Rattle.mp_names.specs.declared.kinds.Kind.TheVariants.{Ingest, SendControl, Route, Receive, Extract, Settle, Apply, SendRow, Write, Exchange}
use Rattle.mp_names.specs.Names.{has, In, IsPrefix, Less, IsLeast, ascending, is_ctrl, is_rec, is_packet, is_row}
use Rattle.mp_names.specs.Outlines.{Outline, OutlineIsSound, sender, ctrl_names, packets_of}
use Rattle.mp_names.specs.Logs.{Log, LogIsLegal, is_given}
use Rattle.mp_names.specs.Frontiers.{HasPassed, IsClosedForOne}
use Rattle.mp_names.specs.Keeping.{IsHeld, IsUnsentPacket}
use Rattle.mp_names.proofs.Lists.{In_here, In_later, In_filter, filter_In}
use Rattle.mp_names.proofs.Orders.{In_ascending, ascending_In, ascending_ascends, filter_ascends}
use Rattle.mp_names.proofs.Grows.{prefix_filter_push}
use Rattle.mp_names.proofs.Listed.{packets_ascend, packet_In, packet_is, ctrl_owed, row_owed}
use Rattle.mp_names.proofs.Steps.{given_own}
use Rattle.mp_machine.specs.Worlds.{Worker, World}
use Rattle.mp_machine.specs.Messages.{bundle_of}
use Rattle.mp_machine.specs.Steps.{IsControlDue, IsNext, IsReady, names_of, logged}
use Rattle.mp_machine.specs.Runs.{run_of_machine}
use Rattle.mp_machine.proofs.Puts.{put_all}
use Rattle.mp_machine.proofs.Candidates.{ctrl_into}
use Rattle.mp_machine.proofs.Messages.{bundle_held}
use Rattle.mp_machine.proofs.Worlds.{known, run_keeps, logs_are}
use Rattle.mp_player_laws.specs.Decisions.{ComesNext, controls_to_send, packets_to_send, rows_to_send, SendsInOrder}
use Rattle.mp_player_laws.proofs.Next.{AreInOrder, by_rank, ascending_in_order, next_from_first, first_from_next}
use Rattle.mp_player_laws.proofs.Controls.{GoesBefore, by_turn, by_time_In, In_by_time, controls_in_order, first_held, least_due}
use Rattle.mp_player_laws.proofs.Decided.{not_in_filter, IsUnsentRow, extract_to, send_to}

-- the lists are in order

module _ (o : Outline) (w : ℕ) where
  packets_in_order : (j : ℕ) → AreInOrder Less (packets_to_send o w j)
  packets_in_order j = ascending_in_order (packets_to_send o w j) (filter_ascends (λ x. is_packet j x && sender o x == w) (packets_of o) (packets_ascend o))

  rows_in_order : AreInOrder Less (rows_to_send o w)
  rows_in_order = ascending_in_order (rows_to_send o w) (filter_ascends (λ x. sender o x == w) (ascending o.rows) (ascending_ascends o.rows))

-- what is left of them

module _ (o : Outline) (ok : OutlineIsSound o) (w : ℕ) (worker : Worker) (good : LogIsLegal o w worker.log) where
  abbrev log : Log
  log = worker.log

  abbrev Held : Name → Type 0
  Held = IsHeld o w log is_ctrl

  new_in : (p : Name → Bool) (x : Name) → has log.sent x ≡ false → has (filter p log.sent) x ≡ false
  new_in p x n = false_from_ne_true (has (filter p log.sent) x) (λ h. both_ways (has log.sent x) n (In_filter p x log.sent h).0)

  pub control_into : (x : Name) → Held x → In x (controls_to_send o w) × (has (filter is_ctrl log.sent) x ≡ false)
  control_into x h =
      let i = ctrl_into o ok w worker x h in
      let listed = filter_In (λ y. sender o y == w) x (ctrl_names o) i.0 (eq-eqb (sender o x) w (given_own o w log good x h.2)) in
      (In_by_time o x (filter (λ y. sender o y == w) (ctrl_names o)) listed, new_in is_ctrl x h.3)

  pub control_back : (x : Name) → In x (controls_to_send o w) → has (filter is_ctrl log.sent) x ≡ false → Held x
  control_back x i n =
      let r = In_filter (λ y. sender o y == w) x (ctrl_names o) (by_time_In o x (filter (λ y. sender o y == w) (ctrl_names o)) i) in
      let owed = ctrl_owed o x r.0 in
      (owed.1, owed.0, given x owed.1 (eqb-true (sender o x) w r.1), not_in_filter is_ctrl log.sent x owed.1 n)
    where
      given : (x : Name) → is_ctrl x ≡ true → sender o x ≡ w → is_given o w log x ≡ true
      given (Ctrl i v) e f = eq-eqb w 0 (sym f)
      given _ e f = absurd (false≢true e)

  module _ (j : ℕ) where
    abbrev Unsent : Name → Type 0
    Unsent = IsUnsentPacket o w log j

    abbrev is_mine : Name → Bool
    is_mine x = is_packet j x && sender o x == w

    pub packet_into : (x : Name) → Unsent x → In x (packets_to_send o w j) × (has (filter (is_packet j) log.sent) x ≡ false)
    packet_into (Packet i b t) u =
        let e : i ≡ j = u.0 in
        subst (λ (n : ℕ). In (Packet n b t) (packets_to_send o w j) × (has (filter (is_packet j) log.sent) (Packet n b t) ≡ false)) (sym e) (
          filter_In is_mine (Packet j b t) (packets_of o) (packet_In o j b t u.1.0) (and_from (j == j) (sender o (Packet j b t) == w) (eq-eqb j j refl) (eq-eqb (sender o (Packet j b t)) w u.1.1)),
          new_in (is_packet j) (Packet j b t) u.2,
        )
    packet_into _ u = absurd u

    pub packet_back : (x : Name) → In x (packets_to_send o w j) → has (filter (is_packet j) log.sent) x ≡ false → Unsent x
    packet_back x i n = let r = In_filter is_mine x (packets_of o) i in let p = and_parts (is_packet j x) (sender o x == w) r.1 in form x r.0 p.0 (eqb-true (sender o x) w p.1) n
      where
        form : (x : Name) → In x (packets_of o) → is_packet j x ≡ true → sender o x ≡ w → has (filter (is_packet j) log.sent) x ≡ false → Unsent x
        form (Packet i b t) h e m n =
            let d : i ≡ j = eqb-true i j e in
            let h' = subst (λ (n : ℕ). In (Packet n b t) (packets_of o)) d h in
            let m' = subst (λ (n : ℕ). sender o (Packet n b t) ≡ w) d m in
            let n' = subst (λ (n : ℕ). has (filter (is_packet j) log.sent) (Packet n b t) ≡ false) d n in
            (d, (packet_is o j b t h', m'), not_in_filter (is_packet j) log.sent (Packet j b t) (eq-eqb j j refl) n')
        form _ h e m n = absurd (false≢true e)

  pub row_into : (x : Name) → IsUnsentRow o w log x → In x (rows_to_send o w) × (has (filter is_row log.sent) x ≡ false)
  row_into (Row t g) u = (
    filter_In (λ y. sender o y == w) (Row t g) (ascending o.rows) (ascending_In (Row t g) o.rows u.0.0) (eq-eqb (sender o (Row t g)) w u.0.1),
    new_in is_row (Row t g) u.2,
  )
  row_into _ u = absurd (false≢true u.1)

  pub row_back : (x : Name) → In x (rows_to_send o w) → has (filter is_row log.sent) x ≡ false → IsUnsentRow o w log x
  row_back x i n =
      let r = In_filter (λ y. sender o y == w) x (ascending o.rows) i in
      let here = In_ascending x o.rows r.0 in
      let is = ok.rows_are x here in
      ((row_owed o ok x here, eqb-true (sender o x) w r.1), is, not_in_filter is_row log.sent x is n)

-- a name is of one kind

pub ctrl_packet : (j : ℕ) (x : Name) → is_ctrl x ≡ true → is_packet j x ≡ true → ⊥
ctrl_packet j (Ctrl i v) a b = false≢true b
ctrl_packet j _ a b = false≢true a

pub ctrl_row : (x : Name) → is_ctrl x ≡ true → is_row x ≡ true → ⊥
ctrl_row (Ctrl i v) a b = false≢true b
ctrl_row _ a b = false≢true a

pub packet_row : (j : ℕ) (x : Name) → is_packet j x ≡ true → is_row x ≡ true → ⊥
packet_row j (Packet i b t) a e = false≢true e
packet_row j _ a e = false≢true a

pub record_alone : (j : ℕ) (x : Name) → is_rec j x ≡ true → (is_ctrl x ≡ false) × ((i : ℕ) → is_packet i x ≡ false) × (is_row x ≡ false)
record_alone j (Rec i t k g) a = (refl, (λ i. refl), refl)
record_alone j _ a = absurd (false≢true a)

pub filter_none : (p : Name → Bool) (xs ys : List Name) → ((y : Name) → In y ys → p y ≡ false) → filter p (xs ++ ys) ≡ filter p xs
filter_none p xs ys h = filter-append p xs ys ∙ ap (λ (l : List Name). filter p xs ++ l) (none ys h) ∙ append-nil (filter p xs)
  where
    none : (ys : List Name) → ((y : Name) → In y ys → p y ≡ false) → filter p ys ≡ []
    none [] h = refl
    none (y ∷ ys) h = cond-false (p y) (y ∷ filter p ys) (filter p ys) (h y (In_here y ys)) ∙ none ys (λ z i. h z (In_later z y ys i))

-- each step keeps the order

module _ (o : Outline) (w : ℕ) (log : Log) (order : SendsInOrder o w log) where
  sent_one : (x : Name) → (is_ctrl x ≡ true → ComesNext (filter is_ctrl log.sent) (controls_to_send o w) x) → ((j : ℕ) → is_packet j x ≡ true → ComesNext (filter (is_packet j) log.sent) (packets_to_send o w j) x) → (is_row x ≡ true → ComesNext (filter is_row log.sent) (rows_to_send o w) x) → SendsInOrder o w (record log { sent = log.sent ++ x ∷ [] })
  sent_one x c p r =
      record {
        controls = prefix_filter_push is_ctrl log.sent (controls_to_send o w) x order.controls c;
        packets = λ j. prefix_filter_push (is_packet j) log.sent (packets_to_send o w j) x (order.packets j) (p j);
        rows = prefix_filter_push is_row log.sent (rows_to_send o w) x order.rows r;
      }

  sent_records : (j : ℕ) (xs : List Name) → ((x : Name) → In x xs → is_rec j x ≡ true) → SendsInOrder o w (record log { sent = log.sent ++ xs })
  sent_records j xs h =
      record {
        controls = subst (λ (l : List Name). IsPrefix l (controls_to_send o w)) (sym (filter_none is_ctrl log.sent xs (λ x i. (record_alone j x (h x i)).0))) order.controls;
        packets = λ n. subst (λ (l : List Name). IsPrefix l (packets_to_send o w n)) (sym (filter_none (is_packet n) log.sent xs (λ x i. (record_alone j x (h x i)).1 n))) (order.packets n);
        rows = subst (λ (l : List Name). IsPrefix l (rows_to_send o w)) (sym (filter_none is_row log.sent xs (λ x i. (record_alone j x (h x i)).2))) order.rows;
      }

module _ (o : Outline) (ok : OutlineIsSound o) (w : ℕ) (l : w < o.workers) (worker : Worker) (good : LogIsLegal o w worker.log) (known : (at : Loc) (t : ℕ) → HasPassed (worker.seen at) t → IsClosedForOne o w worker.log at t) (order : SendsInOrder o w worker.log) where
  abbrev sent : List Name
  sent = worker.log.sent

  -- what a step sends comes next

  pub control_next : (x : Name) → IsLeast (IsControlDue o w worker.log) x → ComesNext (filter is_ctrl sent) (controls_to_send o w) x
  control_next x h =
      next_from_first (GoesBefore o) (by_turn o) (filter is_ctrl sent) (controls_to_send o w) (controls_in_order o w) (IsHeld o w worker.log is_ctrl) (control_into o ok w worker good) (control_back o ok w worker good) order.controls x
      (first_held o w worker.log x h)

  pub control_least : (x : Name) → ComesNext (filter is_ctrl sent) (controls_to_send o w) x → IsLeast (IsControlDue o w worker.log) x
  control_least x n =
      least_due o w worker.log x
      (first_from_next (GoesBefore o) (by_turn o) (filter is_ctrl sent) (controls_to_send o w) (controls_in_order o w) (IsHeld o w worker.log is_ctrl) (control_into o ok w worker good) (control_back o ok w worker good) x n)

  pub packet_next : (j : ℕ) (x : Name) → IsLeast (IsUnsentPacket o w worker.log j) x → ComesNext (filter (is_packet j) sent) (packets_to_send o w j) x
  packet_next j x h =
      next_from_first Less by_rank (filter (is_packet j) sent) (packets_to_send o w j) (packets_in_order o w j) (IsUnsentPacket o w worker.log j) (packet_into o ok w worker good j) (packet_back o ok w worker good j) (order.packets j) x h

  pub packet_least : (j : ℕ) (x : Name) → ComesNext (filter (is_packet j) sent) (packets_to_send o w j) x → IsLeast (IsUnsentPacket o w worker.log j) x
  packet_least j x n =
      first_from_next Less by_rank (filter (is_packet j) sent) (packets_to_send o w j) (packets_in_order o w j) (IsUnsentPacket o w worker.log j) (packet_into o ok w worker good j) (packet_back o ok w worker good j) x n

  pub row_next : (x : Name) → IsLeast (IsUnsentRow o w worker.log) x → ComesNext (filter is_row sent) (rows_to_send o w) x
  row_next x h = next_from_first Less by_rank (filter is_row sent) (rows_to_send o w) (rows_in_order o w) (IsUnsentRow o w worker.log) (row_into o ok w worker good) (row_back o ok w worker good) order.rows x h

  pub row_least : (x : Name) → ComesNext (filter is_row sent) (rows_to_send o w) x → IsLeast (IsUnsentRow o w worker.log) x
  row_least x n = first_from_next Less by_rank (filter is_row sent) (rows_to_send o w) (rows_in_order o w) (IsUnsentRow o w worker.log) (row_into o ok w worker good) (row_back o ok w worker good) x n

  -- a packet that a step sends is of the step's stage
  packet_alone : (j n : ℕ) (x : Name) → IsUnsentPacket o w worker.log j x → is_packet n x ≡ true → n ≡ j
  packet_alone j n (Packet i b t) u e = sym (eqb-true i n e) ∙ u.0
  packet_alone j n _ u e = absurd u

  packet_is_one : (j : ℕ) (x : Name) → IsUnsentPacket o w worker.log j x → is_packet j x ≡ true
  packet_is_one j (Packet i b t) u = eq-eqb i j u.0
  packet_is_one j _ u = absurd u

  sent_control : (x : Name) → IsLeast (IsControlDue o w worker.log) x → SendsInOrder o w (logged SendControl worker.log (x ∷ []))
  sent_control x h = sent_one o w worker.log order x (λ e. control_next x h) (λ j e. absurd (ctrl_packet j x h.0.0.0 e)) (λ e. absurd (ctrl_row x h.0.0.0 e))

  sent_packet : (j : ℕ) (x : Name) → IsLeast (IsUnsentPacket o w worker.log j) x → SendsInOrder o w (logged (Extract j) worker.log (x ∷ []))
  sent_packet j x h =
      let is = packet_is_one j x h.0 in
      sent_one o w worker.log order x (λ e. absurd (ctrl_packet j x e is))
      (λ n e. subst (λ (m : ℕ). ComesNext (filter (is_packet m) sent) (packets_to_send o w m) x) (sym (packet_alone j n x h.0 e)) (packet_next j x h))
      (λ e. absurd (packet_row j x is e))

  sent_row : (x : Name) → IsLeast (IsUnsentRow o w worker.log) x → SendsInOrder o w (logged SendRow worker.log (x ∷ []))
  sent_row x h = sent_one o w worker.log order x (λ e. absurd (ctrl_row x e h.0.1)) (λ j e. absurd (packet_row j x e h.0.1)) (λ e. row_next x h)

  same_sent : (new : Log) → new.sent ≡ sent → SendsInOrder o w new
  same_sent new e =
      record {
        controls = subst (λ (xs : List Name). IsPrefix (filter is_ctrl xs) (controls_to_send o w)) (sym e) order.controls;
        packets = λ j. subst (λ (xs : List Name). IsPrefix (filter (is_packet j) xs) (packets_to_send o w j)) (sym e) (order.packets j);
        rows = subst (λ (xs : List Name). IsPrefix (filter is_row xs) (rows_to_send o w)) (sym e) order.rows;
      }

  pub step_keeps_order : (depth : ℕ) (world : World) → world.worker w ≡ worker → (kind : Kind) (x : Name) → IsNext o w worker kind x → IsReady o w worker kind x → SendsInOrder o w (logged kind worker.log (names_of o world w kind x))
  step_keeps_order depth world e Ingest x n r = same_sent (logged Ingest worker.log (x ∷ [])) refl
  step_keeps_order depth world e SendControl x n r = sent_control x n
  step_keeps_order depth world e (Route j) x n r =
      subst (λ (k : Worker). SendsInOrder o w (record worker.log { sent = sent ++ bundle_of o w k.log j x })) (sym e)
      (sent_records o w worker.log order j (bundle_of o w worker.log j x) (λ y i. (bundle_held o ok w worker j x y i).0))
  step_keeps_order depth world e (Receive v) x n r = same_sent (logged (Receive v) worker.log (names_of o world w (Receive v) x)) refl
  step_keeps_order depth world e (Extract j) x n r = sent_packet j x (extract_to o ok w l worker good known j x n r).0
  step_keeps_order depth world e (Settle j) x n r = same_sent (logged (Settle j) worker.log (x ∷ [])) refl
  step_keeps_order depth world e (Apply j) x n r = same_sent (logged (Apply j) worker.log (x ∷ [])) refl
  step_keeps_order depth world e SendRow x n r = sent_row x (send_to o ok w l worker good known x n).0
  step_keeps_order depth world e Write x n r = same_sent (logged Write worker.log (x ∷ [])) refl
  step_keeps_order depth world e Exchange x n r = absurd n

pub always_in_order : (o : Outline) (ok : OutlineIsSound o) (depth : ℕ) (steps : List (ℕ × Kind)) (w : ℕ) → w < o.workers → SendsInOrder o w ((run_of_machine o depth steps).worker w).log
always_in_order o ok depth steps =
    run_keeps o ok depth InOrder
    (λ w l. record { controls = (controls_to_send o w, refl); packets = λ j. (packets_to_send o w j, refl); rows = (rows_to_send o w, refl) })
    (λ world w kind x right order can.
    let l = can.0.0 in
    put_all (λ v (k : Worker). v < o.workers → SendsInOrder o v k.log) w (record (world.worker w) { log = logged kind (world.worker w).log (names_of o world w kind x) }) world.worker
    (λ h. step_keeps_order o ok w l (world.worker w) (right.logs w l) (known o ok depth world right w l) (order w l) depth world refl kind x can.1 can.2)
    (λ v n. order v))
    (λ world w right order l v h. subst (SendsInOrder o v) (logs_are o ok depth world right w l v) (order v h))
    steps
  where
    InOrder : World → Type 0
    InOrder world = (w : ℕ) → w < o.workers → SendsInOrder o w (world.worker w).log
