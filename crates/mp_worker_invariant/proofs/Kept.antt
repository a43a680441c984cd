-- Each step of a worker keeps its parts what its log says.
use Rattle.std.proofs.Common.{◌≡◌, ℕ, suc, ◌<◌, ◌==◌, true, false, List, [], ◌∷◌, length, get_or, set, refl, sym, ap, ◌∙◌, subst, ⊎_elim, append_assoc, append-nil, arith}
use Rattle.std.proofs.lemmas.Bool.{false≢true, cases_eq, eqb-true, false_from_ne_true}
use Rattle.std.proofs.lemmas.List.{length-set, get_or-set_same, get_or-set_other}
use Rattle.mp_names.specs.declared.kinds.Kind.{Kind}
use Rattle.mp_names.specs.declared.kinds.Kind.TheVariants.{Ingest, SendControl, Route, Receive, Extract, Settle, Apply, SendRow, Write}
use Rattle.mp_names.specs.declared.locations.Loc.TheVariants.{CtlMail, Host as HostLoc}
use Rattle.mp_names.specs.declared.names.Name.{Name}
use Rattle.mp_names.specs.declared.names.Name.TheVariants.{Ctrl, Rec as RecName, Packet, Row, Group, Settled, Written}
use Rattle.mp_names.specs.Controls.{control_of}
use Rattle.mp_names.specs.Frontiers.{HasPassed, HasReached}
use Rattle.mp_names.specs.Keeping.{IsUnsettled}
use Rattle.mp_names.specs.Names.{has, In, IsLeast, is_ctrl, is_packet, is_rec, is_row}
use Rattle.mp_names.specs.Outlines.{IsOwedBy, IsOwedTo, Outline, OutlineIsSound}
use Rattle.mp_names.specs.Logs.{Log, LogIsLegal, with_applied, with_ingested, with_sent, with_settled, with_took}
use Rattle.mp_names.proofs.Lists.{In_here, In_later}
use Rattle.mp_machine.specs.Messages.{bundle_of}
use Rattle.mp_machine.specs.Steps.{logged}
use Rattle.mp_machine.proofs.Keeps.{logged_grows}
use Rattle.mp_machine.proofs.Messages.{bundle_held}
use Rattle.mp_stamps.specs.Seen.{SeenIsDone, seen_at}
use Rattle.mp_bins.specs.Notes.{Notes, with_note}
use Rattle.mp_model.specs.Facts.{JobFacts, QueryFacts}
use Rattle.mp_outline.specs.JobOutline.{outline_of}
use Rattle.mp_route.specs.Routed.{Routed}
use Rattle.mp_route.specs.Unsent.{HoldsUnsent, MayGo, with_all_sent}
use Rattle.mp_output.specs.Holding.{HoldsUnwritten}
use Rattle.mp_host_laws.specs.Hosted.{Hosted}
use Rattle.mp_host_laws.specs.HostOf.{IsHostOf, IsReadyAt}
use Rattle.mp_handoff.specs.Due.{IsDueHere}
use Rattle.mp_handoff.specs.Laws.{MoversStay, is_control_of}
use Rattle.mp_handoff.specs.MoversState.{MoversState}
use Rattle.mp_handoff.specs.MoversOf.{IsMoversOf}
use Rattle.mp_handoff.proofs.Same.{movers_always_stay}
use Rattle.mp_worker_invariant.specs.Kept.{AreOwedAndNew, StepsKeepParts, with_all_took, with_controller, with_host, with_movers, with_notes, with_router}
use Rattle.mp_worker_invariant.specs.Laws.{HostsStay, RoutersStay, StepsStayLegal, UnsentRowsStay, UnwrittenStay}
use Rattle.mp_worker_invariant.specs.Parts.{AreMoversAt, ArePartsOf, AreTaken, AtEach, HoldsRowsBut, IsHostAt, IsRouterAt, Parts}
use Rattle.mp_worker_invariant.specs.Machine.{machine_worker}
use Rattle.mp_worker_invariant.proofs.Legal.{receive_legal, route_legal, steps_stay_legal}
use Rattle.mp_controller.specs.Controlling.{IsLeft, after_sent, next_index, next_name}
use Rattle.mp_controller.specs.Telling.{IsControllerOf}
use Rattle.mp_controller.proofs.Orders.{index_listed}
use Rattle.mp_controller.proofs.Sending.{controller_sent, controller_stays, place_not_before}
use Rattle.mp_worker_invariant.proofs.Noted.{controller_else, taken_else, taken_more, taken_stays}
use Rattle.mp_worker_invariant.proofs.Unheard.{hosts_stay, routers_stay, seen_stays, unsent_rows_stay, unwritten_rows_stay}

-- Items by their places

module _ {X : Type 0} (P Q : ℕ → X → Type 0) where
  each_stays : (xs : List X) → ((j : ℕ) (x : X) → P j x → Q j x) → AtEach xs P → AtEach xs Q
  each_stays xs k h j d l = k j (get_or xs j d) (h j d l)

  -- one is new, and the others stay
  one_is_new : (xs : List X) (i : ℕ) (v : X) → Q i v → ((j : ℕ) (x : X) → (j ≡ i → ⊥) → P j x → Q j x) → AtEach xs P → AtEach (set xs i v) Q
  one_is_new xs i v new k h j d l =
      let inside : j < length xs = omega (arith, length-set xs i v) in
      ⊎_elim
      (λ (e : j ≡ i).
      let here : i < length xs = omega arith in
      subst (λ (n : ℕ). Q n (get_or (set xs i v) n d)) (sym e) (subst (Q i) (sym (get_or-set_same xs i v d here)) new))
      (λ (e : j ≡ i → ⊥). subst (Q j) (sym (get_or-set_other xs i j v d e)) (k j (get_or xs j d) e (h j d inside)))
      (cases_eq j i)

-- Names one after the other

-- what holds of a log and stays with one name more, stays with several more
module _ (P : Log → Type 0) (Q : Name → Type 0) where
  all_sent : ((log : Log) (x : Name) → Q x → P log → P (with_sent log x)) → (xs : List Name) → ((x : Name) → In x xs → Q x) → (log : Log) → P log → P (with_all_sent log xs)
  all_sent one [] each log h = subst (λ (l : List Name). P (record log { sent = l })) (sym (append-nil log.sent)) h
  all_sent one (x ∷ xs) each log h =
      subst (λ (l : List Name). P (record log { sent = l })) (append_assoc log.sent (x ∷ []) xs)
      (all_sent one xs (λ y i. each y (In_later y x xs i)) (with_sent log x) (one log x (each x (In_here x xs)) h))

  all_took : ((log : Log) (x : Name) → Q x → P log → P (with_took log x)) → (xs : List Name) → ((x : Name) → In x xs → Q x) → (log : Log) → P log → P (with_all_took log xs)
  all_took one [] each log h = subst (λ (l : List Name). P (record log { took = l })) (sym (append-nil log.took)) h
  all_took one (x ∷ xs) each log h =
      subst (λ (l : List Name). P (record log { took = l })) (append_assoc log.took (x ∷ []) xs)
      (all_took one xs (λ y i. each y (In_later y x xs i)) (with_took log x) (one log x (each x (In_here x xs)) h))

-- Names of other kinds

other_number : (i j : ℕ) → (j ≡ i → ⊥) → (i == j) ≡ false
other_number i j apart = false_from_ne_true (i == j) (λ e. apart (sym (eqb-true i j e)))

no_record_else : (i j : ℕ) (x : Name) → is_rec i x ≡ true → (j ≡ i → ⊥) → is_rec j x ≡ false
no_record_else i j (RecName n t k g) e apart = false_from_ne_true (is_rec j (RecName n t k g)) (λ f. apart (sym (eqb-true n j f) ∙ eqb-true n i e))
no_record_else i j _ e apart = absurd (false≢true e)

no_packet : (i j : ℕ) (x : Name) → is_rec i x ≡ true → is_packet j x ≡ false
no_packet i j (RecName n t k g) e = refl
no_packet i j _ e = absurd (false≢true e)

no_row : (i : ℕ) (x : Name) → is_rec i x ≡ true → is_row x ≡ false
no_row i (RecName n t k g) e = refl
no_row i _ e = absurd (false≢true e)

no_control : (i : ℕ) (x : Name) → is_rec i x ≡ true → is_ctrl x ≡ false
no_control i (RecName n t k g) e = refl
no_control i _ e = absurd (false≢true e)

no_control_of : (o : Outline) (j i : ℕ) (x : Name) → is_rec i x ≡ true → is_control_of o j x ≡ false
no_control_of o j i (RecName n t k g) e = refl
no_control_of o j i _ e = absurd (false≢true e)

row_no_record : (j : ℕ) (x : Name) → is_row x ≡ true → is_rec j x ≡ false
row_no_record j (Row t g) e = refl
row_no_record j _ e = absurd (false≢true e)

row_no_packet : (j : ℕ) (x : Name) → is_row x ≡ true → is_packet j x ≡ false
row_no_packet j (Row t g) e = refl
row_no_packet j _ e = absurd (false≢true e)

row_no_control : (x : Name) → is_row x ≡ true → is_ctrl x ≡ false
row_no_control (Row t g) e = refl
row_no_control _ e = absurd (false≢true e)

module _ {Cell : Type 0} (q : QueryFacts Cell) (job : JobFacts) (sound : OutlineIsSound (outline_of q job)) (p : Parts Cell) (parts : ArePartsOf q job p) where
  hosts : HostsStay q job
  hosts = hosts_stay q job

  routers : RoutersStay q job p.number []
  routers = routers_stay q job p.number []

  unsent : UnsentRowsStay q job p.number []
  unsent = unsent_rows_stay q job p.number []

  unwritten : UnwrittenStay
  unwritten = unwritten_rows_stay

  movers : (m : MoversState) → IsMoversOf (outline_of q job) p.log m → MoversStay (outline_of q job) p.log m
  movers m = movers_always_stay (outline_of q job) p.log m

  legal : StepsStayLegal q job p.number p.log p.seen
  legal = steps_stay_legal q job sound p.number parts.worker p.log parts.legal p.seen parts.done

  -- what was seen to be over is over after a step of any kind
  all_over : (kind : Kind) (xs : List Name) → SeenIsDone (outline_of q job) p.number (logged kind p.log xs) p.seen
  all_over kind xs = seen_stays q job p.number p.log (logged kind p.log xs) p.seen (logged_grows kind p.log xs) parts.done

  over : (kind : Kind) (x : Name) → SeenIsDone (outline_of q job) p.number (logged kind p.log (x ∷ [])) p.seen
  over kind x = all_over kind (x ∷ [])

  -- where nothing else is taken, the notes stay
  notes_while : (log : Log) → p.log.took ≡ log.took → AreTaken job p.number log p.notes
  notes_while log e = taken_stays job p.number p.log log p.notes (λ i. ap (λ (xs : List Name). has xs (Ctrl i p.number)) e) parts.notes

  -- where nothing else is sent, the controller does
  controller_while : (log : Log) → p.log.sent ≡ log.sent → p.number ≡ 0 → IsControllerOf (outline_of q job) log p.controller
  controller_while log e first = controller_stays (outline_of q job) p.log log p.controller (λ i v. ap (λ (xs : List Name). has xs (Ctrl i v)) e) (parts.controller first)

  -- the routers, the hosts and the movers, all or but one

  all_routers_stay : (log : Log) → ((r : Routed) → IsRouterAt q job p.number p.log r.stage r → IsRouterAt q job p.number log r.stage r) → AtEach p.routers (IsRouterAt q job p.number log)
  all_routers_stay log k = each_stays (IsRouterAt q job p.number p.log) (IsRouterAt q job p.number log) p.routers (λ j r h. (h.0, (k r (refl, h.1)).1)) parts.routers

  router_is_new : (log : Log) (i : ℕ) (r : Routed) → IsRouterAt q job p.number log i r → ((s : Routed) → (s.stage ≡ i → ⊥) → IsRouterAt q job p.number p.log s.stage s → IsRouterAt q job p.number log s.stage s)
      → AtEach (set p.routers i r) (IsRouterAt q job p.number log)
  router_is_new log i r new k =
      one_is_new (IsRouterAt q job p.number p.log) (IsRouterAt q job p.number log) p.routers i r new (λ j s apart h. (h.0, (k s (λ e. apart (sym h.0 ∙ e)) (refl, h.1)).1)) parts.routers

  all_hosts_stay : (log : Log) → ((h : Hosted Cell) → IsHostOf q job p.log h → IsHostOf q job log h) → AtEach p.hosts (IsHostAt q job p.number log)
  all_hosts_stay log k = each_stays (IsHostAt q job p.number p.log) (IsHostAt q job p.number log) p.hosts (λ j h a. (a.0, a.1, k h a.2)) parts.hosts

  host_is_new : (log : Log) (i : ℕ) (h : Hosted Cell) → IsHostAt q job p.number log i h → ((s : Hosted Cell) → (s.stage ≡ i → ⊥) → IsHostOf q job p.log s → IsHostOf q job log s)
      → AtEach (set p.hosts i h) (IsHostAt q job p.number log)
  host_is_new log i h new k =
      one_is_new (IsHostAt q job p.number p.log) (IsHostAt q job p.number log) p.hosts i h new (λ j s apart a. (a.0, a.1, k s (λ e. apart (sym a.0 ∙ e)) a.2)) parts.hosts

  all_movers_stay : (log : Log) → ((m : MoversState) → IsMoversOf (outline_of q job) p.log m → IsMoversOf (outline_of q job) log m) → AtEach p.movers (AreMoversAt q job p.number log)
  all_movers_stay log k = each_stays (AreMoversAt q job p.number p.log) (AreMoversAt q job p.number log) p.movers (λ j m a. (a.0, a.1, k m a.2)) parts.movers

  movers_are_new : (log : Log) (i : ℕ) (m : MoversState) → AreMoversAt q job p.number log i m → ((s : MoversState) → (s.stage ≡ i → ⊥) → IsMoversOf (outline_of q job) p.log s → IsMoversOf (outline_of q job) log s)
      → AtEach (set p.movers i m) (AreMoversAt q job p.number log)
  movers_are_new log i m new k =
      one_is_new (AreMoversAt q job p.number p.log) (AreMoversAt q job p.number log) p.movers i m new (λ j s apart a. (a.0, a.1, k s (λ e. apart (sym a.0 ∙ e)) a.2)) parts.movers

  -- a group of a stage is applied: the hosts of other stages stay
  hosts_applied : (j t k : ℕ) (new : Hosted Cell) → IsHostAt q job p.number (with_applied p.log (Group j t k)) j new → AtEach (set p.hosts j new) (IsHostAt q job p.number (with_applied p.log (Group j t k)))
  hosts_applied j t k new holds = host_is_new (with_applied p.log (Group j t k)) j new holds (λ s apart h. hosts.applied p.log s j t k (λ e. apart (sym e)) h)

  -- a record or packet of a stage is taken: the hosts of other stages stay
  hosts_took : (j : ℕ) (x : Name) (h : Hosted Cell) → ((s : ℕ) → (s ≡ j → ⊥) → (is_rec s x ≡ false) × (is_packet s x ≡ false)) → IsHostAt q job p.number (with_took p.log x) j h
      → AtEach (set p.hosts j h) (IsHostAt q job p.number (with_took p.log x))
  hosts_took j x h none holds = host_is_new (with_took p.log x) j h holds (λ s apart a. let n = none s.stage apart in hosts.took p.log s x n.0 n.1 a)

  applied_legal : (j t k : ℕ) (old : Hosted Cell) → j < job.shape.stages → IsHostAt q job p.number p.log j old → IsReadyAt q job p.log p.seen old t k → LogIsLegal (outline_of q job) p.number (with_applied p.log (Group j t k))
  applied_legal j t k old below at ready =
      let inside : old.stage < job.shape.stages = subst (λ (n : ℕ). n < job.shape.stages) (sym at.0) below in
      subst (λ (n : ℕ). LogIsLegal (outline_of q job) p.number (with_applied p.log (Group n t k))) at.0 (legal.apply old t k at.1 inside ready)

  -- Bins that move

  control_sent : p.number ≡ 0 → IsLeft p.controller → ArePartsOf q job (with_controller p (with_sent p.log (next_name p.controller)) (after_sent p.controller))
  control_sent first left =
      let c = p.controller in
      let x = next_name c in
      let log = with_sent p.log x in
      let of = parts.controller first in
      let listed = index_listed job.paced job.controls c.order of.order c.next.index left in
      record {
        worker = parts.worker;
        legal = legal.send_control (next_index c) c.next.receiver first listed of.receiver (of.sent c.next.index c.next.receiver left of.receiver ∙ place_not_before c.next);
        done = over SendControl x;
        notes = notes_while log refl;
        controller = λ e. controller_sent (outline_of q job) p.log c left of;
        all_routers = parts.all_routers;
        routers = all_routers_stay log (λ s a. (a.0, routers.sent p.log s x refl a.1));
        all_hosts = parts.all_hosts;
        hosts = all_hosts_stay log (λ s. hosts.sent p.log s x refl);
        all_movers = parts.all_movers;
        movers = all_movers_stay log (λ m a. (movers m a).sent x refl);
        unsent = unsent.sent p.log p.unsent x refl parts.unsent;
        unwritten = unwritten.sent p.log p.unwritten x parts.unwritten;
      }

  control_took : (i : ℕ) (notes : Notes) (m : MoversState) → IsOwedTo (outline_of q job) p.number (Ctrl i p.number) → has p.log.took (Ctrl i p.number) ≡ false
      → notes ≡ record p.notes { noted = with_note p.notes.noted (record { index = i; control = control_of job.controls i }); room = notes.room }
      → AreMoversAt q job p.number (with_took p.log (Ctrl i p.number)) (control_of job.controls i).stage m
      → ArePartsOf q job (with_movers (with_notes p (with_took p.log (Ctrl i p.number)) notes) (with_took p.log (Ctrl i p.number)) (control_of job.controls i).stage m)
  control_took i notes m owed fresh are holds =
      let x = Ctrl i p.number in
      let log = with_took p.log x in
      let j = (control_of job.controls i).stage in
      record {
        worker = parts.worker;
        legal = legal.receive x owed fresh;
        done = over (Receive 0) x;
        notes = taken_more job p.number p.log p.notes notes i owed.0.0 (ap (λ (n : Notes). n.layout) are) (ap (λ (n : Notes). n.noted) are) parts.notes;
        controller = controller_while log refl;
        all_routers = parts.all_routers;
        routers = all_routers_stay log (λ s a. (a.0, routers.took p.log s x a.1));
        all_hosts = parts.all_hosts;
        hosts = all_hosts_stay log (λ s. hosts.took p.log s x refl refl);
        all_movers = length-set p.movers j m ∙ parts.all_movers;
        movers = movers_are_new log j m holds (λ s apart a. (movers s a).took x (other_number j s.stage apart));
        unsent = unsent.took p.log p.unsent x parts.unsent;
        unwritten = unwritten.took p.log p.unwritten x refl parts.unwritten;
      }

  packet_took : (j b t : ℕ) (h : Hosted Cell) → IsOwedTo (outline_of q job) p.number (Packet j b t) → has p.log.took (Packet j b t) ≡ false
      → IsHostAt q job p.number (with_took p.log (Packet j b t)) j h → ArePartsOf q job (with_host p (with_took p.log (Packet j b t)) j h)
  packet_took j b t h owed fresh holds =
      let x = Packet j b t in
      let log = with_took p.log x in
      record {
        worker = parts.worker;
        legal = legal.receive x owed fresh;
        done = over (Receive 0) x;
        notes = taken_else job p.number p.log p.notes x refl parts.notes;
        controller = controller_while log refl;
        all_routers = parts.all_routers;
        routers = all_routers_stay log (λ s a. (a.0, routers.took p.log s x a.1));
        all_hosts = length-set p.hosts j h ∙ parts.all_hosts;
        hosts = hosts_took j x h (λ s apart. (refl, other_number j s apart)) holds;
        all_movers = parts.all_movers;
        movers = all_movers_stay log (λ m a. (movers m a).took x refl);
        unsent = unsent.took p.log p.unsent x parts.unsent;
        unwritten = unwritten.took p.log p.unwritten x refl parts.unwritten;
      }

  packet_sent : (j b t : ℕ) (h : Hosted Cell) (m : MoversState) → IsLeast (IsDueHere (outline_of q job) p.log p.seen p.number j) (Packet j b t) → HasReached (seen_at p.seen (HostLoc j)) t
      → IsHostAt q job p.number (with_sent p.log (Packet j b t)) j h → AreMoversAt q job p.number (with_sent p.log (Packet j b t)) j m
      → ArePartsOf q job (with_movers (with_host p (with_sent p.log (Packet j b t)) j h) (with_sent p.log (Packet j b t)) j m)
  packet_sent j b t h m least reached holds are =
      let x = Packet j b t in
      let log = with_sent p.log x in
      record {
        worker = parts.worker;
        legal = legal.extract j b t least reached;
        done = over (Extract j) x;
        notes = notes_while log refl;
        controller = λ first. controller_else (outline_of q job) p.log p.controller x refl (parts.controller first);
        all_routers = parts.all_routers;
        routers = all_routers_stay log (λ s a. (a.0, routers.sent p.log s x refl a.1));
        all_hosts = length-set p.hosts j h ∙ parts.all_hosts;
        hosts = host_is_new log j h holds (λ s apart. hosts.sent p.log s x (other_number j s.stage apart));
        all_movers = length-set p.movers j m ∙ parts.all_movers;
        movers = movers_are_new log j m are (λ s apart a. (movers s a).sent x (other_number j s.stage apart));
        unsent = unsent.sent p.log p.unsent x refl parts.unsent;
        unwritten = unwritten.sent p.log p.unwritten x parts.unwritten;
      }

  time_settled : (j t : ℕ) (m : MoversState) → IsLeast (IsUnsettled (outline_of q job) p.log j) (Settled j t) → HasPassed (seen_at p.seen CtlMail) t
      → ((b : ℕ) → IsOwedBy (outline_of q job) p.number (Packet j b t) → In (Packet j b t) p.log.sent)
      → AreMoversAt q job p.number (with_settled p.log (Settled j t)) j m → ArePartsOf q job (with_movers p (with_settled p.log (Settled j t)) j m)
  time_settled j t m least passed sent are =
      let x = Settled j t in
      let log = with_settled p.log x in
      record {
        worker = parts.worker;
        legal = legal.settle j t least passed sent;
        done = over (Settle j) x;
        notes = notes_while log refl;
        controller = controller_while log refl;
        all_routers = parts.all_routers;
        routers = all_routers_stay log (λ s a. (a.0, routers.settled p.log s x a.1));
        all_hosts = parts.all_hosts;
        hosts = all_hosts_stay log (λ s. hosts.settled p.log s x);
        all_movers = length-set p.movers j m ∙ parts.all_movers;
        movers = movers_are_new log j m are (λ s apart a. (movers s a).settled x (other_number j s.stage apart));
        unsent = unsent.settled p.log p.unsent x parts.unsent;
        unwritten = unwritten.settled p.log p.unwritten x refl parts.unwritten;
      }

  records_sent : (j : ℕ) (x : Name) (xs : List Name) (r : Routed) → MayGo q job p.number p.log j p.seen x → xs ≡ bundle_of (outline_of q job) p.number p.log j x
      → IsRouterAt q job p.number (with_all_sent p.log xs) j r → ArePartsOf q job (with_router p (with_all_sent p.log xs) j r)
  records_sent j x xs r may those holds =
      let log = with_all_sent p.log xs in
      let o = outline_of q job in
      let is : (y : Name) → In y xs → is_rec j y ≡ true = λ y i. (bundle_held o sound p.number (machine_worker p) j x y (subst (In y) those i)).0 in
      record {
        worker = parts.worker;
        legal = route_legal q job sound p.number parts.worker p.log parts.legal p.seen parts.done j x xs may those;
        done = all_over (Route j) xs;
        notes = notes_while log refl;
        controller = λ first. all_sent (λ l. IsControllerOf o l p.controller) (λ y. is_rec j y ≡ true) (λ l y i. controller_else o l p.controller y (no_control j y i)) xs is p.log (parts.controller first);
        all_routers = length-set p.routers j r ∙ parts.all_routers;
        routers = router_is_new log j r holds (λ s apart a. (a.0, all_sent (λ l. HoldsUnsent q job p.number l s) (λ y. is_rec j y ≡ true) (λ l y i. routers.sent l s y (no_record_else j s.stage y i apart)) xs is p.log a.1));
        all_hosts = parts.all_hosts;
        hosts = all_hosts_stay log (λ s. all_sent (λ l. IsHostOf q job l s) (λ y. is_rec j y ≡ true) (λ l y i. hosts.sent l s y (no_packet j s.stage y i)) xs is p.log);
        all_movers = parts.all_movers;
        movers = all_movers_stay log (λ m. all_sent (λ l. IsMoversOf o l m) (λ y. is_rec j y ≡ true) (λ l y i a. (movers_always_stay o l m a).sent y (no_packet j m.stage y i)) xs is p.log);
        unsent = all_sent (λ l. HoldsRowsBut q job p.number l [] p.unsent) (λ y. is_rec j y ≡ true) (λ l y i. unsent.sent l p.unsent y (no_row j y i)) xs is p.log parts.unsent;
        unwritten = all_sent (λ l. HoldsUnwritten l p.unwritten) (λ y. is_rec j y ≡ true) (λ l y i. unwritten.sent l p.unwritten y) xs is p.log parts.unwritten;
      }

  records_took : (j : ℕ) (xs : List Name) (h : Hosted Cell) → AreOwedAndNew (outline_of q job) p.number p.log xs → ((x : Name) → In x xs → is_rec j x ≡ true)
      → IsHostAt q job p.number (with_all_took p.log xs) j h → ArePartsOf q job (with_host p (with_all_took p.log xs) j h)
  records_took j xs h new is holds =
      let log = with_all_took p.log xs in
      let o = outline_of q job in
      record {
        worker = parts.worker;
        legal = receive_legal q job sound p.number parts.worker p.log parts.legal p.seen parts.done xs new;
        done = all_over (Receive 0) xs;
        notes = all_took (λ l. AreTaken job p.number l p.notes) (λ y. is_rec j y ≡ true) (λ l y i. taken_else job p.number l p.notes y (no_control j y i)) xs is p.log parts.notes;
        controller = controller_while log refl;
        all_routers = parts.all_routers;
        routers = all_routers_stay log (λ s a. (a.0, all_took (λ l. HoldsUnsent q job p.number l s) (λ y. is_rec j y ≡ true) (λ l y i. routers.took l s y) xs is p.log a.1));
        all_hosts = length-set p.hosts j h ∙ parts.all_hosts;
        hosts = host_is_new log j h holds (λ s apart. all_took (λ l. IsHostOf q job l s) (λ y. is_rec j y ≡ true) (λ l y i. hosts.took l s y (no_record_else j s.stage y i apart) (no_packet j s.stage y i)) xs is p.log);
        all_movers = parts.all_movers;
        movers = all_movers_stay log (λ m. all_took (λ l. IsMoversOf o l m) (λ y. is_rec j y ≡ true) (λ l y i a. (movers_always_stay o l m a).took y (no_control_of o m.stage j y i)) xs is p.log);
        unsent = all_took (λ l. HoldsRowsBut q job p.number l [] p.unsent) (λ y. is_rec j y ≡ true) (λ l y i. unsent.took l p.unsent y) xs is p.log parts.unsent;
        unwritten = all_took (λ l. HoldsUnwritten l p.unwritten) (λ y. is_rec j y ≡ true) (λ l y i. unwritten.took l p.unwritten y (no_row j y i)) xs is p.log parts.unwritten;
      }

  pub steps_keep_parts : StepsKeepParts q job p
  steps_keep_parts = record {
    ingest = λ x r next holds.
        let log = with_ingested p.log x in
        record {
          worker = parts.worker;
          legal = legal.ingest x next;
          done = over Ingest x;
          notes = notes_while log refl;
          controller = controller_while log refl;
          all_routers = length-set p.routers 0 r ∙ parts.all_routers;
          routers = router_is_new log 0 r holds (λ s apart a. (a.0, routers.ingested p.log s x apart a.1));
          all_hosts = parts.all_hosts;
          hosts = all_hosts_stay log (λ s. hosts.ingested p.log s x);
          all_movers = parts.all_movers;
          movers = all_movers_stay log (λ m a. (movers m a).ingested x);
          unsent = unsent.ingested p.log p.unsent x parts.unsent;
          unwritten = unwritten.ingested p.log p.unwritten x parts.unwritten;
        };
    send_control = control_sent;
    route = records_sent;
    receive = records_took;
    receive_control = control_took;
    receive_packet = packet_took;
    extract = packet_sent;
    settle = time_settled;
    receive_row = λ t g rows owed fresh holds.
        let x = Row t g in
        let log = with_took p.log x in
        record {
          worker = parts.worker;
          legal = legal.receive x owed fresh;
          done = over (Receive 0) x;
          notes = taken_else job p.number p.log p.notes x refl parts.notes;
          controller = controller_while log refl;
          all_routers = parts.all_routers;
          routers = all_routers_stay log (λ s a. (a.0, routers.took p.log s x a.1));
          all_hosts = parts.all_hosts;
          hosts = all_hosts_stay log (λ s. hosts.took p.log s x refl refl);
          all_movers = parts.all_movers;
          movers = all_movers_stay log (λ m a. (movers m a).took x refl);
          unsent = unsent.took p.log p.unsent x parts.unsent;
          unwritten = holds;
        };
    apply = λ j t k old new r at ready below host router.
        let log = with_applied p.log (Group j t k) in
        record {
          worker = parts.worker;
          legal = applied_legal j t k old (omega arith) at ready;
          done = over (Apply j) (Group j t k);
          notes = notes_while log refl;
          controller = controller_while log refl;
          all_routers = length-set p.routers (suc j) r ∙ parts.all_routers;
          routers = router_is_new log (suc j) r router (λ s apart a. (a.0, routers.applied p.log s j t k apart a.1));
          all_hosts = length-set p.hosts j new ∙ parts.all_hosts;
          hosts = hosts_applied j t k new host;
          all_movers = parts.all_movers;
          movers = all_movers_stay log (λ m a. (movers m a).applied (Group j t k));
          unsent = unsent.applied p.log p.unsent j t k (λ e. omega arith) parts.unsent;
          unwritten = unwritten.applied p.log p.unwritten (Group j t k) parts.unwritten;
        };
    apply_last = λ j t k old new rows at ready ends host holds.
        let log = with_applied p.log (Group j t k) in
        record {
          worker = parts.worker;
          legal = applied_legal j t k old (omega arith) at ready;
          done = over (Apply j) (Group j t k);
          notes = notes_while log refl;
          controller = controller_while log refl;
          all_routers = parts.all_routers;
          routers = last_routers j t k ends;
          all_hosts = length-set p.hosts j new ∙ parts.all_hosts;
          hosts = hosts_applied j t k new host;
          all_movers = parts.all_movers;
          movers = all_movers_stay log (λ m a. (movers m a).applied (Group j t k));
          unsent = holds;
          unwritten = unwritten.applied p.log p.unwritten (Group j t k) parts.unwritten;
        };
    send_row = λ x rows least holds.
        let log = with_sent p.log x in
        let is : is_row x ≡ true = least.0.0 in
        record {
          worker = parts.worker;
          legal = legal.send_row x least;
          done = over SendRow x;
          notes = notes_while log refl;
          controller = λ first. controller_else (outline_of q job) p.log p.controller x (row_no_control x is) (parts.controller first);
          all_routers = parts.all_routers;
          routers = all_routers_stay log (λ s a. (a.0, routers.sent p.log s x (row_no_record s.stage x is) a.1));
          all_hosts = parts.all_hosts;
          hosts = all_hosts_stay log (λ s. hosts.sent p.log s x (row_no_packet s.stage x is));
          all_movers = parts.all_movers;
          movers = all_movers_stay log (λ m a. (movers m a).sent x (row_no_packet m.stage x is));
          unsent = holds;
          unwritten = unwritten.sent p.log p.unwritten x parts.unwritten;
        };
    write = λ t rows first least passed holds.
        let x = Written t in
        let log = with_settled p.log x in
        record {
          worker = parts.worker;
          legal = legal.write t first least passed;
          done = over Write x;
          notes = notes_while log refl;
          controller = controller_while log refl;
          all_routers = parts.all_routers;
          routers = all_routers_stay log (λ s a. (a.0, routers.settled p.log s x a.1));
          all_hosts = parts.all_hosts;
          hosts = all_hosts_stay log (λ s. hosts.settled p.log s x);
          all_movers = parts.all_movers;
          movers = all_movers_stay log (λ m a. (movers m a).settled x refl);
          unsent = unsent.settled p.log p.unsent x parts.unsent;
          unwritten = holds;
        };
    see = λ posted seen done. record {
      worker = parts.worker;
      legal = parts.legal;
      done = done;
      notes = parts.notes;
      controller = parts.controller;
      all_routers = parts.all_routers;
      routers = parts.routers;
      all_hosts = parts.all_hosts;
      hosts = parts.hosts;
      all_movers = parts.all_movers;
      movers = parts.movers;
      unsent = parts.unsent;
      unwritten = parts.unwritten;
    };
  }
    where
      -- no router is of the stage after the last
      last_routers : (j t k : ℕ) → suc j ≡ job.shape.stages → AtEach p.routers (IsRouterAt q job p.number (with_applied p.log (Group j t k)))
      last_routers j t k ends i d l =
          let h = parts.routers i d l in
          let r = get_or p.routers i d in
          let all : length p.routers ≡ job.shape.stages = parts.all_routers in
          (h.0, routers.applied p.log r j t k (λ (e : r.stage ≡ suc j). let at : r.stage ≡ i = h.0 in omega arith) h.1)
