-- Each step keeps the log legal.
use Rattle.std.proofs.Common.{◌≡◌, ℕ, ◌<◌, false, List, [], ◌∷◌, length, refl, sym, subst, append-nil, arith}
use Rattle.std.proofs.lemmas.Bool.{eq-eqb}
use Rattle.mp_names.specs.declared.kinds.Kind.TheVariants.{Receive, Route}
use Rattle.mp_names.specs.declared.names.Name.{Name}
use Rattle.mp_names.specs.declared.names.Name.TheVariants.{Ctrl, Packet, Group}
use Rattle.mp_names.specs.declared.locations.Frontier.{Frontier}
use Rattle.mp_names.specs.declared.locations.Frontier.TheVariants.{At}
use Rattle.mp_names.specs.declared.locations.Loc.{Loc}
use Rattle.mp_names.specs.declared.locations.Loc.TheVariants.{CtlMail, Host, Mail, OutMail, State}
use Rattle.mp_names.specs.Frontiers.{HasPassed, HasReached, IsClosedForOne}
use Rattle.mp_names.specs.Names.{has, IsLeast, is_ctrl, is_rec, is_row}
use Rattle.mp_names.specs.Outlines.{OutlineIsSound}
use Rattle.mp_names.specs.Logs.{Log, LogIsLegal, with_applied, with_sent}
use Rattle.mp_names.specs.Keeping.{IsWaiting}
use Rattle.mp_names.proofs.Keeps.{group_keeps, held_keeps, ingested_keeps, packet_keeps, time_keeps, took_keeps, written_keeps}
use Rattle.mp_names.proofs.Owners.{move_in_shape}
use Rattle.mp_names.proofs.Exact.{passed_below}
use Rattle.mp_machine.specs.Messages.{bundle_of}
use Rattle.mp_machine.specs.Worlds.{Worker}
use Rattle.mp_machine.proofs.Keeps.{step_keeps}
use Rattle.mp_stamps.specs.declared.seen.Seen.{Seen}
use Rattle.mp_stamps.specs.Seen.{SeenIsDone, seen_at}
use Rattle.mp_model.specs.Facts.{JobFacts, QueryFacts}
use Rattle.mp_outline.specs.JobOutline.{outline_of}
use Rattle.mp_host_laws.specs.Hosted.{Hosted}
use Rattle.mp_host_laws.specs.HostOf.{IsReadyAt}
use Rattle.mp_handoff.specs.Due.{IsDueHere}
use Rattle.mp_route.specs.Unsent.{MayGo, with_all_sent}
use Rattle.mp_worker_invariant.specs.Kept.{AreOwedAndNew, with_all_took}
use Rattle.mp_worker_invariant.specs.Laws.{StepsStayLegal}

module _ {Cell : Type 0} (q : QueryFacts Cell) (job : JobFacts) (sound : OutlineIsSound (outline_of q job)) (w : ℕ) (worker : w < job.shape.workers) (log : Log) (legal : LogIsLegal (outline_of q job) w log) (seen : Seen) (done : SeenIsDone (outline_of q job) w log seen) where
  -- worker 0 has all control records from the start
  control_legal : (i v : ℕ) → w ≡ 0 → i < length job.controls → v < job.shape.workers → has log.sent (Ctrl i v) ≡ false → LogIsLegal (outline_of q job) w (with_sent log (Ctrl i v))
  control_legal i v first listed receiver unsent = held_keeps (outline_of q job) w log legal is_ctrl (Ctrl i v) (refl, (listed, receiver), eq-eqb w 0 first, unsent)

  -- the groups before a packet's time were seen to be applied
  pub packet_legal : (j b t : ℕ) → IsLeast (IsDueHere (outline_of q job) log seen w j) (Packet j b t) → HasReached (seen_at seen (Host j)) t → LogIsLegal (outline_of q job) w (with_sent log (Packet j b t))
  packet_legal j b t least reached =
      let o = outline_of q job in
      let stage : j < job.shape.stages = (move_in_shape o sound j b t least.0.0.1.0).0 in
      packet_keeps o w log legal j b t least.0.0 (λ u l. done (Host j) u stage (passed_below (seen_at seen (Host j)) t u reached l))

  group_legal : (h : Hosted Cell) (t k : ℕ) → h.worker ≡ w → h.stage < job.shape.stages → IsReadyAt q job log seen h t k → LogIsLegal (outline_of q job) w (with_applied log (Group h.stage t k))
  group_legal h t k own below ready =
      let o = outline_of q job in
      let least = subst (λ (v : ℕ). IsLeast (IsWaiting o v log h.stage) (Group h.stage t k)) own ready.least in
      group_keeps o sound w worker log legal h.stage t k least ready.early (done (Mail h.stage) t below ready.mail) (done (State h.stage) t below ready.state)

  -- of what was seen that of the control records alone
  abbrev pub controls_seen : Loc → Frontier
  controls_seen CtlMail = seen_at seen CtlMail
  controls_seen _ = At 0

  never : (t : ℕ) → t < 0 → ⊥
  never t l = omega arith

  pub controls_known : (at : Loc) (t : ℕ) → HasPassed (controls_seen at) t → IsClosedForOne (outline_of q job) w log at t
  controls_known CtlMail t passed = done CtlMail t tt passed
  controls_known _ t passed = absurd (never t passed)

  abbrev pub informed : Worker
  informed = record { log = log; posted = log; seen = controls_seen; version = 0 }

  -- several records may be sent at once
  pub route_legal : (j : ℕ) (x : Name) (xs : List Name) → MayGo q job w log j seen x → xs ≡ bundle_of (outline_of q job) w log j x → LogIsLegal (outline_of q job) w (with_all_sent log xs)
  route_legal j x xs may those = step_keeps (outline_of q job) sound w worker informed legal controls_known (Route j) x xs may.0 may.1 those tt

  -- and several taken
  pub receive_legal : (xs : List Name) → AreOwedAndNew (outline_of q job) w log xs → LogIsLegal (outline_of q job) w (with_all_took log xs)
  receive_legal [] new = subst (λ (l : List Name). LogIsLegal (outline_of q job) w (record log { took = l })) (sym (append-nil log.took)) legal
  receive_legal (x ∷ xs) new = step_keeps (outline_of q job) sound w worker informed legal controls_known (Receive 0) x (x ∷ xs) tt tt (xs, refl) new

  pub steps_stay_legal : StepsStayLegal q job w log seen
  steps_stay_legal =
      let o = outline_of q job in
      record {
        ingest = ingested_keeps o w log legal;
        send_control = control_legal;
        extract = packet_legal;
        settle = λ j t least passed sent. time_keeps o sound w worker log legal j t least (done CtlMail t tt passed) sent;
        route = λ j x may. held_keeps o w log legal (is_rec j) x may.0.0;
        receive = λ x owed new. took_keeps o w log legal x new owed;
        apply = group_legal;
        send_row = λ x least. held_keeps o w log legal is_row x least.0;
        write = λ t zero least passed. written_keeps o sound w worker log legal t zero least (done OutMail t tt passed);
      }
