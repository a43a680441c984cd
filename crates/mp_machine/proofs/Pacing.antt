-- What let a name be sent stays so: that the control stream had passed the time of a packet, and, in a paced job, that every host had passed the control times below that of a control record.
use Rattle.std.proofs.Common.{◌≡◌, ℕ, suc, ◌<◌, ◌⊎◌, true, List, length, refl, sym, subst, ⊎_elim, arith}
use Rattle.std.proofs.lemmas.Bool.{false≢true, eq-eqb, both_ways, cases_order}
use Rattle.mp_names.specs.declared.names.Name.{Name}
use Rattle.mp_names.specs.declared.names.Name.TheVariants.{Ctrl, Rec, Packet, Row}
use Rattle.mp_names.specs.declared.locations.Loc.{Loc}
use Rattle.mp_names.specs.declared.locations.Loc.TheVariants.{Ctl, CtlMail, State, Host}
use Rattle.mp_names.specs.declared.kinds.Kind.{Kind}
use Rattle.mp_names.specs.declared.kinds.Kind.TheVariants.{Ingest, SendControl, Route, Receive, Extract, Settle, Apply, SendRow, Write, Exchange}
use Rattle.mp_names.specs.Names.{has, In, is_ctrl, is_rec, is_row}
use Rattle.mp_names.specs.Outlines.{Outline, OutlineIsSound, control_at, owner_before, owner_at, IsMove}
use Rattle.mp_names.specs.Logs.{Log}
use Rattle.mp_names.specs.Frontiers.{IsClosed}
use Rattle.mp_names.proofs.Lists.{In_append, In_push}
use Rattle.mp_names.proofs.Owners.{owner_is_worker, move_has_control, move_in_shape}
use Rattle.mp_names.proofs.Reach.{ctl-ctl_mail, state-host}
use Rattle.mp_machine.specs.Worlds.{Worker, World, logs_of, posted_logs}
use Rattle.mp_machine.specs.Messages.{bundle_of}
use Rattle.mp_machine.specs.Steps.{IsDue, MaySendControl, CanStep, names_of, logged, stepped, exchanged}
use Rattle.mp_machine.specs.Runs.{run_of_machine}
use Rattle.mp_machine.specs.Holding.{IsOnTheWay}
use Rattle.mp_machine.proofs.Puts.{put_all}
use Rattle.mp_machine.proofs.Messages.{bundle_held}
use Rattle.mp_machine.proofs.Worlds.{WorldIsRight, GoesOn, closed_grows, logs_are, act, exchange, run_keeps}

-- what has to be done before the name is sent
abbrev pub Awaited : Outline → World → Name → Type 0
Awaited o world (Ctrl i v) = o.paced ≡ true → (j k : ℕ) → j < o.stages → k < length o.controls → (control_at o k).time < (control_at o i).time → IsClosed o (logs_of world) (Host j) (control_at o k).time
Awaited o world (Packet j b t) = IsClosed o (logs_of world) CtlMail t
Awaited o world _ = Unit {0}

-- for every name that is sent it is done
abbrev pub AwaitedIsDone : Outline → World → Type 0
AwaitedIsDone o world = (w : ℕ) → w < o.workers → (x : Name) → In x (world.worker w).log.sent → Awaited o world x

still_done : (o : Outline) (old new : World) → GoesOn o old new → (x : Name) → Awaited o old x → Awaited o new x
still_done o old new g (Ctrl i v) h = λ paced j k lj lk less. closed_grows o (logs_of old) (logs_of new) g.logs (Host j) (control_at o k).time (h paced j k lj lk less)
still_done o old new g (Packet j b t) h = closed_grows o (logs_of old) (logs_of new) g.logs CtlMail t h
still_done o old new g _ h = tt

module _ (o : Outline) (ok : OutlineIsSound o) (depth : ℕ) (world : World) (right : WorldIsRight o depth world) (held : AwaitedIsDone o world) where
  module _ (w : ℕ) (l : w < o.workers) (kind : Kind) (x : Name) (can : CanStep o depth world w kind x) where
    abbrev next : World
    next = stepped o world w kind x

    goes_on : GoesOn o world next
    goes_on = (act o ok depth world right w l kind x can).1

    -- what is posted as done is done after the step
    posted_done : (at : Loc) (t : ℕ) → IsClosed o (posted_logs world) at t → IsClosed o (logs_of next) at t
    posted_done at t c = closed_grows o (logs_of world) (logs_of next) goes_on.logs at t (closed_grows o (posted_logs world) (logs_of world) right.grows at t c)

    old : (y : Name) → In y (world.worker w).log.sent → Awaited o next y
    old y i = still_done o world next goes_on y (held w l y i)

    of_control : (y : Name) → is_ctrl y ≡ true → MaySendControl o (world.worker w) y → Awaited o next y
    of_control (Ctrl i v) e may = λ paced j k lj lk less. posted_done (Host j) (control_at o k).time (right.seen w l (Host j) (control_at o k).time (may paced j k lj lk less))
    of_control _ e may = absurd (false≢true e)

    of_packet : (j : ℕ) (y : Name) → IsDue o w (world.worker w) j y → Awaited o next y
    of_packet j (Packet i b t) due = posted_done CtlMail t (right.seen w l CtlMail t due.1)
    of_packet j _ due = absurd due

    of_record : (j : ℕ) (y : Name) → is_rec j y ≡ true → Awaited o next y
    of_record j (Rec i t k g) e = tt
    of_record j _ e = absurd (false≢true e)

    of_row : (y : Name) → is_row y ≡ true → Awaited o next y
    of_row (Row t g) e = tt
    of_row _ e = absurd (false≢true e)

    one_more : (y : Name) → Awaited o next x → In y ((world.worker w).log.sent) ⊎ (x ≡ y) → Awaited o next y
    one_more y h c = ⊎_elim (old y) (λ (e : x ≡ y). subst (Awaited o next) e h) c

  -- the names that the step sends
  sent_now : (w : ℕ) (l : w < o.workers) (kind : Kind) (x : Name) (can : CanStep o depth world w kind x) (y : Name) → In y (logged kind (world.worker w).log (names_of o world w kind x)).sent → Awaited o (stepped o world w kind x) y
  sent_now w l SendControl x can y i = one_more w l SendControl x can y (of_control w l SendControl x can x can.1.0.0.0 can.2) (In_push y x (world.worker w).log.sent i)
  sent_now w l (Route j) x can y i =
      ⊎_elim
      (old w l (Route j) x can y)
      (λ (k : In y (bundle_of o w (world.worker w).log j x)). of_record w l (Route j) x can j y (bundle_held o ok w (world.worker w) j x y k).0)
      (In_append y (world.worker w).log.sent (bundle_of o w (world.worker w).log j x) i)
  sent_now w l (Extract j) x can y i = one_more w l (Extract j) x can y (of_packet w l (Extract j) x can j x can.1.0) (In_push y x (world.worker w).log.sent i)
  sent_now w l SendRow x can y i = one_more w l SendRow x can y (of_row w l SendRow x can x can.1.0.0) (In_push y x (world.worker w).log.sent i)
  sent_now w l Ingest x can y i = old w l Ingest x can y i
  sent_now w l (Receive v) x can y i = old w l (Receive v) x can y i
  sent_now w l (Settle j) x can y i = old w l (Settle j) x can y i
  sent_now w l (Apply j) x can y i = old w l (Apply j) x can y i
  sent_now w l Write x can y i = old w l Write x can y i
  sent_now w l Exchange x can y i = absurd can.1

  pub step_awaits : (w : ℕ) (kind : Kind) (x : Name) → CanStep o depth world w kind x → AwaitedIsDone o (stepped o world w kind x)
  step_awaits w kind x can =
      let l = can.0.0 in
      let next = stepped o world w kind x in
      let me : Worker = record (world.worker w) { log = logged kind (world.worker w).log (names_of o world w kind x) } in
      put_all (λ v (k : Worker). v < o.workers → (y : Name) → In y k.log.sent → Awaited o next y) w me world.worker
      (λ h. sent_now w l kind x can)
      (λ v e h y i. still_done o world next (act o ok depth world right w l kind x can).1 y (held v h y i))

  pub exchange_awaits : (w : ℕ) → w < o.workers → AwaitedIsDone o (exchanged o world w)
  exchange_awaits w l v h y i =
      still_done o world (exchanged o world w) (exchange o ok depth world right w l).1 y
      (held v h y (subst (λ (log : Log). In y log.sent) (sym (logs_are o ok depth world right w l v)) i))

module _ (o : Outline) (ok : OutlineIsSound o) (depth : ℕ) (steps : List (ℕ × Kind)) where
  abbrev world : World
  world = run_of_machine o depth steps

  awaited : AwaitedIsDone o world
  awaited =
      run_keeps o ok depth (AwaitedIsDone o) (λ w l x i. absurd (false≢true i))
      (λ world w kind x right held can. step_awaits o ok depth world right held w kind x can)
      (λ world w right held l. exchange_awaits o ok depth world right held w l)
      steps

  module _ (paced : o.paced ≡ true) where
    -- where a control record is sent, every packet of a time below its own is taken
    pub packets_taken : (w i v j b t : ℕ) → w < o.workers → In (Ctrl i v) (world.worker w).log.sent → IsMove o j b t → t < (control_at o i).time → In (Packet j b t) (world.worker (owner_at o j b t)).log.took
    packets_taken w i v j b t l sent move less =
        let shape = move_in_shape o ok j b t move in
        let c = move_has_control o j b t move in
        let done = awaited w l (Ctrl i v) sent paced j c.0 shape.0 c.1 (subst (λ (n : ℕ). n < (control_at o i).time) (sym c.3) less) in
        let e = c.3 in
        done (owner_at o j b t) (owner_is_worker o ok j b (suc t) shape.0 shape.1) (State j) t (state-host j) (omega arith) (Packet j b t) (move, refl) (eq-eqb j j refl) refl

    earlier_taken : (j b t i c u : ℕ) → IsMove o j b t → IsMove o i c u → IsOnTheWay o world j b t → IsOnTheWay o world i c u → t < u → ⊥
    earlier_taken j b t i c u move other h g less =
        let shape = move_in_shape o ok i c u other in
        let control = move_has_control o i c u other in
        let told = awaited (owner_before o i c u) (owner_is_worker o ok i c u shape.0 shape.1) (Packet i c u) g.0 0 ok.some_worker Ctl u ctl-ctl_mail (omega arith) (Ctrl control.0 0) ((control.1, ok.some_worker), refl) refl control.3 in
        both_ways (has (world.worker (owner_at o j b t)).log.took (Packet j b t)) h.1
        (packets_taken 0 control.0 0 j b t ok.some_worker told move (subst (λ (n : ℕ). t < n) (sym control.3) less))

    -- packets on the way have one time
    pub one_time : (j b t i c u : ℕ) → IsMove o j b t → IsMove o i c u → IsOnTheWay o world j b t → IsOnTheWay o world i c u → t ≡ u
    one_time j b t i c u move other h g =
        ⊎_elim
        (λ (e : t ≡ u). e)
        (λ (z : (t < u) ⊎ (u < t)).
        ⊎_elim (λ (k : t < u). absurd (earlier_taken j b t i c u move other h g k)) (λ (k : u < t). absurd (earlier_taken i c u j b t other move g h k)) z)
        (cases_order t u)
