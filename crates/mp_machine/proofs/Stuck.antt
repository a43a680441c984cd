-- Where no step has a true condition, all is done and known.
use Rattle.std.proofs.Common.{◌≡◌, ℕ, zero, suc, ◌-◌, ◌<◌, ◌≤◌, ◌==◌, Bool, true, false, not, List, [], ◌∷◌, ◌++◌, length, refl, sym, ◌∙◌, subst, inl, inr, ⊎_elim, append_assoc, append-nil, arith}
use Rattle.std.specs.List.{All}
use Rattle.std.proofs.lemmas.Bool.{false≢true, eqb-true, eq-eqb, both_ways, cases_Bool, cases_lt, cases_eq}
use Rattle.mp_names.specs.declared.names.Name.{Name}
use Rattle.mp_names.specs.declared.names.Name.TheVariants.{Ctrl, Rec, Packet, Row, Group, Settled, Written}
use Rattle.mp_names.specs.declared.names.Tag.{Tag}
use Rattle.mp_names.specs.declared.locations.Loc.{Loc}
use Rattle.mp_names.specs.declared.locations.Loc.TheVariants.{Ctl, CtlMail, Source, Route, Mail, Move, State, Host, OutRoute, OutMail}
use Rattle.mp_names.specs.declared.locations.Frontier.{Frontier}
use Rattle.mp_names.specs.declared.kinds.Kind.{Kind}
use Rattle.mp_names.specs.declared.kinds.Kind.TheVariants.{Ingest, SendControl, Receive, Extract, Settle, Apply, SendRow, Write, Exchange}
use Rattle.mp_names.specs.declared.kinds.Kind.TheVariants.{Route as RouteStep}
use Rattle.mp_names.specs.Names.{has, In, Less, IsLeast, is_ctrl, is_rec, is_packet, is_row}
use Rattle.mp_names.specs.Outlines.{Outline, OutlineIsSound, IsBeforeStop, control_at, time_of, group_owner, sender, receiver, IsMove, IsOwed, IsOwedBy, HasControl, packets_of, groups_of, ctrl_names, share}
use Rattle.mp_names.specs.Logs.{Log, is_given, is_owned, is_pending}
use Rattle.mp_names.specs.Locations.{Feeds, stays}
use Rattle.mp_names.specs.Frontiers.{is_held, HasPassed, HasEnded, frontier_of, SentAll, TookAll, IsDoneBy, IsClosed, IsClosedForOne}
use Rattle.mp_names.specs.Keeping.{IsHeld, IsUnsettled, IsWaiting, IsUnwritten}
use Rattle.mp_names.proofs.Lists.{filter_In}
use Rattle.mp_names.proofs.Reach.{reach_on}
use Rattle.mp_names.proofs.Owners.{move_in_shape}
use Rattle.mp_names.proofs.Listed.{groups_are, group_form, edges, earlier_stop}
use Rattle.mp_names.proofs.Steps.{given_own, noted_control, control_noted}
use Rattle.mp_names.proofs.Hosts.{pending_until}
use Rattle.mp_names.proofs.Whole.{in_hand_before, whole}
use Rattle.mp_names.proofs.Exact.{passed_from_closed, reached_from, ended_from_passed}
use Rattle.mp_names.proofs.Exists.{frontier_is}
use Rattle.mp_machine.specs.Worlds.{World, logs_of, posted_logs}
use Rattle.mp_machine.specs.Messages.{joined, IsMessage}
use Rattle.mp_machine.specs.Steps.{IsControlDue, IsDue, CanStep, CanExchange, same_log}
use Rattle.mp_machine.specs.Tests.{is_control_due, is_due, taken_times}
use Rattle.mp_machine.specs.Runs.{IsFinished, WorkerIsFinished}
use Rattle.mp_machine.proofs.Searches.{least_exists}
use Rattle.mp_machine.proofs.Candidates.{control_into, control_back, rec_into, rec_back, row_into, row_back, due_into, due_back, write_into, write_back}
use Rattle.mp_machine.proofs.Turns.{same_log_is, own_log}
use Rattle.mp_machine.proofs.Mailboxes.{sent_arrives}
use Rattle.mp_machine.proofs.Worlds.{WorldIsRight}
use Rattle.mp_machine.proofs.Feeders.{closed_from_feeders, into_ctl, into_ctl_mail, into_source, into_route_zero, into_route_later, into_mail, into_move, into_state, into_host, into_out_route, into_out_mail, to_the_end}

module _
    (o : Outline) (ok : OutlineIsSound o) (depth : ℕ) (deep : 0 < depth) (world : World) (right : WorldIsRight o depth world)
    (still : (w : ℕ) (kind : Kind) (x : Name) → CanStep o depth world w kind x → ⊥) (level : (w : ℕ) → CanExchange o world w Exchange → ⊥) where
  -- all is posted and seen

  posted_is_log : (w : ℕ) → w < o.workers → (world.worker w).log ≡ (world.worker w).posted
  posted_is_log w l =
      ⊎_elim
      (λ (e : same_log (world.worker w).log (world.worker w).posted ≡ true). same_log_is (world.worker w).log (world.worker w).posted e)
      (λ (e : same_log (world.worker w).log (world.worker w).posted ≡ false).
      absurd (level w (l, inl (λ h. both_ways (same_log (world.worker w).log (world.worker w).posted) e (subst (λ (log : Log). same_log (world.worker w).log log ≡ true) h (own_log (world.worker w).log))))))
      (cases_Bool (same_log (world.worker w).log (world.worker w).posted))

  is_level : (w : ℕ) → w < o.workers → (at : Loc) → (world.worker w).seen at ≡ frontier_of o (posted_logs world) at
  is_level w l at =
      ⊎_elim
      (λ (e : (world.worker w).version ≡ world.version). right.level w l e at)
      (λ (e : (world.worker w).version ≡ world.version → ⊥). absurd (level w (l, inr e)))
      (cases_eq (world.worker w).version world.version)

  board_closed : (at : Loc) (t : ℕ) → IsClosed o (logs_of world) at t → IsClosed o (posted_logs world) at t
  board_closed at t c w l = subst (λ (log : Log). IsClosedForOne o w log at t) (posted_is_log w l) (c w l)

  passed_board : (at : Loc) (t : ℕ) → IsClosed o (logs_of world) at t → HasPassed (frontier_of o (posted_logs world) at) t
  passed_board at t c = passed_from_closed o (posted_logs world) ok right.posted at (frontier_of o (posted_logs world) at) t (frontier_is o (posted_logs world) ok right.posted at) (board_closed at t c)

  -- where a location is closed in the logs, each worker has seen it
  passed : (w : ℕ) → w < o.workers → (at : Loc) (t : ℕ) → IsClosed o (logs_of world) at t → HasPassed ((world.worker w).seen at) t
  passed w l at t c = subst (λ (f : Frontier). HasPassed f t) (sym (is_level w l at)) (passed_board at t c)

  -- no mailbox holds anything

  empty : (v w : ℕ) → v < o.workers → w < o.workers → world.mailbox v w ≡ []
  empty v w lv lw = go (world.mailbox v w) refl
    where
      go : (messages : List (List Name)) → world.mailbox v w ≡ messages → world.mailbox v w ≡ []
      go [] e = e
      go ((x ∷ rest) ∷ others) e = absurd (still w (Receive v) x ((lw, lv), tt, tt, (rest, others, e)))
      go ([] ∷ others) e = let m = (subst (All (IsMessage o)) e (right.mail.messages v w lv lw) 0 [] (omega arith)).some in absurd (omega arith)

  taken_if_sent : (x : Name) → IsOwed o x → In x (world.worker (sender o x)).log.sent → In x (world.worker (receiver o x)).log.took
  taken_if_sent x m h =
      let e = edges o ok x m in
      ⊎_elim
      (λ (i : In x (joined (world.mailbox (sender o x) (receiver o x)))). absurd (false≢true (subst (λ (messages : List (List Name)). In x (joined messages)) (empty (sender o x) (receiver o x) e.0 e.1) i)))
      (λ (i : In x (world.worker (receiver o x)).log.took). i)
      (sent_arrives o ok depth world right.mail right.logs x m h)

  room : (w : ℕ) (x : Name) → w < o.workers → IsOwed o x → length (world.mailbox w (receiver o x)) < depth
  room w x l m = subst (λ (messages : List (List Name)). length messages < depth) (sym (empty w (receiver o x) l (edges o ok x m).1)) deep

  Sent : (Name → Bool) → ℕ → Type 0
  Sent p u = (w : ℕ) → w < o.workers → SentAll o w (world.worker w).log p u

  Taken : (Name → Bool) → ℕ → Type 0
  Taken p u = (w : ℕ) → w < o.workers → TookAll o w (world.worker w).log p u

  taken_from_sent : (p : Name → Bool) (u : ℕ) → Sent p u → Taken p u
  unfolding Sent Taken
  taken_from_sent p u s w l x m e t = subst (λ (v : ℕ). In x (world.worker v).log.took) m.1 (taken_if_sent x m.0 (s (sender o x) (edges o ok x m.0).0 x (m.0, refl) e t))

  -- what is given is sent, where it isn't held
  sent_unless_held : (w : ℕ) (p : Name → Bool) (x : Name) → (IsHeld o w (world.worker w).log p x → ⊥) → IsOwed o x → p x ≡ true → is_given o w (world.worker w).log x ≡ true → In x (world.worker w).log.sent
  sent_unless_held w p x none m e g =
      ⊎_elim
      (λ (h : has (world.worker w).log.sent x ≡ true). h)
      (λ (h : has (world.worker w).log.sent x ≡ false). absurd (none (e, m, g, h)))
      (cases_Bool (has (world.worker w).log.sent x))

  -- events

  all_ingested : (w : ℕ) → w < o.workers → (x : Name) → In x (share o w) → In x (world.worker w).log.ingested
  all_ingested w l x i = go (right.logs w l).ingested_in_order.0 (right.logs w l).ingested_in_order.1
    where
      go : (rest : List Name) → (world.worker w).log.ingested ++ rest ≡ share o w → In x (world.worker w).log.ingested
      go [] e = subst (λ (xs : List Name). In x xs) (sym e ∙ append-nil (world.worker w).log.ingested) i
      go (y ∷ ys) e = absurd (still w Ingest y ((l, tt), (ys, append_assoc (world.worker w).log.ingested (y ∷ []) ys ∙ e), tt, tt))

  closed_source : (t : ℕ) → IsClosed o (logs_of world) Source t
  closed_source t = closed_from_feeders o (logs_of world) Source t (λ u h w l x i e. all_ingested w l x i) (into_source (λ c. IsClosed o (logs_of world) c t))

  given_first : (w : ℕ) → w < o.workers → (x : Name) → IsOwedBy o w x → is_rec 0 x ≡ true → is_given o w (world.worker w).log x ≡ true
  given_first w l (Rec zero t k g) m e = all_ingested w l (Rec 0 t k g) (filter_In (λ y. sender o y == w) (Rec 0 t k g) (o.records 0) m.0.1 (eq-eqb (sender o (Rec 0 t k g)) w m.1))
  given_first w l (Rec (suc i) t k g) m e = let z = eqb-true (suc i) 0 e in absurd (omega arith)
  given_first w l _ m e = absurd (false≢true e)

  -- up to a time before the stop, where all control records up to it are sent

  module _ (bound : ℕ) (early : IsBeforeStop o.until bound) (told : (u : ℕ) → u ≤ bound → Sent is_ctrl u) where
    closed_ctl : (t : ℕ) → t ≤ bound → IsClosed o (logs_of world) Ctl t
    unfolding Sent
    closed_ctl t le = closed_from_feeders o (logs_of world) Ctl t (λ u h. told u (omega arith)) (into_ctl (λ c. IsClosed o (logs_of world) c t))

    took_ctrl : (u : ℕ) → u ≤ bound → Taken is_ctrl u
    took_ctrl u le = taken_from_sent is_ctrl u (told u le)

    closed_ctl_mail : (t : ℕ) → t ≤ bound → IsClosed o (logs_of world) CtlMail t
    unfolding Taken
    closed_ctl_mail t le = closed_from_feeders o (logs_of world) CtlMail t (λ u h. took_ctrl u (omega arith)) (into_ctl_mail (λ c. IsClosed o (logs_of world) c t) (closed_ctl t le))

    passed_ctl : (w : ℕ) → w < o.workers → (t : ℕ) → t ≤ bound → HasPassed ((world.worker w).seen CtlMail) t
    passed_ctl w l t le = passed w l CtlMail t (closed_ctl_mail t le)

    -- one stage, whose router gets all that it has to send on

    module _
        (j : ℕ) (given : (w : ℕ) → w < o.workers → (x : Name) → IsOwedBy o w x → is_rec j x ≡ true → time_of o x ≤ bound → is_given o w (world.worker w).log x ≡ true)
        (feeders : (t : ℕ) → t ≤ bound → (c : Loc) → Feeds c (Route j) → IsClosed o (logs_of world) c t) where
      no_later : (x y : Name) → is_rec j x ≡ true → is_rec j y ≡ true → (Less x y → ⊥) → time_of o y ≤ time_of o x
      no_later (Rec i t k g) (Rec n u l b) e f nope = ⊎_elim (λ (q : t < u). absurd (nope (inr (refl, inl q)))) (λ (q : u ≤ t). q) (cases_lt t u)
      no_later (Rec i t k g) _ e f nope = absurd (false≢true f)
      no_later _ y e f nope = absurd (false≢true e)

      sent_rec : (u : ℕ) → u ≤ bound → Sent (is_rec j) u
      unfolding Sent
      sent_rec u le w l x m e t = sent_unless_held w (is_rec j) x (none (at_most (time_of o x) u t le)) m.0 e (given w l x m e (at_most (time_of o x) u t le))
        where
          at_most : (a b : ℕ) → a ≡ b → b ≤ bound → a ≤ bound
          at_most a b e l = omega arith

          in_range : (y : Name) → is_rec j y ≡ true → IsOwed o y → j < o.stages
          in_range (Rec i t k g) e m = subst (λ (n : ℕ). n < o.stages) (eqb-true i j e) m.0
          in_range _ e m = absurd (false≢true e)

          sooner : (a b : ℕ) → a ≤ b → b ≤ bound → a ≤ bound
          sooner a b k l = omega arith

          none : time_of o x ≤ bound → IsHeld o w (world.worker w).log (is_rec j) x → ⊥
          none before h =
              let y = least_exists (IsHeld o w (world.worker w).log (is_rec j)) (is_held o w (world.worker w).log) (o.records j) (rec_into o ok w (world.worker w) j) (rec_back o ok w (world.worker w) j) x h in
              let k = no_later x y.0 h.0 y.1.0.0 (λ less. y.1.1 x h less) in
              still w (RouteStep j) y.0 ((l, in_range y.0 y.1.0.0 y.1.0.1), y.1, passed_ctl w l (time_of o y.0) (sooner (time_of o y.0) (time_of o x) k before), room w y.0 l y.1.0.1)

      closed_route : (t : ℕ) → t ≤ bound → IsClosed o (logs_of world) (Route j) t
      unfolding Sent
      closed_route t le = closed_from_feeders o (logs_of world) (Route j) t (λ u h. sent_rec u (omega arith)) (feeders t le)

      closed_mail : (t : ℕ) → t ≤ bound → IsClosed o (logs_of world) (Mail j) t
      unfolding Taken
      closed_mail t le = closed_from_feeders o (logs_of world) (Mail j) t (λ u h. taken_from_sent (is_rec j) u (sent_rec u (omega arith))) (into_mail (λ c. IsClosed o (logs_of world) c t) j (closed_route t le))

      StageIsDone : ℕ → Type 0
      StageIsDone u = ((w : ℕ) → w < o.workers → IsDoneBy o w (world.worker w).log (Move j) u) × ((w : ℕ) → w < o.workers → IsDoneBy o w (world.worker w).log (State j) u) × ((w : ℕ) → w < o.workers → IsDoneBy o w (world.worker w).log (Host j) u)

      MovesAreDone : ℕ → Type 0
      MovesAreDone u = ((w : ℕ) → w < o.workers → IsDoneBy o w (world.worker w).log (Move j) u) × ((w : ℕ) → w < o.workers → IsDoneBy o w (world.worker w).log (State j) u)

      closed_state : (t : ℕ) → t ≤ bound → ((u : ℕ) → u ≤ t → MovesAreDone u) → IsClosed o (logs_of world) (State j) t
      unfolding MovesAreDone
      closed_state t le d =
          closed_from_feeders o (logs_of world) (State j) t (λ u h. (d u h).1)
          (into_state (λ c. IsClosed o (logs_of world) c t) j (closed_from_feeders o (logs_of world) (Move j) t (λ u h. (d u h).0) (into_move (λ c. IsClosed o (logs_of world) c t) j (closed_ctl_mail t le))))

      closed_host : (t : ℕ) → t ≤ bound → ((u : ℕ) → u ≤ t → StageIsDone u) → IsClosed o (logs_of world) (Host j) t
      unfolding MovesAreDone StageIsDone
      closed_host t le d =
          closed_from_feeders o (logs_of world) (Host j) t (λ u h. (d u h).2)
          (into_host (λ c. IsClosed o (logs_of world) c t) j (closed_mail t le) (closed_state t le (λ u h. ((d u h).0, (d u h).1))))

      -- at u, with all done before it
      module _ (u : ℕ) (in_time : u ≤ bound) (sooner : (s : ℕ) → s < u → StageIsDone s) where
        -- a packet that is due up to u can leave
        leaves_then : (w : ℕ) → w < o.workers → (b : ℕ) (y : Name) → IsLeast (IsDue o w (world.worker w) j) y → (Less (Packet j b u) y → ⊥) → ⊥
        unfolding MovesAreDone StageIsDone
        leaves_then w l b (Packet i c t) h nope =
            let e : i ≡ j = h.0.0.0 in
            let move : IsMove o j c t = h.0.0.1.0 in
            let le : t ≤ u = ⊎_elim (λ (k : u < t). absurd (nope (inr (refl, inl k)))) (λ (k : t ≤ u). k) (cases_lt u t) in
            still w (Extract j) (Packet i c t) (
              (l, (move_in_shape o ok j c t move).0),
              h,
              (
                reached_from ((world.worker w).seen (Host j)) t (λ s q. passed w l (Host j) s (closed_host s (omega arith) (λ v k. sooner v (omega arith)))),
                in_hand_before o w (world.worker w).log j c t h.0.0.1.1 (λ m q. (sooner m (omega arith)).1 w l),
              ),
              room w (Packet i c t) l (subst (λ (n : ℕ). IsMove o n c t) (sym e) move),
            )
        leaves_then w l b _ h nope = absurd h.0

        sent_packets : Sent (is_packet j) u
        unfolding Sent
        sent_packets w l (Packet i b t) m e f =
            let e1 : i ≡ j = eqb-true i j e in
            subst (λ (n : ℕ). In (Packet n b t) (world.worker w).log.sent) (sym e1)
            (subst (λ (n : ℕ). In (Packet j b n) (world.worker w).log.sent) (sym f)
            (due (subst (λ (n : ℕ). IsOwedBy o w (Packet j b n)) f (subst (λ (n : ℕ). IsOwedBy o w (Packet n b t)) e1 m))))
          where
            due : IsOwedBy o w (Packet j b u) → In (Packet j b u) (world.worker w).log.sent
            due m =
                ⊎_elim
                (λ (h : has (world.worker w).log.sent (Packet j b u) ≡ true). h)
                (λ (h : has (world.worker w).log.sent (Packet j b u) ≡ false).
                let d : IsDue o w (world.worker w) j (Packet j b u) = ((refl, m, h), passed_ctl w l u in_time) in
                let y = least_exists (IsDue o w (world.worker w) j) (is_due o w (world.worker w) j) (packets_of o) (due_into o ok w (world.worker w) j) (due_back o ok w (world.worker w) j) (Packet j b u) d in
                absurd (leaves_then w l b y.0 y.1 (λ less. y.1.1 (Packet j b u) d less)))
                (cases_Bool (has (world.worker w).log.sent (Packet j b u)))
        sent_packets w l _ m e f = absurd (false≢true e)

        settled : (w : ℕ) → w < o.workers → HasControl o j u → In (Settled j u) (world.worker w).log.settled
        unfolding Sent Taken StageIsDone
        settled w l c =
            ⊎_elim
            (λ (q : has (world.worker w).log.settled (Settled j u) ≡ true). q)
            (λ (q : has (world.worker w).log.settled (Settled j u) ≡ false).
            absurd (still w (Settle j) (Settled j u) (
              (l, subst (λ (n : ℕ). n < o.stages) c.2 (ok.controls_fit c.0 c.1).1),
              ((refl, control_noted o w (world.worker w).log j u l (took_ctrl u in_time w l) c, q), least),
              (passed_ctl w l u in_time, (λ b m. sent_packets w l (Packet j b u) m (eq-eqb j j refl) refl)),
              tt,
            )))
            (cases_Bool (has (world.worker w).log.settled (Settled j u)))
          where
            sooner_than : (i s : ℕ) → i ≡ j → Less (Settled i s) (Settled j u) → s < u
            sooner_than i s e less = omega arith

            least : (y : Name) → IsUnsettled o (world.worker w).log j y → Less y (Settled j u) → ⊥
            least (Settled i s) n less = both_ways (has (world.worker w).log.settled (Settled j s)) n.2 (((sooner s (sooner_than i s n.0 less)).0 w l).0 (noted_control o w (world.worker w).log (right.logs w l) j s n.1))
            least _ n less = absurd n

        moves_now : MovesAreDone u
        unfolding Sent Taken MovesAreDone
        moves_now = ((λ w l. (settled w l, sent_packets w l)), taken_from_sent (is_packet j) u sent_packets)

        up_to : (s : ℕ) → s ≤ u → MovesAreDone s
        unfolding MovesAreDone StageIsDone
        up_to s le =
            ⊎_elim
            (λ (k : s < u). ((sooner s k).0, (sooner s k).1))
            (λ (k : u ≤ s). let e : s ≡ u = omega arith in subst MovesAreDone (sym e) moves_now)
            (cases_lt s u)

        -- the least group that waits, of a time up to u, can be applied
        applies_then : (w : ℕ) → w < o.workers → (k : ℕ) (y : Name) → IsLeast (IsWaiting o w (world.worker w).log j) y → (Less (Group j u k) y → ⊥) → ⊥
        unfolding MovesAreDone
        applies_then w l k (Group i t n) h nope =
            let a = groups_are o ok j (Group i t n) h.0.0 in
            let e : i ≡ j = eqb-true i j a.1 in
            let le : t ≤ u = ⊎_elim (λ (q : u < t). absurd (nope (inr (refl, inl q)))) (λ (q : t ≤ u). q) (cases_lt u t) in
            let mail = closed_mail t (omega arith) in
            let state = closed_state t (omega arith) (λ s q. up_to s (omega arith)) in
            let at : IsLeast (IsWaiting o w (world.worker w).log j) (Group j t n) = subst (λ (m : ℕ). IsLeast (IsWaiting o w (world.worker w).log j) (Group m t n)) e h in
            let ready = whole o ok w (world.worker w).log (right.logs w l) j t n at (mail w l) (state w l) in
            still w (Apply j) (Group i t n) ((l, a.0), h, (passed w l (Mail j) t mail, passed w l (State j) t state, ready.bin_in_hand, earlier_stop o.until t bound (omega arith) early), tt)
        applies_then w l k _ h nope = absurd (false≢true h.0.1)

        applied : (w : ℕ) → w < o.workers → IsDoneBy o w (world.worker w).log (Host j) u
        unfolding MovesAreDone StageIsDone
        applied w l x i own t = group_form o ok (λ x. is_owned o w x ≡ true → In x (world.worker w).log.applied) j u at x i t own
          where
            at : (k : ℕ) → In (Group j u k) (groups_of o j) → is_owned o w (Group j u k) ≡ true → In (Group j u k) (world.worker w).log.applied
            at k g own =
                ⊎_elim
                (λ (q : has (world.worker w).log.applied (Group j u k) ≡ true). q)
                (λ (q : has (world.worker w).log.applied (Group j u k) ≡ false).
                let p = pending_until o ok w (world.worker w).log (right.logs w l) j u
                (λ s z. closed_mail u in_time w l (Mail j) s stays z)
                (λ s z. (up_to s z).1 w l)
                (λ s z. (sooner s z).2 w l)
                k g (eqb-true (group_owner o j u k) w own) q in
                let y = least_exists (IsWaiting o w (world.worker w).log j) (is_pending o w (world.worker w).log) (groups_of o j) (λ z h. h) (λ z i h. (i, h)) (Group j u k) (g, p) in
                absurd (applies_then w l k y.0 y.1 (λ less. y.1.1 (Group j u k) (g, p) less)))
                (cases_Bool (has (world.worker w).log.applied (Group j u k)))

        stage_now : StageIsDone u
        unfolding MovesAreDone StageIsDone
        stage_now = (moves_now.0, moves_now.1, applied)

      at_all_times : (v u : ℕ) → u < v → u ≤ bound → StageIsDone u
      at_all_times zero u l le = absurd (omega arith)
      at_all_times (suc v) u l le = stage_now u le (λ s q. at_all_times v s (omega arith) (omega arith))

      stage_closed : (t : ℕ) → t ≤ bound → IsClosed o (logs_of world) (Host j) t
      stage_closed t le = closed_host t le (λ u h. at_all_times (suc u) u (omega arith) (omega arith))

    -- stage after stage

    given_later : (j : ℕ) → ((u w : ℕ) → u ≤ bound → w < o.workers → IsDoneBy o w (world.worker w).log (Host j) u) → (w : ℕ) → w < o.workers → (x : Name) → IsOwedBy o w x → is_rec (suc j) x ≡ true → time_of o x ≤ bound → is_given o w (world.worker w).log x ≡ true
    given_later j done w l (Rec zero t k g) m e le = let z = eqb-true 0 (suc j) e in absurd (omega arith)
    given_later j done w l (Rec (suc i) t k g) m e le =
        let same : i ≡ j = (let z = eqb-true (suc i) (suc j) e in omega arith) in
        subst (λ (n : ℕ). In (Group n t g.0) (world.worker w).log.applied) (sym same)
        (done t w le l (Group j t g.0) (subst (λ (n : ℕ). In (Group n t g.0) (groups_of o n)) same (ok.records_given i t k g m.0.1)) (subst (λ (n : ℕ). is_owned o w (Group n t g.0) ≡ true) same (eq-eqb (group_owner o i t g.0) w m.1)) refl)
    given_later j done w l _ m e le = absurd (false≢true e)

    host_closed : (j t : ℕ) → t ≤ bound → IsClosed o (logs_of world) (Host j) t
    host_closed zero t le = stage_closed 0 (λ w l x m e k. given_first w l x m e) (λ t k. into_route_zero (λ c. IsClosed o (logs_of world) c t) (closed_source t)) t le
    host_closed (suc j) t le =
        stage_closed (suc j) (given_later j (λ u w k l. host_closed j u k w l (Host j) u stays (omega arith))) (λ t k. into_route_later (λ c. IsClosed o (logs_of world) c t) j (host_closed j t k)) t le

    -- answer rows

    sent_rows : (u : ℕ) → u ≤ bound → Sent is_row u
    unfolding Sent
    sent_rows u le w l x m e t = sent_unless_held w is_row x none m.0 e (given x m e t)
      where
        none : IsHeld o w (world.worker w).log is_row x → ⊥
        none h =
            let y = least_exists (IsHeld o w (world.worker w).log is_row) (is_held o w (world.worker w).log) o.rows (row_into o ok w (world.worker w)) (row_back o ok w (world.worker w)) x h in
            still w SendRow y.0 ((l, tt), y.1, tt, room w y.0 l y.1.0.1)

        given : (x : Name) → IsOwedBy o w x → is_row x ≡ true → time_of o x ≡ u → is_given o w (world.worker w).log x ≡ true
        given (Row t g) m e f =
            let j = o.stages - 1 in
            host_closed j t (omega arith) w l (Host j) t stays (omega arith) (Group j t g.0) (ok.rows_given t g m.0) (eq-eqb (group_owner o j t g.0) w m.1) refl
        given _ m e f = absurd (false≢true e)

    took_rows : (u : ℕ) → u ≤ bound → Taken is_row u
    took_rows u le = taken_from_sent is_row u (sent_rows u le)

    closed_upto : (at : Loc) (t : ℕ) → t ≤ bound → IsClosed o (logs_of world) at t
    unfolding Sent Taken
    closed_upto at t le w l a u r h =
        closed_from_feeders o (logs_of world) OutMail t (λ u h. took_rows u (omega arith))
        (into_out_mail (λ c. IsClosed o (logs_of world) c t) (closed_from_feeders o (logs_of world) OutRoute t (λ u h. sent_rows u (omega arith)) (into_out_route (λ c. IsClosed o (logs_of world) c t) (λ j. host_closed j t le))))
        w l a u (reach_on a at OutMail r (to_the_end at)) h

  -- control records, by time: in a paced job those of a time go out since the hosts have passed all control times below it

  sent_next : (t : ℕ) → ((u : ℕ) → u < t → Sent is_ctrl u) → Sent is_ctrl t
  unfolding Sent
  sent_next t sooner w l x m e f = sent_unless_held w is_ctrl x none m.0 e (given x m e)
    where
      given : (x : Name) → IsOwedBy o w x → is_ctrl x ≡ true → is_given o w (world.worker w).log x ≡ true
      given (Ctrl i v) m e = eq-eqb w 0 (sym m.1)
      given _ m e = absurd (false≢true e)

      not_sooner : (y : Name) → IsHeld o w (world.worker w).log is_ctrl y → time_of o x ≤ time_of o y
      not_sooner y h =
          ⊎_elim
          (λ (k : time_of o y < time_of o x).
          absurd (both_ways (has (world.worker w).log.sent y) h.3
          (sooner (time_of o y) (subst (λ (n : ℕ). time_of o y < n) f k) w l y (h.1, given_own o w (world.worker w).log (right.logs w l) y h.2) h.0 refl)))
          (λ (k : time_of o x ≤ time_of o y). k)
          (cases_lt (time_of o y) (time_of o x))

      below : (a b c : ℕ) → a < b → b ≤ c → c ≡ t → (s : ℕ) → s ≤ a → s < t
      below a b c p q r s k = omega arith

      none : IsHeld o w (world.worker w).log is_ctrl x → ⊥
      none h =
          let y = least_exists (IsControlDue o w (world.worker w).log) (is_control_due o w (world.worker w).log) (ctrl_names o) (control_into o ok w (world.worker w)) (control_back o ok w (world.worker w)) x (h, (λ paced. not_sooner)) in
          still w SendControl y.0 (
            (l, tt),
            y.1,
            (λ paced j i lj li less.
                let s = (control_at o i).time in
                passed w l (Host j) s (host_closed s (ok.controls_stop i li) (λ u k. sooner u (below s (time_of o y.0) (time_of o x) less (y.1.0.1 paced x h) f u k)) j s (omega arith))),
            room w y.0 l y.1.0.0.1,
          )

  sent_below : (v t : ℕ) → t < v → Sent is_ctrl t
  sent_below zero t l = absurd (omega arith)
  sent_below (suc v) t l = sent_next t (λ u k. sent_below v u (omega arith))

  sent_ctrl : (t : ℕ) → Sent is_ctrl t
  sent_ctrl t = sent_below (suc t) t (omega arith)

  all_closed : (at : Loc) (t : ℕ) → IsBeforeStop o.until t → IsClosed o (logs_of world) at t
  all_closed at t early = closed_upto t early (λ u k. sent_ctrl u) at t (omega arith)

  all_rows : (t : ℕ) → IsBeforeStop o.until t → Taken is_row t
  all_rows t early = took_rows t early (λ u k. sent_ctrl u) t (omega arith)

  -- all is over

  ended : (at : Loc) → HasEnded o.until (frontier_of o (posted_logs world) at)
  ended at = ended_from_passed o.until (frontier_of o (posted_logs world) at) (λ t early. passed_board at t (all_closed at t early))

  unwritten_before_stop : (x : Name) → IsUnwritten (world.worker 0).log x → IsBeforeStop o.until (time_of o x)
  unwritten_before_stop (Written t) h = ok.rows_stop (Row t h.0.0) ((right.logs 0 ok.some_worker).took_owed (Row t h.0.0) h.0.1).0
  unwritten_before_stop _ h = absurd h

  all_written : (t : ℕ) (g : Tag) → In (Row t g) o.rows → In (Written t) (world.worker 0).log.settled
  unfolding Taken
  all_written t g h =
      ⊎_elim
      (λ (q : has (world.worker 0).log.settled (Written t) ≡ true). q)
      (λ (q : has (world.worker 0).log.settled (Written t) ≡ false).
      let took = all_rows t (ok.rows_stop (Row t g) h) 0 ok.some_worker (Row t g) (h, refl) refl refl in
      let y = least_exists (IsUnwritten (world.worker 0).log) (λ z. not (has (world.worker 0).log.settled z)) (taken_times o (world.worker 0).log) (write_into o ok 0 (world.worker 0)) (write_back o ok 0 (world.worker 0)) (Written t) ((g, took), q) in
      absurd (still 0 Write y.0 ((ok.some_worker, tt), (refl, y.1), passed 0 ok.some_worker OutMail (time_of o y.0) (all_closed OutMail (time_of o y.0) (unwritten_before_stop y.0 y.1.0)), tt)))
      (cases_Bool (has (world.worker 0).log.settled (Written t)))

  pub finished : IsFinished o world
  finished =
      record {
        done = λ at h. (frontier_of o (posted_logs world) at, frontier_is o (posted_logs world) ok right.posted at, ended at);
        written = all_written;
      }

  pub worker_finished : (w : ℕ) → w < o.workers → WorkerIsFinished o world w
  worker_finished w l =
      record {
        done = λ at h. subst (HasEnded o.until) (sym (is_level w l at)) (ended at);
        written = λ e t g h. subst (λ (v : ℕ). In (Written t) (world.worker v).log.settled) (sym e) (all_written t g ((right.logs w l).took_owed (Row t g) h).0);
      }
