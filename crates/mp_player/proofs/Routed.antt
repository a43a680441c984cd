-- A state shows the world after records are routed.
use Rattle.std.proofs.Common.{◌≡◌, ℕ, ◌<◌, ◌≤◌, true, List, [], ◌∷◌, ◌++◌, length, drop, get_or, set, Some, refl, sym, ap, ◌∙◌, subst, ⊎_elim, arith}
use Rattle.std.proofs.lemmas.Bool.{false≢true, eqb-true, cases_lt}
use Rattle.std.proofs.lemmas.List.{get_or_past, length-set}
use Rattle.std.specs.List.{slice_get}
use Rattle.mp_names.specs.declared.names.Name.{Name}
use Rattle.mp_names.specs.declared.names.Name.TheVariants.{Rec}
use Rattle.mp_names.specs.declared.kinds.Kind.{Kind}
use Rattle.mp_names.specs.declared.kinds.Kind.TheVariants.{Route}
use Rattle.mp_names.specs.declared.locations.Loc.TheVariants.{CtlMail}
use Rattle.mp_names.specs.declared.locations.Frontier.{Frontier}
use Rattle.mp_names.specs.Names.{IsLeast, is_rec}
use Rattle.mp_names.specs.Frontiers.{HasPassed}
use Rattle.mp_names.specs.Keeping.{IsHeld}
use Rattle.mp_names.specs.Outlines.{Outline, time_of, receiver}
use Rattle.mp_names.proofs.Orders.{least_unique}
use Rattle.mp_machine.specs.Worlds.{World}
use Rattle.mp_machine.specs.Steps.{CanStep, names_of, pushed, stepped}
use Rattle.mp_machine.proofs.Messages.{bundle_held, bundle_begins}
use Rattle.mp_stamps.specs.Seen.{seen_at}
use Rattle.mp_stamps.specs.declared.seen.Seen.{Seen}
use Rattle.mp_player_laws.specs.Numbers.{Numbers, numbers_of}
use Rattle.mp_player_laws.proofs.Rising.{numbers_rise}
use Rattle.mp_chart.specs.declared.work.Work.{Work}
use Rattle.mp_chart.specs.declared.entry.Entry.{Entry}
use Rattle.mp_chart.specs.Entries.{entry_of}
use Rattle.mp_standing.specs.declared.message.Message.{Message}
use Rattle.mp_standing.specs.Boxes.{box_of, with_box}
use Rattle.mp_standing.specs.Messages.{IsMessageOf}
use Rattle.mp_standing.specs.declared.done.Done.{Done}
use Rattle.mp_standing.specs.declared.standing.Standing.{Standing}
use Rattle.mp_standing.specs.Numbers.{done_at, AreNumbers}
use Rattle.mp_standing.specs.Standings.{Stands, AreHeld, IsWorkDone}
use Rattle.mp_standing.specs.Advancing.{IsReached}
use Rattle.mp_standing.proofs.After.{at_stage, held_still}
use Rattle.mp_standing.proofs.Advanced.{reached_right, stands_there, work_since, has_changed, new_log}
use Rattle.mp_player.specs.Shows.{Shows, IsMailOf}
use Rattle.mp_player.specs.declared.state.State.{State}
use Rattle.mp_player.proofs.Mails.{Matches, as_long, sent_matches, still_mail}
use Rattle.mp_player.specs.Routing.{IsFirstBundle, IsNextBundle, records_to, run_of, without_first}
use Rattle.mp_player.proofs.Bundles.{least_held, none_held, counted, inside, routed_held}

-- the numbers stay
numbers_stay : (o : Outline) (j : ℕ) (old new : Done) (n : Numbers) → AreNumbers o old n → ((k : Kind) → (k ≡ Route j → ⊥) → done_at new k ≡ done_at old k) → AreNumbers o new n
numbers_stay o j old new n are others (Route i) fits = refl
numbers_stay o j old new n are others k fits = others k (λ e. cc) ∙ are k fits

-- What records that are routed have changed in a standing
pub record HasRouted (j v count : ℕ) (work : Work) (old new : Standing) : Type 0 where
  pub others : (k : Kind) → (k ≡ Route j → ⊥) → done_at new.done k ≡ done_at old.done k
  pub since : new.since.items ≡ old.since.items ++ work ∷ []
  pub changed : new.changed ≡ true
  pub held : new.held.items ≡ without_first old.held.items j v count
  pub seen : new.seen ≡ old.seen

one_stage : (i j : ℕ) (y : Name) → is_rec i y ≡ true → is_rec j y ≡ true → i ≡ j
one_stage i j (Rec a t k g) p q = sym (eqb-true a i p) ∙ eqb-true a j q
one_stage i j _ p q = absurd (false≢true p)

module _ (o : Outline) (depth : ℕ) (world : World) (reached : IsReached o depth world) (w j : ℕ) (x : Name) (can : CanStep o depth world w (Route j) x) where
  held_after : (old : List (List (List Entry))) → length old ≡ o.stages → ((i : ℕ) → i < o.stages → AreHeld o w (world.worker w).log i (get_or old i [])) → (n : ℕ) → n ≡ length (names_of o world w (Route j) x) → (i : ℕ) → i < o.stages → AreHeld o w (new_log o depth world reached w (Route j) x can) i (get_or (without_first old j (receiver o x) n) i [])
  held_after old long held n many =
      let ok = reached.sound in
      let good = (reached_right o depth world reached).logs w can.0.0 in
      let v = receiver o x in
      at_stage o ok depth world w good (new_log o depth world reached w (Route j) x can) old j (set (get_or old j []) v (drop n (records_to (get_or old j []) v))) long
      (λ i d low. held_still o ok depth world w good (Route j) x can i (λ y is r. d (one_stage i j y is (bundle_held o ok w (world.worker w) j x y r).0)) (λ y is g. g) (get_or old i []) (held i low))
      (λ low.
      subst (λ (m : ℕ). AreHeld o w (new_log o depth world reached w (Route j) x can) j (set (get_or old j []) v (drop m (records_to (get_or old j []) v)))) (sym many)
      (routed_held o ok depth world w good j x can (get_or old j []) (held j low)))

  pub stands_routed :
      (old new : Standing) (work : Work) (n : ℕ)
      → n ≡ length (names_of o world w (Route j) x)
      → IsWorkDone (Route j) x (time_of o x) n work
      → HasRouted j (receiver o x) n work old new
      → Stands o w old (world.worker w)
      → Stands o w new ((stepped o world w (Route j) x).worker w)
  stands_routed old new work n many is routed s =
      stands_there o depth world reached w (Route j) x can new
      (record {
        done = subst (AreNumbers o new.done) (sym (numbers_rise o reached.sound depth world w (Route j) x can)) (numbers_stay o j old.done new.done (numbers_of (world.worker w).log) s.done routed.others);
        few = s.few;
        stages = ap length routed.held ∙ length-set old.held.items j _ ∙ s.stages;
        held = λ i low.
            subst (λ (l : List (List (List Entry))). AreHeld o w (new_log o depth world reached w (Route j) x can) i (get_or l i [])) (sym routed.held)
            (held_after old.held.items s.stages s.held n many i low);
        seen_stages = ap (λ (k : Seen). k.stages) routed.seen ∙ s.seen_stages;
        seen = λ a l. ap (λ (k : Seen). seen_at k a) routed.seen ∙ s.seen a l;
        version = ap (λ (k : Seen). k.version) routed.seen ∙ s.version;
        changed = has_changed o depth world reached w (Route j) x can new.changed routed.changed;
        since = work_since o depth world reached w (Route j) x can old work n (sym many) is s new.since.items routed.since;
      })

  -- the mail once the message is sent
  pub routed_mail : (m : Message) → m.first ≡ entry_of o x → m.count ≡ length (names_of o world w (Route j) x) → (mail : List (List (List Message))) → IsMailOf o.workers mail → Matches o mail world.mailbox → Matches o (with_box mail w m.first.receiver (box_of mail w m.first.receiver ++ m ∷ [])) (stepped o world w (Route j) x).mailbox × IsMailOf o.workers (with_box mail w m.first.receiver (box_of mail w m.first.receiver ++ m ∷ []))
  routed_mail m first count mail is match =
      let ok = reached.sound in
      let names = names_of o world w (Route j) x in
      let b = bundle_begins o ok w (world.worker w) j x can.1 in
      let message : IsMessageOf o m names = subst (IsMessageOf o m) (sym b.1) (first, count ∙ ap length b.1) in
      subst (λ (e : Entry). Matches o (with_box mail w e.receiver (box_of mail w e.receiver ++ m ∷ [])) (pushed w (receiver o x) names world.mailbox) × IsMailOf o.workers (with_box mail w e.receiver (box_of mail w e.receiver ++ m ∷ []))) (sym first) (
        sent_matches o mail world.mailbox w (receiver o x) m names is can.0.0 (inside o ok w (world.worker w) j x can.1) message match,
        still_mail o.workers mail w (receiver o x) _ is can.0.0,
      )

-- the next message

module _ (o : Outline) (depth : ℕ) (world : World) (state : State) (shows : Shows o depth state world) (w : ℕ) (s : Standing) (there : slice_get state.standings.items w ≡ Some s) (j : ℕ) where
  stands : Stands o w s (world.worker w)
  stands = shows.each w s there

  abbrev IsLeastHeld : Name → Type 0
  IsLeastHeld x = IsLeast (IsHeld o w (world.worker w).log (is_rec j)) x

  pub none_first : ((v : ℕ) → records_to (get_or s.held.items j []) v ≡ []) → (x : Name) → CanStep o depth world w (Route j) x → ⊥
  none_first none x can = none_held o shows.reached.sound w (world.worker w) j (get_or s.held.items j []) (stands.held j can.0.1) none x can.1.0

  module _ (m : Message) (most : ℕ) (bundle : most ≡ o.bundle) (first : IsFirstBundle (get_or s.held.items j []) most m) where
    stage : j < o.stages
    stage =
        ⊎_elim
        (λ (l : j < o.stages). l)
        (λ (l : o.stages ≤ j).
        let long = stands.stages in
        let none : get_or s.held.items j [] ≡ [] = get_or_past s.held.items j [] (omega arith) in
        let e = ap (λ (h : List (List Entry)). slice_get (records_to h first.least.0.0) 0) none in
        let f = first.least.0.1 in
        absurd (cc))
        (cases_lt j o.stages)

    least : (x : Name) × (m.first ≡ entry_of o x) × IsLeastHeld x
    least = least_held o shows.reached.sound w (world.worker w) j (get_or s.held.items j []) (stands.held j stage) m.first first.least

    only : (x : Name) → CanStep o depth world w (Route j) x → m.first ≡ entry_of o x
    only x can = let l = least in l.1 ∙ ap (entry_of o) (least_unique (IsHeld o w (world.worker w).log (is_rec j)) l.0 x l.2 can.1)

    room_of : (x : Name) → m.first ≡ entry_of o x → length (box_of state.mail w m.first.receiver) ≡ length (world.mailbox w (receiver o x))
    room_of x e = as_long o (box_of state.mail w m.first.receiver) (world.mailbox w m.first.receiver) (shows.mail w m.first.receiver) ∙ ap (λ (f : Entry). length (world.mailbox w f.receiver)) e

    pub none_passed : (HasPassed (seen_at s.seen CtlMail) m.first.time → ⊥) → (x : Name) → CanStep o depth world w (Route j) x → ⊥
    none_passed not x can =
        let time : time_of o x ≡ m.first.time = ap (λ (f : Entry). f.time) (sym (only x can)) in
        not (subst (λ (f : Frontier). HasPassed f m.first.time) (sym (stands.seen CtlMail tt)) (subst (HasPassed ((world.worker w).seen CtlMail)) time can.2))

    pub none_room : (length (box_of state.mail w m.first.receiver) < depth → ⊥) → (x : Name) → CanStep o depth world w (Route j) x → ⊥
    none_room not x can = not (subst (λ (n : ℕ). n < depth) (sym (room_of x (only x can))) can.3)

    pub next_found : w < o.workers → HasPassed (seen_at s.seen CtlMail) m.first.time → length (box_of state.mail w m.first.receiver) < depth → IsNextBundle o depth w j world m
    next_found low passed room =
        let l = least in
        let x = l.0 in
        let ok = shows.reached.sound in
        let into = inside o ok w (world.worker w) j x l.2 in
        let number = counted o ok w (world.worker w) j x l.2 (get_or s.held.items j []) (stands.held j stage) most bundle into in
        let time : m.first.time ≡ time_of o x = ap (λ (f : Entry). f.time) l.1 in
        record {
          name = x;
          first = l.1;
          count = first.count ∙ ap (λ (e : Entry). run_of (records_to (get_or s.held.items j []) e.receiver) e.time most) l.1 ∙ number;
          can = ((low, stage), l.2, subst (HasPassed ((world.worker w).seen CtlMail)) time (subst (λ (f : Frontier). HasPassed f m.first.time) (stands.seen CtlMail tt) passed), subst (λ (n : ℕ). n < depth) (room_of x l.1) room);
        }
