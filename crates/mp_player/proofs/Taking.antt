-- Messages that are taken.
use Rattle.std.proofs.Common.{◌≡◌, ◌⊎◌, ℕ, suc, ◌<◌, true, List, [], ◌∷◌, ◌++◌, length, get_or, Option, None, Some, refl, sym, ap, ◌∙◌, subst, ⊎_elim, Global}
use Rattle.std.proofs.lemmas.Bool.{cases_eq}
use Rattle.std.specs.List.{slice_get}
use Rattle.std.specs.Prelude.{IfSome, IfNone}
use Rattle.std.specs.declared.vec.Vec.{Vec}
use Rattle.mp_names.specs.declared.names.Name.{Name}
use Rattle.mp_names.specs.declared.kinds.Kind.{Kind}
use Rattle.mp_names.specs.declared.kinds.Kind.TheVariants.{Receive}
use Rattle.mp_names.specs.Outlines.{Outline, time_of}
use Rattle.mp_machine.specs.Worlds.{World}
use Rattle.mp_machine.specs.Messages.{first_message}
use Rattle.mp_machine.specs.Steps.{CanStep, names_of, popped, rest_of, stepped}
use Rattle.mp_machine.proofs.Puts.{popped_at, popped_elsewhere}
use Rattle.mp_stamps.specs.Seen.{seen_at}
use Rattle.mp_stamps.specs.declared.seen.Seen.{Seen}
use Rattle.mp_player_laws.specs.Numbers.{Numbers, numbers_of}
use Rattle.mp_player_laws.proofs.Rising.{numbers_rise}
use Rattle.mp_chart.specs.declared.work.Work.{Work}
use Rattle.mp_chart.specs.Entries.{entry_of}
use Rattle.mp_standing.specs.declared.held.Held.{Held}
use Rattle.mp_standing.specs.declared.message.Message.{Message}
use Rattle.mp_standing.specs.Boxes.{box_of, with_box}
use Rattle.mp_standing.specs.Messages.{AreMessagesOf}
use Rattle.mp_standing.specs.declared.done.Done.{Done}
use Rattle.mp_standing.specs.declared.standing.Standing.{Standing}
use Rattle.mp_standing.specs.Numbers.{done_at, AreNumbers}
use Rattle.mp_standing.specs.Standings.{Stands, AreHeld, IsWorkDone}
use Rattle.mp_standing.specs.Advancing.{IsReached}
use Rattle.mp_standing.proofs.After.{held_still}
use Rattle.mp_standing.proofs.Advanced.{reached_right, stands_there, work_since, has_changed, new_log}
use Rattle.mp_player.specs.Shows.{IsMailOf, Shows, IsNextMessage}
use Rattle.mp_player.specs.declared.state.State.{State}
use Rattle.mp_player.proofs.Mails.{Matches, one_less, box_there, box_elsewhere}

pub if_some : {X : Type 0} (P : X → Type 0) (r : Option X) → ((x : X) → r ≡ Some x → P x) → IfSome r P
if_some P None h = tt
if_some P (Some x) h = h x refl

pub if_none : {X : Type 0} (P : Type 0) (r : Option X) → (r ≡ None → P) → IfNone r P
if_none P None h = h refl
if_none P (Some x) h = tt

-- the oldest message
first_waits : (o : Outline) (ms : List Message) (messages : List (List Name)) (m : Message) → AreMessagesOf o ms messages → slice_get ms 0 ≡ Some m → (x : Name) × (rest : List Name) × (others : List (List Name)) × (messages ≡ (x ∷ rest) ∷ others) × (m.first ≡ entry_of o x) × (m.count ≡ suc (length rest))
first_waits o [] messages m a e = absurd (cc)
first_waits o (n ∷ ms) ((x ∷ xs) ∷ messages) m a e = let same : n ≡ m = cc in (x, xs, messages, refl, ap (λ (k : Message). k.first) (sym same) ∙ a.0.0, ap (λ (k : Message). k.count) (sym same) ∙ a.0.1)
first_waits o (n ∷ ms) ([] ∷ messages) m a e = absurd a.0
first_waits o (n ∷ ms) [] m a e = absurd a

none_waits : (o : Outline) (ms : List Message) (x : Name) (rest : List Name) (others : List (List Name)) → AreMessagesOf o ms ((x ∷ rest) ∷ others) → slice_get ms 0 ≡ None → ⊥
none_waits o [] x rest others a e = a
none_waits o (n ∷ ms) x rest others a e = absurd (cc)

module _ (o : Outline) (depth : ℕ) (world : World) (state : State) (shows : Shows o depth state world) (w v : ℕ) where
  pub next_waits : w < o.workers → v < o.workers → (m : Message) → slice_get (box_of state.mail v w) 0 ≡ Some m → IsNextMessage o depth w v world m
  next_waits l k m e =
      let f = first_waits o (box_of state.mail v w) (world.mailbox v w) m (shows.mail v w) e in
      record {
        name = f.0;
        first = f.4;
        count = f.5 ∙ sym (ap (λ (messages : List (List Name)). length (first_message messages)) f.3);
        can = ((l, k), tt, tt, (f.1, f.2, f.3));
      }

  pub nothing_waits : slice_get (box_of state.mail v w) 0 ≡ None → (x : Name) → CanStep o depth world w (Receive v) x → ⊥
  nothing_waits e x can = none_waits o (box_of state.mail v w) x can.3.0 can.3.1 (subst (AreMessagesOf o (box_of state.mail v w)) can.3.2 (shows.mail v w)) e

-- the numbers stay
numbers_stay : (o : Outline) (v : ℕ) (old new : Done) (n : Numbers) → AreNumbers o old n → ((k : Kind) → (k ≡ Receive v → ⊥) → done_at new k ≡ done_at old k) → AreNumbers o new n
numbers_stay o v old new n are others (Receive u) fits = refl
numbers_stay o v old new n are others k fits = others k (λ e. cc) ∙ are k fits

-- What a message that is taken has changed in a standing
pub record HasTaken (v : ℕ) (work : Work) (old new : Standing) : Type 0 where
  pub others : (k : Kind) → (k ≡ Receive v → ⊥) → done_at new.done k ≡ done_at old.done k
  pub since : new.since.items ≡ old.since.items ++ work ∷ []
  pub changed : new.changed ≡ true
  pub held : new.held ≡ old.held
  pub seen : new.seen ≡ old.seen

pub stands_received :
    (o : Outline) (depth : ℕ) (world : World) (reached : IsReached o depth world) (w v : ℕ) (x : Name) (can : CanStep o depth world w (Receive v) x) (old new : Standing) (work : Work) (n : ℕ)
    → n ≡ length (names_of o world w (Receive v) x)
    → IsWorkDone (Receive v) x (time_of o x) n work
    → HasTaken v work old new
    → Stands o w old (world.worker w)
    → Stands o w new ((stepped o world w (Receive v) x).worker w)
stands_received o depth world reached w v x can old new work n many is taken s =
    stands_there o depth world reached w (Receive v) x can new
    (record {
      done = subst (AreNumbers o new.done) (sym (numbers_rise o reached.sound depth world w (Receive v) x can)) (numbers_stay o v old.done new.done (numbers_of (world.worker w).log) s.done taken.others);
      few = s.few;
      stages = ap (λ (h : Vec Held Global). length h.items) taken.held ∙ s.stages;
      held = λ j low.
          subst (λ (h : Vec Held Global). AreHeld o w (new_log o depth world reached w (Receive v) x can) j (get_or h.items j [])) (sym taken.held)
          (held_still o reached.sound depth world w ((reached_right o depth world reached).logs w can.0.0) (Receive v) x can j (λ y i r. r) (λ y i g. g) (get_or old.held.items j []) (s.held j low));
      seen_stages = ap (λ (k : Seen). k.stages) taken.seen ∙ s.seen_stages;
      seen = λ a l. ap (λ (k : Seen). seen_at k a) taken.seen ∙ s.seen a l;
      version = ap (λ (k : Seen). k.version) taken.seen ∙ s.version;
      changed = has_changed o depth world reached w (Receive v) x can new.changed taken.changed;
      since = work_since o depth world reached w (Receive v) x can old work n (sym many) is s new.since.items taken.since;
    })

-- the mail once a message is taken
pub taken_matches : (o : Outline) (mail : List (List (List Message))) (mailbox : ℕ → ℕ → List (List Name)) (v w : ℕ) → IsMailOf o.workers mail → v < o.workers → w < o.workers → Matches o mail mailbox → Matches o (with_box mail v w (rest_of (box_of mail v w))) (popped v w mailbox)
taken_matches o mail mailbox v w is low inside match a b = pick (cases_eq a v) (cases_eq b w)
  where
    there : AreMessagesOf o (box_of (with_box mail v w (rest_of (box_of mail v w))) v w) (popped v w mailbox v w)
    there =
        subst (λ (ms : List Message). AreMessagesOf o ms (popped v w mailbox v w)) (sym (box_there o.workers mail v w (rest_of (box_of mail v w)) is low inside))
        (subst (AreMessagesOf o (rest_of (box_of mail v w))) (sym (popped_at v w mailbox)) (one_less o (box_of mail v w) (mailbox v w) (match v w)))

    elsewhere : (a ≡ v → b ≡ w → ⊥) → AreMessagesOf o (box_of (with_box mail v w (rest_of (box_of mail v w))) a b) (popped v w mailbox a b)
    elsewhere n =
        subst (λ (ms : List Message). AreMessagesOf o ms (popped v w mailbox a b)) (sym (box_elsewhere o.workers mail v w (rest_of (box_of mail v w)) is low a b n))
        (subst (AreMessagesOf o (box_of mail a b)) (sym (popped_elsewhere v w mailbox a b n)) (match a b))

    pick : (a ≡ v) ⊎ (a ≡ v → ⊥) → (b ≡ w) ⊎ (b ≡ w → ⊥) → AreMessagesOf o (box_of (with_box mail v w (rest_of (box_of mail v w))) a b) (popped v w mailbox a b)
    pick p q =
        ⊎_elim
        (λ (e : a ≡ v).
        ⊎_elim
        (λ (f : b ≡ w). subst (λ (k : ℕ). AreMessagesOf o (box_of (with_box mail v w (rest_of (box_of mail v w))) k b) (popped v w mailbox k b)) (sym e) (subst (λ (k : ℕ). AreMessagesOf o (box_of (with_box mail v w (rest_of (box_of mail v w))) v k) (popped v w mailbox v k)) (sym f) there))
        (λ (d : b ≡ w → ⊥). elsewhere (λ r t. d t))
        q)
        (λ (d : a ≡ v → ⊥). elsewhere (λ r t. d r))
        p
