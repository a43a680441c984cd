-- The ends of one worker under a push and a pop.
use Rattle.std.proofs.Common.{◌≡◌, ◌≢◌, ℕ, List, [], ◌∷◌, ◌++◌, set, sym, refl, ap, ◌∙◌, append_assoc, subst, ⊎_elim, length-set, Some, slice_get, IsSomeAnd}
use Rattle.mp_mailbox.specs.Names.{Distinct, names_of}
use Rattle.mp_mailbox.specs.Standing.{AddsPushed, AddsPopped, PopsNew, KeepsEdge, KeepsOthers, IsFresh}
use Rattle.mp_mailbox.proofs.NameLists.{Distinct-begin, names_of-push}
use Rattle.mp_ruled.specs.Ends.{EndState, with_sent, with_got}
use Rattle.mp_ruled.specs.Own.{OwnState, OwnStands}
use Rattle.mp_ruled.specs.Posts.{HasEnds, RuledStands}
use Rattle.mp_ruled.proofs.Places.{set_cases}

pub is_some_and : {A : Type 0} (l : List A) (k : ℕ) (a : A) (P : A → Type 0) → slice_get l k ≡ Some a → P a → IsSomeAnd (slice_get l k) P
is_some_and l k a P at p = subst (λ o. IsSomeAnd o P) (sym at) p

module _ {M : Type 0} (worker : ℕ) (senders receivers : List (EndState M)) where
  pub sender_set : HasEnds worker senders receivers → (at : ℕ) (e e' : EndState M) → slice_get senders at ≡ Some e → e'.from ≡ e.from → e'.to ≡ e.to → HasEnds worker (set senders at e') receivers
  sender_set h at e e' here from to = record {
    square = h.square ∙ sym (length-set senders at e');
    pushes = λ k x is. let old = h.pushes at e here in ⊎_elim
        (λ (t : (k ≡ at) × (e' ≡ x)). (ap (λ (y : EndState M). y.from) (sym t.1) ∙ (from ∙ old.0), ap (λ (y : EndState M). y.to) (sym t.1) ∙ (to ∙ (old.1 ∙ sym t.0))))
        (λ (t : (k ≢ at) × (slice_get senders k ≡ Some x)). h.pushes k x t.1)
        (set_cases senders at k e' x is);
    pops = h.pops;
  }

  pub receiver_set : HasEnds worker senders receivers → (at : ℕ) (e e' : EndState M) → slice_get receivers at ≡ Some e → e'.from ≡ e.from → e'.to ≡ e.to → HasEnds worker senders (set receivers at e')
  receiver_set h at e e' here from to = record {
    square = length-set receivers at e' ∙ h.square;
    pushes = h.pushes;
    pops = λ k x is. let old = h.pops at e here in ⊎_elim
        (λ (t : (k ≡ at) × (e' ≡ x)). (ap (λ (y : EndState M). y.from) (sym t.1) ∙ (from ∙ (old.0 ∙ sym t.0)), ap (λ (y : EndState M). y.to) (sym t.1) ∙ (to ∙ old.1)))
        (λ (t : (k ≢ at) × (slice_get receivers k ≡ Some x)). h.pops k x t.1)
        (set_cases receivers at k e' x is);
  }

module _ {M N : Type 0} (names : M → List N) (worker : ℕ) (senders receivers : List (EndState M)) (own : OwnState M) where
  -- what the post stands for with these ends and these messages to itself
  abbrev Stands : List (EndState M) → List (EndState M) → OwnState M → ℕ → ℕ → List N → List N → Type 0
  Stands ss rs o = RuledStands names record { worker = worker; senders = ss; receivers = rs; own = o }

  abbrev Old : ℕ → ℕ → List N → List N → Type 0
  Old = Stands senders receivers own

  -- To and from another worker

  module _ (from to : ℕ) (e e' : EndState M) where
    abbrev Sent : ℕ → ℕ → List N → List N → Type 0
    Sent = Stands (set senders to e') receivers own

    abbrev Got : ℕ → ℕ → List N → List N → Type 0
    Got = Stands senders (set receivers from e') own

    pub sender_others : from ≡ worker → KeepsOthers Old Sent from to
    sender_others mine g u other pushed popped h = record {
      sent = λ x is far at. ⊎_elim
          (λ (t : (u ≡ to) × (e' ≡ x)). absurd (⊎_elim (λ n. n (is ∙ sym mine)) (λ n. n t.0) other))
          (λ (t : (u ≢ to) × (slice_get senders u ≡ Some x)). h.sent x is far t.1)
          (set_cases senders to u e' x at);
      got = h.got;
      own = h.own;
    }

    pub receiver_others : to ≡ worker → KeepsOthers Old Got from to
    receiver_others mine g u other pushed popped h = record {
      sent = h.sent;
      got = λ x is far at. ⊎_elim
          (λ (t : (g ≡ from) × (e' ≡ x)). absurd (⊎_elim (λ n. n t.0) (λ n. n (is ∙ sym mine)) other))
          (λ (t : (g ≢ from) × (slice_get receivers g ≡ Some x)). h.got x is far t.1)
          (set_cases receivers from g e' x at);
      own = h.own;
    }

    -- the sender's end now knows so many more names
    sender_more : (more : List N) → from ≡ worker → to ≢ worker → slice_get senders to ≡ Some e → names_of names e'.sent ≡ names_of names e.sent ++ more → (pushed popped : List N) → Old from to pushed popped → Sent from to (pushed ++ more) popped
    sender_more more mine far here grows pushed popped h = record {
      sent = λ x is _ at. ⊎_elim
          (λ (t : (to ≡ to) × (e' ≡ x)). ap (λ l. l ++ more) (h.sent e mine far here) ∙ (sym grows ∙ ap (λ (y : EndState M). names_of names y.sent) t.1))
          (λ (t : (to ≢ to) × (slice_get senders to ≡ Some x)). absurd (t.0 refl))
          (set_cases senders to to e' x at);
      got = h.got;
      own = λ _ near. absurd (far near);
    }

    receiver_more : (more : List N) → to ≡ worker → from ≢ worker → slice_get receivers from ≡ Some e → names_of names e'.got ≡ names_of names e.got ++ more → (pushed popped : List N) → Old from to pushed popped → Got from to pushed (popped ++ more)
    receiver_more more mine far here grows pushed popped h = record {
      sent = h.sent;
      got = λ x is _ at. ⊎_elim
          (λ (t : (from ≡ from) × (e' ≡ x)). ap (λ l. l ++ more) (h.got e mine far here) ∙ (sym grows ∙ ap (λ (y : EndState M). names_of names y.got) t.1))
          (λ (t : (from ≢ from) × (slice_get receivers from ≡ Some x)). absurd (t.0 refl))
          (set_cases receivers from from e' x at);
      own = λ near _. absurd (far near);
    }

    pub sends : (m : M) → from ≡ worker → to ≢ worker → slice_get senders to ≡ Some e → e' ≡ with_sent e m → AddsPushed Old Sent from to (names m)
    sends m mine far here is pushed popped h once =
        sender_more (names m) mine far here (ap (λ (y : EndState M). names_of names y.sent) is ∙ names_of-push names e.sent m) pushed popped h

    pub gets : (m : M) → to ≡ worker → from ≢ worker → slice_get receivers from ≡ Some e → e' ≡ with_got e m → AddsPopped Old Got from to (names m)
    gets m mine far here is pushed popped h =
        receiver_more (names m) mine far here (ap (λ (y : EndState M). names_of names y.got) is ∙ names_of-push names e.got m) pushed popped h

    pub sender_kept : from ≡ worker → to ≢ worker → slice_get senders to ≡ Some e → e' ≡ e → KeepsEdge Old Sent from to
    sender_kept mine far here is pushed popped h = record {
      sent = λ x _ _ at. ⊎_elim
          (λ (t : (to ≡ to) × (e' ≡ x)). h.sent e mine far here ∙ ap (λ (y : EndState M). names_of names y.sent) (sym is ∙ t.1))
          (λ (t : (to ≢ to) × (slice_get senders to ≡ Some x)). absurd (t.0 refl))
          (set_cases senders to to e' x at);
      got = h.got;
      own = h.own;
    }

    pub receiver_kept : to ≡ worker → from ≢ worker → slice_get receivers from ≡ Some e → e' ≡ e → KeepsEdge Old Got from to
    receiver_kept mine far here is pushed popped h = record {
      sent = h.sent;
      got = λ x _ _ at. ⊎_elim
          (λ (t : (from ≡ from) × (e' ≡ x)). h.got e mine far here ∙ ap (λ (y : EndState M). names_of names y.got) (sym is ∙ t.1))
          (λ (t : (from ≢ from) × (slice_get receivers from ≡ Some x)). absurd (t.0 refl))
          (set_cases receivers from from e' x at);
      own = h.own;
    }

    -- what the post's caller says of fresh names, for the end
    pub sender_fresh : (m : M) → from ≡ worker → to ≢ worker → slice_get senders to ≡ Some e → IsFresh Old from to (names m) → Distinct (names_of names (e.sent ++ m ∷ []))
    sender_fresh m mine far here (pushed, popped, h, once) =
        subst (λ l. Distinct l) (ap (λ l. l ++ names m) (h.sent e mine far here) ∙ sym (names_of-push names e.sent m)) once

    pub receiver_new : (m : M) → to ≡ worker → from ≢ worker → slice_get receivers from ≡ Some e → Distinct (names_of names (e.got ++ m ∷ [])) → PopsNew Old from to (names m)
    receiver_new m mine far here once pushed popped h =
        subst (λ l. Distinct l) (names_of-push names e.got m ∙ ap (λ l. l ++ names m) (sym (h.got e mine far here))) once

  -- To itself

  module _ (from to : ℕ) (own' : OwnState M) (sends_it : from ≡ worker) (gets_it : to ≡ worker) where
    abbrev Own : ℕ → ℕ → List N → List N → Type 0
    Own = Stands senders receivers own'

    -- on its own edge it stands for what went through its own queue, and on no other
    own_edge : (pushed popped : List N) → OwnStands names own'.waiting pushed popped → Own from to pushed popped
    own_edge pushed popped stands = record {
      sent = λ _ _ far _. absurd (far gets_it);
      got = λ _ _ far _. absurd (far sends_it);
      own = λ _ _. stands;
    }

    pub own_others : KeepsOthers Old Own from to
    own_others g u other pushed popped h = record {
      sent = h.sent;
      got = h.got;
      own = λ a b. absurd (⊎_elim (λ n. n (a ∙ sym sends_it)) (λ n. n (b ∙ sym gets_it)) other);
    }

    pub own_kept : own' ≡ own → KeepsEdge Old Own from to
    own_kept is pushed popped h = own_edge pushed popped (subst (λ (o : OwnState M). OwnStands names o.waiting pushed popped) (sym is) (h.own sends_it gets_it))

    pub own_sends : (m : M) → own'.waiting ≡ own.waiting ++ m ∷ [] → AddsPushed Old Own from to (names m)
    own_sends m grows pushed popped h once =
        let stood = h.own sends_it gets_it in
        own_edge (pushed ++ names m) popped (record {
          whole = ap (λ l. l ++ names m) stood.whole
              ∙ (append_assoc popped (names_of names own.waiting) (names m)
              ∙ ap (λ l. popped ++ l) (sym (ap (names_of names) grows ∙ names_of-push names own.waiting m)));
          once = once;
        })

    -- what was popped before, and now this message, is a beginning of what was pushed
    popped_one : (m : M) → own.waiting ≡ m ∷ own'.waiting → (pushed popped : List N) → Old from to pushed popped → pushed ≡ (popped ++ names m) ++ names_of names own'.waiting
    popped_one m leaves pushed popped h =
        (h.own sends_it gets_it).whole ∙ (ap (λ q. popped ++ names_of names q) leaves ∙ sym (append_assoc popped (names m) (names_of names own'.waiting)))

    pub own_gets : (m : M) → own.waiting ≡ m ∷ own'.waiting → AddsPopped Old Own from to (names m)
    own_gets m leaves pushed popped h =
        own_edge pushed (popped ++ names m) (record { whole = popped_one m leaves pushed popped h; once = (h.own sends_it gets_it).once })

    pub own_new : (m : M) → own.waiting ≡ m ∷ own'.waiting → PopsNew Old from to (names m)
    own_new m leaves pushed popped h =
        Distinct-begin (popped ++ names m) (names_of names own'.waiting) (subst (λ l. Distinct l) (popped_one m leaves pushed popped h) (h.own sends_it gets_it).once)
