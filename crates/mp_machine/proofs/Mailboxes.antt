-- Mailboxes keep order: what was taken and what waits is what was sent.
use Rattle.std.proofs.Common.{◌≡◌, ℕ, ◌+◌, ◌<◌, ◌≤◌, ◌⊎◌, ◌==◌, Bool, true, false, ◌||◌, List, [], ◌∷◌, ◌++◌, length, filter, refl, sym, ap, ◌∙◌, subst, inl, inr, ⊎_elim, append_assoc, append-nil, arith, length-append}
use Rattle.std.proofs.lemmas.Bool.{eqb-true, eq-eqb, ne_eqb, both_ways, false_from_ne_true, cases_eq, cond-true, cond-false, or_cases}
use Rattle.std.proofs.lemmas.List.Elements.{All-append, All-cons, All-nil, All-tail, filter-append}
use Rattle.std.proofs.lemmas.Grind.{flat_map-append}
use Rattle.std.specs.List.{All}
use Rattle.mp_names.specs.declared.names.Name.{Name}
use Rattle.mp_names.specs.Names.{same_name, has, In, Distinct}
use Rattle.mp_names.specs.Outlines.{Outline, OutlineIsSound, sender, receiver, IsOwed, IsOwedTo}
use Rattle.mp_names.specs.Logs.{Log, LogIsLegal}
use Rattle.mp_names.proofs.Lists.{same_name-true, In_here, In_later, In_right, In_left, In_append, In_filter, filter_In, Distinct_filter}
use Rattle.mp_names.proofs.Listed.{edges}
use Rattle.mp_machine.specs.Worlds.{Worker, World, put}
use Rattle.mp_machine.specs.Messages.{joined, IsMessage}
use Rattle.mp_machine.specs.Steps.{rest_of, pushed, popped}
use Rattle.mp_machine.proofs.Puts.{put_here, put_other, put_all, popped_at, popped_elsewhere}

abbrev pub from : Outline → ℕ → List Name → List Name
from o v xs = filter (λ x. sender o x == v) xs

abbrev pub to : Outline → ℕ → List Name → List Name
to o w xs = filter (λ x. receiver o x == w) xs

pub record MailIsInOrder (o : Outline) (depth : ℕ) (world : World) : Type 0 where
  pub order : (v w : ℕ) → v < o.workers → w < o.workers → from o v (world.worker w).log.took ++ joined (world.mailbox v w) ≡ to o w (world.worker v).log.sent
  pub room : (v w : ℕ) → v < o.workers → w < o.workers → length (world.mailbox v w) ≤ depth
  pub messages : (v w : ℕ) → v < o.workers → w < o.workers → All (IsMessage o) (world.mailbox v w)

-- lists

-- the names of which each passes the test, and of which none does, behind others
filter_all : (p : Name → Bool) (xs ys : List Name) → ((y : Name) → In y ys → p y ≡ true) → filter p (xs ++ ys) ≡ filter p xs ++ ys
filter_all p xs ys h = filter-append p xs ys ∙ ap (λ (l : List Name). filter p xs ++ l) (whole ys h)
  where
    whole : (ys : List Name) → ((y : Name) → In y ys → p y ≡ true) → filter p ys ≡ ys
    whole [] h = refl
    whole (y ∷ ys) h = cond-true (p y) (y ∷ filter p ys) (filter p ys) (h y (In_here y ys)) ∙ ap (λ (l : List Name). y ∷ l) (whole ys (λ z i. h z (In_later z y ys i)))

filter_none : (p : Name → Bool) (xs ys : List Name) → ((y : Name) → In y ys → p y ≡ false) → filter p (xs ++ ys) ≡ filter p xs
filter_none p xs ys h = filter-append p xs ys ∙ ap (λ (l : List Name). filter p xs ++ l) (none ys h) ∙ append-nil (filter p xs)
  where
    none : (ys : List Name) → ((y : Name) → In y ys → p y ≡ false) → filter p ys ≡ []
    none [] h = refl
    none (y ∷ ys) h = cond-false (p y) (y ∷ filter p ys) (filter p ys) (h y (In_here y ys)) ∙ none ys (λ z i. h z (In_later z y ys i))

joined_push : (messages : List (List Name)) (xs : List Name) → joined (messages ++ xs ∷ []) ≡ joined messages ++ xs
joined_push messages xs = flat_map-append (λ xs. xs) messages (xs ∷ []) ∙ ap (λ (l : List Name). joined messages ++ l) (append-nil xs)

-- where each name stands once, the later part has none of the earlier
pub once_apart : (xs ys : List Name) (y : Name) → Distinct (xs ++ ys) → In y ys → has xs y ≡ false
once_apart [] ys y d i = refl
once_apart (x ∷ xs) ys y d i =
    false_from_ne_true (same_name x y || has xs y) (λ h.
    ⊎_elim
    (λ (e : same_name x y ≡ true). both_ways (has (xs ++ ys) x) d.0 (In_right x xs ys (subst (λ (z : Name). In z ys) (sym (same_name-true x y e)) i)))
    (λ (e : has xs y ≡ true). both_ways (has xs y) (once_apart xs ys y d.1 i) e)
    (or_cases (same_name x y) (has xs y) h))

right_once : (xs ys : List Name) → Distinct (xs ++ ys) → Distinct ys
right_once [] ys d = d
right_once (x ∷ xs) ys d = right_once xs ys d.1

module _ (o : Outline) (ok : OutlineIsSound o) (depth : ℕ) (world : World) (mail : MailIsInOrder o depth world) where
  -- what the order of mails says

  module _ (legal : (w : ℕ) → w < o.workers → LogIsLegal o w (world.worker w).log) where
    -- what is taken is sent
    pub taken_is_sent : (w : ℕ) → w < o.workers → (x : Name) → In x (world.worker w).log.took → In x (world.worker (sender o x)).log.sent
    taken_is_sent w l x h =
        let m = (legal w l).took_owed x h in
        let v = sender o x in
        let lv = (edges o ok x m.0).0 in
        let i = In_left x (from o v (world.worker w).log.took) (joined (world.mailbox v w)) (filter_In (λ y. sender o y == v) x (world.worker w).log.took h (eq-eqb v v refl)) in
        (In_filter (λ y. receiver o y == w) x (world.worker v).log.sent (subst (λ (l : List Name). In x l) (mail.order v w lv l) i)).0

    -- what is sent waits or is taken
    pub sent_arrives : (x : Name) → IsOwed o x → In x (world.worker (sender o x)).log.sent → In x (joined (world.mailbox (sender o x) (receiver o x))) ⊎ In x (world.worker (receiver o x)).log.took
    sent_arrives x m h =
        let v = sender o x in
        let w = receiver o x in
        let e = edges o ok x m in
        let i = filter_In (λ y. receiver o y == w) x (world.worker v).log.sent h (eq-eqb w w refl) in
        ⊎_elim
        (λ (k : In x (from o v (world.worker w).log.took)). inr (In_filter (λ y. sender o y == v) x (world.worker w).log.took k).0)
        (λ (k : In x (joined (world.mailbox v w))). inl k)
        (In_append x (from o v (world.worker w).log.took) (joined (world.mailbox v w)) (subst (λ (l : List Name). In x l) (sym (mail.order v w e.0 e.1)) i))

    -- what waits is owed to the worker, and not taken
    pub waiting_is_right : (v w : ℕ) → v < o.workers → w < o.workers → (x : Name) → In x (joined (world.mailbox v w)) → IsOwedTo o w x × (sender o x ≡ v) × (has (world.worker w).log.took x ≡ false)
    waiting_is_right v w lv lw x h =
        let took = (world.worker w).log.took in
        let sent = (world.worker v).log.sent in
        let r = In_filter (λ y. receiver o y == w) x sent (subst (λ (l : List Name). In x l) (mail.order v w lv lw) (In_right x (from o v took) (joined (world.mailbox v w)) h)) in
        let m = (legal v lv).sent_owed x r.0 in
        let once = subst Distinct (sym (mail.order v w lv lw)) (Distinct_filter (λ y. receiver o y == w) sent (legal v lv).sent_once) in
        let apart = once_apart (from o v took) (joined (world.mailbox v w)) x once h in (
          (m.0, eqb-true (receiver o x) w r.1),
          m.1,
          false_from_ne_true (has took x) (λ i. both_ways (has (from o v took) x) apart (filter_In (λ y. sender o y == v) x took i (eq-eqb (sender o x) v m.1))),
        )

    -- the names of what waits, each once
    pub waiting_once : (v w : ℕ) → v < o.workers → w < o.workers → Distinct (joined (world.mailbox v w))
    waiting_once v w lv lw =
        right_once (from o v (world.worker w).log.took) (joined (world.mailbox v w))
        (subst Distinct (sym (mail.order v w lv lw)) (Distinct_filter (λ y. receiver o y == w) (world.worker v).log.sent (legal v lv).sent_once))

  -- what a step of worker w does to the mails

  module _ (w : ℕ) where
    -- a step that neither sends nor receives
    pub mail_kept : (new : Log) → new.sent ≡ (world.worker w).log.sent → new.took ≡ (world.worker w).log.took → MailIsInOrder o depth (record world { worker = put w (record (world.worker w) { log = new }) world.worker })
    mail_kept new s t =
        record {
          order = λ a b la lb.
              ap (λ (l : List Name). from o a l ++ joined (world.mailbox a b)) (put_all (λ b (k : Worker). k.log.took ≡ (world.worker b).log.took) w (record (world.worker w) { log = new }) world.worker t (λ v e. refl) b)
              ∙ mail.order a b la lb
              ∙ ap (λ (l : List Name). to o b l) (sym (put_all (λ a (k : Worker). k.log.sent ≡ (world.worker a).log.sent) w (record (world.worker w) { log = new }) world.worker s (λ v e. refl) a));
          room = mail.room;
          messages = mail.messages;
        }

    -- a push of a message to worker r
    module _ (r : ℕ) (xs : List Name) (is_message : IsMessage o xs) (all_to : (y : Name) → In y xs → receiver o y ≡ r) (space : length (world.mailbox w r) < depth) where
      abbrev sender_now : Worker
      sender_now = record (world.worker w) { log = record (world.worker w).log { sent = (world.worker w).log.sent ++ xs } }

      sending : ℕ → Worker
      sending = put w sender_now world.worker

      took_kept : (b : ℕ) → (sending b).log.took ≡ (world.worker b).log.took
      unfolding sending
      took_kept b = put_all (λ b (k : Worker). k.log.took ≡ (world.worker b).log.took) w sender_now world.worker refl (λ v e. refl) b

      sent_more : (sending w).log.sent ≡ (world.worker w).log.sent ++ xs
      unfolding sending
      sent_more = ap (λ (k : Worker). k.log.sent) (put_here w w sender_now world.worker refl)

      sent_kept : (a : ℕ) → (a ≡ w → ⊥) → (sending a).log.sent ≡ (world.worker a).log.sent
      unfolding sending
      sent_kept a e = ap (λ (k : Worker). k.log.sent) (put_other w a sender_now world.worker e)

      row : ℕ → List (List Name)
      row = put r (world.mailbox w r ++ xs ∷ []) (world.mailbox w)

      here : (b : ℕ) → pushed w r xs world.mailbox w b ≡ row b
      unfolding row
      here b = ap (λ (q : ℕ → List (List Name)). q b) (put_here w w (put r (world.mailbox w r ++ xs ∷ []) (world.mailbox w)) world.mailbox refl)

      there : (a b : ℕ) → (a ≡ w → ⊥) → pushed w r xs world.mailbox a b ≡ world.mailbox a b
      there a b e = ap (λ (q : ℕ → List (List Name)). q b) (put_other w a (put r (world.mailbox w r ++ xs ∷ []) (world.mailbox w)) world.mailbox e)

      order_here : w < o.workers → (b : ℕ) → b < o.workers → from o w (world.worker b).log.took ++ joined (row b) ≡ to o b ((world.worker w).log.sent ++ xs)
      unfolding row
      order_here lw b lb =
          ⊎_elim
          (λ (e : b ≡ r).
          ap (λ (l : List (List Name)). from o w (world.worker b).log.took ++ joined l) (put_here r b (world.mailbox w r ++ xs ∷ []) (world.mailbox w) e ∙ ap (λ (c : ℕ). world.mailbox w c ++ xs ∷ []) (sym e))
          ∙ ap (λ (l : List Name). from o w (world.worker b).log.took ++ l) (joined_push (world.mailbox w b) xs)
          ∙ sym (append_assoc (from o w (world.worker b).log.took) (joined (world.mailbox w b)) xs)
          ∙ ap (λ (l : List Name). l ++ xs) (mail.order w b lw lb)
          ∙ sym (filter_all (λ y. receiver o y == b) (world.worker w).log.sent xs (λ y i. eq-eqb (receiver o y) b (all_to y i ∙ sym e))))
          (λ (e : b ≡ r → ⊥).
          ap (λ (l : List (List Name)). from o w (world.worker b).log.took ++ joined l) (put_other r b (world.mailbox w r ++ xs ∷ []) (world.mailbox w) e)
          ∙ mail.order w b lw lb
          ∙ sym (filter_none (λ y. receiver o y == b) (world.worker w).log.sent xs (λ y i. ne_eqb (receiver o y) b (λ f. e (sym f ∙ all_to y i)))))
          (cases_eq b r)

      room_here : (b : ℕ) → w < o.workers → b < o.workers → length (row b) ≤ depth
      unfolding row
      room_here b lw lb =
          put_all (λ b (l : List (List Name)). b < o.workers → length l ≤ depth) r (world.mailbox w r ++ xs ∷ []) (world.mailbox w)
          (λ h. let e : length (world.mailbox w r ++ xs ∷ []) ≡ length (world.mailbox w r) + 1 = length-append (world.mailbox w r) (xs ∷ []) in omega arith)
          (λ v e h. mail.room w v lw h)
          b lb

      messages_here : (b : ℕ) → w < o.workers → b < o.workers → All (IsMessage o) (row b)
      unfolding row
      messages_here b lw lb =
          put_all (λ b (l : List (List Name)). b < o.workers → All (IsMessage o) l) r (world.mailbox w r ++ xs ∷ []) (world.mailbox w)
          (λ h. All-append (IsMessage o) (world.mailbox w r) (xs ∷ []) (mail.messages w r lw h) (All-cons (IsMessage o) xs [] is_message (All-nil (IsMessage o))))
          (λ v e h. mail.messages w v lw h)
          b lb

      -- what holds of this worker's mailboxes and of the others
      boxes : (P : List (List Name) → Type 0) (a b : ℕ) → a < o.workers → b < o.workers → (w < o.workers → P (row b)) → P (world.mailbox a b) → P (pushed w r xs world.mailbox a b)
      boxes P a b la lb p q =
          ⊎_elim
          (λ (e : a ≡ w). subst (λ (a : ℕ). a < o.workers → P (pushed w r xs world.mailbox a b)) (sym e) (λ lw. subst P (sym (here b)) (p lw)) la)
          (λ (e : a ≡ w → ⊥). subst P (sym (there a b e)) q)
          (cases_eq a w)

      pub mail_sent : MailIsInOrder o depth (record world { worker = put w sender_now world.worker; mailbox = pushed w r xs world.mailbox })
      unfolding sending
      mail_sent =
          record {
            order = λ a b la lb.
                ⊎_elim
                (λ (e : a ≡ w).
                subst (λ (a : ℕ). a < o.workers → from o a (sending b).log.took ++ joined (pushed w r xs world.mailbox a b) ≡ to o b (sending a).log.sent) (sym e)
                (λ lw.
                ap (λ (l : List Name). from o w l ++ joined (pushed w r xs world.mailbox w b)) (took_kept b)
                ∙ ap (λ (l : List (List Name)). from o w (world.worker b).log.took ++ joined l) (here b)
                ∙ order_here lw b lb
                ∙ ap (λ (l : List Name). to o b l) (sym sent_more))
                la)
                (λ (e : a ≡ w → ⊥).
                ap (λ (l : List Name). from o a l ++ joined (pushed w r xs world.mailbox a b)) (took_kept b)
                ∙ ap (λ (l : List (List Name)). from o a (world.worker b).log.took ++ joined l) (there a b e)
                ∙ mail.order a b la lb
                ∙ ap (λ (l : List Name). to o b l) (sym (sent_kept a e)))
                (cases_eq a w);
            room = λ a b la lb. boxes (λ (l : List (List Name)). length l ≤ depth) a b la lb (λ lw. room_here b lw lb) (mail.room a b la lb);
            messages = λ a b la lb. boxes (All (IsMessage o)) a b la lb (λ lw. messages_here b lw lb) (mail.messages a b la lb);
          }

    -- a pop of a message from worker v
    module _ (v : ℕ) (xs : List Name) (others : List (List Name)) (first : world.mailbox v w ≡ xs ∷ others) (mine : (y : Name) → In y xs → sender o y ≡ v) where
      abbrev taker_now : Worker
      taker_now = record (world.worker w) { log = record (world.worker w).log { took = (world.worker w).log.took ++ xs } }

      taking : ℕ → Worker
      taking = put w taker_now world.worker

      all_sent_kept : (a : ℕ) → (taking a).log.sent ≡ (world.worker a).log.sent
      unfolding taking
      all_sent_kept a = put_all (λ a (k : Worker). k.log.sent ≡ (world.worker a).log.sent) w taker_now world.worker refl (λ v e. refl) a

      took_more : (taking w).log.took ≡ (world.worker w).log.took ++ xs
      unfolding taking
      took_more = ap (λ (k : Worker). k.log.took) (put_here w w taker_now world.worker refl)

      took_as_was : (b : ℕ) → (b ≡ w → ⊥) → (taking b).log.took ≡ (world.worker b).log.took
      unfolding taking
      took_as_was b e = ap (λ (k : Worker). k.log.took) (put_other w b taker_now world.worker e)

      pop_here : popped v w world.mailbox v w ≡ others
      pop_here = popped_at v w world.mailbox ∙ ap rest_of first

      pop_column : (a : ℕ) → (a ≡ v → ⊥) → (b : ℕ) → popped v w world.mailbox a b ≡ world.mailbox a b
      pop_column a e b = ap (λ (q : ℕ → List (List Name)). q b) (put_other v a (put w (rest_of (world.mailbox v w)) (world.mailbox v)) world.mailbox e)

      pop_row : (a b : ℕ) → (b ≡ w → ⊥) → popped v w world.mailbox a b ≡ world.mailbox a b
      pop_row a b e = popped_elsewhere v w world.mailbox a b (λ f g. e g)

      order_at : w < o.workers → (a : ℕ) → a < o.workers → from o a ((world.worker w).log.took ++ xs) ++ joined (popped v w world.mailbox a w) ≡ to o w (world.worker a).log.sent
      order_at lw a la =
          ⊎_elim
          (λ (e : a ≡ v).
          subst (λ (a : ℕ). a < o.workers → from o a ((world.worker w).log.took ++ xs) ++ joined (popped v w world.mailbox a w) ≡ to o w (world.worker a).log.sent) (sym e)
          (λ lv.
          ap (λ (l : List Name). l ++ joined (popped v w world.mailbox v w)) (filter_all (λ y. sender o y == v) (world.worker w).log.took xs (λ y i. eq-eqb (sender o y) v (mine y i)))
          ∙ ap (λ (l : List (List Name)). (from o v (world.worker w).log.took ++ xs) ++ joined l) pop_here
          ∙ append_assoc (from o v (world.worker w).log.took) xs (joined others)
          ∙ ap (λ (l : List (List Name)). from o v (world.worker w).log.took ++ joined l) (sym first)
          ∙ mail.order v w lv lw)
          la)
          (λ (e : a ≡ v → ⊥).
          ap (λ (l : List Name). l ++ joined (popped v w world.mailbox a w)) (filter_none (λ y. sender o y == a) (world.worker w).log.took xs (λ y i. ne_eqb (sender o y) a (λ f. e (sym f ∙ mine y i))))
          ∙ ap (λ (l : List (List Name)). from o a (world.worker w).log.took ++ joined l) (pop_column a e w)
          ∙ mail.order a w la lw)
          (cases_eq a v)

      -- what holds of a mailbox, and of it without its first message, holds of each
      left : (P : List (List Name) → Type 0) → ((l : List (List Name)) → P l → P (rest_of l)) → (a b : ℕ) → a < o.workers → b < o.workers → ((a b : ℕ) → a < o.workers → b < o.workers → P (world.mailbox a b)) → P (popped v w world.mailbox a b)
      left P shorter a b la lb p =
          put_all (λ a (q : ℕ → List (List Name)). (b : ℕ) → a < o.workers → b < o.workers → P (q b)) v (put w (rest_of (world.mailbox v w)) (world.mailbox v)) world.mailbox
          (λ b lv lb. put_all (λ b (l : List (List Name)). b < o.workers → P l) w (rest_of (world.mailbox v w)) (world.mailbox v) (λ lw. shorter (world.mailbox v w) (p v w lv lw)) (λ c e lc. p v c lv lc) b lb)
          (λ a e b la lb. p a b la lb)
          a b la lb

      fewer : (l : List (List Name)) → length l ≤ depth → length (rest_of l) ≤ depth
      fewer [] h = h
      fewer (ys ∷ l) h = omega arith

      messages_left : (l : List (List Name)) → All (IsMessage o) l → All (IsMessage o) (rest_of l)
      messages_left [] h = h
      messages_left (ys ∷ l) h = All-tail (IsMessage o) ys l h

      pub mail_taken : MailIsInOrder o depth (record world { worker = put w taker_now world.worker; mailbox = popped v w world.mailbox })
      unfolding taking
      mail_taken =
          record {
            order = λ a b la lb.
                ⊎_elim
                (λ (e : b ≡ w).
                subst (λ (b : ℕ). b < o.workers → from o a (taking b).log.took ++ joined (popped v w world.mailbox a b) ≡ to o b (taking a).log.sent) (sym e)
                (λ lw.
                ap (λ (l : List Name). from o a l ++ joined (popped v w world.mailbox a w)) took_more
                ∙ order_at lw a la
                ∙ ap (λ (l : List Name). to o w l) (sym (all_sent_kept a)))
                lb)
                (λ (e : b ≡ w → ⊥).
                ap (λ (l : List Name). from o a l ++ joined (popped v w world.mailbox a b)) (took_as_was b e)
                ∙ ap (λ (l : List (List Name)). from o a (world.worker b).log.took ++ joined l) (pop_row a b e)
                ∙ mail.order a b la lb
                ∙ ap (λ (l : List Name). to o b l) (sym (all_sent_kept a)))
                (cases_eq b w);
            room = λ a b la lb. left (λ (l : List (List Name)). length l ≤ depth) fewer a b la lb mail.room;
            messages = λ a b la lb. left (All (IsMessage o)) messages_left a b la lb mail.messages;
          }
