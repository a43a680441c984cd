-- Messages of a player, and those of the machine.
use Rattle.std.proofs.Common.{◌≡◌, ◌↔◌, ℕ, ◌<◌, true, List, [], ◌∷◌, ◌++◌, length, get_or, set, refl, sym, ap, ◌∙◌, subst, ⊎_elim, ◌⊎◌, arith}
use Rattle.std.proofs.lemmas.Bool.{false≢true, cases_eq}
use Rattle.std.proofs.lemmas.List.{get_or-set_same, get_or-set_other, length-set}
use Rattle.mp_names.specs.declared.names.Name.{Name}
use Rattle.mp_names.specs.declared.names.Name.TheVariants.{Packet}
use Rattle.mp_names.specs.declared.kinds.Kind.{Kind}
use Rattle.mp_names.specs.declared.kinds.Kind.TheVariants.{Ingest, SendControl, Route, Receive, Extract, Settle, Apply, SendRow, Write, Exchange}
use Rattle.mp_names.specs.Outlines.{Outline, OutlineIsSound, receiver, IsOwed}
use Rattle.mp_names.proofs.Listed.{edges}
use Rattle.mp_machine.specs.Worlds.{Worker, World}
use Rattle.mp_machine.specs.Steps.{IsDue, CanStep, MailAllows, names_of, mailed, pushed, rest_of}
use Rattle.mp_machine.proofs.Puts.{pushed_at, pushed_elsewhere}
use Rattle.mp_chart.specs.Entries.{entry_of}
use Rattle.mp_chart.specs.Lists.{goes_along}
use Rattle.mp_standing.specs.declared.message.Message.{Message}
use Rattle.mp_standing.specs.Boxes.{box_of, with_box}
use Rattle.mp_standing.specs.Messages.{IsMessageOf, AreMessagesOf}
use Rattle.mp_standing.specs.Standings.{sends}
use Rattle.mp_player.specs.Shows.{IsMailOf, mail_after}

pub as_long : (o : Outline) (ms : List Message) (messages : List (List Name)) → AreMessagesOf o ms messages → length ms ≡ length messages
as_long o [] [] a = refl
as_long o (m ∷ ms) (xs ∷ messages) a = let rest = as_long o ms messages a.1 in omega arith
as_long o [] (xs ∷ messages) a = absurd a
as_long o (m ∷ ms) [] a = absurd a

pub one_more : (o : Outline) (ms : List Message) (messages : List (List Name)) (m : Message) (xs : List Name) → AreMessagesOf o ms messages → IsMessageOf o m xs → AreMessagesOf o (ms ++ m ∷ []) (messages ++ xs ∷ [])
one_more o [] [] m xs a is = (is, tt)
one_more o (n ∷ ms) (ys ∷ messages) m xs a is = (a.0, one_more o ms messages m xs a.1 is)
one_more o [] (ys ∷ messages) m xs a is = absurd a
one_more o (n ∷ ms) [] m xs a is = absurd a

pub one_less : (o : Outline) (ms : List Message) (messages : List (List Name)) → AreMessagesOf o ms messages → AreMessagesOf o (rest_of ms) (rest_of messages)
one_less o [] [] a = tt
one_less o (n ∷ ms) (ys ∷ messages) a = a.1
one_less o [] (ys ∷ messages) a = absurd a
one_less o (n ∷ ms) [] a = absurd a

-- the mailbox lets a step along a list where there is room, if it sends
pub allows : (o : Outline) (depth : ℕ) (mailbox : ℕ → ℕ → List (List Name)) (w : ℕ) (kind : Kind) (x : Name) → goes_along kind ≡ true → MailAllows o depth mailbox w kind x ↔ (sends kind ≡ true → length (mailbox w (receiver o x)) < depth)
allows o depth mailbox w SendControl x g = ((λ h s. h), (λ h. h refl))
allows o depth mailbox w (Extract j) x g = ((λ h s. h), (λ h. h refl))
allows o depth mailbox w SendRow x g = ((λ h s. h), (λ h. h refl))
allows o depth mailbox w Ingest x g = ((λ h s. absurd (false≢true s)), (λ h. tt))
allows o depth mailbox w (Settle j) x g = ((λ h s. absurd (false≢true s)), (λ h. tt))
allows o depth mailbox w (Apply j) x g = ((λ h s. absurd (false≢true s)), (λ h. tt))
allows o depth mailbox w Write x g = ((λ h s. absurd (false≢true s)), (λ h. tt))
allows o depth mailbox w (Route j) x g = absurd (false≢true g)
allows o depth mailbox w (Receive v) x g = absurd (false≢true g)
allows o depth mailbox w Exchange x g = absurd (false≢true g)

-- what is sent along a list has to be sent, and so to a worker
owed_packet : (o : Outline) (w : ℕ) (worker : Worker) (j : ℕ) (x : Name) → IsDue o w worker j x → IsOwed o x
owed_packet o w worker j (Packet i b t) due = let e : i ≡ j = due.0.0 in subst (λ (n : ℕ). IsOwed o (Packet n b t)) (sym e) due.0.1.0
owed_packet o w worker j _ due = absurd due

pub sent_inside : (o : Outline) → OutlineIsSound o → (depth : ℕ) (world : World) (w : ℕ) (kind : Kind) (x : Name) → CanStep o depth world w kind x → sends kind ≡ true → receiver o x < o.workers
sent_inside o ok depth world w SendControl x can s = (edges o ok x can.1.0.0.1).1
sent_inside o ok depth world w (Extract j) x can s = (edges o ok x (owed_packet o w (world.worker w) j x can.1.0)).1
sent_inside o ok depth world w SendRow x can s = (edges o ok x can.1.0.1).1
sent_inside o ok depth world w _ x can s = absurd (false≢true s)

-- a box changes, and no other
pub box_there : (workers : ℕ) (mail : List (List (List Message))) (w r : ℕ) (ms : List Message) → IsMailOf workers mail → w < workers → r < workers → box_of (with_box mail w r ms) w r ≡ ms
box_there workers mail w r ms is low inside =
    let row = set (get_or mail w []) r ms in
    let a : w < length mail = let e = is.senders in omega arith in
    let b : r < length (get_or mail w []) = let e = is.receivers w low in omega arith in
    ap (λ (l : List (List Message)). get_or l r []) (get_or-set_same mail w row [] a) ∙ get_or-set_same (get_or mail w []) r ms [] b

pub box_elsewhere : (workers : ℕ) (mail : List (List (List Message))) (w r : ℕ) (ms : List Message) → IsMailOf workers mail → w < workers → (v u : ℕ) → (v ≡ w → u ≡ r → ⊥) → box_of (with_box mail w r ms) v u ≡ box_of mail v u
box_elsewhere workers mail w r ms is low v u n =
    let row = set (get_or mail w []) r ms in
    let a : w < length mail = let e = is.senders in omega arith in
    ⊎_elim
    (λ (e : v ≡ w).
    subst (λ (k : ℕ). box_of (with_box mail w r ms) k u ≡ box_of mail k u) (sym e)
    (ap (λ (l : List (List Message)). get_or l u []) (get_or-set_same mail w row [] a) ∙ get_or-set_other (get_or mail w []) r u ms [] (λ f. n e f)))
    (λ (d : v ≡ w → ⊥). ap (λ (l : List (List Message)). get_or l u []) (get_or-set_other mail w v row [] d))
    (cases_eq v w)

pub still_mail : (workers : ℕ) (mail : List (List (List Message))) (w r : ℕ) (ms : List Message) → IsMailOf workers mail → w < workers → IsMailOf workers (with_box mail w r ms)
still_mail workers mail w r ms is low =
    let row = set (get_or mail w []) r ms in
    let a : w < length mail = let e = is.senders in omega arith in
    record {
      senders = length-set mail w row ∙ is.senders;
      receivers = λ v l.
          ⊎_elim
          (λ (e : v ≡ w). subst (λ (k : ℕ). length (get_or (set mail w row) k []) ≡ workers) (sym e) (ap length (get_or-set_same mail w row [] a) ∙ length-set (get_or mail w []) r ms ∙ is.receivers w low))
          (λ (d : v ≡ w → ⊥). ap length (get_or-set_other mail w v row [] d) ∙ is.receivers v l)
          (cases_eq v w);
    }

abbrev pub Matches : Outline → List (List (List Message)) → (ℕ → ℕ → List (List Name)) → Type 0
Matches o mail mailbox = (v u : ℕ) → AreMessagesOf o (box_of mail v u) (mailbox v u)

-- where a message is sent it waits last in both
pub sent_matches : (o : Outline) (mail : List (List (List Message))) (mailbox : ℕ → ℕ → List (List Name)) (w r : ℕ) (m : Message) (xs : List Name) → IsMailOf o.workers mail → w < o.workers → r < o.workers → IsMessageOf o m xs → Matches o mail mailbox → Matches o (with_box mail w r (box_of mail w r ++ m ∷ [])) (pushed w r xs mailbox)
sent_matches o mail mailbox w r m xs is low inside message match v u = pick (cases_eq v w) (cases_eq u r)
  where
    there : AreMessagesOf o (box_of (with_box mail w r (box_of mail w r ++ m ∷ [])) w r) (pushed w r xs mailbox w r)
    there =
        subst (λ (ms : List Message). AreMessagesOf o ms (pushed w r xs mailbox w r)) (sym (box_there o.workers mail w r (box_of mail w r ++ m ∷ []) is low inside))
        (subst (AreMessagesOf o (box_of mail w r ++ m ∷ [])) (sym (pushed_at w r xs mailbox)) (one_more o (box_of mail w r) (mailbox w r) m xs (match w r) message))

    elsewhere : (v ≡ w → u ≡ r → ⊥) → AreMessagesOf o (box_of (with_box mail w r (box_of mail w r ++ m ∷ [])) v u) (pushed w r xs mailbox v u)
    elsewhere n =
        subst (λ (ms : List Message). AreMessagesOf o ms (pushed w r xs mailbox v u)) (sym (box_elsewhere o.workers mail w r (box_of mail w r ++ m ∷ []) is low v u n))
        (subst (AreMessagesOf o (box_of mail v u)) (sym (pushed_elsewhere w r xs mailbox v u n)) (match v u))

    pick : (v ≡ w) ⊎ (v ≡ w → ⊥) → (u ≡ r) ⊎ (u ≡ r → ⊥) → AreMessagesOf o (box_of (with_box mail w r (box_of mail w r ++ m ∷ [])) v u) (pushed w r xs mailbox v u)
    pick a b =
        ⊎_elim
        (λ (e : v ≡ w).
        ⊎_elim
        (λ (f : u ≡ r). subst (λ (k : ℕ). AreMessagesOf o (box_of (with_box mail w r (box_of mail w r ++ m ∷ [])) k u) (pushed w r xs mailbox k u)) (sym e) (subst (λ (k : ℕ). AreMessagesOf o (box_of (with_box mail w r (box_of mail w r ++ m ∷ [])) w k) (pushed w r xs mailbox w k)) (sym f) there))
        (λ (d : u ≡ r → ⊥). elsewhere (λ p q. d q))
        b)
        (λ (d : v ≡ w → ⊥). elsewhere (λ p q. d p))
        a

-- the mail after a step along a list
pub along_matches : (o : Outline) → OutlineIsSound o → (depth : ℕ) (world : World) (w : ℕ) (kind : Kind) (x : Name) → goes_along kind ≡ true → CanStep o depth world w kind x → (mail : List (List (List Message))) → IsMailOf o.workers mail → Matches o mail world.mailbox → Matches o (mail_after kind w (entry_of o x) mail) (mailed o w kind x (names_of o world w kind x) world.mailbox) × IsMailOf o.workers (mail_after kind w (entry_of o x) mail)
along_matches o ok depth world w SendControl x g can mail is match = let r = sent_inside o ok depth world w SendControl x can refl in (sent_matches o mail world.mailbox w (receiver o x) (record { first = entry_of o x; count = 1 }) (x ∷ []) is can.0.0 r (refl, refl) match, still_mail o.workers mail w (receiver o x) _ is can.0.0)
along_matches o ok depth world w (Extract j) x g can mail is match = let r = sent_inside o ok depth world w (Extract j) x can refl in (sent_matches o mail world.mailbox w (receiver o x) (record { first = entry_of o x; count = 1 }) (x ∷ []) is can.0.0 r (refl, refl) match, still_mail o.workers mail w (receiver o x) _ is can.0.0)
along_matches o ok depth world w SendRow x g can mail is match = let r = sent_inside o ok depth world w SendRow x can refl in (sent_matches o mail world.mailbox w (receiver o x) (record { first = entry_of o x; count = 1 }) (x ∷ []) is can.0.0 r (refl, refl) match, still_mail o.workers mail w (receiver o x) _ is can.0.0)
along_matches o ok depth world w Ingest x g can mail is match = (match, is)
along_matches o ok depth world w (Settle j) x g can mail is match = (match, is)
along_matches o ok depth world w (Apply j) x g can mail is match = (match, is)
along_matches o ok depth world w Write x g can mail is match = (match, is)
along_matches o ok depth world w (Route j) x g can mail is match = absurd (false≢true g)
along_matches o ok depth world w (Receive v) x g can mail is match = absurd (false≢true g)
along_matches o ok depth world w Exchange x g can mail is match = absurd (false≢true g)
