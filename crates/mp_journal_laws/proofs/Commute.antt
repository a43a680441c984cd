-- Steps of two workers can be exchanged.
use Rattle.std.proofs.Common.{◌≡◌, ℕ, suc, ◌≤◌, ◌==◌, Bool, true, false, cond, List, length, Some, refl, sym, ap, ◌∙◌, subst, ⊎_elim, le_refl}
use Rattle.std.proofs.Math.Path.{fun_ext}
use Rattle.std.proofs.lemmas.Bool.{eqb-true, cond-true, cases_Bool}
use Rattle.mp_names.specs.declared.names.Name.{Name}
use Rattle.mp_names.specs.declared.kinds.Kind.{Kind}
use Rattle.mp_names.specs.declared.kinds.Kind.TheVariants.{Receive, Exchange}
use Rattle.mp_names.specs.Outlines.{Outline}
use Rattle.mp_names.specs.Frontiers.{frontier_of}
use Rattle.mp_machine.specs.Worlds.{Worker, World, posted_logs, put}
use Rattle.mp_machine.specs.Messages.{first_message}
use Rattle.mp_machine.specs.Steps.{names_of, logged, mailed, stepped_with, stepped, same_log, version_after, having_seen, exchanged, CanExchange}
use Rattle.mp_machine.specs.Tests.{next_name, can_exchange}
use Rattle.mp_machine.specs.Runs.{Turn, Did, Saw, NotNow, after_turn, turn_of, turn_of_machine, step_of_machine}
use Rattle.mp_machine.proofs.Puts.{put_other, put_all}
use Rattle.mp_machine.proofs.Turns.{own_log, saw_to}
use Rattle.mp_journal_laws.specs.Journals.{is_exchange}
use Rattle.mp_journal_laws.proofs.Mails.{Mailboxes, MailMove, move_of, moved, mailed_moves, HasMail, moves_commute, first_stays, room_stays}
use Rattle.mp_journal_laws.proofs.Turns.{IsAsGood, exchange_is, did_found, found_did, found_still, same_names_go, same_exchange, some_first}

-- functions with other values

both_tests : {X : Type 0} (s t : Bool) (a b x : X) → (s ≡ true → t ≡ true → ⊥) → cond s a (cond t b x) ≡ cond t b (cond s a x)
both_tests true true a b x n = absurd (n refl refl)
both_tests true false a b x n = refl
both_tests false true a b x n = refl
both_tests false false a b x n = refl

pub puts_commute : {X : Type 0} (w v : ℕ) → (w ≡ v → ⊥) → (a b : X) (f : ℕ → X) → put w a (put v b f) ≡ put v b (put w a f)
puts_commute w v n a b f = fun_ext (λ u. both_tests (u == w) (u == v) a b (f u) (λ e d. n (sym (eqb-true u w e) ∙ eqb-true u v d)))

-- a part that the new value has as the old one is kept
pub put_keeps : {X Y : Type 0} (g : X → Y) (w : ℕ) (x : X) (f : ℕ → X) → g x ≡ g (f w) → (u : ℕ) → g (put w x f u) ≡ g (f u)
put_keeps g w x f e u = put_all (λ u y. g y ≡ g (f u)) w x f e (λ u n. refl) u

-- what a worker sees in an exchange

pub same_version_after : (world new : World) (w : ℕ) → new.worker w ≡ world.worker w → new.version ≡ world.version → version_after new w ≡ version_after world w
same_version_after world new w k v = λ i. cond (same_log (k i).log (k i).posted) (v i) (suc (v i))

same_seen : (o : Outline) (world new : World) (w : ℕ) → new.worker w ≡ world.worker w → posted_logs new ≡ posted_logs world → new.version ≡ world.version → having_seen o new w ≡ having_seen o world w
same_seen o world new w k p v =
    λ i. record { log = (k i).log; posted = (k i).log; seen = frontier_of o (put w (k i).log (p i)); version = same_version_after world new w k v i }

-- an exchange of a posted log keeps the version
pub version_kept : (world : World) (w : ℕ) → (world.worker w).log ≡ (world.worker w).posted → version_after world w ≡ world.version
version_kept world w e =
    cond-true (same_log (world.worker w).log (world.worker w).posted) world.version (suc world.version)
    (ap (λ l. same_log (world.worker w).log l) (sym e) ∙ own_log (world.worker w).log)

-- the worlds after two steps

module _ (o : Outline) (world : World) (w v : ℕ) (apart : w ≡ v → ⊥) where
  names_commute : (ka kb : Kind) (x y : Name) (xs ys : List Name) → HasMail w (move_of o ka x xs) world.mailbox → HasMail v (move_of o kb y ys) world.mailbox → stepped_with o (stepped_with o world v kb y ys) w ka x xs ≡ stepped_with o (stepped_with o world w ka x xs) v kb y ys
  names_commute ka kb x y xs ys h l = λ i. record { worker = workers i; version = world.version; mailbox = mail i }
    where
      f : ℕ → Worker
      f = world.worker

      a : Worker → Worker
      a k = record k { log = logged ka k.log xs }

      b : Worker → Worker
      b k = record k { log = logged kb k.log ys }

      workers : put w (a (put v (b (f v)) f w)) (put v (b (f v)) f) ≡ put v (b (put w (a (f w)) f v)) (put w (a (f w)) f)
      workers =
          ap (λ (k : Worker). put w (a k) (put v (b (f v)) f)) (put_other v w (b (f v)) f apart)
          ∙ puts_commute w v apart (a (f w)) (b (f v)) f
          ∙ sym (ap (λ (k : Worker). put v (b k) (put w (a (f w)) f)) (put_other w v (a (f w)) f (λ e. apart (sym e))))

      m : MailMove
      m = move_of o ka x xs

      k : MailMove
      k = move_of o kb y ys

      mail : mailed o w ka x xs (mailed o v kb y ys world.mailbox) ≡ mailed o v kb y ys (mailed o w ka x xs world.mailbox)
      mail =
          mailed_moves o w ka x xs (mailed o v kb y ys world.mailbox)
          ∙ ap (moved w m) (mailed_moves o v kb y ys world.mailbox)
          ∙ fun_ext (λ p. fun_ext (λ q. moves_commute w v apart m k world.mailbox h l p q))
          ∙ sym (ap (moved v k) (mailed_moves o w ka x xs world.mailbox))
          ∙ sym (mailed_moves o v kb y ys (mailed o w ka x xs world.mailbox))

  name_commutes : (ka : Kind) (x : Name) (xs : List Name) → stepped_with o (exchanged o world v) w ka x xs ≡ exchanged o (stepped_with o world w ka x xs) v
  name_commutes ka x xs = λ i. record { worker = workers i; version = sym (same_version_after world after v same refl) i; mailbox = mailed o w ka x xs world.mailbox }
    where
      f : ℕ → Worker
      f = world.worker

      a : Worker → Worker
      a k = record k { log = logged ka k.log xs }

      after : World
      after = stepped_with o world w ka x xs

      same : after.worker v ≡ f v
      same = put_other w v (a (f w)) f (λ e. apart (sym e))

      posts : posted_logs after ≡ posted_logs world
      posts = fun_ext (λ u. put_keeps (λ (k : Worker). k.posted) w (a (f w)) f refl u)

      workers : put w (a (put v (having_seen o world v) f w)) (put v (having_seen o world v) f) ≡ put v (having_seen o after v) (put w (a (f w)) f)
      workers =
          ap (λ (k : Worker). put w (a k) (put v (having_seen o world v) f)) (put_other v w (having_seen o world v) f apart)
          ∙ puts_commute w v apart (a (f w)) (having_seen o world v) f
          ∙ sym (ap (λ (k : Worker). put v k (put w (a (f w)) f)) (same_seen o world after v same posts refl))

-- after an exchange of a posted log
module _ (o : Outline) (world : World) (w v : ℕ) (apart : w ≡ v → ⊥) (kept : (world.worker v).log ≡ (world.worker v).posted) where
  abbrev after : World
  after = exchanged o world v

  pub same_worker : after.worker w ≡ world.worker w
  same_worker = put_other v w (having_seen o world v) world.worker apart

  same_posts : posted_logs after ≡ posted_logs world
  same_posts = fun_ext (λ u. put_keeps (λ (k : Worker). k.posted) v (having_seen o world v) world.worker kept u)

  pub seen_then : having_seen o after w ≡ having_seen o world w
  seen_then = same_seen o world after w same_worker same_posts (version_kept world v kept)

  pub version_then : version_after after w ≡ version_after world w
  version_then = same_version_after world after w same_worker (version_kept world v kept)

exchanges_commute : (o : Outline) (world : World) (w v : ℕ) → (w ≡ v → ⊥) → (world.worker w).log ≡ (world.worker w).posted → (world.worker v).log ≡ (world.worker v).posted → exchanged o (exchanged o world v) w ≡ exchanged o (exchanged o world w) v
exchanges_commute o world w v apart kw kv = λ i. record { worker = workers i; version = versions i; mailbox = world.mailbox }
  where
    other : v ≡ w → ⊥
    other e = apart (sym e)

    workers : put w (having_seen o (exchanged o world v) w) (put v (having_seen o world v) world.worker) ≡ put v (having_seen o (exchanged o world w) v) (put w (having_seen o world w) world.worker)
    workers =
        ap (λ (k : Worker). put w k (put v (having_seen o world v) world.worker)) (seen_then o world w v apart kv)
        ∙ puts_commute w v apart (having_seen o world w) (having_seen o world v) world.worker
        ∙ sym (ap (λ (k : Worker). put v k (put w (having_seen o world w) world.worker)) (seen_then o world v w other kw))

    versions : version_after (exchanged o world v) w ≡ version_after (exchanged o world w) v
    versions = version_then o world w v apart kv ∙ version_kept world w kw ∙ sym (version_kept world v kv) ∙ sym (version_then o world v w other kw)

-- a step of one worker leaves the world as good for another's steps

pub good_after : (o : Outline) (world : World) (w v : ℕ) → (w ≡ v → ⊥) → (kind : Kind) (turn : Turn) → IsAsGood world (after_turn o world v kind turn) w
good_after o world w v apart kind (Did y n) =
    record {
      same = put_other v w (record (world.worker v) { log = logged kind (world.worker v).log (names_of o world v kind y) }) world.worker apart;
      first = λ u some. ap (λ (q : Mailboxes). first_message (q u w)) (mailed_moves o v kind y (names_of o world v kind y) world.mailbox) ∙ first_stays w v apart (move_of o kind y (names_of o world v kind y)) world.mailbox u some;
      room = λ u.
          subst (λ (q : Mailboxes). length (q w u) ≤ length (world.mailbox w u)) (sym (mailed_moves o v kind y (names_of o world v kind y) world.mailbox))
          (room_stays w v apart (move_of o kind y (names_of o world v kind y)) world.mailbox u);
    }
good_after o world w v apart kind (Saw version) = record { same = put_other v w (having_seen o world v) world.worker apart; first = λ u some. refl; room = λ u. le_refl (length (world.mailbox w u)) }
good_after o world w v apart kind NotNow = record { same = refl; first = λ u some. refl; room = λ u. le_refl (length (world.mailbox w u)) }

-- only an exchange sees a version, and it does nothing else

not_chosen : (b : Bool) (turn : Turn) (P : Turn → Type 0) → (P turn → ⊥) → (P NotNow → ⊥) → P (cond b turn NotNow) → ⊥
not_chosen true turn P n m h = n h
not_chosen false turn P n m h = m h

pub saw_is_exchange : (o : Outline) (depth : ℕ) (world : World) (w : ℕ) (kind : Kind) (v : ℕ) → turn_of o depth world w kind ≡ Saw v → kind ≡ Exchange
saw_is_exchange o depth world w kind v e = of_exchange kind (saw_to o depth world w kind v e).0
  where
    of_exchange : (kind : Kind) → CanExchange o world w kind → kind ≡ Exchange
    of_exchange Exchange h = refl
    of_exchange _ h = absurd h

exchange_not_did : (o : Outline) (depth : ℕ) (world : World) (w : ℕ) (x : Name) (n : ℕ) → turn_of o depth world w Exchange ≡ Did x n → ⊥
exchange_not_did o depth world w x n e = not_chosen (can_exchange o world w) (Saw (version_after world w)) (λ t. t ≡ Did x n) (λ h. absurd (cc)) (λ h. absurd (cc)) e

pub did_is_none : (o : Outline) (depth : ℕ) (world : World) (w : ℕ) (kind : Kind) (x : Name) (n : ℕ) → turn_of o depth world w kind ≡ Did x n → is_exchange kind ≡ false
did_is_none o depth world w kind x n e =
    ⊎_elim
    (λ (t : is_exchange kind ≡ true). absurd (exchange_not_did o depth world w x n (subst (λ (k : Kind). turn_of o depth world w k ≡ Did x n) (exchange_is kind t) e)))
    (λ (f : is_exchange kind ≡ false). f)
    (cases_Bool (is_exchange kind))

-- the board's version stays, where no posted log is changed
abbrev pub KeepsPosted : World → ℕ → Kind → Type 0
KeepsPosted world w kind = kind ≡ Exchange → (world.worker w).log ≡ (world.worker w).posted

pub version_stays : (o : Outline) (depth : ℕ) (world : World) (w : ℕ) (kind : Kind) (turn : Turn) → turn_of o depth world w kind ≡ turn → KeepsPosted world w kind → (after_turn o world w kind turn).version ≡ world.version
version_stays o depth world w kind (Did x n) e kept = refl
version_stays o depth world w kind (Saw v) e kept = version_kept world w (kept (saw_is_exchange o depth world w kind v e))
version_stays o depth world w kind NotNow e kept = refl

-- turns

-- two steps don't disturb each other: where both are exchanges, neither changes a posted log
abbrev pub AreQuiet : World → ℕ → Kind → ℕ → Kind → Type 0
AreQuiet world w ka v kb = (ka ≡ Exchange → KeepsPosted world v kb) × (kb ≡ Exchange → KeepsPosted world w ka)

module _ (o : Outline) (depth : ℕ) (world : World) (w v : ℕ) (apart : w ≡ v → ⊥) where
  -- a step that is made is made as well after a step of another worker
  same_turn : (ka kb : Kind) (t u : Turn) → turn_of o depth world w ka ≡ t → turn_of o depth world v kb ≡ u → (t ≡ NotNow → ⊥) → (ka ≡ Exchange → KeepsPosted world v kb) → turn_of o depth (after_turn o world v kb u) w ka ≡ t
  same_turn ka kb (Did x n) u e d made quiet =
      let none = did_is_none o depth world w ka x n e in
      let good = good_after o world w v apart kb u in
      found_did o depth (after_turn o world v kb u) w ka x n none (found_still o depth world (after_turn o world v kb u) w good ka x n (did_found o depth world w ka x n none e))
  same_turn ka kb (Saw c) u e d made quiet =
      let is = saw_is_exchange o depth world w ka c e in
      let good = good_after o world w v apart kb u in
      subst (λ (k : Kind). turn_of o depth (after_turn o world v kb u) w k ≡ turn_of o depth world w k) (sym is)
      (same_exchange o depth world (after_turn o world v kb u) w good.same (version_stays o depth world v kb u d (quiet is))) ∙ e
  same_turn ka kb NotNow u e d made quiet = absurd (made refl)

  has_mail : (k : ℕ) (kind : Kind) (x : Name) (xs : List Name) → next_name o world k kind ≡ Some x → HasMail k (move_of o kind x xs) world.mailbox
  has_mail k (Receive a) x xs e = some_first (world.mailbox a k) x e
  has_mail k _ x xs e = tt

module _ (o : Outline) (depth : ℕ) (world : World) (w v : ℕ) (apart : w ≡ v → ⊥) where
  other : v ≡ w → ⊥
  other e = apart (sym e)

  -- one step puts names into the log, the other is an exchange
  mixed_commute : (ka : Kind) (x : Name) (n : ℕ) → turn_of o depth world w ka ≡ Did x n → stepped o (exchanged o world v) w ka x ≡ exchanged o (stepped o world w ka x) v
  mixed_commute ka x n e =
      let found = did_found o depth world w ka x n (did_is_none o depth world w ka x n e) e in
      ap (λ (xs : List Name). stepped_with o (exchanged o world v) w ka x xs) (same_names_go o depth world (exchanged o world v) w (good_after o world w v apart Exchange (Saw 0)) ka x found.0)
      ∙ name_commutes o world w v apart ka x (names_of o world w ka x)

  both_commute : (ka kb : Kind) (x y : Name) (n m : ℕ) → turn_of o depth world w ka ≡ Did x n → turn_of o depth world v kb ≡ Did y m → stepped o (stepped o world v kb y) w ka x ≡ stepped o (stepped o world w ka x) v kb y
  both_commute ka kb x y n m e d =
      let fa = did_found o depth world w ka x n (did_is_none o depth world w ka x n e) e in
      let fb = did_found o depth world v kb y m (did_is_none o depth world v kb y m d) d in
      let xs = names_of o world w ka x in
      let ys = names_of o world v kb y in
      ap (λ (zs : List Name). stepped_with o (stepped o world v kb y) w ka x zs) (same_names_go o depth world (stepped o world v kb y) w (good_after o world w v apart kb (Did y m)) ka x fa.0)
      ∙ names_commute o world w v apart ka kb x y xs ys (has_mail o depth world w v apart w ka x xs fa.0) (has_mail o depth world w v apart v kb y ys fb.0)
      ∙ sym (ap (λ (zs : List Name). stepped_with o (stepped o world w ka x) v kb y zs) (same_names_go o depth world (stepped o world w ka x) v (good_after o world v w other ka (Did x n)) kb y fb.0))

same_worlds : (o : Outline) (depth : ℕ) (world : World) (w v : ℕ) → (w ≡ v → ⊥) → (ka kb : Kind) (t u : Turn) → turn_of o depth world w ka ≡ t → turn_of o depth world v kb ≡ u → (t ≡ NotNow → ⊥) → (u ≡ NotNow → ⊥) → AreQuiet world w ka v kb → after_turn o (after_turn o world v kb u) w ka t ≡ after_turn o (after_turn o world w ka t) v kb u
same_worlds o depth world w v apart ka kb (Did x n) (Did y m) e d made done quiet = both_commute o depth world w v apart ka kb x y n m e d
same_worlds o depth world w v apart ka kb (Did x n) (Saw c) e d made done quiet = mixed_commute o depth world w v apart ka x n e
same_worlds o depth world w v apart ka kb (Saw c) (Did y m) e d made done quiet = sym (mixed_commute o depth world v w (λ i. apart (sym i)) kb y m d)
same_worlds o depth world w v apart ka kb (Saw b) (Saw c) e d made done quiet =
    let is = saw_is_exchange o depth world w ka b e in
    let so = saw_is_exchange o depth world v kb c d in
    exchanges_commute o world w v apart (quiet.1 so is) (quiet.0 is so)
same_worlds o depth world w v apart ka kb NotNow u e d made done quiet = absurd (made refl)
same_worlds o depth world w v apart ka kb t NotNow e d made done quiet = absurd (done refl)

-- a step that is made has the same turn after a step of another worker that is made
pub turn_kept : (o : Outline) (depth : ℕ) (world : World) (w v : ℕ) → (w ≡ v → ⊥) → (ka kb : Kind) → (turn_of_machine o depth world w ka ≡ NotNow → ⊥) → (ka ≡ Exchange → KeepsPosted world v kb) → turn_of_machine o depth (step_of_machine o depth world v kb) w ka ≡ turn_of_machine o depth world w ka
unfolding turn_of_machine step_of_machine
turn_kept o depth world w v apart ka kb made quiet = same_turn o depth world w v apart ka kb (turn_of o depth world w ka) (turn_of o depth world v kb) refl refl made quiet

-- and the two steps lead to one world in either order
pub steps_commute : (o : Outline) (depth : ℕ) (world : World) (w v : ℕ) → (w ≡ v → ⊥) → (ka kb : Kind) → (turn_of_machine o depth world w ka ≡ NotNow → ⊥) → (turn_of_machine o depth world v kb ≡ NotNow → ⊥) → AreQuiet world w ka v kb → step_of_machine o depth (step_of_machine o depth world v kb) w ka ≡ step_of_machine o depth (step_of_machine o depth world w ka) v kb
unfolding turn_of_machine step_of_machine
steps_commute o depth world w v apart ka kb made done quiet =
    let t = turn_of o depth world w ka in
    let u = turn_of o depth world v kb in
    ap (after_turn o (after_turn o world v kb u) w ka) (turn_kept o depth world w v apart ka kb made quiet.0)
    ∙ same_worlds o depth world w v apart ka kb t u refl refl made done quiet
    ∙ sym (ap (after_turn o (after_turn o world w ka t) v kb) (turn_kept o depth world v w (λ e. apart (sym e)) kb ka done quiet.1))
