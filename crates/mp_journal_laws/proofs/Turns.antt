-- A worker's turn hangs on itself, on the first messages to it, on the room in mailboxes from it, and, in an exchange, on the board's version.
use Rattle.std.proofs.Common.{◌≡◌, ℕ, ◌≤◌, nat_lt, Bool, true, false, cond, ◌&&◌, List, [], ◌∷◌, length, Option, None, Some, refl, sym, ap, ◌∙◌, subst, arith}
use Rattle.std.proofs.lemmas.Bool.{false≢true, ltb-true, lt-ltb, and_parts, and_from, cond-true}
use Rattle.mp_names.specs.declared.names.Name.{Name}
use Rattle.mp_names.specs.declared.kinds.Kind.{Kind}
use Rattle.mp_names.specs.declared.kinds.Kind.TheVariants.{Ingest, SendControl, Route, Receive, Extract, Settle, Apply, SendRow, Write, Exchange}
use Rattle.mp_names.specs.Outlines.{Outline, receiver}
use Rattle.mp_machine.specs.Worlds.{Worker, World}
use Rattle.mp_machine.specs.Messages.{bundle_of, first_message}
use Rattle.mp_machine.specs.Steps.{names_of}
use Rattle.mp_machine.specs.Tests.{kind_fits, first_of, next_name, is_ready, has_room, mail_allows, is_allowed}
use Rattle.mp_machine.specs.Runs.{Turn, Did, NotNow, turn_with, turn_of}
use Rattle.mp_journal_laws.specs.Journals.{is_exchange}

pub exchange_is : (kind : Kind) → is_exchange kind ≡ true → kind ≡ Exchange
exchange_is Exchange e = refl
exchange_is _ e = absurd (false≢true e)

chosen : (b : Bool) (turn : Turn) (P : Turn → Type 0) → (P NotNow → ⊥) → P (cond b turn NotNow) → (b ≡ true) × P turn
chosen true turn P n h = (refl, h)
chosen false turn P n h = absurd (n h)

pub some_first : (q : List (List Name)) (x : Name) → first_of (first_message q) ≡ Some x → q ≡ [] → ⊥
some_first [] x e d = cc
some_first (m ∷ q) x e d = cc

-- a kind that isn't an exchange: its turn comes from the search for a name
pub is_tried : (o : Outline) (depth : ℕ) (world : World) (w : ℕ) (kind : Kind) → is_exchange kind ≡ false → turn_of o depth world w kind ≡ turn_with o depth world w kind (next_name o world w kind)
is_tried o depth world w Ingest e = refl
is_tried o depth world w SendControl e = refl
is_tried o depth world w (Route j) e = refl
is_tried o depth world w (Receive v) e = refl
is_tried o depth world w (Extract j) e = refl
is_tried o depth world w (Settle j) e = refl
is_tried o depth world w (Apply j) e = refl
is_tried o depth world w SendRow e = refl
is_tried o depth world w Write e = refl
is_tried o depth world w Exchange e = absurd (false≢true (sym e))

-- what made the turn: the name that was found, that it was allowed, and how many names go with it
abbrev pub Found : Outline → ℕ → World → ℕ → Kind → Name → ℕ → Type 0
Found o depth world w kind x n = (next_name o world w kind ≡ Some x) × (is_allowed o depth world w kind x ≡ true) × (n ≡ length (names_of o world w kind x))

pub did_found : (o : Outline) (depth : ℕ) (world : World) (w : ℕ) (kind : Kind) (x : Name) (n : ℕ) → is_exchange kind ≡ false → turn_of o depth world w kind ≡ Did x n → Found o depth world w kind x n
did_found o depth world w kind x n e t = by_search (next_name o world w kind) (sym (is_tried o depth world w kind e) ∙ t)
  where
    by_search : (r : Option Name) → turn_with o depth world w kind r ≡ Did x n → (r ≡ Some x) × (is_allowed o depth world w kind x ≡ true) × (n ≡ length (names_of o world w kind x))
    by_search None d = absurd (cc)
    by_search (Some y) d =
        let c = chosen (is_allowed o depth world w kind y) (Did y (length (names_of o world w kind y))) (λ (t : Turn). t ≡ Did x n) (λ h. absurd (cc)) d in
        let same : Did y (length (names_of o world w kind y)) ≡ Did x n = c.1 in
        let name : y ≡ x = cc in
        let many : length (names_of o world w kind y) ≡ n = cc in
        (ap Some name, subst (λ (z : Name). is_allowed o depth world w kind z ≡ true) name c.0, sym many ∙ ap (λ (z : Name). length (names_of o world w kind z)) name)

pub found_did : (o : Outline) (depth : ℕ) (world : World) (w : ℕ) (kind : Kind) (x : Name) (n : ℕ) → is_exchange kind ≡ false → Found o depth world w kind x n → turn_of o depth world w kind ≡ Did x n
found_did o depth world w kind x n e f =
    is_tried o depth world w kind e
    ∙ ap (λ (r : Option Name). turn_with o depth world w kind r) f.0
    ∙ cond-true (is_allowed o depth world w kind x) (Did x (length (names_of o world w kind x))) NotNow f.1
    ∙ ap (Did x) (sym f.2)

-- Another world is as good for the worker's steps
pub record IsAsGood (world new : World) (w : ℕ) : Type 0 where
  pub same : new.worker w ≡ world.worker w
  pub first : (u : ℕ) → (world.mailbox u w ≡ [] → ⊥) → first_message (new.mailbox u w) ≡ first_message (world.mailbox u w)
  pub room : (u : ℕ) → length (new.mailbox w u) ≤ length (world.mailbox w u)

module _ (o : Outline) (depth : ℕ) (world new : World) (w : ℕ) (good : IsAsGood world new w) where
  -- the world with this worker everywhere
  abbrev with : Worker → World
  with k = record world { worker = λ u. k }

  same_name_found : (kind : Kind) (x : Name) → next_name o world w kind ≡ Some x → next_name o new w kind ≡ next_name o world w kind
  same_name_found Ingest x e = ap (λ (k : Worker). next_name o (with k) w Ingest) good.same
  same_name_found SendControl x e = ap (λ (k : Worker). next_name o (with k) w SendControl) good.same
  same_name_found (Route j) x e = ap (λ (k : Worker). next_name o (with k) w (Route j)) good.same
  same_name_found (Receive v) x e = ap first_of (good.first v (some_first (world.mailbox v w) x e))
  same_name_found (Extract j) x e = ap (λ (k : Worker). next_name o (with k) w (Extract j)) good.same
  same_name_found (Settle j) x e = ap (λ (k : Worker). next_name o (with k) w (Settle j)) good.same
  same_name_found (Apply j) x e = ap (λ (k : Worker). next_name o (with k) w (Apply j)) good.same
  same_name_found SendRow x e = ap (λ (k : Worker). next_name o (with k) w SendRow) good.same
  same_name_found Write x e = ap (λ (k : Worker). next_name o (with k) w Write) good.same
  same_name_found Exchange x e = refl

  pub same_names_go : (kind : Kind) (x : Name) → next_name o world w kind ≡ Some x → names_of o new w kind x ≡ names_of o world w kind x
  same_names_go (Route j) x e = ap (λ (k : Worker). bundle_of o w k.log j x) good.same
  same_names_go (Receive v) x e = good.first v (some_first (world.mailbox v w) x e)
  same_names_go _ x e = refl

  has_room_still : (x : Name) → has_room o depth world.mailbox w x ≡ true → has_room o depth new.mailbox w x ≡ true
  has_room_still x h =
      let before = ltb-true (length (world.mailbox w (receiver o x))) depth h in
      let less = good.room (receiver o x) in
      lt-ltb (length (new.mailbox w (receiver o x))) depth (omega arith)

  mail_allows_still : (kind : Kind) (x : Name) → mail_allows o depth world.mailbox w kind x ≡ true → mail_allows o depth new.mailbox w kind x ≡ true
  mail_allows_still SendControl x h = has_room_still x h
  mail_allows_still (Route j) x h = has_room_still x h
  mail_allows_still (Extract j) x h = has_room_still x h
  mail_allows_still SendRow x h = has_room_still x h
  mail_allows_still _ x h = h

  allowed_still : (kind : Kind) (x : Name) → is_allowed o depth world w kind x ≡ true → is_allowed o depth new w kind x ≡ true
  allowed_still kind x h =
      let p = and_parts (nat_lt w o.workers) (kind_fits o kind && (is_ready o w (world.worker w) kind x && mail_allows o depth world.mailbox w kind x)) h in
      let q = and_parts (kind_fits o kind) (is_ready o w (world.worker w) kind x && mail_allows o depth world.mailbox w kind x) p.1 in
      let r = and_parts (is_ready o w (world.worker w) kind x) (mail_allows o depth world.mailbox w kind x) q.1 in
      and_from (nat_lt w o.workers) (kind_fits o kind && (is_ready o w (new.worker w) kind x && mail_allows o depth new.mailbox w kind x)) p.0
      (and_from (kind_fits o kind) (is_ready o w (new.worker w) kind x && mail_allows o depth new.mailbox w kind x) q.0
      (and_from (is_ready o w (new.worker w) kind x) (mail_allows o depth new.mailbox w kind x)
      (ap (λ (k : Worker). is_ready o w k kind x) good.same ∙ r.0)
      (mail_allows_still kind x r.1)))

  pub found_still : (kind : Kind) (x : Name) (n : ℕ) → Found o depth world w kind x n → Found o depth new w kind x n
  found_still kind x n f = (same_name_found kind x f.0 ∙ f.0, allowed_still kind x f.1, f.2 ∙ ap length (sym (same_names_go kind x f.0)))

-- an exchange's turn
pub same_exchange : (o : Outline) (depth : ℕ) (world new : World) (w : ℕ) → new.worker w ≡ world.worker w → new.version ≡ world.version → turn_of o depth new w Exchange ≡ turn_of o depth world w Exchange
same_exchange o depth world new w e v = λ i. turn_of o depth (record world { worker = λ u. e i; version = v i }) w Exchange
