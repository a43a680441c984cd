-- How far a step brings a worker, and what it tells where it isn't made.
use Rattle.std.proofs.Common.{◌≡◌, ◌≢◌, ◌⊎◌, ⊎_elim, ℕ, zero, suc, ◌+◌, ◌<◌, ◌≤◌, Bool, true, false, List, [], ◌∷◌, length, get_or, Some, Ok, Err, refl, sym, ap, ◌∙◌, subst, arith, inl, inr}
use Rattle.std.specs.Prelude.{OnOk, slice_get}
use Rattle.std.specs.declared.result.Result.{Result}
use Rattle.std.proofs.lemmas.Bool.{true≢false}
use Rattle.std.proofs.lemmas.List.{length-append}
use Rattle.std.proofs.lemmas.Option.{slice_get-get_or}
use Rattle.mp_names.specs.declared.kinds.Kind.{Kind}
use Rattle.mp_names.specs.declared.kinds.Kind.TheVariants.{Ingest, SendControl, Route, Receive, Extract, Settle, Apply, SendRow, Write, Exchange}
use Rattle.mp_names.specs.declared.names.Name.{Name}
use Rattle.mp_names.specs.Laws.{log_size}
use Rattle.mp_names.specs.Logs.{Log}
use Rattle.mp_names.specs.Outlines.{Outline}
use Rattle.mp_machine.specs.Places.{kinds_of}
use Rattle.mp_machine.specs.Steps.{logged}
use Rattle.mp_ruled.specs.Posts.{ReceiverWasEmpty, SenderWasFull}
use Rattle.mp_seat.specs.Seats.{HasOthers, SeatState}
use Rattle.mp_worker_refinement.specs.Mail.{MailboxBlocks}
use Rattle.mp_worker_refinement.specs.State.{CanMake, WorkerState}
use Rattle.mp_worker.specs.Below.{Stop}
use Rattle.mp_worker.specs.Below.{Turn}
use Rattle.mp_worker.specs.Below.turn.{Did, Seen, NotNow, Busy}
use Rattle.mp_threads_hub.specs.Hubs.{HasLooked}
use Rattle.mp_threads_member.specs.Members.{AnswersByMail, ExchangesBySeat, IsAtEnds, IsMember, MemberState}
use Rattle.mp_threads_member.specs.Rounds.{HasComeFurther, HasReceivedNone, HasTriedAll, IsHindered, IsUpToDate, OnMade, OnNotMade, WasHindered, progress}

is_exchange : (kind : Kind) → (kind ≡ Exchange) ⊎ (kind ≢ Exchange)
is_exchange Exchange = inl refl
is_exchange kind = inr (λ e. cc)

-- each step but an exchange adds its names
logged_size : (kind : Kind) (log : Log) (xs : List Name) → kind ≢ Exchange → log_size (logged kind log xs) ≡ log_size log + length xs
logged_size Ingest log xs n = let e = length-append log.ingested xs in omega arith
logged_size SendControl log xs n = let e = length-append log.sent xs in omega arith
logged_size (Route j) log xs n = let e = length-append log.sent xs in omega arith
logged_size (Receive v) log xs n = let e = length-append log.took xs in omega arith
logged_size (Extract j) log xs n = let e = length-append log.sent xs in omega arith
logged_size (Settle j) log xs n = let e = length-append log.settled xs in omega arith
logged_size (Apply j) log xs n = let e = length-append log.applied xs in omega arith
logged_size SendRow log xs n = let e = length-append log.sent xs in omega arith
logged_size Write log xs n = let e = length-append log.settled xs in omega arith
logged_size Exchange log xs n = absurd (n refl)

some_names : (xs : List Name) (x : Name) → slice_get xs 0 ≡ Some x → 0 < length xs
some_names [] x e = absurd cc
some_names (y ∷ xs) x e = omega arith

module _ (o : Outline) (kind : Kind) (old new : MemberState) where
  no_exchange : (x : Name) → CanMake o kind old.worker x → kind ≢ Exchange
  no_exchange x can is = (subst (λ (k : Kind). CanMake o k old.worker x) is can).next

  -- a step that is made brings the worker further
  pub came_further : IsMember o old → (r : Result Turn Stop) → AnswersByMail o kind old new r → (kind ≡ Exchange → ExchangesBySeat o old new r) → OnMade r (HasComeFurther old new)
  came_further at (Ok (Did x n)) says board =
      let makes = says.makes in
      let more = some_names says.names x says.tells.first in
      let size : log_size new.worker.log ≡ log_size old.worker.log + length says.names =
      ap (λ (s : WorkerState). log_size s.log) makes.after ∙ logged_size kind old.worker.log says.names (no_exchange makes.first makes.can) in
      let seen : new.worker.seen.version ≡ old.worker.seen.version = ap (λ (s : WorkerState). s.seen.version) makes.after in
      omega (arith, more, size, seen)
  came_further at (Ok (Seen version)) says board =
      let sees = says.1 in
      let size : log_size new.worker.log ≡ log_size old.worker.log = ap (λ (s : WorkerState). log_size s.log) sees.after in
      let saw = sees.version_is in
      let rose = sees.later in
      omega (arith, size, saw, rose)
  came_further at (Ok NotNow) says board = tt
  came_further at (Ok Busy) says board = tt
  came_further at (Err stop) says board = tt

  -- and none brings it back
  pub not_back : IsMember o old → (r : Result Turn Stop) → AnswersByMail o kind old new r → (kind ≡ Exchange → ExchangesBySeat o old new r) → OnOk r (progress old.worker ≤ progress new.worker)
  not_back at (Ok (Did x n)) says board = let further = came_further at (Ok (Did x n)) says board in omega (arith, further)
  not_back at (Ok (Seen version)) says board = let further = came_further at (Ok (Seen version)) says board in omega (arith, further)
  not_back at (Ok NotNow) says board = let same = ap progress says.1 in omega (arith, same)
  not_back at (Ok Busy) says board = let same = ap progress says.1 in omega (arith, same)
  not_back at (Err stop) says board = tt

  module _ (at : IsMember o old) (others : kind ≢ Exchange → new.hub ≡ old.hub) where
    ends_stay : new.worker ≡ old.worker → IsAtEnds o new.worker.number new.worker.log old.post
    ends_stay same = subst (λ (s : WorkerState). IsAtEnds o s.number s.log old.post) (sym same) at.post

    others_too : HasLooked old.hub new.hub → HasOthers old.hub → HasOthers new.hub
    others_too looked busy = subst HasOthers (sym looked.0) busy

    -- a step that isn't made was hindered
    pub was_hindered : (r : Result Turn Stop) → AnswersByMail o kind old new r → (kind ≡ Exchange → ExchangesBySeat o old new r) → OnNotMade r (WasHindered o kind old new)
    was_hindered (Ok NotNow) says board = record {
      same = says.1;
      hindered = record {
        post = old.post;
        ends = ends_stay says.1;
        mail = subst (λ (s : WorkerState). (x : Name) → CanMake o kind s x → MailboxBlocks (SenderWasFull old.post) (ReceiverWasEmpty old.post) o s.number kind x) (sym says.1) says.0;
        board = λ is.
            let e = board is in
            let same = e.0 in
            inl (ap (λ (s : WorkerState). s.posted) same ∙ e.1 ∙ sym (ap (λ (s : WorkerState). s.log) same), ap (λ (s : WorkerState). s.seen.version) same ∙ sym e.3.2 ∙ e.3.1.0);
      };
      hub = others;
    }
    was_hindered (Ok Busy) says board = record {
      same = says.1;
      hindered = record {
        post = old.post;
        ends = ends_stay says.1;
        mail = λ x can. absurd (no_exchange x (subst (λ (s : WorkerState). CanMake o kind s x) says.1 can) says.0);
        board = λ is. let e = board is in inr (others_too e.2 e.1);
      };
      hub = others;
    }
    was_hindered (Ok (Did x n)) says board = tt
    was_hindered (Ok (Seen version)) says board = tt
    was_hindered (Err stop) says board = tt

below_cases : (k n : ℕ) → k < suc n → (k < n) ⊎ (k ≡ n)
below_cases zero zero l = inr refl
below_cases zero (suc n) l = inl (omega arith)
below_cases (suc k) zero l = absurd (omega (arith, l))
below_cases (suc k) (suc n) l = ⊎_elim (λ (m : k < n). inl (omega (arith, m))) (λ (e : k ≡ n). inr (ap (λ (i : ℕ). suc i) e)) (below_cases k n (omega (arith, l)))

module _ (o : Outline) where
  -- what hinders a step hinders it as long as the worker is as it was
  still_hindered : (a b : MemberState) (kind : Kind) → b.worker ≡ a.worker → (kind ≡ Exchange → IsUpToDate b) → IsHindered o a kind → IsHindered o b kind
  still_hindered a b kind same board was = record {
    post = was.post;
    ends = subst (λ (s : WorkerState). IsAtEnds o s.number s.log was.post) (sym same) was.ends;
    mail = subst (λ (s : WorkerState). (x : Name) → CanMake o kind s x → MailboxBlocks (SenderWasFull was.post) (ReceiverWasEmpty was.post) o s.number kind x) (sym same) was.mail;
    board = board;
  }

  up_to_date : (a b : MemberState) → b.worker ≡ a.worker → b.hub ≡ a.hub → IsUpToDate a → IsUpToDate b
  up_to_date a b worker hub was =
      subst (λ (h : SeatState Log). ((b.worker.posted ≡ b.worker.log) × (b.worker.seen.version ≡ h.version)) ⊎ HasOthers h) (sym hub)
      (subst (λ (s : WorkerState). ((s.posted ≡ s.log) × (s.seen.version ≡ a.hub.version)) ⊎ HasOthers a.hub) (sym worker) was)

  -- also while steps of other kinds are tried
  pub hindered_on : (a b : MemberState) (kind tried : Kind) → IsHindered o a kind → WasHindered o tried a b → IsHindered o b kind
  hindered_on a b kind tried was next =
      still_hindered a b kind next.same
      (λ is. ⊎_elim next.hindered.board (λ (n : tried ≢ Exchange). up_to_date a b next.same (next.hub n) (was.board is)) (is_exchange tried))
      was

  -- or it receives nothing
  pub hindered_then : (a b c : MemberState) (kind : Kind) → WasHindered o kind a b → HasReceivedNone o b c → WasHindered o kind a c
  hindered_then a b c kind was none = record {
    same = none.same ∙ was.same;
    hindered = still_hindered b c kind none.same (λ is. up_to_date b c none.same none.hub (was.hindered.board is)) was.hindered;
    hub = λ n. none.hub ∙ was.hub n;
  }

  -- Steps of these kinds were tried, and the worker is as it was
  pub record HasTried (tried : Kind → Type 0) (old new : MemberState) : Type 0 where
    pub same : new.worker ≡ old.worker
    pub each : (kind : Kind) → tried kind → IsHindered o new kind

  module _ (tried more : Kind → Type 0) (next : Kind) (a b c : MemberState) (is : (kind : Kind) → more kind → (tried kind) ⊎ (kind ≡ next)) where
    pub tried_more : HasTried tried a b → WasHindered o next b c → HasTried more a c
    tried_more so_far then_tried = record {
      same = then_tried.same ∙ so_far.same;
      each = λ kind m.
          ⊎_elim
          (λ (t : tried kind). hindered_on b c kind next (so_far.each kind t) then_tried)
          (λ (e : kind ≡ next). subst (IsHindered o c) (sym e) then_tried.hindered)
          (is kind m);
    }

  -- The kinds of a round, in their order

  abbrev pub KindBelow : ℕ → Kind → Type 0
  KindBelow n kind = (k : ℕ) × (k < n) × (slice_get (kinds_of o) k ≡ Some kind)

  pub kind_below : (n : ℕ) (next : Kind) → slice_get (kinds_of o) n ≡ Some next → (kind : Kind) → KindBelow (n + 1) kind → (KindBelow n kind) ⊎ (kind ≡ next)
  kind_below n next at kind below =
      ⊎_elim
      (λ (l : below.0 < n). inl (below.0, l, below.2))
      (λ (e : below.0 ≡ n). inr (some_is kind next (sym below.2 ∙ ap (slice_get (kinds_of o)) e ∙ at)))
      (below_cases below.0 n (let l = below.1 in omega (arith, l)))
    where
      some_is : (x y : Kind) → Some x ≡ Some y → x ≡ y
      some_is x y e = cc

  -- once all were tried, so was each that the job has
  pub all_tried : (a b : MemberState) (n : ℕ) → length (kinds_of o) ≤ n → HasTried (KindBelow n) a b → HasTriedAll o a b
  all_tried a b n all t = record { same = t.same; each = λ k d l. t.each (get_or (kinds_of o) k d) (k, omega (arith, all, l), slice_get-get_or (kinds_of o) k d l) }

  -- The workers from which it receives, in their order

  abbrev pub ReceiveBelow : ℕ → Kind → Type 0
  ReceiveBelow n kind = (v : ℕ) × (v < n) × (kind ≡ Receive v)

  pub receive_below : (n : ℕ) (kind : Kind) → ReceiveBelow (n + 1) kind → (ReceiveBelow n kind) ⊎ (kind ≡ Receive n)
  receive_below n kind below =
      ⊎_elim (λ (l : below.0 < n). inl (below.0, l, below.2)) (λ (e : below.0 ≡ n). inr (below.2 ∙ ap (λ (v : ℕ). Receive v) e)) (below_cases below.0 n (let l = below.1 in omega (arith, l)))

-- Whether a step was made, of two parts

abbrev pub WasMade : (made more all : Bool) → Type 0
WasMade made more all = ((made ≡ true) × (all ≡ true)) ⊎ ((made ≡ false) × (all ≡ more))

pub none_made : (made more all : Bool) → WasMade made more all → all ≡ false → (made ≡ false) × (more ≡ false)
none_made made more all is none = ⊎_elim (λ (t : (made ≡ true) × (all ≡ true)). absurd (true≢false (sym t.1 ∙ none))) (λ (t : (made ≡ false) × (all ≡ more)). (t.0, sym t.1 ∙ none)) is

pub is_of_ok : (a b : Bool) → ◌≡◌ {A = Result Bool Stop} (Ok a) (Ok b) → a ≡ b
is_of_ok a b e = cc
