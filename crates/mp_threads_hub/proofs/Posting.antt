-- What an exchange through a seat does to the seat.
use Rattle.std.proofs.Common.{◌≡◌, ◌⊎◌, ◌<◌, ◌≤◌, ℕ, zero, suc, List, [], ◌∷◌, Option, None, Some, length, get_or, set, refl, sym, ap, ◌∙◌, arith, inl, inr, ⊎_elim}
use Rattle.std.specs.Prelude.{slice_get, Ok, Err}
use Rattle.std.specs.Option.{unwrap_or}
use Rattle.std.specs.declared.result.Result.{Result}
use Rattle.std.proofs.lemmas.List.{set-get_or}
use Rattle.std.proofs.lemmas.Option.{unwrap_or-slice_get}
use Rattle.mp_names.specs.Frontiers.{log_at}
use Rattle.mp_names.specs.Logs.{Log, empty_log}
use Rattle.mp_names.specs.Outlines.{Outline}
use Rattle.mp_board.specs.declared.causes.Answer.{Answer}
use Rattle.mp_board.specs.declared.causes.Answer.TheVariants.{Got, Busy}
use Rattle.mp_board.specs.declared.causes.Cause.{Cause}
use Rattle.mp_board.specs.declared.causes.Cause.TheVariants.{Write, Memory}
use Rattle.mp_board.specs.declared.causes.HubStop.{HubStop}
use Rattle.mp_board.specs.declared.causes.HubStop.TheVariants.{Other}
use Rattle.mp_board.specs.Answers.{IfGot, IfNotPosted, IfTried}
use Rattle.mp_board.specs.Boards.{Posted, ShowsFrontiers, exchanged}
use Rattle.mp_seat.specs.Seats.{SeatState, ChangesOwnRow, holding, resting}
use Rattle.mp_threads_hub.specs.Hubs.{HasPosted, ShowsBoard, after_stop, own_row, shared_version}

-- a board without a cause shows its own version
own_version : (b : Posted) → b.stopped ≡ None → shared_version b ≡ b.version
own_version b e = ap (λ (c : Option Cause). after_stop c b.version) e

-- what a board shows rises with its version
after_stop_rises : (c : Option Cause) (a b : ℕ) → a ≤ b → after_stop c a ≤ after_stop c b
after_stop_rises None a b l = l
after_stop_rises (Some Write) a b l = omega (arith, l)
after_stop_rises (Some Memory) a b l = omega (arith, l)

-- an exchange leaves the cause as it was, so what the board shows doesn't go back
pub never_back : (old new : Posted) (w : ℕ) (log : Log) (result : Result Answer HubStop) → IfGot result (λ seen. new ≡ exchanged old w log) → IfNotPosted result (new ≡ old) → old.version ≤ new.version → shared_version old ≤ shared_version new
never_back old new w log (Ok (Got seen)) a k on =
    let same : new.stopped ≡ old.stopped = ap (λ (b : Posted). b.stopped) a in
    let e : shared_version new ≡ after_stop old.stopped new.version = ap (λ (c : Option Cause). after_stop c new.version) same in
    let up = after_stop_rises old.stopped old.version new.version on in
    omega (arith, e, up)
never_back old new w log (Ok Busy) a k on = let e = ap shared_version k in omega (arith, e)
never_back old new w log (Err (Other cause)) a k on = let e = ap shared_version k in omega (arith, e)

-- once the log is posted no cause stands, so the board shows its own version
pub shows_own : (old new : Posted) (w : ℕ) (log : Log) (result : Result Answer HubStop) → IfTried result (old.stopped ≡ None) → IfGot result (λ seen. new ≡ exchanged old w log) → IfGot result (λ seen. shared_version new ≡ new.version)
shows_own old new w log (Ok (Got seen)) t a = own_version new (ap (λ (b : Posted). b.stopped) a ∙ t)
shows_own old new w log (Ok Busy) t a = tt
shows_own old new w log (Err (Other cause)) t a = tt

slice_get-set : {X : Type 0} (xs : List X) (i : ℕ) (x : X) → i < length xs → slice_get (set xs i x) i ≡ Some x
slice_get-set [] i x l = absurd (omega arith)
slice_get-set (y ∷ xs) zero x l = refl
slice_get-set (y ∷ xs) (suc i) x l = slice_get-set xs i x (omega arith)

module _ (seat taken : SeatState Log) (old new : Posted) (w : ℕ) (log : Log) (is : w ≡ seat.number) (took : taken ≡ holding seat old.logs (shared_version old)) where
  own : (row : Log) → new.logs ≡ set old.logs w row → ChangesOwnRow taken new.logs
  own row e = (
    old.logs,
    row,
    ap (λ s. s.taken) took,
    e ∙ ap (λ n. set old.logs n row) (is ∙ sym (ap (λ s. s.number) took)),
  )

  kept : new ≡ old → ChangesOwnRow taken new.logs
  kept e = own (get_or old.logs w log) (ap (λ b. b.logs) e ∙ sym (set-get_or old.logs w log))

  -- a board that is put has changed in the seat's row at most
  pub changes : (result : Result Answer HubStop) → IfGot result (λ seen. new ≡ exchanged old w log) → IfNotPosted result (new ≡ old) → ChangesOwnRow taken new.logs
  changes (Ok (Got seen)) a k = own log (ap (λ b. b.logs) a)
  changes (Ok Busy) a k = kept k
  changes (Err (Other cause)) a k = kept k

  module _ (later : SeatState Log) (idle : seat.taken ≡ None) (stood : slice_get old.logs seat.number ≡ seat.row) (since : seat.version ≤ shared_version old) (on : shared_version old ≤ shared_version new) (inside : w < length old.logs) (put : later ≡ resting taken new.logs (shared_version new)) where
    row_is : new ≡ exchanged old w log → slice_get new.logs seat.number ≡ Some log
    row_is e = ap (λ (b : Posted). slice_get b.logs seat.number) e ∙ ap (λ n. slice_get (set old.logs w log) n) (sym is) ∙ slice_get-set old.logs w log inside

    version_is : later.version ≡ shared_version new
    version_is = ap (λ s. s.version) put

    as_posted : new ≡ exchanged old w log → HasPosted seat log later
    as_posted e = (
      put
          ∙ ap (λ s. resting s new.logs (shared_version new)) took
          ∙ ap (λ (row : Option Log). record seat { row = row; version = shared_version new; taken = None }) (row_is e)
          ∙ ap (λ (version : ℕ). record seat { row = Some log; version = version; taken = None }) (sym version_is)
          ∙ ap (λ (held : Option (List Log)). record seat { row = Some log; version = later.version; taken = held }) (sym idle),
      omega (arith, version_is),
    )

    -- once the log is posted, the seat has it
    pub has_posted : (result : Result Answer HubStop) → IfGot result (λ seen. new ≡ exchanged old w log) → IfGot result (λ seen. HasPosted seat log later)
    has_posted (Ok (Got seen)) e = as_posted e
    has_posted (Ok Busy) e = tt
    has_posted (Err (Other cause)) e = tt

    pub row_posted : (result : Result Answer HubStop) → IfGot result (λ seen. new ≡ exchanged old w log) → IfGot result (λ seen. own_row later ≡ log)
    row_posted (Ok (Got seen)) e = ap own_row (as_posted e).0
    row_posted (Ok Busy) e = tt
    row_posted (Err (Other cause)) e = tt

    -- the log that the worker posted last is the one that stood there
    row_was : own_row seat ≡ log_at old.logs w
    row_was = ap (λ (row : Option Log). unwrap_or row empty_log) (sym stood) ∙ unwrap_or-slice_get old.logs seat.number empty_log ∙ ap (log_at old.logs) (sym is)

    -- it is the same, or the version that the seat has seen is later
    pub seat_rises : (result : Result Answer HubStop) → IfTried result (old.stopped ≡ None) → IfGot result (λ seen. shared_version new ≡ new.version) → IfGot result (λ seen. (log_at old.logs w ≡ log) ⊎ (old.version < new.version)) → IfGot result (λ seen. (own_row seat ≡ log) ⊎ (seat.version < later.version))
    seat_rises (Ok (Got seen)) t n e =
        let was = own_version old t in
        ⊎_elim (λ (same : log_at old.logs w ≡ log). inl (row_was ∙ same)) (λ (more : old.version < new.version). inr (omega (arith, version_is, was, n, more, since))) e
    seat_rises (Ok Busy) t n e = tt
    seat_rises (Err (Other cause)) t n e = tt

-- what the board showed is what the seat has seen
pub shown : (o : Outline) (taken later : SeatState Log) (new : Posted) → later ≡ resting taken new.logs (shared_version new) → (result : Result Answer HubStop) → IfGot result (λ seen. shared_version new ≡ new.version) → IfGot result (λ seen. (seen.version ≡ new.version) × ShowsFrontiers o new.logs seen) → IfGot result (λ seen. ShowsBoard o later seen)
shown o taken later new put (Ok (Got seen)) n s = (
  s.0 ∙ sym n ∙ sym (ap (λ s. s.version) put),
  (new.logs, s.1, ap (λ s. slice_get new.logs s.number) put ∙ sym (ap (λ s. s.row) put)),
)
shown o taken later new put (Ok Busy) n s = tt
shown o taken later new put (Err (Other cause)) n s = tt

-- a board that is put with the rows that it was taken with
pub unchanged : (seat taken : SeatState Log) (rows now : List Log) (version : ℕ) → taken ≡ holding seat rows version → now ≡ rows → ChangesOwnRow taken now
unchanged seat taken rows now version took e =
    (rows, get_or rows taken.number empty_log, ap (λ s. s.taken) took, e ∙ sym (set-get_or rows taken.number empty_log))
