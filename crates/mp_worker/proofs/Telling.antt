-- What kept steps tell of a log stays true with one more of each.
use Rattle.std.proofs.Common.{◌≡◌, ◌+◌, ◌<◌, ◌≤◌, ◌∙◌, ◌==◌, ℕ, Bool, true, false, cond, List, [], ◌∷◌, ◌++◌, Option, None, Some, Ok, Err, IfSome, filter, length, ap, arith, length-append, refl, subst, sym}
use Rattle.std.specs.Prelude.{All, AllPairs}
use Rattle.std.specs.declared.result.Result.{Result}
use Rattle.std.proofs.lemmas.Bool.{eqb-true, false≢true}
use Rattle.std.proofs.lemmas.List.{append-nil}
use Rattle.std.proofs.lemmas.List.Elements.{All-filter, All-push, filter-append}
use Rattle.std.proofs.lemmas.List.Quantifiers.{all_pairs_push}
use Rattle.std.proofs.lemmas.List.Sums.{sum_by-append}
use Rattle.mp_names.specs.declared.kinds.Kept.{Kept}
use Rattle.mp_names.specs.declared.kinds.Kind.{Kind}
use Rattle.mp_names.specs.declared.kinds.Kind.TheVariants.{Ingest, SendControl, Route, Receive, Extract, Settle, Apply, SendRow, Write, Exchange}
use Rattle.mp_names.specs.declared.names.Name.{Name}
use Rattle.mp_names.specs.declared.names.Name.TheVariants.{Ctrl, Rec, Packet, Row, Group, Settled, Written}
use Rattle.mp_names.specs.Keeping.{IsUnsettled, IsUnwritten}
use Rattle.mp_names.specs.Logs.{Log}
use Rattle.mp_names.specs.Names.{In, is_ctrl, is_group, is_packet, is_rec, is_row, is_settled, is_written}
use Rattle.mp_names.specs.Outlines.{Outline, OutlineIsSound}
use Rattle.mp_names.proofs.Listed.{groups_are}
use Rattle.mp_names.proofs.Lists.{In_here, In_right}
use Rattle.mp_machine.specs.Steps.{AreNamesOf, IsDue, IsNext, logged}
use Rattle.mp_machine.specs.Worlds.{Worker}
use Rattle.mp_machine.proofs.Messages.{bundle_held}
use Rattle.mp_journal_laws.specs.Journals.{is_exchange}
use Rattle.mp_journal_laws.specs.Telling.{KeptTellLog, VersionsAscend, number, same_kind}
use Rattle.mp_worker_refinement.specs.State.{WorkerState, as_machine, kept_with}
use Rattle.mp_turns.specs.declared.turn.Stop.{Stop}
use Rattle.mp_turns.specs.declared.turn.Stop.TheVariants as stop
use Rattle.mp_turns.specs.declared.turn.Turn.{Turn}
use Rattle.mp_turns.specs.declared.turn.Turn.TheVariants as turn
use Rattle.mp_worker.specs.Keeping.{StepsTellLog}
use Rattle.mp_worker.specs.Turns.{Answers}

-- one where the kinds are the same
abbrev one : Kind → Kind → ℕ
one kind asked = cond (same_kind kind asked) 1 0

no_more : (n : ℕ) → n ≡ n + 0
no_more n = omega arith

from_none : (n : ℕ) → 0 + n ≡ n
from_none n = omega arith

number_more : (kind : Kind) (kept : List Kept) (k : Kept) → number kind (kept ++ k ∷ []) ≡ number kind kept + one k.kind kind
number_more kind kept k =
    sum_by-append (λ (s : Kept). cond (same_kind s.kind kind) 1 0) kept (k ∷ []) ∙ ap (λ (n : ℕ). number kind kept + n) (from_none (one k.kind kind))

-- With what a step puts into it, a log has one name more of the step's kind and of no other

pub record LogMore (kind : Kind) (log new : Log) : Type 0 where
  pub ingested : length new.ingested ≡ length log.ingested + one kind Ingest
  pub controls : length (filter is_ctrl new.sent) ≡ length (filter is_ctrl log.sent) + one kind SendControl
  pub packets : (j : ℕ) → length (filter (is_packet j) new.sent) ≡ length (filter (is_packet j) log.sent) + one kind (Extract j)
  pub settled : (j : ℕ) → length (filter (is_settled j) new.settled) ≡ length (filter (is_settled j) log.settled) + one kind (Settle j)
  pub applied : (j : ℕ) → length (filter (is_group j) new.applied) ≡ length (filter (is_group j) log.applied) + one kind (Apply j)
  pub rows : length (filter is_row new.sent) ≡ length (filter is_row log.sent) + one kind SendRow
  pub written : length (filter is_written new.settled) ≡ length (filter is_written log.settled) + one kind Write

-- how many names of a list pass a test

longer : (p : Name → Bool) (xs ys : List Name) (n : ℕ) → length (filter p ys) ≡ n → length (filter p (xs ++ ys)) ≡ length (filter p xs) + n
longer p xs ys n e = ap (λ (l : List Name). length l) (filter-append p xs ys) ∙ length-append (filter p xs) (filter p ys) ∙ ap (λ (k : ℕ). length (filter p xs) + k) e

one_alone : (x : Name) (b : Bool) → length (cond b (x ∷ []) []) ≡ cond b 1 0
one_alone x true = refl
one_alone x false = refl

of_stage : (x : Name) (i k j : ℕ) → i ≡ k → length (cond (i == j) (x ∷ []) []) ≡ cond (k == j) 1 0
of_stage x i k j e = one_alone x (i == j) ∙ ap (λ (n : ℕ). cond (n == j) 1 0) e

-- what the sent names of each kind count as

record Sent (xs : List Name) (c : ℕ) (p : ℕ → ℕ) (r : ℕ) : Type 0 where
  controls : length (filter is_ctrl xs) ≡ c
  packets : (j : ℕ) → length (filter (is_packet j) xs) ≡ p j
  rows : length (filter is_row xs) ≡ r

one_control : (x : Name) → is_ctrl x ≡ true → Sent (x ∷ []) 1 (λ j. 0) 0
one_control (Ctrl i v) is = record { controls = refl; packets = λ j. refl; rows = refl }
one_control _ is = absurd (false≢true is)

one_row : (x : Name) → is_row x ≡ true → Sent (x ∷ []) 0 (λ j. 0) 1
one_row (Row t g) is = record { controls = refl; packets = λ j. refl; rows = refl }
one_row _ is = absurd (false≢true is)

one_packet : (o : Outline) (w : ℕ) (worker : Worker) (k : ℕ) (x : Name) → IsDue o w worker k x → Sent (x ∷ []) 0 (λ j. cond (k == j) 1 0) 0
one_packet o w worker k (Packet i b t) due = record { controls = refl; packets = λ j. of_stage (Packet i b t) i k j due.0.0; rows = refl }
one_packet o w worker k _ due = absurd due

more_records : (k : ℕ) (x : Name) (xs : List Name) → is_rec k x ≡ true → Sent xs 0 (λ j. 0) 0 → Sent (x ∷ xs) 0 (λ j. 0) 0
more_records k (Rec i t l g) xs is none = record { controls = none.controls; packets = none.packets; rows = none.rows }
more_records k _ xs is none = absurd (false≢true is)

records_alone : (k : ℕ) (xs : List Name) → ((y : Name) → In y xs → is_rec k y ≡ true) → Sent xs 0 (λ j. 0) 0
records_alone k [] are = record { controls = refl; packets = λ j. refl; rows = refl }
records_alone k (x ∷ xs) are = more_records k x xs (are x (In_here x xs)) (records_alone k xs (λ y i. are y (In_right y (x ∷ []) xs i)))

-- what a time counts as

one_settled : (o : Outline) (log : Log) (k : ℕ) (x : Name) → IsUnsettled o log k x → ((j : ℕ) → length (filter (is_settled j) (x ∷ [])) ≡ cond (k == j) 1 0) × (length (filter is_written (x ∷ [])) ≡ 0)
one_settled o log k (Settled i t) at = ((λ j. of_stage (Settled i t) i k j at.0), refl)
one_settled o log k _ at = absurd at

one_written : (log : Log) (x : Name) → IsUnwritten log x → ((j : ℕ) → length (filter (is_settled j) (x ∷ [])) ≡ 0) × (length (filter is_written (x ∷ [])) ≡ 1)
one_written log (Written t) at = ((λ j. refl), refl)
one_written log _ at = absurd at

one_group : (k : ℕ) (x : Name) → is_group k x ≡ true → (j : ℕ) → length (filter (is_group j) (x ∷ [])) ≡ cond (k == j) 1 0
one_group k (Group i t l) is j = of_stage (Group i t l) i k j (eqb-true i k is)
one_group k _ is j = absurd (false≢true is)

module _ (o : Outline) (ok : OutlineIsSound o) (w : ℕ) (worker : Worker) where
  abbrev log : Log
  log = worker.log

  same : (n k : ℕ) → k ≡ 0 → n ≡ n + k
  same n k e = omega arith

  -- a step that sends
  more_sent : (kind : Kind) (xs : List Name) → one kind Ingest ≡ 0 → ((j : ℕ) → one kind (Settle j) ≡ 0) → ((j : ℕ) → one kind (Apply j) ≡ 0) → one kind Write ≡ 0 → Sent xs (one kind SendControl) (λ j. one kind (Extract j)) (one kind SendRow)
      → LogMore kind log (record log { sent = log.sent ++ xs })
  more_sent kind xs ingest settle apply write sent = record {
    ingested = same _ _ ingest;
    controls = longer is_ctrl log.sent xs _ sent.controls;
    packets = λ j. longer (is_packet j) log.sent xs _ (sent.packets j);
    settled = λ j. same _ _ (settle j);
    applied = λ j. same _ _ (apply j);
    rows = longer is_row log.sent xs _ sent.rows;
    written = same _ _ write;
  }

  -- a step that settles or writes a time
  more_settled : (kind : Kind) (xs : List Name) → one kind Ingest ≡ 0 → one kind SendControl ≡ 0 → ((j : ℕ) → one kind (Extract j) ≡ 0) → ((j : ℕ) → one kind (Apply j) ≡ 0) → one kind SendRow ≡ 0
      → ((j : ℕ) → length (filter (is_settled j) xs) ≡ one kind (Settle j)) × (length (filter is_written xs) ≡ one kind Write) → LogMore kind log (record log { settled = log.settled ++ xs })
  more_settled kind xs ingest control extract apply row settled = record {
    ingested = same _ _ ingest;
    controls = same _ _ control;
    packets = λ j. same _ _ (extract j);
    settled = λ j. longer (is_settled j) log.settled xs _ (settled.0 j);
    applied = λ j. same _ _ (apply j);
    rows = same _ _ row;
    written = longer is_written log.settled xs _ settled.1;
  }

  more_of : (kind : Kind) (x : Name) (xs : List Name) → IsNext o w worker kind x → AreNamesOf o w log kind x xs → LogMore kind log (logged kind log xs)
  more_of Ingest x xs next are = record {
    ingested = length-append log.ingested xs ∙ ap (λ (l : List Name). length log.ingested + length l) are;
    controls = no_more _;
    packets = λ j. no_more _;
    settled = λ j. no_more _;
    applied = λ j. no_more _;
    rows = no_more _;
    written = no_more _;
  }
  more_of SendControl x xs next are = more_sent SendControl xs refl (λ j. refl) (λ j. refl) refl (subst (λ (l : List Name). Sent l 1 (λ j. 0) 0) (sym are) (one_control x next.0.0.0))
  more_of (Route j) x xs next are =
      more_sent (Route j) xs refl (λ j. refl) (λ j. refl) refl
      (subst (λ (l : List Name). Sent l 0 (λ j. 0) 0) (sym are) (records_alone j _ (λ y i. (bundle_held o ok w worker j x y i).0)))
  more_of (Receive v) x xs next are = record {
    ingested = no_more _;
    controls = no_more _;
    packets = λ j. no_more _;
    settled = λ j. no_more _;
    applied = λ j. no_more _;
    rows = no_more _;
    written = no_more _;
  }
  more_of (Extract k) x xs next are = more_sent (Extract k) xs refl (λ j. refl) (λ j. refl) refl (subst (λ (l : List Name). Sent l 0 (λ j. cond (k == j) 1 0) 0) (sym are) (one_packet o w worker k x next.0))
  more_of (Settle k) x xs next are =
      more_settled (Settle k) xs refl refl (λ j. refl) (λ j. refl) refl
      (subst (λ (l : List Name). ((j : ℕ) → length (filter (is_settled j) l) ≡ cond (k == j) 1 0) × (length (filter is_written l) ≡ 0)) (sym are) (one_settled o log k x next.0))
  more_of (Apply k) x xs next are = record {
    ingested = no_more _;
    controls = no_more _;
    packets = λ j. no_more _;
    settled = λ j. no_more _;
    applied = λ j. longer (is_group j) log.applied xs _ (ap (λ (l : List Name). length (filter (is_group j) l)) are ∙ one_group k x (groups_are o ok k x next.0.0).1 j);
    rows = no_more _;
    written = no_more _;
  }
  more_of SendRow x xs next are = more_sent SendRow xs refl (λ j. refl) (λ j. refl) refl (subst (λ (l : List Name). Sent l 0 (λ j. 0) 1) (sym are) (one_row x next.0.0))
  more_of Write x xs next are =
      more_settled Write xs refl refl (λ j. refl) (λ j. refl) refl
      (subst (λ (l : List Name). ((j : ℕ) → length (filter (is_settled j) l) ≡ 0) × (length (filter is_written l) ≡ 1)) (sym are) (one_written log x next.1.0))
  more_of Exchange x xs next are = absurd next

  no_exchange : (kind : Kind) (x : Name) → IsNext o w worker kind x → is_exchange kind ≡ false
  no_exchange Exchange x next = absurd next
  no_exchange _ x next = refl

same_names : (names : Log) → LogMore Exchange names names
same_names names = record {
  ingested = no_more _;
  controls = no_more _;
  packets = λ j. no_more _;
  settled = λ j. no_more _;
  applied = λ j. no_more _;
  rows = no_more _;
  written = no_more _;
}

-- what kept steps tell, where these are kept
pub told_by : (s : WorkerState) (kept : List Kept) → s.steps ≡ Some kept → StepsTellLog s → KeptTellLog s.log kept
told_by s kept is tell = (subst (λ (steps : Option (List Kept)). IfSome steps (λ k. KeptTellLog s.log k × All (λ (one : Kept). one.version ≤ s.seen.version) k)) is tell).0

-- With one more kept

abbrev exchanges : List Kept → List Kept
exchanges kept = filter (λ (s : Kept). is_exchange s.kind) kept

still_ascend : (kept : List Kept) (k : Kept) → is_exchange k.kind ≡ false → VersionsAscend kept → VersionsAscend (kept ++ k ∷ [])
still_ascend kept k other ascend =
    let same : exchanges (kept ++ k ∷ []) ≡ exchanges kept =
    filter-append (λ (s : Kept). is_exchange s.kind) kept (k ∷ []) ∙ ap (λ (b : Bool). exchanges kept ++ cond b (k ∷ []) []) other ∙ append-nil (exchanges kept) in
    subst (AllPairs (λ (s r : Kept). s.version < r.version)) (sym same) ascend

ascend_further : (kept : List Kept) (seen version : ℕ) → All (λ (s : Kept). s.version ≤ seen) kept → seen < version → VersionsAscend kept → VersionsAscend (kept ++ record { kind = Exchange; version = version } ∷ [])
ascend_further kept seen version all later ascend =
    let p = λ (s : Kept). is_exchange s.kind in
    let k : Kept = record { kind = Exchange; version = version } in
    let below = All-filter p (λ (s : Kept). s.version ≤ seen) kept all in
    subst (AllPairs (λ (s r : Kept). s.version < r.version)) (sym (filter-append p kept (k ∷ [])))
    (all_pairs_push (λ (s r : Kept). s.version < r.version) (exchanges kept) k ascend (λ i d l. let b = below i d l in omega arith))

more_told : (names new : Log) (kept : List Kept) (k : Kept) → LogMore k.kind names new → VersionsAscend (kept ++ k ∷ []) → KeptTellLog names kept → KeptTellLog new (kept ++ k ∷ [])
more_told names new kept k more versions told = record {
  ingested = step Ingest _ _ told.ingested more.ingested;
  controls = step SendControl _ _ told.controls more.controls;
  packets = λ j. step (Extract j) _ _ (told.packets j) (more.packets j);
  settled = λ j. step (Settle j) _ _ (told.settled j) (more.settled j);
  applied = λ j. step (Apply j) _ _ (told.applied j) (more.applied j);
  rows = step SendRow _ _ told.rows more.rows;
  written = step Write _ _ told.written more.written;
  versions = versions;
}
  where
    step : (asked : Kind) (n m : ℕ) → number asked kept ≡ n → m ≡ n + one k.kind asked → number asked (kept ++ k ∷ []) ≡ m
    step asked n m a b = number_more asked kept k ∙ ap (λ (i : ℕ). i + one k.kind asked) a ∙ sym b

-- what kept steps tell of a log and of the version that was seen
abbrev Tell : Log → ℕ → Option (List Kept) → Type 0
Tell names seen steps = IfSome steps (λ kept. KeptTellLog names kept × All (λ (s : Kept). s.version ≤ seen) kept)

tell_of_step : (names new : Log) (seen : ℕ) (steps : Option (List Kept)) (kind : Kind) → LogMore kind names new → is_exchange kind ≡ false → Tell names seen steps → Tell new seen (kept_with steps kind 0)
tell_of_step names new seen None kind more other tell = tt
tell_of_step names new seen (Some kept) kind more other tell =
    let k : Kept = record { kind = kind; version = 0 } in
    (more_told names new kept k more (still_ascend kept k other tell.0.versions) tell.0, All-push (λ (s : Kept). s.version ≤ seen) kept k tell.1 (omega arith))

tell_of_exchange : (names : Log) (seen version : ℕ) (steps : Option (List Kept)) → seen < version → Tell names seen steps → Tell names version (kept_with steps Exchange version)
tell_of_exchange names seen version None later tell = tt
tell_of_exchange names seen version (Some kept) later tell =
    let k : Kept = record { kind = Exchange; version = version } in (
      more_told names names kept k (same_names names) (ascend_further kept seen version tell.1 later tell.0.versions) tell.0,
      All-push (λ (s : Kept). s.version ≤ version) kept k (λ i d l. let b = tell.1 i d l in omega arith) (omega arith),
    )

module _ (had_room was_full was_empty : ℕ → ℕ → Type 0) (o : Outline) (ok : OutlineIsSound o) (kind : Kind) (s now : WorkerState) where
  -- a step keeps what kept steps tell
  pub still_tell : (r : Result Turn Stop) → Answers had_room was_full was_empty o kind s now r → StepsTellLog s → StepsTellLog now
  still_tell (Ok (turn.Did x n)) a tell =
      let makes = a.makes in
      let next = makes.can.next in
      subst StepsTellLog (sym makes.after)
      (tell_of_step s.log (logged kind s.log a.names) s.seen.version s.steps kind (more_of o ok s.number (as_machine s) kind makes.first a.names next makes.names) (no_exchange o ok s.number (as_machine s) kind makes.first next) tell)
  still_tell (Ok (turn.Seen version)) a tell =
      let sees = a.1 in
      subst StepsTellLog (sym sees.after) (subst (λ (v : ℕ). Tell s.log v (kept_with s.steps Exchange version)) (sym sees.version_is) (tell_of_exchange s.log s.seen.version version s.steps sees.later tell))
  still_tell (Ok turn.NotNow) a tell = subst StepsTellLog (sym a.1) tell
  still_tell (Ok turn.Busy) a tell = subst StepsTellLog (sym a.1) tell
  still_tell (Err stop.Write) a tell = subst StepsTellLog (sym a.1) tell
  still_tell (Err stop.Memory) a tell = subst StepsTellLog (sym a) tell
  still_tell (Err (stop.Other cause)) a tell = subst StepsTellLog (sym a.1) tell
