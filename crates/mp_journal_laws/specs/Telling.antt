-- What kept steps tell of their worker's log: by kind as many as it has names of that kind, and the versions of its exchanges ascend.
use Rattle.std.specs.Prelude.{◌≡◌, ℕ, ◌<◌, ◌==◌, Bool, true, false, List, AllPairs, count_by, filter, length}
use Rattle.mp_names.specs.declared.kinds.Kept.{Kept}
use Rattle.mp_names.specs.declared.kinds.Kind.{Kind}
use Rattle.mp_names.specs.declared.kinds.Kind.TheVariants.{Ingest, SendControl, Route, Receive, Extract, Settle, Apply, SendRow, Write, Exchange}
use Rattle.mp_names.specs.Names.{is_ctrl, is_packet, is_row, is_group, is_settled, is_written}
use Rattle.mp_names.specs.Outlines.{Outline, share, owed_by, control_times, answer_times}
use Rattle.mp_names.specs.Logs.{Log, owned_groups}
use Rattle.mp_journal_laws.specs.Journals.{is_exchange}

-- whether two kinds are one
abbrev pub same_kind : Kind → Kind → Bool
same_kind Ingest Ingest = true
same_kind SendControl SendControl = true
same_kind (Route i) (Route j) = i == j
same_kind (Receive v) (Receive w) = v == w
same_kind (Extract i) (Extract j) = i == j
same_kind (Settle i) (Settle j) = i == j
same_kind (Apply i) (Apply j) = i == j
same_kind SendRow SendRow = true
same_kind Write Write = true
same_kind Exchange Exchange = true
same_kind _ _ = false

-- how many of the steps are of a kind
abbrev pub number : Kind → List Kept → ℕ
number kind kept = count_by (λ (s : Kept). same_kind s.kind kind) kept

-- each exchange saw a later version than the one before it
abbrev pub VersionsAscend : List Kept → Type 0
VersionsAscend kept = AllPairs (λ (s r : Kept). s.version < r.version) (filter (λ (s : Kept). is_exchange s.kind) kept)

-- The kept steps are those that filled the log
pub record KeptTellLog (log : Log) (kept : List Kept) : Type 0 where
  pub ingested : number Ingest kept ≡ length log.ingested
  pub controls : number SendControl kept ≡ length (filter is_ctrl log.sent)
  pub packets : (j : ℕ) → number (Extract j) kept ≡ length (filter (is_packet j) log.sent)
  pub settled : (j : ℕ) → number (Settle j) kept ≡ length (filter (is_settled j) log.settled)
  pub applied : (j : ℕ) → number (Apply j) kept ≡ length (filter (is_group j) log.applied)
  pub rows : number SendRow kept ≡ length (filter is_row log.sent)
  pub written : number Write kept ≡ length (filter is_written log.settled)
  pub versions : VersionsAscend kept

-- The kept steps are as many of each kind as the worker has to do, but of those that route, receive and exchange, whose number depends on the order of steps; and the versions of its exchanges ascend
pub record KeptTellFullLog (o : Outline) (w : ℕ) (kept : List Kept) : Type 0 where
  pub ingested : number Ingest kept ≡ length (share o w)
  pub controls : number SendControl kept ≡ length (filter is_ctrl (owed_by o w))
  pub packets : (j : ℕ) → number (Extract j) kept ≡ length (filter (is_packet j) (owed_by o w))
  pub settled : (j : ℕ) → j < o.stages → number (Settle j) kept ≡ length (control_times o j)
  pub applied : (j : ℕ) → j < o.stages → number (Apply j) kept ≡ length (owned_groups o w j)
  pub rows : number SendRow kept ≡ length (filter is_row (owed_by o w))
  pub written : w ≡ 0 → number Write kept ≡ length (answer_times o)
  pub versions : VersionsAscend kept
