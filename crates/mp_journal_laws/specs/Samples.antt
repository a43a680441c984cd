-- A journal to compute with, and what is wrong with two like it.
use Rattle.std.specs.Prelude.{ℕ, zero, suc, false, cond, ◌==◌, List, [], ◌∷◌, None}
use Rattle.mp_names.specs.declared.names.Name.{Name}
use Rattle.mp_names.specs.declared.names.Name.TheVariants.{Rec, Row}
use Rattle.mp_names.specs.declared.kinds.Kind.{Kind}
use Rattle.mp_names.specs.declared.kinds.Kind.TheVariants.{Ingest, Route, Receive, Apply, SendRow, Write, Exchange}
use Rattle.mp_names.specs.Outlines.{Outline}
use Rattle.mp_names.specs.Samples.{tag, no_posts}
use Rattle.mp_names.specs.declared.kinds.Kept.{Kept}
use Rattle.mp_journal_laws.specs.Journals.{Journal}
use Rattle.mp_journal_laws.specs.Merges.{IsLegalMerge}

-- one bid at 5 on auction 7, which gives a row; one worker, one bin
abbrev pub one_record : ℕ → List Name
one_record zero = Rec 0 5 7 (tag 0 0) ∷ []
one_record (suc j) = []

abbrev pub one_bid : Outline
one_bid = record { workers = 1; bins = 1; stages = 1; controls = []; first_owner = λ j b. 0; bin_of = λ k. 0; records = one_record; posts = no_posts; rows = Row 5 (tag 7 0) ∷ []; opening = λ j. []; bundle = 64; paced = false; until = None }

abbrev pub step : Kind → Kept
step kind = record { kind = kind; version = 0 }

abbrev pub exchange : ℕ → Kept
exchange version = record { kind = Exchange; version = version }

-- worker 0 kept these steps
abbrev pub of_worker_0 : List Kept → Journal
of_worker_0 steps w = cond (0 == w) steps []

abbrev pub recorded : List Kept
recorded = step Ingest ∷ step (Route 0) ∷ step (Receive 0) ∷ exchange 1 ∷ step (Apply 0) ∷ step SendRow ∷ step (Receive 0) ∷ exchange 2 ∷ step Write ∷ []

-- without the first exchange the group isn't known to be whole
abbrev pub without_exchange : List Kept
without_exchange = step Ingest ∷ step (Route 0) ∷ step (Receive 0) ∷ step (Apply 0) ∷ step SendRow ∷ step (Receive 0) ∷ exchange 2 ∷ step Write ∷ []

-- the first exchange can't have seen this version
abbrev pub with_other_version : List Kept
with_other_version = step Ingest ∷ step (Route 0) ∷ step (Receive 0) ∷ exchange 2 ∷ step (Apply 0) ∷ step SendRow ∷ step (Receive 0) ∷ exchange 2 ∷ step Write ∷ []

abbrev pub IsLegal : List Kept → Type 0
IsLegal steps = (merge : List (ℕ × Kept)) × IsLegalMerge one_bid 64 (of_worker_0 steps) merge
