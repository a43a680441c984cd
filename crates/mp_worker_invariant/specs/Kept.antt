-- What becomes of the parts of a worker at each of its steps.
use Rattle.std.specs.Prelude.{◌≡◌, ℕ, suc, ◌<◌, true, false, List, [], ◌∷◌, ◌++◌, length, set}
use Rattle.mp_names.specs.declared.locations.Loc.TheVariants.{CtlMail, Host, OutMail}
use Rattle.mp_names.specs.declared.names.Name.{Name}
use Rattle.mp_names.specs.declared.names.Name.TheVariants.{Ctrl, Packet, Row, Group, Settled, Written}
use Rattle.mp_names.specs.declared.names.Tag.{Tag}
use Rattle.mp_names.specs.Controls.{control_of}
use Rattle.mp_names.specs.Names.{Distinct, has, In, IsLeast, IsPrefix, is_rec, is_row}
use Rattle.mp_names.specs.Outlines.{IsOwedBy, IsOwedTo, Outline, share}
use Rattle.mp_names.specs.Logs.{Log, empty_log, with_applied, with_ingested, with_sent, with_settled, with_took}
use Rattle.mp_names.specs.Frontiers.{HasPassed, HasReached}
use Rattle.mp_names.specs.Keeping.{IsHeld, IsUnsettled, IsUnwritten}
use Rattle.mp_machine.specs.Messages.{bundle_of}
use Rattle.mp_stamps.specs.declared.seen.Seen.{Seen}
use Rattle.mp_stamps.specs.Seen.{SeenIsDone, seen_at}
use Rattle.mp_bins.specs.Notes.{Notes, with_note}
use Rattle.mp_model.specs.declared.record.Output.{Output}
use Rattle.mp_model.specs.Facts.{JobFacts, QueryFacts}
use Rattle.mp_outline.specs.JobOutline.{layout_of, outline_of}
use Rattle.mp_controller.specs.Controlling.{Controlling, IsLeft, IsNew, after_sent, next_name}
use Rattle.mp_route.specs.Routed.{Routed}
use Rattle.mp_route.specs.Unsent.{MayGo, with_all_sent}
use Rattle.mp_output.specs.Holding.{HoldsUnwritten}
use Rattle.mp_host_laws.specs.Hosted.{Hosted}
use Rattle.mp_host_laws.specs.HostOf.{HostMatchesLogAndSeen, IsReadyAt, OwnersAreCurrent}
use Rattle.mp_host_laws.specs.Laws.{MayLeaveNow}
use Rattle.mp_handoff.specs.MoversState.{MoversState}
use Rattle.mp_handoff.specs.Due.{IsDueHere}
use Rattle.mp_handoff.specs.MoversOf.{KnowsMoves}
use Rattle.mp_worker_invariant.specs.Parts.{AreMoversAt, ArePartsOf, AtEach, HoldsRowsBut, IsHostAt, IsRouterAt, Parts}

-- the worker's log and its router of a stage are new
abbrev pub with_router : {Cell : Type 0} → Parts Cell → Log → ℕ → Routed → Parts Cell
with_router p log j r = record p { log = log; routers = set p.routers j r }

-- its log and its host of a stage are
abbrev pub with_host : {Cell : Type 0} → Parts Cell → Log → ℕ → Hosted Cell → Parts Cell
with_host p log j h = record p { log = log; hosts = set p.hosts j h }

-- its log and its movers of a stage are
abbrev pub with_movers : {Cell : Type 0} → Parts Cell → Log → ℕ → MoversState → Parts Cell
with_movers p log j m = record p { log = log; movers = set p.movers j m }

-- its log and its controller are
abbrev pub with_controller : {Cell : Type 0} → Parts Cell → Log → Controlling → Parts Cell
with_controller p log c = record p { log = log; controller = c }

-- its log and what it noted are
abbrev pub with_notes : {Cell : Type 0} → Parts Cell → Log → Notes → Parts Cell
with_notes p log notes = record p { log = log; notes = notes }

-- its log and the answer rows that it has to send are
abbrev pub with_unsent : {Cell : Type 0} → Parts Cell → Log → List Output → Parts Cell
with_unsent p log rows = record p { log = log; unsent = rows }

-- its log and the answer rows that it has to write are
abbrev pub with_unwritten : {Cell : Type 0} → Parts Cell → Log → List Output → Parts Cell
with_unwritten p log rows = record p { log = log; unwritten = rows }

-- the log with these names taken too
abbrev pub with_all_took : Log → List Name → Log
with_all_took log xs = record log { took = log.took ++ xs }

-- the names are owed to the worker, which took none of them before, and each stands once
abbrev pub AreOwedAndNew : Outline → ℕ → Log → List Name → Type 0
AreOwedAndNew o w log xs = Distinct xs × ((x : Name) → In x xs → IsOwedTo o w x × (has log.took x ≡ false))

module _ {Cell : Type 0} (q : QueryFacts Cell) (job : JobFacts) where
  -- Each step of a worker keeps its parts what its log says: where those that the step is of are so, all others are
  pub record StepsKeepParts (p : Parts Cell) : Type 0 where
    -- the next record of the share is ingested
    pub ingest : (x : Name) (r : Routed) → IsPrefix (p.log.ingested ++ x ∷ []) (share (outline_of q job) p.number)
        → IsRouterAt q job p.number (with_ingested p.log x) 0 r → ArePartsOf q job (with_router p (with_ingested p.log x) 0 r)
    -- the next control record is sent
    pub send_control : p.number ≡ 0 → IsLeft p.controller → ArePartsOf q job (with_controller p (with_sent p.log (next_name p.controller)) (after_sent p.controller))
    -- the least record of a stage is sent, with those that go with it
    pub route : (j : ℕ) (x : Name) (xs : List Name) (r : Routed) → MayGo q job p.number p.log j p.seen x → xs ≡ bundle_of (outline_of q job) p.number p.log j x
        → IsRouterAt q job p.number (with_all_sent p.log xs) j r → ArePartsOf q job (with_router p (with_all_sent p.log xs) j r)
    -- records of a stage are taken
    pub receive : (j : ℕ) (xs : List Name) (h : Hosted Cell) → AreOwedAndNew (outline_of q job) p.number p.log xs → ((x : Name) → In x xs → is_rec j x ≡ true)
        → IsHostAt q job p.number (with_all_took p.log xs) j h → ArePartsOf q job (with_host p (with_all_took p.log xs) j h)
    -- a control record is taken: it is noted, and the movers of its stage note its time
    pub receive_control : (i : ℕ) (notes : Notes) (m : MoversState) → IsOwedTo (outline_of q job) p.number (Ctrl i p.number) → has p.log.took (Ctrl i p.number) ≡ false
        → notes ≡ record p.notes { noted = with_note p.notes.noted (record { index = i; control = control_of job.controls i }); room = notes.room }
        → AreMoversAt q job p.number (with_took p.log (Ctrl i p.number)) (control_of job.controls i).stage m
        → ArePartsOf q job (with_movers (with_notes p (with_took p.log (Ctrl i p.number)) notes) (with_took p.log (Ctrl i p.number)) (control_of job.controls i).stage m)
    -- a packet is taken
    pub receive_packet : (j b t : ℕ) (h : Hosted Cell) → IsOwedTo (outline_of q job) p.number (Packet j b t) → has p.log.took (Packet j b t) ≡ false
        → IsHostAt q job p.number (with_took p.log (Packet j b t)) j h → ArePartsOf q job (with_host p (with_took p.log (Packet j b t)) j h)
    -- a packet is sent: its bin is out of the host, and the movers know that it is sent
    pub extract : (j b t : ℕ) (h : Hosted Cell) (m : MoversState) → IsLeast (IsDueHere (outline_of q job) p.log p.seen p.number j) (Packet j b t) → HasReached (seen_at p.seen (Host j)) t
        → IsHostAt q job p.number (with_sent p.log (Packet j b t)) j h → AreMoversAt q job p.number (with_sent p.log (Packet j b t)) j m
        → ArePartsOf q job (with_movers (with_host p (with_sent p.log (Packet j b t)) j h) (with_sent p.log (Packet j b t)) j m)
    -- a time is settled
    pub settle : (j t : ℕ) (m : MoversState) → IsLeast (IsUnsettled (outline_of q job) p.log j) (Settled j t) → HasPassed (seen_at p.seen CtlMail) t
        → ((b : ℕ) → IsOwedBy (outline_of q job) p.number (Packet j b t) → In (Packet j b t) p.log.sent)
        → AreMoversAt q job p.number (with_settled p.log (Settled j t)) j m → ArePartsOf q job (with_movers p (with_settled p.log (Settled j t)) j m)
    -- an answer row is taken
    pub receive_row : (t : ℕ) (g : Tag) (rows : List Output) → IsOwedTo (outline_of q job) p.number (Row t g) → has p.log.took (Row t g) ≡ false
        → HoldsUnwritten (with_took p.log (Row t g)) rows → ArePartsOf q job (with_unwritten p (with_took p.log (Row t g)) rows)
    -- a group is applied, and hands its records to the router of the next stage
    pub apply : (j t k : ℕ) (old new : Hosted Cell) (r : Routed) → IsHostAt q job p.number p.log j old → IsReadyAt q job p.log p.seen old t k → suc j < job.shape.stages
        → IsHostAt q job p.number (with_applied p.log (Group j t k)) j new → IsRouterAt q job p.number (with_applied p.log (Group j t k)) (suc j) r
        → ArePartsOf q job (with_router (with_host p (with_applied p.log (Group j t k)) j new) (with_applied p.log (Group j t k)) (suc j) r)
    -- a group of the last stage is applied, and gives answer rows
    pub apply_last : (j t k : ℕ) (old new : Hosted Cell) (rows : List Output) → IsHostAt q job p.number p.log j old → IsReadyAt q job p.log p.seen old t k → suc j ≡ job.shape.stages
        → IsHostAt q job p.number (with_applied p.log (Group j t k)) j new → HoldsRowsBut q job p.number (with_applied p.log (Group j t k)) [] rows
        → ArePartsOf q job (with_unsent (with_host p (with_applied p.log (Group j t k)) j new) (with_applied p.log (Group j t k)) rows)
    -- an answer row is sent
    pub send_row : (x : Name) (rows : List Output) → IsLeast (IsHeld (outline_of q job) p.number p.log is_row) x
        → HoldsRowsBut q job p.number (with_sent p.log x) [] rows → ArePartsOf q job (with_unsent p (with_sent p.log x) rows)
    -- the answer rows of a time are written
    pub write : (t : ℕ) (rows : List Output) → p.number ≡ 0 → IsLeast (IsUnwritten p.log) (Written t) → HasPassed (seen_at p.seen OutMail) t
        → HoldsUnwritten (with_settled p.log (Written t)) rows → ArePartsOf q job (with_unwritten p (with_settled p.log (Written t)) rows)
    -- a log is posted, and new frontiers are seen
    pub see : (posted : Log) (seen : Seen) → SeenIsDone (outline_of q job) p.number p.log seen → ArePartsOf q job (record p { posted = posted; seen = seen })

  abbrev pub StepsAlwaysKeepParts : Type 0
  StepsAlwaysKeepParts = (p : Parts Cell) → ArePartsOf q job p → StepsKeepParts p

  -- What is asked of the parts of a worker: that a host is informed, that owners and moves are known as far as was seen, that the host may give up the bin that is due to leave, and that a row that is still to come is of a time that isn't written
  pub record PartsAreAsked (p : Parts Cell) : Type 0 where
    pub informed : (j : ℕ) (h : Hosted Cell) → IsHostAt q job p.number p.log j h → HostMatchesLogAndSeen q job p.log p.seen h
    pub owners : (j : ℕ) → j < job.shape.stages → OwnersAreCurrent q job p.notes p.seen j
    pub moves : (j : ℕ) → KnowsMoves (outline_of q job) p.log p.notes p.seen p.number j
    pub leaves : (j b t : ℕ) (h : Hosted Cell) → j < job.shape.stages → IsHostAt q job p.number p.log j h → IsLeast (IsDueHere (outline_of q job) p.log p.seen p.number j) (Packet j b t) → HasReached (seen_at p.seen (Host j)) t
        → MayLeaveNow q job p.log h b t
    pub row_not_written : (t : ℕ) (g : Tag) → IsOwedTo (outline_of q job) p.number (Row t g) → has p.log.took (Row t g) ≡ false → has p.log.settled (Written t) ≡ false

  -- a worker begins with the empty log: nothing is noted, and no routers, hosts, movers and rows hold anything
  abbrev pub PartsBegin : Type 0
  PartsBegin =
      (w : ℕ) (seen : Seen) (notes : Notes) (c : Controlling) (routers : List Routed) (hosts : List (Hosted Cell)) (movers : List MoversState)
      → w < job.shape.workers
      → SeenIsDone (outline_of q job) w empty_log seen
      → notes.layout ≡ layout_of job
      → notes.noted ≡ []
      → (w ≡ 0 → IsNew job.paced job c)
      → length routers ≡ job.shape.stages
      → AtEach routers (IsRouterAt q job w empty_log)
      → length hosts ≡ job.shape.stages
      → AtEach hosts (IsHostAt q job w empty_log)
      → length movers ≡ job.shape.stages
      → AtEach movers (AreMoversAt q job w empty_log)
      → ArePartsOf q job (record { number = w; log = empty_log; posted = empty_log; seen = seen; notes = notes; controller = c; routers = routers; hosts = hosts; movers = movers; unsent = []; unwritten = [] })
