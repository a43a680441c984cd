-- What holds of the parts of a worker, whatever the query and the job.
use Rattle.std.specs.Prelude.{◌≡◌, ℕ, suc, ◌-◌, ◌<◌, ◌≤◌, false, List, [], ◌∷◌, ◌++◌, All, Contains, None, Some, drop, length, map, slice_get}
use Rattle.mp_names.specs.declared.kinds.Kind.{Kind}
use Rattle.mp_names.specs.declared.kinds.Kind.TheVariants.{Ingest, SendControl, Route, Extract, Settle, Apply, SendRow, Write}
use Rattle.mp_names.specs.declared.locations.Loc.{Loc}
use Rattle.mp_names.specs.declared.locations.Loc.TheVariants.{CtlMail, Host as HostLoc, OutMail}
use Rattle.mp_names.specs.declared.names.Name.{Name}
use Rattle.mp_names.specs.declared.names.Name.TheVariants.{Ctrl, Group, Packet, Settled, Written}
use Rattle.mp_names.specs.Names.{has, In, IsLeast, IsPrefix, is_packet, is_rec, is_row, is_written}
use Rattle.mp_names.specs.Outlines.{IsOwedBy, IsOwedTo, Outline, share}
use Rattle.mp_names.specs.Logs.{Log, LogGrows, LogIsLegal, with_applied, with_ingested, with_sent, with_settled, with_took}
use Rattle.mp_names.specs.Frontiers.{HasPassed, HasReached}
use Rattle.mp_names.specs.Keeping.{IsHeld, IsUnsettled, IsUnwritten}
use Rattle.mp_names.specs.Locations.{IsLocation}
use Rattle.mp_machine.specs.Steps.{IsNext, IsReady, KindFits}
use Rattle.mp_machine.specs.Worlds.{Worker}
use Rattle.mp_stamps.specs.declared.seen.Seen.{Seen}
use Rattle.mp_stamps.specs.Seen.{SeenIsDone, seen_at}
use Rattle.mp_model.specs.declared.record.Output.{Output}
use Rattle.mp_model.specs.declared.record.Rec.{Rec}
use Rattle.mp_model.specs.Facts.{JobFacts, QueryFacts}
use Rattle.mp_model.specs.declared.value.Value.{Value}
use Rattle.mp_model.specs.Folds.{outputs_at}
use Rattle.mp_model.specs.Stages.{answer_rows}
use Rattle.mp_job.specs.Records.{record_at, share_of}
use Rattle.mp_ordered.specs.InOrder.{IsInOrder, put_in_order}
use Rattle.mp_outline.specs.JobOutline.{name_of_record, name_of_row, outline_of}
use Rattle.mp_msg.specs.Contents.{IsRecordOf}
use Rattle.mp_controller.specs.Controlling.{GoesNow}
use Rattle.mp_route.specs.Routed.{Routed}
use Rattle.mp_route.specs.Unsent.{HoldsAllBut, HoldsOneMore, HoldsUnsent, MayGo}
use Rattle.mp_output.specs.Holding.{HoldsUnwritten}
use Rattle.mp_output.specs.Unwritten.{place_rank}
use Rattle.mp_host_laws.specs.Hosted.{Hosted}
use Rattle.mp_host_laws.specs.HostOf.{IsHostOf, IsReadyAt}
use Rattle.mp_handoff.specs.Due.{IsDueHere}
use Rattle.mp_worker_invariant.specs.Given.{output_at, outputs_given, records_made}
use Rattle.mp_worker_invariant.specs.Machine.{machine_worker}
use Rattle.mp_worker_invariant.specs.Parts.{HoldsRowsBut, Parts}

-- What is no concern of the answer rows that are to be written: all but rows that are taken and times that are written
pub record UnwrittenStay : Type 0 where
  pub ingested : (log : Log) (rows : List Output) (x : Name) → HoldsUnwritten log rows → HoldsUnwritten (with_ingested log x) rows
  pub sent : (log : Log) (rows : List Output) (x : Name) → HoldsUnwritten log rows → HoldsUnwritten (with_sent log x) rows
  pub took : (log : Log) (rows : List Output) (x : Name) → is_row x ≡ false → HoldsUnwritten log rows → HoldsUnwritten (with_took log x) rows
  pub applied : (log : Log) (rows : List Output) (x : Name) → HoldsUnwritten log rows → HoldsUnwritten (with_applied log x) rows
  pub settled : (log : Log) (rows : List Output) (x : Name) → is_written x ≡ false → HoldsUnwritten log rows → HoldsUnwritten (with_settled log x) rows

-- the conditions of a step that the outline has are told by the log and by what is seen of the outline's locations: they are true of two workers that have these in common, or of neither
abbrev pub ConditionsAgree : Type 0
ConditionsAgree =
    (o : Outline) (w : ℕ) (kind : Kind) (x : Name) (a b : Worker)
    → KindFits o kind
    → a.log ≡ b.log
    → ((at : Loc) → IsLocation o.stages at → a.seen at ≡ b.seen at)
    → IsNext o w a kind x × IsReady o w a kind x
    → IsNext o w b kind x × IsReady o w b kind x

module _ {Cell : Type 0} (q : QueryFacts Cell) (job : JobFacts) where
  -- What is no concern of a host: all but the records and packets of its stage, and the groups of its stage that are applied
  pub record HostsStay : Type 0 where
    pub ingested : (log : Log) (h : Hosted Cell) (x : Name) → IsHostOf q job log h → IsHostOf q job (with_ingested log x) h
    pub sent : (log : Log) (h : Hosted Cell) (x : Name) → is_packet h.stage x ≡ false → IsHostOf q job log h → IsHostOf q job (with_sent log x) h
    pub took : (log : Log) (h : Hosted Cell) (x : Name) → is_rec h.stage x ≡ false → is_packet h.stage x ≡ false → IsHostOf q job log h → IsHostOf q job (with_took log x) h
    pub applied : (log : Log) (h : Hosted Cell) (i t k : ℕ) → (i ≡ h.stage → ⊥) → IsHostOf q job log h → IsHostOf q job (with_applied log (Group i t k)) h
    pub settled : (log : Log) (h : Hosted Cell) (x : Name) → IsHostOf q job log h → IsHostOf q job (with_settled log x) h

  -- What is no concern of a router: all but the records of its stage that are sent, and what gives it records: in stage 0 what is ingested, in a later one the groups of the stage before it
  pub record RoutersStay (w : ℕ) (rest : List Name) : Type 0 where
    pub ingested : (log : Log) (h : Routed) (x : Name) → (h.stage ≡ 0 → ⊥) → HoldsAllBut q job w log rest h → HoldsAllBut q job w (with_ingested log x) rest h
    pub sent : (log : Log) (h : Routed) (x : Name) → is_rec h.stage x ≡ false → HoldsAllBut q job w log rest h → HoldsAllBut q job w (with_sent log x) rest h
    pub took : (log : Log) (h : Routed) (x : Name) → HoldsAllBut q job w log rest h → HoldsAllBut q job w (with_took log x) rest h
    pub applied : (log : Log) (h : Routed) (i t k : ℕ) → (h.stage ≡ suc i → ⊥) → HoldsAllBut q job w log rest h → HoldsAllBut q job w (with_applied log (Group i t k)) rest h
    pub settled : (log : Log) (h : Routed) (x : Name) → HoldsAllBut q job w log rest h → HoldsAllBut q job w (with_settled log x) rest h

  -- What is no concern of the answer rows that are to be sent: all but rows that are sent, and the groups of the last stage
  pub record UnsentRowsStay (w : ℕ) (rest : List Name) : Type 0 where
    pub ingested : (log : Log) (rows : List Output) (x : Name) → HoldsRowsBut q job w log rest rows → HoldsRowsBut q job w (with_ingested log x) rest rows
    pub sent : (log : Log) (rows : List Output) (x : Name) → is_row x ≡ false → HoldsRowsBut q job w log rest rows → HoldsRowsBut q job w (with_sent log x) rest rows
    pub took : (log : Log) (rows : List Output) (x : Name) → HoldsRowsBut q job w log rest rows → HoldsRowsBut q job w (with_took log x) rest rows
    pub applied : (log : Log) (rows : List Output) (i t k : ℕ) → (i ≡ job.shape.stages - 1 → ⊥) → HoldsRowsBut q job w log rest rows → HoldsRowsBut q job w (with_applied log (Group i t k)) rest rows
    pub settled : (log : Log) (rows : List Output) (x : Name) → HoldsRowsBut q job w log rest rows → HoldsRowsBut q job w (with_settled log x) rest rows

  -- what was seen to be over is over in a log that grew
  abbrev pub SeenStaysDone : Type 0
  SeenStaysDone = (w : ℕ) (old new : Log) (seen : Seen) → LogGrows old new → SeenIsDone (outline_of q job) w old seen → SeenIsDone (outline_of q job) w new seen

  -- Each step keeps the log of its worker legal, by what the parts say of it
  pub record StepsStayLegal (w : ℕ) (log : Log) (seen : Seen) : Type 0 where
    pub ingest : (x : Name) → IsPrefix (log.ingested ++ x ∷ []) (share (outline_of q job) w) → LogIsLegal (outline_of q job) w (with_ingested log x)
    pub send_control : (i v : ℕ) → w ≡ 0 → i < length job.controls → v < job.shape.workers → has log.sent (Ctrl i v) ≡ false → LogIsLegal (outline_of q job) w (with_sent log (Ctrl i v))
    pub extract : (j b t : ℕ) → IsLeast (IsDueHere (outline_of q job) log seen w j) (Packet j b t) → HasReached (seen_at seen (HostLoc j)) t → LogIsLegal (outline_of q job) w (with_sent log (Packet j b t))
    pub settle : (j t : ℕ) → IsLeast (IsUnsettled (outline_of q job) log j) (Settled j t) → HasPassed (seen_at seen CtlMail) t → ((b : ℕ) → IsOwedBy (outline_of q job) w (Packet j b t) → In (Packet j b t) log.sent) → LogIsLegal (outline_of q job) w (with_settled log (Settled j t))
    pub route : (j : ℕ) (x : Name) → MayGo q job w log j seen x → LogIsLegal (outline_of q job) w (with_sent log x)
    pub receive : (x : Name) → IsOwedTo (outline_of q job) w x → has log.took x ≡ false → LogIsLegal (outline_of q job) w (with_took log x)
    pub apply : (h : Hosted Cell) (t k : ℕ) → h.worker ≡ w → h.stage < job.shape.stages → IsReadyAt q job log seen h t k → LogIsLegal (outline_of q job) w (with_applied log (Group h.stage t k))
    pub send_row : (x : Name) → IsLeast (IsHeld (outline_of q job) w log is_row) x → LogIsLegal (outline_of q job) w (with_sent log x)
    pub write : (t : ℕ) → w ≡ 0 → IsLeast (IsUnwritten log) (Written t) → HasPassed (seen_at seen OutMail) t → LogIsLegal (outline_of q job) w (with_settled log (Written t))

  abbrev pub StepsAlwaysStayLegal : Type 0
  StepsAlwaysStayLegal =
      (w : ℕ) (log : Log) (seen : Seen) → w < job.shape.workers → LogIsLegal (outline_of q job) w log → SeenIsDone (outline_of q job) w log seen → StepsStayLegal w log seen

  -- What ingesting does to the router of stage 0, and which record is ingested next: that of the index at the next place of the job's share
  pub record SharesAreIngested (w : ℕ) (log : Log) : Type 0 where
    pub is_new : (x : Name) → IsPrefix (log.ingested ++ x ∷ []) (share (outline_of q job) w) → In x (share (outline_of q job) w) × (has log.ingested x ≡ false)
    pub one_more : (x : Name) → IsPrefix (log.ingested ++ x ∷ []) (share (outline_of q job) w) → HoldsOneMore q job w log (with_ingested log x) 0 x
    pub next : (n i : ℕ) (r : Rec) → n ≡ length log.ingested → slice_get (share_of q job.events job.shape.workers w) n ≡ Some i → record_at q job.events i ≡ Some r
        → IsPrefix (log.ingested ++ name_of_record 0 r ∷ []) (share (outline_of q job) w) × IsRecordOf q job 0 r
    pub over : (n : ℕ) → n ≡ length log.ingested → slice_get (share_of q job.events job.shape.workers w) n ≡ None → (x : Name) → IsPrefix (log.ingested ++ x ∷ []) (share (outline_of q job) w) → ⊥

  -- What a group that waits gives as it is applied: records of the next stage for its router, and in the last stage rows of the answer
  pub record GroupsHandOn (w : ℕ) (log : Log) (j t k : ℕ) : Type 0 where
    pub record_is : suc j < job.shape.stages → All (IsRecordOf q job (suc j)) (records_made q j (outputs_given q job j t k))
    pub router : suc j < job.shape.stages → (h : Routed) → h.stage ≡ suc j → HoldsUnsent q job w log h
        → HoldsAllBut q job w (with_applied log (Group j t k)) (map (name_of_record (suc j)) (records_made q j (outputs_given q job j t k))) h
    pub row_is : suc j ≡ job.shape.stages → All (Contains (answer_rows q job.events)) (outputs_given q job j t k)
    pub rows : suc j ≡ job.shape.stages → (rows : List Output) → HoldsRowsBut q job w log [] rows
        → HoldsRowsBut q job w (with_applied log (Group j t k)) (map name_of_row (outputs_given q job j t k)) rows

  -- What a group gives goes in turn: from a place on there is the output of the value there, and behind it those of the later ones, and so it is with the records that they make. A row of which only the name is held goes to its place among the others
  pub record OutputsGoInTurn : Type 0 where
    pub outputs : (t k i : ℕ) (values : List Value) (v : Value) → slice_get values i ≡ Some v → drop i (outputs_at t k values) ≡ output_at t k i v ∷ drop (suc i) (outputs_at t k values)
    pub over : (t k i : ℕ) (values : List Value) → length values ≤ i → drop i (outputs_at t k values) ≡ []
    pub records : (j t k i : ℕ) (values : List Value) (v : Value) (key : ℕ) → slice_get values i ≡ Some v → q.key (suc j) t v ≡ Some key
        → records_made q j (drop i (outputs_at t k values)) ≡ record { time = t; key = key; tag = record { 0 = k; 1 = i }; value = v } ∷ records_made q j (drop (suc i) (outputs_at t k values))
    pub rows : (w : ℕ) (log : Log) (row : Output) (rest : List Name) (rows : List Output) → HoldsRowsBut q job w log (name_of_row row ∷ rest) rows → HoldsRowsBut q job w log rest (put_in_order place_rank row rows)

  -- Of answer rows that are to be sent the first is the least by the log, and gone once it is sent
  pub record FirstRowsAreSent (w : ℕ) (log : Log) : Type 0 where
    pub least : (row : Output) (rest : List Output) → IsInOrder place_rank (row ∷ rest) → HoldsRowsBut q job w log [] (row ∷ rest) → IsLeast (IsHeld (outline_of q job) w log is_row) (name_of_row row)
    pub sent : (row : Output) (rest : List Output) → HoldsRowsBut q job w log [] (row ∷ rest) → HoldsRowsBut q job w (with_sent log (name_of_row row)) [] rest
    pub none : HoldsRowsBut q job w log [] [] → (x : Name) → IsHeld (outline_of q job) w log is_row x → ⊥

  -- the condition of a step is true of the worker of the machine that these are the parts of
  abbrev pub CanDo : Parts Cell → Kind → Name → Type 0
  CanDo p kind x = IsNext (outline_of q job) p.number (machine_worker p) kind x × IsReady (outline_of q job) p.number (machine_worker p) kind x

  -- What the parts say of the conditions of steps
  pub record ConditionsAreTold (p : Parts Cell) : Type 0 where
    pub ingest : (x : Name) → IsPrefix (p.log.ingested ++ x ∷ []) (share (outline_of q job) p.number) → CanDo p Ingest x
    pub no_ingest : ((x : Name) → IsPrefix (p.log.ingested ++ x ∷ []) (share (outline_of q job) p.number) → ⊥) → (x : Name) → CanDo p Ingest x → ⊥
    pub send_control : (x : Name) → p.number ≡ 0 → GoesNow p.controller p.seen x → CanDo p SendControl x
    pub no_send_control : (p.number ≡ 0 → (x : Name) → GoesNow p.controller p.seen x → ⊥) → (x : Name) → CanDo p SendControl x → ⊥
    pub extract : (j b t : ℕ) → j < job.shape.stages → IsLeast (IsDueHere (outline_of q job) p.log p.seen p.number j) (Packet j b t) → HasReached (seen_at p.seen (HostLoc j)) t → CanDo p (Extract j) (Packet j b t)
    pub no_extract : (j : ℕ) → ((b t : ℕ) → IsLeast (IsDueHere (outline_of q job) p.log p.seen p.number j) (Packet j b t) → HasReached (seen_at p.seen (HostLoc j)) t → ⊥) → (x : Name) → CanDo p (Extract j) x → ⊥
    pub settle : (j t : ℕ) → IsLeast (IsUnsettled (outline_of q job) p.log j) (Settled j t) → HasPassed (seen_at p.seen CtlMail) t → ((b : ℕ) → IsOwedBy (outline_of q job) p.number (Packet j b t) → In (Packet j b t) p.log.sent) → CanDo p (Settle j) (Settled j t)
    pub no_settle : (j : ℕ) → ((t : ℕ) → IsLeast (IsUnsettled (outline_of q job) p.log j) (Settled j t) → HasPassed (seen_at p.seen CtlMail) t → ((b : ℕ) → IsOwedBy (outline_of q job) p.number (Packet j b t) → In (Packet j b t) p.log.sent) → ⊥) → (x : Name) → CanDo p (Settle j) x → ⊥
    pub route : (j : ℕ) (x : Name) → MayGo q job p.number p.log j p.seen x → CanDo p (Route j) x
    pub no_route : (j : ℕ) → ((x : Name) → MayGo q job p.number p.log j p.seen x → ⊥) → (x : Name) → CanDo p (Route j) x → ⊥
    pub apply : (h : Hosted Cell) (t k : ℕ) → h.worker ≡ p.number → IsReadyAt q job p.log p.seen h t k → CanDo p (Apply h.stage) (Group h.stage t k)
    pub no_apply : (h : Hosted Cell) → h.worker ≡ p.number → ((t k : ℕ) → IsReadyAt q job p.log p.seen h t k → ⊥) → (x : Name) → CanDo p (Apply h.stage) x → ⊥
    pub send_row : (x : Name) → IsLeast (IsHeld (outline_of q job) p.number p.log is_row) x → CanDo p SendRow x
    pub no_send_row : ((x : Name) → IsHeld (outline_of q job) p.number p.log is_row x → ⊥) → (x : Name) → CanDo p SendRow x → ⊥
    pub write : (t : ℕ) → p.number ≡ 0 → IsLeast (IsUnwritten p.log) (Written t) → HasPassed (seen_at p.seen OutMail) t → CanDo p Write (Written t)
    pub no_write : (p.number ≡ 0 → (t : ℕ) → IsLeast (IsUnwritten p.log) (Written t) → HasPassed (seen_at p.seen OutMail) t → ⊥) → (x : Name) → CanDo p Write x → ⊥
