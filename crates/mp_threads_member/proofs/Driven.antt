-- What steps of a worker, one after the other, leave in a sink.
use Rattle.std.proofs.Common.{◌≡◌, ◌≢◌, ◌≤◌, ⊎_elim, Bool, true, false, ℕ, List, Ok, Err, IfErr, OnOk, Option, refl, sym, ap, ◌∙◌, subst, arith}
use Rattle.std.specs.Prelude.{is_some}
use Rattle.std.specs.declared.result.Result.{Result}
use Rattle.mp_names.specs.declared.kinds.Kind.{Kind}
use Rattle.mp_names.specs.declared.kinds.Kind.TheVariants.{Exchange, Write}
use Rattle.mp_names.specs.declared.names.Name.TheVariants.{Written}
use Rattle.mp_names.specs.Logs.{LogIsLegal, with_settled}
use Rattle.mp_names.specs.Outlines.{Outline}
use Rattle.mp_machine.specs.Promises.{LogIsFull}
use Rattle.mp_outside.specs.Sink.{Beside, OnlyAppends, grown}
use Rattle.mp_outside.proofs.SinkLemmas.{rose_later}
use Rattle.mp_model.specs.Answers.{one_thread_answer}
use Rattle.mp_model.specs.Facts.{JobFacts, QueryFacts}
use Rattle.mp_outline.specs.JobOutline.{outline_of}
use Rattle.mp_answer_laws.proofs.Written.{full_logs_answer}
use Rattle.mp_board.specs.declared.causes.Cause.{Cause}
use Rattle.mp_answer_laws.specs.Lines.{HasWritten}
use Rattle.mp_worker_refinement.specs.State.{CanMake}
use Rattle.mp_worker.specs.Below.{Stop}
use Rattle.mp_worker.specs.Below.stop
use Rattle.mp_worker.specs.Below.{Turn}
use Rattle.mp_worker.specs.Turns.{Answers}
use Rattle.mp_worker.specs.Writing.{WritesInTurn}
use Rattle.mp_threads_hub.specs.Hubs.{SeesCause}
use Rattle.mp_threads_member.specs.Members.{AnswersByMail, ExchangesBySeat, MemberState}
use Rattle.mp_threads_member.specs.Driving.{Drives, GoesOn, StopsBy}
use Rattle.mp_threads_member.specs.Rounds.{HasComeFurther, progress}
use Rattle.mp_threads_member.proofs.Stays.{number_stays}
use Rattle.mp_threads_member.proofs.Tried.{WasMade}
use Rattle.mp_threads_member.proofs.Written.{fault_counted, lines_follow, no_fault_counted, nothing_written, part_begins}

module _ {Cell S : Type 0} (q : QueryFacts Cell) (job : JobFacts) (written : S → Option (List ℕ)) (faults : S → ℕ) (frame : S → Beside) where
  -- No step, and more steps

  pub goes_none : (m : MemberState) (sink : S) → GoesOn q job written faults frame m m sink sink
  goes_none m sink = record {
    number = refl;
    keeps = refl;
    on = omega arith;
    lines = λ before had. had;
    nothing = λ other. refl;
    no_fault = refl;
    appends = record { same_frame = refl; faults_grow = omega arith };
  }

  further : (x y z : S) → OnlyAppends frame faults x y → OnlyAppends frame faults y z → OnlyAppends frame faults x z
  further x y z first then_on =
      let early = first.faults_grow in
      let late = then_on.faults_grow in
      record { same_frame = then_on.same_frame ∙ first.same_frame; faults_grow = omega arith }

  module _ (a b c : MemberState) (x y z : S) (first : GoesOn q job written faults frame a b x y) where
    still_other : a.worker.number ≢ 0 → b.worker.number ≢ 0
    still_other other e = other (sym first.number ∙ e)

    pub goes_further : GoesOn q job written faults frame b c y z → GoesOn q job written faults frame a c x z
    goes_further then_on = record {
      number = then_on.number ∙ first.number;
      keeps = then_on.keeps ∙ first.keeps;
      on = let early = first.on in let late = then_on.on in omega (arith, early, late);
      lines = λ before had. then_on.lines before (first.lines before had);
      nothing = λ other. then_on.nothing (still_other other) ∙ first.nothing other;
      no_fault = then_on.no_fault ∙ first.no_fault;
      appends = further x y z first.appends then_on.appends;
    }

    pub stops_later : (why : Stop) → StopsBy q job written faults frame why b c y z → StopsBy q job written faults frame why a c x z
    stops_later why then_on = record {
      number = then_on.number ∙ first.number;
      keeps = then_on.keeps ∙ first.keeps;
      part = λ zeroth before had. then_on.part (first.number ∙ zeroth) before (first.lines before had);
      nothing = λ other. then_on.nothing (still_other other) ∙ first.nothing other;
      failed = λ e. rose_later (faults x) (faults y) (faults z) first.appends.faults_grow (then_on.failed e);
      no_fault = λ isnt. then_on.no_fault isnt ∙ first.no_fault;
      appends = further x y z first.appends then_on.appends;
      saw = then_on.saw;
    }

    -- a worker that comes further in one part comes further in the whole
    pub further_first : HasComeFurther a b → GoesOn q job written faults frame b c y z → HasComeFurther a c
    further_first more then_on = let late = then_on.on in omega (arith, more, late)

    pub further_then : HasComeFurther b c → HasComeFurther a c
    further_then more = let early = first.on in omega (arith, early, more)

    pub further_of : GoesOn q job written faults frame b c y z → (made more all : Bool) → WasMade made more all → (made ≡ true → HasComeFurther a b) → (more ≡ true → HasComeFurther b c) → all ≡ true → HasComeFurther a c
    further_of then_on made more all is early late e =
        ⊎_elim
        (λ (t : (made ≡ true) × (all ≡ true)). further_first (early t.0) then_on)
        (λ (t : (made ≡ false) × (all ≡ more)). further_then (late (sym t.1 ∙ e)))
        is

  -- where worker 0 knows the end, the whole answer is written
  pub answer_written : (a b : MemberState) (x y : S) → GoesOn q job written faults frame a b x y → a.worker.number ≡ 0 → LogIsFull (outline_of q job) b.worker.number b.worker.log
      → (before : Option (List ℕ)) → HasWritten q job.events before a.worker.log (written x) → written y ≡ grown before (one_thread_answer q job.events)
  answer_written a b x y on zeroth full before had =
      on.lines before had
      ∙ ap (grown before) (full_logs_answer q job b.worker.log (subst (λ (w : ℕ). LogIsFull (outline_of q job) w b.worker.log) (on.number ∙ zeroth) full))

  -- One step

  module _ (had_room was_full was_empty : ℕ → ℕ → Type 0) (kind : Kind) (m now_m : MemberState) (old now : S) (others : kind ≢ Write → now ≡ old) (appends : OnlyAppends frame faults old now) where
    abbrev Says : Result Turn Stop → Type 0
    Says r = Answers had_room was_full was_empty (outline_of q job) kind m.worker now_m.worker r

    abbrev Leaves : Result Turn Stop → Type 0
    Leaves r = kind ≡ Write → WritesInTurn q job written faults m.worker old now r

    module _ (legal : LogIsLegal (outline_of q job) m.worker.number m.worker.log) (writing : (t : ℕ) → CanMake (outline_of q job) Write m.worker (Written t) → LogIsLegal (outline_of q job) 0 (with_settled m.worker.log (Written t))) where
      -- a step drives the worker
      pub step_drives : (r : Result Turn Stop) → Says r → Leaves r → OnOk r (progress m.worker ≤ progress now_m.worker) → IfErr r (λ why. (cause : Cause) → why ≡ stop.Other cause → SeesCause cause now_m.hub)
          → is_some now_m.worker.steps ≡ is_some m.worker.steps → Drives q job written faults frame r m now_m old now
      step_drives (Ok turn) says leaves on saw keeps = record {
        number = number_stays had_room was_full was_empty (outline_of q job) kind m.worker now_m.worker (Ok turn) says;
        keeps = keeps;
        on = on;
        lines = λ before had. lines_follow q job written faults had_room was_full was_empty kind m.worker now_m.worker old now others before had (Ok turn) says leaves;
        nothing = λ other. nothing_written q job written faults had_room was_full was_empty kind m.worker now_m.worker old now others other (Ok turn) says leaves;
        no_fault = no_fault_counted q job written faults had_room was_full was_empty kind m.worker now_m.worker old now others (Ok turn) (λ e. cc) says leaves;
        appends = appends;
      }
      step_drives (Err why) says leaves on saw keeps = record {
        number = number_stays had_room was_full was_empty (outline_of q job) kind m.worker now_m.worker (Err why) says;
        keeps = keeps;
        part = λ zeroth before had.
            part_begins q job written faults had_room was_full was_empty kind m.worker now_m.worker old now others before had (subst (λ (w : ℕ). LogIsLegal (outline_of q job) w m.worker.log) zeroth legal) writing (Err why) says leaves;
        nothing = λ other. nothing_written q job written faults had_room was_full was_empty kind m.worker now_m.worker old now others other (Err why) says leaves;
        failed = λ e.
            fault_counted q job written faults had_room was_full was_empty kind m.worker now_m.worker old now others
            (subst (λ (k : Stop). Says (Err k)) e says) (subst (λ (k : Stop). Leaves (Err k)) e leaves);
        no_fault = λ isnt. no_fault_counted q job written faults had_room was_full was_empty kind m.worker now_m.worker old now others (Err why) (λ e. isnt (stop_is why stop.Write e)) says leaves;
        appends = appends;
        saw = saw;
      }
        where
          stop_is : (a b : Stop) → ◌≡◌ {A = Result Turn Stop} (Err a) (Err b) → a ≡ b
          stop_is a b e = cc

-- who stops since another did, sees the cause at the seat
pub sees_why : (o : Outline) (kind : Kind) (old new : MemberState) (r : Result Turn Stop) → AnswersByMail o kind old new r → (kind ≡ Exchange → ExchangesBySeat o old new r) → IfErr r (λ why. (cause : Cause) → why ≡ stop.Other cause → SeesCause cause new.hub)
sees_why o kind old new (Ok turn) says board = tt
sees_why o kind old new (Err stop.Write) says board = λ cause e. absurd cc
sees_why o kind old new (Err stop.Memory) says board = λ cause e. absurd cc
sees_why o kind old new (Err (stop.Other why)) says board = λ cause e. subst (λ (k : Cause). SeesCause k new.hub) (cause_is why cause e) (board says.0).1
  where
    cause_is : (a b : Cause) → ◌≡◌ {A = Stop} (stop.Other a) (stop.Other b) → a ≡ b
    cause_is a b e = cc
