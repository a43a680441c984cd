use Rattle.std.proofs.Common.{◌≡◌, ◌∙◌, ℕ, All, ap, reverse, subst, sym}
use Rattle.std.proofs.lemmas.List.{reverse-reverse}
use Rattle.mp_msg.specs.Contents.{IsRecordOf}
use Rattle.mp_host_laws.specs.Hosted.{Hosted}
use Rattle.mp_names.specs.Logs.{LogIsLegal}
use Rattle.mp_outline.specs.JobOutline.{outline_of}
use Rattle.mp_host.proofs.Kept.{hosted_still, states_fit}
use Rattle.mp_host.proofs.Several.{same_host}
use Rattle.mp_host.proofs.host.Host.receive.Goals as goal
use Rattle.mp_host.proofs.host.Host.receive.Goals.{else-room-count-via-then-room-count+else-is_err, else-room-count-via-else-room-count}
use Rattle.mp_model.specs.Tables.{table_of}

pub keep_all-requires-clause-content : goal.keep_all-requires-clause-content
keep_all-requires-clause-content g c =
    let job = g.J.Naming.job in
    let q = table_of g.Q.Query.facts job in
    let items = ap reverse c.reverse.ensures.items ∙ reverse-reverse c.into_recs-recs.result.items ∙ c.into_recs-recs.ensures in
    let stage : c.else-room-count.self.stage ≡ c.args.self.now.stage = elim c.else-room-count.branch [
      | else-room-count-via-then-room-count+else-is_err w ↦ ap (λ (h : Hosted g.row.Q-Cell.Denot). h.stage) w.self-is ∙ ap (λ (h : Hosted g.row.Q-Cell.Denot). h.stage) c.self.view_is
      | else-room-count-via-else-room-count w ↦ ap (λ (h : Hosted g.row.Q-Cell.Denot). h.stage) w.self-is
    ] in
    λ _ _. subst (All (IsRecordOf q job c.else-room-count.self.stage)) (sym items) (subst (λ (n : ℕ). All (IsRecordOf q job n) c.args.bundle.recs) (sym stage) c.requires.content)

pub invariant_of-self-else-is_err : goal.invariant_of-self-else-is_err
invariant_of-self-else-is_err g c =
    let h = c.self.invariant in
    rw c.make_room.ensures.items (hosted_still _ _ _ _ _ _ _ _ h h.order.content h.order.records (states_fit _ _ _ _ h))

pub invariant_of-self : goal.invariant_of-self
invariant_of-self g c =
    let h = c.self.invariant in
    rw c.make_room.ensures.items (hosted_still _ _ _ _ _ _ _ _ h h.order.content h.order.records (states_fit _ _ _ _ h))

pub returns-clause-held : goal.returns-clause-held
returns-clause-held g c =
    let job = g.J.Naming.job in
    let q = table_of g.Q.Query.facts job in
    let items = ap reverse c.reverse.ensures.items ∙ reverse-reverse c.into_recs-recs.result.items ∙ c.into_recs-recs.ensures in
    let stage : c.else-room-count.self.stage ≡ c.args.self.now.stage = elim c.else-room-count.branch [
      | else-room-count-via-then-room-count+else-is_err w ↦ ap (λ (h : Hosted g.row.Q-Cell.Denot). h.stage) w.self-is ∙ ap (λ (h : Hosted g.row.Q-Cell.Denot). h.stage) c.self.view_is
      | else-room-count-via-else-room-count w ↦ ap (λ (h : Hosted g.row.Q-Cell.Denot). h.stage) w.self-is
    ] in
    let worker : c.else-room-count.self.worker ≡ c.args.self.now.worker = elim c.else-room-count.branch [
      | else-room-count-via-then-room-count+else-is_err w ↦ ap (λ (h : Hosted g.row.Q-Cell.Denot). h.worker) w.self-is ∙ ap (λ (h : Hosted g.row.Q-Cell.Denot). h.worker) c.self.view_is
      | else-room-count-via-else-room-count w ↦ ap (λ (h : Hosted g.row.Q-Cell.Denot). h.worker) w.self-is
    ] in
    let records : c.else-room-count.self.records ≡ c.args.self.now.records = elim c.else-room-count.branch [
      | else-room-count-via-then-room-count+else-is_err w ↦ ap (λ (h : Hosted g.row.Q-Cell.Denot). h.records) w.self-is ∙ w.make_room.ensures.items ∙ ap (λ (h : Hosted g.row.Q-Cell.Denot). h.records) c.self.view_is
      | else-room-count-via-else-room-count w ↦ ap (λ (h : Hosted g.row.Q-Cell.Denot). h.records) w.self-is
    ] in
    let held : c.else-room-count.self.held ≡ c.args.self.now.held = elim c.else-room-count.branch [
      | else-room-count-via-then-room-count+else-is_err w ↦ ap (λ (h : Hosted g.row.Q-Cell.Denot). h.held) w.self-is ∙ ap (λ (h : Hosted g.row.Q-Cell.Denot). h.held) c.self.view_is
      | else-room-count-via-else-room-count w ↦ ap (λ (h : Hosted g.row.Q-Cell.Denot). h.held) w.self-is
    ] in
    λ log host good come.
    let moved = same_host q job log c.args.self.now c.else-room-count.self stage worker records held host in
    let took = c.keep_all.ensures.held log moved (subst (λ (n : ℕ). LogIsLegal (outline_of q job) n log) (sym worker) good) (rw (stage, worker, items) come) in
    rw (← stage, ← items) took
