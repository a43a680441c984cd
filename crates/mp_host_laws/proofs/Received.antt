-- A host that receives a record holds what its worker's log says with that record taken.
use Rattle.std.proofs.Common.{◌≡◌, ◌≢◌, ◌↔◌, ℕ, Option, None, Some, false, true, [], ◌∷◌, ◌++◌, AllPairs, Contains, refl, sym, subst, inl, inr, ⊎_elim}
use Rattle.std.proofs.lemmas.Bool.{both_ways, eq-eqb, false_from_ne_true, false≢true}
use Rattle.std.proofs.lemmas.List.Elements.{All-weaker}
use Rattle.mp_names.specs.declared.names.Name.{Name}
use Rattle.mp_names.specs.declared.names.Name.TheVariants.{Group, Packet}
use Rattle.mp_names.specs.Names.{has, In, is_packet}
use Rattle.mp_names.specs.Logs.{Log, LogIsLegal, with_took}
use Rattle.mp_names.proofs.Lists.{In_left, In_push}
use Rattle.mp_names.proofs.NameParts.{same_parts}
use Rattle.mp_model.specs.declared.record.Rec.{Rec}
use Rattle.mp_model.specs.Facts.{JobFacts, QueryFacts}
use Rattle.mp_ordered.specs.InOrder.{put_in_order}
use Rattle.mp_outline.specs.JobOutline.{name_of_record, outline_of}
use Rattle.mp_outline.proofs.Pairs.{AllPairs-Pairs}
use Rattle.mp_outline.proofs.Records.{same_record}
use Rattle.mp_outline.proofs.Stages.{name_stands}
use Rattle.mp_msg.specs.Contents.{IsRecordOf}
use Rattle.mp_host_laws.specs.Hosted.{Hosted, group_rank}
use Rattle.mp_host_laws.specs.Applying.{IsReceived}
use Rattle.mp_host_laws.specs.HostOf.{IsHostOf, IsInHandSince, IsStateOf}
use Rattle.mp_host_laws.specs.Laws.{RecordsAreHeld}
use Rattle.mp_host_laws.proofs.Lists.{Contains-put, Pairs-AllPairs, Pairs-put, put-Contains}
use Rattle.mp_host_laws.proofs.Logs.{push_has}
use Rattle.mp_host_laws.proofs.Holding.{by_parts, state_same}

module _ {Cell : Type 0} (q : QueryFacts Cell) (job : JobFacts) where
  -- a record is no packet, so it brings no state
  brings_none : (w : ℕ) (log : Log) (j : ℕ) (r : Rec) (b : ℕ) (since : Option ℕ) → (IsInHandSince q job w log j b since ↔ IsInHandSince q job w (with_took log (name_of_record j r)) j b since)
  brings_none w log j r b None = ((λ own. own), (λ own. own))
  brings_none w log j r b (Some m) = (
    (λ own. (In_left (Packet j b m) log.took (name_of_record j r ∷ []) own.0, own.1)),
    (λ own. (
      ⊎_elim
          (λ (i : In (Packet j b m) log.took). i)
          (λ (e : name_of_record j r ≡ Packet j b m). absurd (false≢true (subst (λ (y : Name). is_packet j y ≡ true) (sym e) (eq-eqb j j refl))))
          (In_push (Packet j b m) (name_of_record j r) log.took own.0),
      own.1,
    )),
  )

  -- records of a stage with one name are one record
  pub one_record : (j : ℕ) (r s : Rec) → IsRecordOf q job j r → IsRecordOf q job j s → name_of_record j r ≡ name_of_record j s → r ≡ s
  one_record j r s a b e =
      let parts = same_parts j j r.time s.time r.key s.key r.tag s.tag e in
      same_record q job.events j r s a.1 b.1 parts.0 parts.2

  module _ (log : Log) (r : Rec) (old new : Hosted Cell) (host : IsHostOf q job log old) (legal : LogIsLegal (outline_of q job) old.worker log) (of_stage : IsRecordOf q job old.stage r) (unseen : has log.took (name_of_record old.stage r) ≡ false) (received : IsReceived r old new) where
    -- the group of a record that wasn't taken isn't applied
    waits : has log.applied (Group old.stage r.time r.key) ≡ false
    waits =
        false_from_ne_true (has log.applied (Group old.stage r.time r.key)) (λ e.
        let name = name_stands q job old.stage r of_stage.0 of_stage.1 in
        both_ways (has log.took (name_of_record old.stage r)) unseen ((legal.applied_ready (Group old.stage r.time r.key) e).1 r.tag name))

    members : (s : Rec) → (Contains (put_in_order group_rank r old.records) s ↔ (IsRecordOf q job old.stage s × In (name_of_record old.stage s) (log.took ++ name_of_record old.stage r ∷ []) × (has log.applied (Group old.stage s.time s.key) ≡ false)))
    members s = (
      (λ i.
          ⊎_elim
          (λ (e : r ≡ s). subst (λ (s : Rec). IsRecordOf q job old.stage s × In (name_of_record old.stage s) (log.took ++ name_of_record old.stage r ∷ []) × (has log.applied (Group old.stage s.time s.key) ≡ false)) e (of_stage, push_has log.took (name_of_record old.stage r), waits))
          (λ (m : Contains old.records s). let a = (host.records s).0 m in (a.0, In_left (name_of_record old.stage s) log.took (name_of_record old.stage r ∷ []) a.1, a.2))
          (Contains-put group_rank r old.records s i)),
      (λ a.
          put-Contains group_rank r old.records s
          (⊎_elim
          (λ (i : In (name_of_record old.stage s) log.took). inr ((host.records s).1 (a.0, i, a.2)))
          (λ (e : name_of_record old.stage r ≡ name_of_record old.stage s). inl (one_record old.stage r s of_stage a.0 e))
          (In_push (name_of_record old.stage s) (name_of_record old.stage r) log.took a.1))),
    )

    once : AllPairs (λ (s t : Rec). s ≢ t) (put_in_order group_rank r old.records)
    once =
        AllPairs-Pairs (λ (s t : Rec). s ≢ t) (put_in_order group_rank r old.records)
        (Pairs-put group_rank (λ (s t : Rec). s ≢ t) (λ s t apart e. apart (sym e)) r old.records
        (λ s i e. both_ways (has log.took (name_of_record old.stage r)) unseen (subst (λ (z : Rec). In (name_of_record old.stage z) log.took) (sym e) ((host.records s).0 i).1))
        (Pairs-AllPairs (λ (s t : Rec). s ≢ t) old.records host.once))

    pub received_held : IsHostOf q job (with_took log (name_of_record old.stage r)) new
    received_held =
        let after = with_took log (name_of_record old.stage r) in
        let brings = λ (b : ℕ) (since : Option ℕ). brings_none old.worker log old.stage r b since in
        by_parts (IsHostOf q job after) new old.stage old.worker (put_in_order group_rank r old.records) old.held received.stage received.worker received.records received.held
        (record {
          moves = record { packets = host.moves.packets; groups = host.moves.groups };
          records = members;
          once = once;
          held = λ b since. ((λ i. (brings b since).0 ((host.held b since).0 i)), (λ own. (host.held b since).1 ((brings b since).1 own)));
          held_once = host.held_once;
          states = All-weaker (IsStateOf q job log old.stage) (IsStateOf q job after old.stage) (λ s is. state_same q job log after refl old.stage s is) old.held host.states;
        })

  pub records_are_held : RecordsAreHeld q job
  records_are_held log r old new host legal of_stage unseen received = received_held log r old new host legal of_stage unseen received
