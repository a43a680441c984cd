-- What names tell of the records of stage 0.
use Rattle.std.proofs.Common.{◌≡◌, ℕ, ◌<◌, Option, None, Some, IsSomeAnd, refl, sym, subst, arith}
use Rattle.mp_names.specs.declared.names.Name.TheVariants.{Rec as RecName}
use Rattle.mp_names.specs.declared.names.Tag.{Tag}
use Rattle.mp_names.specs.Names.{In}
use Rattle.mp_names.proofs.NameParts.{same_parts}
use Rattle.mp_model.specs.declared.record.Rec.{Rec}
use Rattle.mp_model.specs.Facts.{JobFacts, QueryFacts}
use Rattle.mp_model.specs.QueryLaws.{HasStages}
use Rattle.mp_job.specs.Legal.{JobIsLegal}
use Rattle.mp_job.specs.Records.{record_at}
use Rattle.mp_outline.specs.JobOutline.{record_names}
use Rattle.mp_outline.specs.Laws.{HasParts, NamesTellInputs}
use Rattle.mp_outline.proofs.Records.{input_is, input_stands}
use Rattle.mp_outline.proofs.Stages.{name_stands, record_named}

-- what is there and keeps to something, as a value
there_is : {X : Type 0} (o : Option X) (P : X → Type 0) → IsSomeAnd o P → (x : X) × (o ≡ Some x) × P x
there_is None P h = absurd h
there_is (Some x) P h = (x, refl, h)

module _ {Cell : Type 0} (q : QueryFacts Cell) (job : JobFacts) where
  input_told : (t k : ℕ) (g : Tag) → In (RecName 0 t k g) (record_names q job 0) → IsSomeAnd (record_at q job.events g.1) (HasParts t k g)
  input_told t k g h =
      let a = record_named q job 0 (RecName 0 t k g) h in
      let r = a.0 in
      let c = same_parts 0 0 r.time t r.key k r.tag g a.2 in
      let is = subst (λ (f : Tag). record_at q job.events f.1 ≡ Some r) c.2 (input_is q job.events r a.1) in
      subst (λ (o : Option Rec). IsSomeAnd o (HasParts t k g)) (sym is) c

  told_input : 0 < job.shape.stages → (t k : ℕ) (g : Tag) → IsSomeAnd (record_at q job.events g.1) (HasParts t k g) → In (RecName 0 t k g) (record_names q job 0)
  told_input some t k g h =
      let a = there_is (record_at q job.events g.1) (HasParts t k g) h in
      let r = a.0 in
      let name = name_stands q job 0 r some (input_stands q job.events g.1 r a.1).0 in
      let timed = subst (λ (t : ℕ). In (RecName 0 t r.key r.tag) (record_names q job 0)) a.2.0 name in
      let keyed = subst (λ (k : ℕ). In (RecName 0 t k r.tag) (record_names q job 0)) a.2.1 timed in
      subst (λ (g : Tag). In (RecName 0 t k g) (record_names q job 0)) a.2.2 keyed

  pub names_tell_inputs : HasStages q → JobIsLegal q job → NamesTellInputs q job
  names_tell_inputs stages legal t k g =
      let same : job.shape.stages ≡ q.stages = legal.stages in
      let some : 0 < q.stages = stages.0 in
      (input_told t k g, told_input (omega arith) t k g)
