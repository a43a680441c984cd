-- What stands in the lists of the outline of a job.
use Rattle.std.proofs.Common.{◌≡◌, ℕ, ◌<◌, ◌==◌, nat_lt, true, List, map, Contains, sym, subst, ⊎_elim}
use Rattle.std.specs.List.{list_any}
use Rattle.std.proofs.lemmas.Bool.{lt-ltb, ltb-true}
use Rattle.mp_names.specs.declared.names.Name.{Name}
use Rattle.mp_names.specs.declared.names.Name.TheVariants.{Group}
use Rattle.mp_names.specs.Names.{In}
use Rattle.mp_names.specs.Outlines.{groups_of, is_posted}
use Rattle.mp_names.proofs.Listed.{opening_group, posted_group, record_group}
use Rattle.mp_model.specs.declared.record.Rec.{Rec}
use Rattle.mp_model.specs.Facts.{JobFacts, QueryFacts}
use Rattle.mp_model.specs.Folds.{waking_of}
use Rattle.mp_model.specs.QueryLaws.{LaterStagesPostNothing}
use Rattle.mp_model.specs.Stages.{stage_records}
use Rattle.mp_job.proofs.Members.{Contains-cases}
use Rattle.mp_outline.specs.JobOutline.{name_of_record, outline_of, record_names}
use Rattle.mp_outline.proofs.Named.{if_In, In_if, In_named, named_In}
use Rattle.mp_outline.proofs.Outputs.{HasGroup, IsMadeBy}
use Rattle.mp_outline.proofs.Posts.{posts_are}
use Rattle.mp_outline.proofs.Numbers.{any_Contains, Contains_any}
use Rattle.mp_outline.proofs.Waking.{wake_stands, waking_is}

module _ {Cell : Type 0} (q : QueryFacts Cell) (job : JobFacts) where
  -- a name of a stage is that of a record, and the stage is there
  pub record_named : (j : ℕ) (x : Name) → In x (record_names q job j) → (r : Rec) × Contains (stage_records q job.events j) r × (name_of_record j r ≡ x) × (j < job.shape.stages)
  record_named j x h =
      let names = map (name_of_record j) (stage_records q job.events j) in
      let a = In_if (nat_lt j job.shape.stages) names x h in
      let b = In_named (name_of_record j) (stage_records q job.events j) x a.1 in
      (b.0, b.1, b.2, ltb-true j job.shape.stages a.0)

  -- each record of a stage that is there has its name
  pub name_stands : (j : ℕ) (r : Rec) → j < job.shape.stages → Contains (stage_records q job.events j) r → In (name_of_record j r) (record_names q job j)
  name_stands j r l h =
      let names = map (name_of_record j) (stage_records q job.events j) in
      if_In (nat_lt j job.shape.stages) names (name_of_record j r) (lt-ltb j job.shape.stages l) (named_In (name_of_record j) (stage_records q job.events j) r h)

module _ {Cell : Type 0} (q : QueryFacts Cell) (nothing : LaterStagesPostNothing q) (job : JobFacts) where
  -- a record posts what its name posts
  pub post_named : (j : ℕ) (r : Rec) (u : ℕ) → Contains (stage_records q job.events j) r → is_posted (outline_of q job) (name_of_record j r) u ≡ true → Contains (q.posts j r) u
  post_named j r u h p = any_Contains (q.posts j r) u (subst (λ (ts : List ℕ). list_any (λ v. v == u) ts ≡ true) (posts_are q nothing job.events j r h) p)

  pub name_posts : (j : ℕ) (r : Rec) (u : ℕ) → Contains (stage_records q job.events j) r → Contains (q.posts j r) u → is_posted (outline_of q job) (name_of_record j r) u ≡ true
  name_posts j r u h i = subst (λ (ts : List ℕ). list_any (λ v. v == u) ts ≡ true) (sym (posts_are q nothing job.events j r h)) (Contains_any (q.posts j r) u i)

  made_named : (j k t : ℕ) → j < job.shape.stages → IsMadeBy q j (stage_records q job.events j) k t → In (Group j t k) (groups_of (outline_of q job) j)
  made_named j k t l h =
      let o = outline_of q job in
      let name = name_stands q job j h.0 l h.1 in
      subst
      (λ (k : ℕ). In (Group j t k) (groups_of o j))
      h.2
      (⊎_elim
      (λ (e : h.0.time ≡ t). subst (λ (t : ℕ). In (Group j t h.0.key) (groups_of o j)) e (record_group o j h.0.time h.0.key h.0.tag name))
      (λ (i : Contains (q.posts j h.0) t). posted_group o j h.0.time h.0.key t h.0.tag name (name_posts j h.0 t h.1 i))
      (Contains-cases h.0.time t (q.posts j h.0) h.3))

  -- a group of a wake or of a record is one of the outline
  pub group_named : (j k t : ℕ) → j < job.shape.stages → HasGroup q j (stage_records q job.events j) k t → In (Group j t k) (groups_of (outline_of q job) j)
  group_named j k t l h =
      ⊎_elim
      (λ (i : Contains (waking_of q j k) t). opening_group (outline_of q job) j (Group j t k) (wake_stands q job j (t, k) l (waking_is q j k t i)))
      (λ (m : IsMadeBy q j (stage_records q job.events j) k t). made_named j k t l m)
      h
