-- The wakes that a bin has just before a time are those that are left.
use Rattle.std.proofs.Common.{◌≡◌, ◌↔◌, ◌⊎◌, ◌==◌, ℕ, ◌<◌, ◌≤◌, nat_lt, true, List, [], Contains, map, refl, sym, ap, ◌∙◌, subst, inr, ⊎_elim}
use Rattle.std.specs.List.{list_any}
use Rattle.std.proofs.lemmas.Bool.{eq-eqb, lt-ltb}
use Rattle.mp_names.specs.declared.names.Name.{Name}
use Rattle.mp_names.specs.declared.names.Name.TheVariants.{Rec as RecName}
use Rattle.mp_names.specs.declared.names.Tag.{Tag}
use Rattle.mp_names.specs.Names.{In}
use Rattle.mp_names.specs.Outlines.{is_posted}
use Rattle.mp_model.specs.declared.record.Rec.{Rec}
use Rattle.mp_model.specs.Facts.{JobFacts, QueryFacts}
use Rattle.mp_model.specs.QueryLaws.{LaterStagesPostNothing}
use Rattle.mp_model.specs.Stages.{stage_records}
use Rattle.mp_job.proofs.Members.{nothing_in_nil}
use Rattle.mp_outline.specs.JobOutline.{name_of_record, outline_of, record_names}
use Rattle.mp_outline.proofs.Named.{In_if, In_named, if_In, named_In}
use Rattle.mp_outline.proofs.Posts.{posts_are}
use Rattle.mp_restart_laws.specs.Saves.{IsLeft}
use Rattle.mp_restart_laws.proofs.Lists.{passes}
use Rattle.mp_restart_laws.proofs.Timelines.{posts_told}
use Rattle.mp_msg.specs.States.{IsOpening, IsPostedAt}

module _ {Cell : Type 0} (q : QueryFacts Cell) (job : JobFacts) (nothing : LaterStagesPostNothing q) (j k : ℕ) where
  abbrev rs : List Rec
  rs = stage_records q job.events j

  -- a record of the key and a time posts another
  abbrev IsPostedBy : ℕ → ℕ → Type 0
  IsPostedBy v u = (r : Rec) × Contains rs r × (r.key ≡ k) × (r.time ≡ v) × Contains (q.posts j r) u

  parts : (r : Rec) (v : ℕ) (g : Tag) → name_of_record j r ≡ RecName j v k g → (r.key ≡ k) × (r.time ≡ v)
  parts r v g e = ((cc), (cc))

  -- whether a record posts a time is told by its name
  told : (r : Rec) (u : ℕ) → Contains rs r → is_posted (outline_of q job) (name_of_record j r) u ≡ list_any (λ v. v == u) (q.posts j r)
  told r u i = ap (λ (ts : List ℕ). list_any (λ v. v == u) ts) (posts_are q nothing job.events j r i)

  by_record : (v u : ℕ) → IsPostedAt q job j k v u → IsPostedBy v u
  by_record v u h =
      let i = In_if (nat_lt j job.shape.stages) (map (name_of_record j) rs) (RecName j v k h.0) h.1 in
      let r = In_named (name_of_record j) rs (RecName j v k h.0) i.1 in
      let posted : is_posted (outline_of q job) (name_of_record j r.0) u ≡ true = subst (λ (x : Name). is_posted (outline_of q job) x u ≡ true) (sym r.2) h.2 in
      let e = parts r.0 v h.0 r.2 in
      (r.0, r.1, e.0, e.1, posts_told q j u r.0 (sym (told r.0 u r.1) ∙ posted))

  by_name : j < job.shape.stages → (r : Rec) (u : ℕ) → Contains rs r → r.key ≡ k → Contains (q.posts j r) u → IsPostedAt q job j k r.time u
  by_name l r u i e m =
      let same : name_of_record j r ≡ RecName j r.time k r.tag = ap (λ (n : ℕ). RecName j r.time n r.tag) e in
      let there = if_In (nat_lt j job.shape.stages) (map (name_of_record j) rs) (name_of_record j r) (lt-ltb j job.shape.stages l) (named_In (name_of_record j) rs r i) in (
        r.tag,
        subst (λ (x : Name). In x (record_names q job j)) same there,
        subst (λ (x : Name). is_posted (outline_of q job) x u ≡ true) same (told r u i ∙ passes (λ v. v == u) (q.posts j r) u m (eq-eqb u u refl)),
      )

  -- where the job begins with no wakes, those that were posted before a time are those that are left
  pub left_is : (t u : ℕ) → j < job.shape.stages → q.waking j ≡ [] → (((t ≤ u) × (IsOpening q j k u ⊎ ((v : ℕ) × (v < t) × IsPostedAt q job j k v u))) ↔ IsLeft q t j rs k u)
  left_is t u l none = (
    (λ h. ⊎_elim
        (λ (o : IsOpening q j k u). absurd (nothing_in_nil (u, k) (subst (λ (ws : List (ℕ × ℕ)). Contains ws (u, k)) none o)))
        (λ (p : (v : ℕ) × (v < t) × IsPostedAt q job j k v u). let a = by_record p.0 u p.2 in (h.0, a.0, a.1, a.2, subst (λ (v : ℕ). v < t) (sym a.3) p.1, a.4))
        h.1),
    (λ h. (h.0, inr ((h.1).time, h.4, by_name l h.1 u h.2 h.3 h.5))),
  )
