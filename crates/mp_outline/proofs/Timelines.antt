-- The groups of the outline of a job are those on the timelines of its keys, and are woken where those are.
use Rattle.std.proofs.Common.{◌≡◌, ℕ, ◌==◌, ◌&&◌, ◌||◌, Bool, true, false, cond, nat_lt, List, [], ◌∷◌, filter, map, Contains, refl, sym, ap, ◌∙◌, subst, subst₂, inl, inr, ⊎_elim}
use Rattle.std.specs.List.{list_any}
use Rattle.std.proofs.lemmas.Bool.{cond-true, lt-ltb}
use Rattle.mp_names.specs.declared.names.Name.{Name}
use Rattle.mp_names.specs.declared.names.Name.TheVariants.{Rec as RecName, Group}
use Rattle.mp_names.specs.Laws.{IsMade}
use Rattle.mp_names.specs.Names.{has, In}
use Rattle.mp_names.specs.Outlines.{groups_of, is_posted, Outline, OutlineIsSound, wakes}
use Rattle.mp_names.proofs.Listed.{group_cause}
use Rattle.mp_names.proofs.NameParts.{same_group, same_parts}
use Rattle.mp_model.specs.declared.record.Rec.{Rec}
use Rattle.mp_model.specs.Facts.{JobFacts, QueryFacts}
use Rattle.mp_model.specs.Folds.{waking_of}
use Rattle.mp_model.specs.QueryLaws.{LaterStagesPostNothing}
use Rattle.mp_model.specs.Stages.{stage_records}
use Rattle.mp_job.proofs.Members.{Contains-here, Contains-later}
use Rattle.mp_outline.specs.JobOutline.{name_of_record, name_of_wake, opening_names, outline_of, record_names}
use Rattle.mp_outline.specs.Laws.{group_at, GroupsAreOnTimelines, WakesAreTimelines}
use Rattle.mp_outline.proofs.Outputs.{group_is, group_stands, HasGroup, IsMadeBy}
use Rattle.mp_outline.proofs.Posts.{posts_are}
use Rattle.mp_outline.proofs.Stages.{group_named, post_named, record_named}
use Rattle.mp_outline.proofs.Waking.{is_waking, names_wake, wake_named}

-- one of the elements that are kept passes
any_kept : {X : Type 0} (p : X → Bool) (b : Bool) (x : X) (xs : List X) → list_any p (cond b (x ∷ xs) xs) ≡ (b && p x || list_any p xs)
any_kept p true x xs = refl
any_kept p false x xs = refl

-- a record posts a time
abbrev posts_at : (Rec → List ℕ) → ℕ → Rec → Bool
posts_at posts t r = list_any (λ u. u == t) (posts r)

-- where names post what their records do, names wake a key where its records do
wakes_agree : (o : Outline) (j t k : ℕ) (posts : Rec → List ℕ) (rs : List Rec) → ((r : Rec) → Contains rs r → o.posts (name_of_record j r) ≡ posts r)
    → list_any (wakes o t k) (map (name_of_record j) rs) ≡ list_any (posts_at posts t) (filter (λ r. r.key == k) rs)
wakes_agree o j t k posts [] h = refl
wakes_agree o j t k posts (r ∷ rs) h =
    let rest = wakes_agree o j t k posts rs (λ s i. h s (Contains-later r s rs i)) in
    let here : is_posted o (name_of_record j r) t ≡ posts_at posts t r = ap (λ (ts : List ℕ). list_any (λ u. u == t) ts) (h r (Contains-here r rs)) in
    ap (λ (b : Bool). r.key == k && b || list_any (wakes o t k) (map (name_of_record j) rs)) here
    ∙ ap (λ (b : Bool). r.key == k && posts_at posts t r || b) rest
    ∙ sym (any_kept (posts_at posts t) (r.key == k) r (filter (λ s. s.key == k) rs))

module _ {Cell : Type 0} (q : QueryFacts Cell) (nothing : LaterStagesPostNothing q) (job : JobFacts) where
  record_made : (j t k : ℕ) → IsMade (outline_of q job) j t k → IsMadeBy q j (stage_records q job.events j) k t
  record_made j t k cause =
      let o = outline_of q job in
      let a = record_named q job j (RecName j cause.0 k cause.1) cause.2 in
      let r = a.0 in
      let c = same_parts j j r.time cause.0 r.key k r.tag cause.1 a.2 in
      let posts = q.posts j r in
      let at = ⊎_elim
      (λ (e : cause.0 ≡ t). subst (λ (u : ℕ). Contains (r.time ∷ posts) u) (c.0 ∙ e) (Contains-here r.time posts))
      (λ (p : is_posted o (RecName j cause.0 k cause.1) t ≡ true).
      Contains-later r.time t posts (post_named q nothing job j r t a.1 (subst (λ (x : Name). is_posted o x t ≡ true) (sym a.2) p)))
      cause.3 in
      (r, a.1, c.1, at)

  -- a group of the outline is that of a wake, or was made by a record
  group_made : OutlineIsSound (outline_of q job) → (j t k : ℕ) → In (Group j t k) (groups_of (outline_of q job) j) → HasGroup q j (stage_records q job.events j) k t
  group_made sound j t k h =
      ⊎_elim
      (λ (i : In (Group j t k) (opening_names q job j)).
      let a = wake_named q job j (Group j t k) i in
      let c = same_group j a.0.0 a.0.1 t k a.2 in
      inl (is_waking q j k t (subst₂ (λ (s l : ℕ). Contains (q.waking j) (s, l)) c.0 c.1 a.1)))
      (λ (m : IsMade (outline_of q job) j t k). inr (record_made j t k m))
      (group_cause (outline_of q job) sound j t k h)

  pub groups_are_on : OutlineIsSound (outline_of q job) → GroupsAreOnTimelines q job
  groups_are_on sound j t k l =
      let rs = stage_records q job.events j in (
        (λ h. group_stands q j k t rs (group_made sound j t k h)),
        (λ h. group_named q nothing job j k t l (group_is q j k rs (group_at q job j t k) h).1),
      )

  pub wakes_are : WakesAreTimelines q job
  wakes_are j t k l =
      let o = outline_of q job in
      let rs = stage_records q job.events j in
      let names = map (name_of_record j) rs in
      let below = lt-ltb j job.shape.stages l in
      let first : has (opening_names q job j) (Group j t k) ≡ list_any (λ u. u == t) (waking_of q j k) =
      ap (λ (xs : List Name). has xs (Group j t k)) (cond-true (nat_lt j job.shape.stages) (map (name_of_wake j) (q.waking j)) [] below)
      ∙ names_wake j t k (q.waking j)
      in
      let posted : list_any (wakes o t k) (record_names q job j) ≡ list_any (posts_at (q.posts j) t) (filter (λ r. r.key == k) rs) =
      ap (list_any (wakes o t k)) (cond-true (nat_lt j job.shape.stages) names [] below)
      ∙ wakes_agree o j t k (q.posts j) rs (posts_are q nothing job.events j)
      in
      ap (λ (b : Bool). b || list_any (wakes o t k) (record_names q job j)) first ∙ ap (λ (b : Bool). list_any (λ u. u == t) (waking_of q j k) || b) posted
