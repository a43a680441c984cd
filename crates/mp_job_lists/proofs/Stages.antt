-- The records of the first stages, and what those of the first one post.
use Rattle.std.proofs.Common.{◌≡◌, ◌∙◌, ℕ, zero, suc, ◌+◌, ◌<◌, nat_lt, Bool, true, false, cond, List, [], ◌∷◌, ◌++◌, Some, Vec, Global, Contains, get_or, length, map, slice_get, refl, sym, ap, subst, arith, zero-add}
use Rattle.std.specs.List.{range_with_len}
use Rattle.std.proofs.lemmas.List.{map-append}
use Rattle.std.proofs.lemmas.List.FromFn.{get_or-map-range_with_len, length-map-range_with_len}
use Rattle.std.proofs.lemmas.Bool.{lt-ltb}
use Rattle.std.proofs.lemmas.Option.{none-some, same_Some}
use Rattle.mp_names.specs.declared.names.Name.{Name}
use Rattle.mp_names.specs.Names.{In}
use Rattle.mp_model.specs.declared.record.Event.{Event}
use Rattle.mp_model.specs.declared.record.Rec.{Rec}
use Rattle.mp_model.specs.Facts.{JobFacts, QueryFacts}
use Rattle.mp_model.specs.QueryLaws.{LaterStagesPostNothing}
use Rattle.mp_model.specs.Stages.{stage_records}
use Rattle.mp_job.proofs.Members.{Contains-here, Contains-later}
use Rattle.mp_outline.specs.JobOutline.{name_of_record, posts_of, record_names}
use Rattle.mp_outline.proofs.Posts.{posts_are}
use Rattle.mp_outline.proofs.Stages.{record_named}
use Rattle.mp_job_lists.specs.Folded.{names_below}

-- one more number stands at the end
range_more : (a n : ℕ) → range_with_len a (suc n) ≡ range_with_len a n ++ (a + n) ∷ []
range_more a zero = ap (λ (m : ℕ). m ∷ []) (omega arith)
range_more a (suc n) = ap (λ (l : List ℕ). a ∷ l) (range_more (a + 1) n ∙ ap (λ (m : ℕ). range_with_len (a + 1) n ++ m ∷ []) (omega arith))

-- a list under a condition has no more elements than without
in_if : (b : Bool) (names : List Name) (place : ℕ) (x : Name) → slice_get (cond b names []) place ≡ Some x → slice_get names place ≡ Some x
in_if true names place x e = e
in_if false names place x e = absurd (none-some x e)

module _ {Cell : Type 0} (q : QueryFacts Cell) where
  abbrev names_in : List Event → ℕ → List Name
  names_in events j = map (name_of_record j) (stage_records q events j)

  pub names_more : (events : List Event) (n : ℕ) → names_below q events (n + 1) ≡ names_below q events n ++ names_in events n ∷ []
  names_more events n =
      let same : n + 1 ≡ suc n = omega arith in
      let next : range_with_len 0 (n + 1) ≡ range_with_len 0 n ++ n ∷ [] = ap (range_with_len 0) same ∙ range_more 0 n ∙ ap (λ (m : ℕ). range_with_len 0 n ++ m ∷ []) (zero-add n) in
      ap (map (names_in events)) next ∙ map-append (names_in events) (range_with_len 0 n) (n ∷ [])

  pub names_pushed : (events : List Event) (n : ℕ) (records new : List (Vec Name Global)) (v : Vec Name Global) → new ≡ records ++ v ∷ [] → map (λ names. names.items) records ≡ names_below q events n → v.items ≡ names_in events n → map (λ names. names.items) new ≡ names_below q events (n + 1)
  names_pushed events n records new v grew before named =
      ap (map (λ (names : Vec Name Global). names.items)) grew
      ∙ map-append (λ (names : Vec Name Global). names.items) records (v ∷ [])
      ∙ ap (λ (ls : List (List Name)). ls ++ v.items ∷ []) before
      ∙ ap (λ (l : List Name). names_below q events n ++ l ∷ []) named
      ∙ sym (names_more events n)

  pub names_count : (events : List Event) (n : ℕ) → length (names_below q events n) ≡ n
  names_count events n = length-map-range_with_len (names_in events) 0 n

  pub names_at : (job : JobFacts) (j : ℕ) (d : List Name) → j < job.shape.stages → get_or (names_below q job.events job.shape.stages) j d ≡ record_names q job j
  names_at job j d l =
      get_or-map-range_with_len (names_in job.events) 0 job.shape.stages j j d l (zero-add j)
      ∙ ap (λ (b : Bool). cond b (names_in job.events j) []) (sym (lt-ltb j job.shape.stages l))

  -- the record of the name at a place, and what it posts
  named_at : (rs : List Rec) (i : ℕ) (x : Name) → slice_get (map (name_of_record 0) rs) i ≡ Some x → (r : Rec) × Contains rs r × (name_of_record 0 r ≡ x) × (slice_get (map (q.posts 0) rs) i ≡ Some (q.posts 0 r))
  named_at [] i x e = absurd (none-some x e)
  named_at (r ∷ rs) zero x e = (r, Contains-here r rs, same_Some (name_of_record 0 r) x e, refl)
  named_at (r ∷ rs) (suc i) x e = let a = named_at rs i x e in (a.0, Contains-later r a.0 rs a.1, a.2, a.3)

  pub posts_at : (nothing : LaterStagesPostNothing q) (job : JobFacts) (place : ℕ) (x : Name) → slice_get (record_names q job 0) place ≡ Some x → slice_get (map (q.posts 0) (stage_records q job.events 0)) place ≡ Some (posts_of q job.events x)
  posts_at nothing job place x e =
      let rs = stage_records q job.events 0 in
      let a = named_at rs place x (in_if (nat_lt 0 job.shape.stages) (map (name_of_record 0) rs) place x e) in
      subst
      (λ (y : Name). slice_get (map (q.posts 0) rs) place ≡ Some (posts_of q job.events y))
      a.2
      (a.3 ∙ ap Some (sym (posts_are q nothing job.events 0 a.0 a.1)))

  -- records of later stages post nothing
  pub later_post_nothing : (job : JobFacts) (j : ℕ) (x : Name) → In x (record_names q job (suc j)) → posts_of q job.events x ≡ []
  later_post_nothing job j x h = let a = record_named q job (suc j) x h in subst (λ (y : Name). posts_of q job.events y ≡ []) a.2 refl
