-- Workers that keep their steps, as they come back.
use Rattle.std.proofs.Common.{◌≡◌, zero, suc, Bool, true, false, List, [], ◌∷◌, All, refl, ap, ◌∙◌, subst, arith}
use Rattle.std.specs.Prelude.{is_some, map}
use Rattle.mp_names.specs.Outlines.{Outline}
use Rattle.mp_names.specs.declared.kinds.Kept.{Kept}
use Rattle.mp_worker_refinement.specs.State.{WorkerState}
use Rattle.mp_threads_member.specs.Below.{no_steps}
use Rattle.mp_threads_member.specs.Members.{MemberState}
use Rattle.mp_threads_crew.specs.Journals.{AreKept, TellFullLogs}
use Rattle.mp_threads_place.specs.Places.{mark_of}
use Rattle.mp_threads_place.specs.declared.back.Marked.{Marked}

asked : (keeps : Bool) → is_some (no_steps keeps) ≡ keeps
asked true = refl
asked false = refl

first_same : {A : Type 0} (x y : A) (xs ys : List A) → x ∷ xs ≡ y ∷ ys → x ≡ y
first_same x y xs ys e = cc

rest_same : {A : Type 0} (x y : A) (xs ys : List A) → x ∷ xs ≡ y ∷ ys → xs ≡ ys
rest_same x y xs ys e = cc

-- workers with the marks of a crew keep their steps where the crew was asked to
pub still_keep : (workers : List WorkerState) (crew : List MemberState) (keeps : Bool) → map mark_of workers ≡ map (λ (m : MemberState). mark_of m.worker) crew → All (λ (m : MemberState). m.worker.steps ≡ no_steps keeps) crew → All (λ (s : WorkerState). is_some s.steps ≡ keeps) workers
still_keep [] crew keeps same all k d l = absurd (omega (arith, l))
still_keep (s ∷ ws) [] keeps same all k d l = absurd cc
still_keep (s ∷ ws) (m ∷ ms) keeps same all zero d l =
    ap (λ (k : Marked). k.keeps) (first_same _ _ _ _ same) ∙ ap is_some (all zero m (omega arith)) ∙ asked keeps
still_keep (s ∷ ws) (m ∷ ms) keeps same all (suc k) d l =
    still_keep ws ms keeps (rest_same _ _ _ _ same) (λ j e n. all (suc j) e (omega (arith, n))) k d (omega (arith, l))

module _ (o : Outline) {A : Type 0} (f : A → List Kept) (keeps : Bool) (lists : List A) where
  -- where steps are kept, all are told
  pub kept_tell : AreKept o keeps (map f lists) → keeps ≡ true → TellFullLogs o (map f lists)
  kept_tell kept is = subst (λ (b : Bool). AreKept o b (map f lists)) is kept

  -- and where none are, there is nothing
  pub none_is_kept : AreKept o keeps (map f lists) → keeps ≡ false → lists ≡ []
  none_is_kept kept is = nil_of_map lists (subst (λ (b : Bool). AreKept o b (map f lists)) is kept)
    where
      nil_of_map : (xs : List A) → map f xs ≡ [] → xs ≡ []
      nil_of_map [] e = refl
      nil_of_map (x ∷ xs) e = absurd cc
