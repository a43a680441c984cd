-- The first group that waits at a host is the least that waits by its worker's log.
use Rattle.std.proofs.Common.{◌≡◌, ℕ, ◌<◌, ◌≤◌, true, None, Some, sym, ◌∙◌, subst, ⊎_elim, arith}
use Rattle.std.proofs.lemmas.Bool.{eqb-true, false≢true}
use Rattle.mp_names.specs.declared.names.Name.{Name}
use Rattle.mp_names.specs.declared.names.Name.TheVariants.{Group}
use Rattle.mp_names.specs.Names.{IsLeast, Less}
use Rattle.mp_names.specs.Outlines.{OutlineIsSound}
use Rattle.mp_names.specs.Logs.{Log, LogIsLegal, is_pending}
use Rattle.mp_names.specs.Keeping.{IsWaiting}
use Rattle.mp_names.proofs.Listed.{groups_are}
use Rattle.mp_model.specs.Facts.{JobFacts, QueryFacts}
use Rattle.mp_outline.specs.JobOutline.{outline_of}
use Rattle.mp_postdated.specs.Wakes.{ComesNoLater}
use Rattle.mp_host_laws.specs.Hosted.{Hosted, StandsInOrder, first_group, waits_at}
use Rattle.mp_host_laws.specs.HostOf.{IsHostOf}
use Rattle.mp_host_laws.specs.Laws.{FirstIsLeast}
use Rattle.mp_host_laws.proofs.Firsts.{first_waits, none_waits}
use Rattle.mp_host_laws.proofs.Waiting.{pending_in_groups, waits_is_pending}

-- of two groups of a stage the one that comes no later isn't greater
pub not_less : (j t k u l : ℕ) → ComesNoLater (t, k) (u, l) → Less (Group j u l) (Group j t k) → ⊥
not_less j t k u l a b =
    ⊎_elim
    (λ (z : 4 < 4). omega arith)
    (λ (z : (4 ≡ 4) × _).
    ⊎_elim
    (λ (m : u < t). ⊎_elim (λ (n : t < u). omega arith) (λ (n : (t ≡ u) × (k ≤ l)). let e : t ≡ u = n.0 in omega arith) a)
    (λ (m : (u ≡ t) × _).
    let d : u ≡ t = m.0 in
    ⊎_elim
    (λ (n : t < u). omega arith)
    (λ (n : (t ≡ u) × (k ≤ l)).
    let e : k ≤ l = n.1 in
    ⊎_elim (λ (p : j < j). omega arith) (λ (p : (j ≡ j) × _). ⊎_elim (λ (r : l < k). omega arith) (λ (r : (l ≡ k) × ⊥). absurd r.1) p.1) m.1)
    a)
    z.1)
    b

module _ {Cell : Type 0} (q : QueryFacts Cell) (job : JobFacts) (sound : OutlineIsSound (outline_of q job)) (log : Log) (h : Hosted Cell) (inside : h.stage < job.shape.stages) (host : IsHostOf q job log h) (legal : LogIsLegal (outline_of q job) h.worker log) (denotes : StandsInOrder q job h) where
  -- a group that waits, under whatever name it is
  waiting_form : (P : Name → Type 0) → ((u l : ℕ) → is_pending (outline_of q job) h.worker log (Group h.stage u l) ≡ true → P (Group h.stage u l)) → (x : Name) → IsWaiting (outline_of q job) h.worker log h.stage x → P x
  waiting_form P f (Group i u l) w =
      let e = eqb-true i h.stage (groups_are (outline_of q job) sound h.stage (Group i u l) w.0).1 in
      subst (λ (n : ℕ). P (Group n u l)) (sym e) (f u l (subst (λ (n : ℕ). is_pending (outline_of q job) h.worker log (Group n u l) ≡ true) e w.1))
  waiting_form P f x w = absurd (false≢true w.1)

  -- what waits here is a group that waits by the log
  pub is_waiting : (t k : ℕ) → waits_at h t k ≡ true → IsWaiting (outline_of q job) h.worker log h.stage (Group h.stage t k)
  is_waiting t k e =
      let pends = sym (waits_is_pending q job sound log h inside host legal denotes t k) ∙ e in
      (pending_in_groups q job sound log h inside host legal denotes t k pends, pends)

  pub first_least : (t k : ℕ) → first_group h ≡ Some (t, k) → IsLeast (IsWaiting (outline_of q job) h.worker log h.stage) (Group h.stage t k)
  first_least t k e =
      let f = first_waits q job h denotes t k e in (
        is_waiting t k f.0,
        waiting_form (λ x. Less x (Group h.stage t k) → ⊥) (λ u l p less. not_less h.stage t k u l (f.1 u l (waits_is_pending q job sound log h inside host legal denotes u l ∙ p)) less),
      )

  none_least : first_group h ≡ None → (t k : ℕ) → IsWaiting (outline_of q job) h.worker log h.stage (Group h.stage t k) → ⊥
  none_least e t k w = none_waits q job h denotes e t k (waits_is_pending q job sound log h inside host legal denotes t k ∙ w.1)

module _ {Cell : Type 0} (q : QueryFacts Cell) (job : JobFacts) where
  pub first_is_least : OutlineIsSound (outline_of q job) → FirstIsLeast q job
  first_is_least sound log h denotes host legal inside = (first_least q job sound log h inside host legal denotes, none_least q job sound log h inside host legal denotes)
