-- A state shows the world after a step.
use Rattle.std.proofs.Common.{◌≡◌, ◌⊎◌, ℕ, zero, suc, List, [], ◌∷◌, ◌++◌, length, set, Some, refl, sym, ap, ◌∙◌, subst, inl, inr, ⊎_elim, arith}
use Rattle.std.proofs.Math.Path.{fun_ext}
use Rattle.std.proofs.lemmas.Bool.{cases_eq}
use Rattle.std.proofs.lemmas.List.{length-set}
use Rattle.std.specs.List.{slice_get}
use Rattle.mp_names.specs.declared.names.Name.{Name}
use Rattle.mp_names.specs.declared.kinds.Kind.{Kind}
use Rattle.mp_names.specs.Outlines.{Outline}
use Rattle.mp_names.specs.Logs.{Log}
use Rattle.mp_machine.specs.Worlds.{Worker, World, posted_logs}
use Rattle.mp_machine.specs.Steps.{CanStep, logged, names_of, stepped}
use Rattle.mp_machine.specs.Runs.{step_of_machine}
use Rattle.mp_machine.proofs.Puts.{put_here, put_other}
use Rattle.mp_machine.proofs.Worlds.{after_more}
use Rattle.mp_player_laws.specs.WorkLeft.{work_left}
use Rattle.mp_player_laws.proofs.Made.{leads_to_step}
use Rattle.mp_chart.specs.Left.{Left, left_in}
use Rattle.mp_standing.specs.declared.standing.Standing.{Standing}
use Rattle.mp_standing.specs.Standings.{Stands}
use Rattle.mp_standing.specs.Advancing.{IsReached}
use Rattle.mp_player.specs.declared.state.State.{State}
use Rattle.mp_player.specs.Shows.{Shows, IsMailOf}
use Rattle.mp_player.proofs.Mails.{Matches}

-- what stands at a place once one place has changed
pub set_gives : {X : Type 0} (xs : List X) (i : ℕ) (v : X) (k : ℕ) (y : X) → slice_get (set xs i v) k ≡ Some y → ((k ≡ i) × (y ≡ v)) ⊎ ((k ≡ i → ⊥) × (slice_get xs k ≡ Some y))
set_gives [] i v k y e = absurd (cc)
set_gives (x ∷ xs) zero v zero y e = let same : y ≡ v = cc in inl (refl, same)
set_gives (x ∷ xs) zero v (suc k) y e = inr ((λ f. absurd (omega arith)), e)
set_gives (x ∷ xs) (suc i) v zero y e = inr ((λ f. absurd (omega arith)), e)
set_gives {X} (x ∷ xs) (suc i) v (suc k) y e =
    ⊎_elim
    (λ (h : (k ≡ i) × (y ≡ v)). inl (ap suc h.0, h.1))
    (λ (h : (k ≡ i → ⊥) × (slice_get xs k ≡ Some y)). inr ((λ f. h.0 (less_one k i f)), h.1))
    (set_gives xs i v k y e)
  where
    less_one : (a b : ℕ) → suc a ≡ suc b → a ≡ b
    less_one a b f = omega arith

module _ (o : Outline) (depth : ℕ) (world : World) (w : ℕ) (kind : Kind) (x : Name) (can : CanStep o depth world w kind x) where
  pub reached_after : IsReached o depth world → IsReached o depth (stepped o world w kind x)
  reached_after r =
      record {
        sound = r.sound;
        steps = r.steps ++ (w, kind) ∷ [];
        run = sym (after_more o depth r.steps ((w, kind) ∷ []) _ ∙ ap (λ (wd : World). step_of_machine o depth wd w kind) (sym r.run) ∙ leads_to_step o r.sound depth world w kind x can);
      }

  posted_still : posted_logs (stepped o world w kind x) ≡ posted_logs world
  posted_still =
      fun_ext (λ v.
      ⊎_elim
      (λ (e : v ≡ w). ap (λ (k : Worker). k.posted) (put_here w v (record (world.worker w) { log = logged kind (world.worker w).log (names_of o world w kind x) }) world.worker e) ∙ ap (λ (u : ℕ). (world.worker u).posted) (sym e))
      (λ (n : v ≡ w → ⊥). ap (λ (k : Worker). k.posted) (put_other w v (record (world.worker w) { log = logged kind (world.worker w).log (names_of o world w kind x) }) world.worker n))
      (cases_eq v w))

  worker_still : (v : ℕ) → (v ≡ w → ⊥) → (stepped o world w kind x).worker v ≡ world.worker v
  worker_still v n = put_other w v (record (world.worker w) { log = logged kind (world.worker w).log (names_of o world w kind x) }) world.worker n

  pub shows_after :
      (old new : State) (s : Standing)
      → Shows o depth old world
      → Stands o w s ((stepped o world w kind x).worker w)
      → new.standings.items ≡ set old.standings.items w s
      → IsMailOf o.workers new.mail
      → Matches o new.mail (stepped o world w kind x).mailbox
      → new.left ≡ old.left
      → new.version ≡ old.version
      → Shows o depth new (stepped o world w kind x)
  shows_after old new s shows stands standings mail_of mail left version =
      record {
        reached = reached_after shows.reached;
        workers = ap length standings ∙ length-set old.standings.items w s ∙ shows.workers;
        each = λ v t there.
            ⊎_elim
            (λ (h : (v ≡ w) × (t ≡ s)). subst (λ (u : ℕ). Stands o u t ((stepped o world w kind x).worker u)) (sym h.0) (subst (λ (u : Standing). Stands o w u ((stepped o world w kind x).worker w)) (sym h.1) stands))
            (λ (h : (v ≡ w → ⊥) × (slice_get old.standings.items v ≡ Some t)). subst (Stands o v t) (sym (worker_still v h.0)) (shows.each v t h.1))
            (set_gives old.standings.items w s v t (subst (λ (l : List Standing). slice_get l v ≡ Some t) standings there));
        mail_of = mail_of;
        mail = mail;
        stages = ap (λ (l : Left). l.stages) left ∙ shows.stages;
        left = λ a t. ap (λ (l : Left). left_in l.counts a t) left ∙ shows.left a t ∙ ap (λ (logs : ℕ → Log). work_left o logs a t) (sym posted_still);
        version = version ∙ shows.version;
      }
