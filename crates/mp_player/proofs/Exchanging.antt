-- A state shows the world after an exchange.
use Rattle.std.proofs.Common.{◌≡◌, ◌↔◌, ◌⊎◌, ℕ, suc, ◌+◌, ◌<◌, not, Bool, true, false, cond, List, [], ◌∷◌, ◌++◌, length, get_or, set, Some, pos, refl, sym, ap, ◌∙◌, subst, inl, inr, ⊎_elim, arith}
use Rattle.std.proofs.Math.Path.{fun_ext}
use Rattle.std.proofs.lemmas.Bool.{false≢true, both_ways, false_from_ne_true, cases_Bool, cases_eq}
use Rattle.std.proofs.lemmas.List.{length-set}
use Rattle.std.specs.List.{slice_get}
use Rattle.std.specs.Prelude.{IsTrue}
use Rattle.mp_names.specs.declared.kinds.Kind.TheVariants.{Exchange}
use Rattle.mp_names.specs.declared.locations.Loc.{Loc}
use Rattle.mp_names.specs.declared.locations.Frontier.{Frontier}
use Rattle.mp_names.specs.Frontiers.{IsFrontierOf}
use Rattle.mp_names.specs.Locations.{IsLocation}
use Rattle.mp_names.specs.Outlines.{Outline}
use Rattle.mp_names.specs.Logs.{Log}
use Rattle.mp_machine.specs.Worlds.{Worker, World, posted_logs}
use Rattle.mp_machine.specs.Steps.{CanExchange, same_log, version_after, posted_with, having_seen, exchanged}
use Rattle.mp_machine.specs.Runs.{step_of_machine}
use Rattle.mp_machine.proofs.Puts.{put_here, put_other}
use Rattle.mp_machine.proofs.Turns.{same_log_is, own_log}
use Rattle.mp_machine.proofs.Worlds.{after_more}
use Rattle.mp_stamps.specs.Seen.{seen_at}
use Rattle.mp_player_laws.specs.WorkLeft.{work_left}
use Rattle.mp_player_laws.proofs.Made.{leads_to_exchange}
use Rattle.mp_player_laws.proofs.Exchanging.{work_moves, exchange_sees}
use Rattle.mp_chart.specs.Left.{HasWork, left_in, work_at}
use Rattle.mp_standing.specs.declared.standing.Standing.{Standing}
use Rattle.mp_standing.specs.Standings.{Stands, AreHeld}
use Rattle.mp_standing.specs.Numbers.{AreNumbers}
use Rattle.mp_standing.specs.declared.done.Done.{Done}
use Rattle.mp_standing.specs.declared.held.Held.{Held}
use Rattle.mp_standing.specs.declared.message.Message.{Message}
use Rattle.mp_player_laws.specs.Numbers.{numbers_of}
use Rattle.std.specs.declared.vec.Vec.{Vec}
use Rattle.std.proofs.Common.{Global, ℤ}
use Rattle.mp_standing.specs.Advancing.{IsReached}
use Rattle.mp_player.specs.declared.state.State.{State}
use Rattle.mp_player.specs.Shows.{Shows, IsMailOf, MayExchange}
use Rattle.mp_player.proofs.Mails.{Matches}
use Rattle.mp_player.proofs.Stepping.{set_gives}

pub same_or_not : (a b : Log) → (a ≡ b) ⊎ (a ≡ b → ⊥)
same_or_not a b =
    ⊎_elim
    (λ (h : same_log a b ≡ true). inl (same_log_is a b h))
    (λ (h : same_log a b ≡ false). inr (λ e. both_ways (same_log a b) h (subst (λ (l : Log). same_log a l ≡ true) e (own_log a))))
    (cases_Bool (same_log a b))

module _ (log posted : Log) (changed : Bool) (tells : IsTrue changed ↔ (log ≡ posted → ⊥)) where
  pub unchanged : changed ≡ false → log ≡ posted
  unchanged e = ⊎_elim (λ (h : log ≡ posted). h) (λ (n : log ≡ posted → ⊥). absurd (false≢true (sym e ∙ tells.1 n))) (same_or_not log posted)

  pub same_tells : log ≡ posted → changed ≡ false
  same_tells e = false_from_ne_true changed (λ t. tells.0 t e)

module _ (o : Outline) (depth : ℕ) (world : World) (state : State) (shows : Shows o depth state world) (w : ℕ) (s : Standing) (there : slice_get state.standings.items w ≡ Some s) where
  stands : Stands o w s (world.worker w)
  stands = shows.each w s there

  abbrev MayNow : ℕ → Type 0
  MayNow version = (((world.worker w).log ≡ (world.worker w).posted → ⊥) ⊎ ((world.worker w).version ≡ world.version → ⊥)) × (version ≡ version_after world w)

  may_changed : (version : ℕ) → s.changed ≡ true → (version ≡ suc state.version) ↔ MayNow version
  may_changed version e =
      let differs = stands.changed.0 e in
      let after : version_after world w ≡ suc world.version = ap (λ (b : Bool). cond b world.version (suc world.version)) (false_from_ne_true (same_log (world.worker w).log (world.worker w).posted) (λ h. differs (same_log_is (world.worker w).log (world.worker w).posted h))) in
      let board : suc state.version ≡ suc world.version = ap suc shows.version in
      ((λ h. (inl differs, h ∙ board ∙ sym after)), (λ h. h.1 ∙ after ∙ sym board))

  may_same : (version : ℕ) → s.changed ≡ false → ((version ≡ state.version) × (s.seen.version ≡ state.version → ⊥)) ↔ MayNow version
  may_same version e =
      let same = unchanged (world.worker w).log (world.worker w).posted s.changed stands.changed e in
      let after : version_after world w ≡ world.version = ap (λ (b : Bool). cond b world.version (suc world.version)) (subst (λ (l : Log). same_log (world.worker w).log l ≡ true) same (own_log (world.worker w).log)) in (
        (λ h. (inr (λ f. h.1 (stands.version ∙ f ∙ sym shows.version)), h.0 ∙ shows.version ∙ sym after)),
        (λ h. (
          h.1 ∙ after ∙ sym shows.version,
          (λ f. ⊎_elim (λ (n : (world.worker w).log ≡ (world.worker w).posted → ⊥). n same) (λ (n : (world.worker w).version ≡ world.version → ⊥). n (sym stands.version ∙ f ∙ shows.version)) h.0),
        )),
      )

  pub may_is : (version : ℕ) → MayExchange s.changed s.seen.version state.version version ↔ MayNow version
  may_is version = pick s.changed refl
    where
      pick : (b : Bool) → s.changed ≡ b → MayExchange b s.seen.version state.version version ↔ MayNow version
      pick true e = may_changed version e
      pick false e = may_same version e

  pub posted_is : IsTrue (not s.changed) ↔ ((world.worker w).log ≡ (world.worker w).posted)
  posted_is = (
    (λ h. unchanged (world.worker w).log (world.worker w).posted s.changed stands.changed (not_true s.changed h)),
    (λ e. ap not (same_tells (world.worker w).log (world.worker w).posted s.changed stands.changed e)),
  )
    where
      not_true : (b : Bool) → not b ≡ true → b ≡ false
      not_true true h = absurd (false≢true h)
      not_true false h = refl

  -- the work left once the worker has posted
  has_work : w < o.workers → (a : Loc) (t : ℕ) → work_left o (posted_with world w) a t + work_at a t s.since.items ≡ left_in state.left.counts a t
  has_work l a t =
      let moved = work_moves o world w a t l in
      let since = stands.since a t in
      let left = shows.left a t in
      omega arith

  pub enough : w < o.workers → HasWork state.left.counts s.since.items
  enough l a t = let h = has_work l a t in omega arith

  module _ (l : w < o.workers) (can : CanExchange o world w Exchange) (new : State) (posted : Standing) (after : (a : Loc) (t : ℕ) → left_in new.left.counts a t + work_at a t s.since.items ≡ left_in state.left.counts a t) where
    left_after : (a : Loc) (t : ℕ) → left_in new.left.counts a t ≡ work_left o (posted_with world w) a t
    left_after a t = let h = has_work l a t in let k = after a t in omega arith

    abbrev Shown : Loc → ℕ → ℤ
    Shown a t = pos (left_in new.left.counts a t)

    abbrev Posted : Loc → ℕ → ℤ
    Posted a t = pos (work_left o (posted_with world w) a t)

    counts_are : Shown ≡ Posted
    counts_are = fun_ext (λ a. fun_ext (λ t. ap pos (left_after a t)))

    posted_logs_are : posted_logs (exchanged o world w) ≡ posted_with world w
    posted_logs_are =
        fun_ext (λ v.
        ⊎_elim
        (λ (e : v ≡ w). ap (λ (k : Worker). k.posted) (put_here w v (having_seen o world w) world.worker e) ∙ sym (put_here w v (world.worker w).log (posted_logs world) e))
        (λ (n : v ≡ w → ⊥). ap (λ (k : Worker). k.posted) (put_other w v (having_seen o world w) world.worker n) ∙ sym (put_other w v (world.worker w).log (posted_logs world) n))
        (cases_eq v w))

    reached_after : IsReached o depth (exchanged o world w)
    reached_after =
        let r = shows.reached in
        record {
          sound = r.sound;
          steps = r.steps ++ (w, Exchange) ∷ [];
          run = sym (after_more o depth r.steps ((w, Exchange) ∷ []) _ ∙ ap (λ (wd : World). step_of_machine o depth wd w Exchange) (sym r.run) ∙ leads_to_exchange o r.sound depth world w Exchange can);
        }

    sees : (at : Loc) (f : Frontier) → IsFrontierOf (λ a t. pos (left_in new.left.counts a t)) at f → f ≡ (having_seen o world w).seen at
    sees at f is =
        subst (λ (wd : World). IsFrontierOf (λ a t. pos (work_left o (posted_with wd w) a t)) at f → f ≡ (having_seen o wd w).seen at) (sym shows.reached.run)
        (exchange_sees o shows.reached.sound depth shows.reached.steps w at f l)
        (subst (λ (c : Loc → ℕ → ℤ). IsFrontierOf c at f) counts_are is)

    module _ (version : ℕ) (gives : version ≡ version_after world w) (done : posted.done ≡ s.done) (held : posted.held ≡ s.held) (none : posted.since.items ≡ []) (unchanged_now : posted.changed ≡ false) (seen_version : posted.seen.version ≡ version) (seen_stages : posted.seen.stages ≡ o.stages) (shown : (at : Loc) → IsLocation o.stages at → IsFrontierOf (λ a t. pos (left_in new.left.counts a t)) at (seen_at posted.seen at)) where
      stands_after : Stands o w posted (having_seen o world w)
      stands_after =
          record {
            done = subst (λ (d : Done). AreNumbers o d (numbers_of (world.worker w).log)) (sym done) stands.done;
            few = stands.few;
            stages = ap (λ (h : Vec Held Global). length h.items) held ∙ stands.stages;
            held = λ j low. subst (λ (h : Vec Held Global). AreHeld o w (world.worker w).log j (get_or h.items j [])) (sym held) (stands.held j low);
            seen_stages = seen_stages;
            seen = λ at low. sees at (seen_at posted.seen at) (shown at low);
            version = seen_version ∙ gives;
            changed = ((λ t. absurd (false≢true (sym unchanged_now ∙ t))), (λ n. absurd (n refl)));
            since = λ a t. let zero_work : work_at a t posted.since.items ≡ 0 = ap (work_at a t) none in omega arith;
          }

      pub shows_exchanged : new.standings.items ≡ set state.standings.items w posted → new.mail ≡ state.mail → new.left.stages ≡ state.left.stages → new.version ≡ version → Shows o depth new (exchanged o world w)
      shows_exchanged standings mail stages is =
          record {
            reached = reached_after;
            workers = ap length standings ∙ length-set state.standings.items w posted ∙ shows.workers;
            each = λ v t found.
                ⊎_elim
                (λ (h : (v ≡ w) × (t ≡ posted)). subst (λ (u : ℕ). Stands o u t ((exchanged o world w).worker u)) (sym h.0) (subst (λ (u : Standing). Stands o w u ((exchanged o world w).worker w)) (sym h.1) (subst (Stands o w posted) (sym (put_here w w (having_seen o world w) world.worker refl)) stands_after)))
                (λ (h : (v ≡ w → ⊥) × (slice_get state.standings.items v ≡ Some t)). subst (Stands o v t) (sym (put_other w v (having_seen o world w) world.worker h.0)) (shows.each v t h.1))
                (set_gives state.standings.items w posted v t (subst (λ (k : List Standing). slice_get k v ≡ Some t) standings found));
            mail_of = subst (IsMailOf o.workers) (sym mail) shows.mail_of;
            mail = subst (λ (m : List (List (List Message))). Matches o m world.mailbox) (sym mail) shows.mail;
            stages = stages ∙ shows.stages;
            left = λ a t. left_after a t ∙ ap (λ (logs : ℕ → Log). work_left o logs a t) (sym posted_logs_are);
            version = is ∙ gives;
          }
