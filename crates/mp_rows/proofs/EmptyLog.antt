-- The entries of an empty log sum to its contributions.
use Rattle.std.proofs.Common.{◌≡◌, ℕ, zero, suc, ◌<◌, ◌&&◌, ◌==◌, Bool, true, false, cond, List, [], ◌++◌, length, get_or, map, ℤ, pos, ◌+ℤ◌, refl, sym, ap, ◌∙◌, All, ⊎_elim, arith}
use Rattle.std.specs.List.{sum_by}
use Rattle.std.proofs.lemmas.Bool.{cases_Bool, eqb-true, false_from_ne_true}
use Rattle.std.proofs.lemmas.Int.{ints}
use Rattle.std.proofs.lemmas.List.{take_all}
use Rattle.mp_names.specs.declared.controls.Control.{Control}
use Rattle.mp_names.specs.declared.locations.Loc.{Loc}
use Rattle.mp_names.specs.declared.locations.Loc.TheVariants.{Ctl, CtlMail, Source, Route, Mail, Move, State, Host, OutRoute, OutMail}
use Rattle.mp_names.specs.declared.names.Name.{Name}
use Rattle.mp_names.specs.declared.pointstamps.Change.{Change}
use Rattle.mp_names.specs.Controls.{control_of}
use Rattle.mp_names.specs.Frontiers.{contribution, is_held}
use Rattle.mp_names.specs.Logs.{empty_log}
use Rattle.mp_names.specs.Names.{In}
use Rattle.mp_names.specs.Outlines.{OutlineIsSound, time_of}
use Rattle.mp_stamps.specs.Counts.{same_loc}
use Rattle.mp_model.specs.declared.record.Event.{Event}
use Rattle.mp_model.specs.Facts.{JobFacts, QueryFacts}
use Rattle.mp_job.specs.Legal.{JobIsLegal}
use Rattle.mp_job.specs.Records.{share_of}
use Rattle.mp_job.proofs.Sharing.{record_is_there, record_of_place}
use Rattle.mp_outline.specs.JobOutline.{outline_of}
use Rattle.mp_outline.proofs.Waking.{opens_first}
use Rattle.mp_rows.specs.Entries.{AreContributions, change_at, sum_at}
use Rattle.mp_rows.specs.Opening.{control_entries, source_entries, time_at, wake_entries}
use Rattle.mp_rows.proofs.Controls.{count_controls, count_no_controls}
use Rattle.mp_rows.proofs.Nothing.{adds_nothing}
use Rattle.mp_rows.proofs.Sources.{count_share}
use Rattle.mp_rows.proofs.Sums.{sum_at-append, sum_elsewhere, sum_here}
use Rattle.mp_rows.proofs.Waiting.{wakes_elsewhere, wakes_here}
use Rattle.mp_rows.proofs.Wakes.{Below}

three_parts : (x y z cs ss ws a b c : ℤ) → x ≡ y +ℤ ss → y ≡ cs +ℤ ws → cs ≡ a → ss ≡ b → ws ≡ c → a +ℤ b +ℤ c ≡ z → x ≡ z
three_parts x y z cs ss ws a b c d e f g h i = omega (arith, ints)

first_alone : (a : ℤ) → a +ℤ pos 0 +ℤ pos 0 ≡ a
first_alone a = omega (arith, ints)

second_alone : (a : ℤ) → pos 0 +ℤ a +ℤ pos 0 ≡ a
second_alone a = omega (arith, ints)

third_alone : (a : ℤ) → pos 0 +ℤ pos 0 +ℤ a ≡ a
third_alone a = omega (arith, ints)

later_stage : (j : ℕ) → (0 == suc j) ≡ false
later_stage j = false_from_ne_true (0 == suc j) (λ e. let same : 0 ≡ suc j = eqb-true 0 (suc j) e in omega arith)

module _ {Cell : Type 0} (q : QueryFacts Cell) (job : JobFacts) (w : ℕ) where
  -- the indices of a share are those of events
  pub share_inside : (events : List Event) (share : List ℕ) → events ≡ job.events → share ≡ share_of q job.events job.shape.workers w → All (λ i. i < length events) share
  share_inside events share e f = λ k d l. rw e (record_is_there q job.events (get_or share k d) (record_of_place q job.events job.shape.workers w share k d f l))

  -- the names that a worker has and hasn't sent, of a time
  held_at : ℕ → Name → Bool
  held_at t x = is_held (outline_of q job) w empty_log x && time_of (outline_of q job) x == t

  -- what all control records add, on the worker that sends them
  all_controls : List Change
  all_controls = map (λ c. change_at Ctl c.time (pos job.shape.workers)) job.controls

  controls_here : (t : ℕ) → sum_at (control_entries job.shape.workers w job.controls) Ctl t ≡ contribution (outline_of q job) w empty_log Ctl t
  unfolding held_at all_controls
  controls_here t = ⊎_elim some none (cases_Bool (w == 0))
    where
      some : (w == 0) ≡ true → sum_at (control_entries job.shape.workers w job.controls) Ctl t ≡ contribution (outline_of q job) w empty_log Ctl t
      some e =
          let f = λ (c : Control). cond (c.time == t) job.shape.workers 0 in
          let n = length job.controls in
          ap (λ (b : Bool). sum_at (cond b all_controls []) Ctl t) e
          ∙ sum_here Ctl Ctl (λ (c : Control). c.time) job.shape.workers t refl job.controls
          ∙ ap (λ (cs : List Control). pos (sum_by f cs)) (sym (take_all n job.controls (omega arith)))
          ∙ ap pos (sym (count_controls (held_at t) job.controls job.shape.workers t n (omega arith) (λ i v. ap (λ (b : Bool). b && true && (control_of job.controls i).time == t) e)))

      none : (w == 0) ≡ false → sum_at (control_entries job.shape.workers w job.controls) Ctl t ≡ contribution (outline_of q job) w empty_log Ctl t
      none e =
          ap (λ (b : Bool). sum_at (cond b all_controls []) Ctl t) e
          ∙ ap pos (sym (count_no_controls (held_at t) job.shape.workers (length job.controls) (λ i v. ap (λ (b : Bool). b && true && (control_of job.controls i).time == t) e)))

  controls_elsewhere : (loc : Loc) (t : ℕ) → same_loc Ctl loc ≡ false → sum_at (control_entries job.shape.workers w job.controls) loc t ≡ pos 0
  unfolding all_controls
  controls_elsewhere loc t e = pick (w == 0)
    where
      pick : (b : Bool) → sum_at (cond b all_controls []) loc t ≡ pos 0
      pick true = sum_elsewhere Ctl loc (λ (c : Control). c.time) job.shape.workers t e job.controls
      pick false = refl

  module _ (sound : OutlineIsSound (outline_of q job)) (legal : JobIsLegal q job) (wakes : List (ℕ × ℕ)) (own : Below q job w job.shape.bins wakes) where
    sources_here : (t : ℕ) → sum_at (source_entries job.events (share_of q job.events job.shape.workers w)) Source t ≡ contribution (outline_of q job) w empty_log Source t
    sources_here t = sum_here Source Source (time_at job.events) 1 t refl (share_of q job.events job.shape.workers w) ∙ ap pos (sym (count_share q job w t sound.some_stage))

    sources_elsewhere : (loc : Loc) (t : ℕ) → same_loc Source loc ≡ false → sum_at (source_entries job.events (share_of q job.events job.shape.workers w)) loc t ≡ pos 0
    sources_elsewhere loc t e = sum_elsewhere Source loc (time_at job.events) 1 t e (share_of q job.events job.shape.workers w)

    -- the entries of records
    records : List Change
    records = source_entries job.events (share_of q job.events job.shape.workers w)

    Adds : Loc → ℕ → Type 0
    Adds loc t = sum_at ((control_entries job.shape.workers w job.controls ++ wake_entries wakes) ++ records) loc t ≡ contribution (outline_of q job) w empty_log loc t

    parts : (loc : Loc) (t : ℕ) (a b c : ℤ) → sum_at (control_entries job.shape.workers w job.controls) loc t ≡ a → sum_at (source_entries job.events (share_of q job.events job.shape.workers w)) loc t ≡ b → sum_at (wake_entries wakes) loc t ≡ c → a +ℤ b +ℤ c ≡ contribution (outline_of q job) w empty_log loc t → Adds loc t
    unfolding Adds records
    parts loc t a b c e f g h =
        let cs = control_entries job.shape.workers w job.controls in
        let ss = source_entries job.events (share_of q job.events job.shape.workers w) in
        let ws = wake_entries wakes in
        three_parts (sum_at ((cs ++ ws) ++ ss) loc t) (sum_at (cs ++ ws) loc t) (contribution (outline_of q job) w empty_log loc t) (sum_at cs loc t) (sum_at ss loc t) (sum_at ws loc t) a b c (sum_at-append (cs ++ ws) ss loc t) (sum_at-append cs ws loc t) e f g h

    -- wakes are of the first stage
    no_wakes : (j : ℕ) (x : Name) → In x ((outline_of q job).opening (suc j)) → ⊥
    no_wakes j x i = let e : suc j ≡ 0 = opens_first q job legal (suc j) x i in omega arith

    elsewhere : (loc : Loc) (t : ℕ) → same_loc Ctl loc ≡ false → same_loc Source loc ≡ false → same_loc (Host 0) loc ≡ false → Adds loc t
    elsewhere loc t e f g =
        parts loc t (pos 0) (pos 0) (pos 0) (controls_elsewhere loc t e) (sources_elsewhere loc t f) (wakes_elsewhere wakes loc t g) (sym (adds_nothing (outline_of q job) w sound no_wakes loc t e f g))

    each : (loc : Loc) (t : ℕ) → Adds loc t
    each Ctl t =
        let c = contribution (outline_of q job) w empty_log Ctl t in
        parts Ctl t c (pos 0) (pos 0) (controls_here t) (sources_elsewhere Ctl t refl) (wakes_elsewhere wakes Ctl t refl) (first_alone c)
    each Source t =
        let c = contribution (outline_of q job) w empty_log Source t in
        parts Source t (pos 0) c (pos 0) (controls_elsewhere Source t refl) (sources_here t) (wakes_elsewhere wakes Source t refl) (second_alone c)
    each CtlMail t = elsewhere CtlMail t refl refl refl
    each (Route j) t = elsewhere (Route j) t refl refl refl
    each (Mail j) t = elsewhere (Mail j) t refl refl refl
    each (Move j) t = elsewhere (Move j) t refl refl refl
    each (State j) t = elsewhere (State j) t refl refl refl
    each (Host zero) t =
        let c = contribution (outline_of q job) w empty_log (Host 0) t in
        parts (Host 0) t (pos 0) (pos 0) c (controls_elsewhere (Host 0) t refl) (sources_elsewhere (Host 0) t refl) (wakes_here q job w sound wakes own t) (third_alone c)
    each (Host (suc j)) t = elsewhere (Host (suc j)) t refl refl (later_stage j)
    each OutRoute t = elsewhere OutRoute t refl refl refl
    each OutMail t = elsewhere OutMail t refl refl refl

    -- so these entries, made of what a job gives, are the contributions together with those of its records
    pub opening_sums : (workers : ℕ) (controls : List Control) (none some all : List Change) → workers ≡ job.shape.workers → controls ≡ job.controls → none ≡ [] → some ≡ none ++ control_entries workers w controls → all ≡ some ++ wake_entries wakes → AreContributions (outline_of q job) w empty_log (all ++ source_entries job.events (share_of q job.events job.shape.workers w))
    unfolding Adds records
    opening_sums workers controls none some all ws cs n s a = λ loc t. rw (a, s, n, ws, cs) (each loc t)
