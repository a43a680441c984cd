-- At the end of a job nothing happens any more, and a log that is full has applied all groups before: what that tells of the bins of a stage.
use Rattle.std.proofs.Common.{◌≡◌, ℕ, suc, ◌<◌, ◌≤◌, Option, None, Some, false, filter, refl, sym, ◌∙◌, subst, inl, inr, ⊎_elim, arith}
use Rattle.std.specs.Option.{option_map_or}
use Rattle.std.proofs.lemmas.Bool.{cases_eq, eq-eqb, false_from_ne_true}
use Rattle.std.proofs.lemmas.List.Elements.{All-contains}
use Rattle.mp_names.specs.declared.names.Name.TheVariants.{Group, Packet}
use Rattle.mp_names.specs.Controls.{control_of, no_control}
use Rattle.mp_names.specs.Limits.{last_time}
use Rattle.mp_names.specs.Names.{has, In, is_group}
use Rattle.mp_names.specs.Outlines.{IsBeforeStop, IsMove, Outline, OutlineIsSound, due_groups, group_owner, owner_before}
use Rattle.mp_names.specs.Logs.{EarlierApplied, InHandBefore, Log, LogIsLegal, is_owned, owned_groups}
use Rattle.mp_names.proofs.Listed.{due_group, group_due}
use Rattle.mp_names.proofs.Lists.{In_filter, In_prefix, filter_In}
use Rattle.mp_names.proofs.Owners.{last_below_time, move_found}
use Rattle.mp_machine.specs.Promises.{LogIsFull}
use Rattle.mp_model.specs.Entry.{Entry}
use Rattle.mp_model.specs.Facts.{JobFacts, QueryFacts}
use Rattle.mp_model.specs.QueryLaws.{LaterStagesPostNothing, PostsAreLater}
use Rattle.mp_model.specs.Stages.{stage_records}
use Rattle.mp_model.proofs.LastTimes.{groups_in_time, stage_in_time}
use Rattle.mp_job.specs.Legal.{JobIsLegal}
use Rattle.mp_outline.specs.JobOutline.{outline_of}
use Rattle.mp_outline.specs.Laws.{group_at, timeline_of}
use Rattle.mp_outline.proofs.Timelines.{groups_are_on}
use Rattle.mp_msg.specs.LastStates.{end_time}
use Rattle.mp_host_laws.proofs.Resting.{IsAppliedTo}
use Rattle.mp_host_laws.proofs.Stays.{gives_up}
use Rattle.mp_host_laws.proofs.WakeTimes.{wakes_in_time}

-- By this time a stage has ended: its moves and the groups that are to be applied are before, and what is before is to be applied
pub record HasEndedBy (o : Outline) (j t : ℕ) : Type 0 where
  pub moves : (b m : ℕ) → IsMove o j b m → m < t
  pub groups : (u k : ℕ) → In (Group j u k) (due_groups o j) → u < t
  pub due : (u : ℕ) → u < t → IsBeforeStop o.until u

-- The end of a job

-- what is before the stop time, and not too late where there is none, is before the end
before_end : (stop : Option ℕ) (u : ℕ) → IsBeforeStop stop u → u ≤ last_time → u < option_map_or (λ t. t) stop (suc last_time)
before_end None u early l = omega arith
before_end (Some t) u early l = early

end_stops : (stop : Option ℕ) (u : ℕ) → u < option_map_or (λ t. t) stop (suc last_time) → IsBeforeStop stop u
end_stops None u l = tt
end_stops (Some t) u l = l

module _ {Cell : Type 0} (q : QueryFacts Cell) (job : JobFacts) (legal : JobIsLegal q job) (later : PostsAreLater q) (nothing : LaterStagesPostNothing q) (sound : OutlineIsSound (outline_of q job)) (j : ℕ) where
  moves_end : (b m : ℕ) → IsMove (outline_of q job) j b m → m < end_time job
  moves_end b m move =
      let c = move_found (outline_of q job) j b m move in
      let timely = (legal.controls.each c.0 no_control c.1).in_time in
      subst (λ (t : ℕ). t < end_time job) c.4 (before_end job.until (control_of job.controls c.0).time (sound.controls_stop c.0 c.1) (omega (arith, timely)))

  groups_end : j < job.shape.stages → (u k : ℕ) → In (Group j u k) (due_groups (outline_of q job) j) → u < end_time job
  groups_end inside u k i =
      let due = due_group (outline_of q job) j (Group j u k) i in
      let wakes = wakes_in_time q job legal in
      let all = groups_in_time q j (wakes j) k (stage_records q job.events j) (stage_in_time q later nothing wakes job.events legal.events j) in
      let there = (groups_are_on q nothing job sound j u k inside).0 due.0 in
      before_end job.until u due.1 (All-contains (λ (e : Entry). e.time ≤ last_time) (timeline_of q job j k) (group_at q job j u k) all there)

  -- a stage of a job has ended by the job's end
  pub ends_at_end : j < job.shape.stages → HasEndedBy (outline_of q job) j (end_time job)
  ends_at_end inside = record { moves = moves_end; groups = groups_end inside; due = end_stops job.until }

-- A log that is full

module _ (o : Outline) (w : ℕ) (log : Log) (good : LogIsLegal o w log) (full : LogIsFull o w log) (j t : ℕ) (inside : j < o.stages) (ended : HasEndedBy o j t) where
  -- no group from the end on is applied
  late : (u k : ℕ) → t ≤ u → has log.applied (Group j u k) ≡ false
  late u k l =
      false_from_ne_true (has log.applied (Group j u k)) (λ i.
      let own = In_prefix (Group j u k) (filter (is_group j) log.applied) (owned_groups o w j) (good.applied_in_order j inside) (filter_In (is_group j) (Group j u k) log.applied i (eq-eqb j j refl)) in
      let less = ended.groups u k (In_filter (is_owned o w) (Group j u k) (due_groups o j) own).0 in
      omega arith)

  -- and all before that the worker owns are
  all_applied : (b : ℕ) → EarlierApplied o w log j b t
  all_applied b u k l own mine group =
      let owned = filter_In (is_owned o w) (Group j u k) (due_groups o j) (group_due o j (Group j u k) group (ended.due u l)) (eq-eqb (group_owner o j u k) w mine) in
      (In_filter (is_group j) (Group j u k) log.applied (subst (In (Group j u k)) (sym (full.applied j inside)) owned)).0

  pub applied_to_end : (b : ℕ) → owner_before o j b t ≡ w → IsAppliedTo o w log j b t
  applied_to_end b mine = record { owner = mine; earlier = all_applied b; none_later = λ u k own l. late u k l }

  -- a bin that the worker owns at the end is in hand: the packet of its last move is taken
  pub in_hand_at_end : (b : ℕ) → owner_before o j b t ≡ w → InHandBefore o w log j b t
  in_hand_at_end b mine = (
    mine,
    ⊎_elim
        (λ (none : (m : ℕ) → m < t → IsMove o j b m → ⊥). inl none)
        (λ (last : (m : ℕ) × (m < t) × IsMove o j b m × (owner_before o j b (suc m) ≡ owner_before o j b t) × ((n : ℕ) → m < n → n < t → IsMove o j b n → ⊥)).
        inr (last.0, last.1, last.2, last.4, full.took (Packet j b last.0) (last.2, last.3 ∙ mine)))
        (last_below_time (owner_before o j b) t),
  )

  -- no packet is sent from the end on
  pub none_sent_after : (b n : ℕ) → t ≤ n → In (Packet j b n) log.sent → ⊥
  none_sent_after b n l i = let m = ended.moves b n (good.sent_owed (Packet j b n) i).0 in omega arith

  -- a bin that the worker owns just before a time, and of which it sends no packet from then on, it owns at the end
  pub still_owned : (b s : ℕ) → s ≤ t → owner_before o j b s ≡ w → ((d : ℕ) → s ≤ d → In (Packet j b d) log.sent → ⊥) → owner_before o j b t ≡ w
  still_owned b s l mine unsent =
      ⊎_elim
      (λ (e : owner_before o j b s ≡ owner_before o j b t). sym e ∙ mine)
      (λ (e : owner_before o j b s ≡ owner_before o j b t → ⊥).
      let r = gives_up (owner_before o j b) s t l e in
      absurd (unsent r.0 r.1 (full.sent (Packet j b r.0) (r.4, r.3 ∙ mine))))
      (cases_eq (owner_before o j b s) (owner_before o j b t))
