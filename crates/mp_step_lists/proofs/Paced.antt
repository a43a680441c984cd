-- What a control record of a paced job waits for.
use Rattle.std.proofs.Common.{◌≡◌, ◌≢◌, ◌∙◌, ◌==◌, ℕ, ◌<◌, ◌≤◌, true, false, Bool, List, [], Option, None, Some, All, filter, get_or, length, refl, sym, ap, subst, ⊎_elim, arith}
use Rattle.std.specs.List.{slice_get}
use Rattle.std.specs.Option.{option_map}
use Rattle.std.proofs.lemmas.Bool.{both_ways, cases_Bool, cases_eq}
use Rattle.std.proofs.lemmas.List.{get_or-map, length-map}
use Rattle.std.proofs.lemmas.Option.{slice_get-map}
use Rattle.mp_names.specs.declared.names.Name.{Name}
use Rattle.mp_names.specs.declared.names.Name.TheVariants.{Ctrl}
use Rattle.mp_names.specs.declared.locations.Loc.TheVariants.{Host}
use Rattle.mp_names.specs.declared.kinds.Kind.TheVariants.{SendControl}
use Rattle.mp_names.specs.Outlines.{Outline, OutlineIsSound, control_at, ctrl_names, sender, time_of}
use Rattle.mp_names.specs.Frontiers.{HasPassed}
use Rattle.mp_names.proofs.Exact.{passed_earlier}
use Rattle.mp_names.proofs.Lists.{In_filter, filter_In}
use Rattle.mp_names.proofs.Listed.{ctrl_In, ctrl_is}
use Rattle.mp_player_laws.specs.Decisions.{controls_to_send}
use Rattle.mp_player_laws.proofs.Controls.{In_by_time, by_time_In}
use Rattle.mp_player_laws.specs.Numbers.{StandsAt}
use Rattle.mp_chart.specs.declared.entry.Entry.{Entry}
use Rattle.mp_chart.specs.Entries.{entries_of, entry_of}
use Rattle.mp_chart.specs.Lists.{IsPaceOf, to_do}
use Rattle.mp_parted.proofs.Fitting.{In-get_or}
use Rattle.mp_outline_lists.proofs.InOrder.{contains_from_in}
use Rattle.mp_step_lists.specs.Controls.{IsLatestBelow}
use Rattle.mp_step_lists.specs.Tables.{StepTables, TellsSteps}
use Rattle.mp_step_lists.proofs.InTurn.{none_to_send}

module _ (o : Outline) (ok : OutlineIsSound o) where
  abbrev sent : List Name
  sent = controls_to_send o 0

  abbrev mine : Name → Bool
  mine x = sender o x == 0

  -- each control record is sent, and its time is that of an entry
  record_at : (i : ℕ) → i < length o.controls → (k : ℕ) × (k < length sent) × (get_or sent k (Ctrl i 0) ≡ Ctrl i 0)
  record_at i l = contains_from_in (Ctrl i 0) sent (In_by_time o (Ctrl i 0) (filter mine (ctrl_names o)) (filter_In mine (Ctrl i 0) (ctrl_names o) (ctrl_In o i 0 l ok.some_worker) refl))

  entry_at : (k : ℕ) (x : Name) (d : Entry) → k < length sent → get_or sent k x ≡ x → get_or (entries_of o sent) k d ≡ entry_of o x
  entry_at k x d l e = get_or-map (entry_of o) sent k x d l ∙ ap (entry_of o) e

  All_times : (P : ℕ → Type 0) → All (λ (e : Entry). P e.time) (entries_of o sent) → (i : ℕ) → i < length o.controls → P (control_at o i).time
  All_times P h i l =
      let r = record_at i l in
      let d = entry_of o (Ctrl i 0) in
      subst (λ (e : Entry). P e.time) (entry_at r.0 (Ctrl i 0) d r.1 r.2) (h r.0 d (let n = length-map sent (entry_of o) in let m = r.1 in omega arith))

  -- the time of an entry is that of a control record
  time_at : (k u : ℕ) → k < length (entries_of o sent) → ((d : Entry) → (get_or (entries_of o sent) k d).time ≡ u) → (i : ℕ) × (i < length o.controls) × ((control_at o i).time ≡ u)
  time_at k u l h =
      let m : k < length sent = let n = length-map sent (entry_of o) in omega arith in
      let x = get_or sent k (Ctrl 0 0) in
      let i = In_filter mine x (ctrl_names o) (by_time_In o x (filter mine (ctrl_names o)) (In-get_or sent k (Ctrl 0 0) m)) in
      let r = ctrl_is o x i.0 in
      let d = entry_of o (Ctrl 0 0) in
      (r.0, r.2, ap (time_of o) r.4 ∙ ap (λ (e : Entry). e.time) (sym (get_or-map (entry_of o) sent k (Ctrl 0 0) d m)) ∙ h d)

  waits_for : (x : Name) (r : Option ℕ) → o.paced ≡ true → IsLatestBelow (entries_of o sent) (time_of o x) r → IsPaceOf o x r
  waits_for x None paced none = λ worker yes j i stage there before. let l = All_times (λ t. time_of o x ≤ t) none i there in absurd (omega arith)
  waits_for x (Some u) paced latest = λ worker. (
    (λ may j stage.
        let r = time_at latest.1.0 u latest.1.1 latest.1.2 in
        subst (HasPassed (worker.seen (Host j))) r.2 (may paced j r.0 stage r.1 (let l = latest.0 in let e = r.2 in omega arith))),
    (λ passed yes j i stage there before.
        passed_earlier (worker.seen (Host j)) u (control_at o i).time (passed j stage) (All_times (λ t. t < time_of o x → t ≤ u) latest.2 i there before)),
  )

  free_to_go : (x : Name) → o.paced ≡ false → IsPaceOf o x None
  free_to_go x free = λ worker yes. absurd (both_ways o.paced free yes)

  pub told_pace : (t : StepTables) → TellsSteps o t → (place : ℕ) (r : Option ℕ) → (t.paced ≡ true → (e : Entry) → slice_get t.controls place ≡ Some e → IsLatestBelow t.controls e.time r) → (t.paced ≡ false → r ≡ None) → (w : ℕ) (x : Name) → StandsAt (to_do o w SendControl) place x → IsPaceOf o x r
  told_pace t tells place r latest none w x stands =
      ⊎_elim
      (λ (paced : o.paced ≡ true).
      ⊎_elim
      (λ (e : w ≡ 0).
      let here : slice_get sent place ≡ Some x = subst (λ (v : ℕ). slice_get (controls_to_send o v) place ≡ Some x) e stands in
      let entry : slice_get (entries_of o sent) place ≡ Some (entry_of o x) = slice_get-map (entry_of o) sent place ∙ ap (option_map (entry_of o)) here in
      waits_for x r paced (subst (λ (es : List Entry). IsLatestBelow es (time_of o x) r) tells.controls (latest (tells.paced ∙ paced) (entry_of o x) (ap (λ (es : List Entry). slice_get es place) tells.controls ∙ entry))))
      (λ (d : w ≢ 0). absurd (nothing (sym (ap (λ (xs : List Name). slice_get xs place) (none_to_send o w d)) ∙ stands)))
      (cases_eq w 0))
      (λ (free : o.paced ≡ false). subst (IsPaceOf o x) (sym (none (tells.paced ∙ free))) (free_to_go x free))
      (cases_Bool o.paced)
    where
      nothing : slice_get {X = Name} [] place ≡ Some x → ⊥
      nothing e = cc
