-- The groups that wait by an empty log: those of the wakes that the job begins with, of the bins whose first owner is the worker.
use Rattle.std.proofs.Common.{◌≡◌, ◌≢◌, ℕ, ◌&&◌, ◌==◌, Bool, true, false, List, count_by, map, Contains, pos, refl, sym, ap, ◌∙◌, subst}
use Rattle.std.proofs.lemmas.Bool.{and_parts, eqb-true, false≢true}
use Rattle.mp_names.specs.declared.locations.Loc.{Loc}
use Rattle.mp_names.specs.declared.locations.Loc.TheVariants.{Host}
use Rattle.mp_names.specs.declared.names.Name.{Name}
use Rattle.mp_names.specs.declared.names.Name.TheVariants.{Group}
use Rattle.mp_names.specs.Frontiers.{contribution, number_at}
use Rattle.mp_names.specs.Logs.{empty_log, is_pending}
use Rattle.mp_names.specs.Names.{Distinct, In}
use Rattle.mp_names.specs.Outlines.{OutlineIsSound, groups_of, time_of}
use Rattle.mp_names.proofs.Hosts.{first_pending, pending_first}
use Rattle.mp_names.proofs.Listed.{groups_are, groups_ascend, opening_group}
use Rattle.mp_names.proofs.Lists.{same_count}
use Rattle.mp_names.proofs.NameParts.{same_group}
use Rattle.mp_names.proofs.Orders.{ascending_once}
use Rattle.mp_stamps.specs.Counts.{same_loc}
use Rattle.mp_model.specs.Facts.{JobFacts, QueryFacts}
use Rattle.mp_outline.specs.JobOutline.{name_of_wake, outline_of}
use Rattle.mp_outline.proofs.Named.{In_named, count_named, named_In, named_once}
use Rattle.mp_outline.proofs.Pairs.{Pairs-AllPairs, Pairs-weaker}
use Rattle.mp_outline.proofs.Waking.{wake_named, wake_stands}
use Rattle.mp_rows.specs.Entries.{sum_at}
use Rattle.mp_rows.specs.Opening.{wake_entries}
use Rattle.mp_rows.proofs.Sums.{sum_elsewhere, sum_here}
use Rattle.mp_rows.proofs.Wakes.{Below}

module _ {Cell : Type 0} (q : QueryFacts Cell) (job : JobFacts) (w : ℕ) (sound : OutlineIsSound (outline_of q job)) (wakes : List (ℕ × ℕ)) (own : Below q job w job.shape.bins wakes) (t : ℕ) where
  -- the group waits, and has the time
  waits_then : Name → Bool
  waits_then x = is_pending (outline_of q job) w empty_log x && time_of (outline_of q job) x == t

  -- their names
  names : List Name
  names = map (name_of_wake 0) wakes

  names_stand_once : Distinct names
  unfolding names
  names_stand_once =
      named_once (name_of_wake 0) wakes (Pairs-weaker (λ (u v : ℕ × ℕ). u ≢ v) (λ (u v : ℕ × ℕ). name_of_wake 0 u ≡ name_of_wake 0 v → ⊥) (λ u v other e. other (same u v e)) wakes (Pairs-AllPairs (λ (u v : ℕ × ℕ). u ≢ v) wakes own.once))
    where
      same : (u v : ℕ × ℕ) → name_of_wake 0 u ≡ name_of_wake 0 v → u ≡ v
      same u v e = let s = same_group 0 u.0 u.1 v.0 v.1 e in λ i. (s.0 i, s.1 i)

  opens : (v : ℕ × ℕ) → Contains wakes v → In (name_of_wake 0 v) ((outline_of q job).opening 0)
  opens v i = let a = (own.are v.0 v.1).0 i in wake_stands q job 0 v sound.some_stage a.0

  wake_waits : (v : ℕ × ℕ) → Contains wakes v → is_pending (outline_of q job) w empty_log (name_of_wake 0 v) ≡ true
  wake_waits v i = let a = (own.are v.0 v.1).0 i in first_pending (outline_of q job) w 0 v.0 v.1 (opens v i, a.1.1)

  name_listed : (x : Name) → In x names → waits_then x ≡ true → In x (groups_of (outline_of q job) 0)
  unfolding names
  name_listed x i e =
      let o = outline_of q job in
      let a = In_named (name_of_wake 0) wakes x i in
      subst (λ (y : Name). In y (groups_of o 0)) a.2 (opening_group o 0 (name_of_wake 0 a.0) (opens a.0 a.1))

  listed_named : (x : Name) → In x (groups_of (outline_of q job) 0) → waits_then x ≡ true → In x names
  unfolding names waits_then
  listed_named (Group i u k) m e =
      let o = outline_of q job in
      let staged : i ≡ 0 = eqb-true i 0 (groups_are o sound 0 (Group i u k) m).1 in
      let p = and_parts (is_pending o w empty_log (Group i u k)) (u == t) e in
      let first = pending_first o w 0 u k (subst (λ (n : ℕ). is_pending o w empty_log (Group n u k) ≡ true) staged p.0) in
      let a = wake_named q job 0 (Group 0 u k) first.0 in
      let wake : a.0 ≡ (u, k) = pair a.0 a.2 in
      let there = (own.are u k).1 (subst (Contains (q.waking 0)) wake a.1, (sound.bins_fit k, first.1)) in
      subst (λ (n : ℕ). In (Group n u k) (map (name_of_wake 0) wakes)) (sym staged) (named_In (name_of_wake 0) wakes (u, k) there)
    where
      pair : (v : ℕ × ℕ) → name_of_wake 0 v ≡ Group 0 u k → v ≡ (u, k)
      pair v e = let s = same_group 0 v.0 v.1 u k e in λ i. (s.0 i, s.1 i)
  listed_named x m e = absurd (false≢true (groups_are (outline_of q job) sound 0 x m).1)

  waiting_counted : number_at (outline_of q job) (is_pending (outline_of q job) w empty_log) t (groups_of (outline_of q job) 0) ≡ count_by (λ v. v.0 == t) wakes
  unfolding names waits_then
  waiting_counted =
      let o = outline_of q job in
      let p : Name → Bool = λ x. is_pending o w empty_log x && time_of o x == t in
      same_count p (map (name_of_wake 0) wakes) (groups_of o 0) names_stand_once (ascending_once (groups_of o 0) (groups_ascend o 0)) name_listed listed_named
      ∙ count_named (name_of_wake 0) p (λ (v : ℕ × ℕ). v.0 == t) wakes (λ v i. ap (λ (b : Bool). b && v.0 == t) (wake_waits v i))

  -- the entries of the wakes are what they add to the host of the first stage
  pub wakes_here : sum_at (wake_entries wakes) (Host 0) t ≡ contribution (outline_of q job) w empty_log (Host 0) t
  wakes_here = sum_here (Host 0) (Host 0) (λ (v : ℕ × ℕ). v.0) 1 t refl wakes ∙ ap pos (sym waiting_counted)

-- and nothing elsewhere
pub wakes_elsewhere : (wakes : List (ℕ × ℕ)) (loc : Loc) (t : ℕ) → same_loc (Host 0) loc ≡ false → sum_at (wake_entries wakes) loc t ≡ pos 0
wakes_elsewhere wakes loc t e = sum_elsewhere (Host 0) loc (λ (v : ℕ × ℕ). v.0) 1 t e wakes
