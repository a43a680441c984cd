-- What the job's tallies tell is what its report has.
use Rattle.std.proofs.Common.{◌≡◌, ◌∙◌, ◌++◌, ◌<◌, ℕ, zero, suc, Bool, true, false, ◌||◌, ◌==◌, ◌&&◌, List, [], ◌∷◌, All, Option, Some, ap, arith, get_or, length, map, refl, subst, sym, ⊎_elim}
use Rattle.std.specs.Prelude.{if◌then◌else◌, slice_get, slice_index_or}
use Rattle.std.specs.List.{list_any}
use Rattle.std.specs.List.Sorted.{IsPermutation}
use Rattle.std.specs.Option.{option_map_or}
use Rattle.std.proofs.lemmas.Bool.{and_parts, cases_Bool, eqb-true, false≢true, or_left, or_right}
use Rattle.std.proofs.lemmas.List.Elements.{All-append, All-map, All-nil}
use Rattle.std.proofs.lemmas.List.Folds.{list_any-append}
use Rattle.std.proofs.lemmas.List.Sorted.{All-permutation, IsPermutation-refl, list_any-IsPermutation}
use Rattle.std.proofs.lemmas.Option.{get_or_from_slice_get}
use Rattle.mp_names.specs.declared.controls.Move.{Move}
use Rattle.mp_names.specs.declared.names.Name.{Name}
use Rattle.mp_names.specs.declared.names.Name.TheVariants.{Packet}
use Rattle.mp_names.specs.Controls.{is_change, move_in}
use Rattle.mp_names.specs.Names.{In, IsPrefix, ascending, has}
use Rattle.mp_names.specs.Outlines.{OutlineIsSound, moves_of, owner_before, packets_of as packets_of_moves}
use Rattle.mp_names.proofs.Lists.{In_filter, In_here, In_later}
use Rattle.mp_names.proofs.Listed.{packet_is}
use Rattle.mp_names.proofs.Owners.{move_in_shape, owner_is_worker}
use Rattle.mp_outside.specs.Sink.{grown}
use Rattle.mp_outside.proofs.SinkLemmas.{grown-nothing}
use Rattle.mp_model.specs.Facts.{JobFacts, QueryFacts}
use Rattle.mp_outline.specs.JobOutline.{outline_of}
use Rattle.mp_handoff.specs.Keys.{HasKeys}
use Rattle.mp_tally.specs.declared.tally.Moved.{Moved}
use Rattle.mp_tally.specs.declared.tally.Tally.{Tally}
use Rattle.mp_tally.specs.Tallies.{MovedHasKeys, name_of_moved}
use Rattle.mp_tally.proofs.Lists.{some_at}
use Rattle.mp_report.specs.Lines.{line_of_worker}
use Rattle.mp_tally.specs.Tallies.{AreTalliesOf}
use Rattle.mp_report.specs.Report.{IsReport, IsReportedInPart, MovesKeys, groups_owned, move_lines, worker_lines}
use Rattle.mp_report.specs.Told.{groups_told, is_moved_by, keys_in, packets_of}
use Rattle.mp_report.proofs.Prefixes.{joined_same, prefix_taken}

-- the groups of the tally at a place
pub groups_at : (tallies : List Tally) (w : ℕ) (t : Tally) → w < length tallies → t ≡ get_or tallies w t → t.groups ≡ groups_told tallies w
groups_at tallies w t l is =
    let some = some_at tallies w l in
    let same : t ≡ some.0 = is ∙ get_or_from_slice_get tallies w some.0 t some.1 in
    ap (λ (u : Tally). u.groups) same ∙ sym (ap (λ (o : Option Tally). option_map_or (λ u. u.groups) o 0) some.1)

nth_In : (xs : List Name) (k : ℕ) (d : Name) → k < length xs → In (slice_index_or xs k d) xs
nth_In [] k d l = absurd (omega arith)
nth_In (x ∷ xs) zero d l = In_here x xs
nth_In (x ∷ xs) (suc k) d l = In_later (slice_index_or xs k d) x xs (nth_In xs k d (omega arith))

-- a packet of the move is told
has_moved : (m : Move) (xs : List Moved) → has (map name_of_moved xs) (Packet m.stage m.bin m.time) ≡ list_any (is_moved_by m) xs
has_moved m [] = refl
has_moved m (x ∷ xs) = ap (λ (b : Bool). is_moved_by m x || b) (has_moved m xs)

-- what a tally tells is among what all tell
told_there : (m : Move) (tallies : List Tally) (w : ℕ) (t : Tally) → slice_get tallies w ≡ Some t → list_any (is_moved_by m) t.moved.items ≡ true → list_any (is_moved_by m) (packets_of tallies) ≡ true
told_there m [] w t e i = absurd (cc)
told_there m (u ∷ us) zero t e i =
    let same : u ≡ t = cc (e) in
    let here : list_any (is_moved_by m) u.moved.items ≡ true = rw same i in
    list_any-append (is_moved_by m) u.moved.items (packets_of us) ∙ or_left (list_any (is_moved_by m) u.moved.items) (list_any (is_moved_by m) (packets_of us)) here
told_there m (u ∷ us) (suc w) t e i =
    list_any-append (is_moved_by m) u.moved.items (packets_of us)
    ∙ or_right (list_any (is_moved_by m) u.moved.items) (list_any (is_moved_by m) (packets_of us)) (told_there m us w t e i)

module _ {Cell : Type 0} (q : QueryFacts Cell) (job : JobFacts) where
  -- the packet of a move that was sent has the keys of the move
  keys_in_are : (xs : List Moved) (m : Move) → All (MovedHasKeys q job) xs → list_any (is_moved_by m) xs ≡ true → HasKeys q job m.stage m.bin m.time (keys_in xs m)
  keys_in_are [] m h i = absurd (false≢true i)
  keys_in_are (x ∷ xs) m h i =
      ⊎_elim
      (λ (e : is_moved_by m x ≡ true).
      let parts = and_parts (x.stage == m.stage) (x.bin == m.bin && x.time == m.time) e in
      let last = and_parts (x.bin == m.bin) (x.time == m.time) parts.1 in
      let here : HasKeys q job x.stage x.bin x.time x.keys = h 0 x (omega arith) in
      let at_stage = subst (λ (j : ℕ). HasKeys q job j x.bin x.time x.keys) (eqb-true x.stage m.stage parts.0) here in
      let at_bin = subst (λ (b : ℕ). HasKeys q job m.stage b x.time x.keys) (eqb-true x.bin m.bin last.0) at_stage in
      let at_time = subst (λ (t : ℕ). HasKeys q job m.stage m.bin t x.keys) (eqb-true x.time m.time last.1) at_bin in
      subst (HasKeys q job m.stage m.bin m.time) (sym (ap (λ (b : Bool). if b then x.keys else keys_in xs m) e)) at_time)
      (λ (e : is_moved_by m x ≡ false).
      let there : list_any (is_moved_by m) xs ≡ true = sym (ap (λ (b : Bool). b || list_any (is_moved_by m) xs) e) ∙ i in
      subst (HasKeys q job m.stage m.bin m.time) (sym (ap (λ (b : Bool). if b then x.keys else keys_in xs m) e)) (keys_in_are xs m (λ k d l. h (suc k) d (omega arith)) there))
      (cases_Bool (is_moved_by m x))

  -- every packet has its keys, and so has what stands in another order
  told_keys : (tallies : List Tally) (each : (w : ℕ) (t : Tally) → slice_get tallies w ≡ Some t → All (MovedHasKeys q job) t.moved.items) → All (MovedHasKeys q job) (packets_of tallies)
  told_keys [] each = All-nil (MovedHasKeys q job)
  told_keys (t ∷ ts) each = All-append (MovedHasKeys q job) t.moved.items (packets_of ts) (each 0 t refl) (told_keys ts (λ w u e. each (suc w) u e))

  module _ (ok : OutlineIsSound (outline_of q job)) (tallies : List Tally) (are : AreTalliesOf q job tallies) (packets : List Moved) (all : IsPermutation (packets_of tallies) packets) where
    one_moved : (x : Name) → In x (packets_of_moves (outline_of q job)) → MovesKeys q job (keys_in packets) (move_in job.controls (outline_of q job).first_owner x)
    unfolding packets_of_moves owner_before
    one_moved (Packet j b t) i =
        let o = outline_of q job in
        let move = packet_is o j b t i in
        let fits = move_in_shape o ok j b t move in
        let w = owner_before o j b t in
        let inside : w < length tallies = omega (arith, owner_is_worker o ok j b t fits.0 fits.1, are.all) in
        let some = some_at tallies w inside in
        let tally = are.each w some.0 some.1 in
        let there = (tally.moves j b t).1 (move, refl) in
        let m : Move = move_in job.controls o.first_owner (Packet j b t) in
        let keys = All-permutation (MovedHasKeys q job) (packets_of tallies) packets all (told_keys tallies (λ v u e. (are.each v u e).keys)) in
        let told = told_there m tallies w some.0 some.1 (sym (has_moved m some.0.moved.items) ∙ there) in
        keys_in_are packets m keys (sym (list_any-IsPermutation (is_moved_by m) (packets_of tallies) packets all) ∙ told)
    one_moved x i = absurd (false≢true (In_filter (is_change job.controls (outline_of q job).first_owner) x (ascending (map (λ c. Packet c.stage c.bin c.time) job.controls)) i).1)

    all_moved : All (MovesKeys q job (keys_in packets)) (moves_of (outline_of q job))
    unfolding moves_of packets_of_moves
    all_moved =
        let o = outline_of q job in
        All-map (MovesKeys q job (keys_in packets)) (move_in job.controls o.first_owner) (packets_of_moves o) (λ k d l. one_moved (slice_index_or (packets_of_moves o) k d) (nth_In (packets_of_moves o) k d l))

    one_group : (w : ℕ) → w < job.shape.workers → groups_told tallies w ≡ groups_owned q job w
    one_group w l =
        let inside : w < length tallies = omega (arith, are.all) in
        let some = some_at tallies w inside in
        ap (λ (u : Option Tally). option_map_or (λ a. a.groups) u 0) some.1 ∙ (are.each w some.0 some.1).groups

    same_workers : worker_lines (groups_told tallies) (length tallies) ≡ worker_lines (groups_owned q job) job.shape.workers
    same_workers =
        ap (worker_lines (groups_told tallies)) are.all
        ∙ joined_same (λ w. line_of_worker w (groups_told tallies w)) (λ w. line_of_worker w (groups_owned q job w)) job.shape.workers
        (λ w l. ap (line_of_worker w) (one_group w l))

    -- the text that the tallies tell
    abbrev pub told_text : List ℕ
    told_text = move_lines (keys_in packets) (moves_of (outline_of q job)) ++ worker_lines (groups_told tallies) (length tallies)

    pub told_report : IsReport q job told_text
    told_report = record {
      keys = keys_in packets;
      moved = all_moved;
      told = ap (λ (l : List ℕ). move_lines (keys_in packets) (moves_of (outline_of q job)) ++ l) same_workers;
    }

    pub told_in_part : (before now : Option (List ℕ)) (text : List ℕ) → IsPrefix text told_text → now ≡ grown before text → IsReportedInPart q job before now
    told_in_part before now text p e = (told_text, told_report, length text, e ∙ ap (grown before) (prefix_taken text told_text p))

  -- and nothing is a beginning of it
  pub nothing_told : OutlineIsSound (outline_of q job) → (tallies : List Tally) → AreTalliesOf q job tallies → (before : Option (List ℕ)) → IsReportedInPart q job before before
  nothing_told ok tallies are before =
      let same = IsPermutation-refl (packets_of tallies) in
      told_in_part ok tallies are (packets_of tallies) same before before [] (told_text ok tallies are (packets_of tallies) same, refl) (sym (grown-nothing before))
