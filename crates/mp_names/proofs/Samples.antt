-- The small jobs meet what the laws ask for.
use Rattle.std.proofs.Common.{◌≡◌, ℕ, zero, suc, ◌<◌, ◌==◌, ◌||◌, Bool, true, false, cond, List, [], ◌∷◌, refl, sym, ap, ◌∙◌, subst, ⊎_elim, arith, mod-lt}
use Rattle.std.proofs.lemmas.Bool.{false≢true, eqb-true, or_cases}
use Rattle.mp_names.specs.declared.names.Name.{Name}
use Rattle.mp_names.specs.declared.names.Name.TheVariants.{Rec, Row, Group}
use Rattle.mp_names.specs.declared.names.Tag.{Tag}
use Rattle.mp_names.specs.Names.{In, Distinct, is_rec, is_row, is_group, ascending}
use Rattle.mp_names.specs.Outlines.{Outline, OutlineIsSound, control_at, time_of, owner_before, packets_of, groups_of, owed_names, is_posted, IsInShape, StandByIndex, index_of, IsOwedTo}
use Rattle.mp_names.specs.Logs.{LogIsLegal, LogsAreLegal, empty_log, with_ingested}
use Rattle.mp_names.specs.Frontiers.{log_at}
use Rattle.mp_names.specs.Samples.{tag, two_moves, stopped_moves, two_bids, wake_goes_on, TwoMovesAreSound, StoppedMovesAreSound, OpeningWakeGoesOn, first_bid, second_bid, posted_early}
use Rattle.mp_names.proofs.Lists.{In_cases}
use Rattle.mp_names.proofs.NameParts.{key_in}
use Rattle.mp_names.proofs.Keeps.{empty_is_legal, ingested_keeps, held_keeps, took_keeps}

-- what holds of each name of a list, shown name by name

none : (P : Name → Type 0) (x : Name) → In x [] → P x
none P x h = absurd (false≢true h)

each : (P : Name → Type 0) (y : Name) (ys : List Name) → P y → ((x : Name) → In x ys → P x) → (x : Name) → In x (y ∷ ys) → P x
each P y ys h k x i = ⊎_elim (λ (e : y ≡ x). subst P e h) (λ (j : In x ys). k x j) (In_cases x y ys i)

-- records that stand by index are told apart by their tags

index_tells : (xs : List Name) → StandByIndex xs → (j t k l : ℕ) (g : Tag) → In (Rec j t k g) xs → In (Rec j t l g) xs → k ≡ l
index_tells [] s j t k l g h i = absurd (false≢true h)
index_tells (x ∷ xs) s j t k l g h i =
    ⊎_elim
    (λ (e : x ≡ Rec j t k g). ⊎_elim (λ (f : x ≡ Rec j t l g). ap key_in (sym e ∙ f)) (λ (f : In (Rec j t l g) xs). absurd (apart (Rec j t k g) (Rec j t l g) e f refl)) (In_cases (Rec j t l g) x xs i))
    (λ (e : In (Rec j t k g) xs). ⊎_elim (λ (f : x ≡ Rec j t l g). absurd (apart (Rec j t l g) (Rec j t k g) f e refl)) (λ (f : In (Rec j t l g) xs). index_tells xs s.1 j t k l g e f) (In_cases (Rec j t l g) x xs i))
    (In_cases (Rec j t k g) x xs h)
  where
    apart : (y z : Name) → x ≡ y → In z xs → index_of y ≡ index_of z → ⊥
    apart y z e i f = let l = subst (λ (u : Name). index_of u < index_of z) e (s.0 z i) in omega arith

-- counts_cancel

two_bids_records : List Name
two_bids_records = first_bid ∷ second_bid ∷ []

abbrev RowGiven : Outline → ℕ → Name → Type 0
RowGiven o j (Row t g) = In (Group j t g.0) (groups_of o j)
RowGiven o j _ = Unit {0}

two_bids_by_index : StandByIndex (two_bids.records 0)
two_bids_by_index = (each (λ y. 0 < index_of y) second_bid [] (omega arith) (none (λ y. 0 < index_of y)), (none (λ y. 1 < index_of y), tt))

two_bids_are : (j : ℕ) (x : Name) → In x (two_bids.records j) → (j < 1) × (is_rec j x ≡ true)
two_bids_are zero = each (λ x. (0 < 1) × (is_rec 0 x ≡ true)) first_bid (second_bid ∷ []) (omega arith, refl) (each (λ x. (0 < 1) × (is_rec 0 x ≡ true)) second_bid [] (omega arith, refl) (none (λ x. (0 < 1) × (is_rec 0 x ≡ true))))
two_bids_are (suc zero) = none (λ x. (1 < 1) × (is_rec 1 x ≡ true))
two_bids_are (suc (suc j)) = none (λ x. (suc (suc j) < 1) × (is_rec (suc (suc j)) x ≡ true))

two_bids_once : (j : ℕ) → Distinct (two_bids.records j)
two_bids_once zero = (refl, (refl, tt))
two_bids_once (suc zero) = tt
two_bids_once (suc (suc j)) = tt

two_bids_tags : (j t k l : ℕ) (g : Tag) → In (Rec j t k g) (two_bids.records j) → In (Rec j t l g) (two_bids.records j) → k ≡ l
two_bids_tags zero t k l g h i = index_tells (two_bids.records 0) two_bids_by_index 0 t k l g h i
two_bids_tags (suc zero) t k l g h i = absurd (false≢true h)
two_bids_tags (suc (suc j)) t k l g h i = absurd (false≢true h)

two_bids_later : (j t k : ℕ) (g : Tag) → In (Rec (suc j) t k g) (two_bids.records (suc j)) → ⊥
two_bids_later zero t k g h = false≢true h
two_bids_later (suc j) t k g h = false≢true h

two_bids_rows : (x : Name) → In x two_bids.rows → RowGiven two_bids 0 x
unfolding groups_of ascending
two_bids_rows = each (RowGiven two_bids 0) (Row 5 (tag 4 0)) (Row 5 (tag 1 0) ∷ []) refl (each (RowGiven two_bids 0) (Row 5 (tag 1 0)) [] refl (none (RowGiven two_bids 0)))

one_or_two : (b : Bool) (n : ℕ) → n ≡ cond b 1 2 → n < 4
one_or_two true n e = omega arith
one_or_two false n e = omega arith

pub two_bids_sound : OutlineIsSound two_bids
two_bids_sound =
    record {
      some_worker = omega arith;
      some_stage = omega arith;
      some_bundle = omega arith;
      controls_fit = λ i l. absurd (omega arith);
      first_owners_fit = λ j b l k. mod-lt b (omega arith);
      bins_fit = λ k. one_or_two (k == 4) (two_bids.bin_of k) refl;
      records_are = two_bids_are;
      records_once = two_bids_once;
      records_by_index = two_bids_by_index;
      tags_tell = two_bids_tags;
      posts_later = λ j x u i p. absurd (false≢true p);
      records_given = λ j t k g h. absurd (two_bids_later j t k g h);
      rows_are = each (λ x. is_row x ≡ true) (Row 5 (tag 4 0)) (Row 5 (tag 1 0) ∷ []) refl (each (λ x. is_row x ≡ true) (Row 5 (tag 1 0)) [] refl (none (λ x. is_row x ≡ true)));
      rows_once = (refl, (refl, tt));
      rows_given = λ t g h. two_bids_rows (Row t g) h;
      controls_stop = λ i l. tt;
      records_stop = λ j x i. tt;
      rows_stop = λ x i. tt;
      opening_are = λ j x h. absurd (false≢true h);
      opening_first = λ j x h i l. absurd (false≢true h);
    }

-- two_moves

abbrev first_record : Name
first_record = Rec 0 0 1 (tag 0 0)

abbrev next_record : Name
next_record = Rec 0 5 1 (tag 0 1)

abbrev sale : Name
sale = Rec 1 100 10 (tag 1 0)

two_moves_controls : (i : ℕ) → i < 2 → IsInShape two_moves (control_at two_moves i)
two_moves_controls zero l = (omega arith, omega arith, omega arith)
two_moves_controls (suc zero) l = (omega arith, omega arith, omega arith)
two_moves_controls (suc (suc i)) l = absurd (omega arith)

two_moves_by_index : StandByIndex (two_moves.records 0)
two_moves_by_index = (each (λ y. 0 < index_of y) next_record [] (omega arith) (none (λ y. 0 < index_of y)), (none (λ y. 1 < index_of y), tt))

two_moves_are : (j : ℕ) (x : Name) → In x (two_moves.records j) → (j < 2) × (is_rec j x ≡ true)
two_moves_are zero = each (λ x. (0 < 2) × (is_rec 0 x ≡ true)) first_record (next_record ∷ []) (omega arith, refl) (each (λ x. (0 < 2) × (is_rec 0 x ≡ true)) next_record [] (omega arith, refl) (none (λ x. (0 < 2) × (is_rec 0 x ≡ true))))
two_moves_are (suc zero) = each (λ x. (1 < 2) × (is_rec 1 x ≡ true)) sale [] (omega arith, refl) (none (λ x. (1 < 2) × (is_rec 1 x ≡ true)))
two_moves_are (suc (suc j)) = none (λ x. (suc (suc j) < 2) × (is_rec (suc (suc j)) x ≡ true))

two_moves_once : (j : ℕ) → Distinct (two_moves.records j)
two_moves_once zero = (refl, (refl, tt))
two_moves_once (suc zero) = (refl, tt)
two_moves_once (suc (suc j)) = tt

two_moves_tags : (j t k l : ℕ) (g : Tag) → In (Rec j t k g) (two_moves.records j) → In (Rec j t l g) (two_moves.records j) → k ≡ l
two_moves_tags zero t k l g h i = index_tells (two_moves.records 0) two_moves_by_index 0 t k l g h i
two_moves_tags (suc zero) t k l g h i = index_tells (sale ∷ []) (none (λ y. 0 < index_of y), tt) 1 t k l g h i
two_moves_tags (suc (suc j)) t k l g h i = absurd (false≢true h)

-- a list of one time has this time alone
posted_one : (v u : ℕ) → ((v == u) || false) ≡ true → v ≡ u
posted_one v u h = ⊎_elim (λ (e : (v == u) ≡ true). eqb-true v u e) (λ (e : false ≡ true). absurd (false≢true e)) (or_cases (v == u) false h)

abbrev PostsLater : Name → Type 0
PostsLater x = (u : ℕ) → is_posted two_moves x u ≡ true → time_of two_moves x < u

two_moves_posts : (j : ℕ) (x : Name) → In x (two_moves.records j) → PostsLater x
two_moves_posts zero =
    each PostsLater first_record (next_record ∷ []) (λ u p. let e = posted_one 100 u p in omega arith) (each PostsLater next_record [] (λ u p. absurd (false≢true p)) (none PostsLater))
two_moves_posts (suc zero) = each PostsLater sale [] (λ u p. let e = posted_one 120 u p in omega arith) (none PostsLater)
two_moves_posts (suc (suc j)) = none PostsLater

abbrev RecordGiven : Outline → ℕ → Name → Type 0
RecordGiven o j (Rec i t k g) = In (Group j t g.0) (groups_of o j)
RecordGiven o j _ = Unit {0}

two_moves_given : (j : ℕ) (x : Name) → In x (two_moves.records (suc j)) → RecordGiven two_moves j x
unfolding groups_of ascending
two_moves_given zero = each (RecordGiven two_moves 0) sale [] refl (none (RecordGiven two_moves 0))
two_moves_given (suc j) = none (RecordGiven two_moves (suc j))

two_moves_rows : (x : Name) → In x two_moves.rows → RowGiven two_moves 1 x
unfolding groups_of ascending
two_moves_rows = each (RowGiven two_moves 1) (Row 120 (tag 10 0)) [] refl (none (RowGiven two_moves 1))

pub two_moves_sound : OutlineIsSound two_moves
two_moves_sound =
    record {
      some_worker = omega arith;
      some_stage = omega arith;
      some_bundle = omega arith;
      controls_fit = two_moves_controls;
      first_owners_fit = λ j b l k. mod-lt b (omega arith);
      bins_fit = λ k. omega arith;
      records_are = two_moves_are;
      records_once = two_moves_once;
      records_by_index = two_moves_by_index;
      tags_tell = two_moves_tags;
      posts_later = λ j x u i p. two_moves_posts j x i u p;
      records_given = λ j t k g h. two_moves_given j (Rec (suc j) t k g) h;
      rows_are = each (λ x. is_row x ≡ true) (Row 120 (tag 10 0)) [] refl (none (λ x. is_row x ≡ true));
      rows_once = (refl, tt);
      rows_given = λ t g h. two_moves_rows (Row t g) h;
      controls_stop = λ i l. tt;
      records_stop = λ j x i. tt;
      rows_stop = λ x i. tt;
      opening_are = λ j x h. absurd (false≢true h);
      opening_first = λ j x h i l. absurd (false≢true h);
    }

apart : (m n : ℕ) → m ≡ 0 → n ≡ 1 → m ≡ n → ⊥
apart m n e f g = omega arith

pub two_moves_are_sound : TwoMovesAreSound
unfolding owner_before
two_moves_are_sound =
    record {
      sound = two_moves_sound;
      first_move = λ e. apart 0 1 refl refl e;
      first_wake = refl;
      second_move = λ e. apart 0 1 refl refl e;
      second_wake = refl;
    }

-- wake_goes_on

goes_on_controls : (i : ℕ) → i < 1 → IsInShape wake_goes_on (control_at wake_goes_on i)
goes_on_controls zero l = (omega arith, omega arith, omega arith)
goes_on_controls (suc i) l = absurd (omega arith)

goes_on_later : (i : ℕ) → i < 1 → 0 < (control_at wake_goes_on i).time
goes_on_later zero l = omega arith
goes_on_later (suc i) l = absurd (omega arith)

goes_on_are : (j : ℕ) (x : Name) → In x (wake_goes_on.records j) → (j < 2) × (is_rec j x ≡ true)
goes_on_are zero = none (λ x. (0 < 2) × (is_rec 0 x ≡ true))
goes_on_are (suc j) = two_moves_are (suc j)

goes_on_once : (j : ℕ) → Distinct (wake_goes_on.records j)
goes_on_once zero = tt
goes_on_once (suc j) = two_moves_once (suc j)

goes_on_tags : (j t k l : ℕ) (g : Tag) → In (Rec j t k g) (wake_goes_on.records j) → In (Rec j t l g) (wake_goes_on.records j) → k ≡ l
goes_on_tags zero t k l g h i = absurd (false≢true h)
goes_on_tags (suc j) t k l g h i = two_moves_tags (suc j) t k l g h i

goes_on_opening : (j : ℕ) (x : Name) → In x (wake_goes_on.opening j) → (j < 2) × (is_group j x ≡ true)
goes_on_opening zero = each (λ x. (0 < 2) × (is_group 0 x ≡ true)) (Group 0 100 1) [] (omega arith, refl) (none (λ x. (0 < 2) × (is_group 0 x ≡ true)))
goes_on_opening (suc zero) = none (λ x. (1 < 2) × (is_group 1 x ≡ true))
goes_on_opening (suc (suc j)) = none (λ x. (suc (suc j) < 2) × (is_group (suc (suc j)) x ≡ true))

goes_on_given : (j : ℕ) (x : Name) → In x (wake_goes_on.records (suc j)) → RecordGiven wake_goes_on j x
unfolding groups_of ascending
goes_on_given zero = each (RecordGiven wake_goes_on 0) sale [] refl (none (RecordGiven wake_goes_on 0))
goes_on_given (suc j) = none (RecordGiven wake_goes_on (suc j))

goes_on_rows : (x : Name) → In x wake_goes_on.rows → RowGiven wake_goes_on 1 x
unfolding groups_of ascending
goes_on_rows = each (RowGiven wake_goes_on 1) (Row 100 (tag 10 0)) [] refl (none (RowGiven wake_goes_on 1))

pub wake_goes_on_sound : OutlineIsSound wake_goes_on
wake_goes_on_sound =
    record {
      some_worker = omega arith;
      some_stage = omega arith;
      some_bundle = omega arith;
      controls_fit = goes_on_controls;
      first_owners_fit = λ j b l k. mod-lt b (omega arith);
      bins_fit = λ k. omega arith;
      records_are = goes_on_are;
      records_once = goes_on_once;
      records_by_index = tt;
      tags_tell = goes_on_tags;
      posts_later = λ j x u i p. absurd (false≢true p);
      records_given = λ j t k g h. goes_on_given j (Rec (suc j) t k g) h;
      rows_are = each (λ x. is_row x ≡ true) (Row 100 (tag 10 0)) [] refl (none (λ x. is_row x ≡ true));
      rows_once = (refl, tt);
      rows_given = λ t g h. goes_on_rows (Row t g) h;
      controls_stop = λ i l. tt;
      records_stop = λ j x i. tt;
      rows_stop = λ x i. tt;
      opening_are = goes_on_opening;
      opening_first = λ j x h i l. goes_on_later i l;
    }

pub opening_wake_goes_on : OpeningWakeGoesOn
unfolding ascending owner_before packets_of groups_of owed_names
opening_wake_goes_on =
    record {
      sound = wake_goes_on_sound;
      move = λ e. apart 0 1 refl refl e;
      woken = refl;
      with_first_owner = refl;
      with_no_other = refl;
      at_first = refl;
      once_sent = refl;
      packet = refl;
      once_taken = refl;
      with_new_owner = refl;
      frontier_at_first = refl;
      frontier_once_sent = refl;
      frontier_once_taken = refl;
    }

-- stopped_moves

stopped_controls : (i : ℕ) → i < 1 → IsInShape stopped_moves (control_at stopped_moves i)
stopped_controls zero l = (omega arith, omega arith, omega arith)
stopped_controls (suc i) l = absurd (omega arith)

stopped_by_index : StandByIndex (stopped_moves.records 0)
stopped_by_index = (each (λ y. 0 < index_of y) next_record [] (omega arith) (none (λ y. 0 < index_of y)), (none (λ y. 1 < index_of y), tt))

-- what holds of both records holds of every record
stopped_each : (P : ℕ → Name → Type 0) → P 0 first_record → P 0 next_record → (j : ℕ) (x : Name) → In x (stopped_moves.records j) → P j x
stopped_each P h k zero = each (P 0) first_record (next_record ∷ []) h (each (P 0) next_record [] k (none (P 0)))
stopped_each P h k (suc zero) = none (P 1)
stopped_each P h k (suc (suc j)) = none (P (suc (suc j)))

stopped_once : (j : ℕ) → Distinct (stopped_moves.records j)
stopped_once zero = (refl, (refl, tt))
stopped_once (suc zero) = tt
stopped_once (suc (suc j)) = tt

stopped_tags : (j t k l : ℕ) (g : Tag) → In (Rec j t k g) (stopped_moves.records j) → In (Rec j t l g) (stopped_moves.records j) → k ≡ l
stopped_tags zero t k l g h i = index_tells (stopped_moves.records 0) stopped_by_index 0 t k l g h i
stopped_tags (suc zero) t k l g h i = absurd (false≢true h)
stopped_tags (suc (suc j)) t k l g h i = absurd (false≢true h)

stopped_later : (j t k : ℕ) (g : Tag) → In (Rec (suc j) t k g) (stopped_moves.records (suc j)) → ⊥
stopped_later zero t k g h = false≢true h
stopped_later (suc j) t k g h = false≢true h

stopped_in_time : (i : ℕ) → i < 1 → (control_at stopped_moves i).time < 60
stopped_in_time zero l = omega arith
stopped_in_time (suc i) l = absurd (omega arith)

stopped_sound : OutlineIsSound stopped_moves
stopped_sound =
    record {
      some_worker = omega arith;
      some_stage = omega arith;
      some_bundle = omega arith;
      controls_fit = stopped_controls;
      first_owners_fit = λ j b l k. mod-lt b (omega arith);
      bins_fit = λ k. omega arith;
      records_are = stopped_each (λ j x. (j < 2) × (is_rec j x ≡ true)) (omega arith, refl) (omega arith, refl);
      records_once = stopped_once;
      records_by_index = stopped_by_index;
      tags_tell = stopped_tags;
      posts_later = λ j x u i p. stopped_each (λ j x. (u : ℕ) → is_posted stopped_moves x u ≡ true → time_of stopped_moves x < u) (λ u p. let e = posted_one 100 u p in omega arith) (λ u p. absurd (false≢true p)) j x i u p;
      records_given = λ j t k g h. absurd (stopped_later j t k g h);
      rows_are = none (λ x. is_row x ≡ true);
      rows_once = tt;
      rows_given = λ t g h. absurd (false≢true h);
      controls_stop = stopped_in_time;
      records_stop = stopped_each (λ j x. time_of stopped_moves x < 60) (omega arith) (omega arith);
      rows_stop = none (λ x. time_of stopped_moves x < 60);
      opening_are = λ j x h. absurd (false≢true h);
      opening_first = λ j x h. absurd (false≢true h);
    }

pub stopped_moves_are_sound : StoppedMovesAreSound
unfolding groups_of ascending
stopped_moves_are_sound = record { sound = stopped_sound; wake = refl; listed = refl; not_due = refl }

-- the logs of two_bids, made by steps

pub first_owed : IsOwedTo two_bids 1 first_bid
unfolding owner_before
first_owed = ((omega arith, refl), refl)

second_owed : IsOwedTo two_bids 2 second_bid
unfolding owner_before
second_owed = ((omega arith, refl), refl)

first_sent : LogIsLegal two_bids 0 (log_at posted_early 0)
first_sent =
    let ingested = ingested_keeps two_bids 0 empty_log (empty_is_legal two_bids 0) first_bid ([], refl) in
    held_keeps two_bids 0 (with_ingested empty_log first_bid) ingested (is_rec 0) first_bid (refl, (omega arith, refl), refl, refl)

second_taken : LogIsLegal two_bids 2 (log_at posted_early 2)
second_taken = took_keeps two_bids 2 empty_log (empty_is_legal two_bids 2) second_bid refl second_owed

pub early_legal : LogsAreLegal two_bids (log_at posted_early)
early_legal zero l = first_sent
early_legal (suc zero) l = empty_is_legal two_bids 1
early_legal (suc (suc zero)) l = second_taken
early_legal (suc (suc (suc w))) l = absurd (omega arith)
