-- A board stays sound as a log is posted on it.
use Rattle.std.proofs.Common.{◌≡◌, ◌≢◌, ◌⊎◌, Contains, get_or, pos, ℕ, zero, suc, ◌+◌, ◌-◌, ◌*◌, ◌^◌, ◌<◌, ◌≤◌, ◌==◌, Bool, true, false, cond, List, ◌++◌, length, set, ℤ, ◌+ℤ◌, ◌-ℤ◌, refl, sym, ap, subst, ◌∙◌, ⊎_elim, arith, length-append}
use Rattle.std.specs.Prelude.{replicate}
use Rattle.std.proofs.lemmas.Bool.{cases_Bool, cases_eq, cases_lt, false≢true, eq-eqb, eqb-true, false_from_ne_true}
use Rattle.std.proofs.lemmas.Int.{ints}
use Rattle.std.proofs.lemmas.List.{get_or-set_other, get_or-set_same, length-set}
use Rattle.mp_names.specs.declared.locations.Loc.{Loc}
use Rattle.mp_names.specs.declared.names.Name.{Name}
use Rattle.mp_names.specs.declared.pointstamps.Change.{Change}
use Rattle.mp_names.specs.Frontiers.{contribution, count_at, HasPassed, IsClosed, IsClosedForOne, IsFrontierOf, log_at, sum_below}
use Rattle.mp_names.specs.Laws.{log_size, names_in}
use Rattle.mp_names.specs.Limits.{most_workers}
use Rattle.mp_names.specs.Logs.{Log, LogGrows, LogsGrow, LogIsLegal, LogsAreLegal, empty_log}
use Rattle.mp_names.specs.Names.{IsPrefix}
use Rattle.mp_names.specs.Outlines.{Outline, OutlineIsSound}
use Rattle.mp_names.proofs.Exact.{closed_from_passed, passed_from_closed, quiet_from_closed}
use Rattle.mp_names.proofs.Grows.{grown_closed, grows_refl}
use Rattle.mp_names.specs.Locations.{IsLocation, stays}
use Rattle.mp_stamps.specs.declared.seen.Seen.{Seen}
use Rattle.mp_stamps.specs.Counts.{CountTable, IsCounted, SamePlaces, count_in, low_of}
use Rattle.mp_stamps.specs.Places.{place_of}
use Rattle.mp_stamps.specs.Seen.{SeenIsDone, seen_at}
use Rattle.mp_stamps.proofs.Tables.{counted_or_gone}
use Rattle.mp_machine.specs.Steps.{same_log, same_names}
use Rattle.mp_machine.proofs.Turns.{same_log_is}
use Rattle.mp_rows.specs.Entries.{sum_at}
use Rattle.mp_rows.specs.WorkerLog.{IsUnposted, most_names}
use Rattle.mp_board.specs.Boards.{ShowsFrontiers}
use Rattle.mp_board.specs.Soundness.{BoardIsSound, HoldsAllTimes}
use Rattle.mp_board.specs.Totals.{HasRoomFor}
use Rattle.mp_board.proofs.Elsewhere.{nothing_elsewhere}
use Rattle.mp_board.proofs.Recounted.{frontier_of_equal}
use Rattle.mp_board.proofs.Sameness.{no_more}

-- The logs with one posted

module _ (logs : List Log) (i : ℕ) (log : Log) (l : i < length logs) where
  pub posted_here : log_at (set logs i log) i ≡ log
  posted_here = get_or-set_same logs i log empty_log l

  pub others_stay : (w : ℕ) → w ≢ i → log_at (set logs i log) w ≡ log_at logs w
  others_stay w n = get_or-set_other logs i w log empty_log n

  -- what holds of each log and of the one that is posted
  pub each_posted : (P : ℕ → Log → Type 0) → P i log → (w : ℕ) → P w (log_at logs w) → P w (log_at (set logs i log) w)
  each_posted P here w h =
      ⊎_elim
      (λ (e : w ≡ i). subst (λ (v : ℕ). P v (log_at (set logs i log) v)) (sym e) (subst (P i) (sym posted_here) here))
      (λ (n : w ≢ i). subst (P w) (sym (others_stay w n)) h)
      (cases_eq w i)

-- Sums of which one part changes

same_part : (a b c d : ℤ) → a ≡ c → b ≡ d → a +ℤ b ≡ c +ℤ d
same_part a b c d e f = omega (arith, ints)

last_part : (a b c d : ℤ) → a ≡ c → a +ℤ b ≡ (c +ℤ d) +ℤ (b -ℤ d)
last_part a b c d e = omega (arith, ints)

first_part : (a b c d e : ℤ) → a ≡ c +ℤ e → b ≡ d → a +ℤ b ≡ (c +ℤ d) +ℤ e
first_part a b c d e f g = omega (arith, ints)

module _ (i : ℕ) (f g : ℕ → ℤ) (others : (w : ℕ) → w ≢ i → g w ≡ f w) where
  same_sum : (n : ℕ) → n ≤ i → sum_below n g ≡ sum_below n f
  same_sum zero l = refl
  same_sum (suc n) l = same_part (sum_below n g) (g n) (sum_below n f) (f n) (same_sum n (omega arith)) (others n (λ e. absurd (omega arith)))

  changed_sum : (n : ℕ) → i < n → sum_below n g ≡ sum_below n f +ℤ (g i -ℤ f i)
  changed_sum zero l = absurd (omega arith)
  changed_sum (suc n) l = ⊎_elim last (before (λ k. changed_sum n k)) (cases_eq n i)
    where
      last : n ≡ i → sum_below n g +ℤ g n ≡ (sum_below n f +ℤ f n) +ℤ (g i -ℤ f i)
      last e = subst (λ (k : ℕ). sum_below n g +ℤ g n ≡ (sum_below n f +ℤ f n) +ℤ (g k -ℤ f k)) e (last_part (sum_below n g) (g n) (sum_below n f) (f n) (same_sum n (omega arith)))

      before : (i < n → sum_below n g ≡ sum_below n f +ℤ (g i -ℤ f i)) → n ≢ i → sum_below n g +ℤ g n ≡ (sum_below n f +ℤ f n) +ℤ (g i -ℤ f i)
      before rest e = first_part (sum_below n g) (g n) (sum_below n f) (f n) (g i -ℤ f i) (rest (omega arith)) (others n e)

-- How many names are posted

module _ (i : ℕ) (old new : ℕ → Log) (others : (w : ℕ) → w ≢ i → new w ≡ old w) where
  same_below : (n : ℕ) → n ≤ i → names_in n new ≡ names_in n old
  same_below zero l = refl
  same_below (suc n) l =
      let a = same_below n (omega arith) in
      let b : log_size (new n) ≡ log_size (old n) = ap log_size (others n (λ e. absurd (omega arith))) in
      omega arith

  pub names_change : (n : ℕ) → i < n → names_in n new + log_size (old i) ≡ names_in n old + log_size (new i)
  names_change zero l = absurd (omega arith)
  names_change (suc n) l = ⊎_elim last (before (λ k. names_change n k)) (cases_eq n i)
    where
      last : n ≡ i → names_in n new + log_size (new n) + log_size (old i) ≡ names_in n old + log_size (old n) + log_size (new i)
      last e = let a = same_below n (omega arith) in rw e (let b = rw e at a in omega arith)

      before : (i < n → names_in n new + log_size (old i) ≡ names_in n old + log_size (new i)) → n ≢ i → names_in n new + log_size (new n) + log_size (old i) ≡ names_in n old + log_size (old n) + log_size (new i)
      before rest e =
          let a = rest (omega arith) in
          let b : log_size (new n) ≡ log_size (old n) = ap log_size (others n e) in
          omega arith

prefix_length : (xs ys : List Name) → IsPrefix xs ys → length xs ≤ length ys
prefix_length xs ys p = let e : length (xs ++ p.0) ≡ length ys = ap length p.1 in omega (arith, length-append xs p.0)

as_long : (xs ys : List Name) → IsPrefix xs ys → length ys ≤ length xs → same_names ys xs ≡ true
as_long xs ys p l = let k = prefix_length xs ys p in sym (no_more xs ys p) ∙ eq-eqb (length ys) (length xs) (omega arith)

-- a log that grows holds as many names, and more where it changes
pub grows_in_size : (a b : Log) → LogGrows a b → log_size a ≤ log_size b
grows_in_size a b g =
    omega (arith, prefix_length a.ingested b.ingested g.ingested, prefix_length a.sent b.sent g.sent, prefix_length a.took b.took g.took, prefix_length a.applied b.applied g.applied, prefix_length a.settled b.settled g.settled)

pub changes_in_size : (a b : Log) → LogGrows a b → same_log b a ≡ false → log_size a < log_size b
changes_in_size a b g e = ⊎_elim (λ (l : log_size a < log_size b). l) (λ (l : log_size b ≤ log_size a). absurd (false≢true (sym e ∙ same l))) (cases_lt (log_size a) (log_size b))
  where
    same : log_size b ≤ log_size a → same_log b a ≡ true
    same l =
        let i = prefix_length a.ingested b.ingested g.ingested in
        let s = prefix_length a.sent b.sent g.sent in
        let t = prefix_length a.took b.took g.took in
        let p = prefix_length a.applied b.applied g.applied in
        let d = prefix_length a.settled b.settled g.settled in
        rw (as_long a.ingested b.ingested g.ingested (omega arith), as_long a.sent b.sent g.sent (omega arith), as_long a.took b.took g.took (omega arith), as_long a.applied b.applied g.applied (omega arith))
        (as_long a.settled b.settled g.settled (omega arith))

-- so the version is still at most their number
names_small : (n : ℕ) (logs : ℕ → Log) → ((w : ℕ) → log_size (logs w) ≤ most_names) → names_in n logs ≤ n * most_names
names_small zero logs h = omega arith
names_small (suc n) logs h = let a = names_small n logs h in let b = h n in omega (arith, a, b)

-- whether a log that has grown is the same is told by its size
pub same_by_size : (a b : Log) → LogGrows a b → (log_size b == log_size a) ≡ same_log b a
same_by_size a b g = ⊎_elim yes no (cases_Bool (same_log b a))
  where
    yes : same_log b a ≡ true → (log_size b == log_size a) ≡ same_log b a
    yes e = eq-eqb (log_size b) (log_size a) (ap log_size (same_log_is b a e)) ∙ sym e

    no : same_log b a ≡ false → (log_size b == log_size a) ≡ same_log b a
    no e =
        let l = changes_in_size a b g e in
        false_from_ne_true (log_size b == log_size a) (λ f. let s = eqb-true (log_size b) (log_size a) f in absurd (omega arith)) ∙ sym e

few : (version next before after old new : ℕ) (same : Bool) → version ≤ before → after + old ≡ before + new → old ≤ new → (same ≡ false → old < new) → next ≡ cond same version (suc version) → next ≤ after
few version next before after old new true a b c d e = omega arith
few version next before after old new false a b c d e = let f = d refl in omega arith

next_count : (new old more before after first second : ℤ) → new ≡ old +ℤ more → old ≡ before → more ≡ second -ℤ first → after ≡ before +ℤ (second -ℤ first) → new ≡ after
next_count new old more before after first second e f g h = omega (arith, ints)

module _ (o : Outline) (logs : List Log) (counts : CountTable) (seen : Seen) (w : ℕ) (posted log : Log) (changes : List Change) (sound : BoardIsSound o logs counts seen) (l : w < o.workers) (here : log_at logs w ≡ posted) (un : IsUnposted o w posted log changes) where
  inside : w < length logs
  inside = omega (arith, sound.each_worker, l)

  logs_after : List Log
  logs_after = set logs w log

  sized : names_in o.workers (log_at (set logs w log)) + log_size posted ≡ names_in o.workers (log_at logs) + log_size log
  sized =
      ap (λ (x : Log). names_in o.workers (log_at (set logs w log)) + log_size x) (sym here)
      ∙ names_change w (log_at logs) (log_at (set logs w log)) (others_stay logs w log inside) o.workers l
      ∙ ap (λ (x : Log). names_in o.workers (log_at logs) + log_size x) (posted_here logs w log inside)

  few_after : (v : ℕ) → log_size (log_at (set logs w log) v) ≤ most_names
  few_after v = each_posted logs w log inside (λ u x. log_size x ≤ most_names) un.few_names v (sound.few_names v)

  names_after : names_in o.workers (log_at (set logs w log)) ≤ most_workers * most_names
  names_after = let a = names_small o.workers (log_at (set logs w log)) few_after in omega (arith, a, sound.few_workers)

  -- so many names are few, and so are the versions
  pub version_fits : seen.version < 2 ^ 64 - 1
  version_fits = let a = names_small o.workers (log_at logs) sound.few_names in omega (arith, a, sound.few_workers, sound.few_versions)

  pub room_for_changes : HasRoomFor (length changes) counts
  room_for_changes = sound.room (length changes) (omega (arith, un.few_changes, sized, names_after))

  module _ (legal : LogIsLegal o w log) where
    legal_after : LogsAreLegal o (log_at (set logs w log))
    legal_after v m = each_posted logs w log inside (λ u x. u < o.workers → LogIsLegal o u x) (λ k. legal) v (λ k. sound.legal_logs v k) m

    count_after : (loc : Loc) (t : ℕ) → count_at o (log_at (set logs w log)) loc t ≡ count_at o (log_at logs) loc t +ℤ (contribution o w log loc t -ℤ contribution o w posted loc t)
    count_after loc t =
        changed_sum w (λ v. contribution o v (log_at logs v) loc t) (λ v. contribution o v (log_at (set logs w log) v) loc t) (λ v n. ap (λ (x : Log). contribution o v x loc t) (others_stay logs w log inside v n)) o.workers l
        ∙ ap (λ (x : Log). count_at o (log_at logs) loc t +ℤ (contribution o w x loc t -ℤ contribution o w (log_at logs w) loc t)) (posted_here logs w log inside)
        ∙ ap (λ (x : Log). count_at o (log_at logs) loc t +ℤ (contribution o w log loc t -ℤ contribution o w x loc t)) here

    grow : LogsGrow o (log_at logs) (log_at (set logs w log))
    grow v m =
        ⊎_elim
        (λ (e : v ≡ w). subst (λ (u : ℕ). LogGrows (log_at logs u) (log_at (set logs w log) u)) (sym e) (subst (λ (x : Log). LogGrows x (log_at (set logs w log) w)) (sym here) (subst (λ (x : Log). LogGrows posted x) (sym (posted_here logs w log inside)) un.grows)))
        (λ (n : v ≢ w). subst (λ (x : Log). LogGrows (log_at logs v) x) (sym (others_stay logs w log inside v n)) (grows_refl (log_at logs v)))
        (cases_eq v w)

    -- where a frontier that was seen has passed a time the location is closed, and stays so
    still_closed : (loc : Loc) (t : ℕ) → IsLocation o.stages loc → HasPassed (seen_at seen loc) t → IsClosed o (log_at (set logs w log)) loc t
    still_closed loc t has passed v m = grown_closed o v (log_at logs v) (log_at (set logs w log) v) (grow v m) loc t (closed_from_passed o (log_at logs) sound.outline sound.legal_logs loc (seen_at seen loc) t (sound.frontiers loc has) passed v m)

    -- so its count is zero before and after
    zero_when_passed : (loc : Loc) (t : ℕ) → IsLocation o.stages loc → HasPassed (seen_at seen loc) t → (count_at o (log_at logs) loc t ≡ pos 0) × (count_at o (log_at (set logs w log)) loc t ≡ pos 0)
    zero_when_passed loc t has passed = (
      quiet_from_closed o (log_at logs) sound.outline sound.legal_logs loc t (closed_from_passed o (log_at logs) sound.outline sound.legal_logs loc (seen_at seen loc) t (sound.frontiers loc has) passed) t (omega arith) loc stays,
      quiet_from_closed o (log_at (set logs w log)) sound.outline legal_after loc t (still_closed loc t has passed) t (omega arith) loc stays,
    )

    module _ (next_counts : CountTable) (counted : (loc : Loc) (t : ℕ) → IsCounted counts loc t → count_in next_counts loc t ≡ count_in counts loc t +ℤ sum_at changes loc t) (dropped : (loc : Loc) (t : ℕ) → (IsCounted counts loc t → ⊥) → count_in next_counts loc t ≡ count_in counts loc t) (same : SamePlaces counts next_counts) (room : (k : ℕ) → HasRoomFor (length changes + k) counts → HasRoomFor k next_counts) where
      counted_after : (loc : Loc) (t : ℕ) → count_in next_counts loc t ≡ count_at o (log_at (set logs w log)) loc t
      counted_after loc t =
          ⊎_elim
          (λ (c : IsCounted counts loc t).
          next_count (count_in next_counts loc t) (count_in counts loc t) (sum_at changes loc t) (count_at o (log_at logs) loc t) (count_at o (log_at (set logs w log)) loc t) (contribution o w posted loc t) (contribution o w log loc t) (counted loc t c) (sound.counted loc t) (un.pending loc t) (count_after loc t))
          (λ (n : (IsLocation counts.stages loc × Contains counts.times t → ⊥) ⊎ (IsLocation counts.stages loc × Contains counts.times t × (t < low_of counts loc))).
          ⊎_elim
          (λ (m : IsLocation counts.stages loc × Contains counts.times t → ⊥).
          dropped loc t (λ c. m (c.0, c.1))
          ∙ sound.counted loc t
          ∙ nothing_elsewhere o (log_at logs) sound.outline sound.legal_logs counts sound.stages sound.times loc t m
          ∙ sym (nothing_elsewhere o (log_at (set logs w log)) sound.outline legal_after counts sound.stages sound.times loc t m))
          (λ (m : IsLocation counts.stages loc × Contains counts.times t × (t < low_of counts loc)).
          let has : IsLocation o.stages loc = subst (λ (k : ℕ). IsLocation k loc) sound.stages m.0 in
          let passed = sound.given_back loc t has m.1 m.2 in
          let gone : IsCounted counts loc t → ⊥ = (λ c. let below : t < low_of counts loc = m.2 in let kept : low_of counts loc ≤ t = c.2 in absurd (omega (arith, below, kept))) in
          dropped loc t gone ∙ sound.counted loc t ∙ (zero_when_passed loc t has passed).0 ∙ sym (zero_when_passed loc t has passed).1)
          n)
          (counted_or_gone counts loc t)

      pub log_posted : (next : Seen) → next.version ≡ cond (log_size log == log_size posted) seen.version (suc seen.version) → next.stages ≡ seen.stages → ((at : Loc) → IsLocation seen.stages at → IsFrontierOf (count_in next_counts) at (seen_at next at)) → BoardIsSound o (set logs w log) next_counts next
      log_posted next version stages frontiers =
          record {
            outline = sound.outline;
            few_stages = sound.few_stages;
            few_workers = sound.few_workers;
            each_worker = length-set logs w log ∙ sound.each_worker;
            legal_logs = legal_after;
            few_names = few_after;
            stages = same.stages ∙ sound.stages;
            times = subst (HoldsAllTimes o) (sym same.times) sound.times;
            counted = counted_after;
            given_back = λ loc t has contains low.
                let was : t < low_of counts loc = subst (λ (ns : List ℕ). t < get_or ns (place_of loc) 0) same.low low in
                let passed = sound.given_back loc t has (subst (λ (ts : List ℕ). Contains ts t) same.times contains) was in
                passed_from_closed o (log_at (set logs w log)) sound.outline legal_after loc (seen_at next loc) t (shown loc has) (still_closed loc t has passed);
            room = λ k m. room k (sound.room (length changes + k) (omega (arith, m, un.few_changes, sized)));
            few_versions = few seen.version next.version (names_in o.workers (log_at logs)) (names_in o.workers (log_at (set logs w log))) (log_size posted) (log_size log) (same_log log posted) sound.few_versions sized (grows_in_size posted log un.grows) (changes_in_size posted log un.grows) (version ∙ ap (λ (b : Bool). cond b seen.version (suc seen.version)) (same_by_size posted log un.grows));
            seen_stages = stages ∙ sound.seen_stages;
            frontiers = shown;
          }
        where
          shown : ShowsFrontiers o (set logs w log) next
          shown at has = frontier_of_equal (count_in next_counts) (count_at o (log_at (set logs w log))) counted_after at (seen_at next at) (frontiers at (subst (λ (n : ℕ). IsLocation n at) (sym sound.seen_stages) has))

-- What an exchange tells the worker

pub told : (o : Outline) (logs : List Log) (w : ℕ) (log : Log) (seen : Seen) → OutlineIsSound o → LogsAreLegal o (log_at logs) → w < o.workers → log_at logs w ≡ log → ShowsFrontiers o logs seen → SeenIsDone o w log seen
told o logs w log seen ok good l here shows = λ at t has h.
    subst (λ (x : Log). IsClosedForOne o w x at t) here (closed_from_passed o (log_at logs) ok good at (seen_at seen at) t (shows at has) h w l)

-- The empty board

empty_logs : (n w : ℕ) → log_at (replicate n empty_log) w ≡ empty_log
empty_logs zero w = refl
empty_logs (suc n) zero = refl
empty_logs (suc n) (suc w) = empty_logs n w

-- The version that an exchange gives

pub version_is : (seen next version before : ℕ) (is_same same : Bool) → seen ≡ next → next ≡ cond is_same version (suc version) → version ≡ before → is_same ≡ same → seen ≡ cond same before (suc before)
version_is seen next version before is_same same e f g h = e ∙ rw (← g, ← h) f

pub version_by_log : (next version : ℕ) (posted log stood : Log) → LogGrows posted log → stood ≡ posted → next ≡ cond (log_size log == log_size posted) version (suc version) → next ≡ cond (same_log log stood) version (suc version)
version_by_log next version posted log stood g e f =
    f
    ∙ ap (λ (b : Bool). cond b version (suc version)) (same_by_size posted log g)
    ∙ ap (λ (x : Log). cond (same_log log x) version (suc version)) (sym e)
