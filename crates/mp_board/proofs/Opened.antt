-- The empty logs of all workers are counted, and make a board that is sound.
use Rattle.std.proofs.Common.{◌≡◌, ℕ, zero, suc, ◌+◌, ◌^◌, ◌≤◌, List, get_or, ℤ, ◌+ℤ◌, refl, sym, ap, subst, ◌∙◌, ⊎_elim, arith}
use Rattle.std.specs.Prelude.{replicate}
use Rattle.std.proofs.lemmas.Int.{ints}
use Rattle.std.proofs.lemmas.List.{length-replicate}
use Rattle.mp_names.specs.declared.locations.Loc.{Loc}
use Rattle.mp_names.specs.declared.pointstamps.Change.{Change}
use Rattle.mp_names.specs.Frontiers.{contribution, count_at, IsFrontierOf, log_at, sum_below}
use Rattle.mp_names.specs.Laws.{log_size}
use Rattle.mp_names.specs.Limits.{most_stages, most_workers}
use Rattle.mp_names.specs.Locations.{IsLocation}
use Rattle.mp_names.specs.Logs.{Log, LogIsLegal, LogsAreLegal, empty_log}
use Rattle.mp_names.specs.Outlines.{Outline, OutlineIsSound}
use Rattle.mp_names.proofs.Keeps.{empty_is_legal}
use Rattle.mp_stamps.specs.declared.seen.Seen.{Seen}
use Rattle.mp_stamps.specs.Counts.{CountTable, IsCounted, count_in}
use Rattle.mp_stamps.specs.Places.{place_of}
use Rattle.mp_stamps.specs.Seen.{seen_at}
use Rattle.mp_stamps.proofs.Tables.{counted_or_not}
use Rattle.mp_rows.specs.Entries.{AreContributions, sum_at}
use Rattle.mp_rows.specs.WorkerLog.{most_names}
use Rattle.mp_board.specs.Opening.{AreOpened}
use Rattle.mp_board.specs.Soundness.{BoardIsSound, HoldsAllTimes}
use Rattle.mp_board.proofs.Adding.{Adds, counted_along, counted_on}
use Rattle.mp_board.proofs.Elsewhere.{nothing_elsewhere}
use Rattle.mp_board.proofs.Recounted.{frontier_of_equal}

next_sum : (new old more before here : ℤ) → new ≡ old +ℤ more → old ≡ before → more ≡ here → new ≡ before +ℤ here
next_sum new old more before here e f g = omega (arith, ints)

-- the empty log of one more worker

module _ (o : Outline) (n : ℕ) (counts next : CountTable) (number : ℕ) (entries : List Change) (few : number ≤ 2 ^ 40) (are : AreContributions o n empty_log entries) (h : AreOpened o n counts) (adds : Adds number entries counts next) where
  one_opened : AreOpened o (suc n) next
  one_opened = record {
    counted = λ loc t c.
        let own = counted_along counts next loc t adds.same c in
        next_sum (count_in next loc t) (count_in counts loc t) (sum_at entries loc t) (sum_below n (λ w. contribution o w empty_log loc t)) (contribution o n empty_log loc t) (adds.counted loc t own) (h.counted loc t own) (are loc t);
    kept = λ loc. ap (λ (ns : List ℕ). get_or ns (place_of loc) 0) adds.same.low ∙ h.kept loc;
    not_counted = λ loc t m. let other = λ (c : IsCounted counts loc t). m (counted_on counts next loc t adds.same c) in adds.dropped loc t other ∙ h.not_counted loc t other;
    room = λ k m. adds.room k (h.room (number + k) (omega (arith, m, few)));
  }

  pub opened_next : AreOpened o (n + 1) next
  opened_next = let e : suc n ≡ n + 1 = omega arith in subst (λ (m : ℕ). AreOpened o m next) e one_opened

-- The opening board

empty_logs : (n w : ℕ) → log_at (replicate n empty_log) w ≡ empty_log
empty_logs zero w = refl
empty_logs (suc n) zero = refl
empty_logs (suc n) (suc w) = empty_logs n w

module _ (o : Outline) (ok : OutlineIsSound o) (counts : CountTable) (stages : counts.stages ≡ o.stages) (times : HoldsAllTimes o counts.times) (opened : AreOpened o o.workers counts) where
  start : List Log
  start = replicate o.workers empty_log

  legal : LogsAreLegal o (log_at (replicate o.workers empty_log))
  legal w l = subst (LogIsLegal o w) (sym (empty_logs o.workers w)) (empty_is_legal o w)

  are_counted : (loc : Loc) (t : ℕ) → count_in counts loc t ≡ count_at o (log_at (replicate o.workers empty_log)) loc t
  are_counted loc t =
      ⊎_elim
      (λ (c : IsCounted counts loc t). opened.counted loc t c ∙ ap (λ (f : ℕ → Log). sum_below o.workers (λ w. contribution o w (f w) loc t)) (λ i w. sym (empty_logs o.workers w) i))
      (λ (n : IsCounted counts loc t → ⊥). opened.not_counted loc t n ∙ sym (nothing_elsewhere o (log_at (replicate o.workers empty_log)) ok legal counts stages times loc t (λ c. n (c.0, c.1, omega (arith, opened.kept loc)))))
      (counted_or_not counts loc t)

  small : (w : ℕ) → log_size (log_at (replicate o.workers empty_log) w) ≤ most_names
  small w = subst (λ (x : Log). log_size x ≤ most_names) (sym (empty_logs o.workers w)) (omega arith)

  pub empty_sound : (logs : List Log) (seen : Seen) → logs ≡ replicate o.workers empty_log → o.stages ≤ most_stages → o.workers ≤ most_workers → seen.version ≡ 0 → seen.stages ≡ o.stages → ((at : Loc) → IsLocation o.stages at → IsFrontierOf (count_in counts) at (seen_at seen at)) → BoardIsSound o logs counts seen
  empty_sound logs seen is few_stages few_workers version seen_stages frontiers =
      subst (λ (ls : List Log). BoardIsSound o ls counts seen) (sym is)
      (record {
        outline = ok;
        few_stages = few_stages;
        few_workers = few_workers;
        each_worker = length-replicate o.workers empty_log;
        legal_logs = legal;
        few_names = small;
        stages = stages;
        times = times;
        counted = are_counted;
        given_back = λ loc t has contains l. absurd (omega (arith, l, opened.kept loc));
        room = λ k m. opened.room k (omega (arith, m, few_workers));
        few_versions = omega (arith, version);
        seen_stages = seen_stages;
        frontiers = λ at has. frontier_of_equal (count_in counts) (count_at o (log_at (replicate o.workers empty_log))) are_counted at (seen_at seen at) (frontiers at has);
      })
