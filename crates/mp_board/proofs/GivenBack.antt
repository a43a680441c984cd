-- A board stays sound as the counts before the frontiers that were seen are given back.
use Rattle.std.proofs.Common.{Contains, ◌≡◌, ℕ, ◌+◌, ◌<◌, ◌≤◌, Bool, true, false, List, ℤ, max, pos, refl, sym, ap, ap₂, subst, ◌∙◌, ⊎_elim, arith}
use Rattle.std.proofs.lemmas.Bool.{cases_eq, cases_lt}
use Rattle.mp_names.specs.declared.locations.Frontier.{Frontier}
use Rattle.mp_names.specs.declared.locations.Frontier.TheVariants.{At, Done}
use Rattle.mp_names.specs.declared.locations.Loc.{Loc}
use Rattle.mp_names.specs.Frontiers.{HasPassed, IsFrontierOf}
use Rattle.mp_names.specs.Locations.{IsLocation, stays}
use Rattle.mp_names.specs.Logs.{Log}
use Rattle.mp_names.specs.Outlines.{Outline}
use Rattle.mp_stamps.specs.declared.seen.Seen.{Seen}
use Rattle.mp_stamps.specs.Counts.{CountTable, IsCounted, count_in, low_of, piece_start}
use Rattle.mp_stamps.specs.Places.{place_of, places_of}
use Rattle.mp_stamps.specs.Seen.{seen_at}
use Rattle.mp_board.specs.Passing.{IsGivenBack, end_of}
use Rattle.mp_board.specs.Soundness.{BoardIsSound, HoldsAllTimes}
use Rattle.mp_board.specs.Totals.{FitsMore}

-- One location more

pub none_given_back : (seen : Seen) (counts : CountTable) → IsGivenBack seen 0 counts counts
none_given_back seen counts = record {
  stages = refl;
  times = refl;
  counts = λ loc t. refl;
  low = λ loc l. absurd (omega (arith, l));
  others = λ loc l. refl;
  kept = λ loc t l c. c;
}

module _ (seen : Seen) (n : ℕ) (old counts next : CountTable) (back : IsGivenBack seen n old counts) (loc : Loc) (there : place_of loc ≡ n) (alone : (at : Loc) → place_of at ≡ n → at ≡ loc) (has : IsLocation counts.stages loc)
    (same : (at : Loc) (t : ℕ) → count_in next at t ≡ count_in counts at t)
    (given : IsLocation counts.stages loc → low_of next loc ≡ max (low_of counts loc) (piece_start counts.times (end_of (seen_at seen loc))))
    (kept : (t : ℕ) → end_of (seen_at seen loc) ≤ t → IsCounted counts loc t → IsCounted next loc t)
    (others : (at : Loc) → (at ≡ loc → ⊥) → low_of next at ≡ low_of counts at)
    (places : (next.stages ≡ counts.stages) × (next.times ≡ counts.times)) where
  here : low_of next loc ≡ max (low_of old loc) (piece_start old.times (end_of (seen_at seen loc)))
  here =
      given has
      ∙ ap₂ (λ (a b : ℕ). max a b) (back.others loc (omega (arith, there))) (ap (λ (ts : List ℕ). piece_start ts (end_of (seen_at seen loc))) back.times)

  elsewhere : (at : Loc) (t : ℕ) → (at ≡ loc → ⊥) → IsCounted counts at t → IsCounted next at t
  elsewhere at t m c =
      let low = others at m in
      let was : low_of counts at ≤ t = c.2 in
      (subst (λ (k : ℕ). IsLocation k at) (sym places.0) c.0, subst (λ (ts : List ℕ). Contains ts t) (sym places.1) c.1, omega (arith, low, was))

  pub one_more_given : IsGivenBack seen (n + 1) old next
  one_more_given = record {
    stages = places.0 ∙ back.stages;
    times = places.1 ∙ back.times;
    counts = λ at t. same at t ∙ back.counts at t;
    low = λ at l.
        ⊎_elim
        (λ (e : place_of at ≡ n). subst (λ (a : Loc). low_of next a ≡ max (low_of old a) (piece_start old.times (end_of (seen_at seen a)))) (sym (alone at e)) here)
        (λ (m : place_of at ≡ n → ⊥). others at (λ e. m (ap place_of e ∙ there)) ∙ back.low at (omega (arith, l, m)))
        (cases_eq (place_of at) n);
    others = λ at l. others at (λ e. absurd (omega (arith, l, ap place_of e, there))) ∙ back.others at (omega (arith, l));
    kept = λ at t l c.
        ⊎_elim
        (λ (e : place_of at ≡ n).
        let is = alone at e in
        subst (λ (a : Loc). IsCounted next a t) (sym is) (kept t (subst (λ (a : Loc). end_of (seen_at seen a) ≤ t) is l) (subst (λ (a : Loc). IsCounted counts a t) is (back.kept at t l c))))
        (λ (m : place_of at ≡ n → ⊥). elsewhere at t (λ e. m (ap place_of e ∙ there)) (back.kept at t l c))
        (cases_eq (place_of at) n);
  }

-- The board

passed_before : (f : Frontier) (t : ℕ) → t < end_of f → HasPassed f t
passed_before (At u) t l = l
passed_before Done t l = tt

zero_before : (counts : Loc → ℕ → ℤ) (at : Loc) (f : Frontier) (t : ℕ) → IsFrontierOf counts at f → HasPassed f t → counts at t ≡ pos 0
zero_before counts at (At u) t h l = h.1 t l at stays
zero_before counts at Done t h l = h t at stays

module _ (o : Outline) (logs : List Log) (counts : CountTable) (seen : Seen) (sound : BoardIsSound o logs counts seen) where
  -- where a frontier that was seen has passed a time, no count is other than zero
  pub quiet_where_passed : (loc : Loc) (t : ℕ) → IsLocation seen.stages loc → HasPassed (seen_at seen loc) t → count_in counts loc t ≡ pos 0
  quiet_where_passed loc t has passed = sound.counted loc t ∙ zero_before _ loc (seen_at seen loc) t (sound.frontiers loc (subst (λ (n : ℕ). IsLocation n loc) sound.seen_stages has)) passed

  given_back_sound : (next : CountTable) → IsGivenBack seen (places_of seen.stages) counts next → BoardIsSound o logs next seen
  given_back_sound next back = record {
    outline = sound.outline;
    few_stages = sound.few_stages;
    few_workers = sound.few_workers;
    each_worker = sound.each_worker;
    legal_logs = sound.legal_logs;
    few_names = sound.few_names;
    stages = back.stages ∙ sound.stages;
    times = subst (HoldsAllTimes o) (sym back.times) sound.times;
    counted = λ loc t. back.counts loc t ∙ sound.counted loc t;
    given_back = λ loc t has contains low.
        let old = subst (λ (ts : List ℕ). Contains ts t) back.times contains in
        ⊎_elim
        (λ (l : t < low_of counts loc). sound.given_back loc t has old l)
        (λ (l : low_of counts loc ≤ t).
        ⊎_elim
        (λ (m : t < end_of (seen_at seen loc)). passed_before (seen_at seen loc) t m)
        (λ (m : end_of (seen_at seen loc) ≤ t).
        let c = back.kept loc t m (subst (λ (n : ℕ). IsLocation n loc) (sym sound.stages) has, old, l) in
        let k : low_of next loc ≤ t = c.2 in
        absurd (omega (arith, k, low)))
        (cases_lt t (end_of (seen_at seen loc))))
        (cases_lt t (low_of counts loc));
    room = λ k m loc t. subst (FitsMore k) (sym (back.counts loc t)) (sound.room k m loc t);
    few_versions = sound.few_versions;
    seen_stages = sound.seen_stages;
    frontiers = sound.frontiers;
  }

  pub sound_where_moved : (next : CountTable) (moved : Bool) → (moved ≡ true → IsGivenBack seen (places_of seen.stages) counts next) → (moved ≡ false → next ≡ counts) → BoardIsSound o logs next seen
  sound_where_moved next true back still = given_back_sound next (back refl)
  sound_where_moved next false back still = subst (λ (c : CountTable). BoardIsSound o logs c seen) (sym (still refl)) sound
