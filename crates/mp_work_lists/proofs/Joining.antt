-- The parts of the work of a job, put together.
use Rattle.std.proofs.Common.{◌≡◌, ℕ, suc, ◌+◌, ◌*◌, ◌<◌, ◌==◌, ◌&&◌, Bool, true, false, cond, List, [], ◌∷◌, filter, map, refl, sym, ap, ◌∙◌, subst, arith, one-mul}
use Rattle.std.specs.Prelude.{All, Contains}
use Rattle.std.specs.List.Sorted.{IsStrictlyIncreasing}
use Rattle.std.proofs.lemmas.Bool.{and_parts, eqb-true, eq-eqb, ne_eqb}
use Rattle.std.proofs.lemmas.List.Elements.{All-nil, All-weaker}
use Rattle.std.proofs.lemmas.List.Sums.{sum_by-cons}
use Rattle.mp_names.specs.declared.locations.Loc.{Loc}
use Rattle.mp_names.specs.declared.locations.Loc.TheVariants.{Ctl, CtlMail, Source, Route, Mail, Move, State, Host, OutRoute, OutMail}
use Rattle.mp_names.specs.Locations.{IsLocation}
use Rattle.mp_names.specs.Logs.{empty_log}
use Rattle.mp_names.specs.Names.{is_packet}
use Rattle.mp_names.specs.Outlines.{Outline, OutlineIsSound, packets_of, groups_of, control_times}
use Rattle.mp_stamps.specs.Counts.{same_loc}
use Rattle.mp_player_laws.specs.WorkLeft.{work_left}
use Rattle.mp_chart.specs.declared.work.Work.{Work}
use Rattle.mp_chart.specs.Left.{part_at, work_at}
use Rattle.mp_work_lists.specs.Parts.{HasMore, IsFit, times_at, names_at, controls_at, work_at_one, work_of_times, control_work, record_work, move_work, group_work, row_work, job_work}
use Rattle.mp_work_lists.specs.Works.{IsAllWork}
use Rattle.mp_work_lists.proofs.Growing.{no_more, more_and_more, as_much}
use Rattle.mp_work_lists.proofs.Working.{work_is, located}

nothing : (b : Bool) → cond {A = ℕ} b 0 0 ≡ 0
nothing true = refl
nothing false = refl

-- of times that are as many as those of f

pub listed_each : (loc : Loc) (n m : ℕ) (ts us : List ℕ) (f : ℕ → ℕ) (xs ys : List Work) → n ≡ m → ts ≡ us → ((t : ℕ) → times_at t us ≡ f t) → HasMore (work_of_times loc n ts) xs ys → HasMore (work_at_one loc (λ t. m * f t)) xs ys
listed_each loc n m ts us f xs ys same are h =
    as_much (work_of_times loc n ts) (work_at_one loc (λ t. m * f t)) xs ys
    (λ a t. ap (λ (k : ℕ). cond (same_loc loc a) k 0) (ap (λ (k : ℕ). k * times_at t ts) same ∙ ap (λ (k : ℕ). m * k) (ap (times_at t) are ∙ h t)))

pub listed_once : (loc : Loc) (ts us : List ℕ) (f : ℕ → ℕ) (xs ys : List Work) → ts ≡ us → ((t : ℕ) → times_at t us ≡ f t) → HasMore (work_of_times loc 1 ts) xs ys → HasMore (work_at_one loc f) xs ys
listed_once loc ts us f xs ys are h =
    as_much (work_of_times loc 1 ts) (work_at_one loc f) xs ys
    (λ a t. ap (λ (k : ℕ). cond (same_loc loc a) k 0) (one-mul (times_at t ts) ∙ ap (times_at t) are ∙ h t))

-- what is ingested

pub source_none : (j : ℕ) (f : ℕ → ℕ) (xs : List Work) → 0 < j → HasMore (work_at_one Source (λ t. cond (j == 0) (f t) 0)) xs xs
source_none j f xs l =
    as_much (λ a t. 0) (work_at_one Source (λ t. cond (j == 0) (f t) 0)) xs xs
    (λ a t. sym (ap (λ (b : Bool). cond (same_loc Source a) (cond b (f t) 0) 0) (ne_eqb j 0 (λ (e : j ≡ 0). omega arith)) ∙ nothing (same_loc Source a)))
    (no_more xs)

pub source_all : (j : ℕ) (ts : List ℕ) (xs ys : List Work) → j ≡ 0 → HasMore (work_of_times Source 1 ts) xs ys → HasMore (work_at_one Source (λ t. cond (j == 0) (times_at t ts) 0)) xs ys
source_all j ts xs ys e =
    as_much (work_of_times Source 1 ts) (work_at_one Source (λ t. cond (j == 0) (times_at t ts) 0)) xs ys
    (λ a t. ap (λ (k : ℕ). cond (same_loc Source a) k 0) (one-mul (times_at t ts) ∙ sym (ap (λ (b : Bool). cond b (times_at t ts) 0) (eq-eqb j 0 e))))

pub source_of : (j : ℕ) (ts us : List ℕ) (f : ℕ → ℕ) (xs ys : List Work) → ts ≡ us → ((t : ℕ) → times_at t us ≡ f t) → HasMore (work_at_one Source (λ t. cond (j == 0) (times_at t ts) 0)) xs ys → HasMore (work_at_one Source (λ t. cond (j == 0) (f t) 0)) xs ys
source_of j ts us f xs ys are h =
    as_much (work_at_one Source (λ t. cond (j == 0) (times_at t ts) 0)) (work_at_one Source (λ t. cond (j == 0) (f t) 0)) xs ys
    (λ a t. ap (λ (k : ℕ). cond (same_loc Source a) (cond (j == 0) k 0) 0) (ap (times_at t) are ∙ h t))

module _ (o : Outline) (xs ys zs us : List Work) where
  abbrev of_controls : ℕ → ℕ
  of_controls t = o.workers * controls_at t o.controls

  pub controls_joined : HasMore (work_at_one Ctl of_controls) xs ys → HasMore (work_at_one CtlMail of_controls) ys zs → HasMore (control_work o) xs zs
  controls_joined h k = as_much (λ a t. work_at_one Ctl of_controls a t + work_at_one CtlMail of_controls a t) (control_work o) xs zs same (more_and_more (work_at_one Ctl of_controls) (work_at_one CtlMail of_controls) xs ys zs h k)
    where
      same : (a : Loc) (t : ℕ) → work_at_one Ctl of_controls a t + work_at_one CtlMail of_controls a t ≡ control_work o a t
      same Ctl t = omega arith
      same CtlMail t = omega arith
      same Source t = refl
      same (Route i) t = refl
      same (Mail i) t = refl
      same (Move i) t = refl
      same (State i) t = refl
      same (Host i) t = refl
      same OutRoute t = refl
      same OutMail t = refl

  abbrev of_rows : ℕ → ℕ
  of_rows t = names_at t o.rows

  pub rows_joined : HasMore (work_at_one OutRoute of_rows) xs ys → HasMore (work_at_one OutMail of_rows) ys zs → HasMore (row_work o) xs zs
  rows_joined h k = as_much (λ a t. work_at_one OutRoute of_rows a t + work_at_one OutMail of_rows a t) (row_work o) xs zs same (more_and_more (work_at_one OutRoute of_rows) (work_at_one OutMail of_rows) xs ys zs h k)
    where
      same : (a : Loc) (t : ℕ) → work_at_one OutRoute of_rows a t + work_at_one OutMail of_rows a t ≡ row_work o a t
      same Ctl t = refl
      same CtlMail t = refl
      same Source t = refl
      same (Route i) t = refl
      same (Mail i) t = refl
      same (Move i) t = refl
      same (State i) t = refl
      same (Host i) t = refl
      same OutRoute t = omega arith
      same OutMail t = omega arith

  module _ (j : ℕ) where
    abbrev of_records : ℕ → ℕ
    of_records t = names_at t (o.records j)

    abbrev ingested : Loc → ℕ → ℕ
    ingested = work_at_one Source (λ t. cond (j == 0) (of_records t) 0)

    abbrev sent : Loc → ℕ → ℕ
    sent = work_at_one (Route j) of_records

    abbrev took : Loc → ℕ → ℕ
    took = work_at_one (Mail j) of_records

    pub records_joined : HasMore ingested xs ys → HasMore sent ys zs → HasMore took zs us → HasMore (record_work o j) xs us
    records_joined h k l = as_much (λ a t. (ingested a t + sent a t) + took a t) (record_work o j) xs us same (more_and_more (λ a t. ingested a t + sent a t) took xs zs us (more_and_more ingested sent xs ys zs h k) l)
      where
        same : (a : Loc) (t : ℕ) → (ingested a t + sent a t) + took a t ≡ record_work o j a t
        same Ctl t = refl
        same CtlMail t = refl
        same Source t = omega arith
        same (Route i) t = omega arith
        same (Mail i) t = omega arith
        same (Move i) t = refl
        same (State i) t = refl
        same (Host i) t = refl
        same OutRoute t = refl
        same OutMail t = refl

    abbrev of_times : ℕ → ℕ
    of_times t = o.workers * names_at t (control_times o j)

    abbrev of_packets : ℕ → ℕ
    of_packets t = names_at t (filter (is_packet j) (packets_of o))

    abbrev settled : Loc → ℕ → ℕ
    settled = work_at_one (Move j) of_times

    abbrev extracted : Loc → ℕ → ℕ
    extracted = work_at_one (Move j) of_packets

    abbrev arrived : Loc → ℕ → ℕ
    arrived = work_at_one (State j) of_packets

    both : (b : Bool) (m n : ℕ) → cond b m 0 + cond b n 0 ≡ cond b (m + n) 0
    both true m n = refl
    both false m n = refl

    pub moves_joined : HasMore settled xs ys → HasMore extracted ys zs → HasMore arrived zs us → HasMore (move_work o j) xs us
    moves_joined h k l = as_much (λ a t. (settled a t + extracted a t) + arrived a t) (move_work o j) xs us same (more_and_more (λ a t. settled a t + extracted a t) arrived xs zs us (more_and_more settled extracted xs ys zs h k) l)
      where
        same : (a : Loc) (t : ℕ) → (settled a t + extracted a t) + arrived a t ≡ move_work o j a t
        same Ctl t = refl
        same CtlMail t = refl
        same Source t = refl
        same (Route i) t = refl
        same (Mail i) t = refl
        same (Move i) t = let e = both (j == i) (of_times t) (of_packets t) in omega arith
        same (State i) t = omega arith
        same (Host i) t = refl
        same OutRoute t = refl
        same OutMail t = refl

    pub groups_joined : HasMore (work_at_one (Host j) (λ t. names_at t (groups_of o j))) xs ys → HasMore (group_work o j) xs ys
    groups_joined = as_much (work_at_one (Host j) (λ t. names_at t (groups_of o j))) (group_work o j) xs ys same
      where
        same : (a : Loc) (t : ℕ) → work_at_one (Host j) (λ t. names_at t (groups_of o j)) a t ≡ group_work o j a t
        same Ctl t = refl
        same CtlMail t = refl
        same Source t = refl
        same (Route i) t = refl
        same (Mail i) t = refl
        same (Move i) t = refl
        same (State i) t = refl
        same (Host i) t = refl
        same OutRoute t = refl
        same OutMail t = refl

-- The times of work

pub has_time : (a : Loc) (t : ℕ) (works : List Work) → 0 < work_at a t works → Contains (map (λ w. w.time) works) t
has_time a t [] l = absurd (omega arith)
has_time a t (w ∷ ws) l = pick (same_loc w.loc a && w.time == t) refl (has_time a t ws)
  where
    pick : (b : Bool) → (same_loc w.loc a && w.time == t) ≡ b → (0 < work_at a t ws → Contains (map (λ w. w.time) ws) t) → Contains (map (λ w. w.time) (w ∷ ws)) t
    pick true e rest = (0, omega arith, eqb-true w.time t (and_parts (same_loc w.loc a) (w.time == t) e).1)
    pick false e rest =
        let sum = sum_by-cons (part_at a t) w ws in
        let none : part_at a t w ≡ 0 = ap (λ (b : Bool). cond b w.count 0) e in
        let r = rest (omega arith) in
        (suc r.0, (let k = r.1 in omega arith), r.2)

-- All of it

pub all_work : (o : Outline) → OutlineIsSound o → (start works : List Work) (times : List ℕ) → start ≡ [] → HasMore (job_work o) start works → IsStrictlyIncreasing times → ((a : Loc) (t : ℕ) → 0 < work_at a t works → Contains times t) → IsAllWork o (record { times = times; work = works })
all_work o ok start works times none more rising all =
    record {
      rising = rising;
      timed = λ a t l. all a t (subst (λ (n : ℕ). 0 < n) (sym (is a t)) l);
      all = is;
      there = All-weaker (IsFit o.stages) (λ w. IsLocation o.stages w.loc) (λ w h. h.0) works fit;
      some = All-weaker (IsFit o.stages) (λ w. 0 < w.count) (λ w h. h.1) works fit;
    }
  where
    is : (a : Loc) (t : ℕ) → work_at a t works ≡ work_left o (λ w. empty_log) a t
    is a t =
        let e = more.work a t in
        let f = ap (work_at a t) none in
        let g = work_is o ok t a in
        omega arith

    fit : All (IsFit o.stages) works
    fit = more.fit o.stages (λ a t l. located o ok t a l) (subst (λ (l : List Work). All (IsFit o.stages) l) (sym none) (All-nil (IsFit o.stages)))
