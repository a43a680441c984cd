-- How much work is at a location and time.
use Rattle.std.proofs.Common.{◌≡◌, ℕ, ◌+◌, ◌≤◌, ◌&&◌, ◌==◌, ◌∙◌, Bool, true, false, cond, refl, sym, ap, arith}
use Rattle.std.proofs.lemmas.Bool.{and_parts, and_from, eqb-true, eq-eqb}
use Rattle.mp_names.specs.declared.locations.Loc.{Loc}
use Rattle.mp_stamps.specs.Counts.{same_loc}
use Rattle.mp_stamps.proofs.Places.{same_loc-true, same_loc-self}
use Rattle.mp_chart.specs.declared.work.Work.{Work}
use Rattle.mp_chart.specs.Left.{part_at}

abbrev pub is_there : Loc → ℕ → Work → Bool
is_there a t work = same_loc work.loc a && work.time == t

pub there_is : (a : Loc) (t : ℕ) (work : Work) → is_there a t work ≡ true → (a ≡ work.loc) × (t ≡ work.time)
there_is a t work h = let p = and_parts (same_loc work.loc a) (work.time == t) h in (sym (same_loc-true work.loc a p.0), sym (eqb-true work.time t p.1))

pub is_here : (work : Work) → is_there work.loc work.time work ≡ true
is_here work = and_from (same_loc work.loc work.loc) (work.time == work.time) (same_loc-self work.loc) (eq-eqb work.time work.time refl)

pub part_here : (work : Work) → part_at work.loc work.time work ≡ work.count
part_here work = ap (λ (b : Bool). cond b work.count 0) (is_here work)

pub part_most : (a : Loc) (t : ℕ) (work : Work) → part_at a t work ≤ work.count
part_most a t work = pick (is_there a t work)
  where
    pick : (b : Bool) → cond b work.count 0 ≤ work.count
    pick true = omega arith
    pick false = omega arith

added_part : (b : Bool) (m n : ℕ) → cond b (m + n) 0 ≡ cond b m 0 + cond b n 0
added_part true m n = refl
added_part false m n = refl

-- work that is joined has the parts of both
pub part_joined : (work more joined : Work) → joined ≡ record { loc = work.loc; time = work.time; count = work.count + more.count } → work.loc ≡ more.loc → work.time ≡ more.time → (a : Loc) (t : ℕ) → part_at a t joined ≡ part_at a t work + part_at a t more
part_joined work more joined is loc time a t =
    let here = is_there a t work in
    let same : here ≡ is_there a t more = rw (loc, time) refl in
    ap (part_at a t) is
    ∙ added_part here work.count more.count
    ∙ ap (λ (b : Bool). cond here work.count 0 + cond b more.count 0) same

pub no_part : (a : Loc) (t : ℕ) (work : Work) → work.count ≡ 0 → part_at a t work ≡ 0
no_part a t work none = let most = part_most a t work in omega arith
