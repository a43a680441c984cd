-- Lists of work that grow.
use Rattle.std.proofs.Common.{◌≡◌, ℕ, ◌+◌, ◌*◌, ◌<◌, ◌&&◌, ◌==◌, Bool, true, false, cond, List, [], ◌∷◌, ◌++◌, length, get_or, take, refl, sym, ap, ◌∙◌, subst, arith, add-zero}
use Rattle.std.proofs.Math.ListN.{set}
use Rattle.std.proofs.lemmas.List.Elements.{All-set, All-push, All-get_or}
use Rattle.std.proofs.lemmas.List.Sums.{sum_by-set, sum_by_push, sum_by_more}
use Rattle.mp_names.specs.declared.locations.Loc.{Loc}
use Rattle.mp_names.specs.Locations.{IsLocation}
use Rattle.mp_stamps.specs.Counts.{same_loc}
use Rattle.mp_chart.specs.declared.work.Work.{Work}
use Rattle.mp_chart.specs.Left.{part_at, work_at}
use Rattle.mp_chart.proofs.Parts.{part_here, part_joined}
use Rattle.mp_work_lists.specs.Parts.{HasMore, IsFit, times_at, work_of_times}

pub no_more : (xs : List Work) → HasMore (λ a t. 0) xs xs
no_more xs = record { work = λ a t. sym (add-zero (work_at a t xs)); fit = λ stages h fits. fits }

pub more_and_more : (f g : Loc → ℕ → ℕ) (xs ys zs : List Work) → HasMore f xs ys → HasMore g ys zs → HasMore (λ a t. f a t + g a t) xs zs
more_and_more f g xs ys zs h k =
    record {
      work = λ a t. let d = h.work a t in let e = k.work a t in omega arith;
      fit = λ stages there fits. k.fit stages (λ a t l. there a t (omega arith)) (h.fit stages (λ a t l. there a t (omega arith)) fits);
    }

pub as_much : (f g : Loc → ℕ → ℕ) (xs ys : List Work) → ((a : Loc) (t : ℕ) → f a t ≡ g a t) → HasMore f xs ys → HasMore g xs ys
as_much f g xs ys e h =
    record {
      work = λ a t. h.work a t ∙ ap (λ (n : ℕ). work_at a t xs + n) (e a t);
      fit = λ stages there fits. h.fit stages (λ a t l. there a t (let d = e a t in omega arith)) fits;
    }

module _ (work : Work) (some : 0 < work.count) where
  fits_there : (stages : ℕ) → ((a : Loc) (t : ℕ) → 0 < part_at a t work → IsLocation stages a) → IsFit stages work
  fits_there stages there = (there work.loc work.time (let e = part_here work in omega arith), some)

  pub more_by_push : (xs : List Work) → HasMore (λ a t. part_at a t work) xs (xs ++ work ∷ [])
  more_by_push xs =
      record {
        work = λ a t. sum_by_push (part_at a t) xs work;
        fit = λ stages there fits. All-push (IsFit stages) xs work fits (fits_there stages there);
      }

module _ (old work joined : Work) (is : joined ≡ record { loc = old.loc; time = old.time; count = old.count + work.count }) (loc : old.loc ≡ work.loc) (time : old.time ≡ work.time) where
  fits_joined : (stages : ℕ) → IsFit stages old → IsFit stages joined
  fits_joined stages fit =
      let whole : Work = record { loc = old.loc; time = old.time; count = old.count + work.count } in
      let fits : IsFit stages whole = (fit.0, (let some = fit.1 in omega arith)) in
      subst (IsFit stages) (sym is) fits

  pub more_by_set : (xs : List Work) (i : ℕ) → i < length xs → old ≡ get_or xs i old → HasMore (λ a t. part_at a t work) xs (set xs i joined)
  more_by_set xs i l at =
      record {
        work = λ a t.
            let d = sum_by-set (part_at a t) xs i joined old l in
            let e = part_joined old work joined is loc time a t in
            let f = ap (part_at a t) at in
            omega arith;
        fit = λ stages there fits. All-set (IsFit stages) xs i joined (fits_joined stages (subst (IsFit stages) (sym at) (All-get_or (IsFit stages) xs i old l fits))) fits;
      }

-- for one time more

counted_part : (b c : Bool) (each n : ℕ) → cond b (each * (n + cond c 1 0)) 0 ≡ cond b (each * n) 0 + cond (b && c) each 0
counted_part true true each n = omega arith
counted_part true false each n = omega arith
counted_part false c each n = refl

pub work_of_more : (loc : Loc) (each : ℕ) (times : List ℕ) (i d : ℕ) (a : Loc) (t : ℕ) → i < length times → work_of_times loc each (take i times) a t + part_at a t (record { loc = loc; time = get_or times i d; count = each }) ≡ work_of_times loc each (take (i + 1) times) a t
work_of_more loc each times i d a t l =
    let e = sum_by_more (λ u. cond (u == t) 1 0) times i d l in
    let f = counted_part (same_loc loc a) (get_or times i d == t) each (times_at t (take i times)) in
    sym (ap (λ (n : ℕ). cond (same_loc loc a) (each * n) 0) e ∙ f)
