-- The work that a step does, and what is left.
use Rattle.std.proofs.Common.{◌≡◌, ℕ, ◌+◌, Bool, true, false, cond, List, [], ◌∷◌, ◌++◌, Option, None, Some, refl, sym, ap, ◌∙◌, subst, arith}
use Rattle.std.proofs.lemmas.Bool.{false≢true}
use Rattle.std.proofs.lemmas.List.Sums.{sum_by-append}
use Rattle.mp_names.specs.declared.names.Name.{Name}
use Rattle.mp_names.specs.declared.kinds.Kind.{Kind}
use Rattle.mp_names.specs.declared.locations.Loc.{Loc}
use Rattle.mp_names.specs.Outlines.{Outline, time_of}
use Rattle.mp_names.specs.Logs.{Log}
use Rattle.mp_player_laws.specs.WorkLeft.{left_at, work_of, WorkFalls}
use Rattle.mp_chart.specs.declared.work.Work.{Work}
use Rattle.mp_chart.specs.Left.{part_at, work_at}
use Rattle.mp_chart.proofs.Parts.{is_there, there_is, is_here}
use Rattle.mp_standing.specs.Standings.{IsWorkDone}

module _ (o : Outline) (w : ℕ) (log new : Log) (kind : Kind) (x : Name) (n : ℕ) (falls : WorkFalls o w log new kind x n) (work : Work) (is : IsWorkDone kind x (time_of o x) n work) where
  elsewhere : (a : Loc) (t : ℕ) → is_there a t work ≡ false → left_at o w log a t ≡ left_at o w new a t + part_at a t work
  elsewhere a t e =
      let none : part_at a t work ≡ 0 = ap (λ (b : Bool). cond b work.count 0) e in
      let stays = falls.stays a t (λ s u. false≢true (sym e ∙ ap (λ (b : Loc). is_there b t work) (sym (is.there a s).0) ∙ ap (λ (v : ℕ). is_there work.loc v work) (u ∙ sym is.time) ∙ is_here work)) in
      omega arith

  here : (p : Option Loc) → work_of kind x ≡ p → (a : Loc) (t : ℕ) → a ≡ work.loc → t ≡ work.time → is_there a t work ≡ true → left_at o w log a t ≡ left_at o w new a t + part_at a t work
  here None p a t f g e =
      let none = is.none p in
      let part : part_at a t work ≡ work.count = ap (λ (b : Bool). cond b work.count 0) e in
      let stays = falls.stays a t (λ s u. absurd (cc)) in
      omega arith
  here (Some b) p a t f g e =
      let there = is.there b p in
      let at : work_of kind x ≡ Some a = p ∙ ap Some (sym there.0 ∙ sym f) in
      let part : part_at a t work ≡ work.count = ap (λ (c : Bool). cond c work.count 0) e in
      let number : work.count ≡ n = there.1 in
      let fall = subst (λ (u : ℕ). left_at o w log a u ≡ left_at o w new a u + n) (sym (g ∙ is.time)) (falls.falls a at) in
      omega arith

  pub work_falls : (a : Loc) (t : ℕ) → left_at o w log a t ≡ left_at o w new a t + part_at a t work
  work_falls a t = pick (is_there a t work) refl
    where
      pick : (b : Bool) → is_there a t work ≡ b → left_at o w log a t ≡ left_at o w new a t + part_at a t work
      pick true e = let p = there_is a t work e in here (work_of kind x) refl a t p.0 p.1 e
      pick false e = elsewhere a t e

  -- so what is left now, with all that was done since, is what was left
  pub since_more : (posted : Log) (since : List Work) → ((a : Loc) (t : ℕ) → left_at o w posted a t ≡ left_at o w log a t + work_at a t since) → (a : Loc) (t : ℕ) → left_at o w posted a t ≡ left_at o w new a t + work_at a t (since ++ work ∷ [])
  since_more posted since before a t =
      let sum = sum_by-append (part_at a t) since (work ∷ []) in
      let was = before a t in
      let fall = work_falls a t in
      let one : work_at a t (work ∷ []) ≡ part_at a t work = omega arith in
      omega arith
