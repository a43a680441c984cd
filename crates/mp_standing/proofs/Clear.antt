-- What lets a worker make a step, as the player sees it and as the machine does.
use Rattle.std.proofs.Common.{◌≡◌, ◌↔◌, ℕ, zero, suc, ◌-◌, ◌<◌, ◌≤◌, Bool, List, [], ◌∷◌, map, Option, None, Some, refl, sym, ap, ◌∙◌, subst, arith}
use Rattle.std.specs.Prelude.{IsTrue}
use Rattle.std.specs.List.{slice_get}
use Rattle.mp_names.specs.declared.names.Name.{Name}
use Rattle.mp_names.specs.declared.kinds.Kind.{Kind}
use Rattle.mp_names.specs.declared.kinds.Kind.TheVariants.{Extract, Settle, Apply}
use Rattle.mp_names.specs.declared.locations.Loc.{Loc}
use Rattle.mp_names.specs.declared.locations.Loc.TheVariants.{CtlMail, Host}
use Rattle.mp_names.specs.declared.locations.Frontier.{Frontier}
use Rattle.mp_names.specs.Outlines.{Outline, time_of}
use Rattle.mp_names.specs.Frontiers.{HasPassed}
use Rattle.mp_machine.specs.Worlds.{Worker}
use Rattle.mp_machine.specs.Steps.{KindFits, MaySendControl}
use Rattle.mp_stamps.specs.Seen.{seen_at}
use Rattle.mp_player_laws.specs.Decisions.{packets_to_send}
use Rattle.mp_player_laws.specs.Numbers.{numbers_of, StandsAt}
use Rattle.mp_player_laws.specs.Counted.{IsGivenWithin}
use Rattle.mp_chart.specs.declared.entry.Entry.{Entry}
use Rattle.mp_chart.specs.Entries.{entry_of, entries_of}
use Rattle.mp_chart.specs.Lists.{to_do, HasSeenEnough, IsPaceOf}
use Rattle.mp_standing.specs.declared.done.Done.{Done}
use Rattle.mp_standing.specs.declared.standing.Standing.{Standing}
use Rattle.mp_standing.specs.Numbers.{done_at}
use Rattle.mp_standing.specs.Seeing.{IsBeforeNext}
use Rattle.mp_standing.specs.Standings.{Stands}

-- the test tells whether the worker has seen enough
abbrev pub Tells : Outline → ℕ → Standing → Entry → Bool → Kind → Type 0
Tells o w s e b kind = (x : Name) (of : Worker) → KindFits o kind → StandsAt (to_do o w kind) (done_at s.done kind) x → e ≡ entry_of o x → Stands o w s of → 0 < o.stages → IsTrue b ↔ HasSeenEnough o w of kind x

-- the next entry is of a later time where the next name is
pub before_next : (o : Outline) (t : ℕ) (xs : List Name) (n : ℕ) (r : Option Entry) → r ≡ slice_get (entries_of o xs) n → IsBeforeNext t r ↔ ((y : Name) → slice_get xs n ≡ Some y → t < time_of o y)
before_next o t xs n r e = subst (λ (q : Option Entry). IsBeforeNext t q ↔ ((y : Name) → slice_get xs n ≡ Some y → t < time_of o y)) (sym e) (go xs n)
  where
    go : (xs : List Name) (n : ℕ) → IsBeforeNext t (slice_get (entries_of o xs) n) ↔ ((y : Name) → slice_get xs n ≡ Some y → t < time_of o y)
    go [] n = ((λ h y f. absurd (cc)), (λ h. tt))
    go (x ∷ xs) zero = ((λ h y f. let same : x ≡ y = cc in subst (λ (z : Name). t < time_of o z) same h), (λ h. h x refl))
    go (x ∷ xs) (suc n) = go xs n

pub sees_settled :
    (o : Outline) (w : ℕ) (s : Standing) (e : Entry) (b : Bool) (j : ℕ) (next : Option Entry) (n : ℕ)
    → (IsTrue b ↔ (HasPassed (seen_at s.seen CtlMail) e.time × IsBeforeNext e.time next))
    → next ≡ slice_get (entries_of o (to_do o w (Extract j))) n
    → n ≡ done_at s.done (Extract j)
    → Tells o w s e b (Settle j)
sees_settled o w s e b j next n is there count = λ x of fits at entry stands some.
    let number : n ≡ (numbers_of of.log).packets j = count ∙ stands.done (Extract j) fits in
    let time : e.time ≡ time_of o x = ap (λ (f : Entry). f.time) entry in
    let seen = stands.seen CtlMail tt in
    let later = subst (λ (m : ℕ). IsBeforeNext e.time next ↔ ((y : Name) → slice_get (packets_to_send o w j) m ≡ Some y → e.time < time_of o y)) number (before_next o e.time (packets_to_send o w j) n next there) in
    subst (λ (t : ℕ). IsTrue b ↔ (HasPassed (of.seen CtlMail) t × ((y : Name) → slice_get (packets_to_send o w j) ((numbers_of of.log).packets j) ≡ Some y → t < time_of o y))) time (
      (λ h. let r = is.0 h in (subst (λ (f : Frontier). HasPassed f e.time) seen r.0, later.0 r.1)),
      (λ h. is.1 (subst (λ (f : Frontier). HasPassed f e.time) (sym seen) h.0, later.1 h.1)),
    )

pub sees_pace : (o : Outline) (w : ℕ) (s : Standing) (b : Bool) (x : Name) (of : Worker) (t : ℕ) (pace : Option ℕ) → pace ≡ Some t → IsPaceOf o x pace → Stands o w s of → (IsTrue b ↔ ((j : ℕ) → j < o.stages → HasPassed (seen_at s.seen (Host j)) t)) → IsTrue b ↔ MaySendControl o of x
sees_pace o w s b x of t pace e is stands told =
    let may = subst (IsPaceOf o x) e is of in (
      (λ h. may.1 (λ j l. subst (λ (f : Frontier). HasPassed f t) (stands.seen (Host j) l) (told.0 h j l))),
      (λ h. told.1 (λ j l. subst (λ (f : Frontier). HasPassed f t) (sym (stands.seen (Host j) l)) (may.0 h j l))),
    )

pub sees_given : (o : Outline) (w : ℕ) (s : Standing) (b : Bool) (x : Name) (of : Worker) (least number last : ℕ) → ((n : ℕ) → IsGivenWithin o w n x ↔ least ≤ n) → last ≡ o.stages - 1 → number ≡ done_at s.done (Apply last) → Stands o w s of → 0 < o.stages → (IsTrue b ↔ least ≤ number) → IsTrue b ↔ IsGivenWithin o w ((numbers_of of.log).groups (o.stages - 1)) x
sees_given o w s b x of least number last given e count stands some told =
    let fits : o.stages - 1 < o.stages = omega arith in
    let same : number ≡ (numbers_of of.log).groups (o.stages - 1) = count ∙ ap (λ (j : ℕ). done_at s.done (Apply j)) e ∙ stands.done (Apply (o.stages - 1)) fits in
    subst (λ (n : ℕ). IsTrue b ↔ IsGivenWithin o w n x) same ((λ h. (given number).1 (told.0 h)), (λ h. told.1 ((given number).0 h)))
