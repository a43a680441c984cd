-- When nothing is left, by the frontier of the answer rows on their way: every location comes before it.
use Rattle.std.proofs.Common.{◌≡◌, ◌↔◌, ℕ, ◌<◌, ◌≤◌, true, Option, None, Some, pos, refl, ap, subst, ⊎_elim, arith}
use Rattle.std.proofs.lemmas.Bool.{cases_lt}
use Rattle.mp_names.specs.declared.locations.Loc.{Loc}
use Rattle.mp_names.specs.declared.locations.Loc.TheVariants.{Ctl, CtlMail, Source, Route, Mail, Move, State, Host, OutRoute, OutMail}
use Rattle.mp_names.specs.declared.locations.Frontier.{Frontier}
use Rattle.mp_names.specs.declared.locations.Frontier.TheVariants.{At, Done}
use Rattle.mp_names.specs.Frontiers.{HasEnded, IsFrontierOf}
use Rattle.mp_names.specs.Locations.{reaches}
use Rattle.mp_names.specs.Outlines.{IsBeforeStop}
use Rattle.mp_names.proofs.Reach.{path_from_table}
use Rattle.mp_stamps.specs.Counts.{CountTable, count_in}
use Rattle.mp_chart.specs.Left.{AreLeft, left_in, whole}

to_the_end : (a : Loc) → reaches a OutMail ≡ true
to_the_end Ctl = refl
to_the_end CtlMail = refl
to_the_end Source = refl
to_the_end (Route j) = refl
to_the_end (Mail j) = refl
to_the_end (Move j) = refl
to_the_end (State j) = refl
to_the_end (Host j) = refl
to_the_end OutRoute = refl
to_the_end OutMail = refl

abbrev pub NothingLeft : CountTable → Option ℕ → Type 0
NothingLeft counts until = (a : Loc) (t : ℕ) → IsBeforeStop until t → left_in counts a t ≡ 0

later_stop : (until : Option ℕ) (t u : ℕ) → t ≤ u → IsBeforeStop until u → IsBeforeStop until t
later_stop None t u l h = tt
later_stop (Some stop) t u l h = let k : u < stop = h in omega arith

module _ (counts : CountTable) (left : AreLeft counts) where
  at_done : (until : Option ℕ) → IsFrontierOf (count_in counts) OutMail Done → NothingLeft counts until
  at_done until f = λ a t b. ap whole (f t a (path_from_table a OutMail (to_the_end a)))

  before_stop : (until : Option ℕ) (t : ℕ) → IsFrontierOf (count_in counts) OutMail (At t) → (IsBeforeStop until t → ⊥) → NothingLeft counts until
  before_stop until t f stopped = λ a u b.
      ⊎_elim
      (λ (l : u < t). ap whole (f.1 u l a (path_from_table a OutMail (to_the_end a))))
      (λ (l : t ≤ u). absurd (stopped (later_stop until t u l b)))
      (cases_lt u t)

  stopped_there : (until : Option ℕ) (t : ℕ) → IsFrontierOf (count_in counts) OutMail (At t) → NothingLeft counts until → IsBeforeStop until t → ⊥
  stopped_there until t f none before = f.0 (λ a r. let w : count_in counts a t ≡ pos (left_in counts a t) = left.whole_counts a t in let z : left_in counts a t ≡ 0 = none a t before in subst (λ (n : ℕ). count_in counts a t ≡ pos n) z w)

  pub ended_is_done : (until : Option ℕ) (f : Frontier) → IsFrontierOf (count_in counts) OutMail f → (HasEnded until f ↔ NothingLeft counts until)
  ended_is_done None Done is = ((λ e. at_done None is), (λ none. refl))
  ended_is_done None (At t) is = ((λ e. absurd (cc)), (λ none. absurd (stopped_there None t is none tt)))
  ended_is_done (Some stop) Done is = ((λ e. at_done (Some stop) is), (λ none. tt))
  ended_is_done (Some stop) (At t) is = (
    (λ e. let l : stop ≤ t = e in before_stop (Some stop) t is (λ b. let k : t < stop = b in absurd (omega arith))),
    (λ none. ⊎_elim (λ (b : t < stop). absurd (stopped_there (Some stop) t is none b)) (λ (l : stop ≤ t). l) (cases_lt t stop)),
  )
