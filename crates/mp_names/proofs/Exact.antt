-- Frontiers are exact: one location after the other in the order of the dataflow, and at a host upward in time.
use Rattle.std.proofs.Common.{ℤ, ◌≡◌, ℕ, zero, suc, ◌-◌, ◌<◌, ◌≤◌, ◌⊎◌, Option, None, Some, refl, sym, ap, subst, ⊎_elim, arith}
use Rattle.std.proofs.lemmas.Bool.{cases_lt, cases_order}
use Rattle.mp_names.specs.declared.locations.Loc.{Loc}
use Rattle.mp_names.specs.declared.locations.Loc.TheVariants.{Ctl, CtlMail, Source, Route, Mail, Move, State, Host, OutRoute, OutMail}
use Rattle.mp_names.specs.declared.locations.Frontier.{Frontier}
use Rattle.mp_names.specs.declared.locations.Frontier.TheVariants.{At, Done}
use Rattle.mp_names.specs.Outlines.{Outline, OutlineIsSound, IsBeforeStop}
use Rattle.mp_names.specs.Logs.{Log, LogsAreLegal}
use Rattle.mp_names.specs.Locations.{Reaches}
use Rattle.mp_names.specs.Frontiers.{count_at, IsQuiet, IsFrontierOf, IsFrontier, HasPassed, HasReached, HasEnded, IsClosed}
use Rattle.mp_names.proofs.Reach.{reach_on, ctl-ctl_mail, ctl_mail-move, source-route, route-mail, mail-host, move-state, move-host, state-host, host-route, host-out_route, out_route-out_mail}
use Rattle.mp_names.proofs.Steps.{IsEven, IsDoneByAll, even_from_zero, zero_from_even, step_ctl, step_ctl_mail, step_source, step_route, step_mail, step_move, step_state, step_out_route, step_out_mail}
use Rattle.mp_names.proofs.Hosts.{step_host}

module _ (o : Outline) (logs : ℕ → Log) (ok : OutlineIsSound o) (good : LogsAreLegal o logs) where
  -- zero counts show that all is done

  module _ (at : Loc) (t : ℕ) (quiet : (u : ℕ) → u ≤ t → IsQuiet (count_at o logs) at u) where
    even : (a : Loc) (u : ℕ) → Reaches a at → u ≤ t → IsEven o logs a u
    even a u r h = even_from_zero o logs a u (quiet u h a r)

    Shown : Loc → Type 0
    Shown a = Reaches a at → (u : ℕ) → u ≤ t → IsDoneByAll o logs a u

    show_ctl : Shown Ctl
    unfolding Shown
    show_ctl r u h = (step_ctl o logs ok good u).0 (even Ctl u r h)

    show_ctl_mail : Shown CtlMail
    unfolding Shown
    show_ctl_mail r u h = (step_ctl_mail o logs ok good u (show_ctl (reach_on Ctl CtlMail at ctl-ctl_mail r) u h)).0 (even CtlMail u r h)

    show_move : (j : ℕ) → Shown (Move j)
    unfolding Shown
    show_move j r u h = (step_move o logs ok good j u (show_ctl_mail (reach_on CtlMail (Move j) at (ctl_mail-move j) r) u h)).0 (even (Move j) u r h)

    show_state : (j : ℕ) → Shown (State j)
    unfolding Shown
    show_state j r u h = (step_state o logs ok good j u (show_move j (reach_on (Move j) (State j) at (move-state j) r) u h)).0 (even (State j) u r h)

    show_source : Shown Source
    unfolding Shown
    show_source r u h = (step_source o logs ok good u).0 (even Source u r h)

    show_mail : (j : ℕ) → Shown (Route j) → Shown (Mail j)
    unfolding Shown
    show_mail j before r u h = (step_mail o logs ok good j u (before (reach_on (Route j) (Mail j) at (route-mail j) r) u h)).0 (even (Mail j) u r h)

    show_host : (j : ℕ) → Shown (Mail j) → Shown (Host j)
    unfolding Shown
    show_host j before r u h = upward (suc u) u (omega arith) h
      where
        upward : (v u : ℕ) → u < v → u ≤ t → IsDoneByAll o logs (Host j) u
        upward zero u k h = absurd (omega arith)
        upward (suc v) u k h =
            (step_host o logs ok good j u
            (λ s q. before (reach_on (Mail j) (Host j) at (mail-host j) r) s (omega arith))
            (λ s q. show_state j (reach_on (State j) (Host j) at (state-host j) r) s (omega arith))
            (λ s q. show_move j (reach_on (Move j) (Host j) at (move-host j) r) s (omega arith))
            (λ s q. upward v s (omega arith) (omega arith))).0
            (even (Host j) u r h)

    show_route : (j : ℕ) → Shown (Route j)
    unfolding Shown
    show_route zero r u h = (step_route o logs ok good 0 u (show_source (reach_on Source (Route 0) at source-route r) u h)).0 (even (Route 0) u r h)
    show_route (suc j) r u h =
        (step_route o logs ok good (suc j) u (show_host j (show_mail j (show_route j)) (reach_on (Host j) (Route (suc j)) at (host-route j) r) u h)).0 (even (Route (suc j)) u r h)

    show_out_route : Shown OutRoute
    unfolding Shown
    show_out_route r u h =
        let j = o.stages - 1 in
        (step_out_route o logs ok good u (show_host j (show_mail j (show_route j)) (reach_on (Host j) OutRoute at (host-out_route j) r) u h)).0 (even OutRoute u r h)

    show_out_mail : Shown OutMail
    unfolding Shown
    show_out_mail r u h = (step_out_mail o logs ok good u (show_out_route (reach_on OutRoute OutMail at out_route-out_mail r) u h)).0 (even OutMail u r h)

    shown : (a : Loc) → Shown a
    shown Ctl = show_ctl
    shown CtlMail = show_ctl_mail
    shown Source = show_source
    shown (Route j) = show_route j
    shown (Mail j) = show_mail j (show_route j)
    shown (Move j) = show_move j
    shown (State j) = show_state j
    shown (Host j) = show_host j (show_mail j (show_route j))
    shown OutRoute = show_out_route
    shown OutMail = show_out_mail

    pub closed_from_quiet : IsClosed o logs at t
    unfolding Shown
    closed_from_quiet w l a u r h = shown a r u h w l

  -- where all is done the counts are zero

  module _ (at : Loc) (t : ℕ) (closed : IsClosed o logs at t) where
    done : (a : Loc) (u : ℕ) → Reaches a at → u ≤ t → IsDoneByAll o logs a u
    done a u r h w l = closed w l a u r h

    balanced : (a : Loc) (u : ℕ) → Reaches a at → u ≤ t → IsEven o logs a u
    balanced Ctl u r h = (step_ctl o logs ok good u).1 (done Ctl u r h)
    balanced CtlMail u r h = (step_ctl_mail o logs ok good u (done Ctl u (reach_on Ctl CtlMail at ctl-ctl_mail r) h)).1 (done CtlMail u r h)
    balanced Source u r h = (step_source o logs ok good u).1 (done Source u r h)
    balanced (Route zero) u r h = (step_route o logs ok good 0 u (done Source u (reach_on Source (Route 0) at source-route r) h)).1 (done (Route 0) u r h)
    balanced (Route (suc j)) u r h = (step_route o logs ok good (suc j) u (done (Host j) u (reach_on (Host j) (Route (suc j)) at (host-route j) r) h)).1 (done (Route (suc j)) u r h)
    balanced (Mail j) u r h = (step_mail o logs ok good j u (done (Route j) u (reach_on (Route j) (Mail j) at (route-mail j) r) h)).1 (done (Mail j) u r h)
    balanced (Move j) u r h = (step_move o logs ok good j u (done CtlMail u (reach_on CtlMail (Move j) at (ctl_mail-move j) r) h)).1 (done (Move j) u r h)
    balanced (State j) u r h = (step_state o logs ok good j u (done (Move j) u (reach_on (Move j) (State j) at (move-state j) r) h)).1 (done (State j) u r h)
    balanced (Host j) u r h =
        (step_host o logs ok good j u
        (λ s q. done (Mail j) s (reach_on (Mail j) (Host j) at (mail-host j) r) (omega arith))
        (λ s q. done (State j) s (reach_on (State j) (Host j) at (state-host j) r) (omega arith))
        (λ s q. done (Move j) s (reach_on (Move j) (Host j) at (move-host j) r) (omega arith))
        (λ s q. done (Host j) s r (omega arith))).1
        (done (Host j) u r h)
    balanced OutRoute u r h = (step_out_route o logs ok good u (done (Host (o.stages - 1)) u (reach_on (Host (o.stages - 1)) OutRoute at (host-out_route (o.stages - 1)) r) h)).1 (done OutRoute u r h)
    balanced OutMail u r h = (step_out_mail o logs ok good u (done OutRoute u (reach_on OutRoute OutMail at out_route-out_mail r) h)).1 (done OutMail u r h)

    pub quiet_from_closed : (u : ℕ) → u ≤ t → IsQuiet (count_at o logs) at u
    quiet_from_closed u h a r = zero_from_even o logs a u (balanced a u r h)

  -- by the frontier

  pub closed_from_passed : (at : Loc) (f : Frontier) (t : ℕ) → IsFrontier o logs at f → HasPassed f t → IsClosed o logs at t
  closed_from_passed at (At v) t h l = closed_from_quiet at t (λ u k. h.1 u (omega arith))
  closed_from_passed at Done t h l = closed_from_quiet at t (λ u k. h u)

  pub passed_from_closed : (at : Loc) (f : Frontier) (t : ℕ) → IsFrontier o logs at f → IsClosed o logs at t → HasPassed f t
  passed_from_closed at (At v) t h c = ⊎_elim (λ (k : t < v). k) (λ (k : v ≤ t). absurd (h.0 (quiet_from_closed at t c v k))) (cases_lt t v)
  passed_from_closed at Done t h c = tt

-- a frontier is the only one

pub frontier_unique : (counts : Loc → ℕ → ℤ) (at : Loc) (f g : Frontier) → IsFrontierOf counts at f → IsFrontierOf counts at g → f ≡ g
frontier_unique counts at (At t) (At u) h k =
    ⊎_elim
    (λ (e : t ≡ u). ap At e)
    (λ (l : (t < u) ⊎ (u < t)). ⊎_elim (λ (m : t < u). absurd (h.0 (k.1 t m))) (λ (m : u < t). absurd (k.0 (h.1 u m))) l)
    (cases_order t u)
frontier_unique counts at (At t) Done h k = absurd (h.0 (k t))
frontier_unique counts at Done (At u) h k = absurd (k.0 (h u))
frontier_unique counts at Done Done h k = refl

-- what a frontier has passed it has passed before

pub passed_earlier : (f : Frontier) (t u : ℕ) → HasPassed f t → u ≤ t → HasPassed f u
passed_earlier (At v) t u h l = omega arith
passed_earlier Done t u h l = tt

pub passed_below : (f : Frontier) (t u : ℕ) → HasReached f t → u < t → HasPassed f u
passed_below (At v) t u h l = omega arith
passed_below Done t u h l = tt

pub reached_from : (f : Frontier) (u : ℕ) → ((s : ℕ) → s < u → HasPassed f s) → HasReached f u
reached_from (At v) zero h = omega arith
reached_from (At v) (suc u) h = let k = h u (omega arith) in omega arith
reached_from Done u h = tt

pub done_from_passed : (f : Frontier) → ((t : ℕ) → HasPassed f t) → f ≡ Done
done_from_passed (At t) h = let l = h t in absurd (omega arith)
done_from_passed Done h = refl

-- a frontier has come to the end exactly where it has passed every time before the stop

pub ended_from_passed : (stop : Option ℕ) (f : Frontier) → ((t : ℕ) → IsBeforeStop stop t → HasPassed f t) → HasEnded stop f
ended_from_passed None f h = done_from_passed f (λ t. h t tt)
ended_from_passed (Some s) f h = reached_from f s h

pub passed_from_ended : (stop : Option ℕ) (f : Frontier) → HasEnded stop f → (t : ℕ) → IsBeforeStop stop t → HasPassed f t
passed_from_ended None f e t b = subst (λ (g : Frontier). HasPassed g t) (sym e) tt
passed_from_ended (Some s) f e t b = passed_below f s t e b
