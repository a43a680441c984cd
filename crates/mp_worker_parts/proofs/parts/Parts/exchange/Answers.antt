use Rattle.std.proofs.Common.{◌≡◌, ◌⊎◌, ◌<◌, ◌≤◌, ◌∙◌, ℕ, arith, refl, sym, ⊎_elim}
use Rattle.mp_names.specs.Logs.{Log}
use Rattle.mp_names.proofs.Grows.{grows_refl}
use Rattle.mp_worker_invariant.proofs.Standing.{steps}
use Rattle.mp_worker_parts.proofs.Keeping.{kept_as}
use Rattle.mp_worker_parts.proofs.parts.Parts.exchange.Goals as goal

-- where the version that the worker had seen is shown again, the log that was posted is the one that stood there
nothing_new : (posted log : Log) (seen old new shown : ℕ) → (posted ≡ log) ⊎ (old < new) → shown ≡ new → shown ≡ seen → seen ≤ old → posted ≡ log
nothing_new posted log seen old new shown rises is again later = ⊎_elim (λ (e : posted ≡ log). e) (λ (rose : old < new). absurd (omega arith)) rises

pub exchange-requires-clause-legal : goal.exchange-requires-clause-legal
exchange-requires-clause-legal g c = rw c.worker-number.ensures c.self.invariant.parts.legal

pub exchange-requires-clause-posted : goal.exchange-requires-clause-posted
exchange-requires-clause-posted g c =
    let at = rw (← c.self.view_is) at c.requires.at_hub in
    rw c.worker-number.ensures (at.has_posted ∙ sym c.self.inside.posted_once)

pub returns-then-version-clause-posts : goal.returns-then-version-clause-posts
returns-then-version-clause-posts g c =
    let log = rw c.in-Got.is at c.in_ok-seen.ensures.log in
    let at = rw (← c.self.view_is) at c.requires.at_hub in
    let rises = rw (c.in-Got.is, c.worker-number.ensures) at c.in_ok-seen.ensures.rises in
    let version = rw c.in-Got.is at c.in_ok-seen.ensures.version in
    let again = sym c.version-version.ensures ∙ c.if-version.true ∙ c.version.ensures in
    let after = rw (c.in-Got.is, c.worker-number.ensures) at c.in_ok-seen.ensures.after in
    let goes_on = rw c.in-Got.is at c.in_ok-seen.ensures.tried in
    let shows = rw c.in-Got.is at c.in_ok-seen.ensures.shows in
    rw (log, ← c.self.view_is)
    (refl, sym at.has_posted ∙ nothing_new _ _ _ _ _ _ rises version again at.later, (goes_on, after), (c.in-Got.seen, shows, again))

pub invariant_of-self : goal.invariant_of-self
invariant_of-self g c = rw c.in_err-seen.ensures.same_log c.self.invariant

pub invariant_of-self-2 : goal.invariant_of-self-2
invariant_of-self-2 g c =
    let log = rw c.in-Got.is at c.in_ok-seen.ensures.log in
    let told = rw (c.in-Got.is, c.worker-number.ensures) at c.in_ok-seen.ensures.told in
    rw log (kept_as c.self.invariant ((steps c.self.invariant.sound c.self.invariant.parts).see _ c.in-Got.seen told))

pub returns-clause-at_hub : goal.returns-clause-at_hub
returns-clause-at_hub g c =
    let log = rw c.in-Got.is at c.in_ok-seen.ensures.log in
    let at = rw (← c.self.view_is) at c.requires.at_hub in
    let version = rw c.in-Got.is at c.in_ok-seen.ensures.version in
    let posted = rw (c.in-Got.is, c.worker-number.ensures) at c.in_ok-seen.ensures.posted in
    rw (c.of.ensures, log) (record { served = c.in_ok-seen.ensures.still_serves _ at.served; has_posted = posted; grows = grows_refl _; later = omega (arith, version) })

pub invariant_of-self-in-Busy : goal.invariant_of-self-in-Busy
invariant_of-self-in-Busy g c = rw (rw c.in-Busy.is at c.in_ok-seen.ensures.same_log) c.self.invariant

pub invariant_of-self-then-version : goal.invariant_of-self-then-version
invariant_of-self-then-version g c = rw (rw c.in-Got.is at c.in_ok-seen.ensures.log) c.self.invariant
