-- The control record that a controller tells is the one that the machine sends next.
use Rattle.std.proofs.Common.{◌≡◌, ℕ, ◌<◌, ◌≤◌, ◌⊎◌, true, false, IfNone, IfSome, List, Option, None, Some, length, refl, sym, ap, ◌∙◌, subst, inl, inr, ⊎_elim, arith}
use Rattle.std.proofs.lemmas.Bool.{both_ways, cases_Bool, cond-false, cond-true, eq-eqb, false≢true}
use Rattle.mp_names.specs.declared.controls.Control.{Control}
use Rattle.mp_names.specs.declared.kinds.Kind.TheVariants.{SendControl}
use Rattle.mp_names.specs.declared.locations.Frontier.{Frontier}
use Rattle.mp_names.specs.declared.locations.Loc.{Loc}
use Rattle.mp_names.specs.declared.locations.Loc.TheVariants.{Host}
use Rattle.mp_names.specs.declared.names.Name.{Name}
use Rattle.mp_names.specs.declared.names.Name.TheVariants.{Ctrl}
use Rattle.mp_names.specs.Controls.{control_of}
use Rattle.mp_names.specs.Frontiers.{HasPassed}
use Rattle.mp_names.specs.Keeping.{IsHeld}
use Rattle.mp_names.specs.Logs.{Log}
use Rattle.mp_names.specs.Names.{has, IsLeast, is_ctrl, Less}
use Rattle.mp_names.specs.Outlines.{Outline, time_of}
use Rattle.mp_names.proofs.Orders.{least_unique}
use Rattle.mp_machine.specs.Steps.{IsControlDue, IsNext, IsReady, MaySendControl}
use Rattle.mp_machine.specs.Worlds.{Worker}
use Rattle.mp_stamps.specs.declared.seen.Seen.{Seen}
use Rattle.mp_stamps.specs.Seen.{seen_at}
use Rattle.mp_controller.specs.Controlling.{Controlling, EarlierMovesAreOver, GoesBefore, GoesNow, IsLeft, index_at, next_index, next_name, turn_time}
use Rattle.mp_controller.specs.Telling.{IsControllerOf, TellsMachine}
use Rattle.mp_controller.proofs.Orders.{index_listed, place_of}
use Rattle.mp_controller.proofs.Sending.{is_so_before, place_not_before}

module _ (o : Outline) (w : ℕ) (first : w ≡ 0) (log : Log) (c : Controlling) (of : IsControllerOf o log c) where
  -- a control record that is held has its place at the next one's or behind it
  held_behind : (i v : ℕ) → IsHeld o w log is_ctrl (Ctrl i v) → (p : ℕ) × (p < length c.order) × (index_at c.order p ≡ i) × ((c.next.index < p) ⊎ ((c.next.index ≡ p) × (c.next.receiver ≤ v)))
  held_behind i v held = (place.0, place.1, place.2, either (λ b. both_ways (has log.sent (Ctrl i v)) held.3 (subst (λ (k : ℕ). has log.sent (Ctrl k v) ≡ true) place.2 (of.sent place.0 v place.1 held.1.1 ∙ is_so_before c.next place.0 v b))))
    where
      place : (p : ℕ) × (p < length c.order) × (index_at c.order p ≡ i)
      place = place_of o.paced o.controls c.order of.order i held.1.0

      either : (((place.0 < c.next.index) ⊎ ((place.0 ≡ c.next.index) × (v < c.next.receiver))) → ⊥) → (c.next.index < place.0) ⊎ ((c.next.index ≡ place.0) × (c.next.receiver ≤ v))
      either = grind arith

  -- so there is a next one
  pub some_left : (x : Name) → IsHeld o w log is_ctrl x → IsLeft c
  some_left (Ctrl i v) held = let behind = held_behind i v held in left behind.0 behind.1 behind.3
    where
      left : (p : ℕ) → p < length c.order → (c.next.index < p) ⊎ ((c.next.index ≡ p) × (c.next.receiver ≤ v)) → c.next.index < length c.order
      left p l b = grind arith
  some_left _ held = absurd (false≢true held.0)

  module _ (left : IsLeft c) where
    next_held : IsHeld o w log is_ctrl (next_name c)
    next_held = (refl, (index_listed o.paced o.controls c.order of.order c.next.index left, of.receiver), eq-eqb w 0 first, of.sent c.next.index c.next.receiver left of.receiver ∙ place_not_before c.next)

    -- a control record that is held is the next one, to it or a later receiver, or goes out later
    held_later : (i v : ℕ) → IsHeld o w log is_ctrl (Ctrl i v) → GoesBefore o.paced o.controls (next_index c) i ⊎ ((next_index c ≡ i) × (c.next.receiver ≤ v))
    held_later i v held =
        let behind = held_behind i v held in
        ⊎_elim
        (λ (l : c.next.index < behind.0). inl (subst (λ (k : ℕ). GoesBefore o.paced o.controls (next_index c) k) behind.2 (of.order.by_turn c.next.index behind.0 l behind.1)))
        (λ (e : (c.next.index ≡ behind.0) × (c.next.receiver ≤ v)). inr (ap (index_at c.order) e.0 ∙ behind.2, e.1))
        behind.3

    abbrev time_at : ℕ → ℕ
    time_at i = (control_of o.controls i).time

    -- it is of the least time
    next_first : o.paced ≡ true → (i v : ℕ) → IsHeld o w log is_ctrl (Ctrl i v) → time_at (next_index c) ≤ time_at i
    next_first paced i v held = ⊎_elim sooner (λ (e : (next_index c ≡ i) × (c.next.receiver ≤ v)). let same = ap time_at e.0 in omega arith) (held_later i v held)
      where
        its_time : (k : ℕ) → turn_time o.paced o.controls k ≡ time_at k
        its_time k = cond-true o.paced (time_at k) 0 paced

        sooner : GoesBefore o.paced o.controls (next_index c) i → time_at (next_index c) ≤ time_at i
        sooner before =
            let a = its_time (next_index c) in
            let b = its_time i in
            ⊎_elim (λ (l : turn_time o.paced o.controls (next_index c) < turn_time o.paced o.controls i). omega arith) (λ (e : (turn_time o.paced o.controls (next_index c) ≡ turn_time o.paced o.controls i) × (next_index c < i)). omega arith) before

    -- none that is due is less
    none_less : (i v : ℕ) → IsControlDue o w log (Ctrl i v) → Less (Ctrl i v) (next_name c) → ⊥
    none_less i v due less = ⊎_elim sooner (λ (e : (next_index c ≡ i) × (c.next.receiver ≤ v)). same e.0 e.1 smaller) (held_later i v due.0)
      where
        smaller : (i < next_index c) ⊎ ((i ≡ next_index c) × (v < c.next.receiver))
        smaller = grind arith

        same : next_index c ≡ i → c.next.receiver ≤ v → (i < next_index c) ⊎ ((i ≡ next_index c) × (v < c.next.receiver)) → ⊥
        same e l s = ⊎_elim (λ (a : i < next_index c). omega arith) (λ (a : (i ≡ next_index c) × (v < c.next.receiver)). omega arith) s

        no_later : o.paced ≡ true → time_at i ≤ time_at (next_index c)
        no_later paced = due.1 paced (next_name c) next_held

        index_rises : turn_time o.paced o.controls i ≤ turn_time o.paced o.controls (next_index c)
        index_rises =
            ⊎_elim
            (λ (e : o.paced ≡ true). let a = cond-true o.paced (time_at i) 0 e in let b = cond-true o.paced (time_at (next_index c)) 0 e in let l = no_later e in omega arith)
            (λ (e : o.paced ≡ false). let a = cond-false o.paced (time_at i) 0 e in let b = cond-false o.paced (time_at (next_index c)) 0 e in omega arith)
            (cases_Bool o.paced)

        sooner : GoesBefore o.paced o.controls (next_index c) i → ⊥
        sooner before =
            ⊎_elim
            (λ (l : turn_time o.paced o.controls (next_index c) < turn_time o.paced o.controls i). let r = index_rises in omega arith)
            (λ (e : (turn_time o.paced o.controls (next_index c) ≡ turn_time o.paced o.controls i) × (next_index c < i)). let l = e.1 in ⊎_elim (λ (a : i < next_index c). omega arith) (λ (a : (i ≡ next_index c) × (v < c.next.receiver)). omega arith) smaller)
            before

    pub next_is_least : IsLeast (IsControlDue o w log) (next_name c)
    next_is_least = ((next_held, (λ paced y held. first_of y paced held)), (λ y due less. none y due less))
      where
        first_of : (y : Name) → o.paced ≡ true → IsHeld o w log is_ctrl y → time_of o (next_name c) ≤ time_of o y
        first_of (Ctrl i v) paced held = next_first paced i v held
        first_of _ paced held = absurd (false≢true held.0)

        none : (y : Name) → IsControlDue o w log y → Less y (next_name c) → ⊥
        none (Ctrl i v) due less = none_less i v due less
        none _ due less = absurd (false≢true due.0.0)

  module _ (worker : Worker) (logged : worker.log ≡ log) (seen : Seen) (sees : worker.seen ≡ seen_at seen) where
    -- by control records, stages and frontiers
    abbrev AreOver : List Control → ℕ → (Loc → Frontier) → Type 0
    AreOver cs stages at = (j i : ℕ) → j < stages → i < length cs → (control_of cs i).time < (control_of cs (next_index c)).time → HasPassed (at (Host j)) (control_of cs i).time

    over_is : EarlierMovesAreOver c seen → AreOver o.controls o.stages worker.seen
    over_is over =
        let a = subst (λ (cs : List Control). AreOver cs c.shape.stages (seen_at seen)) of.controls over in
        let b = subst (λ (n : ℕ). AreOver o.controls n (seen_at seen)) of.stages a in
        subst (AreOver o.controls o.stages) (sym sees) b

    is_over : AreOver o.controls o.stages worker.seen → EarlierMovesAreOver c seen
    is_over over =
        let a = subst (AreOver o.controls o.stages) sees over in
        let b = subst (λ (n : ℕ). AreOver o.controls n (seen_at seen)) (sym of.stages) a in
        subst (λ (cs : List Control). AreOver cs c.shape.stages (seen_at seen)) (sym of.controls) b

    pub goes_can : (x : Name) → GoesNow c seen x → IsNext o w worker SendControl x × IsReady o w worker SendControl x
    goes_can x goes =
        subst
        (λ (y : Name). IsNext o w worker SendControl y × IsReady o w worker SendControl y)
        (sym goes.next)
        (subst (λ (l : Log). IsLeast (IsControlDue o w l) (next_name c)) (sym logged) (next_is_least goes.left), (λ (paced : o.paced ≡ true). over_is (goes.paced (of.paced ∙ paced))))

    pub can_goes : (x : Name) → IsNext o w worker SendControl x → IsReady o w worker SendControl x → GoesNow c seen x
    can_goes x can ready =
        let least = subst (λ (l : Log). IsLeast (IsControlDue o w l) x) logged can in
        let left = some_left x least.0.0 in
        let is = least_unique (IsControlDue o w log) x (next_name c) least (next_is_least left) in
        record { left = left; next = is; paced = λ paced. is_over (subst (λ (y : Name). MaySendControl o worker y) is ready (sym of.paced ∙ paced)) }

-- what a controller says goes now, the machine may send, and nothing else
pub tells_machine : (c : Controlling) (seen : Seen) (told : Option Name) → IfSome told (GoesNow c seen) → IfNone told ((x : Name) → GoesNow c seen x → ⊥) → TellsMachine c seen told
tells_machine c seen None some none o worker of sees x = ((λ e. cc), (λ can. absurd (none x (can_goes o 0 refl worker.log c of worker refl seen sees x can.0 can.1))))
tells_machine c seen (Some y) some none o worker of sees x = (
  (λ e. let is : y ≡ x = cc in goes_can o 0 refl worker.log c of worker refl seen sees x (subst (GoesNow c seen) is some)),
  (λ can. let goes = can_goes o 0 refl worker.log c of worker refl seen sees x can.0 can.1 in ap Some (some.next ∙ sym goes.next)),
)
