-- Movers that settle a time, or may not.
use Rattle.std.proofs.Common.{◌≡◌, ◌⊎◌, ◌≤◌, ◌<◌, ◌==◌, ◌++◌, ℕ, true, false, List, [], ◌∷◌, Contains, Option, Some, None, refl, sym, ap, ◌∙◌, subst, inl, inr, ⊎_elim, arith}
use Rattle.std.specs.Prelude.{IfNone, IfSome, slice_get}
use Rattle.std.specs.Option.{option_copied}
use denote.Bor.{Bor}
use Rattle.std.proofs.lemmas.Option.{none-some, same_Some}
use Rattle.std.proofs.lemmas.Bool.{and_from, both_ways, eq-eqb, false_from_ne_true, true_from_ne_false}
use Rattle.mp_names.specs.declared.locations.Loc.TheVariants.{CtlMail, Host}
use Rattle.mp_names.specs.declared.names.Name.{Name}
use Rattle.mp_names.specs.declared.names.Name.TheVariants.{Ctrl, Packet, Settled}
use Rattle.mp_names.specs.Frontiers.{HasPassed}
use Rattle.mp_names.specs.Keeping.{IsUnsettled}
use Rattle.mp_names.specs.Logs.{Log, is_ctrl_of, is_noted, with_settled}
use Rattle.mp_names.specs.Names.{has, In, IsBefore, IsLeast, Less}
use Rattle.mp_names.specs.Outlines.{Outline, control_at, IsOwedBy}
use Rattle.mp_names.proofs.Exact.{passed_earlier}
use Rattle.mp_names.proofs.Lists.{any_from, In_left, In_push}
use Rattle.mp_names.proofs.Orders.{least_unique}
use Rattle.mp_names.proofs.Owners.{move_found}
use Rattle.mp_stamps.specs.declared.seen.Seen.{Seen}
use Rattle.mp_stamps.specs.Seen.{seen_at}
use Rattle.mp_bins.specs.Notes.{Notes}
use Rattle.mp_job.proofs.Members.{Contains-cases, Contains-here, Contains-later, nothing_in_nil}
use Rattle.mp_ordered.specs.InOrder.{InOrder}
use Rattle.mp_handoff.specs.Due.{MoversMatchLogAndSeen, CanLeave, CanSettle, LeavesBy, MayLeaveHere, MaySettleHere}
use Rattle.mp_handoff.specs.MoversState.{MoversState, Rises}
use Rattle.mp_handoff.specs.MoversOf.{IsMoversOf}
use Rattle.mp_handoff.proofs.Leaving.{after_unsent, leaving_is_owed, owed_is_leaving, reached_earlier, unsent_after}
use Rattle.mp_handoff.proofs.Same.{In_last, has_other}
use Rattle.mp_handoff.proofs.Times.{comes_first, rest_rises}

-- the time of a settled name
same_time : (j s t : ℕ) → Settled j s ≡ Settled j t → s ≡ t
same_time j s t e = cc

settled_less : (j s t : ℕ) → Less (Settled j s) (Settled j t) → s < t
settled_less j s t h = ⊎_elim (λ (e : 5 < 5). absurd (omega arith)) (λ (e : (5 ≡ 5) × IsBefore (s ∷ j ∷ []) (t ∷ j ∷ [])). by_time e.1) h
  where
    by_time : IsBefore (s ∷ j ∷ []) (t ∷ j ∷ []) → s < t
    by_time h =
        ⊎_elim (λ (e : s < t). e)
        (λ (e : (s ≡ t) × IsBefore (j ∷ []) (j ∷ [])). absurd (⊎_elim (λ (l : j < j). omega arith) (λ (k : (j ≡ j) × ⊥). k.1) e.1))
        h

less_settled : (j s t : ℕ) → s < t → Less (Settled j s) (Settled j t)
less_settled j s t l = inr (refl, inl l)

module _ (o : Outline) (log : Log) (notes : Notes) (seen : Seen) (m : MoversState) (i : MoversMatchLogAndSeen o log notes seen m) where
  -- where no time is unsettled none may be settled
  pub none_unsettled : m.unsettled ≡ [] → (t : ℕ) → MaySettleHere o log seen m t → ⊥
  none_unsettled e t y = nothing_in_nil t (subst (λ (l : List ℕ). Contains l t) e ((i.0.unsettled t).1 y.least.0))

  -- a packet that the worker owes, of a passed time, is sent, or its time isn't settled
  owed_unsettled : (b t : ℕ) → HasPassed (seen_at seen CtlMail) t → IsOwedBy o m.worker (Packet m.stage b t) → has log.sent (Packet m.stage b t) ≡ false → IsUnsettled o log m.stage (Settled m.stage t)
  owed_unsettled b t p owed n = (
    refl,
    noted,
    false_from_ne_true (has log.settled (Settled m.stage t)) (λ s. both_ways (has log.sent (Packet m.stage b t)) n (i.0.settled b t s owed)),
  )
    where
      noted : is_noted o log m.stage t ≡ true
      noted =
          let c = move_found o m.stage b t owed.0 in
          let e = c.4 in
          let x = Ctrl c.0 m.worker in
          let of_stage = eq-eqb (control_at o c.0).stage m.stage c.2 in
          let of_time = eq-eqb (control_at o c.0).time t c.4 in
          any_from (is_ctrl_of o m.stage t) x log.took (i.1.taken c.0 t p c.1 (omega arith)) (and_from ((control_at o c.0).stage == m.stage) ((control_at o c.0).time == t) of_stage of_time)

  -- a packet may leave only at a time that isn't settled
  leaves_unsettled : (b t : ℕ) → MayLeaveHere o log seen m b t → Contains m.unsettled t
  leaves_unsettled b t y = (i.0.unsettled t).1 (owed_unsettled b t y.0.0.1 y.0.0.0.1 y.0.0.0.2)

  -- so none may where no time is unsettled
  pub none_leaves_settled : m.unsettled ≡ [] → (b t : ℕ) → MayLeaveHere o log seen m b t → ⊥
  none_leaves_settled e b t y = nothing_in_nil t (subst (λ (l : List ℕ). Contains l t) e (leaves_unsettled b t y))

  module _ (t : ℕ) (rest : List ℕ) (first : m.unsettled ≡ t ∷ rest) (rises : Rises m.unsettled) where
    risen : Rises (t ∷ rest)
    risen = subst Rises first rises

    later : (s : ℕ) → Contains m.unsettled s → (t ≡ s) ⊎ Contains rest s
    later s c = Contains-cases t s rest (subst (λ (l : List ℕ). Contains l s) first c)

    pub least : IsLeast (IsUnsettled o log m.stage) (Settled m.stage t)
    least = ((i.0.unsettled t).0 (subst (λ (l : List ℕ). Contains l t) (sym first) (Contains-here t rest)), no_less)
      where
        at : (s : ℕ) → IsUnsettled o log m.stage (Settled m.stage s) → Less (Settled m.stage s) (Settled m.stage t) → ⊥
        at s u less =
            let l = settled_less m.stage s t less in
            ⊎_elim (λ (e : t ≡ s). absurd (omega arith)) (λ (c : Contains rest s). let k = comes_first t rest s risen c in absurd (omega arith)) (later s ((i.0.unsettled s).1 u))

        no_less : (y : Name) → IsUnsettled o log m.stage y → Less y (Settled m.stage t) → ⊥
        no_less (Settled k s) u less = at s (subst (λ (n : ℕ). IsUnsettled o log m.stage (Settled n s)) u.0 u) (subst (λ (n : ℕ). Less (Settled n s) (Settled m.stage t)) u.0 less)
        no_less _ u less = absurd u

    only : (s : ℕ) → MaySettleHere o log seen m s → s ≡ t
    only s y = same_time m.stage s t (least_unique (IsUnsettled o log m.stage) (Settled m.stage s) (Settled m.stage t) y.least least)

    -- and none may before the first such time has come
    pub none_leaves_before : (CanLeave seen m t → ⊥) → (b s : ℕ) → MayLeaveHere o log seen m b s → ⊥
    none_leaves_before n b s y = n (passed_earlier (seen_at seen CtlMail) s t y.0.0.1 upto, reached_earlier (seen_at seen (Host m.stage)) s t y.1 upto)
      where
        upto : t ≤ s
        upto = ⊎_elim (λ (e : t ≡ s). omega arith) (λ (c : Contains rest s). let l = comes_first t rest s risen c in omega arith) (later s (leaves_unsettled b s y))

    -- a bin leaves up to then
    none_while : (s : ℕ) → MaySettleHere o log seen m s → LeavesBy notes m t → ⊥
    none_while s y l =
        let b = l.0 in
        let u = l.1 in
        let le = l.2 in
        let e = only s y in
        let passed = passed_earlier (seen_at seen CtlMail) s u y.passed (omega arith) in
        let owed = leaving_is_owed o log notes seen m.worker m.stage i.1 b u passed l.3 in
        let unsent = after_unsent o log m i.0 b u owed l.4 in
        ⊎_elim
        (λ (same : s ≡ u). both_ways (has log.sent (Packet m.stage b u)) unsent (subst (λ (v : ℕ). In (Packet m.stage b v) log.sent) same (y.sent b (subst (λ (v : ℕ). IsOwedBy o m.worker (Packet m.stage b v)) (sym same) owed))))
        (λ (less : u < s). y.least.1 (Settled m.stage u) (owed_unsettled b u passed owed unsent) (less_settled m.stage u s less))
        (at_or_before s u (omega arith))
      where
        at_or_before : (s u : ℕ) → u ≤ s → (s ≡ u) ⊎ (u < s)
        at_or_before s u l = grind arith

    -- where the first time can't be settled none may be
    pub none_before : (CanSettle notes seen m t → ⊥) → (s : ℕ) → MaySettleHere o log seen m s → ⊥
    none_before n s y = n (subst (λ (u : ℕ). HasPassed (seen_at seen CtlMail) u) (only s y) y.passed, none_while s y)

    module _ (can : CanSettle notes seen m t) where
      all_sent : (b : ℕ) → IsOwedBy o m.worker (Packet m.stage b t) → In (Packet m.stage b t) log.sent
      all_sent b owed =
          true_from_ne_false (has log.sent (Packet m.stage b t)) (λ n. can.1 (b, t, omega arith, owed_is_leaving o log notes seen m.worker m.stage i.1 b t can.0 owed, unsent_after o log m i.0 b t owed n))

      pub may_settle : MaySettleHere o log seen m t
      may_settle = record { least = least; passed = can.0; sent = all_sent }

      settled_cases : (u : ℕ) → In (Settled m.stage u) (log.settled ++ Settled m.stage t ∷ []) → In (Settled m.stage u) log.settled ⊎ (t ≡ u)
      settled_cases u s = ⊎_elim (λ (k : In (Settled m.stage u) log.settled). inl k) (λ (e : Settled m.stage t ≡ Settled m.stage u). inr (same_time m.stage t u e)) (In_push (Settled m.stage u) (Settled m.stage t) log.settled s)

      pub settled_on : (room : ℕ) → IsMoversOf o (with_settled log (Settled m.stage t)) (record m { unsettled = rest; room = room })
      settled_on room = record {
        unsettled = λ u. (
          (λ c.
              let n = (i.0.unsettled u).0 (subst (λ (l : List ℕ). Contains l u) (sym first) (Contains-later t u rest c)) in
              let l = comes_first t rest u risen c in
              (refl, n.1, has_other (Settled m.stage t) (Settled m.stage u) log.settled (λ e. let same = same_time m.stage t u e in absurd (omega arith)) ∙ n.2)),
          (λ n.
              let open_before = false_from_ne_true (has log.settled (Settled m.stage u)) (λ s. both_ways (has (log.settled ++ Settled m.stage t ∷ []) (Settled m.stage u)) n.2 (In_left (Settled m.stage u) log.settled (Settled m.stage t ∷ []) s)) in
              ⊎_elim
              (λ (e : t ≡ u). absurd (both_ways (has (log.settled ++ Settled m.stage t ∷ []) (Settled m.stage u)) n.2 (subst (λ (v : ℕ). In (Settled m.stage v) (log.settled ++ Settled m.stage t ∷ [])) e (In_last (Settled m.stage t) log.settled))))
              (λ (c : Contains rest u). c)
              (later u ((i.0.unsettled u).1 (refl, n.1, open_before)))),
        );
        sent = i.0.sent;
        packets = i.0.packets;
        known = λ k u done l le.
            ⊎_elim
            (λ (s : In (Settled m.stage u) (log.settled ++ Settled m.stage t ∷ [])).
            ⊎_elim (λ (before : In (Settled m.stage u) log.settled). i.0.known k u (inl before) l le) (λ (e : t ≡ u). i.1.taken k u (subst (λ (v : ℕ). HasPassed (seen_at seen CtlMail) v) e can.0) l le) (settled_cases u s))
            (λ (s : (b : ℕ) × In (Packet m.stage b u) log.sent). i.0.known k u (inr s) l le)
            done;
        settled = λ b u s owed.
            ⊎_elim
            (λ (before : In (Settled m.stage u) log.settled). i.0.settled b u before owed)
            (λ (e : t ≡ u). subst (λ (v : ℕ). In (Packet m.stage b v) log.sent) e (all_sent b (subst (λ (v : ℕ). IsOwedBy o m.worker (Packet m.stage b v)) (sym e) owed)))
            (settled_cases u s);
      }

-- the first of a list that was read

module _ (ts : List ℕ) where
  pub starts : (t : ℕ) → slice_get ts 0 ≡ Some t → (rest : List ℕ) × (ts ≡ t ∷ rest)
  starts t e = at ts e
    where
      at : (us : List ℕ) → slice_get us 0 ≡ Some t → (rest : List ℕ) × (us ≡ t ∷ rest)
      at [] e = absurd (none-some t e)
      at (u ∷ us) e = (us, ap (λ (v : ℕ). v ∷ us) (same_Some u t e))

  pub is_first : (t x : ℕ) (rest : List ℕ) → slice_get ts 0 ≡ Some t → ts ≡ x ∷ rest → t ≡ x
  is_first t x rest e f = same_Some t x (sym e ∙ ap (λ (us : List ℕ). slice_get us 0) f)

  pub reads_first : (r : Option (Bor ℕ)) (t : ℕ) → option_copied r ≡ Some t → IfSome r (λ x. slice_get ts 0 ≡ Some x.now) → slice_get ts 0 ≡ Some t
  reads_first (Some x) t e h = h ∙ e
  reads_first None t e h = absurd (none-some t e)

  pub reads_none : (r : Option (Bor ℕ)) → option_copied r ≡ None → IfNone r (ts ≡ []) → ts ≡ []
  reads_none (Some x) e h = absurd (none-some x.now (sym e))
  reads_none None e h = h

-- what is left once the first is taken out, if there is one, rises
pub left_rises : (old new : InOrder ℕ) (r : Option ℕ) → IfSome r (λ x. old.items ≡ x ∷ new.items) → IfNone r (new ≡ old) → Rises old.items → Rises new.items
left_rises old new (Some x) e f h = rest_rises x new.items (subst Rises e h)
left_rises old new None e f h = subst (λ (l : InOrder ℕ). Rises l.items) (sym f) h
