-- Which bins leave by what was noted, and which packets are due by the log.
use Rattle.std.proofs.Common.{◌≡◌, ◌↔◌, ◌≤◌, ◌==◌, ℕ, nat_le, IsTrue, true, false, not, List, Option, refl, sym, ap, ◌∙◌, subst, arith}
use Rattle.std.proofs.lemmas.Bool.{both_ways, eq-eqb, le-leb, leb-true, ne_eqb, not-false, not-true, not_from_false}
use Rattle.mp_names.specs.declared.controls.Move.{Move}
use Rattle.mp_names.specs.declared.locations.Frontier.{Frontier}
use Rattle.mp_names.specs.declared.locations.Frontier.TheVariants.{At, Done}
use Rattle.mp_names.specs.declared.locations.Loc.TheVariants.{CtlMail, Host}
use Rattle.mp_names.specs.declared.names.Name.{Name}
use Rattle.mp_names.specs.declared.names.Name.TheVariants.{Packet}
use Rattle.mp_names.specs.declared.pointstamps.TimedBin.{TimedBin}
use Rattle.mp_names.specs.Frontiers.{HasPassed, HasReached}
use Rattle.mp_names.specs.Logs.{Log}
use Rattle.mp_names.specs.Names.{has, Less}
use Rattle.mp_names.specs.Outlines.{Outline, owner_at, owner_before, IsOwedBy}
use Rattle.mp_names.proofs.Exact.{passed_earlier}
use Rattle.mp_stamps.specs.declared.seen.Seen.{Seen}
use Rattle.mp_stamps.specs.Seen.{seen_at}
use Rattle.mp_bins.specs.Notes.{Notes, owner_at as noted_owner_at, owner_before as noted_owner_before}
use Rattle.mp_ordered.specs.InOrder.{InOrder}
use Rattle.mp_bins.specs.Leaving.{IsAfter, IsLeaving, IsNextLeaving, NoneLeaves}
use Rattle.mp_handoff.specs.declared.sent.Sent.{Sent}
use Rattle.mp_handoff.specs.Due.{MoversMatchLogAndSeen, CanLeave, IsDueHere, IsMoveAway, LeavesBy, MayLeaveHere}
use Rattle.mp_handoff.specs.MoversState.{MoversState, is_after}
use Rattle.mp_handoff.specs.MoversOf.{IsMoversOf, KnowsMoves}
use Rattle.mp_handoff.proofs.After.{after_from, after_is, less_after, no_later}

-- the movers of these fields
abbrev pub moving : ℕ → ℕ → InOrder ℕ → Option TimedBin → List Sent → ℕ → MoversState
moving j w times last sent room = record {
  stage = j;
  worker = w;
  unsettled = times.items;
  last = last;
  room = times.room;
  sent = sent;
  room_for_sent = room;
}

differ : (x y : ℕ) → not (x == y) ≡ true → x ≡ y → ⊥
differ x y h e = both_ways (x == y) (not-true (x == y) h) (eq-eqb x y e)

apart : (x y : ℕ) → (x ≡ y → ⊥) → not (x == y) ≡ true
apart x y n = not_from_false (x == y) (ne_eqb x y n)

pub reached_earlier : (f : Frontier) (t u : ℕ) → HasReached f t → u ≤ t → HasReached f u
reached_earlier (At v) t u h l = omega arith
reached_earlier Done t u h l = tt

module _ (o : Outline) (log : Log) (notes : Notes) (seen : Seen) (w j : ℕ) (known : KnowsMoves o log notes seen w j) (b t : ℕ) (passed : HasPassed (seen_at seen CtlMail) t) where
  -- up to where the control stream has passed, what leaves by what was noted is what the worker owes
  pub leaving_is_owed : IsLeaving notes j w b t → IsOwedBy o w (Packet j b t)
  leaving_is_owed l =
      let e = known.owners b t passed in (
        (λ (same : owner_before o j b t ≡ owner_at o j b t). differ (noted_owner_before notes j b t) (noted_owner_at notes j b t) l.0 (e.0 ∙ same ∙ sym e.1)),
        sym e.0 ∙ l.1,
      )

  pub owed_is_leaving : IsOwedBy o w (Packet j b t) → IsLeaving notes j w b t
  owed_is_leaving owed =
      let e = known.owners b t passed in (
        apart (noted_owner_before notes j b t) (noted_owner_at notes j b t) (λ same. owed.0 (sym e.0 ∙ same ∙ e.1)),
        e.0 ∙ owed.1,
      )

module _ (o : Outline) (log : Log) (m : MoversState) (h : IsMoversOf o log m) (b t : ℕ) (owed : IsOwedBy o m.worker (Packet m.stage b t)) where
  -- what comes after the last packet isn't sent, and nothing else isn't
  pub after_unsent : IsAfter m.last t b → has log.sent (Packet m.stage b t) ≡ false
  after_unsent a = h.sent b t owed ∙ ap not (after_from m.last t b a)

  pub unsent_after : has log.sent (Packet m.stage b t) ≡ false → IsAfter m.last t b
  unsent_after n = after_is m.last t b (not-false (is_after m.last t b) (sym (h.sent b t owed) ∙ n))

module _ (o : Outline) (log : Log) (notes : Notes) (seen : Seen) (m : MoversState) (i : MoversMatchLogAndSeen o log notes seen m) where
  leaving_is_due : (b t : ℕ) → HasPassed (seen_at seen CtlMail) t → IsLeaving notes m.stage m.worker b t → IsAfter m.last t b → IsDueHere o log seen m.worker m.stage (Packet m.stage b t)
  leaving_is_due b t p l a =
      let owed = leaving_is_owed o log notes seen m.worker m.stage i.1 b t p l in
      ((refl, owed, after_unsent o log m i.0 b t owed a), p)

  due_is_leaving : (b t : ℕ) → IsDueHere o log seen m.worker m.stage (Packet m.stage b t) → IsLeaving notes m.stage m.worker b t × IsAfter m.last t b
  due_is_leaving b t d = (owed_is_leaving o log notes seen m.worker m.stage i.1 b t d.1 d.0.1, unsent_after o log m i.0 b t d.0.1 d.0.2)

  -- none leaves
  pub none_leaves : NoneLeaves notes m.stage m.worker m.last → (b t : ℕ) → MayLeaveHere o log seen m b t → ⊥
  none_leaves n b t y = let l = due_is_leaving b t y.0.0 in n b t l.0 l.1

  module _ (v : Move) (next : IsNextLeaving notes m.stage m.worker m.last v) where
    no_less : (y : Name) → IsDueHere o log seen m.worker m.stage y → Less y (Packet m.stage v.bin v.time) → ⊥
    no_less (Packet k b t) d less = at (subst (λ (s : ℕ). IsDueHere o log seen m.worker m.stage (Packet s b t)) d.0.0 d) (subst (λ (s : ℕ). Less (Packet s b t) (Packet m.stage v.bin v.time)) d.0.0 less)
      where
        at : IsDueHere o log seen m.worker m.stage (Packet m.stage b t) → Less (Packet m.stage b t) (Packet m.stage v.bin v.time) → ⊥
        at d less = let l = due_is_leaving b t d in next.least b t l.0 l.1 (less_after m.stage t b v.time v.bin less)
    no_less _ d less = absurd d

    -- the next that leaves may, where its time has come
    pub may_leave : CanLeave seen m v.time → MayLeaveHere o log seen m v.bin v.time
    may_leave can = ((leaving_is_due v.bin v.time can.0 next.leaves next.later, no_less), can.1)

    -- and where it hasn't none may
    pub none_earlier : (CanLeave seen m v.time → ⊥) → (b t : ℕ) → MayLeaveHere o log seen m b t → ⊥
    none_earlier n b t y =
        let l = due_is_leaving b t y.0.0 in
        let le = no_later t b v.time v.bin (next.least b t l.0 l.1) in
        n (passed_earlier (seen_at seen CtlMail) t v.time y.0.0.1 le, reached_earlier (seen_at seen (Host m.stage)) t v.time y.1 le)

    -- it goes from the worker to the job's owner
    pub goes_away : HasPassed (seen_at seen CtlMail) v.time → IsMoveAway o m.stage m.worker v
    goes_away p = (ap (λ (u : Move). u.stage) next.told, ap (λ (u : Move). u.from) next.told ∙ next.leaves.1, ap (λ (u : Move). u.to) next.told ∙ (i.1.owners v.bin v.time p).1)

-- a bin leaves up to a time just where the next one does
pub leaves_by : (notes : Notes) (m : MoversState) (t : ℕ) (v : Move) → IsNextLeaving notes m.stage m.worker m.last v → IsTrue (nat_le v.time t) ↔ LeavesBy notes m t
leaves_by notes m t v next = (
  (λ l. (v.bin, v.time, leb-true v.time t l, next.leaves, next.later)),
  (λ h. let le = no_later h.1 h.0 v.time v.bin (next.least h.0 h.1 h.3 h.4) in let l = h.2 in le-leb v.time t (omega arith)),
)
