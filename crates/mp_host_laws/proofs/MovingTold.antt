-- The groups that wait no longer once a state has left a host, and those that wait once one has come, are those of its wakes that don't wait without it.
use Rattle.std.proofs.Common.{◌≡◌, ◌↔◌, ◌⊎◌, ℕ, ◌<◌, Bool, true, false, not, List, [], ◌∷◌, ◌++◌, Contains, refl, sym, ap, ◌∙◌, subst, inl, inr, ⊎_elim}
use Rattle.std.specs.List.{list_any}
use Rattle.std.proofs.lemmas.Bool.{both_ways, not-true, not_from_false, or_cases, or_left, or_right}
use Rattle.std.proofs.lemmas.List.Elements.{All-contains, All-push, Contains-push, Contains-push_cases}
use Rattle.mp_names.specs.declared.names.Name.TheVariants.{Group, Packet}
use Rattle.mp_names.specs.Outlines.{OutlineIsSound}
use Rattle.mp_names.specs.Logs.{Log, LogIsLegal, is_pending, with_sent, with_took}
use Rattle.mp_names.proofs.Keeps.{took_keeps}
use Rattle.mp_names.proofs.Owners.{move_in_shape}
use Rattle.mp_job.proofs.Members.{Contains-filter, filter-Contains}
use Rattle.mp_model.specs.declared.record.Rec.{Rec}
use Rattle.mp_model.specs.Facts.{JobFacts, QueryFacts}
use Rattle.mp_outline.specs.JobOutline.{outline_of}
use Rattle.mp_msg.specs.States.{BinContent, IsStateBefore}
use Rattle.mp_host_laws.specs.declared.held.Held.{Held}
use Rattle.mp_host_laws.specs.Hosted.{Hosted, StandsInOrder, StateStands, has_wake_at, has_wake_in, is_of, waits_at, wakes_in}
use Rattle.mp_host_laws.specs.Moving.{IsPutIn, IsTakenOut, brought, last_first, not_waiting}
use Rattle.mp_host_laws.specs.HostOf.{IsHostOf}
use Rattle.mp_host_laws.specs.Laws.{ComingAreTold, LeavingAreTold}
use Rattle.mp_host_laws.proofs.Coming.{packet_held}
use Rattle.mp_host_laws.proofs.Leaving.{bin_left, one_was_here, other_was_here}
use Rattle.mp_host_laws.proofs.LastFirst.{still_in}
use Rattle.mp_host_laws.proofs.Lists.{All-each, passes, passing}
use Rattle.mp_host_laws.proofs.Parts.{one_or_other}
use Rattle.mp_host_laws.proofs.Waiting.{in_wake, waits_is_pending, wake_in}
use Rattle.mp_host_laws.proofs.Holding.{by_parts}

-- Of two hosts with the same records one has one state more
module _ {Cell : Type 0} (one : Held Cell) (less more : Hosted Cell) (records : more.records ≡ less.records) (here : Contains more.held one)
    (held : (s : Held Cell) → Contains more.held s → (one ≡ s) ⊎ Contains less.held s) (u k : ℕ) where
  -- a group that waits where it is waits without it, or by a wake of it
  why_waits : waits_at more u k ≡ true → (waits_at less u k ≡ true) ⊎ Contains one.state.wakes (u, k)
  why_waits e =
      ⊎_elim
      (λ (f : list_any (is_of u k) more.records ≡ true). inl (or_left (list_any (is_of u k) less.records) (has_wake_at less u k) (subst (λ (rs : List Rec). list_any (is_of u k) rs ≡ true) records f)))
      (λ (f : has_wake_at more u k ≡ true).
      let r = passing (has_wake_in u k) more.held f in
      ⊎_elim
      (λ (same : one ≡ r.0). inr (subst (λ (s : Held Cell). Contains (wakes_in s) (u, k)) (sym same) (wake_in (wakes_in r.0) u k r.2)))
      (λ (i : Contains less.held r.0). inl (or_right (list_any (is_of u k) less.records) (has_wake_at less u k) (passes (has_wake_in u k) less.held r.0 i r.2)))
      (held r.0 r.1))
      (or_cases (list_any (is_of u k) more.records) (has_wake_at more u k) e)

  -- so the wakes of it that don't wait without it are the groups that wait by it alone
  one_told : (Contains (not_waiting less one.state) (u, k) ↔ ((waits_at more u k ≡ true) × (waits_at less u k ≡ false)))
  one_told = (
    (λ i.
        let r = Contains-filter idle one.state.wakes (u, k) i in
        let passed = passes (has_wake_in u k) more.held one here (in_wake (wakes_in one) u k r.0) in
        (or_right (list_any (is_of u k) more.records) (has_wake_at more u k) passed, not-true (waits_at less u k) r.1)),
    (λ a.
        filter-Contains idle one.state.wakes (u, k)
        (⊎_elim
        (λ (e : waits_at less u k ≡ true). absurd (both_ways (waits_at less u k) a.1 e))
        (λ (i : Contains one.state.wakes (u, k)). i)
        (why_waits a.0))
        (not_from_false (waits_at less u k) a.1)),
  )
    where
      idle : ℕ × ℕ → Bool
      idle w = not (waits_at less w.0 w.1)

module _ {Cell : Type 0} (q : QueryFacts Cell) (job : JobFacts) (sound : OutlineIsSound (outline_of q job)) where
  -- a host that holds what a log says tells by it whether a group waits
  told_by : (log : Log) (j w : ℕ) (h : Hosted Cell) → j < job.shape.stages → h.stage ≡ j → h.worker ≡ w → IsHostOf q job log h → LogIsLegal (outline_of q job) w log → StandsInOrder q job h → (u k : ℕ) → waits_at h u k ≡ is_pending (outline_of q job) w log (Group j u k)
  told_by log j w h inside a b host good standing u k =
      waits_is_pending q job sound log h (subst (λ (n : ℕ). n < job.shape.stages) (sym a) inside) host (subst (λ (n : ℕ). LogIsLegal (outline_of q job) n log) (sym b) good) standing u k
      ∙ ap (λ (n : ℕ). is_pending (outline_of q job) h.worker log (Group n u k)) a
      ∙ ap (λ (n : ℕ). is_pending (outline_of q job) n log (Group j u k)) b

  -- what a wake tells at two hosts it tells by their logs
  by_logs : (w : ℕ) (less more : Log) (old new : Hosted Cell) (one : BinContent Cell) (j u k : ℕ) → waits_at old u k ≡ is_pending (outline_of q job) w more (Group j u k) → waits_at new u k ≡ is_pending (outline_of q job) w less (Group j u k)
      → (Contains (not_waiting new one) (u, k) ↔ ((waits_at old u k ≡ true) × (waits_at new u k ≡ false)))
      → (Contains (not_waiting new one) (u, k) ↔ ((is_pending (outline_of q job) w more (Group j u k) ≡ true) × (is_pending (outline_of q job) w less (Group j u k) ≡ false)))
  by_logs w less more old new one j u k a b told = (
    (λ i. let r = told.0 i in (sym a ∙ r.0, sym b ∙ r.1)),
    (λ r. told.1 (a ∙ r.0, b ∙ r.1)),
  )

  -- a host that stands in order does so with some of its states

  stands_without : (b t : ℕ) (one : Held Cell) (old new : Hosted Cell) (taken : IsTakenOut b t one old new) → ((s : Held Cell) → Contains (taken.front ++ last_first taken.rest) s → Contains old.held s) → StandsInOrder q job old → StandsInOrder q job new
  stands_without b t one old new taken there standing =
      by_parts (StandsInOrder q job) new old.stage old.worker old.records (taken.front ++ last_first taken.rest) taken.stage taken.worker taken.records taken.is
      (record {
        content = standing.content;
        records = standing.records;
        states = All-each (StateStands q job old.stage) (taken.front ++ last_first taken.rest) (λ s i. All-contains (StateStands q job old.stage) old.held s standing.states (there s i));
      })

  -- and with one that a packet brings
  stands_with : (b t : ℕ) (s : BinContent Cell) (old new : Hosted Cell) → b < job.shape.bins → IsStateBefore q job old.stage b t s → IsPutIn (brought b t s) old new → StandsInOrder q job old → StandsInOrder q job new
  stands_with b t s old new inside before put standing =
      by_parts (StandsInOrder q job) new old.stage old.worker old.records (old.held ++ brought b t s ∷ []) put.stage put.worker put.records put.held
      (record {
        content = standing.content;
        records = standing.records;
        states = All-push (StateStands q job old.stage) old.held (brought b t s) standing.states (record { bin = inside; order = before.order; own = before.own });
      })

  pub leaving_are_told : LeavingAreTold q job
  leaving_are_told log b t one old new u k standing host good below may taken =
      let without = bin_left q job sound log old b t host good may one new taken in
      let there = other_was_here q job sound log old b t host good may one new taken in
      let standing_new = stands_without b t one old new taken there standing in
      by_logs old.worker (with_sent log (Packet old.stage b t)) log old new one.state old.stage u k
      (told_by log old.stage old.worker old below refl refl host good standing u k)
      (told_by (with_sent log (Packet old.stage b t)) old.stage old.worker new below taken.stage taken.worker without may.legal standing_new u k)
      (one_told one new old (sym taken.records) (one_was_here q job sound log old b t host good may one new taken)
      (λ s i.
      ⊎_elim
      (λ (e : one ≡ s). inl e)
      (λ (r : Contains (taken.front ++ last_first taken.rest) s). inr (subst (λ (hs : List (Held Cell)). Contains hs s) (sym taken.is) r))
      (one_or_other one taken.front (last_first taken.rest) s (still_in taken.front one taken.rest old.held taken.was s i)))
      u k)

  pub coming_are_told : ComingAreTold q job
  coming_are_told log b t s old new u k standing host good below comes untaken before put =
      let one = brought b t s in
      let came = with_took log (Packet old.stage b t) in
      let with_it = packet_held q job log old b t s host good comes untaken before new put in
      let inside = (move_in_shape (outline_of q job) sound old.stage b t comes.0).1 in
      let standing_new = stands_with b t s old new inside before put standing in
      let good_new = took_keeps (outline_of q job) old.worker log good (Packet old.stage b t) untaken comes in
      by_logs old.worker log came new old s old.stage u k
      (told_by came old.stage old.worker new below put.stage put.worker with_it good_new standing_new u k)
      (told_by log old.stage old.worker old below refl refl host good standing u k)
      (one_told one old new put.records (subst (λ (hs : List (Held Cell)). Contains hs one) (sym put.held) (Contains-push old.held one))
      (λ r i.
      ⊎_elim
      (λ (k : Contains old.held r). inr k)
      (λ (e : one ≡ r). inl e)
      (Contains-push_cases old.held one r (subst (λ (hs : List (Held Cell)). Contains hs r) put.held i)))
      u k)
