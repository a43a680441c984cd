-- The lists decide the steps.
use Rattle.std.proofs.Common.{◌≡◌, ◌↔◌, ℕ, true}
use Rattle.std.proofs.lemmas.Bool.{false≢true}
use Rattle.mp_names.specs.declared.names.Name.{Name}
use Rattle.mp_names.specs.declared.kinds.Kind.{Kind}
use Rattle.mp_names.specs.declared.kinds.Kind.TheVariants.{Ingest, SendControl, Route, Receive, Extract, Settle, Apply, SendRow, Write, Exchange}
use Rattle.mp_names.specs.Outlines.{Outline}
use Rattle.mp_machine.specs.Worlds.{World}
use Rattle.mp_machine.specs.Steps.{KindFits, MailAllows, CanStep}
use Rattle.mp_player_laws.specs.Numbers.{numbers_of, StandsAt}
use Rattle.mp_player_laws.specs.Counted.{StepsAreCounted}
use Rattle.mp_chart.specs.Lists.{to_do, goes_along, number_at, HasSeenEnough}

module _ (o : Outline) (depth : ℕ) (world : World) (w : ℕ) (counted : StepsAreCounted o depth world w) where
  abbrev pub IsDecided : Kind → Name → Type 0
  IsDecided kind x =
      let worker = world.worker w in
      CanStep o depth world w kind x ↔ (KindFits o kind × StandsAt (to_do o w kind) (number_at (numbers_of worker.log) kind) x × HasSeenEnough o w worker kind x × MailAllows o depth world.mailbox w kind x)

  pub is_decided : (kind : Kind) (x : Name) → goes_along kind ≡ true → IsDecided kind x
  is_decided Ingest x g = ((λ can. (tt, (counted.ingest x).0 can, tt, tt)), (λ h. (counted.ingest x).1 h.1))
  is_decided SendControl x g = ((λ can. let r = (counted.send_control x).0 can in (tt, r.0, r.1, r.2)), (λ h. (counted.send_control x).1 (h.1, h.2, h.3)))
  is_decided (Extract j) x g = ((λ can. let r = (counted.extract j x).0 can in (r.0, r.1, (r.2, r.3), r.4)), (λ h. (counted.extract j x).1 (h.0, h.1, h.2.0, h.2.1, h.3)))
  is_decided (Settle j) x g = ((λ can. let r = (counted.settle j x).0 can in (r.0, r.1, (r.2, r.3), tt)), (λ h. (counted.settle j x).1 (h.0, h.1, h.2.0, h.2.1)))
  is_decided (Apply j) x g = ((λ can. let r = (counted.apply j x).0 can in (r.0, r.1, (r.2, r.3), tt)), (λ h. (counted.apply j x).1 (h.0, h.1, h.2.0, h.2.1)))
  is_decided SendRow x g = ((λ can. let r = (counted.send_row x).0 can in (tt, r.0, r.1, r.2)), (λ h. (counted.send_row x).1 (h.1, h.2, h.3)))
  is_decided Write x g = ((λ can. let r = (counted.write x).0 can in (tt, r.1, (r.0, r.2), tt)), (λ h. (counted.write x).1 (h.2.0, h.1, h.2.1)))
  is_decided (Route j) x g = absurd (false≢true g)
  is_decided (Receive v) x g = absurd (false≢true g)
  is_decided Exchange x g = absurd (false≢true g)
