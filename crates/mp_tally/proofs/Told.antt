-- What a full log is told as.
use Rattle.std.proofs.Common.{◌≡◌, ◌∙◌, ℕ, List, subst, sym}
use Rattle.std.specs.Prelude.{◌↔◌}
use Rattle.mp_names.specs.declared.names.Name.{Name}
use Rattle.mp_names.specs.declared.names.Name.TheVariants.{Packet}
use Rattle.mp_names.specs.Logs.{Log, LogIsLegal}
use Rattle.mp_names.specs.Names.{Distinct, In}
use Rattle.mp_names.specs.Outlines.{IsMove, OutlineIsSound, owner_before}
use Rattle.mp_machine.specs.Promises.{LogIsFull}
use Rattle.mp_model.specs.Facts.{JobFacts, QueryFacts}
use Rattle.mp_outline.specs.JobOutline.{outline_of}
use Rattle.mp_tally.specs.declared.tally.Tally.{Tally}
use Rattle.mp_tally.specs.Tallies.{IsTallyOf, TellsLog}
use Rattle.mp_tally.proofs.Full.{applied_are_owned, sent_packets_are_distinct, sent_packets_are_moves}

module _ {Cell : Type 0} (q : QueryFacts Cell) (job : JobFacts) (ok : OutlineIsSound (outline_of q job)) where
  -- a full log is told as the job has it
  pub full_is_tallied : (w : ℕ) (log : Log) (t : Tally) → LogIsLegal (outline_of q job) w log → LogIsFull (outline_of q job) w log → TellsLog q job log t → IsTallyOf q job w t
  full_is_tallied w log t legal full tells =
      let o = outline_of q job in
      record {
        groups = tells.groups ∙ applied_are_owned o ok w log legal full;
        moves = λ j b u. subst (λ (xs : List Name). In (Packet j b u) xs ↔ (IsMove o j b u × (owner_before o j b u ≡ w))) (sym tells.moved) (sent_packets_are_moves o ok w log legal full j b u);
        once = subst Distinct (sym tells.moved) (sent_packets_are_distinct o w log legal);
        keys = tells.keys;
      }
