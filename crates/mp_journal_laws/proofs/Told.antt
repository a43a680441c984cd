-- What kept steps tell of a full log.
use Rattle.std.proofs.Common.{◌≡◌, ℕ, Bool, List, filter, length, ap, ◌∙◌}
use Rattle.mp_names.specs.declared.names.Name.{Name}
use Rattle.mp_names.specs.declared.kinds.Kept.{Kept}
use Rattle.mp_names.specs.Names.{is_ctrl, is_packet, is_row}
use Rattle.mp_names.specs.Outlines.{Outline, OutlineIsSound, owed_by, owed_names}
use Rattle.mp_names.specs.Logs.{Log, LogIsLegal}
use Rattle.mp_names.proofs.Counting.{length_equal}
use Rattle.mp_names.proofs.Listed.{owed_by_In, owed_by_is, owed_once}
use Rattle.mp_names.proofs.Lists.{Distinct_filter, In_filter, filter_In}
use Rattle.mp_machine.specs.Promises.{LogIsFull}
use Rattle.mp_journal_laws.specs.Telling.{KeptTellFullLog, KeptTellLog}

module _ (o : Outline) (ok : OutlineIsSound o) (w : ℕ) (log : Log) (legal : LogIsLegal o w log) (full : LogIsFull o w log) where
  -- of the names that the worker owes, those that pass a test are as many as it sent
  all_sent : (p : Name → Bool) → length (filter p log.sent) ≡ length (filter p (owed_by o w))
  all_sent p =
      length_equal (filter p log.sent) (filter p (owed_by o w)) (Distinct_filter p log.sent legal.sent_once) (Distinct_filter p (owed_by o w) (Distinct_filter _ (owed_names o) (owed_once o ok)))
      (λ x i. let here = In_filter p x log.sent i in filter_In p x (owed_by o w) (owed_by_In o w x (legal.sent_owed x here.0)) here.1)
      (λ x i. let here = In_filter p x (owed_by o w) i in filter_In p x log.sent (full.sent x (owed_by_is o ok w x here.0)) here.1)

  pub full_is_told : (kept : List Kept) → KeptTellLog log kept → KeptTellFullLog o w kept
  full_is_told kept tell = record {
    ingested = tell.ingested ∙ ap length full.ingested;
    controls = tell.controls ∙ all_sent is_ctrl;
    packets = λ j. tell.packets j ∙ all_sent (is_packet j);
    settled = λ j l. tell.settled j ∙ ap length (full.settled j l);
    applied = λ j l. tell.applied j ∙ ap length (full.applied j l);
    rows = tell.rows ∙ all_sent is_row;
    written = λ e. tell.written ∙ ap length (full.written e);
    versions = tell.versions;
  }
