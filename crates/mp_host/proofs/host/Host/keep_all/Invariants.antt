-- The records so far are kept, in their order.
use Rattle.std.proofs.Common.{◌≡◌, ◌+◌, ◌≤◌, drop, map, reverse, take}
use Rattle.mp_names.specs.Logs.{Log, LogIsLegal}
use Rattle.mp_outline.specs.JobOutline.{name_of_record, outline_of}
use Rattle.mp_host_laws.specs.HostOf.{IsHostOf}
use Rattle.mp_host.specs.Receiving.{AreToCome, with_all_taken}
use Rattle.mp_host.proofs.host.Host.keep_all.Given as goal
use Rattle.mp_model.specs.Tables.{table_of}

abbrev pub invariant-loop-kept : goal.invariant-loop-kept
invariant-loop-kept g l =
    let job = g.J.Naming.job in
    let q = table_of g.Q.Query.facts job in
    let o = outline_of q job in
    let w = l.initial.self.worker in
    let j = l.initial.self.stage in
    let rs = reverse l.initial.recs.items in
    record {
      left : l.recs.items ≡ reverse (drop l._kept rs);
      stage : l.self.stage ≡ j;
      worker : l.self.worker ≡ w;
      room : l.initial.self.room ≤ l.self.room + l._kept;
      for_bins : l.self.room_for_bins ≡ l.initial.self.room_for_bins;
      held : (log : Log) → IsHostOf q job log l.initial.self → LogIsLegal o w log → AreToCome o log w (map (name_of_record j) rs)
          → IsHostOf q job (with_all_taken log (map (name_of_record j) (take l._kept rs))) l.self × LogIsLegal o w (with_all_taken log (map (name_of_record j) (take l._kept rs)));
    }
