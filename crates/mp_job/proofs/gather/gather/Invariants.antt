-- The events so far are in the shares; and among what is added, with what the other events will add, the same times stand as among
-- what all add. The posts that were added last are there.
use Rattle.std.proofs.Common.{◌≡◌, ◌++◌, drop, filter, length, map}
use Rattle.std.specs.List.{enumerate_from, filter_map, flat_map, range_with_len}
use Rattle.mp_model.specs.Folds.{times_in}
use Rattle.mp_model.specs.Stages.{input_records, record_of}
use Rattle.mp_job.specs.Parts.{table_in}
use Rattle.mp_shares.specs.Records.{is_taken_by}
use Rattle.mp_shares.specs.Times.{AllStandIn, HoldSame}
use Rattle.mp_job.proofs.gather.gather.Given as goal

abbrev pub invariant-loop-index : goal.invariant-loop-index
invariant-loop-index g l =
    let q = table_in g.Q.Query.facts g.Q.Query.text_of (g.Q.Query.values l.source.query) l.source.stop l.source.opening in
    let events = l.initial.events in
    let workers = length l.initial.shares in
    record {
      stay : l.events ≡ events;
      taken : l.shares ≡ map (λ w. filter (is_taken_by q events workers w) (range_with_len 0 l.index)) (range_with_len 0 workers);
      added : HoldSame (l.times.items ++ times_in q 0 (filter_map (λ p. record_of q p.0 p.1) (enumerate_from l.index (drop l.index events)))) (l.initial.times.items ++ times_in q 0 (input_records q events));
      posts : HoldSame (l.posted.times ++ flat_map (q.posts 0) (filter_map (λ p. record_of q p.0 p.1) (enumerate_from l.index (drop l.index events)))) (flat_map (q.posts 0) (input_records q events));
      posted : AllStandIn l.posted.last l.times.items;
    }
