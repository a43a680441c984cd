use Rattle.std.proofs.Common.{nat_lt, of_calls, rules}
use Rattle.std.proofs.lemmas.Fn.{always_returns_same}
use Rattle.std.proofs.lemmas.List.Sorted.{IsPartitionedBy-ltb}
use Rattle.mp_names.specs.declared.names.Name.TheVariants.{Ctrl}
use Rattle.mp_chart.specs.declared.entry.Entry.{Entry}
use Rattle.mp_step_lists.proofs.Sorting.{last_before, none_before, time_of_entry}
use Rattle.mp_step_lists.proofs.controls.latest_before.Goals as goal

pub returns-in-Some : goal.returns-in-Some
returns-in-Some c =
    let es = c.args.entries.now in
    let t = c.args.time in
    let none : Entry = record { name = Ctrl 0 0; time = 0; receiver = 0 } in
    let point = c.partition_point-below.ensures.partitioned (λ (e : Entry). nat_lt e.time t) (always_returns_same _ _ _ (λ a r f k. search (rules, of_calls))) (IsPartitionedBy-ltb time_of_entry es t c.requires) in
    last_before es t c.partition_point-below.result c.requires c.partition_point-below.ensures.bound point c.in-Some.last none c.in-Some.ensures.0 c.in-Some.ensures.1

pub returns-in-None : goal.returns-in-None
returns-in-None c =
    let es = c.args.entries.now in
    let t = c.args.time in
    let point = c.partition_point-below.ensures.partitioned (λ (e : Entry). nat_lt e.time t) (always_returns_same _ _ _ (λ a r f k. search (rules, of_calls))) (IsPartitionedBy-ltb time_of_entry es t c.requires) in
    none_before es t c.partition_point-below.result c.requires c.partition_point-below.ensures.bound point c.in-None.ensures
