-- The worked examples, computed.
use Rattle.std.proofs.Common.{refl}
use Rattle.mp_names.specs.Names.{ascending}
use Rattle.mp_names.specs.Outlines.{owner_before, packets_of, groups_of, control_times, answer_times, owed_names}
use Rattle.mp_machine.specs.Runs.{turn_of_machine, step_of_machine}
use Rattle.mp_machine.specs.Samples.{CountsCancelInARun, HandoffIsGated, RecordsTravelTogether, PacedMovesWait, StopsAreKept, OpeningWakeIsApplied}

pub counts_cancel : CountsCancelInARun
unfolding ascending owner_before packets_of groups_of control_times answer_times owed_names turn_of_machine step_of_machine
counts_cancel = record { turns = refl; on_its_way = refl; cancelled = refl; source = refl; frontier = refl; later_mail = refl; later_source = refl; done = refl }

pub handoff_is_gated : HandoffIsGated
unfolding ascending owner_before packets_of groups_of control_times answer_times owed_names turn_of_machine step_of_machine
handoff_is_gated = record { turns = refl; control_passed = refl; host_waits = refl; mail_passed = refl; state_waits = refl; host_moved_on = refl; packet_waits = refl; state_passed = refl }

pub records_travel_together : RecordsTravelTogether
unfolding ascending owner_before packets_of groups_of control_times answer_times owed_names turn_of_machine step_of_machine
records_travel_together = record { turns = refl; waiting = refl }

pub paced_moves_wait : PacedMovesWait
unfolding ascending owner_before packets_of groups_of control_times answer_times owed_names turn_of_machine step_of_machine
paced_moves_wait = record { turns = refl; unpaced = refl; by_time = refl; host_waits = refl; host_passed = refl }

pub stops_are_kept : StopsAreKept
unfolding ascending owner_before packets_of groups_of control_times answer_times owed_names turn_of_machine step_of_machine
stops_are_kept = record { turns = refl; host_waits = refl; answer_waits = refl; nothing_left = refl }

pub opening_wake_is_applied : OpeningWakeIsApplied
unfolding ascending owner_before packets_of groups_of control_times answer_times owed_names turn_of_machine step_of_machine
opening_wake_is_applied = record { turns = refl; host_at_first = refl; counted = refl; packet_waits = refl; sale_waits = refl; all_done = refl }
