use Rattle.mp_names.proofs.Listed.{owed_once, owed_is, owed_In, owed_by_is, owed_by_In, owed_to_is, owed_to_In, groups_ascend, group_cause, cause_group, control_times_ascend, control_time_has, control_time_In, answer_times_ascend, answer_time_has, answer_time_In}
use Rattle.mp_names.proofs.laws.work_is_listed.Goals as goal

pub returns-clause-owed : goal.returns-clause-owed
returns-clause-owed c = λ o ok. (owed_once o ok, (λ x. (owed_is o ok x, owed_In o x)), (λ w x. (owed_by_is o ok w x, owed_by_In o w x)), (λ w x. (owed_to_is o ok w x, owed_to_In o w x)))

pub returns-clause-groups : goal.returns-clause-groups
returns-clause-groups c = λ o ok j. (groups_ascend o j, (λ t k. (group_cause o ok j t k, cause_group o j t k)))

pub returns-clause-control_times : goal.returns-clause-control_times
returns-clause-control_times c = λ o j. (control_times_ascend o j, (λ t. (control_time_has o j t, control_time_In o j t)))

pub returns-clause-answer_times : goal.returns-clause-answer_times
returns-clause-answer_times c = λ o ok. (answer_times_ascend o, (λ t. (answer_time_has o ok t, (λ r. answer_time_In o t r.0 r.1))))
