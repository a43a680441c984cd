use Rattle.std.proofs.Common.{◌≡◌, ℕ, ◌∙◌, length, sym, ap}
use Rattle.mp_names.specs.declared.names.Name.{Name}
use Rattle.mp_machine.specs.Runs.{Did, Saw, turn_of_machine, after_turn, step_of_machine}
use Rattle.mp_machine.specs.Steps.{names_of}
use Rattle.mp_machine.proofs.Turns.{did_to, did_number, did_from, saw_to, saw_from, not_now_to, not_now_from}
use Rattle.mp_machine.proofs.steps.turns_tell_conditions.Goals as goal

pub returns-clause-did : goal.returns-clause-did
unfolding turn_of_machine
returns-clause-did c = λ o depth world w kind x n ok. ((λ e. (did_to o depth world w ok kind x n e, did_number o depth world w ok kind x n e)), (λ h. did_from o depth world w ok kind x h.0 ∙ ap (Did x) (sym h.1)))

pub returns-clause-saw : goal.returns-clause-saw
unfolding turn_of_machine
returns-clause-saw c = λ o depth world w kind version. (saw_to o depth world w kind version, (λ h. saw_from o depth world w kind h.0 ∙ ap Saw (sym h.1)))

pub returns-clause-not_now : goal.returns-clause-not_now
unfolding turn_of_machine
returns-clause-not_now c = λ o depth world w kind ok. (not_now_to o depth world w ok kind, (λ h. not_now_from o depth world w ok kind h.0 h.1))

did_same : (x y : Name) (m n : ℕ) → Did x m ≡ Did y n → x ≡ y
did_same x y m n e = cc

pub returns-clause-one_name : goal.returns-clause-one_name
returns-clause-one_name c = λ o depth world w kind x y ok h k. did_same x y (length (names_of o world w kind x)) (length (names_of o world w kind y)) (sym (did_from o depth world w ok kind x h) ∙ did_from o depth world w ok kind y k)

pub returns-clause-effect : goal.returns-clause-effect
unfolding step_of_machine
returns-clause-effect c = λ o depth world w kind.
    record {
      did = λ x n e. ap (after_turn o world w kind) e;
      saw = λ version e. ap (after_turn o world w kind) e;
      not_now = λ e. ap (after_turn o world w kind) e;
    }

pub returns-clause-made : goal.returns-clause-made
unfolding step_of_machine turn_of_machine
returns-clause-made c = λ o depth world w kind ok.
    record {
      name = λ x h. ap (after_turn o world w kind) (did_from o depth world w ok kind x h);
      exchange = λ h. ap (after_turn o world w kind) (saw_from o depth world w kind h);
      nothing = λ h k. ap (after_turn o world w kind) (not_now_from o depth world w ok kind h k);
    }
