-- The values so far stand before those of the rules that are left.
use Rattle.std.proofs.Common.{◌≡◌, ◌++◌, length, drop}
use Rattle.mp_control.specs.Values.{values_by}
use Rattle.mp_control.proofs.ValuesSaid.{facts_of}
use Rattle.mp_control.proofs.values.ValueList.by.Given as goal

abbrev pub invariant-loop-place : goal.invariant-loop-place
invariant-loop-place l =
    (length l.values ≡ l.place)
    × (facts_of l.rule-items ≡ l.rules)
    × (l.values ++ values_by (drop l.place l.rules) (drop l.place l.said) ≡ values_by l.rules l.said)
