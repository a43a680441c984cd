use Rattle.std.proofs.lemmas.Bool.{both_ways}
use Rattle.mp_host_states.proofs.Begun.{fresh_left_out, none_kept, other_kept}
use Rattle.mp_host_states.proofs.opening.kept_of.Goals as goal

pub loop-key-init : goal.loop-key-init
loop-key-init g c = none_kept _ c.new-kept.result c.new-kept.ensures.empty

pub loop-key-preserved : goal.loop-key-preserved
loop-key-preserved g c = fresh_left_out _ c.loop-key.yielded c.in-Some.key c.in-Some.cell c.loop-key.kept c.loop-key.invariant (c.is_fresh.ensures.0 c.if-not-is_fresh.false)

pub loop-key-preserved-in_ok-insert : goal.loop-key-preserved-in_ok-insert
loop-key-preserved-in_ok-insert g c =
    other_kept _ c.loop-key.yielded c.in-Some.key c.in-Some.cell c.loop-key.kept c.loop-key.invariant (λ e. both_ways c.is_fresh.result c.if-not-is_fresh.true (c.is_fresh.ensures.1 e)) c.insert.new.self c.in_ok-insert.ensures.updates.0

pub loop-key-preserved-in_ok-insert-2 : goal.loop-key-preserved-in_ok-insert-2
loop-key-preserved-in_ok-insert-2 g c =
    other_kept _ c.loop-key.yielded c.in-Some.key c.in-Some.cell c.loop-key.kept c.loop-key.invariant (λ e. both_ways c.is_fresh.result c.if-not-is_fresh.true (c.is_fresh.ensures.1 e)) c.insert.new.self c.in_ok-insert.ensures.updates.0
