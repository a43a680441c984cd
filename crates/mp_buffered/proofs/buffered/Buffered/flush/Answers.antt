use Rattle.std.proofs.Common.{◌≡◌, ◌∙◌, [], arith, drop, refl}
use Rattle.std.proofs.lemmas.List.{drop_all, take_rest}
use Rattle.mp_buffered.proofs.Handing.{more_handed, none_handed, rest_waits}
use Rattle.mp_buffered.proofs.buffered.Buffered.flush.Goals as goal

pub loop-self-init : goal.loop-self-init
loop-self-init g c = record {
  from = omega arith;
  bytes = refl;
  gave = none_handed _ c.args.self.now.handed _;
  same_reference = refl;
  frame = refl;
  no_fault = refl;
}

pub returns-in_err-self-clause-same_written : goal.returns-in_err-self-clause-same_written
returns-in_err-self-clause-same_written g c =
    let i = c.loop-self.invariant in
    rw (c.in_err-self.ensures.unchanged, i.bytes, i.gave) (rest_waits _ _ _ _ i.from)

pub loop-self-preserved : goal.loop-self-preserved
loop-self-preserved g c =
    let i = c.loop-self.invariant in
    let grew = rw (c.deref.ensures.value, take_rest, i.bytes, i.gave) at c.in_ok-self.ensures.grew in
    record {
      from = omega (arith, i.from);
      bytes = i.bytes;
      gave = grew ∙ more_handed _ _ _ _ _ i.from;
      same_reference = i.same_reference;
      frame = c.in_ok-self.ensures.appends_only.same_frame ∙ i.frame;
      no_fault = c.in_ok-self.ensures.cause.served ∙ i.no_fault;
    }

pub returns-clause-same_written : goal.returns-clause-same_written
returns-clause-same_written g c =
    let i = c.loop-self.invariant in
    let none : drop c.loop-self.self.handed c.loop-self.self.gathered.now.items ≡ [] = drop_all c.loop-self.self.handed c.loop-self.self.gathered.now.items (omega (arith, c.loop-self.self.gathered.now.ok.0)) in
    rw (c.clear.ensures.items, ← none, i.bytes, i.gave) (rest_waits _ _ _ _ i.from)
