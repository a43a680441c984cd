use Rattle.std.specs.List.{Contains}
use Rattle.mp_bins.proofs.Ranking.{fresh_then, one_for_one}
use Rattle.mp_bins.proofs.ranked.replace.Goals as goal

pub put_in-requires-clause-fresh : goal.put_in-requires-clause-fresh
put_in-requires-clause-fresh c = fresh_then c.args.old c.args.new (Contains c.args.changes.now.items) (Contains c.take_out.new.changes.items) c.requires.fresh c.take_out.ensures.others

pub returns-clause-replaced : goal.returns-clause-replaced
returns-clause-replaced c =
    one_for_one c.args.old c.args.new (Contains c.args.changes.now.items) (Contains c.take_out.new.changes.items) (Contains c.put_in.new.changes.items) c.take_out.ensures.others c.put_in.ensures.one_more
