use Rattle.std.proofs.Common.{◌<◌, ◌^◌, ◌∙◌, length, get_or, rules, arith}
use Rattle.std.proofs.lemmas.List.Sums.{sum_by_more}
use Rattle.mp_names.specs.declared.locations.Loc.TheVariants.{Ctl}
use Rattle.mp_chart.specs.declared.work.Work.{Work}
use Rattle.mp_chart.specs.Left.{part_at}
use Rattle.mp_chart.proofs.left.put_all.Goals as goal

pub put_on-requires-clause-few : goal.put_on-requires-clause-few
put_on-requires-clause-few c =
    let none : Work = record { loc = Ctl; time = 0; count = 0 } in
    let i = c.loop-work.work-index in
    let work = get_or c.args.all.now i none in
    let few = c.loop-work.invariant.few work.loc work.time in
    let short : i < 2 ^ 64 = search rules in
    omega arith

pub loop-work-preserved : goal.loop-work-preserved
loop-work-preserved c =
    let none : Work = record { loc = Ctl; time = 0; count = 0 } in
    let i = c.loop-work.work-index in
    let old = c.loop-work.invariant in
    let low : i < length c.args.all.now = c.loop-work-test.true in
    record {
      left = c.put_on.ensures.left;
      same = record { stages = c.put_on.ensures.same.stages ∙ old.same.stages; times = c.put_on.ensures.same.times ∙ old.same.times; low = c.put_on.ensures.same.low ∙ old.same.low };
      few = λ a t. let few = c.put_on.ensures.few a t in let before = old.few a t in omega arith;
      so_far = λ a t. let sum = c.put_on.ensures.work a t in let before = old.so_far a t in let more = sum_by_more (part_at a t) c.args.all.now i none low in omega arith;
    }
