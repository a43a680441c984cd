use Rattle.std.proofs.Common.{arith, subst, sym}
use Rattle.std.proofs.lemmas.Option.{IfSome_then}
use Rattle.mp_names.specs.declared.kinds.Kind.TheVariants.{Apply}
use Rattle.mp_host_laws.specs.Hosted.{Hosted}
use Rattle.mp_host.specs.Ready.{IsReadyHere}
use Rattle.mp_worker_invariant.proofs.Standing.{host_at, informed, knows}
use Rattle.mp_worker_apply.proofs.Applied.{enough_here, none_to_apply}
use Rattle.mp_worker_parts.proofs.Keeping.{same_host_there, can_do, on_none}
use Rattle.mp_worker_apply.proofs.applying.ready_group.Goals as goal
use Rattle.mp_model.specs.Tables.{table_of}

pub ready_group-requires-clause-informed : goal.ready_group-requires-clause-informed
ready_group-requires-clause-informed g c κs within =
    let kept = c.parts.invariant in
    let at = host_at kept.parts c.args.stage c.requires.stage c.index-host.result.now c.index-host.ensures in
    (c.parts.inside.log.log, informed kept.sound kept.parts c.args.stage _ at, knows kept.sound kept.parts c.args.stage c.requires.stage _ at)

pub returns : goal.returns
returns g c =
    let i = c.parts.inside in
    let kept = c.parts.invariant in
    let at = host_at kept.parts c.args.stage c.requires.stage c.index-host.result.now c.index-host.ensures in
    let inside = rw (← kept.parts.all_hosts) at c.requires.stage in
    rw (← c.parts.view_is)
    (record {
      none = on_none c.ready_group.result c.ready_group.ensures.none_by_log
          (λ none x can.
          none_to_apply kept.sound kept.parts c.args.stage c.requires.stage _ c.index-host.ensures
          (none i.log.log (informed kept.sound kept.parts c.args.stage _ at) (knows kept.sound kept.parts c.args.stage c.requires.stage _ at))
          x (can_do kept (Apply c.args.stage) x can));
      ready = IfSome_then c.ready_group.result c.ready_group.ensures.some
          (λ group ready h at.
          subst (λ (x : Hosted g.row.Q-Cell.Denot). IsReadyHere g.J.Naming.job i.seen i.owners x group.time group.key)
          (sym (same_host_there i.hosts.items c.args.stage c.index-host.result.now h inside c.index-host.ensures at)) ready);
      enough = IfSome_then c.ready_group.result c.ready_group.ensures.enough
          (λ group enough whole.
          enough_here (table_of g.Q.Query.facts g.J.Naming.job) g.J.Naming.job c.args.stage group.time group.key group.most i.hosts.items inside c.index-host.result.now c.index-host.ensures
          (enough (omega arith)));
    })
