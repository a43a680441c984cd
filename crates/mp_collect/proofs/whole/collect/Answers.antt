use Rattle.mp_model.specs.Tables.{table_of}
use Rattle.mp_outline.proofs.Soundness.{outline_is_sound}
use Rattle.mp_job.proofs.Legality.{begins_unwoken}
use Rattle.mp_collect.proofs.Fitting.{fits}
use Rattle.mp_collect.proofs.Left.{collected}
use Rattle.mp_collect.proofs.whole.collect.Goals as goal

pub returns-clause-left : goal.returns-clause-left
returns-clause-left g c =
    let job = g.J.Naming.job in
    let q = table_of g.Q.Query.facts job in
    let laws = g.met.Q.Query g.world.𝓛 g.world.𝓜 g.world.𝓡 ((λ s x. x), (λ x. x), (λ x. x), λ x. x) in
    let sound = outline_is_sound q (laws.has_stages job.values) (laws.posts_are_later job.values) (laws.later_stages_post_nothing job.values) job c.requires.legal in
    let found = c.in_ok-cells in
    (collected q job c.requires.legal.stages (laws.later_stages_post_nothing job.values) (begins_unwoken q job c.requires.legal.table c.requires.fresh) sound c.args.time c.requires.stops (λ own. own.items) c.args.states.items c.requires.states
    found.cells.items c.put_cells_in_order.new.cells.items found.ensures.cells c.put_cells_in_order.ensures.same c.put_cells_in_order.ensures.order
    found.wakes.items c.put_wakes_in_order.new.wakes.items found.ensures.wakes c.put_wakes_in_order.ensures.same c.put_wakes_in_order.ensures.order).0

pub returns-clause-order : goal.returns-clause-order
returns-clause-order g c =
    let job = g.J.Naming.job in
    let q = table_of g.Q.Query.facts job in
    let laws = g.met.Q.Query g.world.𝓛 g.world.𝓜 g.world.𝓡 ((λ s x. x), (λ x. x), (λ x. x), λ x. x) in
    let sound = outline_is_sound q (laws.has_stages job.values) (laws.posts_are_later job.values) (laws.later_stages_post_nothing job.values) job c.requires.legal in
    let found = c.in_ok-cells in
    (collected q job c.requires.legal.stages (laws.later_stages_post_nothing job.values) (begins_unwoken q job c.requires.legal.table c.requires.fresh) sound c.args.time c.requires.stops (λ own. own.items) c.args.states.items c.requires.states
    found.cells.items c.put_cells_in_order.new.cells.items found.ensures.cells c.put_cells_in_order.ensures.same c.put_cells_in_order.ensures.order
    found.wakes.items c.put_wakes_in_order.new.wakes.items found.ensures.wakes c.put_wakes_in_order.ensures.same c.put_wakes_in_order.ensures.order).1

pub returns-clause-fits : goal.returns-clause-fits
returns-clause-fits g c = λ plain.
    let job = g.J.Naming.job in
    let q = table_of g.Q.Query.facts job in
    let laws = g.met.Q.Query g.world.𝓛 g.world.𝓜 g.world.𝓡 ((λ s x. x), (λ x. x), (λ x. x), λ x. x) in
    let saved = g.met.Q.Saved g.world.𝓛 g.world.𝓜 g.world.𝓡 ((λ s x. x), (λ x. x), (λ x. x), λ x. x) in
    let sound = outline_is_sound q (laws.has_stages job.values) (laws.posts_are_later job.values) (laws.later_stages_post_nothing job.values) job c.requires.legal in
    let found = c.in_ok-cells in
    let all = collected q job c.requires.legal.stages (laws.later_stages_post_nothing job.values) (begins_unwoken q job c.requires.legal.table c.requires.fresh) sound c.args.time c.requires.stops (λ own. own.items) c.args.states.items c.requires.states
    found.cells.items c.put_cells_in_order.new.cells.items found.ensures.cells c.put_cells_in_order.ensures.same c.put_cells_in_order.ensures.order
    found.wakes.items c.put_wakes_in_order.new.wakes.items found.ensures.wakes c.put_wakes_in_order.ensures.same c.put_wakes_in_order.ensures.order in
    fits g.Q.Saved.NUMBER g.Q.Query.facts job (laws.begins_fresh job.values) (laws.posts_are_later job.values) (laws.later_stages_post_nothing job.values) (saved.leaves_what_may_be_saved job.values) c.requires.legal.events c.requires.fresh
    (record { time = c.args.time; cells = c.put_cells_in_order.new.cells.items; wakes = c.put_wakes_in_order.new.wakes.items }) c.requires.stops all.0 all.1 g.Q.Query.text_of c.requires.legal.stop plain
