use Rattle.std.proofs.Common.{◌≡◌, true, false, refl}
use Rattle.mp_names.specs.declared.kinds.Kind.TheVariants.{Route, Receive}
use Rattle.mp_audit_player.proofs.Made.{plays, leaves, plays_exchange, leaves_exchange}
use Rattle.mp_audit_player.proofs.playing.PlayerPlay.make.Goals as goal

pub returns-in-Route-clause-made : goal.returns-in-Route-clause-made
returns-in-Route-clause-made g c = λ done. plays (g.C.Chart.outline c.args.self.now.chart) c.args.self.now.depth c.args.worker c.args.step c.args.self.now.state c.route.new.state (Route c.in-Route.stage) c.in-Route.is (c.route.ensures.made done)

pub returns-in-Route-clause-refused : goal.returns-in-Route-clause-refused
returns-in-Route-clause-refused g c = λ done. leaves (g.C.Chart.outline c.args.self.now.chart) c.args.self.now.depth c.args.worker c.args.step c.args.self.now.state c.route.new.state (Route c.in-Route.stage) c.in-Route.is (λ e. cc) (c.route.ensures.refused done) (c.route.ensures.same done)

pub returns-in-Receive-clause-made : goal.returns-in-Receive-clause-made
returns-in-Receive-clause-made g c = λ done. plays (g.C.Chart.outline c.args.self.now.chart) c.args.self.now.depth c.args.worker c.args.step c.args.self.now.state c.receive.new.state (Receive c.in-Receive.from) c.in-Receive.is (c.receive.ensures.made done)

pub returns-in-Receive-clause-refused : goal.returns-in-Receive-clause-refused
returns-in-Receive-clause-refused g c = λ done. leaves (g.C.Chart.outline c.args.self.now.chart) c.args.self.now.depth c.args.worker c.args.step c.args.self.now.state c.receive.new.state (Receive c.in-Receive.from) c.in-Receive.is (λ e. cc) (c.receive.ensures.refused done) (c.receive.ensures.same done)

pub returns-in-Exchange-clause-made : goal.returns-in-Exchange-clause-made
returns-in-Exchange-clause-made g c = λ done.
    let e : c.exchange.result ≡ true = cc in
    plays_exchange (g.C.Chart.outline c.args.self.now.chart) c.args.self.now.depth c.args.worker c.args.step c.args.self.now.state c.exchange.new.state c.in-Exchange.is (λ world shows. c.exchange.ensures.made e c.args.self.now.depth world shows)

pub returns-in-Exchange-clause-refused : goal.returns-in-Exchange-clause-refused
returns-in-Exchange-clause-refused g c = λ done.
    let e : c.exchange.result ≡ false = cc in
    leaves_exchange (g.C.Chart.outline c.args.self.now.chart) c.args.self.now.depth c.args.worker c.args.step c.args.self.now.state c.exchange.new.state c.in-Exchange.is (λ world shows. c.exchange.ensures.refused e c.args.self.now.depth world shows) (c.exchange.ensures.same e)

pub returns-in_default-clause-made : goal.returns-in_default-clause-made
returns-in_default-clause-made g c = λ done. plays (g.C.Chart.outline c.args.self.now.chart) c.args.self.now.depth c.args.worker c.args.step c.args.self.now.state c.go_along.new.state c.args.step.kind refl (c.go_along.ensures.made done)

pub returns-in_default-clause-refused : goal.returns-in_default-clause-refused
returns-in_default-clause-refused g c = λ done. leaves (g.C.Chart.outline c.args.self.now.chart) c.args.self.now.depth c.args.worker c.args.step c.args.self.now.state c.go_along.new.state c.args.step.kind refl (λ e. c.in_default.not-Exchange e) (c.go_along.ensures.refused done) (c.go_along.ensures.same done)
