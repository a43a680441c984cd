use Rattle.std.proofs.Common.{[], ◌∷◌}
use Rattle.std.proofs.lemmas.List.Elements.{All-append, All-cons, All-nil}
use Rattle.mp_handoff.specs.declared.sent.Sent.{Sent}
use Rattle.mp_handoff.specs.Keys.{SentHasKeys}
use Rattle.mp_handoff.proofs.Sending.{sent_on}
use Rattle.mp_outline.specs.JobOutline.{outline_of}
use Rattle.mp_handoff.proofs.movers.Movers.sent.Goals as goal
use Rattle.mp_model.specs.Tables.{table_of}

pub invariant_of-self : goal.invariant_of-self
invariant_of-self g c =
    let job = g.J.Naming.job in
    let P = SentHasKeys (table_of g.Q.Query.facts job) job c.self.inside.stage in
    let one : Sent = record { bin = c.args.moved.bin; time = c.args.moved.time; keys = c.args.keys } in
    let has_keys = rw (← c.self.view_is) at c.requires.keys in
    (c.self.invariant.0, c.self.invariant.1, rw c.push_reserved.ensures.items (All-append P c.self.inside.sent.items (one ∷ []) c.self.invariant.2 (All-cons P one [] has_keys (All-nil P))))

pub returns-clause-held : goal.returns-clause-held
returns-clause-held g c =
    let job = g.J.Naming.job in
    let o = outline_of (table_of g.Q.Query.facts job) job in
    rw (← c.self.view_is, c.push_reserved.ensures.items) (λ log notes seen i least. sent_on o log notes seen _ i c.args.moved.bin c.args.moved.time least c.args.keys _)
