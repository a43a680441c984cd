use Rattle.std.proofs.Common.{◌∙◌}
use Rattle.std.proofs.lemmas.List.{length-map}
use Rattle.mp_host_places.proofs.Spanned.{woken_there}
use Rattle.mp_host_places.proofs.states.has_wake.Goals as goal

pub returns : goal.returns
returns g c =
    let part = c.among-part.result in
    let its = c.among-part.ensures.same c.args.bin _ (length-map c.args.held.now _) c.requires in
    c.any_has_wake.ensures ∙ woken_there c.args.bin c.args.held.now part c.among-part.ensures.from its c.args.time c.args.key
