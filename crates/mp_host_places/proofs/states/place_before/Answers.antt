use Rattle.std.proofs.Common.{◌+◌, ◌∙◌, ap}
use Rattle.std.specs.Option.{option_map}
use Rattle.std.proofs.lemmas.List.{length-map}
use Rattle.mp_host_places.proofs.Spanned.{first_there}
use Rattle.mp_host_places.proofs.states.place_before.Goals as goal

pub returns-in-Some : goal.returns-in-Some
returns-in-Some g c =
    let part = c.among-part.result in
    let its = c.among-part.ensures.same c.args.bin _ (length-map c.args.held.now _) c.requires in
    ap (option_map (λ k. part.from + k)) c.in-Some.ensures ∙ first_there c.args.bin c.args.held.now part c.among-part.ensures.from its c.args.time

pub returns-in-None : goal.returns-in-None
returns-in-None g c =
    let part = c.among-part.result in
    let its = c.among-part.ensures.same c.args.bin _ (length-map c.args.held.now _) c.requires in
    ap (option_map (λ k. part.from + k)) c.in-None.ensures ∙ first_there c.args.bin c.args.held.now part c.among-part.ensures.from its c.args.time
