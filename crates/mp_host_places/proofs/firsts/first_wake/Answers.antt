use Rattle.std.proofs.Common.{◌∙◌, ap}
use Rattle.std.proofs.lemmas.List.{length-map}
use Rattle.mp_host_laws.specs.Hosted.{first_wake_of}
use Rattle.mp_host_places.proofs.Spanned.{all_there}
use Rattle.mp_host_places.proofs.firsts.first_wake.Goals as goal

pub returns : goal.returns
returns g c =
    let part = c.among-part.result in
    let its = c.among-part.ensures.same c.args.bin _ (length-map c.args.held.now _) c.requires in
    c.first_of_bin.ensures ∙ ap first_wake_of (all_there c.args.bin c.args.held.now part c.among-part.ensures.from its)
