use Rattle.mp_checkpoint_laws.specs.Files.{format_of}
use Rattle.mp_checkpoint_laws.proofs.Formats.{format_is_plain, texts_tell}
use Rattle.mp_checkpoint_laws.proofs.Telling.{files_tell}
use Rattle.mp_checkpoint_laws.proofs.laws.files_tell_checkpoints.Goals as goal

pub returns : goal.returns
returns g c = λ number vs low small.
    let laws = g.met.Q.Query g.world.𝓛 g.world.𝓜 g.world.𝓡 ((λ s x. x), (λ x. x), (λ x. x), λ x. x) in
    let saved = g.met.Q.Saved g.world.𝓛 g.world.𝓜 g.world.𝓡 ((λ s x. x), (λ x. x), (λ x. x), λ x. x) in
    let q = g.Q.Query.facts vs in
    files_tell (format_of number vs q g.Q.Query.text_of) (format_is_plain number vs q g.Q.Query.text_of low small (laws.has_stages vs) (saved.texts_are_plain vs)) (texts_tell number vs q g.Q.Query.text_of (laws.texts_tell_cells vs))
