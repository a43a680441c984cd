use Rattle.mp_checkpoint_laws.specs.Files.{format_of}
use Rattle.mp_checkpoint_laws.proofs.Formats.{format_is_plain}
use Rattle.mp_checkpoint_laws.proofs.Prefixes.{cut_files}
use Rattle.mp_checkpoint_laws.proofs.laws.cut_files_are_refused.Goals as goal

pub returns : goal.returns
returns g c = λ number vs low small.
    let laws = g.met.Q.Query g.world.𝓛 g.world.𝓜 g.world.𝓡 ((λ s x. x), (λ x. x), (λ x. x), λ x. x) in
    let saved = g.met.Q.Saved g.world.𝓛 g.world.𝓜 g.world.𝓡 ((λ s x. x), (λ x. x), (λ x. x), λ x. x) in
    let q = g.Q.Query.facts vs in
    cut_files (format_of number vs q g.Q.Query.text_of) (format_is_plain number vs q g.Q.Query.text_of low small (laws.has_stages vs) (saved.texts_are_plain vs))
