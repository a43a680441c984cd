-- What the front begins has it as its first bytes.
use Rattle.std.proofs.Common.{◌≡◌, ℕ, List, true, not, length, take, sym, ap, ◌∙◌}
use Rattle.std.specs.Str.{bytes_eq}
use Rattle.std.proofs.lemmas.Bool.{false≢true}
use Rattle.std.proofs.lemmas.Slice.Eq.{bytes_eq-Decides}
use Rattle.mp_checkpoint.proofs.Fronts.{taken}
use Rattle.mp_checkpoint.proofs.matching.behind.Goals as goal

pub returns-then-ne : goal.returns-then-ne
returns-then-ne c = λ rest e.
    let front = c.args.front.now in
    let same : c.split_at.result.0.now ≡ front = c.split_at.ensures.front ∙ ap (λ (l : List ℕ). take (length front) l) e ∙ taken front rest in
    let equal : bytes_eq c.split_at.result.0.now front ≡ true = (bytes_eq-Decides c.split_at.result.0.now front).1 same in
    false≢true (sym (ap not equal) ∙ sym c.ne.ensures ∙ c.if-ne.true)
