use Rattle.std.proofs.Common.{◌∙◌, sym, subst}
use Rattle.std.proofs.lemmas.Bool.{false≢true}
use Rattle.mp_audit.specs.Lists.{IsAlone, list_of}
use Rattle.mp_audit.proofs.searching.is_free.Goals as goal

pub returns-then-is_posted : goal.returns-then-is_posted
returns-then-is_posted g c = λ world shows. ((λ h changed. absurd (changed ((c.is_posted.ensures world shows).0 c.if-is_posted.true))), (λ alone. c.if-is_posted.true))

pub returns-else-is_posted : goal.returns-else-is_posted
returns-else-is_posted g c = λ world shows.
    let left = list_of c.args.left.now in
    let same = c.version.ensures world shows in (
      (λ h changed. subst (IsAlone left c.args.worker) same (c.is_alone.ensures.0 h)),
      (λ alone. c.is_alone.ensures.1 (subst (IsAlone left c.args.worker) (sym same) (alone (λ e. false≢true (sym c.if-is_posted.false ∙ (c.is_posted.ensures world shows).1 e))))),
    )
