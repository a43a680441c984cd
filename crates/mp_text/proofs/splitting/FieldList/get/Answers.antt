-- Past the ends that are held the line has no field among the first eight.
use Rattle.std.proofs.Common.{◌≡◌, length, ap, arith}
use Rattle.std.proofs.lemmas.Bool.{false≢true}
use Rattle.mp_text.specs.Fields.{fields_of}
use Rattle.mp_text.proofs.FieldEnds.{held-past}
use Rattle.mp_text.specs.declared.splitting.TheConstants.{FIELDS_HELD}
use Rattle.mp_text.proofs.splitting.FieldList.get.Goals as goal

pub returns-else-index-len-clause-there : goal.returns-else-index-len-clause-there
returns-else-index-len-clause-there c = (
  λ there. absurd (false≢true there),
  λ (held, within).
      let past = held-past FIELDS_HELD c.self.inside.line.now c.self.inside.ends c.args.index c.self.invariant.1 (omega (arith, c.len.ensures)) held in
      let same : length (fields_of c.self.inside.line.now) ≡ length c.args.self.now = ap length c.self.view_is in
      absurd (omega (arith, past, same, within)),
)
