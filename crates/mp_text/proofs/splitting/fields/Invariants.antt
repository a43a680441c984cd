use Rattle.std.proofs.Common.{◌≡◌, length, take}
use Rattle.mp_text.proofs.FieldEnds.{separators_before}
use Rattle.mp_text.specs.declared.splitting.TheConstants.{FIELDS_HELD}
use Rattle.mp_text.proofs.splitting.fields.Given as goal

abbrev pub invariant-loop-place : goal.invariant-loop-place
invariant-loop-place l = record {
  count : l.separators ≡ length (separators_before l.line l.place);
  held : l.ends ≡ take FIELDS_HELD (separators_before l.line l.place);
}
