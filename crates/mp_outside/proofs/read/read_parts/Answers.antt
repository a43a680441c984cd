use Rattle.std.proofs.Common.{arith, refl}
use Rattle.std.proofs.lemmas.List.{nil_from_length}
use Rattle.mp_outside.proofs.ReadLemmas.{nothing_read}
use Rattle.mp_outside.proofs.read.read_parts.Goals as goal

pub loop-bytes-init : goal.loop-bytes-init
loop-bytes-init g c =
    let none = nil_from_length c.args.bytes.now.items (omega (arith, c.requires.none_yet, c.args.bytes.now.ok.0)) in
    record {
      so_far = nothing_read _ _ _ _ none c.requires.none_yet c.requires.there;
      there = c.requires.there;
      within = omega (arith, c.requires.none_yet);
      files = refl;
      no_fault = refl;
      writes = refl;
    }
