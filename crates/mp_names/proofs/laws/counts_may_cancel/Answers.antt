use Rattle.std.proofs.Common.{refl}
use Rattle.mp_names.specs.Names.{ascending}
use Rattle.mp_names.specs.Outlines.{owner_before, packets_of, groups_of, owed_names}
use Rattle.mp_names.proofs.Samples.{two_bids_sound, early_legal, first_owed}
use Rattle.mp_names.proofs.laws.counts_may_cancel.Goals as goal

pub returns : goal.returns
unfolding ascending owner_before packets_of groups_of owed_names
returns c =
    record {
      sound = two_bids_sound;
      legal = early_legal;
      sent = refl;
      owed = first_owed;
      not_taken = refl;
      cancelled = refl;
      source = refl;
      frontier = refl;
      later_mail = refl;
      later_source = refl;
      later_frontier = refl;
    }
