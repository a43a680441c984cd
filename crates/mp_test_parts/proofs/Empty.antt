-- A bin of a job in which nothing happens.
use Rattle.std.proofs.Common.{◌≡◌, ℕ, zero, suc, ◌<◌, nat_lt, Bool, true, false, List, [], cond, refl, ⊎_elim}
use Rattle.std.specs.List.Sorted.{IsStrictlySortedBy}
use Rattle.std.proofs.lemmas.Bool.{false≢true}
use Rattle.mp_names.specs.declared.names.Name.{Name}
use Rattle.mp_names.specs.declared.names.Name.TheVariants.{Rec}
use Rattle.mp_names.specs.Names.{In}
use Rattle.mp_model.specs.Stages.{stage_records}
use Rattle.mp_samples.specs.Bids.{waking_in}
use Rattle.mp_job.proofs.Members.{nothing_in_nil}
use Rattle.mp_msg.specs.States.{BinContent, IsInOrder, IsOpening, IsPostedAt}
use Rattle.mp_handoff.specs.Keys.{HasKeys}
use Rattle.mp_test_parts.specs.Quiet.{quiet}

none_there : (b : Bool) (x : Name) → In x (cond b [] []) → ⊥
none_there true x h = false≢true h
none_there false x h = false≢true h

abbrev nothing : BinContent ℕ
nothing = record { cells = []; wakes = [] }

in_order : IsInOrder nothing
unfolding IsStrictlySortedBy
in_order = record { cells = tt; wakes = tt }

-- no stage has records
no_records : (j : ℕ) → stage_records (waking_in quiet) [] j ≡ []
no_records zero = refl
no_records (suc j) = let e = no_records j in rw e refl

-- it has no keys
pub no_keys : (j b t : ℕ) → HasKeys (waking_in quiet) quiet j b t 0
no_keys j b t = (
  nothing,
  record {
    order = in_order;
    own = record { cells = λ k c i. absurd (nothing_in_nil (k, c) i); wakes = λ u k i. absurd (nothing_in_nil (u, k) i) };
    cells = λ k e. rw (no_records j) refl;
    wakes = λ u k e. (
      (λ i. absurd (nothing_in_nil (u, k) i)),
      (λ h. ⊎_elim
          (λ (o : IsOpening (waking_in quiet) j k u). absurd (nothing_in_nil (u, k) o))
          (λ (p : (v : ℕ) × (v < t) × IsPostedAt (waking_in quiet) quiet j k v u). absurd (none_there (nat_lt j quiet.shape.stages) (Rec j p.0 k p.2.0) (rw (no_records j) at p.2.1)))
          h.1),
    );
  },
  refl,
)
