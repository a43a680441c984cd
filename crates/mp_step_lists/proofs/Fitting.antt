-- The names that are listed fit the shape of the job.
use Rattle.std.proofs.Common.{◌≡◌, ℕ, true, List, All, filter, sym, subst}
use Rattle.std.proofs.lemmas.Bool.{false≢true}
use Rattle.mp_names.specs.declared.names.Name.{Name}
use Rattle.mp_names.specs.declared.names.Name.TheVariants.{Settled, Written}
use Rattle.mp_names.specs.Names.{is_packet, is_settled}
use Rattle.mp_names.specs.Outlines.{Outline, OutlineIsSound, answer_times, packets_of}
use Rattle.mp_names.proofs.Lists.{In_filter}
use Rattle.mp_names.proofs.Listed.{answer_time_is}
use Rattle.mp_parted.specs.Fitting.{FitsShape}
use Rattle.mp_parted.proofs.Fitting.{All-from_In, packet_fits}

module _ (o : Outline) (names : List Name) where
  pub settled_fit : (j : ℕ) (all : List Name) → names ≡ filter (is_settled j) all → All (FitsShape o) names
  settled_fit j all e = subst (All (FitsShape o)) (sym e) (All-from_In (FitsShape o) (filter (is_settled j) all) (λ x i. form x (In_filter (is_settled j) x all i).1))
    where
      form : (x : Name) → is_settled j x ≡ true → FitsShape o x
      form (Settled i t) h = tt
      form _ h = absurd (false≢true h)

  module _ (ok : OutlineIsSound o) where
    pub written_fit : names ≡ answer_times o → All (FitsShape o) names
    written_fit e = subst (All (FitsShape o)) (sym e) (All-from_In (FitsShape o) (answer_times o) (λ x i. let r = answer_time_is o ok x i in let f : FitsShape o (Written r.0) = tt in subst (FitsShape o) (sym r.2) f))

    pub own_fit : (j : ℕ) → names ≡ filter (is_packet j) (packets_of o) → All (FitsShape o) names
    own_fit j e = subst (All (FitsShape o)) (sym e) (All-from_In (FitsShape o) (filter (is_packet j) (packets_of o)) (λ x i. packet_fits o ok x (In_filter (is_packet j) x (packets_of o) i).0))
