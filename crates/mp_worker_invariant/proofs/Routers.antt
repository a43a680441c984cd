-- The router of a stage while records that travel together are sent.
use Rattle.std.proofs.Common.{◌≡◌, ◌++◌, ◌∷◌, ℕ, List, [], get_or, sym, ap, ◌∙◌, subst}
use Rattle.std.proofs.lemmas.List.{append-nil}
use Rattle.mp_names.specs.declared.controls.Shape.{Shape}
use Rattle.mp_names.specs.declared.names.Name.{Name}
use Rattle.mp_names.specs.Outlines.{OutlineIsSound, receiver}
use Rattle.mp_names.specs.Logs.{Log}
use Rattle.mp_stamps.specs.declared.seen.Seen.{Seen}
use Rattle.mp_bins.specs.Bins.{bin_of_key}
use Rattle.mp_bins.specs.Notes.{Layout, owner_at as noted_owner}
use Rattle.mp_model.specs.declared.record.Rec.{Rec as Record}
use Rattle.mp_model.specs.Facts.{JobFacts, QueryFacts}
use Rattle.mp_outline.specs.JobOutline.{name_of_record, outline_of}
use Rattle.mp_msg.specs.Bundles.{Bundled, IsBundle, names_in}
use Rattle.mp_msg.proofs.Telling.{bundles_follow_names}
use Rattle.mp_route.specs.Routed.{Routed}
use Rattle.mp_route.specs.Sending.{IsBundleOf}
use Rattle.mp_route.specs.Unsent.{HoldsAllBut, HoldsUnsent, MayGo, OwnersAreKnown, with_all_sent}
use Rattle.mp_worker_invariant.specs.Parts.{ArePartsOf, IsRouterAt, Parts}
use Rattle.mp_worker_invariant.proofs.Standing.{asked}

-- the first of records has the first of their names
pub first_is : (b : Bundled) (x : Name) (rest : List Name) (r : Record) → names_in b ≡ x ∷ rest → r ≡ get_or b.recs 0 r → name_of_record b.stage r ≡ x
first_is b x rest r names at = first b.recs names at
  where
    head : (y : Name) (ys : List Name) → y ∷ ys ≡ x ∷ rest → y ≡ x
    head y ys e = cc

    none : [] ≡ x ∷ rest → ⊥
    none e = cc

    first : (recs : List Record) → names_in (record { stage = b.stage; recs = recs }) ≡ x ∷ rest → r ≡ get_or recs 0 r → name_of_record b.stage r ≡ x
    first [] e f = absurd (none e)
    first (s ∷ recs) e f = ap (name_of_record b.stage) f ∙ head _ _ e

module _ {Cell : Type 0} {q : QueryFacts Cell} {job : JobFacts} where
  -- where a record may go, the owner by the notes is the receiver of its name
  pub owner_is : {p : Parts Cell} → OutlineIsSound (outline_of q job) → ArePartsOf q job p
      → (j : ℕ) (r : Record) → MayGo q job p.number p.log j p.seen (name_of_record j r)
      → (shape : Shape) (bin n : ℕ) → shape ≡ job.shape → bin ≡ bin_of_key r.key shape.bins → n ≡ noted_owner p.notes j bin r.time → n ≡ receiver (outline_of q job) (name_of_record j r)
  owner_is {p = p} sound are j r may shape bin n same at owns =
      let known = (asked sound are).moves j in
      owns ∙ ap (λ (b : ℕ). noted_owner p.notes j b r.time) (at ∙ ap (λ (s : Shape). bin_of_key r.key s.bins) same) ∙ (known.owners (bin_of_key r.key job.shape.bins) r.time may.1).1

  -- the owners are known as far as control records have passed
  pub owners_known : {p : Parts Cell} → OutlineIsSound (outline_of q job) → ArePartsOf q job p → (j i : ℕ) → i ≡ j → OwnersAreKnown q job p.notes p.seen i
  owners_known {p = p} sound are j i e = let known = (asked sound are).moves i in record { shape = ap (λ (l : Layout). l.shape) are.notes.layout; owners = λ t b passed. (known.owners b t passed).1 }

  module _ {w : ℕ} {log : Log} {j : ℕ} {old : Routed} (here : IsRouterAt q job w log j old) where
    -- where it gives none up, no record may go
    pub none_goes : (seen : Seen) → ((w : ℕ) (l : Log) (x : Name) → HoldsUnsent q job w l old → MayGo q job w l old.stage seen x → ⊥) → (x : Name) → MayGo q job w log j seen x → ⊥
    none_goes seen none x may = none w log x here.1 (subst (λ (n : ℕ). MayGo q job w log n seen x) (sym here.0) may)

    module _ (b : Bundled) where
      -- what it gives up is what the machine sends with the first, which may go
      pub goes : (seen : Seen) → ((w : ℕ) (l : Log) → HoldsUnsent q job w l old → (x : Name) × IsBundleOf q job w l old.stage x b × MayGo q job w l old.stage seen x)
          → (x : Name) × IsBundleOf q job w log j x b × MayGo q job w log j seen x
      goes seen may = subst (λ (n : ℕ). (x : Name) × IsBundleOf q job w log n x b × MayGo q job w log n seen x) here.0 (may w log here.1)

      -- and it holds the others
      pub gone : (new : Routed) → ((w : ℕ) (l : Log) → HoldsUnsent q job w l old → HoldsUnsent q job w (with_all_sent l (names_in b)) new) → new.stage ≡ old.stage
          → IsRouterAt q job w (with_all_sent log (names_in b)) j new
      gone new left stage = (stage ∙ here.0, left w log here.1)

      -- a bundle of these names is the one that it gave up
      pub same_bundle : (c : Bundled) → IsBundle q job b → IsBundle q job c → names_in c ≡ names_in b → c ≡ b
      same_bundle c was comes named = bundles_follow_names q job c b comes was named

      -- so with that taken back it holds what it held
      pub back : (c : Bundled) (new last : Routed) → names_in c ≡ names_in b → new.stage ≡ old.stage
          → ((w : ℕ) (l : Log) → HoldsUnsent q job w l old → HoldsAllBut q job w l (names_in b) new)
          → ((w : ℕ) (l : Log) (rest : List Name) → HoldsAllBut q job w l (names_in c ++ rest) new → HoldsAllBut q job w l rest last)
          → last.stage ≡ new.stage → IsRouterAt q job w log j last
      back c new last named stage left taken same =
          let all = subst (λ (xs : List Name). HoldsAllBut q job w log xs new) (sym (append-nil (names_in c) ∙ named)) (left w log here.1) in
          (same ∙ stage ∙ here.0, taken w log [] all)
