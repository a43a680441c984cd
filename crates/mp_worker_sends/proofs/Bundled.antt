-- Records that are sent together: they may be sent, to the owner of the first, and what that changes at the counts.
use Rattle.std.proofs.Common.{◌≡◌, ◌<◌, ◌∷◌, ℕ, List, [], IfSome, Option, Some, get_or, length, neg_ℤ, pos, sym, ap, ◌∙◌, subst}
use Rattle.std.proofs.lemmas.List.{length-map}
use Rattle.mp_names.specs.declared.controls.Shape.{Shape}
use Rattle.mp_names.specs.declared.locations.Loc.TheVariants.{Mail, Route}
use Rattle.mp_names.specs.declared.names.Name.{Name}
use Rattle.mp_names.specs.Keeping.{IsHeld}
use Rattle.mp_names.specs.Logs.{Log}
use Rattle.mp_names.specs.Names.{In, is_rec}
use Rattle.mp_names.specs.Outlines.{receiver, time_of}
use Rattle.mp_names.proofs.Orders.{ascending_once}
use Rattle.mp_names.proofs.Steps.{given_own}
use Rattle.mp_bins.specs.Bins.{bin_of_key}
use Rattle.mp_bins.specs.Notes.{owner_at as noted_owner}
use Rattle.mp_machine.proofs.Messages.{bundle_held, bundle_time}
use Rattle.mp_model.specs.declared.record.Rec.{Rec as Record}
use Rattle.mp_model.specs.Facts.{JobFacts, QueryFacts}
use Rattle.mp_outline.specs.JobOutline.{name_of_record, outline_of}
use Rattle.mp_rows.specs.Entries.{AreChanges, change_at}
use Rattle.mp_rows_laws.proofs.Bundles.{records_sent}
use Rattle.mp_msg.specs.Bundles.{Bundled, IsBundle, names_in, receiver_of}
use Rattle.mp_route.specs.Routed.{Routed}
use Rattle.mp_route.specs.Sending.{IsBundleOf}
use Rattle.mp_route.specs.Unsent.{HoldsUnsent, MayGo}
use Rattle.mp_worker_refinement.specs.Sending.{MaySend, with_all_sent}
use Rattle.mp_worker_parts.specs.Below.{machine_worker}
use Rattle.mp_worker_parts.specs.Below.{IsRouterAt, Parts}
use Rattle.mp_worker_parts.specs.Below.{route_legal}
use Rattle.mp_worker_parts.specs.Below.{first_is, goes, owner_is}
use Rattle.mp_worker_parts.specs.Below.{router_at}
use Rattle.mp_worker_parts.specs.Kept.{IsKept}

-- What is known of records that the router of a stage gave up: they are of its stage, and go with the first of them, which may go
pub record IsGivenUp {Cell : Type 0} (q : QueryFacts Cell) (job : JobFacts) (p : Parts Cell) (j : ℕ) (old : Routed) (b : Bundled) : Type 0 where
  pub here : IsRouterAt q job p.number p.log j old
  pub of_stage : b.stage ≡ old.stage
  pub content : IsBundle q job b
  pub first : Name
  pub of : IsBundleOf q job p.number p.log j first b
  pub may : MayGo q job p.number p.log j p.seen first

module _ {Cell : Type 0} {q : QueryFacts Cell} {job its : JobFacts} {p : Parts Cell} (kept : IsKept q job its p) {j : ℕ} where
  -- by what a router says of them
  pub given_up : j < job.shape.stages → {old : Routed} → old ≡ get_or p.routers j old → {given : Option Bundled} {b : Bundled} → given ≡ Some b
      → IfSome given (λ c. c.stage ≡ old.stage) → IfSome given (λ c. IsBundle q job c)
      → IfSome given (λ c. (w : ℕ) (log : Log) → HoldsUnsent q job w log old → (x : Name) × IsBundleOf q job w log old.stage x c × MayGo q job w log old.stage p.seen x)
      → IsGivenUp q job p j old b
  given_up below {old} at {given} {b} is stage content may =
      let here = router_at kept.parts j below old at in
      let may_go = goes here b p.seen (rw is at may) in
      record { here = here; of_stage = rw is at stage; content = rw is at content; first = may_go.0; of = may_go.1; may = may_go.2 }

  module _ {old : Routed} {b : Bundled} (given : IsGivenUp q job p j old b) where
    held : (y : Name) → In y (names_in b) → IsHeld (outline_of q job) p.number p.log (is_rec j) y
    held y i = bundle_held (outline_of q job) kept.sound p.number (machine_worker p) j given.first y (subst (In y) given.of.0 i)

    -- the bundle may be sent
    pub bundle_may : MaySend (outline_of q job) p.number p.log (names_in b)
    bundle_may = record {
      message = given.content.message;
      owed = λ y i. ((held y i).1, given_own (outline_of q job) p.number p.log kept.parts.legal y (held y i).2);
      legal = route_legal q job kept.sound p.number kept.parts.worker p.log kept.parts.legal p.seen kept.parts.done j given.first (names_in b) given.may given.of.0;
    }

    module _ {recs : List Record} {r : Record} (all : recs ≡ b.recs) (first : r ≡ get_or recs 0 r) where
      named : name_of_record j r ≡ given.first
      named = subst (λ (n : ℕ). name_of_record n r ≡ given.first) (given.of_stage ∙ given.here.0) (first_is b given.first given.of.1.0 r given.of.1.1 (rw all at first))

      -- it goes to the owner of the first record's bin
      pub receiver_is : {shape : Shape} {bin n : ℕ} → shape ≡ its.shape → bin ≡ bin_of_key r.key shape.bins → n ≡ noted_owner p.notes j bin r.time → n ≡ receiver_of (outline_of q job) (names_in b)
      receiver_is {shape} {bin} {n} same at owns =
          let o = outline_of q job in
          let may = subst (λ (y : Name). MayGo q job p.number p.log j p.seen y) (sym named) given.may in
          owner_is kept.sound kept.parts j r may shape bin n (same ∙ ap (λ (f : JobFacts). f.shape) kept.run) at owns ∙ ap (receiver o) named ∙ ap (receiver_of o) (sym given.of.1.1)

      -- and the counts change by so many
      pub bundle_changes : AreChanges (outline_of q job) p.number p.log (with_all_sent p.log (names_in b))
          (change_at (Route j) r.time (neg_ℤ (pos (length recs))) ∷ change_at (Mail j) r.time (pos (length recs)) ∷ [])
      bundle_changes =
          let o = outline_of q job in
          let xs = names_in b in
          subst (λ (n : ℕ). AreChanges o p.number p.log (with_all_sent p.log xs) (change_at (Route j) r.time (neg_ℤ (pos n)) ∷ change_at (Mail j) r.time (pos n) ∷ []))
          (length-map b.recs (name_of_record b.stage) ∙ ap length (sym all))
          (records_sent o p.number p.log kept.sound j r.time xs given.content.message.some (ascending_once xs given.content.message.ordered) (λ y i.
          let k = subst (In y) given.of.0 i in (bundle_time o kept.sound p.number (machine_worker p) j given.first y k ∙ ap (time_of o) (sym named), held y i)))
