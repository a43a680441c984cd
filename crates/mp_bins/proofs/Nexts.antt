-- The next of the bins of a stage that leave a worker, by the moves that are kept.
use Rattle.std.proofs.Common.{◌≡◌, ℕ, suc, ◌==◌, List, Option, None, Some, refl, sym, ap, ◌∙◌, subst}
use Rattle.std.specs.Option.{IfNone, IfSome}
use Rattle.std.proofs.lemmas.Bool.{eqb-false, ne_eqb, not-true, not_from_false}
use Rattle.mp_names.specs.declared.names.Name.TheVariants.{Packet}
use Rattle.mp_names.specs.declared.controls.Move.{Move}
use Rattle.mp_names.specs.declared.pointstamps.TimedBin.{TimedBin}
use Rattle.mp_bins.specs.Notes.{Notes, move_of, owner_before}
use Rattle.mp_bins.specs.Leaving.{IsAfter, IsLeaving, IsNextLeaving, NoneLeaves}
use Rattle.mp_bins.specs.Changes.{AreChangesOf, IsFirstFrom, IsFrom, NoneIsFrom}

module _ (notes : Notes) (changes : List Move) (are : AreChangesOf notes.layout notes.noted changes) (stage worker : ℕ) (after : Option TimedBin) where
  abbrev owner : ℕ → ℕ → ℕ
  owner bin time = owner_before notes stage bin time

  leaving_is_from : (bin time : ℕ) → IsLeaving notes stage worker bin time → IsAfter after time bin → IsFrom changes stage worker after (move_of notes (Packet stage bin time))
  leaving_is_from bin time h l = record {
    there = (are.each (move_of notes (Packet stage bin time))).1 (record { from = refl; to = refl; changed = eqb-false (owner bin time) (owner bin (suc time)) (not-true (owner bin time == owner bin (suc time)) h.0) });
    of_stage = refl;
    of_worker = h.1;
    later = l;
  }

  next_is : (m : Move) → IsFirstFrom changes stage worker after m → IsNextLeaving notes stage worker after m
  next_is m h =
      let this = h.0 in
      let move = (are.each m).0 this.there in
      let from = subst (λ (j : ℕ). m.from ≡ owner_before notes j m.bin m.time) this.of_stage move.from in
      let to = subst (λ (j : ℕ). m.to ≡ owner_before notes j m.bin (suc m.time)) this.of_stage move.to in
      let now = owner m.bin m.time in
      let then = owner m.bin (suc m.time) in
      record {
        leaves = (not_from_false (now == then) (ne_eqb now then (λ e. move.changed (from ∙ e ∙ sym to))), sym from ∙ this.of_worker);
        told =
            ap (λ (j : ℕ). record m { stage = j }) this.of_stage
            ∙ ap (λ (w : ℕ). record m { stage = stage; from = w }) from
            ∙ ap (λ (w : ℕ). record m { stage = stage; from = now; to = w }) to;
        later = this.later;
        least = λ bin time leaving l b. h.1 (move_of notes (Packet stage bin time)) (leaving_is_from bin time leaving l) b;
      }

  pub next_if_some : (found : Option Move) → IfSome found (IsFirstFrom changes stage worker after) → IfSome found (IsNextLeaving notes stage worker after)
  next_if_some None h = tt
  next_if_some (Some m) h = next_is m h

  pub none_if_none : (found : Option Move) → IfNone found (NoneIsFrom changes stage worker after) → IfNone found (NoneLeaves notes stage worker after)
  none_if_none None h = λ bin time leaving l. h (move_of notes (Packet stage bin time)) (leaving_is_from bin time leaving l)
  none_if_none (Some m) h = tt
