-- One more list, entry or control record.
use Rattle.std.proofs.Common.{◌≡◌, ◌∙◌, ◌==◌, ◌+◌, ℕ, zero, suc, List, [], ◌∷◌, ◌++◌, filter, map, inl, inr, refl, sym, ap, zero-add, add-one}
use Rattle.std.specs.List.{dedup, range_with_len}
use Rattle.std.specs.List.Sorted.{IsPermutation, IsSorted}
use Rattle.std.specs.Ordering.{nat_cmp}
use Rattle.std.proofs.lemmas.List.{map-append}
use Rattle.std.proofs.lemmas.List.FromFn.{map-range_with_len_more}
use Rattle.mp_names.specs.declared.names.Name.{Name}
use Rattle.mp_names.specs.declared.names.Name.TheVariants.{Ctrl, Settled, Written}
use Rattle.mp_names.specs.Names.{ascending, is_packet, is_settled, joined_below}
use Rattle.mp_names.specs.Outlines.{Outline, answer_times, control_at, control_times, packets_of, sender, time_of}
use Rattle.mp_player_laws.specs.Decisions.{packets_to_send}
use Rattle.mp_chart.specs.declared.entry.Entry.{Entry}
use Rattle.mp_chart.specs.Entries.{entries_of, entry_of}
use Rattle.mp_parted.specs.declared.parting.By.TheVariants.{Sender}
use Rattle.mp_parted.specs.Parted.{parted_by}
use Rattle.mp_outline_lists.proofs.Keys.{kept_are, numbers_in_order}
use Rattle.mp_step_lists.specs.Controls.{sent_to, sent_to_each}
use Rattle.mp_step_lists.specs.Tables.{packets_by_worker}
use Rattle.mp_step_lists.proofs.Filters.{filter_twice, map_agree}

-- a list goes behind those of the first numbers
pub pushed : {X Y : Type 0} (f : X → Y) (g : ℕ → Y) (n : ℕ) (old new : List X) (x : X) → new ≡ old ++ x ∷ [] → map f old ≡ map g (range_with_len 0 n) → f x ≡ g n → map f new ≡ map g (range_with_len 0 (n + 1))
pushed f g n old new x e before here = ap (map f) e ∙ map-append f old (x ∷ []) ∙ ap (λ (ys : List _). ys ++ f x ∷ []) before ∙ ap (λ (y : _). map g (range_with_len 0 n) ++ y ∷ []) here ∙ sym (map-range_with_len_more g 0 n n (zero-add n))

-- an entry goes behind those of the first names
pub entry_pushed : (o : Outline) (xs : List Name) (x : Name) (old new : List Entry) (e : Entry) → new ≡ old ++ e ∷ [] → old ≡ entries_of o xs → e ≡ entry_of o x → new ≡ entries_of o (xs ++ x ∷ [])
entry_pushed o xs x old new e is before here = is ∙ ap (λ (es : List Entry). es ++ e ∷ []) before ∙ ap (λ (d : Entry). entries_of o xs ++ d ∷ []) here ∙ sym (map-append (entry_of o) xs (x ∷ []))

-- a control record goes to one more worker
pub one_receiver : (i t n : ℕ) → sent_to_each i t (n + 1) ≡ sent_to_each i t n ++ sent_to i t n ∷ []
one_receiver i t n = rw add-one refl

-- the names of one control record, and of the first ones
abbrev pub to_each : ℕ → ℕ → List Name
to_each n i = joined_below n (λ v. Ctrl i v ∷ [])

module _ (o : Outline) where
  sent_entries : (i n : ℕ) → entries_of o (to_each n i) ≡ sent_to_each i (control_at o i).time n
  sent_entries i zero = refl
  sent_entries i (suc n) = map-append (entry_of o) (to_each n i) (Ctrl i n ∷ []) ∙ ap (λ (es : List Entry). es ++ sent_to i (control_at o i).time n ∷ []) (sent_entries i n)

  -- one more control record goes to all workers
  pub one_index : (i t n : ℕ) (old new : List Entry) → new ≡ old ++ sent_to_each i t n → old ≡ entries_of o (joined_below i (to_each o.workers)) → t ≡ (control_at o i).time → n ≡ o.workers → new ≡ entries_of o (joined_below (i + 1) (to_each o.workers))
  one_index i t n old new is before time workers =
      is
      ∙ ap (λ (es : List Entry). es ++ sent_to_each i t n) before
      ∙ ap (λ (u : ℕ). entries_of o (joined_below i (to_each o.workers)) ++ sent_to_each i u n) time
      ∙ ap (λ (m : ℕ). entries_of o (joined_below i (to_each o.workers)) ++ sent_to_each i (control_at o i).time m) workers
      ∙ ap (λ (es : List Entry). entries_of o (joined_below i (to_each o.workers)) ++ es) (sym (sent_entries i o.workers))
      ∙ sym (map-append (entry_of o) (joined_below i (to_each o.workers)) (to_each o.workers i))
      ∙ rw add-one refl

  -- the packets of a stage, by worker
  pub own_packets : (j : ℕ) (names : List Name) → names ≡ filter (is_packet j) (packets_of o) → parted_by o Sender names ≡ packets_by_worker o j
  own_packets j names e = ap (parted_by o Sender) e ∙ map_agree (λ w. entries_of o (filter (λ x. sender o x == w) (filter (is_packet j) (packets_of o)))) (λ w. entries_of o (packets_to_send o w j)) (λ w. ap (entries_of o) (filter_twice (is_packet j) (λ x. sender o x == w) (packets_of o))) (range_with_len 0 o.workers)

  -- the times of control records that are of a stage
  pub own_times : (j : ℕ) (names : List Name) → names ≡ ascending (map (λ c. Settled c.stage c.time) o.controls) → entries_of o (filter (is_settled j) names) ≡ entries_of o (control_times o j)
  unfolding control_times
  own_times j names e = ap (λ (xs : List Name). entries_of o (filter (is_settled j) xs)) e

  -- the times of all rows, in order
  pub all_written : (names : List Name) → names ≡ map (λ x. Written (time_of o x)) o.rows → ascending names ≡ answer_times o
  unfolding answer_times
  all_written names e = ap ascending e

-- the times of rows, of which each is kept once, as names
written_names : (o : Outline) (rows : List Name) → map (λ (t : ℕ). Written t) (map (time_of o) rows) ≡ map (λ x. Written (time_of o x)) rows
written_names o [] = refl
written_names o (x ∷ rows) = ap (λ (ys : List Name). Written (time_of o x) ∷ ys) (written_names o rows)

pub written_once : (o : Outline) (times sorted kept : List ℕ) → times ≡ map (time_of o) o.rows → IsPermutation times sorted → IsSorted nat_cmp sorted → kept ≡ dedup (λ x y. x == y) sorted → map (λ t. Written t) kept ≡ answer_times o
written_once o times sorted kept are moved up is =
    let name : ℕ → Name = λ t. Written t in
    kept_are name nat_cmp (λ x y. x == y) (numbers_in_order name (λ x y l. inr (refl, inl l))) times sorted kept moved up is
    ∙ all_written o (map name times) (ap (map name) are ∙ written_names o o.rows)
