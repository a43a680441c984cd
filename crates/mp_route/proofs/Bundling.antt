-- The records that go along with the first one are those that the outline sends in one message.
use Rattle.std.proofs.Common.{◌≡◌, ◌⊎◌, ℕ, zero, suc, ◌<◌, ◌≤◌, ◌&&◌, ◌==◌, not, Bool, true, false, cond, List, [], ◌∷◌, ◌++◌, All, append-nil, drop, filter, get_or, length, map, take, refl, sym, ap, ◌∙◌, subst, ⊎_elim, arith}
use Rattle.std.proofs.Math.ListN.{length-take, take-append-drop}
use Rattle.std.proofs.lemmas.List.{take_all}
use Rattle.std.proofs.Math.Seq.{take-append_seam}
use Rattle.std.specs.Prelude.{Some, slice_get}
use Rattle.std.proofs.lemmas.Bool.{and_from, and_parts, both_ways, cases_Bool, eq-eqb, eqb-true, false_from_ne_true, false≢true}
use Rattle.std.proofs.lemmas.List.Elements.{All-contains, All-cons, All-drop, All-filter, All-head, All-nil, All-tail, All-take, filter-append}
use Rattle.mp_names.specs.declared.locations.Loc.TheVariants.{CtlMail}
use Rattle.mp_names.specs.declared.names.Name.{Name}
use Rattle.mp_names.specs.Frontiers.{HasPassed, is_held}
use Rattle.mp_names.specs.Logs.{Log, LogIsLegal, is_given}
use Rattle.mp_names.specs.Names.{Distinct, In, IsAscending, Less, ascending, has, is_before, is_rec}
use Rattle.mp_names.specs.Outlines.{Outline, owner_at, receiver, time_of}
use Rattle.mp_names.proofs.Lists.{In_prefix, In_filter, filter_In}
use Rattle.mp_names.proofs.Orders.{In_ascending, ascending_In, ascending_ascends, ascending_unique, filter_ascends, less_connected}
use Rattle.mp_names.proofs.Steps.{given_own}
use Rattle.mp_machine.specs.Messages.{IsMessage, bundle_of, goes_with}
use Rattle.mp_stamps.specs.declared.seen.Seen.{Seen}
use Rattle.mp_stamps.specs.Seen.{seen_at}
use Rattle.mp_bins.specs.Bins.{bin_of_key}
use Rattle.mp_bins.specs.Notes.{Notes, owner_at as noted_owner}
use Rattle.mp_model.specs.declared.record.Rec.{Rec}
use Rattle.mp_model.specs.Facts.{JobFacts, QueryFacts}
use Rattle.mp_ordered.specs.InOrder.{InOrder, IsInOrder, begins}
use Rattle.mp_ordered.proofs.Placing.{pairs_drop, pairs_head, pairs_tail}
use Rattle.mp_outline.specs.JobOutline.{name_of_record, outline_of}
use Rattle.mp_outline.proofs.Named.{In_named}
use Rattle.mp_msg.specs.Bundles.{HasOneSender, IsBundle}
use Rattle.mp_msg.specs.Contents.{IsRecordOf}
use Rattle.mp_route.specs.declared.along.Along.{Along}
use Rattle.mp_route.specs.Along.{IsCount, TakesAlong, along_with, goes_to, going, is_at}
use Rattle.mp_route.specs.Routed.{tag_rank}
use Rattle.mp_route.specs.Sending.{IsBundleOf}
use Rattle.mp_route.specs.Unsent.{HoldsUnsent, OwnersAreKnown}
use Rattle.mp_route.proofs.Counted.{listed_owed, owed_listed}
use Rattle.mp_route.proofs.Going.{not_less, starts}
use Rattle.mp_route.proofs.Holding.{routed}

-- Lists

left_ascends : (n : ℕ) (xs : List Name) → IsAscending xs → IsAscending (take n xs)
left_ascends zero xs h = tt
left_ascends (suc n) [] h = tt
left_ascends (suc n) (x ∷ xs) h = ((λ y i. h.0 y (In_prefix y (take n xs) xs (drop n xs, take-append-drop n xs) i)), left_ascends n xs h.1)

named_filter : {X : Type 0} (f : X → Name) (p : Name → Bool) (xs : List X) → map f (filter (λ x. p (f x)) xs) ≡ filter p (map f xs)
named_filter f p [] = refl
named_filter f p (x ∷ xs) = at (p (f x)) (named_filter f p xs)
  where
    at : (b : Bool) → map f (filter (λ y. p (f y)) xs) ≡ filter p (map f xs) → map f (cond b (x ∷ filter (λ y. p (f y)) xs) (filter (λ y. p (f y)) xs)) ≡ cond b (f x ∷ filter p (map f xs)) (filter p (map f xs))
    at true e = ap (λ (ys : List Name). f x ∷ ys) e
    at false e = e

named_take : {X : Type 0} (f : X → Name) (n : ℕ) (xs : List X) → map f (take n xs) ≡ take n (map f xs)
named_take f zero xs = refl
named_take f (suc n) [] = refl
named_take f (suc n) (x ∷ xs) = ap (λ (ys : List Name). f x ∷ ys) (named_take f n xs)

module _ {X : Type 0} where
  filter_same : (p q : X → Bool) (xs : List X) → All (λ x. p x ≡ q x) xs → filter p xs ≡ filter q xs
  filter_same p q [] h = refl
  filter_same p q (x ∷ xs) h = at (p x) (q x) (All-head (λ y. p y ≡ q y) x xs h) (filter_same p q xs (All-tail (λ y. p y ≡ q y) x xs h))
    where
      at : (a b : Bool) → a ≡ b → filter p xs ≡ filter q xs → cond a (x ∷ filter p xs) (filter p xs) ≡ cond b (x ∷ filter q xs) (filter q xs)
      at true true e f = ap (λ (ys : List X). x ∷ ys) f
      at false false e f = f
      at true false e f = absurd (false≢true (sym e))
      at false true e f = absurd (false≢true e)

  filter_none : (p : X → Bool) (xs : List X) → All (λ x. p x ≡ false) xs → filter p xs ≡ []
  filter_none p [] h = refl
  filter_none p (x ∷ xs) h = rw (All-head (λ y. p y ≡ false) x xs h) (filter_none p xs (All-tail (λ y. p y ≡ false) x xs h))

  all_of : {P Q : X → Type 0} (xs : List X) → ((x : X) → P x → Q x) → All P xs → All Q xs
  all_of xs f h = λ k d l. f (get_or xs k d) (h k d l)

-- Times

no_earlier : (s t : Rec) → is_before (tag_rank t) (tag_rank s) ≡ false → s.time ≤ t.time
no_earlier s t h = grind arith

module _ (a : Along) (r : Rec) (at_first : a.time ≡ r.time) where
  -- what isn't at the time is later, and so is all that follows
  later_all : (ys : List Rec) → IsInOrder tag_rank ys → All (λ s. r.time ≤ s.time) ys → begins (is_at a) ys ≡ false → All (λ s. is_at a s ≡ false) ys
  later_all [] order h e = All-nil (λ s. is_at a s ≡ false)
  later_all (y ∷ ys) order h e =
      let least : r.time ≤ y.time = All-head (λ s. r.time ≤ s.time) y ys h in
      let other : y.time ≡ a.time → ⊥ = λ f. both_ways (is_at a y) e (eq-eqb y.time a.time f) in
      let after : a.time < y.time = omega (arith, other) in
      All-cons (λ s. is_at a s ≡ false) y ys e
      (all_of ys (λ s n. false_from_ne_true (is_at a s) (λ f. let m = no_earlier y s n in let g = eqb-true s.time a.time f in omega (arith, m, g, after))) (pairs_head (λ u v. is_before (tag_rank v) (tag_rank u) ≡ false) y ys order))

-- Of the outline

module _ {Cell : Type 0} (q : QueryFacts Cell) (job : JobFacts) (w : ℕ) (log : Log) (j : ℕ) (r : Rec) (rest : List Rec) (room : ℕ)
    (content : All (IsRecordOf q job j) (r ∷ rest)) (order : IsInOrder tag_rank (r ∷ rest)) (h : HoldsUnsent q job w log (record { stage = j; held = r ∷ rest; room = room })) where
  abbrev o : Outline
  o = outline_of q job

  abbrev held : List Rec
  held = r ∷ rest

  abbrev names : List Name
  names = map (name_of_record j) held

  abbrev x : Name
  x = name_of_record j r

  -- the names of what is held ascend
  ascend : (rs : List Rec) → All (IsRecordOf q job j) rs → IsInOrder tag_rank rs → Distinct (map (name_of_record j) rs) → IsAscending (map (name_of_record j) rs)
  ascend [] c i d = tt
  ascend (s ∷ ss) c i d = (
    (λ y k.
        let a = In_named (name_of_record j) ss y k in
        let own = All-head (IsRecordOf q job j) s ss c in
        let its = All-contains (IsRecordOf q job j) ss a.0 (All-tail (IsRecordOf q job j) s ss c) a.1 in
        let n = All-contains (λ u. is_before (tag_rank u) (tag_rank s) ≡ false) ss a.0 (pairs_head (λ u v. is_before (tag_rank v) (tag_rank u) ≡ false) s ss i) a.1 in
        subst (λ (z : Name). Less (name_of_record j s) z) a.2
        (⊎_elim
        (λ (e : name_of_record j s ≡ name_of_record j a.0). absurd (both_ways (has (map (name_of_record j) ss) (name_of_record j s)) d.0 (subst (λ (z : Name). In z (map (name_of_record j) ss)) (sym (e ∙ a.2)) k)))
        (λ (e : Less (name_of_record j s) (name_of_record j a.0) ⊎ Less (name_of_record j a.0) (name_of_record j s)).
        ⊎_elim
        (λ (l : Less (name_of_record j s) (name_of_record j a.0)). l)
        (λ (l : Less (name_of_record j a.0) (name_of_record j s)). absurd (not_less q job j a.0 s its own n l))
        e)
        (less_connected (name_of_record j s) (name_of_record j a.0)))),
    ascend ss (All-tail (IsRecordOf q job j) s ss c) (pairs_tail (λ u v. is_before (tag_rank v) (tag_rank u) ≡ false) s ss i) d.1,
  )

  names_ascend : IsAscending names
  names_ascend = ascend held content order h.once

  -- those of them that go along are those that the outline lists
  abbrev held_with : Name → Bool
  held_with y = is_held o w log y && goes_with o x y

  going_names : filter (goes_with o x) names ≡ filter held_with (ascending (o.records j))
  going_names =
      ascending_unique (filter (goes_with o x) names) (filter held_with (ascending (o.records j))) (filter_ascends (goes_with o x) names names_ascend) (filter_ascends held_with (ascending (o.records j)) (ascending_ascends (o.records j)))
      (λ z i.
      let f = In_filter (goes_with o x) z names i in
      let u = (h.unsent z).0 f.0 in
      filter_In held_with z (ascending (o.records j)) (ascending_In z (o.records j) (owed_listed o j z u.0 u.1))
      (and_from (is_held o w log z) (goes_with o x z) (and_from (is_given o w log z) (not (has log.sent z)) u.2 (not_is (has log.sent z) u.3)) f.1))
      (λ z i.
      let f = In_filter held_with z (ascending (o.records j)) i in
      let p = and_parts (is_held o w log z) (goes_with o x z) f.1 in
      let g = and_parts (is_given o w log z) (not (has log.sent z)) p.0 in
      let kind = listed_owed q job j z (In_ascending z (o.records j) f.0) in
      filter_In (goes_with o x) z names ((h.unsent z).1 (kind.0, kind.1, g.0, is_not (has log.sent z) g.1)) p.1)
    where
      not_is : (b : Bool) → b ≡ false → not b ≡ true
      not_is true e = absurd (false≢true (sym e))
      not_is false e = refl

      is_not : (b : Bool) → not b ≡ true → b ≡ false
      is_not true e = absurd (false≢true e)
      is_not false e = refl

  module _ (notes : Notes) (seen : Seen) (known : OwnersAreKnown q job notes seen j) (passed : HasPassed (seen_at seen CtlMail) r.time) where
    abbrev along : Along
    along = record { stage = j; bins = job.shape.bins; time = r.time; owner = noted_owner notes j (bin_of_key r.key job.shape.bins) r.time }

    abbrev both : Rec → Bool
    both s = is_at along s && goes_to notes along s

    -- the code's test is the outline's
    same_test : (s : Rec) → both s ≡ goes_with o x (name_of_record j s)
    same_test s = ⊎_elim at_time other (cases_Bool (s.time == r.time))
      where
        at_time : (s.time == r.time) ≡ true → both s ≡ goes_with o x (name_of_record j s)
        at_time e =
            let t = eqb-true s.time r.time e in
            let own = known.owners r.time (bin_of_key s.key job.shape.bins) passed ∙ ap (λ (u : ℕ). owner_at o j (bin_of_key s.key job.shape.bins) u) (sym t) in
            let its = known.owners r.time (bin_of_key r.key job.shape.bins) passed in
            rw (own, its) refl

        other : (s.time == r.time) ≡ false → both s ≡ goes_with o x (name_of_record j s)
        other e = rw e refl

    module _ (n m : ℕ) (count : IsCount notes along 64 held n m) where
      all_times : All (λ s. r.time ≤ s.time) held
      all_times = All-cons (λ s. r.time ≤ s.time) r rest (omega arith) (all_of rest (λ s f. no_earlier r s f) (pairs_head (λ u v. is_before (tag_rank v) (tag_rank u) ≡ false) r rest order))

      gone_is : going notes along n held ≡ take 64 (filter both held)
      gone_is = sym whole
        where
          front : filter both (take n held) ≡ going notes along n held
          front = filter_same both (goes_to notes along) (take n held) (all_of (take n held) (λ s e. under (is_at along s) (goes_to notes along s) e) count.time)
            where
              under : (a b : Bool) → a ≡ true → (a && b) ≡ b
              under true b e = refl
              under false b e = absurd (false≢true e)

          split : filter both held ≡ going notes along n held ++ filter both (drop n held)
          split = ap (filter both) (sym (take-append-drop n held)) ∙ filter-append both (take n held) (drop n held) ∙ ap (λ (ys : List Rec). ys ++ filter both (drop n held)) front

          whole : take 64 (filter both held) ≡ going notes along n held
          whole =
              ⊎_elim
              (λ (e : m ≡ 64).
              let l : 64 ≡ length (going notes along n held) = sym e ∙ count.chosen_is in
              ap (take 64) split ∙ ap (λ (k : ℕ). take k (going notes along n held ++ filter both (drop n held))) l ∙ take-append_seam (going notes along n held) (filter both (drop n held)))
              (λ (e : begins (is_at along) (drop n held) ≡ false).
              let late = later_all along r refl (drop n held) (pairs_drop (λ u v. is_before (tag_rank v) (tag_rank u) ≡ false) n held order) (All-drop (λ s. r.time ≤ s.time) n held all_times) e in
              let none = filter_none both (drop n held) (all_of {P = λ s. is_at along s ≡ false} {Q = λ s. both s ≡ false} (drop n held) (λ s f. rw f refl) late) in
              ap (take 64) (split ∙ ap (λ (ys : List Rec). going notes along n held ++ ys) none ∙ append-nil (going notes along n held)) ∙ take_all 64 (going notes along n held) (omega (arith, count.few, count.chosen_is)))
              count.ends

      -- what is taken out is the outline's bundle
      pub bundle_is : map (name_of_record j) (going notes along n held) ≡ bundle_of o w log j x
      bundle_is =
          ap (map (name_of_record j)) gone_is
          ∙ named_take (name_of_record j) 64 (filter both held)
          ∙ ap (λ (rs : List Rec). take 64 (map (name_of_record j) rs)) (filter_same both (λ s. goes_with o x (name_of_record j s)) held (λ k d l. same_test (get_or held k d)))
          ∙ ap (take 64) (named_filter (name_of_record j) (goes_with o x) held ∙ going_names)

      -- in which each is held by the log
      gone_held : (z : Name) → In z (bundle_of o w log j x) → In z (filter (goes_with o x) names)
      gone_held z i = subst (In z) (sym going_names) (In_prefix z (bundle_of o w log j x) (filter held_with (ascending (o.records j))) (drop 64 (filter held_with (ascending (o.records j))), take-append-drop 64 (filter held_with (ascending (o.records j)))) i)

      pub gone_first : (more : List Name) × (bundle_of o w log j x ≡ x ∷ more)
      gone_first = (
        take 63 (filter (goes_with o x) (map (name_of_record j) rest)),
        ap (take 64) (sym going_names) ∙ rw (and_from (time_of o x == time_of o x) (receiver o x == receiver o x) (eq-eqb (time_of o x) (time_of o x) refl) (eq-eqb (receiver o x) (receiver o x) refl)) refl,
      )

      gone_some : 0 < length (bundle_of o w log j x)
      gone_some = let e : length (bundle_of o w log j x) ≡ suc (length gone_first.0) = ap length gone_first.1 in omega arith

      gone_few : length (bundle_of o w log j x) ≤ 64
      gone_few = let e : length (bundle_of o w log j x) ≡ _ = length-take 64 (filter held_with (ascending (o.records j))) in omega arith

      gone_along : (z : Name) → In z (bundle_of o w log j x) → (time_of o z ≡ time_of o x) × (receiver o z ≡ receiver o x)
      gone_along z i =
          let f = In_filter (goes_with o x) z names (gone_held z i) in
          let p = and_parts (time_of o z == time_of o x) (receiver o z == receiver o x) f.1 in
          (eqb-true (time_of o z) (time_of o x) p.0, eqb-true (receiver o z) (receiver o x) p.1)

      gone_is_held : (z : Name) → In z (bundle_of o w log j x) → (is_rec j z ≡ true) × (is_given o w log z ≡ true)
      gone_is_held z i = let u = (h.unsent z).0 (In_filter (goes_with o x) z names (gone_held z i)).0 in (u.0, u.2)

      is_message : IsMessage o (bundle_of o w log j x)
      is_message =
          record {
            some = gone_some;
            few = gone_few;
            together = λ y z i k. let a = gone_along y i in let b = gone_along z k in (b.0 ∙ sym a.0, b.1 ∙ sym a.1);
            records = λ l. (j, (λ z i. (gone_is_held z i).0));
            ordered = left_ascends 64 (filter held_with (ascending (o.records j))) (filter_ascends held_with (ascending (o.records j)) (ascending_ascends (o.records j)));
          }

      pub is_bundle : LogIsLegal o w log → IsBundle q job (record { stage = j; recs = going notes along n held })
      is_bundle legal =
          record {
            records = All-filter (goes_to notes along) (IsRecordOf q job j) (take n held) (All-take (IsRecordOf q job j) n held content);
            message = subst (IsMessage o) (sym bundle_is) is_message;
            sender = subst (HasOneSender o) (sym bundle_is) (λ y z i k. given_own o w log legal z (gone_is_held z k).1 ∙ sym (given_own o w log legal y (gone_is_held y i).1));
          }

-- The same of a router whose first record is known

-- what is taken out is a bundle, and that of the log
pub record Sends {Cell : Type 0} (q : QueryFacts Cell) (job : JobFacts) (w : ℕ) (log : Log) (j : ℕ) (r : Rec) (gone : List Rec) : Type 0 where
  pub bundle : LogIsLegal (outline_of q job) w log → IsBundle q job (record { stage = j; recs = gone })
  pub names : IsBundleOf q job w log j (name_of_record j r) (record { stage = j; recs = gone })

module _ {Cell : Type 0} (q : QueryFacts Cell) (job : JobFacts) (j : ℕ) (r : Rec) (notes : Notes) (seen : Seen) (known : OwnersAreKnown q job notes seen j) (passed : HasPassed (seen_at seen CtlMail) r.time) (new : InOrder Rec) (a : Along) (is : a ≡ along_with notes j job.shape.bins r) where
  pub sends : (w : ℕ) (log : Log) (old : InOrder Rec) (gone : List Rec) → slice_get old.items 0 ≡ Some r → All (IsRecordOf q job j) old.items → IsInOrder tag_rank old.items → HoldsUnsent q job w log (routed j old) → TakesAlong notes a 64 old gone new → Sends q job w log j r gone
  sends w log old gone first content order h t =
      let s = starts old.items r first in
      subst (λ (rs : List Rec). Sends q job w log j r rs) (sym t.gone_is)
      (subst
      (λ (items : List Rec). All (IsRecordOf q job j) items → IsInOrder tag_rank items → HoldsUnsent q job w log (record { stage = j; held = items; room = old.room }) → IsCount notes a 64 items t.looked (length gone) → Sends q job w log j r (going notes a t.looked items))
      s.1
      (λ c i u n. subst (λ (b : Along). IsCount notes b 64 (r ∷ s.0) t.looked (length gone) → Sends q job w log j r (going notes b t.looked (r ∷ s.0))) (sym is) (core s.0 t.looked (length gone) c i u) n)
      content
      order
      h
      t.count)
    where
      core : (rest : List Rec) (n m : ℕ) → All (IsRecordOf q job j) (r ∷ rest) → IsInOrder tag_rank (r ∷ rest) → HoldsUnsent q job w log (record { stage = j; held = r ∷ rest; room = old.room })
          → IsCount notes (along_with notes j job.shape.bins r) 64 (r ∷ rest) n m → Sends q job w log j r (going notes (along_with notes j job.shape.bins r) n (r ∷ rest))
      core rest n m c i u k =
          let first = gone_first q job w log j r rest old.room c i u notes seen known passed n m k in
          let named = bundle_is q job w log j r rest old.room c i u notes seen known passed n m k in
          record {
            bundle = is_bundle q job w log j r rest old.room c i u notes seen known passed n m k;
            names = (named, (first.0, named ∙ first.1));
          }
