-- What a router holds once several of its records are taken out, and once they are sent.
use Rattle.std.proofs.Common.{◌≡◌, ℕ, zero, suc, Bool, false, not, List, [], ◌∷◌, ◌++◌, drop, filter, map, take, refl, sym, ap, ◌∙◌, subst, ⊎_elim}
use Rattle.std.proofs.Math.ListN.{take-append-drop}
use Rattle.std.proofs.lemmas.Bool.{both_ways, false_from_ne_true}
use Rattle.mp_names.specs.declared.names.Name.{Name}
use Rattle.mp_names.specs.declared.names.Name.TheVariants.{Ctrl, Rec as RecName, Packet, Row, Group, Settled, Written}
use Rattle.mp_names.specs.Logs.{Log, is_given}
use Rattle.mp_names.specs.Keeping.{IsHeld}
use Rattle.mp_names.specs.Names.{Distinct, In, has, is_rec}
use Rattle.mp_names.specs.Outlines.{Outline}
use Rattle.mp_names.proofs.Lists.{In_append, In_cases, In_left, In_right}
use Rattle.mp_model.specs.declared.record.Rec.{Rec}
use Rattle.mp_model.specs.Facts.{JobFacts, QueryFacts}
use Rattle.mp_outline.specs.JobOutline.{name_of_record, outline_of}
use Rattle.mp_bins.specs.Notes.{Notes}
use Rattle.mp_ordered.specs.InOrder.{InOrder}
use Rattle.mp_route.specs.declared.along.Along.{Along}
use Rattle.mp_route.specs.Along.{TakesAlong, goes_to, going}
use Rattle.mp_route.specs.Routed.{Routed}
use Rattle.mp_route.specs.Unsent.{HoldsAllBut, HoldsUnsent, names_held, with_all_sent}
use Rattle.mp_route.proofs.Holding.{routed}
use Rattle.mp_route.proofs.Parted.{In_parted, from_front_In, parted_In, parted_once, to_front_In, to_front_once}

-- what is sent changes nothing of what is given
given_same : (o : Outline) (w : ℕ) (log : Log) (xs : List Name) (y : Name) → is_given o w (with_all_sent log xs) y ≡ is_given o w log y
given_same o w log xs (Ctrl i v) = refl
given_same o w log xs (RecName j t k g) = at j
  where
    at : (i : ℕ) → is_given o w (with_all_sent log xs) (RecName i t k g) ≡ is_given o w log (RecName i t k g)
    at zero = refl
    at (suc i) = refl
given_same o w log xs (Packet j b t) = refl
given_same o w log xs (Row t g) = refl
given_same o w log xs (Group j t k) = refl
given_same o w log xs (Settled j t) = refl
given_same o w log xs (Written t) = refl

-- of two lists without a common name each name of the second isn't in the first
apart : (xs ys : List Name) → Distinct (xs ++ ys) → (z : Name) → In z ys → has xs z ≡ false
apart [] ys d z i = refl
apart (x ∷ xs) ys d z i =
    false_from_ne_true (has (x ∷ xs) z) (λ k.
    ⊎_elim
    (λ (e : x ≡ z). both_ways (has (xs ++ ys) x) d.0 (subst (λ (u : Name). In u (xs ++ ys)) (sym e) (In_right z xs ys i)))
    (λ (m : In z xs). both_ways (has xs z) (apart xs ys d.1 z i) m)
    (In_cases z x xs k))

second : (xs ys : List Name) → Distinct (xs ++ ys) → Distinct ys
second [] ys d = d
second (x ∷ xs) ys d = second xs ys d.1

module _ {Cell : Type 0} (q : QueryFacts Cell) (job : JobFacts) (w : ℕ) (log : Log) where
  -- once the names are sent the router holds just what is unsent
  pub all_sent : (xs : List Name) (h : Routed) → HoldsAllBut q job w log xs h → HoldsUnsent q job w (with_all_sent log xs) h
  all_sent xs h a =
      let o = outline_of q job in
      let names = names_held h in
      record {
        once = second xs names a.once;
        unsent = λ y. (
          (λ i.
              let u = (a.unsent y).0 (In_right y xs names i) in (
                u.0,
                u.1,
                given_same o w log xs y ∙ u.2,
                false_from_ne_true (has (log.sent ++ xs) y) (λ k. ⊎_elim (λ (m : In y log.sent). both_ways (has log.sent y) u.3 m) (λ (m : In y xs). both_ways (has xs y) (apart xs names a.once y i) m) (In_append y log.sent xs k)),
              )),
          (λ u.
              let before : IsHeld o w log (is_rec h.stage) y = (u.0, u.1, sym (given_same o w log xs y) ∙ u.2, false_from_ne_true (has log.sent y) (λ m. both_ways (has (log.sent ++ xs) y) u.3 (In_left y log.sent xs m))) in
              ⊎_elim
              (λ (m : In y xs). absurd (both_ways (has (log.sent ++ xs) y) u.3 (In_right y log.sent xs m)))
              (λ (m : In y names). m)
              (In_append y xs names ((a.unsent y).1 before))),
        );
      }

  -- those that are taken out are all that is missing
  pub all_but : (j n : ℕ) (p : Rec → Bool) (held : List Rec) (room more : ℕ)
      → HoldsUnsent q job w log (record { stage = j; held = held; room = room })
      → HoldsAllBut q job w log (map (name_of_record j) (filter p (take n held))) (record { stage = j; held = filter (λ r. not (p r)) (take n held) ++ drop n held; room = more })
  all_but j n p held room more h =
      let f = name_of_record j in
      let whole = take-append-drop n held in
      let same : map f (take n held ++ drop n held) ≡ map f held = ap (map f) whole in
      record {
        once = parted_once p f (take n held) (drop n held) (subst Distinct (sym same) h.once);
        unsent = λ z. (
          (λ i. (h.unsent z).0 (subst (In z) same (In_parted p f (take n held) (drop n held) z i))),
          (λ u. parted_In p f (take n held) (drop n held) z (subst (In z) (sym same) ((h.unsent z).1 u))),
        );
      }

  -- which of the names that are missing stands first is one
  pub to_front : (x : Name) (xs ys : List Name) (h : Routed) → HoldsAllBut q job w log (xs ++ x ∷ ys) h → HoldsAllBut q job w log (x ∷ xs ++ ys) h
  to_front x xs ys h a =
      record {
        once = to_front_once x xs ys (names_held h) a.once;
        unsent = λ z. ((λ i. (a.unsent z).0 (from_front_In x xs ys (names_held h) z i)), (λ u. to_front_In x xs ys (names_held h) z ((a.unsent z).1 u)));
      }

  pub taken_out : (j : ℕ) (notes : Notes) (a : Along) (old new : InOrder Rec) (gone : List Rec) → TakesAlong notes a 64 old gone new → HoldsUnsent q job w log (routed j old) → HoldsAllBut q job w log (map (name_of_record j) gone) (routed j new)
  taken_out j notes a old new gone t h =
      subst (λ (rs : List Rec). HoldsAllBut q job w log (map (name_of_record j) rs) (routed j new)) (sym t.gone_is)
      (subst (λ (items : List Rec). HoldsAllBut q job w log (map (name_of_record j) (going notes a t.looked old.items)) (record { stage = j; held = items; room = new.room })) (sym t.left)
      (all_but j t.looked (goes_to notes a) old.items old.room new.room h))
