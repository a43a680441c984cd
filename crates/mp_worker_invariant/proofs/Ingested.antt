-- What becomes of the router of stage 0 as its worker takes in the next record of its share, and which record that is.
use Rattle.std.proofs.Common.{◌≡◌, ◌⊎◌, ℕ, zero, suc, ◌+◌, ◌<◌, ◌%◌, ◌==◌, ◌&&◌, Bool, true, false, cond, Option, None, Some, List, [], ◌∷◌, ◌++◌, length, filter, map, nat_lt, slice_get, refl, sym, ap, ◌∙◌, subst, inl, inr, ⊎_elim, arith, append_assoc}
use Rattle.std.specs.List.{cons_option, enumerate_from, filter_map, range_with_len}
use Rattle.std.specs.Option.{is_some, option_map, option_map_or}
use Rattle.std.proofs.lemmas.Bool.{false≢true, both_ways, cond-true, eqb-true, false_from_ne_true, lt-ltb}
use Rattle.std.proofs.lemmas.Option.{none-some, same_Some, slice_get-map}
use Rattle.mp_names.specs.declared.names.Name.{Name}
use Rattle.mp_names.specs.declared.names.Name.TheVariants.{Rec as RecName, Written}
use Rattle.mp_names.specs.Names.{has, In, Distinct, IsPrefix, is_rec}
use Rattle.mp_names.specs.Outlines.{Outline, OutlineIsSound, sender, share}
use Rattle.mp_names.specs.Logs.{Log, LogIsLegal, IsGiven, is_given, with_ingested}
use Rattle.mp_names.specs.Keeping.{IsHeld}
use Rattle.mp_names.proofs.Lists.{Distinct_filter, In_filter, In_here, In_left, In_prefix, In_push, In_right}
use Rattle.mp_names.proofs.Listed.{record_owed}
use Rattle.mp_machine.proofs.Mailboxes.{once_apart}
use Rattle.mp_model.specs.declared.record.Event.{Event}
use Rattle.mp_model.specs.declared.record.Rec.{Rec}
use Rattle.mp_model.specs.Facts.{JobFacts, QueryFacts}
use Rattle.mp_model.specs.Stages.{record_of}
use Rattle.mp_job.specs.Records.{record_at, share_of}
use Rattle.mp_outline.specs.JobOutline.{name_of_record, outline_of}
use Rattle.mp_outline.proofs.Records.{input_stands}
use Rattle.mp_msg.specs.Contents.{IsRecordOf}
use Rattle.mp_route.specs.Unsent.{HoldsOneMore}
use Rattle.mp_worker_invariant.specs.Laws.{SharesAreIngested}

-- Records of stage 0 are given as they are ingested

zero_given : (o : Outline) (w : ℕ) (log : Log) (x : Name) → is_rec 0 x ≡ true → is_given o w log x ≡ has log.ingested x
zero_given o w log (RecName zero t k g) h = refl
zero_given o w log (RecName (suc i) t k g) h = let e : suc i ≡ 0 = eqb-true (suc i) 0 h in absurd (omega arith)
zero_given o w log _ h = absurd (false≢true h)

-- a record may be sent where it is given
pub may_be_given : (o : Outline) (w : ℕ) (log : Log) (j : ℕ) (x : Name) → is_rec j x ≡ true → IsGiven o w log x → is_given o w log x ≡ true
may_be_given o w log j (RecName i t k g) h e = e
may_be_given o w log j _ h e = absurd (false≢true h)

module _ (o : Outline) (sound : OutlineIsSound o) (w : ℕ) (log : Log) (legal : LogIsLegal o w log) (x : Name) (next : IsPrefix (log.ingested ++ x ∷ []) (share o w)) where
  pub next_in_share : In x (share o w)
  next_in_share = In_prefix x (log.ingested ++ x ∷ []) (share o w) next (In_right x log.ingested (x ∷ []) (In_here x []))

  next_is : In x (o.records 0) × ((sender o x == w) ≡ true)
  next_is = In_filter (λ y. sender o y == w) x (o.records 0) next_in_share

  is_input : is_rec 0 x ≡ true
  is_input = (sound.records_are 0 x next_is.0).1

  -- it wasn't ingested
  pub next_is_new : has log.ingested x ≡ false
  next_is_new =
      once_apart log.ingested (x ∷ next.0) x
      (subst Distinct (sym next.1 ∙ append_assoc log.ingested (x ∷ []) next.0) (Distinct_filter (λ y. sender o y == w) (o.records 0) (sound.records_once 0)))
      (In_here x next.0)

  -- so it wasn't sent
  pub next_is_unsent : has log.sent x ≡ false
  next_is_unsent =
      false_from_ne_true (has log.sent x) (λ i. both_ways (has log.ingested x) next_is_new (sym (zero_given o w log x is_input) ∙ may_be_given o w log 0 x is_input (legal.sent_given x i)))

  pub not_held_before : IsHeld o w log (is_rec 0) x → ⊥
  not_held_before h = both_ways (has log.ingested x) next_is_new (sym (zero_given o w log x is_input) ∙ h.2)

  held_now : IsHeld o w (with_ingested log x) (is_rec 0) x
  held_now = (is_input, record_owed o sound 0 x next_is.0, zero_given o w (with_ingested log x) x is_input ∙ In_right x log.ingested (x ∷ []) (In_here x []), next_is_unsent)

  held_still : (y : Name) → IsHeld o w log (is_rec 0) y → IsHeld o w (with_ingested log x) (is_rec 0) y
  held_still y h = (h.0, h.1, zero_given o w (with_ingested log x) y h.0 ∙ In_left y log.ingested (x ∷ []) (sym (zero_given o w log y h.0) ∙ h.2), h.3)

  pub one_is_held : (y : Name) → IsHeld o w (with_ingested log x) (is_rec 0) y → IsHeld o w log (is_rec 0) y ⊎ (y ≡ x)
  one_is_held y h =
      ⊎_elim
      (λ (i : In y log.ingested). inl (h.0, h.1, zero_given o w log y h.0 ∙ i, h.3))
      (λ (e : x ≡ y). inr (sym e))
      (In_push y x log.ingested (sym (zero_given o w (with_ingested log x) y h.0) ∙ h.2))

  pub held_is_one : (y : Name) → IsHeld o w log (is_rec 0) y ⊎ (y ≡ x) → IsHeld o w (with_ingested log x) (is_rec 0) y
  held_is_one y h = ⊎_elim (held_still y) (λ (e : y ≡ x). subst (λ (z : Name). IsHeld o w (with_ingested log x) (is_rec 0) z) (sym e) held_now) h

-- The shares of a job

-- the name of the record of an index, if there is one
abbrev name_at : (ℕ → Option Rec) → ℕ → Name
name_at at i = option_map_or (name_of_record 0) (at i) (Written 0)

module _ (at : ℕ → Option Rec) (tagged : (i : ℕ) (r : Rec) → at i ≡ Some r → r.tag.1 ≡ i) (workers w : ℕ) (p : Name → Bool) (told : (r : Rec) → p (name_of_record 0 r) ≡ (r.tag.1 % workers == w)) where
  abbrev is_mine : ℕ → Bool
  is_mine i = is_some (at i) && i % workers == w

  first_named : (a : ℕ) (made : Option Rec) → at a ≡ made → (rs : List Rec) (is : List ℕ) → filter p (map (name_of_record 0) rs) ≡ map (name_at at) is
      → filter p (map (name_of_record 0) (cons_option made rs)) ≡ map (name_at at) (cond (is_mine a) (a ∷ is) is)
  first_named a None e rs is rest = rw e rest
  first_named a (Some r) e rs is rest =
      let mine : p (name_of_record 0 r) ≡ (a % workers == w) = told r ∙ ap (λ (n : ℕ). n % workers == w) (tagged a r e) in
      rw (mine, e) (pick (a % workers == w))
    where
      pick : (b : Bool) → cond b (name_of_record 0 r ∷ filter p (map (name_of_record 0) rs)) (filter p (map (name_of_record 0) rs)) ≡ map (name_at at) (cond b (a ∷ is) is)
      pick true = ap (λ (o : Option Rec). option_map_or (name_of_record 0) o (Written 0) ∷ filter p (map (name_of_record 0) rs)) (sym e) ∙ ap (λ (xs : List Name). name_at at a ∷ xs) rest
      pick false = rest

  share_named : (make : ℕ × Event → Option Rec) (a : ℕ) (es : List Event) → ((m : ℕ) (e : Event) → slice_get es m ≡ Some e → at (a + m) ≡ make (a + m, e))
      → filter p (map (name_of_record 0) (filter_map make (enumerate_from a es))) ≡ map (name_at at) (filter is_mine (range_with_len a (length es)))
  share_named make a [] h = refl
  share_named make a (e ∷ es) h =
      let zeroth : a + 0 ≡ a = omega arith in
      first_named a (make (a, e)) (subst (λ (n : ℕ). at n ≡ make (n, e)) zeroth (h 0 e refl)) (filter_map make (enumerate_from (a + 1) es)) (filter is_mine (range_with_len (a + 1) (length es)))
      (share_named make (a + 1) es (λ m d f. let s : a + suc m ≡ a + 1 + m = omega arith in subst (λ (n : ℕ). at n ≡ make (n, d)) s (h (suc m) d f)))

-- what comes after a beginning
after : {X : Type 0} (xs rest : List X) → slice_get (xs ++ rest) (length xs) ≡ slice_get rest 0
after [] rest = refl
after (x ∷ xs) rest = after xs rest

-- a beginning goes on with the name at its length
pub goes_on : (xs ys : List Name) (x : Name) → IsPrefix xs ys → slice_get ys (length xs) ≡ Some x → IsPrefix (xs ++ x ∷ []) ys
goes_on xs ys x p e = go p.0 p.1
  where
    go : (rest : List Name) → xs ++ rest ≡ ys → IsPrefix (xs ++ x ∷ []) ys
    go [] f = absurd (none-some x (sym (after xs []) ∙ (ap (λ (zs : List Name). slice_get zs (length xs)) f ∙ e)))
    go (r ∷ rest) f =
        let same = same_Some r x (sym (after xs (r ∷ rest)) ∙ (ap (λ (zs : List Name). slice_get zs (length xs)) f ∙ e)) in
        (rest, append_assoc xs (x ∷ []) rest ∙ (ap (λ (z : Name). xs ++ z ∷ rest) (sym same) ∙ f))

-- and with no other
pub went_on : (xs ys : List Name) (x : Name) → IsPrefix (xs ++ x ∷ []) ys → slice_get ys (length xs) ≡ Some x
went_on xs ys x p =
    ap (λ (zs : List Name). slice_get zs (length xs)) (sym p.1 ∙ append_assoc xs (x ∷ []) p.0) ∙ after xs (x ∷ p.0)

module _ {Cell : Type 0} (q : QueryFacts Cell) (job : JobFacts) where
  -- the share of the outline has the names of the records of the job's share
  pub share_is : (w : ℕ) → 0 < job.shape.stages → share (outline_of q job) w ≡ map (name_at (record_at q job.events)) (share_of q job.events job.shape.workers w)
  share_is w some =
      let o = outline_of q job in
      ap (filter (λ x. sender o x == w)) (cond-true (nat_lt 0 job.shape.stages) (map (name_of_record 0) (filter_map (λ (p : ℕ × Event). record_of q p.0 p.1) (enumerate_from 0 job.events))) [] (lt-ltb 0 job.shape.stages some))
      ∙ share_named (record_at q job.events) (λ i r e. ap (λ g. g.1) (input_stands q job.events i r e).1) job.shape.workers w (λ x. sender o x == w) (λ r. refl) (λ (p : ℕ × Event). record_of q p.0 p.1) 0 job.events (λ m e f. there m e f)
    where
      there : (m : ℕ) (e : Event) → slice_get job.events m ≡ Some e → record_at q job.events (0 + m) ≡ record_of q (0 + m) e
      there m e f = let z : m ≡ 0 + m = omega arith in subst (λ (n : ℕ). record_at q job.events n ≡ record_of q n e) z (rw f refl)

  module _ (some : 0 < job.shape.stages) (w : ℕ) (log : Log) (n : ℕ) (place : n ≡ length log.ingested) where
    place_in_share : slice_get (share (outline_of q job) w) (length log.ingested) ≡ slice_get (map (name_at (record_at q job.events)) (share_of q job.events job.shape.workers w)) n
    place_in_share = ap (λ (l : List Name). slice_get l (length log.ingested)) (share_is w some) ∙ ap (slice_get (map (name_at (record_at q job.events)) (share_of q job.events job.shape.workers w))) (sym place)

    -- the record of the index at the next place of the job's share is the next of the outline's
    pub next_of_share : IsPrefix log.ingested (share (outline_of q job) w) → (i : ℕ) (r : Rec) → slice_get (share_of q job.events job.shape.workers w) n ≡ Some i → record_at q job.events i ≡ Some r
        → IsPrefix (log.ingested ++ name_of_record 0 r ∷ []) (share (outline_of q job) w) × IsRecordOf q job 0 r
    next_of_share begins i r at makes =
        let named : slice_get (map (name_at (record_at q job.events)) (share_of q job.events job.shape.workers w)) n ≡ Some (name_at (record_at q job.events) i) =
        slice_get-map (name_at (record_at q job.events)) (share_of q job.events job.shape.workers w) n ∙ ap (λ o. option_map (name_at (record_at q job.events)) o) at in
        let name : name_at (record_at q job.events) i ≡ name_of_record 0 r = ap (λ (o : Option Rec). option_map_or (name_of_record 0) o (Written 0)) makes in
        (goes_on log.ingested (share (outline_of q job) w) (name_of_record 0 r) begins (place_in_share ∙ (named ∙ ap Some name)), (some, (input_stands q job.events i r makes).0))

    -- and where there is no further place the share is done
    pub share_is_done : slice_get (share_of q job.events job.shape.workers w) n ≡ None → (x : Name) → IsPrefix (log.ingested ++ x ∷ []) (share (outline_of q job) w) → ⊥
    share_is_done at x p =
        let named : slice_get (map (name_at (record_at q job.events)) (share_of q job.events job.shape.workers w)) n ≡ None =
        slice_get-map (name_at (record_at q job.events)) (share_of q job.events job.shape.workers w) n ∙ ap (λ o. option_map (name_at (record_at q job.events)) o) at in
        none-some x (sym (place_in_share ∙ named) ∙ went_on log.ingested (share (outline_of q job) w) x p)

  -- the router of stage 0 has one record more to hold
  pub one_more_ingested : OutlineIsSound (outline_of q job) → (w : ℕ) (log : Log) (x : Name) → LogIsLegal (outline_of q job) w log → IsPrefix (log.ingested ++ x ∷ []) (share (outline_of q job) w) → HoldsOneMore q job w log (with_ingested log x) 0 x
  one_more_ingested sound w log x legal next =
      let o = outline_of q job in
      record {
        not_before = not_held_before o sound w log legal x next;
        now = λ y. (one_is_held o sound w log legal x next y, held_is_one o sound w log legal x next y);
      }

  pub shares_are_ingested : OutlineIsSound (outline_of q job) → (w : ℕ) (log : Log) → LogIsLegal (outline_of q job) w log → SharesAreIngested q job w log
  shares_are_ingested sound w log legal = record {
    is_new = λ x next. (next_in_share (outline_of q job) sound w log legal x next, next_is_new (outline_of q job) sound w log legal x next);
    one_more = λ x next. one_more_ingested sound w log x legal next;
    next = λ n i r place. next_of_share sound.some_stage w log n place legal.ingested_in_order i r;
    over = λ n place. share_is_done sound.some_stage w log n place;
  }
