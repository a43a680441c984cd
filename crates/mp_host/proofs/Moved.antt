-- What a host is once a state is taken out, put back or installed, and which groups come and go with it.
use Rattle.std.proofs.Common.{◌≡◌, ◌++◌, ◌||◌, ℕ, suc, ◌+◌, ◌<◌, Bool, true, false, not, Option, None, Some, List, [], ◌∷◌, All, drop, filter, get_or, length, position, take, sym, ap, ◌∙◌, subst, refl, add-one, inl, inr, ⊎_elim}
use Rattle.std.specs.List.{list_any}
use Rattle.std.proofs.lemmas.List.Elements.{All-append, All-drop, All-get_or, All-push, All-take, filter_agree}
use Rattle.std.proofs.lemmas.List.Sorted.{All-permutation, list_any-IsPermutation}
use Rattle.mp_names.specs.declared.names.Name.{Name}
use Rattle.mp_names.specs.declared.names.Name.TheVariants.{Rec as RecName}
use Rattle.mp_names.specs.Outlines.{OutlineIsSound, is_posted}
use Rattle.mp_names.proofs.Owners.{move_in_shape}
use Rattle.mp_names.proofs.NameParts.{same_parts}
use Rattle.mp_model.specs.Facts.{JobFacts, QueryFacts}
use Rattle.mp_model.specs.QueryLaws.{LaterStagesPostNothing}
use Rattle.mp_outline.specs.JobOutline.{outline_of}
use Rattle.mp_outline.proofs.Stages.{post_named, record_named}
use Rattle.mp_msg.specs.Contents.{IsPacketOf}
use Rattle.mp_msg.specs.States.{BinContent, IsOpening, IsPostedAt}
use Rattle.mp_host_laws.specs.declared.held.Held.{Held}
use Rattle.mp_host_laws.specs.Hosted.{Hosted, has_wake_in, is_held_before, state_before, waits_at, wakes_in}
use Rattle.mp_host_laws.specs.Moving.{AreNumbersOf, IsTakenOut, brought, last_first, not_waiting}
use Rattle.mp_host_laws.proofs.LastFirst.{same_items}
use Rattle.mp_host.specs.Hosts.{IsHosted, MayBeHeld}
use Rattle.mp_host.specs.Waiting.{waits_beside}
use Rattle.mp_host.proofs.Kept.{states_fit}
use Rattle.mp_host_states.proofs.Places.{around, parts_are, place_is, place_of}

or_assoc : (a b c : Bool) → (a || (b || c)) ≡ (a || b || c)
or_assoc true b c = refl
or_assoc false b c = refl

any_append : {X : Type 0} (p : X → Bool) (xs ys : List X) → list_any p (xs ++ ys) ≡ (list_any p xs || list_any p ys)
any_append p [] ys = refl
any_append p (x ∷ xs) ys = rw (any_append p xs ys) (or_assoc (p x) (list_any p xs) (list_any p ys))

module _ {Cell : Type 0} (b t : ℕ) (old new : Hosted Cell) (i : ℕ) (place : position (is_held_before b t) old.held ≡ Some i) where
  -- where the state at the first place is out it is taken out
  pub taken_out : (one : Held Cell) → new.stage ≡ old.stage → new.worker ≡ old.worker → new.records ≡ old.records
      → one ≡ get_or old.held i one → new.held ≡ take i old.held ++ last_first (drop (i + 1) old.held) → IsTakenOut b t one old new
  taken_out one stage worker records is held =
      let at = place_is (is_held_before b t) old.held i place one in
      record {
        stage = stage;
        worker = worker;
        records = records;
        front = take i old.held;
        rest = drop (suc i) old.held;
        was = around old.held i one at.inside ∙ ap (λ (s : Held Cell). take i old.held ++ s ∷ drop (suc i) old.held) (sym is);
        is = held ∙ rw add-one refl;
        none_before = at.none_before;
        found = subst (λ (s : Held Cell). is_held_before b t s ≡ true) (sym is) (at.passes one);
      }

  -- its groups that wait for nothing else wait no longer then
  pub leaving_told : (one : Held Cell) → IsTakenOut b t one old new → (d : Held Cell) (ns : List (ℕ × ℕ))
      → AreNumbersOf (filter (λ w. not (waits_beside old i (i + 1) w.0 w.1)) (wakes_in (get_or old.held i d))) ns → AreNumbersOf (not_waiting new one.state) ns
  leaving_told one taken d ns told =
      let parts = parts_are (is_held_before b t) old.held i place taken.front one taken.rest taken.was taken.none_before taken.found in
      let state = subst (λ (s : Held Cell). AreNumbersOf (filter (λ w. not (waits_beside old i (i + 1) w.0 w.1)) (wakes_in s)) ns) (parts.2 d) told in
      subst (λ (gs : List (ℕ × ℕ)). AreNumbersOf gs ns) (filter_agree (λ (w : ℕ × ℕ). not (waits_beside old i (i + 1) w.0 w.1)) (λ (w : ℕ × ℕ). not (waits_at new w.0 w.1)) (λ w. ap not (same w.0 w.1)) (wakes_in one)) state
    where
      same : (u k : ℕ) → waits_beside old i (i + 1) u k ≡ waits_at new u k
      same u k =
          let parts = parts_are (is_held_before b t) old.held i place taken.front one taken.rest taken.was taken.none_before taken.found in
          let others = sym (list_any-IsPermutation (has_wake_in u k) taken.rest (last_first taken.rest) (same_items taken.rest)) in
          rw (taken.records, taken.is, any_append (has_wake_in u k) taken.front (last_first taken.rest), others, add-one, parts.0, parts.1) refl

module _ {Cell : Type 0} (q : QueryFacts Cell) (job its : JobFacts) (h : Hosted Cell) (hosted : IsHosted q job its h) where
  -- the states that are left, and one at a place
  pub left_fit : (i : ℕ) → All (MayBeHeld q job h.stage) (take i h.held ++ last_first (drop (i + 1) h.held))
  left_fit i =
      let fit = states_fit q job its h hosted in
      let behind = All-permutation (MayBeHeld q job h.stage) (drop (i + 1) h.held) (last_first (drop (i + 1) h.held)) (same_items (drop (i + 1) h.held)) (All-drop (MayBeHeld q job h.stage) (i + 1) h.held fit) in
      All-append (MayBeHeld q job h.stage) (take i h.held) (last_first (drop (i + 1) h.held)) (All-take (MayBeHeld q job h.stage) i h.held fit) behind

  pub out_fits : (i : ℕ) (one : Held Cell) → i < length h.held → one ≡ get_or h.held i one → MayBeHeld q job h.stage one
  out_fits i one l is = subst (MayBeHeld q job h.stage) (sym is) (All-get_or (MayBeHeld q job h.stage) h.held i one l (states_fit q job its h hosted))

  -- the states with one more
  pub put_fit : (one : Held Cell) → MayBeHeld q job h.stage one → All (MayBeHeld q job h.stage) (h.held ++ one ∷ [])
  put_fit one fits = All-push (MayBeHeld q job h.stage) h.held one (states_fit q job its h hosted) fits

-- what a packet brings may be held
pub packet_fits : {Cell : Type 0} (q : QueryFacts Cell) → LaterStagesPostNothing q → (job : JobFacts) → OutlineIsSound (outline_of q job) → (j b t : ℕ) (s : BinContent Cell) → IsPacketOf q job j b t s → MayBeHeld q job j (brought b t s)
packet_fits q nothing job sound j b t s is = record {
  denotes = record { bin = (move_in_shape (outline_of q job) sound j b t is.0).1; order = is.1.order; own = is.1.own };
  caused = λ u k i.
      ⊎_elim
      (λ (first : IsOpening q j k u). inl first)
      (λ (p : (v : ℕ) × (v < t) × IsPostedAt q job j k v u).
      let a = record_named q job j (RecName j p.0 k p.2.0) p.2.1 in
      let same = same_parts j j a.0.time p.0 a.0.key k a.0.tag p.2.0 a.2 in
      inr (a.0, a.1, same.1, post_named q nothing job j a.0 u a.1 (subst (λ (x : Name). is_posted (outline_of q job) x u ≡ true) (sym a.2) p.2.2)))
      ((is.1.wakes u k (is.1.own.wakes u k i)).0 i).1;
}

-- where no state has a place none can be taken out
pub none_taken : {Cell : Type 0} (b t : ℕ) (one : Held Cell) (old new : Hosted Cell) → IsTakenOut b t one old new → position (is_held_before b t) old.held ≡ None → ⊥
none_taken b t one old new taken e = apart (sym (ap (position (is_held_before b t)) taken.was ∙ place_of (is_held_before b t) taken.front one taken.rest taken.none_before taken.found) ∙ e)
  where
    apart : ◌≡◌ {A = Option ℕ} (Some (length taken.front)) None → ⊥
    apart e = cc

-- and where one has a place one is in hand
pub not_none : {Cell : Type 0} (b t : ℕ) (h : Hosted Cell) (i : ℕ) (d : Held Cell) → position (is_held_before b t) h.held ≡ Some i → state_before h b t ≡ None → ⊥
not_none b t h i d place e = apart (sym ((place_is (is_held_before b t) h.held i place d).found d) ∙ e)
  where
    apart : ◌≡◌ {A = Option (Held _)} (Some (get_or h.held i d)) None → ⊥
    apart e = cc
