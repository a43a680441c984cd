-- The name with which a worker can make its next step along a list.
use Rattle.std.proofs.Common.{◌≡◌, ◌↔◌, ℕ, ◌-◌, ◌<◌, true, List, length, get_or, Option, None, Some, refl, sym, ap, ◌∙◌, subst, arith}
use Rattle.std.specs.List.{slice_get}
use Rattle.std.proofs.lemmas.Option.{slice_get-map, slice_get_within, slice_get_read}
use Rattle.std.specs.Option.{option_map}
use Rattle.mp_names.specs.declared.names.Name.{Name}
use Rattle.mp_names.specs.declared.kinds.Kind.{Kind}
use Rattle.mp_names.specs.Outlines.{Outline, receiver}
use Rattle.mp_machine.specs.Worlds.{World, Worker}
use Rattle.mp_machine.specs.Steps.{KindFits, MailAllows, CanStep}
use Rattle.mp_machine.specs.Runs.{run_of_machine}
use Rattle.mp_player_laws.specs.Numbers.{numbers_of, StandsAt}
use Rattle.mp_player_laws.proofs.Counted.{steps_counted}
use Rattle.mp_chart.specs.declared.entry.Entry.{Entry}
use Rattle.mp_chart.specs.Entries.{entry_of, entries_of}
use Rattle.mp_chart.specs.Lists.{to_do, goes_along, number_at, HasSeenEnough}
use Rattle.mp_chart.proofs.Deciding.{is_decided}
use Rattle.mp_standing.specs.Boxes.{box_of}
use Rattle.mp_standing.specs.declared.standing.Standing.{Standing}
use Rattle.mp_standing.specs.Numbers.{done_at}
use Rattle.mp_standing.specs.Standings.{Stands, sends}
use Rattle.mp_player.specs.declared.state.State.{State}
use Rattle.mp_player.specs.Shows.{Shows, IsNextAlong}
use Rattle.mp_player.proofs.Mails.{allows, as_long}

no_entry : (o : Outline) (q : Option Name) (x : Name) → q ≡ Some x → option_map (entry_of o) q ≡ None → ⊥
no_entry o q x e n = let f : option_map (entry_of o) (Some x) ≡ None = subst (λ (r : Option Name). option_map (entry_of o) r ≡ None) e n in absurd (cc)

found_name : (o : Outline) (q : Option Name) (e : Entry) → option_map (entry_of o) q ≡ Some e → (x : Name) × (q ≡ Some x) × (e ≡ entry_of o x)
found_name o None e f = absurd (cc)
found_name o (Some x) e f = let same : e ≡ entry_of o x = cc in (x, refl, same)

module _ (o : Outline) (depth : ℕ) (world : World) (w : ℕ) (kind : Kind) (g : goes_along kind ≡ true) (state : State) (shows : Shows o depth state world) (s : Standing) (there : slice_get state.standings.items w ≡ Some s) where
  decided : (l : w < o.workers) (x : Name) → CanStep o depth world w kind x ↔ (KindFits o kind × StandsAt (to_do o w kind) (number_at (numbers_of (world.worker w).log) kind) x × HasSeenEnough o w (world.worker w) kind x × MailAllows o depth world.mailbox w kind x)
  decided l x =
      subst (λ (wd : World). CanStep o depth wd w kind x ↔ (KindFits o kind × StandsAt (to_do o w kind) (number_at (numbers_of (wd.worker w).log) kind) x × HasSeenEnough o w (wd.worker w) kind x × MailAllows o depth wd.mailbox w kind x)) (sym shows.reached.run)
      (is_decided o depth (run_of_machine o depth shows.reached.steps) w (steps_counted o shows.reached.sound depth shows.reached.steps w l) kind x g)

  stands : Stands o w s (world.worker w)
  stands = shows.each w s there

  module _ (place : ℕ) (count : place ≡ done_at s.done kind) where
    -- where it can make a step, its name stands at the place
    stands_there : (l : w < o.workers) (x : Name) → CanStep o depth world w kind x → StandsAt (to_do o w kind) place x
    stands_there l x can = let d = (decided l x).0 can in subst (λ (n : ℕ). StandsAt (to_do o w kind) n x) (sym (count ∙ stands.done kind d.0)) d.1

    pub none_there : w < o.workers → slice_get (entries_of o (to_do o w kind)) place ≡ None → (x : Name) → CanStep o depth world w kind x → ⊥
    none_there l n x can = no_entry o (slice_get (to_do o w kind) place) x (stands_there l x can) (sym (slice_get-map (entry_of o) (to_do o w kind) place) ∙ n)

    module _ (e : Entry) (is : slice_get (entries_of o (to_do o w kind)) place ≡ Some e) where
      name_of : (x : Name) × (slice_get (to_do o w kind) place ≡ Some x) × (e ≡ entry_of o x)
      name_of = found_name o (slice_get (to_do o w kind) place) e (sym (slice_get-map (entry_of o) (to_do o w kind) place) ∙ is)

      -- it can only be that of the entry
      only_name : (l : w < o.workers) (x : Name) → CanStep o depth world w kind x → e ≡ entry_of o x
      only_name l x can = let a = stands_there l x can in let n = name_of in let b = n.1 in let same : n.0 ≡ x = cc in n.2 ∙ ap (entry_of o) same

      at_done : (x : Name) → StandsAt (to_do o w kind) place x → StandsAt (to_do o w kind) (done_at s.done kind) x
      at_done x a = subst (λ (n : ℕ). StandsAt (to_do o w kind) n x) count a

      room_of : (x : Name) → e ≡ entry_of o x → length (box_of state.mail w e.receiver) ≡ length (world.mailbox w (receiver o x))
      room_of x f = as_long o (box_of state.mail w e.receiver) (world.mailbox w e.receiver) (shows.mail w e.receiver) ∙ ap (λ (r : Entry). length (world.mailbox w r.receiver)) f

      abbrev pub Clear : Type 0
      Clear = (x : Name) (of : Worker) → KindFits o kind → StandsAt (to_do o w kind) (done_at s.done kind) x → e ≡ entry_of o x → Stands o w s of → 0 < o.stages → HasSeenEnough o w of kind x

      abbrev pub NotClear : Type 0
      NotClear = (x : Name) (of : Worker) → KindFits o kind → StandsAt (to_do o w kind) (done_at s.done kind) x → e ≡ entry_of o x → Stands o w s of → 0 < o.stages → HasSeenEnough o w of kind x → ⊥

      pub none_clear : w < o.workers → NotClear → (x : Name) → CanStep o depth world w kind x → ⊥
      none_clear l not x can = let d = (decided l x).0 can in not x (world.worker w) d.0 (at_done x (stands_there l x can)) (only_name l x can) stands shows.reached.sound.some_stage d.2

      pub none_fits : w < o.workers → (KindFits o kind → ⊥) → (x : Name) → CanStep o depth world w kind x → ⊥
      none_fits l not x can = not ((decided l x).0 can).0

      pub none_room : w < o.workers → ((sends kind ≡ true → length (box_of state.mail w e.receiver) < depth) → ⊥) → (x : Name) → CanStep o depth world w kind x → ⊥
      none_room l not x can =
          let d = (decided l x).0 can in
          let room = (allows o depth world.mailbox w kind x g).0 d.3 in
          not (λ t. subst (λ (n : ℕ). n < depth) (sym (room_of x (only_name l x can))) (room t))

      pub next_found : w < o.workers → KindFits o kind → Clear → (sends kind ≡ true → length (box_of state.mail w e.receiver) < depth) → IsNextAlong o depth w kind state world e
      next_found l fits clear room =
          let n = name_of in
          let x = n.0 in
          let at = subst (λ (m : ℕ). StandsAt (to_do o w kind) m x) (count ∙ stands.done kind fits) n.1 in
          let allowed = (allows o depth world.mailbox w kind x g).1 (λ t. subst (λ (m : ℕ). m < depth) (room_of x n.2) (room t)) in
          record {
            name = x;
            entry = n.2;
            place = λ t other. subst (λ (u : Standing). StandsAt (to_do o w kind) (done_at u.done kind) x) (same_standing t other) (at_done x n.1);
            can = (decided l x).1 (fits, at, clear x (world.worker w) fits (at_done x n.1) n.2 stands shows.reached.sound.some_stage, allowed);
          }
        where
          same_standing : (t : Standing) → slice_get state.standings.items w ≡ Some t → s ≡ t
          same_standing t other = let a = there in cc

-- a place at which an entry stands isn't too large
pub place_fits : {X : Type 0} (xs : List X) (place n : ℕ) (e : X) → slice_get xs place ≡ Some e → length xs < n → place < n - 1
place_fits xs place n e is few = let l = slice_get_within xs place e is in omega arith

-- what a place of a list has, where the list is read through another
pub there_of : (items xs : List Standing) (w : ℕ) (s : Standing) → xs ≡ items → w < length xs → s ≡ get_or xs w s → slice_get items w ≡ Some s
there_of items xs w s same low here = subst (λ (l : List Standing). slice_get l w ≡ Some s) same (slice_get_read xs (length xs) w s refl low here)
