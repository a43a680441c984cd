-- As many records of a time are held as the log adds to the count of the location.
use Rattle.std.proofs.Common.{◌≡◌, ℕ, ◌+◌, ◌&&◌, ◌==◌, not, Bool, true, false, cond, List, [], ◌∷◌, map, count_by, pos, Contains, refl, sym, ap, ◌∙◌, subst, arith}
use Rattle.std.proofs.lemmas.Bool.{and_from, and_parts, eq-eqb, eqb-true, false≢true}
use Rattle.std.proofs.lemmas.List.Sums.{sum_by-cons}
use Rattle.mp_names.specs.declared.names.Name.{Name}
use Rattle.mp_names.specs.declared.names.Name.TheVariants.{Ctrl, Rec as RecName, Packet, Row, Group, Settled, Written}
use Rattle.mp_names.specs.Frontiers.{is_held}
use Rattle.mp_names.specs.Logs.{is_given}
use Rattle.mp_names.specs.Names.{In, has, is_rec}
use Rattle.mp_names.specs.Outlines.{IsOwed, Outline, time_of}
use Rattle.mp_names.proofs.Lists.{same_count}
use Rattle.mp_model.specs.Facts.{JobFacts, QueryFacts}
use Rattle.mp_job.proofs.Members.{Contains-here, Contains-later}
use Rattle.mp_outline.specs.JobOutline.{name_of_record, outline_of, record_names}
use Rattle.mp_outline.proofs.Named.{named_In}
use Rattle.mp_outline.proofs.Stages.{record_named}
use Rattle.mp_outline.proofs.Soundness.{names_once}
use Rattle.mp_route.specs.Laws.{HeldAreCounted}
use Rattle.mp_route.specs.Unsent.{names_held}

abbrev one : Bool → ℕ
one b = cond b 1 0

-- as many names pass a test as things pass another, where each name passes as its thing does
count_named : {X : Type 0} (f : X → Name) (p : Name → Bool) (q : X → Bool) (xs : List X) → ((x : X) → Contains xs x → p (f x) ≡ q x) → count_by p (map f xs) ≡ count_by q xs
count_named f p q [] h = refl
count_named f p q (x ∷ xs) h =
    let a : count_by p (map f (x ∷ xs)) ≡ one (p (f x)) + count_by p (map f xs) = sum_by-cons (λ y. cond (p y) 1 0) (f x) (map f xs) in
    let b : count_by q (x ∷ xs) ≡ one (q x) + count_by q xs = sum_by-cons (λ y. cond (q y) 1 0) x xs in
    let c : one (p (f x)) ≡ one (q x) = ap (λ (b : Bool). one b) (h x (Contains-here x xs)) in
    let d = count_named f p q xs (λ y i. h y (Contains-later x y xs i)) in
    omega arith

-- a record that has to be sent is listed
pub owed_listed : (o : Outline) (j : ℕ) (x : Name) → is_rec j x ≡ true → IsOwed o x → In x (o.records j)
owed_listed o j (RecName i t k g) e h = subst (λ (n : ℕ). In (RecName i t k g) (o.records n)) (eqb-true i j e) h.1
owed_listed o j (Ctrl i v) e h = absurd (false≢true e)
owed_listed o j (Packet i b t) e h = absurd (false≢true e)
owed_listed o j (Row t g) e h = absurd (false≢true e)
owed_listed o j (Group i t k) e h = absurd (false≢true e)
owed_listed o j (Settled i t) e h = absurd (false≢true e)
owed_listed o j (Written t) e h = absurd (false≢true e)

is_false : (b : Bool) → not b ≡ true → b ≡ false
is_false true e = absurd (false≢true e)
is_false false e = refl

is_not : (b : Bool) → b ≡ false → not b ≡ true
is_not true e = absurd (false≢true (sym e))
is_not false e = refl

under_true : (b c : Bool) → b ≡ true → (b && c) ≡ c
under_true true c e = refl
under_true false c e = absurd (false≢true e)

module _ {Cell : Type 0} (q : QueryFacts Cell) (job : JobFacts) where
  -- a name that is listed is that of a record, which has to be sent
  pub listed_owed : (j : ℕ) (x : Name) → In x (record_names q job j) → (is_rec j x ≡ true) × IsOwed (outline_of q job) x
  listed_owed j x i =
      let a = record_named q job j x i in
      subst (λ (y : Name). (is_rec j y ≡ true) × IsOwed (outline_of q job) y) a.2 (eq-eqb j j refl, (a.3, subst (λ (y : Name). In y (record_names q job j)) (sym a.2) i))

  pub held_are_counted : HeldAreCounted q job
  held_are_counted w log h t u =
      let o = outline_of q job in
      let at_time : Name → Bool = λ x. is_held o w log x && time_of o x == t in
      ap pos
      (sym (count_named (name_of_record h.stage) at_time (λ r. r.time == t) h.held (λ r i. under_true (is_held o w log (name_of_record h.stage r)) (r.time == t) (held (name_of_record h.stage r) (named_In (name_of_record h.stage) h.held r i))))
      ∙ sym (same_count at_time (names_held h) (record_names q job h.stage) u.once (names_once q job h.stage) listed denotes))
    where
      held : (x : Name) → In x (names_held h) → is_held (outline_of q job) w log x ≡ true
      held x i =
          let a = (u.unsent x).0 i in
          and_from (is_given (outline_of q job) w log x) (not (has log.sent x)) a.2 (is_not (has log.sent x) a.3)

      listed : (x : Name) → In x (names_held h) → (is_held (outline_of q job) w log x && time_of (outline_of q job) x == t) ≡ true → In x (record_names q job h.stage)
      listed x i e = let a = (u.unsent x).0 i in owed_listed (outline_of q job) h.stage x a.0 a.1

      denotes : (x : Name) → In x (record_names q job h.stage) → (is_held (outline_of q job) w log x && time_of (outline_of q job) x == t) ≡ true → In x (names_held h)
      denotes x i e =
          let o = outline_of q job in
          let p = and_parts (is_held o w log x) (time_of o x == t) e in
          let g = and_parts (is_given o w log x) (not (has log.sent x)) p.0 in
          let kind = listed_owed h.stage x i in
          (u.unsent x).1 (kind.0, kind.1, g.0, is_false (has log.sent x) g.1)
