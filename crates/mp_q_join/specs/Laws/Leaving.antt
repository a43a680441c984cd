-- What q3 and q8 leave of the events of a file may be saved.
use Rattle.std.specs.Prelude.{ℕ, zero, suc, ◌≡◌, ◌≢◌, ◌+◌, ◌<◌, ◌≤◌, ◌==◌, ◌&&◌, ◌++◌, Bool, true, false, cond, All, Option, None, Some, List, [], ◌∷◌, length, nat_le, nat_lt, not, refl}
use Rattle.std.specs.Option.{unwrap_or}
use Rattle.std.proofs.Common.{ap, arith, length-append, subst}
use Rattle.std.proofs.lemmas.Bool.{and_from, and_parts, eq-eqb, le-leb, lt-ltb}
use Rattle.std.proofs.lemmas.List.Elements.{All-head, All-tail}
use Rattle.std.proofs.lemmas.Option.{none-some, same_Some}
use Rattle.mp_names.specs.Limits.{greatest_id, longest_name, most_events}
use Rattle.mp_model.specs.declared.record.Event.{Event}
use Rattle.mp_model.specs.declared.record.Rec.{Rec}
use Rattle.mp_model.specs.declared.value.Value.{Value}
use Rattle.mp_model.specs.declared.value.Value.TheVariants.{Auction, Person}
use Rattle.mp_model.specs.Folds.{cell_before}
use Rattle.mp_model.specs.Legal.{EventIsLegal, IsLegalAt, IsName}
use Rattle.mp_model.specs.Plain.{IsPlain, NamesArePlain}
use Rattle.mp_model.specs.Stages.{stage_records}
use Rattle.mp_saved.specs.Leaving.{CellsMayBeSaved, KeysAreIds, LeavesWhatMayBeSaved}
use Rattle.mp_saved.proofs.Along.{cell_reaches}
use Rattle.mp_saved.proofs.Kept.{both_hold, few_inputs, inputs_keep}
use Rattle.mp_q_join.specs.declared.home.Home.{Home}
use Rattle.mp_q_join.specs.declared.selling.Selling.{Selling}
use Rattle.mp_q_join.specs.Joining as joining
use Rattle.mp_q_join.specs.Joining.{PersonCell, home_is_legal, ids_are_legal, person_is_legal}
use Rattle.mp_q_join.specs.Keys.{is_asked_for, seller_asked_for, seller_of}
use Rattle.mp_q_join.specs.Names.{are_plain, is_plain, name_is_legal}
use Rattle.mp_q_join.specs.Q3.{q3_with}
use Rattle.mp_q_join.specs.Q8.{q8_with}
use Rattle.mp_q_join.specs.Selling.{after_records, after_value, cell_at, selling_is_legal}

-- Names

plain_all : (name : List ℕ) → IsPlain name → are_plain name ≡ true
plain_all [] h = refl
plain_all (b ∷ bs) h =
    let PlainByte = λ (b : ℕ). ((b == 124) ≡ false) × ((b == 10) ≡ false) in
    let first = All-head PlainByte b bs h in
    and_from (is_plain b) (are_plain bs) (and_from (not (b == 124)) (not (b == 10)) (ap not first.0) (ap not first.1)) (plain_all bs (All-tail PlainByte b bs h))

-- a name within its limits that is plain may be saved
name_legal : (name : List ℕ) → IsName name → IsPlain name → name_is_legal name ≡ true
name_legal name h plain =
    and_from (nat_lt 0 (length name) && nat_le (length name) longest_name) (are_plain name)
    (and_from (nat_lt 0 (length name)) (nat_le (length name) longest_name) (lt-ltb 0 (length name) h.0) (le-leb (length name) longest_name h.1)) (plain_all name plain)

-- a record within its limits, with plain names
record IsGoodRecord (r : Rec) : Type 0 where
  legal : IsLegalAt r.time r.value
  plain : NamesArePlain r.value

abbrev IsGoodEvent : Event → Type 0
IsGoodEvent e = EventIsLegal e × NamesArePlain e.value

-- q8

seller_is_id : (t : ℕ) (v : Value) (k : ℕ) → IsLegalAt t v → seller_of v ≡ Some k → k ≤ greatest_id
seller_is_id t (Person id name city state) k h e = let same : id ≡ k = same_Some id k e in subst (λ (n : ℕ). n ≤ greatest_id) same h.0
seller_is_id t (Auction id seller category reserve expires) k h e = let same : seller ≡ k = same_Some seller k e in subst (λ (n : ℕ). n ≤ greatest_id) same h.1
seller_is_id t _ k h e = absurd (none-some k e)

-- a name that is there may be saved
abbrev IsGoodName : Option (List ℕ) → Type 0
IsGoodName None = Unit {0}
IsGoodName (Some name) = name_is_legal name ≡ true

first_name : (old : Option (List ℕ)) (name : List ℕ) → IsGoodName old → name_is_legal name ≡ true → name_is_legal (unwrap_or old name) ≡ true
first_name None name h k = k
first_name (Some old) name h k = h

selling_value : (cell : Selling) (t : ℕ) (v : Value) → IsGoodName cell.name → IsLegalAt t v → NamesArePlain v → IsGoodName (after_value cell v).name
selling_value cell t (Person id name city state) h legal plain = first_name cell.name name h (name_legal name legal.1 plain.0)
selling_value cell t (Auction id seller category reserve expires) h legal plain = h
selling_value cell t _ h legal plain = h

selling_records : (cell : Selling) (rs : List Rec) → IsGoodName cell.name → All IsGoodRecord rs → IsGoodName (after_records cell rs).name
selling_records cell [] h all = h
selling_records cell (r ∷ rs) h all =
    let first = All-head IsGoodRecord r rs all in
    selling_records (after_value cell r.value) rs (selling_value cell r.time r.value h first.legal first.plain) (All-tail IsGoodRecord r rs all)

selling_start : (woken : Bool) (cell : Selling) → IsGoodName cell.name → IsGoodName (cell_at woken cell).name
selling_start true cell h = tt
selling_start false cell h = h

selling_saved : (name : Option (List ℕ)) (sells : Bool) → IsGoodName name → (let cell : Selling = record { name = name; sells = sells } in cell ≢ record { name = None; sells = false }) → selling_is_legal name sells ≡ true
selling_saved None true h other = refl
selling_saved None false h other = absurd (other refl)
selling_saved (Some name) sells h other = h

module _ (width : ℕ) where
  q8_keys : KeysAreIds (q8_with width)
  q8_keys events legal zero l = inputs_keep (q8_with width) (λ (r : Rec). r.key ≤ greatest_id) EventIsLegal (λ i k e h is. seller_is_id e.time e.value k h.legal is) events legal.each
  q8_keys events legal (suc j) l = absurd (omega arith)

  q8_cells : CellsMayBeSaved (q8_with width)
  q8_cells events legal plain zero k t l other =
      let q = q8_with width in
      let recs = inputs_keep q IsGoodRecord IsGoodEvent (λ i n e h is. record { legal = h.0.legal; plain = h.1 }) events (both_hold events legal plain) in
      let good = cell_reaches q 0 (λ low n cell. IsGoodName cell.name) IsGoodRecord (λ low n cell e h rise all times. selling_records (cell_at e.woken cell) e.recs (selling_start e.woken cell h) all) t k tt (stage_records q events 0) recs in
      let cell = cell_before q 0 (stage_records q events 0) k t in
      selling_saved cell.name cell.sells good.4 other
  q8_cells events legal plain (suc j) k t l other = absurd (omega arith)

  -- names are left, and the ends of days
  pub q8_leaves_what_may_be_saved : LeavesWhatMayBeSaved 8 (q8_with width)
  q8_leaves_what_may_be_saved = record { keys = q8_keys; cells = q8_cells; wakes = λ r u legal i. omega arith }

-- q3

asked_is_id : (wanted t : ℕ) (v : Value) (k : ℕ) → IsLegalAt t v → seller_asked_for wanted v ≡ Some k → k ≤ greatest_id
asked_is_id wanted t (Person id name city state) k h e = by_test (is_asked_for state) e
  where
    by_test : (b : Bool) → cond b (Some id) None ≡ Some k → k ≤ greatest_id
    by_test true f = let same : id ≡ k = same_Some id k f in subst (λ (n : ℕ). n ≤ greatest_id) same h.0
    by_test false f = absurd (none-some k f)
asked_is_id wanted t (Auction id seller category reserve expires) k h e = by_test (category == wanted) e
  where
    by_test : (b : Bool) → cond b (Some seller) None ≡ Some k → k ≤ greatest_id
    by_test true f = let same : seller ≡ k = same_Some seller k f in subst (λ (n : ℕ). n ≤ greatest_id) same h.1
    by_test false f = absurd (none-some k f)
asked_is_id wanted t _ k h e = absurd (none-some k e)

-- a person for whom nothing waits, or no more ids that wait than there were records
abbrev IsGoodPerson : ℕ → Option Home → List ℕ → Type 0
IsGoodPerson n (Some home) waiting = (waiting ≡ []) × (home_is_legal home ≡ true)
IsGoodPerson n None waiting = (length waiting ≤ n) × (ids_are_legal waiting ≡ true)

one_more_id : (ids : List ℕ) (id : ℕ) → ids_are_legal ids ≡ true → id ≤ greatest_id → ids_are_legal (ids ++ id ∷ []) ≡ true
one_more_id [] id h l = and_from (nat_le id greatest_id) true (le-leb id greatest_id l) refl
one_more_id (i ∷ is) id h l =
    let both = and_parts (nat_le i greatest_id) (ids_are_legal is) h in
    and_from (nat_le i greatest_id) (ids_are_legal (is ++ id ∷ [])) both.0 (one_more_id is id both.1 l)

later_person : (n : ℕ) (home : Option Home) (waiting : List ℕ) → IsGoodPerson n home waiting → IsGoodPerson (n + 1) home waiting
later_person n None waiting h = (omega (arith, h.0), h.1)
later_person n (Some home) waiting h = h

person_value : (n : ℕ) (home : Option Home) (waiting : List ℕ) (t : ℕ) (v : Value) → IsGoodPerson n home waiting → IsLegalAt t v → NamesArePlain v
    → let cell : PersonCell = record { home = home; waiting = waiting } in
    IsGoodPerson (n + 1) (joining.after_value cell v).home (joining.after_value cell v).waiting
person_value n None waiting t (Person id name city state) h legal plain =
    (refl, and_from (name_is_legal name && name_is_legal city) (name_is_legal state) (and_from (name_is_legal name) (name_is_legal city) (name_legal name legal.1 plain.0) (name_legal city legal.2 plain.1)) (name_legal state legal.3 plain.2))
person_value n (Some home) waiting t (Person id name city state) h legal plain = h
person_value n None waiting t (Auction id seller category reserve expires) h legal plain = (omega (arith, h.0, length-append waiting (id ∷ [])), one_more_id waiting id h.1 legal.0)
person_value n (Some home) waiting t (Auction id seller category reserve expires) h legal plain = h
person_value n home waiting t _ h legal plain = later_person n home waiting h

person_records : (n : ℕ) (cell : PersonCell) (rs : List Rec) → IsGoodPerson n cell.home cell.waiting → All IsGoodRecord rs
    → IsGoodPerson (n + length rs) (joining.after_records cell rs).home (joining.after_records cell rs).waiting
person_records n cell [] h all = let same : n ≡ n + 0 = omega arith in subst (λ (m : ℕ). IsGoodPerson m cell.home cell.waiting) same h
person_records n cell (r ∷ rs) h all =
    let first = All-head IsGoodRecord r rs all in
    let next = joining.after_value cell r.value in
    let rest = person_records (n + 1) next rs (person_value n cell.home cell.waiting r.time r.value h first.legal first.plain) (All-tail IsGoodRecord r rs all) in
    let same : n + 1 + length rs ≡ n + length (r ∷ rs) = omega arith in
    subst (λ (m : ℕ). IsGoodPerson m (joining.after_records next rs).home (joining.after_records next rs).waiting) same rest

person_saved : (n : ℕ) (home : Option Home) (waiting : List ℕ) → IsGoodPerson n home waiting → n ≤ most_events
    → (let cell : PersonCell = record { home = home; waiting = waiting } in cell ≢ record { home = None; waiting = [] }) → person_is_legal home waiting ≡ true
person_saved n (Some home) waiting h few other =
    and_from (length waiting == 0) (home_is_legal home) (eq-eqb (length waiting) 0 (ap length h.0)) h.1
person_saved n None [] h few other = absurd (other refl)
person_saved n None (id ∷ ids) h few other =
    let long : length (id ∷ ids) ≤ n = h.0 in
    and_from (nat_lt 0 (length (id ∷ ids)) && nat_le (length (id ∷ ids)) most_events) (ids_are_legal (id ∷ ids))
    (and_from (nat_lt 0 (length (id ∷ ids))) (nat_le (length (id ∷ ids)) most_events) (lt-ltb 0 (length (id ∷ ids)) (omega arith)) (le-leb (length (id ∷ ids)) most_events (omega arith)))
    h.1

module _ (wanted : ℕ) where
  q3_keys : KeysAreIds (q3_with wanted)
  q3_keys events legal zero l = inputs_keep (q3_with wanted) (λ (r : Rec). r.key ≤ greatest_id) EventIsLegal (λ i k e h is. asked_is_id wanted e.time e.value k h.legal is) events legal.each
  q3_keys events legal (suc j) l = absurd (omega arith)

  q3_cells : CellsMayBeSaved (q3_with wanted)
  q3_cells events legal plain zero k t l other =
      let q = q3_with wanted in
      let rs = stage_records q events 0 in
      let recs = inputs_keep q IsGoodRecord IsGoodEvent (λ i n e h is. record { legal = h.0.legal; plain = h.1 }) events (both_hold events legal plain) in
      let good = cell_reaches q 0 (λ low n cell. IsGoodPerson n cell.home cell.waiting) IsGoodRecord (λ low n cell e h rise all times. person_records n cell e.recs h all) t k (omega arith, refl) rs recs in
      let cell = cell_before q 0 rs k t in
      person_saved good.2 cell.home cell.waiting good.4 (omega (arith, good.3, few_inputs q events legal)) other
  q3_cells events legal plain (suc j) k t l other = absurd (omega arith)

  -- persons are left, and auctions that wait for one; no key is woken
  pub q3_leaves_what_may_be_saved : LeavesWhatMayBeSaved 3 (q3_with wanted)
  q3_leaves_what_may_be_saved = record { keys = q3_keys; cells = q3_cells; wakes = λ r u legal i. absurd (let none : i.0 < 0 = i.1 in omega arith) }
