-- What stands at a place of the lists, and that there is nothing past their ends.
use Rattle.std.proofs.Common.{◌≡◌, ◌↔◌, ℕ, suc, ◌+◌, ◌-◌, ◌<◌, ◌≤◌, ◌⊎◌, ◌==◌, true, false, List, [], ◌∷◌, ◌++◌, Some, None, Vec, Global, All, filter, map, get_or, length, refl, sym, ap, ◌∙◌, subst, ⊎_elim, arith}
use Rattle.std.specs.List.{range_with_len, slice_get}
use Rattle.std.specs.List.Sorted.{IsPartitionPoint}
use Rattle.std.proofs.lemmas.Bool.{false≢true}
use Rattle.std.proofs.lemmas.List.{length-map, get_or-map, get_or_past, map_push}
use Rattle.std.proofs.lemmas.List.Elements.{All-contains}
use Rattle.std.proofs.lemmas.List.FromFn.{get_or-map-range_with_len, length-map-range_with_len, map-range_with_len_more}
use Rattle.std.proofs.lemmas.Option.{get_or_from_slice_get, slice_get_past}
use Rattle.mp_names.specs.declared.names.Name.{Name}
use Rattle.mp_names.specs.declared.names.Name.TheVariants.{Row}
use Rattle.mp_names.specs.Names.{In, ascending, is_row}
use Rattle.mp_names.specs.Outlines.{Outline, OutlineIsSound, due_groups, sender}
use Rattle.mp_names.specs.Logs.{owned_groups}
use Rattle.mp_names.proofs.Listed.{groups_are}
use Rattle.mp_names.proofs.Lists.{In_filter, In_here}
use Rattle.mp_names.proofs.Orders.{In_ascending}
use Rattle.mp_player_laws.specs.Decisions.{rows_to_send}
use Rattle.mp_player_laws.specs.Counted.{IsGivenWithin}
use Rattle.mp_player_laws.specs.Numbers.{StandsAt}
use Rattle.mp_chart.specs.declared.entry.Entry.{Entry}
use Rattle.mp_chart.specs.Entries.{entries_of, entry_of, records_given}
use Rattle.mp_parted.specs.Fitting.{FitsShape}
use Rattle.mp_parted.specs.Parted.{is_by, parted_by}
use Rattle.mp_parted.specs.declared.parting.By.{By}
use Rattle.mp_parted.specs.declared.parting.By.TheVariants.{Owner}
use Rattle.mp_parted.proofs.Fitting.{All-from_In}
use Rattle.mp_outline_lists.proofs.InOrder.{contains_from_in}
use Rattle.mp_outline_lists.proofs.Gathered.{in_at}
use Rattle.mp_group_lists.specs.declared.moments.Moment.{Moment}
use Rattle.mp_group_lists.specs.Moments.{AreByMoment, comes_before, is_at, moment_of}
use Rattle.mp_group_lists.specs.Parts.{groups_in, next_records}
use Rattle.mp_group_lists.proofs.InTurn.{groups_by_moment, length-entries, owned_is, records_by_moment}
use Rattle.mp_group_lists.proofs.Giving.{given_is}
use Rattle.mp_group_lists.proofs.Rows.{given_within}

-- Lists made by number

module _ {X Y : Type 0} (f : X → Y) (g : ℕ → Y) (xs : List X) (n : ℕ) (are : map f xs ≡ map g (range_with_len 0 n)) where
  pub as_many : length xs ≡ n
  as_many = sym (length-map xs f) ∙ ap length are ∙ length-map-range_with_len g 0 n

  pub looked : (i : ℕ) (x : X) → i < length xs → x ≡ get_or xs i x → f x ≡ g i
  looked i x l e =
      let m = as_many in
      ap f e ∙ sym (get_or-map f xs i x (f x) l) ∙ ap (λ (ys : List Y). get_or ys i (f x)) are ∙ get_or-map-range_with_len g 0 n i i (f x) (omega arith) (omega arith)

-- at a number that there is
pub made_at : {Y : Type 0} (g : ℕ → Y) (n i : ℕ) (d : Y) → i < n → get_or (map g (range_with_len 0 n)) i d ≡ g i
made_at g n i d l = get_or-map-range_with_len g 0 n i i d l (omega arith)

-- past the last one
pub made_past : {Y : Type 0} (g : ℕ → Y) (n i : ℕ) (d : Y) → n ≤ i → get_or (map g (range_with_len 0 n)) i d ≡ d
made_past g n i d l = let m = length-map-range_with_len g 0 n in get_or_past (map g (range_with_len 0 n)) i d (omega arith)

-- the items of vectors, of one more
pub map_more : {X Y : Type 0} (f : X → Y) (g : ℕ → Y) (xs ys : List X) (x : X) (n : ℕ) → ys ≡ xs ++ x ∷ [] → map f xs ≡ map g (range_with_len 0 n) → f x ≡ g n → map f ys ≡ map g (range_with_len 0 (n + 1))
map_more {X} {Y} f g xs ys x n is so_far one =
    ap (map f) is
    ∙ map_push f xs x
    ∙ ap (λ (zs : List Y). zs ++ f x ∷ []) so_far
    ∙ ap (λ (y : Y). map g (range_with_len 0 n) ++ y ∷ []) one
    ∙ sym (map-range_with_len_more g 0 n n (omega arith))

pub nothing : (xs : List Name) → ((x : Name) → In x xs → ⊥) → xs ≡ []
nothing [] h = refl
nothing (x ∷ xs) h = absurd (h x (In_here x xs))

order : (a b : ℕ) → (a < b) ⊎ (b ≤ a)
order a b = grind arith

-- the items of vectors

abbrev pub Part : Type 0
Part = Vec Entry Global

abbrev pub items_in : List Part → List (List Entry)
items_in parts = map (λ (part : Part). part.items) parts

abbrev pub parts_in : Vec Part Global → List (List Entry)
parts_in parts = items_in parts.items

module _ (o : Outline) where
  pub part_is : (by : By) (xs : List Name) (w : ℕ) → w < o.workers → get_or (parted_by o by xs) w [] ≡ entries_of o (filter (is_by o by w) xs)
  part_is by xs w l = made_at (λ v. entries_of o (filter (is_by o by v) xs)) o.workers w [] l

  -- the entry at a place
  pub entry_is : (xs : List Name) (es : List Entry) (place : ℕ) (e : Entry) (x : Name) → es ≡ entries_of o xs → place < length es → e ≡ get_or es place e → slice_get xs place ≡ Some x → e ≡ entry_of o x
  entry_is xs es place e x are l is at =
      let n = ap length are ∙ length-entries o xs in
      is
      ∙ ap (λ (ys : List Entry). get_or ys place e) are
      ∙ get_or-map (entry_of o) xs place x e (omega arith)
      ∙ ap (entry_of o) (get_or_from_slice_get xs place x x at)

  pub not_past : (xs : List Name) (es : List Entry) (place : ℕ) (x : Name) → es ≡ entries_of o xs → length es ≤ place → slice_get xs place ≡ Some x → ⊥
  not_past xs es place x are l at =
      let n = ap length are ∙ length-entries o xs in
      let none : Some x ≡ None = sym at ∙ slice_get_past xs place (omega arith) in
      absurd (cc)

  pub ascending_fits : (xs : List Name) → All (FitsShape o) xs → All (FitsShape o) (ascending xs)
  ascending_fits xs h = All-from_In (FitsShape o) (ascending xs) (λ x i. All-contains (FitsShape o) xs x h (contains_from_in x xs (In_ascending x xs i)))

  module _ (ok : OutlineIsSound o) where
    -- past the last stage there are no groups and no records
    pub no_groups : (w j : ℕ) → o.stages ≤ j → owned_groups o w j ≡ []
    no_groups w j l = nothing (owned_groups o w j) (λ x i. let r = (groups_are o ok j x (owned_is o ok w j x i)).0 in omega arith)

    no_records : (j : ℕ) → o.stages ≤ j → ascending (o.records j) ≡ []
    no_records j l = nothing (ascending (o.records j)) (λ x i. let r = (ok.records_are j x (In_ascending x (o.records j) i)).0 in omega arith)

    pub next_at : (j : ℕ) → get_or (map (next_records o) (range_with_len 0 (o.stages - 1))) j [] ≡ next_records o j
    next_at j =
        ⊎_elim
        (λ (l : j < o.stages - 1). made_at (next_records o) (o.stages - 1) j [] l)
        (λ (l : o.stages - 1 ≤ j). made_past (next_records o) (o.stages - 1) j [] l ∙ ap (entries_of o) (sym (no_records (suc j) (omega arith))))
        (order j (o.stages - 1))

    -- the groups of a stage that a worker is to apply, in vectors
    module _ (groups stages : List (Vec Part Global)) (are : map parts_in groups ≡ map (groups_in o) (range_with_len 0 o.stages)) (same : stages ≡ groups) where
      as_groups : map parts_in stages ≡ map (groups_in o) (range_with_len 0 o.stages)
      as_groups = ap (map parts_in) same ∙ are

      pub stage_count : length stages ≡ o.stages
      stage_count = as_many parts_in (groups_in o) stages o.stages as_groups

      pub stage_part : (j w : ℕ) (parts : Vec Part Global) (held : List Part) → w < o.workers → j < length stages → parts ≡ get_or stages j parts → held ≡ parts.items → get_or (items_in held) w [] ≡ entries_of o (owned_groups o w j)
      stage_part j w parts held l inside at are_held =
          ap (λ (ps : List Part). get_or (items_in ps) w []) are_held
          ∙ ap (λ (es : List (List Entry)). get_or es w []) (looked parts_in (groups_in o) stages o.stages as_groups j parts inside at)
          ∙ part_is Owner (due_groups o j) w l

    -- the records that a group gives, found by its moment
    pub found_given : (w j place : ℕ) (es recs found : List Entry) (e : Entry) (m : Moment) (x : Name) → es ≡ entries_of o (owned_groups o w j) → place < length es → e ≡ get_or es place e → StandsAt (owned_groups o w j) place x → m ≡ moment_of e.name → recs ≡ next_records o j → (AreByMoment recs → found ≡ filter (is_at m) recs) → found ≡ entries_of o (records_given o x)
    found_given w j place es recs found e m x are l is at moment next by =
        let same = entry_is (owned_groups o w j) es place e x are l is at in
        let moment_is : m ≡ moment_of x = moment ∙ ap (λ (d : Entry). moment_of d.name) same in
        by (subst AreByMoment (sym next) (records_by_moment o ok j))
        ∙ ap (λ (ds : List Entry). filter (is_at m) ds) next
        ∙ ap (λ (n : Moment). filter (is_at n) (next_records o j)) moment_is
        ∙ given_is o ok w j x (in_at (owned_groups o w j) place x at)

    row_given : (w r : ℕ) (m : Moment) (x : Name) → is_row x ≡ true → In x (rows_to_send o w) → m ≡ moment_of x → r ≤ length (owned_groups o w (o.stages - 1)) → IsPartitionPoint (λ e. comes_before m (moment_of e.name) ≡ false) (λ e. comes_before m (moment_of e.name) ≡ true) (entries_of o (owned_groups o w (o.stages - 1))) r → (n : ℕ) → IsGivenWithin o w n x ↔ r ≤ n
    row_given w r m (Row t g) e here moment bound point n =
        let Point : Moment → Type 0 = λ q. IsPartitionPoint (λ e. comes_before q (moment_of e.name) ≡ false) (λ e. comes_before q (moment_of e.name) ≡ true) (entries_of o (owned_groups o w (o.stages - 1))) r in
        given_within o ok w t g here r bound (subst Point moment point) n
    row_given w r m _ e here moment bound point n = absurd (false≢true e)

    -- how many groups come until a row, found by its moment
    pub found_before : (w place r : ℕ) (es groups : List Entry) (e : Entry) (m : Moment) (x : Name) → es ≡ entries_of o (rows_to_send o w) → place < length es → e ≡ get_or es place e → StandsAt (rows_to_send o w) place x → m ≡ moment_of e.name → groups ≡ entries_of o (owned_groups o w (o.stages - 1)) → r ≤ length groups → (AreByMoment groups → IsPartitionPoint (λ e. comes_before m (moment_of e.name) ≡ false) (λ e. comes_before m (moment_of e.name) ≡ true) groups r) → (n : ℕ) → IsGivenWithin o w n x ↔ r ≤ n
    found_before w place r es groups e m x are l is at moment last bound by n =
        let gs = owned_groups o w (o.stages - 1) in
        let same = entry_is (rows_to_send o w) es place e x are l is at in
        let moment_is : m ≡ moment_of x = moment ∙ ap (λ (d : Entry). moment_of d.name) same in
        let here = in_at (rows_to_send o w) place x at in
        let row = ok.rows_are x (In_ascending x o.rows (In_filter (λ y. sender o y == w) x (ascending o.rows) here).0) in
        let few = ap length last ∙ length-entries o gs in
        let Point : List Entry → Type 0 = λ ds. IsPartitionPoint (λ e. comes_before m (moment_of e.name) ≡ false) (λ e. comes_before m (moment_of e.name) ≡ true) ds r in
        row_given w r m x row here moment_is (omega arith) (subst Point last (by (subst AreByMoment (sym last) (groups_by_moment o ok w (o.stages - 1))))) n
