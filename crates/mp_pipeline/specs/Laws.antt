-- The table of a pipeline keeps the laws of a query, whatever its numbers. This file is proofs.
use Rattle.std.specs.Prelude.{ℕ, zero, suc, ◌≡◌, ◌+◌, ◌<◌, ◌≤◌, ◌&&◌, Bool, true, false, Option, Some, None, List, [], ◌∷◌, All, drop, if◌then◌else◌, length, min, nat_le, nat_lt, refl, slice_get}
use Rattle.std.specs.List.{list_all, sum_by}
use Rattle.std.specs.Option.{option_map_or, unwrap_or}
use Rattle.std.proofs.Common.{◌∙◌, ap, arith, cond, slice_index_or, subst}
use Rattle.std.proofs.lemmas.Bool.{and_parts, false≢true, leb-true, ltb-true}
use Rattle.std.proofs.lemmas.List.{length-map}
use Rattle.std.proofs.lemmas.List.Sums.{sum_by-cons}
use Rattle.std.proofs.lemmas.List.Elements.{All-cons, All-map, All-nil}
use Rattle.mp_names.specs.Limits.{greatest_time, last_time}
use Rattle.mp_model.specs.declared.record.Rec.{Rec}
use Rattle.mp_model.specs.declared.value.Value.TheVariants as value
use Rattle.mp_model.specs.Always.{always_fits}
use Rattle.mp_model.specs.Entry.{Entry}
use Rattle.mp_model.specs.QueryLaws.{BeginsFresh, FreshStaysFresh, HasStages, LaterStagesPostNothing, MostIsEnough, PostsAreLater, RisesWithin, SumsFit, TextsTellCells}
use Rattle.mp_model.proofs.Tables.{length_option, not_zero}
use Rattle.mp_pipeline.specs.declared.kinds.EventKind.{EventKind}
use Rattle.mp_pipeline.specs.declared.kinds.EventKind.TheVariants as kind
use Rattle.mp_pipeline.specs.declared.stage.Form.{Form}
use Rattle.mp_pipeline.specs.declared.stage.Form.TheVariants.{Pass, Count, Sum, Window}
use Rattle.mp_pipeline.specs.declared.stage.StageLine.{StageLine}
use Rattle.mp_pipeline.specs.declared.stage.Test.{Test}
use Rattle.mp_pipeline.specs.declared.stage.Test.TheVariants.{Any, Below, Equal, AtLeast}
use Rattle.mp_pipeline.specs.Groups.{TotalsAreSums, added_by, after_by, after_group, fresh_by, given_as, given_by, greatest_total, grown, most_by, row, total_rows, with_records}
use Rattle.mp_pipeline.specs.Numbers.{form_of, kind_of, lines_of, number_of_form, number_of_kind, number_of_test, numbers_of_lines, test_of}
use Rattle.mp_pipeline.specs.Pipes.{IsRowOf, OutputsAreRows, PipeFacts, are_sound, has_no_window, has_width, may_stand, numbers_of, pipe_facts, pipe_in, pipe_table, plain_pipe}
use Rattle.mp_pipeline.specs.Records.{EventsHaveFields}
use Rattle.mp_pipeline.specs.Stages.{IsWidth, ends_by, value_by}

-- Numbers say the pipeline

form_is : (f : Form) → form_of (number_of_form f) ≡ f
form_is Pass = refl
form_is Count = refl
form_is Sum = refl
form_is Window = refl

test_is : (t : Test) → test_of (number_of_test t) ≡ t
test_is Any = refl
test_is Below = refl
test_is Equal = refl
test_is AtLeast = refl

kind_is : (k : EventKind) → kind_of (number_of_kind k) ≡ k
kind_is kind.Person = refl
kind_is kind.Auction = refl
kind_is kind.Bid = refl

lines_are : (ls : List StageLine) → lines_of (numbers_of_lines ls) ≡ ls
lines_are [] = refl
lines_are (l ∷ ls) = rw (form_is l.form, test_is l.test, lines_are ls) refl

-- the numbers of a pipeline say it again
pub said_again : (p : PipeFacts) → are_sound p.lines ≡ true → pipe_in (numbers_of p) ≡ p
said_again p sound = rw (lines_are p.lines, sound, kind_is p.kind) refl

-- What numbers say is sound

pub sound_in : (vs : List ℕ) → are_sound (pipe_in vs).lines ≡ true
sound_in [] = refl
sound_in (k ∷ vs) = cases (are_sound (lines_of vs)) refl
  where
    cases : (b : Bool) → are_sound (lines_of vs) ≡ b → are_sound (cond b (record { kind = kind_of k; lines = lines_of vs }) plain_pipe).lines ≡ true
    cases true e = e
    cases false e = refl

-- the width of a line of sound ones is allowed
width_among : (ls : List StageLine) (j : ℕ) (line : StageLine) → list_all has_width ls ≡ true → slice_get ls j ≡ Some line → IsWidth line.width
width_among [] j line all e = absurd (cc)
width_among (l ∷ ls) zero line all e =
    let same : l ≡ line = cc in
    let both = and_parts (nat_le 1 l.width) (nat_le l.width 43200) (and_parts (has_width l) (list_all has_width ls) all).0 in
    subst (λ (m : StageLine). IsWidth m.width) same (leb-true _ _ both.0, leb-true _ _ both.1)
width_among (l ∷ ls) (suc j) line all e = width_among ls j line (and_parts (has_width l) (list_all has_width ls) all).1 e

-- sound lines are one to four, with allowed widths
pub record AreSound (ls : List StageLine) : Type 0 where
  pub some : 0 < length ls
  pub few : length ls ≤ 4
  pub widths : list_all has_width ls ≡ true

sound_parts : (ls : List StageLine) → are_sound ls ≡ true → AreSound ls
sound_parts ls sound =
    let parts = and_parts (nat_lt 0 (length ls)) (may_stand ls) sound in
    let inner = and_parts (nat_le (length ls) 4 && list_all has_width ls) (list_all has_no_window (drop 1 ls)) parts.1 in
    let both = and_parts (nat_le (length ls) 4) (list_all has_width ls) inner.0 in
    record { some = ltb-true _ _ parts.0; few = leb-true _ _ both.0; widths = both.1 }

pub width_is : (ls : List StageLine) (j : ℕ) (line : StageLine) → are_sound ls ≡ true → slice_get ls j ≡ Some line → IsWidth line.width
width_is ls j line sound e = width_among ls j line (sound_parts ls sound).widths e

-- there are one to four stages
pub has_stages : (vs : List ℕ) → HasStages (pipe_facts vs)
has_stages vs = let parts = sound_parts (pipe_in vs).lines (sound_in vs) in (parts.some, parts.few)

-- a window ends later than each of its times, and not too late
ends_later : (f : Form) (width t : ℕ) → IsWidth width → t ≤ greatest_time → RisesWithin t last_time (ends_by f width t)
ends_later Window width t (some, short) h = (omega arith, omega arith, tt)
ends_later Pass width t fits h = tt
ends_later Count width t fits h = tt
ends_later Sum width t fits h = tt

posts_later : (ls : List StageLine) → are_sound ls ≡ true → (kind : EventKind) → PostsAreLater (pipe_table (record { kind = kind; lines = ls }))
posts_later [] sound kind r legal = tt
posts_later (l ∷ ls) sound kind r legal = ends_later l.form l.width r.time (width_is (l ∷ ls) 0 l sound refl) legal.in_time

pub posts_are_later : (vs : List ℕ) → PostsAreLater (pipe_facts vs)
posts_are_later vs = posts_later (pipe_in vs).lines (sound_in vs) (pipe_in vs).kind

-- records of later stages post nothing
pub later_stages_post_nothing : (vs : List ℕ) → LaterStagesPostNothing (pipe_facts vs)
later_stages_post_nothing vs j r = rw (not_zero j) refl

-- a group has a row for each record, or one at most
few_rows : (line : StageLine) (f : Form) (before after : Option ℕ) (e : Entry) → length (given_as f line before after e) ≤ most_by f e
few_rows line Pass before after e = omega (arith, length-map e.recs (λ (r : Rec). row e.key (value_by line r)))
few_rows line Count before after e = length_option _
few_rows line Sum before after e = length_option _
few_rows line Window before after e = length_option _

most_of : (o : Option StageLine) (cell : Option ℕ) (e : Entry)
    → length (option_map_or (λ line. given_by line cell (after_group line cell e) e) o []) ≤ option_map_or (λ line. most_by line.form e) o 0
most_of None cell e = omega arith
most_of (Some line) cell e = few_rows line line.form cell (after_group line cell e) e

pub most_is_enough : (vs : List ℕ) → MostIsEnough (pipe_facts vs)
most_is_enough vs j cell e = most_of (slice_get (pipe_in vs).lines j) cell e

-- without records a fresh cell stays, and there are no rows
none_either : (b : Bool) → (let cell : Option ℕ = if b then None else None in cell) ≡ None
none_either true = refl
none_either false = refl

fresh_of : (line : StageLine) (f : Form) (e : Entry) → e.recs ≡ []
    → (after_by f line (fresh_by f) e ≡ fresh_by f) × (given_as f line (fresh_by f) (after_by f line (fresh_by f) e) e ≡ [])
fresh_of line Pass e none = (refl, rw none refl)
fresh_of line Count e none = (rw none refl, rw none refl)
fresh_of line Sum e none = (rw none refl, rw none refl)
fresh_of line Window e none = (rw (none, none_either e.woken) refl, rw (none_either e.woken) refl)

fresh_in : (o : Option StageLine) (e : Entry) → e.recs ≡ [] → (let fresh : Option ℕ = option_map_or (λ line. fresh_by line.form) o None in
    (option_map_or (λ line. after_group line fresh e) o fresh ≡ fresh)
    × (option_map_or (λ line. given_by line fresh (after_group line fresh e) e) o [] ≡ []))
fresh_in None e none = (refl, refl)
fresh_in (Some line) e none = fresh_of line line.form e none

pub fresh_stays_fresh : (vs : List ℕ) → FreshStaysFresh (pipe_facts vs)
fresh_stays_fresh vs j e none = fresh_in (slice_get (pipe_in vs).lines j) e none

-- each key begins with a fresh cell
pub begins_fresh : (vs : List ℕ) → BeginsFresh (pipe_facts vs)
begins_fresh vs = (refl, refl)

-- no cell may be saved
pub texts_tell_cells : (vs : List ℕ) → TextsTellCells (λ j cell. []) (pipe_facts vs)
texts_tell_cells vs j k t cell allowed = absurd (false≢true allowed)

-- nothing passes 64 bits, since what is counted and summed stops there
pub sums_fit : SumsFit pipe_facts
sums_fit = always_fits pipe_facts (λ vs j cell e. refl)

-- each output is a row of the key of its group
total_is_row : (key : ℕ) (total : Option ℕ) → All (IsRowOf key) (total_rows key total)
total_is_row key None = All-nil (IsRowOf key)
total_is_row key (Some n) = All-cons (IsRowOf key) (row key n) [] (n, refl) (All-nil (IsRowOf key))

rows_of : (f : Form) (line : StageLine) (before after : Option ℕ) (e : Entry) → All (IsRowOf e.key) (given_as f line before after e)
rows_of Pass line before after e =
    All-map (IsRowOf e.key) (λ (r : Rec). row e.key (value_by line r)) e.recs (λ i d low. (value_by line (slice_index_or e.recs i d), refl))
rows_of Count line before after e = total_is_row e.key _
rows_of Sum line before after e = total_is_row e.key _
rows_of Window line before after e = total_is_row e.key _

rows_in : (o : Option StageLine) (cell : Option ℕ) (e : Entry) → All (IsRowOf e.key) (option_map_or (λ line. given_by line cell (after_group line cell e) e) o [])
rows_in None cell e = All-nil (IsRowOf e.key)
rows_in (Some line) cell e = rows_of line.form line cell (after_group line cell e) e

pub outputs_are_rows : OutputsAreRows
outputs_are_rows p j cell e = rows_in (slice_get p.lines j) cell e

-- totals that grow are sums
grown_twice : (n more later all : ℕ) → all ≡ more + later → min (grown n more + later) greatest_total ≡ min (n + all) greatest_total
grown_twice n more later all is = omega (arith, is)

sums_from : (line : StageLine) (n : ℕ) (rs : List Rec) → n ≤ greatest_total → with_records line (Some n) rs ≡ Some (min (n + sum_by (added_by line) rs) greatest_total)
sums_from line n [] low = ap Some (omega (arith, low))
sums_from line n (r ∷ rs) low =
    sums_from line (grown n (added_by line r)) rs (omega arith) ∙ ap Some (grown_twice n (added_by line r) (sum_by (added_by line) rs) _ (sum_by-cons (added_by line) r rs))

pub totals_are_sums : TotalsAreSums
totals_are_sums line kept r rs =
    sums_from line (grown (unwrap_or kept 0) (added_by line r)) rs (omega arith)
    ∙ ap Some (grown_twice (unwrap_or kept 0) (added_by line r) (sum_by (added_by line) rs) _ (sum_by-cons (added_by line) r rs))

-- events have the fields of their kind
pub events_have_fields : EventsHaveFields
events_have_fields kind.Person t (value.Person id name city state) is = refl
events_have_fields kind.Person t _ is = absurd (false≢true is)
events_have_fields kind.Auction t (value.Auction id seller category reserve expires) is = refl
events_have_fields kind.Auction t _ is = absurd (false≢true is)
events_have_fields kind.Bid t (value.Bid auction bidder price) is = refl
events_have_fields kind.Bid t _ is = absurd (false≢true is)
