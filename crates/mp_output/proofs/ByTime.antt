-- The rows of the answer stand by their times, and do so with one more.
use Rattle.std.proofs.Common.{◌≡◌, ◌⊎◌, ℕ, ◌<◌, ◌≤◌, List, [], ◌∷◌, Contains, refl, sym, subst, ⊎_elim, arith}
use Rattle.std.specs.BTreeMap.{insert_entry}
use Rattle.std.specs.Cmp.{nat_cmp_is}
use Rattle.std.specs.Ordering.{match_ordering, nat_cmp}
use Rattle.std.specs.declared.cmp.Ordering.{Ordering}
use Rattle.std.specs.declared.cmp.Ordering.TheVariants.{Less, Equal, Greater}
use Rattle.std.proofs.lemmas.Bool.{cases_order}
use Rattle.mp_model.specs.declared.record.Place.{Place}
use Rattle.mp_model.specs.declared.value.Value.{Value}
use Rattle.mp_model.specs.Answers.{place_cmp}
use Rattle.mp_msg.specs.Below.{nothing_in_nil, Contains-cases, Contains-here, Contains-later}
use Rattle.mp_msg.specs.Below.{TagIsBefore}
use Rattle.mp_msg.specs.Below.{Pairs}

-- How places compare

at_less : (a b : ℕ) → a < b → nat_cmp a b ≡ Less
at_less a b l = sym (nat_cmp_is a b Less l)

at_equal : (a b : ℕ) → a ≡ b → nat_cmp a b ≡ Equal
at_equal a b e = sym (nat_cmp_is a b Equal e)

at_greater : (a b : ℕ) → b < a → nat_cmp a b ≡ Greater
at_greater a b l = sym (nat_cmp_is a b Greater l)

-- a place of an earlier time comes first
pub earlier_place : (p q : Place) → p.time < q.time → place_cmp p q ≡ Less
earlier_place p q l = rw (at_less p.time q.time l) refl

pub later_place : (p q : Place) → q.time < p.time → place_cmp p q ≡ Greater
later_place p q l = rw (at_greater p.time q.time l) refl

-- of places of one time that with the lesser tag comes first
pub later_tag : (p q : Place) → q.time ≡ p.time → TagIsBefore q.tag p.tag → place_cmp p q ≡ Greater
later_tag p q same h =
    let times = at_equal p.time q.time (sym same) in
    ⊎_elim
    (λ (l : q.tag.0 < p.tag.0). rw (times, at_greater p.tag.0 q.tag.0 l) refl)
    (λ (l : (q.tag.0 ≡ p.tag.0) × (q.tag.1 < p.tag.1)). rw (times, at_equal p.tag.0 q.tag.0 (sym l.0), at_greater p.tag.1 q.tag.1 l.1) refl)
    h

-- what an answer of the comparison tells of times
abbrev pub TimesTold : Ordering → ℕ → ℕ → Type 0
TimesTold Less s t = s ≤ t
TimesTold Equal s t = s ≡ t
TimesTold Greater s t = t ≤ s

pub times_told : (p q : Place) → TimesTold (place_cmp p q) p.time q.time
times_told p q =
    ⊎_elim
    (λ (e : p.time ≡ q.time). equal (place_cmp p q) e)
    (λ (e : (p.time < q.time) ⊎ (q.time < p.time)).
    ⊎_elim
    (λ (l : p.time < q.time). rw (earlier_place p q l) (omega arith))
    (λ (l : q.time < p.time). rw (later_place p q l) (omega arith))
    e)
    (cases_order p.time q.time)
  where
    equal : (c : Ordering) → p.time ≡ q.time → TimesTold c p.time q.time
    equal Less e = omega arith
    equal Equal e = e
    equal Greater e = omega arith

-- The rows in order

abbrev pub Rows : Type 0
Rows = List (Place × Value)

-- no row is of an earlier time than one in front of it
abbrev pub IsByTime : Rows → Type 0
IsByTime rows = Pairs (λ e f. e.0.time ≤ f.0.time) rows

-- what is true of the places of the rows and of one more is true once that is put
pub put_places : (P : Place → Type 0) (p : Place) (v : Value) (es : Rows) → P p → ((e : Place × Value) → Contains es e → P e.0) → (e : Place × Value) → Contains (insert_entry place_cmp es p v) e → P e.0
put_places P p v [] h k e i = ⊎_elim (λ (same : (p, v) ≡ e). subst (λ (f : Place × Value). P f.0) same h) (λ (none : Contains [] e). absurd (nothing_in_nil e none)) (Contains-cases (p, v) e [] i)
put_places P p v (d ∷ es) h k e i = pick (put_places P p v es h (λ f j. k f (Contains-later d f es j))) (place_cmp p d.0) i
  where
    old : Contains (d ∷ es) e → P e.0
    old j = k e j

    pick : ((f : Place × Value) → Contains (insert_entry place_cmp es p v) f → P f.0) → (c : Ordering) → Contains (match_ordering c ((p, v) ∷ d ∷ es) ((d.0, v) ∷ es) (d ∷ insert_entry place_cmp es p v)) e → P e.0
    pick rest Less j = ⊎_elim (λ (same : (p, v) ≡ e). subst (λ (f : Place × Value). P f.0) same h) old (Contains-cases (p, v) e (d ∷ es) j)
    pick rest Equal j = ⊎_elim (λ (same : (d.0, v) ≡ e). subst (λ (f : Place × Value). P f.0) same (k d (Contains-here d es))) (λ (l : Contains es e). old (Contains-later d e es l)) (Contains-cases (d.0, v) e es j)
    pick rest Greater j = ⊎_elim (λ (same : d ≡ e). subst (λ (f : Place × Value). P f.0) same (k d (Contains-here d es))) (λ (l : Contains (insert_entry place_cmp es p v) e). rest e l) (Contains-cases d e (insert_entry place_cmp es p v) j)

-- rows that stand by their times do so with one more at its place
pub put_by_time : (p : Place) (v : Value) (es : Rows) → IsByTime es → IsByTime (insert_entry place_cmp es p v)
put_by_time p v [] h = ((λ e i. absurd (nothing_in_nil e i)), tt)
put_by_time p v (d ∷ es) h = pick (put_by_time p v es h.1) (place_cmp p d.0) (times_told p d.0)
  where
    pick : IsByTime (insert_entry place_cmp es p v) → (c : Ordering) → TimesTold c p.time d.0.time → IsByTime (match_ordering c ((p, v) ∷ d ∷ es) ((d.0, v) ∷ es) (d ∷ insert_entry place_cmp es p v))
    pick rest Less l = ((λ e i. ⊎_elim (λ (same : d ≡ e). subst (λ (f : Place × Value). p.time ≤ f.0.time) same l) (λ (j : Contains es e). let m : d.0.time ≤ e.0.time = h.0 e j in omega arith) (Contains-cases d e es i)), h)
    pick rest Equal l = ((λ e i. h.0 e i), h.1)
    pick rest Greater l = (put_places (λ q. d.0.time ≤ q.time) p v es l h.0, rest)
