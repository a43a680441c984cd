-- A fold of groups in the order of their times is split at a time: the later groups give what they give on the cell that the earlier ones make.
use Rattle.std.proofs.Common.{◌≡◌, ℕ, ◌<◌, ◌≤◌, true, false, nat_lt, not, List, [], ◌∷◌, ◌++◌, filter, map, take_while, Contains, refl, sym, ap, ◌∙◌, ⊎_elim, arith}
use Rattle.std.specs.List.{enumerate_from}
use Rattle.std.proofs.lemmas.Bool.{cases_lt, le-ltb, lt-ltb, ltb-false, not-true}
use Rattle.std.proofs.lemmas.List.Elements.{filter-append}
use Rattle.std.proofs.lemmas.List.Sums.{take_while-cons}
use Rattle.mp_model.specs.declared.record.Output.{Output}
use Rattle.mp_model.specs.declared.value.Value.{Value}
use Rattle.mp_model.specs.Entry.{Entry}
use Rattle.mp_model.specs.Facts.{QueryFacts}
use Rattle.mp_model.specs.Folds.{fold_of, outputs_along, outputs_at}
use Rattle.mp_restart_laws.specs.Times.{is_from, outputs_from}
use Rattle.mp_restart_laws.proofs.Lists.{filter-map, filter_all, filter_none}
use Rattle.mp_job.proofs.Members.{Contains-cases, Contains-here, Contains-later}
use Rattle.mp_outline.proofs.Pairs.{Pairs}

pub from_below : (t n : ℕ) → n < t → is_from t n ≡ false
from_below t n l = ap not (lt-ltb n t l)

pub from_above : (t n : ℕ) → t ≤ n → is_from t n ≡ true
from_above t n l = ap not (le-ltb n t l)

pub from_told : (t n : ℕ) → is_from t n ≡ true → t ≤ n
from_told t n e = ltb-false n t (not-true (nat_lt n t) e)

abbrev pub entries_from : ℕ → List Entry → List Entry
entries_from t es = filter (λ e. is_from t e.time) es

-- the output of a value at its place
abbrev pub output_of : ℕ → ℕ → ℕ × Value → Output
output_of u k p = record { time = u; tag = record { 0 = k; 1 = p.0 }; value = p.1 }

-- a group's outputs have its time
early_group : (t u k : ℕ) (values : List Value) → u < t → outputs_from t (outputs_at u k values) ≡ []
early_group t u k values l =
    filter-map (λ (o : Output). is_from t o.time) (output_of u k) (enumerate_from 0 values)
    ∙ ap (map (output_of u k)) (filter_none (λ (p : ℕ × Value). is_from t u) (enumerate_from 0 values) (λ p i. from_below t u l))

late_group : (t u k : ℕ) (values : List Value) → t ≤ u → outputs_from t (outputs_at u k values) ≡ outputs_at u k values
late_group t u k values l =
    filter-map (λ (o : Output). is_from t o.time) (output_of u k) (enumerate_from 0 values)
    ∙ ap (map (output_of u k)) (filter_all (λ (p : ℕ × Value). is_from t u) (enumerate_from 0 values) (λ p i. from_above t u l))

module _ {Cell : Type 0} (q : QueryFacts Cell) (j t : ℕ) where
  all_late : (cell : Cell) (es : List Entry) → ((e : Entry) → Contains es e → t ≤ e.time) → outputs_from t (outputs_along q j cell es) ≡ outputs_along q j cell es
  all_late cell [] h = refl
  all_late cell (e ∷ es) h =
      let first = late_group t e.time e.key (q.gives j cell e) (h e (Contains-here e es)) in
      let rest = all_late (q.step j cell e) es (λ f i. h f (Contains-later e f es i)) in
      filter-append (λ (o : Output). is_from t o.time) (outputs_at e.time e.key (q.gives j cell e)) (outputs_along q j (q.step j cell e) es) ∙ (λ i. first i ++ rest i)

  -- what the groups from a time on give is what they give on the cell that the groups before it make
  pub fold_is_split : (cell : Cell) (es : List Entry) → Pairs (λ e f. e.time < f.time) es
      → outputs_from t (outputs_along q j cell es) ≡ outputs_along q j (fold_of q j cell (take_while (λ e. nat_lt e.time t) es)) (entries_from t es)
  fold_is_split cell [] h = refl
  fold_is_split cell (e ∷ es) h =
      ⊎_elim
      (λ (l : e.time < t).
      let first = early_group t e.time e.key (q.gives j cell e) l in
      let a : nat_lt e.time t ≡ true = lt-ltb e.time t l in
      filter-append (λ (o : Output). is_from t o.time) (outputs_at e.time e.key (q.gives j cell e)) (outputs_along q j (q.step j cell e) es)
      ∙ ap (λ (os : List Output). os ++ outputs_from t (outputs_along q j (q.step j cell e) es)) first
      ∙ rw (take_while-cons (λ f. nat_lt f.time t) e es, a) (fold_is_split (q.step j cell e) es h.1))
      (λ (l : t ≤ e.time).
      let a : nat_lt e.time t ≡ false = le-ltb e.time t l in
      let late : (f : Entry) → Contains (e ∷ es) f → t ≤ f.time = λ f i. later l f i in
      all_late cell (e ∷ es) late
      ∙ rw (take_while-cons (λ f. nat_lt f.time t) e es, a) (ap (outputs_along q j cell) (ap (λ (fs : List Entry). e ∷ fs) (sym (filter_all (λ (f : Entry). is_from t f.time) es (λ f i. from_above t f.time (late f (Contains-later e f es i))))))))
      (cases_lt e.time t)
    where
      later : t ≤ e.time → (f : Entry) → Contains (e ∷ es) f → t ≤ f.time
      later l f i = ⊎_elim (λ (s : e ≡ f). let m : e.time ≡ f.time = ap (λ (g : Entry). g.time) s in omega arith) (λ (k : Contains es f). let m : e.time < f.time = h.0 f k in omega arith) (Contains-cases e f es i)
