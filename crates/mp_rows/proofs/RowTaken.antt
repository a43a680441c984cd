-- What a log adds to the counts changes with an answer row that it takes: one row less is on its way.
use Rattle.std.proofs.Common.{◌≡◌, ℕ, zero, suc, ◌+◌, ◌&&◌, ◌||◌, ◌==◌, Bool, true, false, not, cond, List, [], ◌∷◌, ◌++◌, ℤ, pos, negsuc, ◌+ℤ◌, ◌-ℤ◌, refl, sym, ap, ◌∙◌, add-zero, arith}
use Rattle.std.specs.List.{list_any}
use Rattle.std.proofs.lemmas.Bool.{false≢true}
use Rattle.std.proofs.lemmas.Int.{ints}
use Rattle.std.proofs.lemmas.List.Elements.{All-cons, All-nil}
use Rattle.std.proofs.lemmas.List.Sums.{sum_by_push}
use Rattle.mp_names.specs.declared.locations.Loc.{Loc}
use Rattle.mp_names.specs.declared.locations.Loc.TheVariants.{Ctl, CtlMail, Source, Route, Mail, Move, State, Host, OutRoute, OutMail}
use Rattle.mp_names.specs.declared.names.Name.{Name}
use Rattle.mp_names.specs.declared.names.Name.TheVariants.{Ctrl, Rec, Packet, Row, Group, Settled}
use Rattle.mp_names.specs.declared.names.Tag.{Tag}
use Rattle.mp_names.specs.declared.pointstamps.Change.{Change}
use Rattle.mp_names.specs.Frontiers.{contribution, is_held, number_at, sent_less_took}
use Rattle.mp_names.specs.Logs.{Log, brings_wake, has_record, has_wake, is_ctrl_of, is_given, is_opening_here, is_pending, is_record_of, is_wake_here, left_since, with_took}
use Rattle.mp_names.specs.Names.{has, is_ctrl, is_packet, is_rec, is_row}
use Rattle.mp_names.specs.Outlines.{Outline, ctrl_names, groups_of, is_posted, time_of}
use Rattle.mp_rows.specs.Entries.{AreChanges, change_at, sum_at}

pub or_none : (b : Bool) → b ≡ false → (b || false) ≡ false
or_none true e = absurd (false≢true (sym e))
or_none false e = refl

pub any_more : (p : Name → Bool) (x : Name) → p x ≡ false → (xs : List Name) → list_any p (xs ++ x ∷ []) ≡ list_any p xs
any_more p x e [] = or_none (p x) e
any_more p x e (y ∷ ys) = ap (λ (b : Bool). p y || b) (any_more p x e ys)

pub nothing : (x y : ℤ) → x ≡ y → pos 0 ≡ x -ℤ y
nothing x y e = omega (arith, ints)

one_less : (a : ℤ) (b : Bool) (n m : ℕ) → m ≡ n + cond b 1 0 → cond b (negsuc 0) (pos 0) +ℤ pos 0 ≡ (a -ℤ pos m) -ℤ (a -ℤ pos n)
one_less a true n m e = omega (arith, ints)
one_less a false n m e = omega (arith, ints)

-- the change
abbrev pub one_row_less : ℕ → List Change
one_row_less s = change_at OutMail s (negsuc 0) ∷ []

module _ (o : Outline) (w : ℕ) (log : Log) (s : ℕ) (g : Tag) where
  abbrev taken : Log
  taken = with_took log (Row s g)

  given_same : (x : Name) → is_given o w taken x ≡ is_given o w log x
  given_same (Ctrl i v) = refl
  given_same (Rec zero t k h) = refl
  given_same (Rec (suc j) t k h) = refl
  given_same (Row t h) = refl
  given_same _ = refl

  held_same : (u : ℕ) (xs : List Name) → number_at o (is_held o w taken) u xs ≡ number_at o (is_held o w log) u xs
  held_same u xs = ap (λ (p : Name → Bool). number_at o p u xs) (λ i x. given_same x i && not (has log.sent x))

  brings_same : (j b t u : ℕ) (x : Name) → brings_wake taken j b t u x ≡ brings_wake log j b t u x
  brings_same j b t u (Packet i c m) = refl
  brings_same j b t u _ = refl

  brought_same : (j b t u : ℕ) → list_any (brings_wake taken j b t u) taken.took ≡ list_any (brings_wake log j b t u) log.took
  brought_same j b t u = any_more (brings_wake taken j b t u) (Row s g) refl log.took ∙ ap (λ (p : Name → Bool). list_any p log.took) (λ i x. brings_same j b t u x i)

  wake_same : (j u k : ℕ) (x : Name) → is_wake_here o taken j u k x ≡ is_wake_here o log j u k x
  wake_same j u k (Rec i t l h) =
      ap
      (λ (b : Bool). l == k && (is_posted o (Rec i t l h) u && (has log.applied (Group j t k) && not (left_since log j (o.bin_of k) t) || b)))
      (brought_same j (o.bin_of k) t u)
  wake_same j u k _ = refl

  opening_same : (j u k : ℕ) → is_opening_here o w taken j u k ≡ is_opening_here o w log j u k
  opening_same j u k =
      ap (λ (b : Bool). has (o.opening j) (Group j u k) && (o.first_owner j (o.bin_of k) == w && not (left_since log j (o.bin_of k) 0) || b)) (brought_same j (o.bin_of k) 0 u)

  pending_same : (x : Name) → is_pending o w taken x ≡ is_pending o w log x
  pending_same (Group j u k) =
      ap (λ (b : Bool). not (has log.applied (Group j u k)) && (b || has_wake o w taken j u k)) (any_more (is_record_of j u k) (Row s g) refl log.took)
      ∙ ap (λ (b : Bool). not (has log.applied (Group j u k)) && (has_record log j u k || (b || list_any (is_wake_here o taken j u k) (o.records j)))) (opening_same j u k)
      ∙ ap (λ (p : Name → Bool). not (has log.applied (Group j u k)) && (has_record log j u k || (is_opening_here o w log j u k || list_any p (o.records j)))) (λ i x. wake_same j u k x i)
  pending_same _ = refl

  took_same : (p : Name → Bool) (u : ℕ) → p (Row s g) ≡ false → sent_less_took o taken p u ≡ sent_less_took o log p u
  took_same p u e =
      let n = number_at o p u log.took in
      ap
      (λ (m : ℕ). pos (number_at o p u log.sent) -ℤ pos m)
      (sum_by_push (λ x. cond (p x && time_of o x == u) 1 0) log.took (Row s g) ∙ ap (λ (b : Bool). n + cond (b && s == u) 1 0) e ∙ add-zero n)

  each : (loc : Loc) (u : ℕ) → sum_at (one_row_less s) loc u ≡ contribution o w taken loc u -ℤ contribution o w log loc u
  each Ctl u = nothing _ _ (ap pos (held_same u (ctrl_names o)))
  each CtlMail u = nothing _ _ (took_same is_ctrl u refl)
  each Source u = nothing (contribution o w log Source u) (contribution o w log Source u) refl
  each (Route j) u = nothing _ _ (ap pos (held_same u (o.records j)))
  each (Mail j) u = nothing _ _ (took_same (is_rec j) u refl)
  each (Move j) u = nothing _ _ (ap (λ (b : Bool). pos (cond (b && not (has log.settled (Settled j u))) 1 0)) (any_more (is_ctrl_of o j u) (Row s g) refl log.took))
  each (State j) u = nothing _ _ (took_same (is_packet j) u refl)
  each (Host j) u = nothing _ _ (ap (λ (p : Name → Bool). pos (number_at o p u (groups_of o j))) (λ i x. pending_same x i))
  each OutRoute u = nothing _ _ (ap pos (held_same u o.rows))
  each OutMail u =
      one_less (pos (number_at o is_row u log.sent)) (s == u) (number_at o is_row u log.took) (number_at o is_row u taken.took) (sum_by_push (λ x. cond (is_row x && time_of o x == u) 1 0) log.took (Row s g))

  pub row_taken : AreChanges o w log (with_took log (Row s g)) (one_row_less s)
  row_taken = record {
    sums = each;
    once = λ i j d l k. absurd (omega arith);
    none_by_zero = All-cons (λ (c : Change). c.by ≡ pos 0 → ⊥) (change_at OutMail s (negsuc 0)) [] (λ e. cc) (All-nil (λ (c : Change). c.by ≡ pos 0 → ⊥));
  }
