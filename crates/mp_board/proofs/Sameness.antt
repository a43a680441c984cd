-- Names that have grown from others are the same where there are no more of them, and a board's version rises where a log is another.
use Rattle.std.proofs.Common.{◌≡◌, ◌&&◌, ◌⊎◌, ◌<◌, ℕ, suc, cond, inl, inr, ⊎_elim, nat_eq, Bool, true, false, List, [], ◌∷◌, ◌++◌, length, length-append, refl, sym, ap, ◌∙◌, arith, append-nil}
use Rattle.std.proofs.lemmas.Bool.{cases_Bool, cond-false, false≢true, eqb-true, eq-eqb}
use Rattle.mp_names.specs.declared.names.Name.{Name}
use Rattle.mp_names.specs.Names.{IsPrefix, same_name}
use Rattle.mp_names.proofs.Lists.{same_name-refl}
use Rattle.mp_names.specs.Logs.{Log}
use Rattle.mp_machine.specs.Steps.{same_log, same_names}
use Rattle.mp_machine.proofs.Turns.{same_log_is}

same_names-refl : (xs : List Name) → same_names xs xs ≡ true
same_names-refl [] = refl
same_names-refl (x ∷ xs) = rw (same_name-refl x) (same_names-refl xs)

right : (a b : Bool) → (a && b) ≡ true → b ≡ true
right true b h = h
right false b h = absurd (false≢true h)

same_length : (xs ys : List Name) → same_names xs ys ≡ true → length xs ≡ length ys
same_length [] [] h = refl
same_length (x ∷ xs) [] h = absurd (false≢true h)
same_length [] (y ∷ ys) h = absurd (false≢true h)
same_length (x ∷ xs) (y ∷ ys) h = let e = same_length xs ys (right (same_name x y) (same_names xs ys) h) in omega arith

nothing_more : (xs rest : List Name) → length (xs ++ rest) ≡ length xs → xs ++ rest ≡ xs
nothing_more xs [] e = append-nil xs
nothing_more xs (r ∷ rest) e = absurd (let f = length-append xs (r ∷ rest) in omega arith)

pub no_more : (xs ys : List Name) → IsPrefix xs ys → nat_eq (length ys) (length xs) ≡ same_names ys xs
no_more xs ys p = pick (nat_eq (length ys) (length xs)) refl (same_names ys xs) refl
  where
    pick : (a : Bool) → nat_eq (length ys) (length xs) ≡ a → (b : Bool) → same_names ys xs ≡ b → a ≡ b
    pick true e true f = refl
    pick false e false f = refl
    pick true e false f =
        let l : length ys ≡ length xs = eqb-true (length ys) (length xs) e in
        let k : length (xs ++ p.0) ≡ length xs = ap length p.1 ∙ l in
        let g : ys ≡ xs = sym p.1 ∙ nothing_more xs p.0 k in
        let h : same_names xs xs ≡ false = rw g at f in
        sym (sym h ∙ same_names-refl xs)
    pick false e true f = sym e ∙ eq-eqb (length ys) (length xs) (same_length ys xs f)

-- the log that stood there is the same, or the version is later
pub rises : (old log : Log) (version next : ℕ) → next ≡ cond (same_log log old) version (suc version) → (old ≡ log) ⊎ (version < next)
rises old log version next is =
    ⊎_elim
    (λ (e : same_log log old ≡ true). inl (sym (same_log_is log old e)))
    (λ (e : same_log log old ≡ false). let later : next ≡ suc version = is ∙ cond-false (same_log log old) version (suc version) e in inr (omega arith))
    (cases_Bool (same_log log old))
