-- The kind of a number, in the order in which a worker's round tries them.
use Rattle.std.proofs.Common.{◌≡◌, ℕ, zero, suc, ◌+◌, ◌<◌, List, [], ◌∷◌, ◌++◌, length, Some, refl, ap, sym, subst, arith, length-append, ⊎_elim, ◌⊎◌}
use Rattle.std.specs.List.{slice_get}
use Rattle.mp_names.specs.declared.kinds.Kind.{Kind}
use Rattle.mp_names.specs.declared.kinds.Kind.TheVariants.{Ingest, SendControl, Route, Receive, Extract, Settle, Apply, SendRow, Write, Exchange}
use Rattle.mp_names.specs.Outlines.{Outline}
use Rattle.mp_machine.specs.Places.{each_below, kinds_of}
use Rattle.mp_machine.proofs.Places.{last_ones, length_each, to_apply, to_extract, to_receive, to_route, to_settle}

pub last_or_not : (i n : ℕ) → i < suc n → (i < n) ⊎ (i ≡ n)
last_or_not i n l = grind arith

-- Lists behind one another

pub in_front : {X : Type 0} (xs ys : List X) (i : ℕ) (x : X) → slice_get xs i ≡ Some x → slice_get (xs ++ ys) i ≡ Some x
in_front [] ys i x h = absurd (cc)
in_front (y ∷ xs) ys zero x h = h
in_front (y ∷ xs) ys (suc i) x h = in_front xs ys i x h

pub behind : {X : Type 0} (xs ys : List X) (i k : ℕ) (x : X) → i ≡ length xs + k → slice_get ys k ≡ Some x → slice_get (xs ++ ys) i ≡ Some x
behind [] ys i k x e h = let f : i ≡ k = omega arith in subst (λ (n : ℕ). slice_get ys n ≡ Some x) (sym f) h
behind (y ∷ xs) ys zero k x e h = absurd (omega arith)
behind (y ∷ xs) ys (suc i) k x e h = behind xs ys i k x (omega arith) h

-- The kinds

each_at : (n : ℕ) (kind : ℕ → Kind) (i : ℕ) → i < n → slice_get (each_below n kind) i ≡ Some (kind i)
each_at zero kind i l = absurd (omega arith)
each_at (suc n) kind i l =
    ⊎_elim
    (λ (k : i < n). in_front (each_below n kind) (kind n ∷ []) i (kind i) (each_at n kind i k))
    (λ (e : i ≡ n).
    let f = length_each n kind in
    behind (each_below n kind) (kind n ∷ []) i 0 (kind i) (omega arith) (ap (λ j. Some (kind j)) (sym e)))
    (last_or_not i n l)

-- how many there are to the end of each part

more : (xs ys : List Kind) (n m : ℕ) → length xs ≡ n → length ys ≡ m → length (xs ++ ys) ≡ n + m
more xs ys n m e f = let a = length-append xs ys in omega arith

length_route : (o : Outline) → length (to_route o) ≡ 2 + o.stages
length_route o = more (Ingest ∷ SendControl ∷ []) (each_below o.stages Route) 2 o.stages refl (length_each o.stages Route)

length_receive : (o : Outline) → length (to_receive o) ≡ 2 + o.stages + o.workers
length_receive o = more (to_route o) (each_below o.workers Receive) (2 + o.stages) o.workers (length_route o) (length_each o.workers Receive)

length_extract : (o : Outline) → length (to_extract o) ≡ 2 + o.stages + o.workers + o.stages
length_extract o = more (to_receive o) (each_below o.stages Extract) (2 + o.stages + o.workers) o.stages (length_receive o) (length_each o.stages Extract)

length_settle : (o : Outline) → length (to_settle o) ≡ 2 + o.stages + o.workers + o.stages + o.stages
length_settle o = more (to_extract o) (each_below o.stages Settle) (2 + o.stages + o.workers + o.stages) o.stages (length_extract o) (length_each o.stages Settle)

length_apply : (o : Outline) → length (to_apply o) ≡ 2 + o.stages + o.workers + o.stages + o.stages + o.stages
length_apply o = more (to_settle o) (each_below o.stages Apply) (2 + o.stages + o.workers + o.stages + o.stages) o.stages (length_settle o) (length_each o.stages Apply)

upto_apply : (o : Outline) (i : ℕ) (kind : Kind) → slice_get (to_apply o) i ≡ Some kind → slice_get (kinds_of o) i ≡ Some kind
upto_apply o i kind h = in_front (to_apply o) last_ones i kind h

upto_settle : (o : Outline) (i : ℕ) (kind : Kind) → slice_get (to_settle o) i ≡ Some kind → slice_get (kinds_of o) i ≡ Some kind
upto_settle o i kind h = upto_apply o i kind (in_front (to_settle o) (each_below o.stages Apply) i kind h)

upto_extract : (o : Outline) (i : ℕ) (kind : Kind) → slice_get (to_extract o) i ≡ Some kind → slice_get (kinds_of o) i ≡ Some kind
upto_extract o i kind h = upto_settle o i kind (in_front (to_extract o) (each_below o.stages Settle) i kind h)

upto_receive : (o : Outline) (i : ℕ) (kind : Kind) → slice_get (to_receive o) i ≡ Some kind → slice_get (kinds_of o) i ≡ Some kind
upto_receive o i kind h = upto_extract o i kind (in_front (to_receive o) (each_below o.stages Extract) i kind h)

upto_route : (o : Outline) (i : ℕ) (kind : Kind) → slice_get (to_route o) i ≡ Some kind → slice_get (kinds_of o) i ≡ Some kind
upto_route o i kind h = upto_receive o i kind (in_front (to_route o) (each_below o.workers Receive) i kind h)

pub ingest_at : (o : Outline) → slice_get (kinds_of o) 0 ≡ Some Ingest
ingest_at o = upto_route o 0 Ingest refl

pub send_control_at : (o : Outline) → slice_get (kinds_of o) 1 ≡ Some SendControl
send_control_at o = upto_route o 1 SendControl refl

pub route_at : (o : Outline) (i k : ℕ) → i ≡ 2 + k → k < o.stages → slice_get (kinds_of o) i ≡ Some (Route k)
route_at o i k e l = upto_route o i (Route k) (behind (Ingest ∷ SendControl ∷ []) (each_below o.stages Route) i k (Route k) e (each_at o.stages Route k l))

pub receive_at : (o : Outline) (i k : ℕ) → i ≡ 2 + o.stages + k → k < o.workers → slice_get (kinds_of o) i ≡ Some (Receive k)
receive_at o i k e l =
    let n = length_route o in
    upto_receive o i (Receive k) (behind (to_route o) (each_below o.workers Receive) i k (Receive k) (omega arith) (each_at o.workers Receive k l))

pub extract_at : (o : Outline) (i k : ℕ) → i ≡ 2 + o.stages + o.workers + k → k < o.stages → slice_get (kinds_of o) i ≡ Some (Extract k)
extract_at o i k e l =
    let n = length_receive o in
    upto_extract o i (Extract k) (behind (to_receive o) (each_below o.stages Extract) i k (Extract k) (omega arith) (each_at o.stages Extract k l))

pub settle_at : (o : Outline) (i k : ℕ) → i ≡ 2 + o.stages + o.workers + o.stages + k → k < o.stages → slice_get (kinds_of o) i ≡ Some (Settle k)
settle_at o i k e l =
    let n = length_extract o in
    upto_settle o i (Settle k) (behind (to_extract o) (each_below o.stages Settle) i k (Settle k) (omega arith) (each_at o.stages Settle k l))

pub apply_at : (o : Outline) (i k : ℕ) → i ≡ 2 + o.stages + o.workers + o.stages + o.stages + k → k < o.stages → slice_get (kinds_of o) i ≡ Some (Apply k)
apply_at o i k e l =
    let n = length_settle o in
    upto_apply o i (Apply k) (behind (to_settle o) (each_below o.stages Apply) i k (Apply k) (omega arith) (each_at o.stages Apply k l))

last_at : (o : Outline) (i k : ℕ) (kind : Kind) → i ≡ 2 + o.stages + o.workers + o.stages + o.stages + o.stages + k → slice_get last_ones k ≡ Some kind → slice_get (kinds_of o) i ≡ Some kind
last_at o i k kind e h = let n = length_apply o in behind (to_apply o) last_ones i k kind (omega arith) h

pub send_row_at : (o : Outline) (i : ℕ) → i ≡ 2 + o.stages + o.workers + o.stages + o.stages + o.stages → slice_get (kinds_of o) i ≡ Some SendRow
send_row_at o i e = last_at o i 0 SendRow (omega arith) refl

pub write_at : (o : Outline) (i : ℕ) → i ≡ 3 + o.stages + o.workers + o.stages + o.stages + o.stages → slice_get (kinds_of o) i ≡ Some Write
write_at o i e = last_at o i 1 Write (omega arith) refl

pub exchange_at : (o : Outline) (i : ℕ) → i ≡ 4 + o.stages + o.workers + o.stages + o.stages + o.stages → slice_get (kinds_of o) i ≡ Some Exchange
exchange_at o i e = last_at o i 2 Exchange (omega arith) refl
