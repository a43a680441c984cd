-- What is handed on part by part, and what then waits.
use Rattle.std.proofs.Common.{ℕ, ◌≡◌, ◌+◌, ◌-◌, ◌≤◌, ◌++◌, ◌∙◌, List, [], Option, length, take, drop, sym, ap, arith, take-add, take-append-drop}
use Rattle.std.proofs.lemmas.List.{drop-append-le, drop-drop}
use Rattle.mp_outside.specs.Sink.{grown}
use Rattle.mp_outside.proofs.SinkLemmas.{grown-grown, grown-nothing}

rest_of : (from to : ℕ) (items : List ℕ) → from ≤ to → drop to items ≡ drop (to - from) (drop from items)
rest_of from to items forth =
    let there : to ≡ from + (to - from) = omega arith in
    ap (λ (k : ℕ). drop k items) there ∙ sym (drop-drop (to - from) from items)

-- at first no part is handed on
pub none_handed : (written : Option (List ℕ)) (from : ℕ) (items : List ℕ) → written ≡ grown written (take (from - from) items)
none_handed written from items =
    let none : from - from ≡ 0 = omega arith in
    rw none (sym (grown-nothing written))

-- a next part behind those before
pub more_handed : (written : Option (List ℕ)) (from to n : ℕ) (items : List ℕ) → from ≤ to → grown (grown written (take (to - from) (drop from items))) (take n (drop to items)) ≡ grown written (take (to + n - from) (drop from items))
more_handed written from to n items forth =
    let all : to + n - from ≡ (to - from) + n = omega arith in
    grown-grown written _ _
    ∙ ap (grown written) (ap (λ (rest : List ℕ). take (to - from) (drop from items) ++ take n rest) (rest_of from to items forth) ∙ sym (take-add (to - from) n (drop from items)) ∙ ap (λ (k : ℕ). take k (drop from items)) (sym all))

-- what is handed on and what waits behind it are what waited
pub rest_waits : (written : Option (List ℕ)) (from to : ℕ) (items : List ℕ) → from ≤ to → grown (grown written (take (to - from) (drop from items))) (drop to items) ≡ grown written (drop from items)
rest_waits written from to items forth =
    grown-grown written _ _
    ∙ ap (grown written) (ap (λ (rest : List ℕ). take (to - from) (drop from items) ++ rest) (rest_of from to items forth) ∙ take-append-drop (to - from) (drop from items))

-- a piece that is gathered waits behind what waited
pub piece_waits : (written : Option (List ℕ)) (handed : ℕ) (items piece : List ℕ) → handed ≤ length items → grown written (drop handed (items ++ piece)) ≡ grown (grown written (drop handed items)) piece
piece_waits written handed items piece within =
    ap (grown written) (drop-append-le handed items piece within) ∙ sym (grown-grown written (drop handed items) piece)

-- a piece goes past the buffer where nothing waits
pub piece_passes : (before after now : Option (List ℕ)) (waits piece : List ℕ) → waits ≡ [] → grown before waits ≡ now → after ≡ grown before piece → grown after waits ≡ grown now piece
piece_passes before after now waits piece none same passed =
    let all : before ≡ now = sym (grown-nothing before) ∙ ap (grown before) (sym none) ∙ same in
    ap (grown after) none ∙ grown-nothing after ∙ passed ∙ ap (λ (w : Option (List ℕ)). grown w piece) all
