-- The packets that movers sent, as they are told.
use Rattle.std.proofs.Common.{◌≡◌, ◌∙◌, ℕ, suc, ◌<◌, ◌+◌, ◌++◌, List, [], ◌∷◌, All, arith, get_or, length, map, refl, sym, ap, subst, take}
use Rattle.std.proofs.lemmas.List.{append-nil}
use Rattle.std.proofs.lemmas.List.Elements.{All-map}
use Rattle.std.proofs.Math.Seq.{take-suc}
use Rattle.std.proofs.lemmas.Grind.{flat_map-append}
use Rattle.std.specs.Prelude.{flat_map}
use Rattle.mp_names.specs.declared.names.Name.{Name}
use Rattle.mp_names.specs.declared.names.Name.TheVariants.{Packet}
use Rattle.mp_model.specs.Facts.{JobFacts, QueryFacts}
use Rattle.mp_handoff.specs.declared.sent.Sent.{Sent}
use Rattle.mp_handoff.specs.Keys.{SentHasKeys}
use Rattle.mp_handoff.specs.MoversOf.{packets_of}
use Rattle.mp_handoff.specs.MoversState.{MoversState}
use Rattle.mp_tally.specs.declared.tally.Moved.{Moved}
use Rattle.mp_tally.specs.Tallies.{MovedHasKeys, moved_by, moved_of, name_of_moved}

-- what the packets of a stage are called
pub names_of : (j : ℕ) (sent : List Sent) → map name_of_moved (map (moved_of j) sent) ≡ packets_of j sent
names_of j [] = refl
names_of j (s ∷ sent) = ap (λ (xs : List Name). Packet j s.bin s.time ∷ xs) (names_of j sent)

-- the movers of one stage more
pub one_more : (movers : List MoversState) (n : ℕ) (m : MoversState) → n < length movers → moved_by (take (suc n) movers) ≡ moved_by (take n movers) ++ map (moved_of (get_or movers n m).stage) (get_or movers n m).sent
one_more movers n m l =
    let each = λ (m : MoversState). map (moved_of m.stage) m.sent in
    ap (flat_map each) (take-suc movers n m l)
    ∙ flat_map-append each (take n movers) (get_or movers n m ∷ [])
    ∙ ap (λ (l : List Moved). flat_map each (take n movers) ++ l) (append-nil (each (get_or movers n m)))

one_more_read : (movers : List MoversState) (n : ℕ) (m : MoversState) → n < length movers → m ≡ get_or movers n m → moved_by (take (n + 1) movers) ≡ moved_by (take n movers) ++ map (moved_of m.stage) m.sent
one_more_read movers n m l is =
    let next : suc n ≡ n + 1 = omega arith in
    subst (λ (k : ℕ). moved_by (take k movers) ≡ moved_by (take n movers) ++ map (moved_of m.stage) m.sent) next
    (subst (λ (a : MoversState). moved_by (take (suc n) movers) ≡ moved_by (take n movers) ++ map (moved_of a.stage) a.sent) (sym is) (one_more movers n m l))

-- what is told of so many movers, and of one more
pub told_more : (movers : List MoversState) (n : ℕ) (m : MoversState) (was now : List Moved) → n < length movers → m ≡ get_or movers n m → was ≡ moved_by (take n movers) → now ≡ was ++ map (moved_of m.stage) m.sent → now ≡ moved_by (take (n + 1) movers)
told_more movers n m was now inside is before more =
    more ∙ ap (λ (xs : List Moved). xs ++ map (moved_of m.stage) m.sent) before ∙ sym (one_more_read movers n m inside is)

-- what holds of each packet of a stage as it was sent holds of it beside its stage
pub keys_moved : {Cell : Type 0} (q : QueryFacts Cell) (job : JobFacts) (j : ℕ) (sent : List Sent) → All (SentHasKeys q job j) sent → All (MovedHasKeys q job) (map (moved_of j) sent)
keys_moved q job j sent h = All-map (MovedHasKeys q job) (moved_of j) sent h
