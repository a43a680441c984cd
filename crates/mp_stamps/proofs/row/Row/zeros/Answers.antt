use Rattle.std.proofs.Common.{◌≡◌, ◌∙◌, ◌+◌, ◌*◌, ◌/◌, ◌≤◌, ◌^◌, ap, true, length, pos, replicate, List, ℤ, rules, arith}
use Rattle.std.proofs.lemmas.List.{length-replicate}
use Rattle.mp_stamps.specs.Rows.{PieceState, joined}
use Rattle.mp_stamps.proofs.Joined.{fresh_row, joined_fresh}
use Rattle.mp_stamps.proofs.row.Row.zeros.Goals as goal

pub returns : goal.returns
returns c =
    let n = c.args.times / 1024 + 1 in
    let made : c.in_ok-pieces.pieces.items ≡ replicate n (record { kept = true; counts = replicate 1024 (pos 0) }) = c.in_ok-pieces.ensures in
    ap (λ (ps : List PieceState). record { given = 0; counts = joined ps }) made ∙ ap (λ (xs : List ℤ). record { given = 0; counts = xs }) (joined_fresh n)

pub invariant_of-result : goal.invariant_of-result
invariant_of-result c =
    let n = c.args.times / 1024 + 1 in
    let ps : List PieceState = c.in_ok-pieces.pieces.items in
    let made : ps ≡ replicate n (record { kept = true; counts = replicate 1024 (pos 0) }) = c.in_ok-pieces.ensures in
    let long : length ps ≡ n = ap (λ (qs : List PieceState). length qs) made ∙ length-replicate n _ in
    let first : c.no_span-span.result.first ≡ 1024 * n = search (long, rules) in
    let few : 1024 * n ≤ 2 ^ 63 = omega (arith, c.requires) in
    rw (made, first, c.no_span-span.ensures.end) (fresh_row n few)
