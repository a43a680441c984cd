use Rattle.std.proofs.Common.{◌≡◌, ◌-◌, ◌<◌, ◌∙◌, true, false, ap, length, get_or, refl, sym, ⊎_elim, arith}
use Rattle.std.proofs.lemmas.Bool.{cases_Bool}
use Rattle.std.proofs.lemmas.List.Sums.{prefix_len-le-length}
use Rattle.mp_names.specs.Names.{is_before}
use Rattle.mp_ordered.proofs.Halving.{count_past, count_upto}
use Rattle.mp_ordered.proofs.Placing.{partitioned}
use Rattle.mp_ordered.proofs.among.ends_before.Goals as goal

pub returns-in-Some : goal.returns-in-Some
returns-in-Some g c =
    let rank = g.O.Order.rank in
    let x = c.args.item.now in
    let xs = c.args.block.now.items in
    let y = c.in-Some.last.now in
    let len = c.args.block.now.ok.0 in
    let some : 0 < length xs = omega (arith, len, c.in-Some.ensures.variant.0 refl) in
    let there : y ≡ get_or xs (length xs - 1) y = c.in-Some.ensures.lookup ∙ ap (λ n. get_or xs (n - 1) y) len in (
      λ t.
          let past = count_past (λ z. is_before (rank z) (rank x)) xs (length xs - 1) y (partitioned rank x xs c.requires) (omega arith) there (sym c.is_before.ensures ∙ t) in
          (some, omega (arith, past, prefix_len-le-length (λ z. is_before (rank z) (rank x)) xs)),
      λ all.
          ⊎_elim
          (λ (t : is_before (rank y) (rank x) ≡ true). c.is_before.ensures ∙ t)
          (λ (f : is_before (rank y) (rank x) ≡ false). let upto = count_upto (λ z. is_before (rank z) (rank x)) xs (length xs - 1) y there f in absurd (omega (arith, upto, some, all.1)))
          (cases_Bool (is_before (rank y) (rank x))),
    )
