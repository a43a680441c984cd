use Rattle.std.proofs.Common.{◌++◌, ◌∷◌, ◌∙◌, List, ℕ, ap, sym, append_assoc}
use Rattle.std.specs.Fmt.{decimal}
use Rattle.std.specs.List.{flat_map}
use Rattle.mp_saved.specs.Numbers.{numbers_text}
use Rattle.mp_saved.proofs.Spelled.{word_joined}
use Rattle.mp_saved.proofs.numbers.put_numbers.Goals as goal

pub returns : goal.returns
returns c =
    let old = c.args.out.now.items in
    let n = c.in-Some.first.now in
    let more = c.in-Some.others.now in
    let behind = flat_map (λ (m : ℕ). 124 ∷ decimal m) more in
    c.in_ok-put_more.ensures
    ∙ ap (λ (front : List ℕ). front ++ behind) c.in_ok-put_number.ensures.written
    ∙ append_assoc old (decimal n) behind
    ∙ ap (λ (text : List ℕ). old ++ text) (sym (word_joined (decimal n) more) ∙ ap numbers_text (sym c.in-Some.ensures.cases.0))
