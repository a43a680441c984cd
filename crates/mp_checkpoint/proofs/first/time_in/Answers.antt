-- Behind the front the time stands, up to its end.
use Rattle.std.proofs.Common.{◌≡◌, ◌≢◌, ◌++◌, ◌∷◌, ℕ, List, sym, ap, ◌∙◌, subst}
use Rattle.std.specs.Prelude.{All}
use Rattle.std.specs.Fmt.{decimal}
use Rattle.std.proofs.lemmas.List.{append_cancel_left}
use Rattle.mp_checkpoint_laws.specs.Files.{format_of}
use Rattle.mp_checkpoint.specs.Firsts.{byte_behind, front_of}
use Rattle.mp_checkpoint.proofs.Firsts.{behind_end, first_in_parts, no_end}
use Rattle.mp_checkpoint.proofs.first.time_in.Goals as goal

pub returns-in_default : goal.returns-in_default
returns-in_default g c = λ t rest low e.
    let vs = g.Q.Query.values c.args.query.now in
    let f = format_of g.Q.Saved.NUMBER vs (g.Q.Query.facts vs) g.Q.Query.text_of in
    let front = front_of g.Q.Saved.NUMBER in
    let told : c.as_slice.result.now ≡ front = c.as_slice.ensures.value ∙ c.in_ok-put_front.ensures ∙ ap (λ (l : List ℕ). l ++ front) c.new-front.ensures.items in
    let more = decimal t ++ byte_behind vs ∷ behind_end vs rest in
    absurd (c.in_default.ensures more (e ∙ first_in_parts f t rest ∙ ap (λ (l : List ℕ). l ++ more) (sym told)))

pub returns : goal.returns
returns g c = λ t rest low e.
    let vs = g.Q.Query.values c.args.query.now in
    let f = format_of g.Q.Saved.NUMBER vs (g.Q.Query.facts vs) g.Q.Query.text_of in
    let front = front_of g.Q.Saved.NUMBER in
    let told : c.as_slice.result.now ≡ front = c.as_slice.ensures.value ∙ c.in_ok-put_front.ensures ∙ ap (λ (l : List ℕ). l ++ front) c.new-front.ensures.items in
    let more = decimal t ++ byte_behind vs ∷ behind_end vs rest in
    let here : c.in-Some.rest.now ≡ more =
    append_cancel_left front c.in-Some.rest.now more (ap (λ (l : List ℕ). l ++ c.in-Some.rest.now) (sym told) ∙ sym c.in-Some.ensures ∙ e ∙ first_in_parts f t rest) in
    let end : c.byte_behind-end.result ≡ byte_behind vs = c.byte_behind-end.ensures ∙ ap byte_behind (c.as_slice-3.ensures ∙ c.values.ensures) in
    c.number_before.ensures t (behind_end vs rest) low
    (subst (λ (b : ℕ). All (λ (a : ℕ). a ≢ b) (decimal t)) (sym end) (no_end t vs low))
    (here ∙ ap (λ (b : ℕ). decimal t ++ b ∷ behind_end vs rest) (sym end))
