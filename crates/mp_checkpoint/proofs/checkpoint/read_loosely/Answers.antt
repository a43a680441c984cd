-- The first line gives the time, and the lines behind it the cells and wakes.
use Rattle.std.proofs.Common.{◌≡◌, ◌++◌, ◌∷◌, [], ℕ, List, length, sym, ap, ◌∙◌}
use Rattle.std.proofs.lemmas.Option.{none-some, same_Some}
use Rattle.mp_checkpoint_laws.specs.Files.{cells_on, first_line, format_of, lines_of, wakes_on}
use Rattle.mp_checkpoint_laws.proofs.Parted.{cells_again, wakes_again}
use Rattle.mp_checkpoint.proofs.Readables.{begins_with_first, behind_first, few_said, first_ended, lines_readable, rest_is, time_low}
use Rattle.mp_checkpoint.proofs.checkpoint.read_loosely.Goals as goal

pub returns-in_default : goal.returns-in_default
returns-in_default g c = λ d low is.
    let vs = g.Q.Query.values c.args.query.now in
    let f = format_of g.Q.Saved.NUMBER vs (g.Q.Query.facts vs) g.Q.Query.text_of in
    let lines = lines_of d.cells d.wakes in
    none-some d.time (sym c.in_default.is ∙ c.in_ok-time.ensures d.time (behind_first f lines) (time_low d.time is.fits.time.1) (first_ended f d.time lines c.args.text.now is.text))

pub returns-in_default-behind : goal.returns-in_default-behind
returns-in_default-behind g c = λ d low is.
    let vs = g.Q.Query.values c.args.query.now in
    let f = format_of g.Q.Saved.NUMBER vs (g.Q.Query.facts vs) g.Q.Query.text_of in
    let lines = lines_of d.cells d.wakes in
    let time : c.in-Some.time ≡ d.time = same_Some c.in-Some.time d.time (sym c.in-Some.is ∙ c.in_ok-time.ensures d.time (behind_first f lines) (time_low d.time is.fits.time.1) (first_ended f d.time lines c.args.text.now is.text)) in
    let first_at = λ (t : ℕ). first_line f t ++ 10 ∷ [] in
    let told : c.as_slice.result.now ≡ first_at d.time = c.as_slice.ensures.value ∙ c.in_ok-put_first_line.ensures ∙ ap (λ (l : List ℕ). l ++ first_at c.in-Some.time) c.new-first.ensures.items ∙ ap first_at time in
    c.in_default-behind.ensures (behind_first f lines) (begins_with_first f d.time lines c.args.text.now is.text ∙ ap (λ (l : List ℕ). l ++ behind_first f lines) (sym told))

pub returns : goal.returns
returns g c = λ d low is.
    let laws = g.met.Q.Query g.world.𝓛 g.world.𝓜 g.world.𝓡 ((λ s x. x), (λ x. x), (λ x. x), λ x. x) in
    let vs = g.Q.Query.values c.args.query.now in
    let f = format_of g.Q.Saved.NUMBER vs (g.Q.Query.facts vs) g.Q.Query.text_of in
    let lines = lines_of d.cells d.wakes in
    let text = c.args.text.now in
    let time : c.in-Some.time ≡ d.time = same_Some c.in-Some.time d.time (sym c.in-Some.is ∙ c.in_ok-time.ensures d.time (behind_first f lines) (time_low d.time is.fits.time.1) (first_ended f d.time lines text is.text)) in
    let first_at = λ (t : ℕ). first_line f t ++ 10 ∷ [] in
    let told : c.as_slice.result.now ≡ first_at c.in-Some.time = c.as_slice.ensures.value ∙ c.in_ok-put_first_line.ensures ∙ ap (λ (l : List ℕ). l ++ first_at c.in-Some.time) c.new-first.ensures.items in
    let rest : c.in-Some-behind.rest.now ≡ behind_first f lines = rest_is f d.time lines text is.text c.in-Some.time c.as_slice.result.now c.in-Some-behind.rest.now time told c.in-Some-behind.ensures in
    let read = c.in_ok-read_items.ensures d.time (length lines) lines (few_said f d.time lines text is.text low) (lines_readable f d (laws.has_stages vs).1 is.fits) rest in
    let cells = read.0 ∙ ap (λ (l : List _). l ++ cells_on lines) c.new-cells.ensures.items ∙ cells_again d.cells d.wakes in
    let wakes = read.1 ∙ ap (λ (l : List _). l ++ wakes_on lines) c.new-wakes.ensures.items ∙ wakes_again d.cells d.wakes in
    λ x. record { time = time x; cells = cells x; wakes = wakes x }
