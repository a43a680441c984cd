-- A list stands between two ends.
use Rattle.std.proofs.Common.{◌≡◌, ◌∙◌, ◌<◌, arith, get_or, length, rules}
use Rattle.std.proofs.lemmas.Grind.{get_or_default_zero}
use Rattle.mp_job_lists.specs.Cut.{start_of}
use Rattle.mp_job_lists.proofs.Cuts.{ends_at, none_past, told_at}
use Rattle.mp_job_lists.proofs.posts.Posts.at.Goals as goal

pub returns-then-place-len : goal.returns-then-place-len
returns-then-place-len c =
    λ list e. none_past c.self.inside.times.items c.self.inside.ends.items c.args.place list (omega (arith, c.len.ensures, c.if-place-len.true)) (rw (← c.self.view_is) at e)

pub part-requires-clause-order : goal.part-requires-clause-order
part-requires-clause-order c =
    let ends = c.self.inside.ends.items in
    let l : c.args.place < length ends = omega (arith, c.len.ensures, c.if-place-len.false) in
    let both = ends_at 0 ends (length c.self.inside.times.items) c.args.place c.self.invariant l in
    let end : c.index.result.now ≡ get_or ends c.args.place 0 = c.index.ensures ∙ get_or_default_zero ends c.args.place c.index.result.now l in
    let start : c.start_of.result ≡ start_of 0 ends c.args.place = search rules in
    omega (arith, both.0, end, start)

pub part-requires-clause-within : goal.part-requires-clause-within
part-requires-clause-within c =
    let ends = c.self.inside.ends.items in
    let l : c.args.place < length ends = omega (arith, c.len.ensures, c.if-place-len.false) in
    let both = ends_at 0 ends (length c.self.inside.times.items) c.args.place c.self.invariant l in
    let end : c.index.result.now ≡ get_or ends c.args.place 0 = c.index.ensures ∙ get_or_default_zero ends c.args.place c.index.result.now l in
    let times : c.deref.result.now ≡ c.self.inside.times.items = search rules in
    rw times (omega (arith, both.1, end))

pub returns : goal.returns
returns c =
    let ends = c.self.inside.ends.items in
    let l : c.args.place < length ends = omega (arith, c.len.ensures, c.if-place-len.false) in
    let end : c.index.result.now ≡ get_or ends c.args.place 0 = c.index.ensures ∙ get_or_default_zero ends c.args.place c.index.result.now l in
    let start : c.start_of.result ≡ start_of 0 ends c.args.place = search rules in
    let times : c.deref.result.now ≡ c.self.inside.times.items = search rules in
    λ list e. c.part.ensures ∙ rw (end, start, times) (told_at c.self.inside.times.items ends c.args.place list l (rw (← c.self.view_is) at e))
