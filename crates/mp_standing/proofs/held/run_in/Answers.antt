use Rattle.std.proofs.Common.{◌≡◌, ◌+◌, ◌<◌, ◌==◌, Bool, drop, ap, ◌∙◌, arith}
use Rattle.std.proofs.lemmas.Bool.{eq-eqb, eqb-true, false_from_ne_true}
use Rattle.std.proofs.lemmas.List.Sums.{prefix_len-drop_yes, prefix_len-drop_no}
use Rattle.std.proofs.lemmas.Option.{slice_get_within, get_or_from_slice_get}
use Rattle.std.specs.List.{prefix_len}
use Rattle.mp_chart.specs.declared.entry.Entry.{Entry}
use Rattle.mp_standing.proofs.held.run_in.Goals as goal

pub returns-then-entry-time : goal.returns-then-entry-time
returns-then-entry-time c =
    let p : Entry → Bool = λ e. e.time == c.args.time in
    let xs = c.args.list.now.items in
    let i = c.loop-index.index in
    let e = c.in-Some.entry.now in
    let there = c.in-Some.ensures.some in
    let low = slice_get_within xs i e there in
    let here = ap p (get_or_from_slice_get xs i e e there) in
    let other = false_from_ne_true (e.time == c.args.time) (λ h. c.if-entry-time.true (eqb-true e.time c.args.time h)) in
    let none = prefix_len-drop_no p xs i e low (here ∙ other) in
    let all = c.loop-index.invariant in
    let l : i < c.args.most = c.loop-index-test.true in
    let is : prefix_len p xs ≡ i = omega arith in
    omega arith

pub loop-index-preserved : goal.loop-index-preserved
loop-index-preserved c =
    let p : Entry → Bool = λ e. e.time == c.args.time in
    let xs = c.args.list.now.items in
    let i = c.loop-index.index in
    let e = c.in-Some.entry.now in
    let there = c.in-Some.ensures.some in
    let low = slice_get_within xs i e there in
    let here = ap p (get_or_from_slice_get xs i e e there) in
    let same = eq-eqb e.time c.args.time c.if-entry-time.false in
    let one = prefix_len-drop_yes p xs i e low (here ∙ same) in
    let all : prefix_len p xs ≡ i + prefix_len p (drop i xs) = c.loop-index.invariant in
    let sum : prefix_len p xs ≡ i + 1 + prefix_len p (drop (i + 1) xs) = omega arith in
    sum
