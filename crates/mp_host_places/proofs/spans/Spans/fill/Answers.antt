use Rattle.std.proofs.Common.{◌<◌, arith, length, slice_set, subst}
use Rattle.std.proofs.Math.ListN.{length-set}
use Rattle.std.proofs.lemmas.List.{get_or_read}
use Rattle.mp_host_places.specs.declared.spans.Span.{Span}
use Rattle.mp_host_places.specs.Spans.{nowhere}
use Rattle.mp_host_places.proofs.Spanned.{KeepsOthers, last_is_out, place_is_filled}
use Rattle.mp_host_places.proofs.spans.Spans.fill.Goals as goal

pub returns-then-place-last-clause-spans : goal.returns-then-place-last-clause-spans
returns-then-place-last-clause-spans c = λ bins count of_out of_moved are.
    let spans = c.self.inside.spans.items in
    let place = c.args.place in
    let last = c.args.last in
    let out = c.args.out in
    let moved = c.args.moved in
    let left = c.narrowed-span.result in
    let inside : out < length spans = rw c.self.view_is c.requires.bins.0 in
    let there : moved < length spans = rw c.self.view_is c.requires.bins.1 in
    let old = rw (← c.self.view_is) at are in
    let narrower = subst (λ (s : Span). KeepsOthers place s left) (get_or_read spans out c.index.result.now inside c.index.ensures nowhere) c.narrowed-span.ensures in
    let same = length-set spans out left in
    let still : moved < length (slice_set spans out left) = omega arith in
    let shorter = subst (λ (s : Span). KeepsOthers last s c.narrowed.result) (get_or_read (slice_set spans out left) moved c.index-then-place-last.result.now still c.index-then-place-last.ensures nowhere) c.narrowed.ensures in
    place_is_filled bins spans place last out moved inside c.requires.places.0 count of_out of_moved old left narrower there c.narrowed.result c.widened-span.result shorter c.widened-span.ensures.place c.widened-span.ensures.others

pub returns-else-place-last-clause-spans : goal.returns-else-place-last-clause-spans
returns-else-place-last-clause-spans c = λ bins count of_out of_moved are.
    let spans = c.self.inside.spans.items in
    let place = c.args.place in
    let out = c.args.out in
    let left = c.narrowed-span.result in
    let inside : out < length spans = rw c.self.view_is c.requires.bins.0 in
    let old = rw (← c.self.view_is) at are in
    let narrower = subst (λ (s : Span). KeepsOthers place s left) (get_or_read spans out c.index.result.now inside c.index.ensures nowhere) c.narrowed-span.ensures in
    last_is_out bins spans place c.args.last out c.args.moved inside c.requires.places.0 count of_out of_moved old left narrower (omega arith)
