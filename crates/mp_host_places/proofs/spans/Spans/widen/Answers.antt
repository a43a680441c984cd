use Rattle.std.proofs.Common.{◌<◌, length, subst, sym}
use Rattle.std.proofs.lemmas.List.{get_or_read}
use Rattle.mp_host_places.specs.declared.spans.Span.{Span}
use Rattle.mp_host_places.specs.Spans.{IsSpanOf, nowhere}
use Rattle.mp_host_places.proofs.Spanned.{one_more, with_place}
use Rattle.mp_host_places.proofs.spans.Spans.widen.Goals as goal

pub returns-clause-spans : goal.returns-clause-spans
returns-clause-spans c = λ bins e are.
    let spans = c.self.inside.spans.items in
    let inside : c.args.bin < length spans = rw (c.self.view_is) (c.requires.bin) in
    let old = rw (← c.self.view_is) at are in
    let is = get_or_read spans c.args.bin c.index.result.now inside c.index.ensures nowhere in
    let span = subst (λ (s : Span). IsSpanOf s c.args.bin bins) (sym is) (old.each c.args.bin) in
    one_more spans bins c.args.bin c.widened-span.result inside old (with_place c.index.result.now c.widened-span.result c.args.bin c.args.place bins e span c.widened-span.ensures.place c.widened-span.ensures.others)
