-- What is read loosely is the one that can have this file; it has it, or none does.
use Rattle.std.proofs.Common.{◌≡◌, length, sym, subst, lit<}
use Rattle.std.proofs.lemmas.Bool.{both_ways}
use Rattle.std.proofs.lemmas.Option.{MatchOption-at_none, MatchOption-at_some}
use Rattle.mp_names.specs.Limits.{most_bytes}
use Rattle.mp_opening.specs.Checkpoints.{CheckpointOf}
use Rattle.mp_checkpoint_laws.specs.Files.{CheckpointFits, IsFileOf, format_of}
use Rattle.mp_checkpoint_laws.proofs.Prefixes.{fits}
use Rattle.mp_checkpoint.proofs.Opening.{may_open}
use Rattle.mp_checkpoint.proofs.checkpoint.read_checkpoint.Goals as goal

pub returns-clause-file : goal.returns-clause-file
returns-clause-file g c = record { fits = c.fits.ensures.0 c.if-not-fits.false; text = c.in_ok-same.ensures.0 c.if-not-same.false }

pub returns-clause-may : goal.returns-clause-may
returns-clause-may g c =
    let vs = g.Q.Query.values c.args.query.now in
    may_open g.Q.Saved.NUMBER vs (g.Q.Query.facts vs) g.Q.Query.text_of c.in-Some.checkpoint (c.fits.ensures.0 c.if-not-fits.false)

pub returns-in_default-clause-none : goal.returns-in_default-clause-none
returns-in_default-clause-none g c = λ why d is.
    let low = fits (length c.args.bytes.now) most_bytes c.requires (lit< tt) in
    MatchOption-at_none _ _ c.in_default.is (c.in_ok-checkpoint.ensures d low is)

pub returns-then-not-fits-clause-none : goal.returns-then-not-fits-clause-none
returns-then-not-fits-clause-none g c = λ why d is.
    let vs = g.Q.Query.values c.args.query.now in
    let f = format_of g.Q.Saved.NUMBER vs (g.Q.Query.facts vs) g.Q.Query.text_of in
    let low = fits (length c.args.bytes.now) most_bytes c.requires (lit< tt) in
    let same : c.in-Some.checkpoint ≡ d = MatchOption-at_some _ _ c.in-Some.checkpoint c.in-Some.is (c.in_ok-checkpoint.ensures d low is) in
    both_ways c.fits.result c.if-not-fits.true (c.fits.ensures.1 (subst (CheckpointFits f) (sym same) is.fits))

pub returns-then-not-same-clause-none : goal.returns-then-not-same-clause-none
returns-then-not-same-clause-none g c = λ why d is.
    let vs = g.Q.Query.values c.args.query.now in
    let f = format_of g.Q.Saved.NUMBER vs (g.Q.Query.facts vs) g.Q.Query.text_of in
    let low = fits (length c.args.bytes.now) most_bytes c.requires (lit< tt) in
    let same : c.in-Some.checkpoint ≡ d = MatchOption-at_some _ _ c.in-Some.checkpoint c.in-Some.is (c.in_ok-checkpoint.ensures d low is) in
    let there = subst (λ (s : CheckpointOf _). IsFileOf f s c.args.bytes.now) (sym same) is in
    both_ways c.in_ok-same.same c.if-not-same.true (c.in_ok-same.ensures.1 there.text)
