use Rattle.std.proofs.Common.{◌≡◌, ◌∙◌, ◌+◌, ◌^◌, ◌<◌, Ok, Err, length, arith, ap, subst, sym}
use Rattle.mp_events.specs.Events.{events_of}
use Rattle.mp_events.specs.Usual.{refused_behind}
use Rattle.mp_lines.specs.Refusals.{IfBadLine}
use Rattle.mp_events.proofs.LegalEvents.{legal_events}
use Rattle.mp_events.proofs.Pieces.{piece_first}
use Rattle.mp_events.proofs.PlainNames.{plain_events}
use Rattle.mp_events.proofs.UsualLines.{few_lines, refused_there, rest_passes}
use Rattle.mp_events.proofs.reading.read_behind.Goals as goal

pub behind-requires : goal.behind-requires
behind-requires c =
    let text = c.args.text.now in
    let parts = c.into_parts-events.result in
    let is = c.into_parts-events.ensures in
    let first = piece_first text c.args.first parts.0.items parts.1 c.requires.piece c.requires.start (ap (λ v. v.items) is.0) is.1 in
    let few = few_lines text parts.0.items _ first c.in-Err.refused c.in-Err.ensures.bad_line (let all : length text < 2 ^ 64 = omega arith in all) in
    subst (λ n. IfBadLine c.in-Err.refused (λ line _. line + n < 2 ^ 64)) (let same : length parts.0.items ≡ c.len-lines.result = omega (arith, c.len-lines.ensures, parts.0.ok.0) in same) few

pub returns-in-Ok-clause-events : goal.returns-in-Ok-clause-events
returns-in-Ok-clause-events c =
    let text = c.args.text.now in
    let parts = c.into_parts-events.result in
    let is = c.into_parts-events.ensures in
    let first = piece_first text c.args.first parts.0.items parts.1 c.requires.piece c.requires.start (ap (λ v. v.items) is.0) is.1 in
    rest_passes text parts.0.items _ first c.in-Ok.list c.in-Ok.ensures.said ∙ ap Ok (sym c.into_events.ensures)

pub returns-in-Ok-clause-legal : goal.returns-in-Ok-clause-legal
returns-in-Ok-clause-legal c = (legal_events c.args.text.now c.into_events.result.items (returns-in-Ok-clause-events c)).0

pub returns-in-Ok-clause-few : goal.returns-in-Ok-clause-few
returns-in-Ok-clause-few c = omega (arith, (legal_events c.args.text.now c.into_events.result.items (returns-in-Ok-clause-events c)).1, c.into_events.result.ok.0)

pub returns-in-Ok-clause-plain : goal.returns-in-Ok-clause-plain
returns-in-Ok-clause-plain c = plain_events c.args.text.now c.into_events.result.items (returns-in-Ok-clause-events c)

pub returns-in-Err-clause-bad_line : goal.returns-in-Err-clause-bad_line
returns-in-Err-clause-bad_line c =
    let text = c.args.text.now in
    let parts = c.into_parts-events.result in
    let is = c.into_parts-events.ensures in
    let first = piece_first text c.args.first parts.0.items parts.1 c.requires.piece c.requires.start (ap (λ v. v.items) is.0) is.1 in
    let lines : c.len-lines.result ≡ length parts.0.items = omega (arith, c.len-lines.ensures, parts.0.ok.0) in
    let is = c.behind.ensures ∙ ap (λ n. refused_behind n c.in-Err.refused) lines in
    subst (λ r. IfBadLine r (λ line why. events_of text ≡ Err (line, why))) (sym is) (refused_there text parts.0.items _ first c.in-Err.refused c.in-Err.ensures.bad_line)
