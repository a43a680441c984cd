use Rattle.std.proofs.Common.{◌≡◌, ◌∷◌, [], length, ap, sym, ◌∙◌, arith, length-append}
use Rattle.std.proofs.lemmas.List.{length-map, map-append}
use Rattle.std.proofs.lemmas.Result.{IfOk-weaker}
use Rattle.mp_ruled.specs.Dealing.{lists_of}
use Rattle.mp_ruled.proofs.Dealt.{rows_more, fit, new_posts, linked, stand_for_none}
use Rattle.mp_ruled.proofs.deal.ruled_posts.Goals as goal

pub loop-from-preserved : goal.loop-from-preserved
loop-from-preserved g c =
    let i = c.loop-from.invariant in
    let rows = c.loop-from.rows.items in
    let row = c.in_ok-row.row in
    let dealt = c.in_ok-row.ensures.dealt in
    let place : length (lists_of rows) ≡ c.loop-from.from = length-map rows (λ v. v.items) ∙ i.many in
    record {
      room = omega (arith, i.room, c.push_reserved.ensures.capacity);
      many = omega (arith, ap length c.push_reserved.ensures.items, length-append rows (row ∷ []), i.many);
      square = sym (length-map c.deal_row.new.columns.items (λ v. v.items)) ∙ (dealt.as_many ∙ (length-map c.loop-from.columns.items (λ v. v.items) ∙ i.square));
      dealt = rw (c.push_reserved.ensures.items, map-append) (rows_more _ _ _ (lists_of rows) _ _ row.items i.dealt dealt c.in_ok-row.ensures.many place);
    }

pub gather-requires-clause-fit : goal.gather-requires-clause-fit
gather-requires-clause-fit g c =
    let i = c.loop-from.invariant in
    let all : length (lists_of c.loop-from.rows.items) ≡ c.args.workers = omega (arith, length-map c.loop-from.rows.items (λ v. v.items), i.many, c.loop-from-test.false) in
    fit c.args.workers c.args.depth _ _ i.dealt all

pub returns-clause-new : goal.returns-clause-new
returns-clause-new g c =
    let i = c.loop-from.invariant in
    let all : length (lists_of c.loop-from.rows.items) ≡ c.args.workers = omega (arith, length-map c.loop-from.rows.items (λ v. v.items), i.many, c.loop-from-test.false) in
    IfOk-weaker c.gather.result _ _ (λ posts have. new_posts c.args.workers c.args.depth _ _ posts.items i.dealt all have) c.gather.ensures.ends

pub returns-clause-linked : goal.returns-clause-linked
returns-clause-linked g c =
    IfOk-weaker c.gather.result _ _ (λ posts have. linked c.args.workers c.args.depth _ _ posts.items c.loop-from.invariant.dealt have) c.gather.ensures.ends

pub returns-clause-stand : goal.returns-clause-stand
returns-clause-stand g c =
    let i = c.loop-from.invariant in
    let all : length (lists_of c.loop-from.rows.items) ≡ c.args.workers = omega (arith, length-map c.loop-from.rows.items (λ v. v.items), i.many, c.loop-from-test.false) in
    IfOk-weaker c.gather.result _ _ (λ posts have. stand_for_none g.M.Named.names c.args.workers c.args.depth posts.items (new_posts c.args.workers c.args.depth _ _ posts.items i.dealt all have)) c.gather.ensures.ends
