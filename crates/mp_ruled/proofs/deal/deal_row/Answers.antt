use Rattle.std.proofs.Common.{◌<◌, ◌∷◌, [], length, refl, ap, ◌∙◌, arith, length-set, length-append}
use Rattle.std.proofs.lemmas.List.{map-set}
use Rattle.std.proofs.lemmas.Option.{slice_get_read}
use Rattle.mp_ruled.specs.Dealing.{lists_of, AreEnds}
use Rattle.mp_ruled.proofs.Places.{mapped}
use Rattle.mp_ruled.proofs.Dealt.{row_more}
use Rattle.mp_ruled.proofs.deal.deal_row.Goals as goal

pub loop-to-preserved : goal.loop-to-preserved
loop-to-preserved g c =
    let i = c.loop-to.invariant in
    let to = c.loop-to.to in
    let columns = c.loop-to.columns.items in
    let row = c.loop-to.row.items in
    let sender = c.in_ok-sender.sender in
    let receiver = c.in_ok-sender.receiver in
    let near : to < length columns = omega (arith, c.loop-to-test.true, i.square) in
    let here = slice_get_read columns _ to c.index_mut.result.now refl near c.index_mut.ensures.value in
    let column = mapped (λ v. v.items) columns to c.index_mut.result.now here in
    let ends : AreEnds c.args.from to c.args.depth sender receiver = record { sender_is = c.in_ok-sender.ensures.sender; receiver_is = c.in_ok-sender.ensures.receiver; one_queue = c.in_ok-sender.ensures.queue } in
    let more = row_more c.args.from to c.args.depth row (lists_of c.args.columns.now.items) (lists_of columns) sender receiver c.index_mut.result.now.items i.dealt i.many column ends in
    record {
      room = omega (arith, i.room, c.push_reserved.ensures.capacity);
      many = omega (arith, ap length c.push_reserved.ensures.items, length-append row (sender ∷ []), i.many);
      square = length-set columns to c.push.new.self ∙ i.square;
      dealt = rw (c.push_reserved.ensures.items, map-set, c.in_ok-push.ensures.items) more;
    }
