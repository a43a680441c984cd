-- An end as the queue's pass that it is made of.
use Rattle.std.specs.Prelude.{◌≡◌, true, false, [], Option}
use Rattle.crossbeam_queue.specs.declared.array_queue.Doing.{Doing}
use Rattle.crossbeam_queue.specs.declared.array_queue.Slotted.{Slotted}
use Rattle.crossbeam_queue.specs.Passes.{Pass, view, IsPassOf, ruled_capacity}
use Rattle.mp_ruled.specs.declared.view.QueueView.{QueueView}
use Rattle.mp_ruled.specs.Ends.{EndState}

module _ {M : Type 0} where
  abbrev pub end_state : Pass M (QueueView M) → EndState M
  end_state p = let v = view p in record { queue = p.table_id; from = v.from; to = v.to; depth = v.depth; sent = v.sent; got = v.got }

module _ {M Q A : Type 0} where
  -- the pass that pushes into this queue
  pub record IsSender (queue : Slotted (Option M) (Doing M (QueueView M)) Q A) (p : Pass M (QueueView M)) : Type 0 where
    pub of_queue : IsPassOf queue p
    pub pushes : (view p).pushes ≡ true
    pub pops_not : (view p).pops ≡ false
    pub deep : ruled_capacity queue ≡ (view p).depth

  -- the pass that pops out of this queue
  pub record IsReceiver (queue : Slotted (Option M) (Doing M (QueueView M)) Q A) (p : Pass M (QueueView M)) : Type 0 where
    pub of_queue : IsPassOf queue p
    pub pushes_not : (view p).pushes ≡ false
    pub pops : (view p).pops ≡ true

-- a pass that holds no slot
abbrev pub HoldsNothing : {M : Type 0} → Pass M (QueueView M) → Type 0
HoldsNothing p = p.me.1 ≡ []
