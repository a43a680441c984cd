-- As many blocks as the loop has come to are spare ones.
use Rattle.std.proofs.Common.{◌≡◌, ◌+◌, ◌≤◌, All, drop, length}
use Rattle.std.specs.Vec.{vec_capacity}
use Rattle.mp_ordered.specs.Blocks.{IsBlock, IsSpare, past_halves}
use Rattle.mp_ordered.proofs.front.retire_first.Given as goal

abbrev pub invariant-loop-retired : goal.invariant-loop-retired
invariant-loop-retired g l = record {
  inside : l.gone ≤ length l.blocks.items;
  blocks : drop l.gone l.blocks.items ≡ drop l._retired (drop l.initial.gone l.initial.blocks.items);
  low : All IsBlock (drop l.gone l.blocks.items);
  empty : All IsSpare l.spare.items;
  more : length l.spare.items ≡ length l.initial.spare.items + l._retired;
  past : l.left ≡ past_halves (drop l.gone l.blocks.items);
  for_blocks : vec_capacity l.blocks ≡ vec_capacity l.initial.blocks;
  for_spare : vec_capacity l.spare ≡ vec_capacity l.initial.spare;
}
