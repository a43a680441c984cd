-- What the lists of an outline are.
use Rattle.std.specs.Prelude.{◌≡◌, ◌-◌, map}
use Rattle.std.specs.List.{range_with_len}
use Rattle.mp_names.specs.Outlines.{Outline}
use Rattle.mp_group_lists.specs.declared.lists.GroupLists.{GroupLists}
use Rattle.mp_group_lists.specs.Parts.{groups_in, rows_in, next_records}

-- the lists are those of the outline
pub record AreListsOf (o : Outline) (lists : GroupLists) : Type 0 where
  pub groups : map (λ parts. map (λ part. part.items) parts.items) lists.groups.items ≡ map (groups_in o) (range_with_len 0 o.stages)
  pub rows : map (λ part. part.items) lists.rows.items ≡ rows_in o
  pub records : map (λ part. part.items) lists.records.items ≡ map (next_records o) (range_with_len 0 (o.stages - 1))
