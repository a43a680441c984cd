-- The rank of a name as six numbers.
use Rattle.std.specs.Ordering.{nat_cmp, ordering_then}
use Rattle.std.specs.declared.cmp.Ordering.{Ordering}
use Rattle.mp_names.specs.declared.names.Name.{Name}
use Rattle.mp_names.specs.declared.names.Name.TheVariants.{Ctrl, Rec, Packet, Row, Group, Settled, Written}
use Rattle.mp_outline_lists.specs.declared.rank.Rank.{Rank}

-- the numbers of its rank, and zeros after them
abbrev pub rank_of : Name → Rank
rank_of (Ctrl i v) = record { 0 = 0; 1 = i; 2 = v; 3 = 0; 4 = 0; 5 = 0 }
rank_of (Rec j t k g) = record { 0 = 1; 1 = t; 2 = j; 3 = g.0; 4 = g.1; 5 = k }
rank_of (Packet j b t) = record { 0 = 2; 1 = t; 2 = j; 3 = b; 4 = 0; 5 = 0 }
rank_of (Row t g) = record { 0 = 3; 1 = t; 2 = g.0; 3 = g.1; 4 = 0; 5 = 0 }
rank_of (Group j t k) = record { 0 = 4; 1 = t; 2 = j; 3 = k; 4 = 0; 5 = 0 }
rank_of (Settled j t) = record { 0 = 5; 1 = t; 2 = j; 3 = 0; 4 = 0; 5 = 0 }
rank_of (Written t) = record { 0 = 6; 1 = t; 2 = 0; 3 = 0; 4 = 0; 5 = 0 }

-- how ranks compare
abbrev pub rank_cmp : Rank → Rank → Ordering
rank_cmp r s =
    ordering_then (nat_cmp r.0 s.0)
    (ordering_then (nat_cmp r.1 s.1)
    (ordering_then (nat_cmp r.2 s.2)
    (ordering_then (nat_cmp r.3 s.3)
    (ordering_then (nat_cmp r.4 s.4) (nat_cmp r.5 s.5)))))
