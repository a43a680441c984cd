-- That the numbers in a name are the job's.
use Rattle.std.specs.Prelude.{◌<◌}
use Rattle.mp_names.specs.declared.names.Name.{Name}
use Rattle.mp_names.specs.declared.names.Name.TheVariants.{Ctrl, Rec, Packet, Group}
use Rattle.mp_names.specs.Outlines.{Outline}
use Rattle.mp_parted.specs.declared.parting.By.{By}
use Rattle.mp_parted.specs.declared.parting.By.TheVariants.{Owner, Sender}

-- the receiver of a control record, and the stage and the bin of what is at a stage, are the job's
abbrev pub FitsShape : Outline → Name → Type 0
FitsShape o (Ctrl i v) = v < o.workers
FitsShape o (Rec j t k g) = j < o.stages
FitsShape o (Packet j b t) = (j < o.stages) × (b < o.bins)
FitsShape o (Group j t k) = j < o.stages
FitsShape o _ = Unit {0}

-- the name is that of a group at a stage of the job
abbrev pub IsGroupInShape : Outline → Name → Type 0
IsGroupInShape o (Group j t k) = j < o.stages
IsGroupInShape o _ = ⊥

-- whether names are parted by sender or by owner, the name can be
abbrev pub FitsBy : Outline → By → Name → Type 0
FitsBy o Sender x = FitsShape o x
FitsBy o Owner x = IsGroupInShape o x
