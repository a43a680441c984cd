-- The packets of moves.
use Rattle.mp_names.specs.declared.names.Name.{Name}
use Rattle.mp_names.specs.declared.names.Name.TheVariants.{Packet}
use Rattle.mp_names.specs.declared.controls.Move.{Move}

-- what the packet of a move is called
abbrev pub name_of_move : Move → Name
name_of_move m = Packet m.stage m.bin m.time
