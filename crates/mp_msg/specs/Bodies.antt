-- What a message holds, as a value.
use Rattle.std.specs.Prelude.{List, [], ◌∷◌}
use Rattle.mp_names.specs.declared.names.Name.{Name}
use Rattle.mp_names.specs.declared.names.Name.TheVariants.{Ctrl as CtrlName, Packet as PacketName, Row as RowName}
use Rattle.mp_model.specs.Facts.{JobFacts, QueryFacts}
use Rattle.mp_msg.specs.declared.message.Body.{Body}
use Rattle.mp_msg.specs.declared.message.Body.TheVariants.{Ctrl, Recs, Packet, Row}
use Rattle.mp_msg.specs.Bundles.{IsBundle, names_in}
use Rattle.mp_msg.specs.Contents.{IsControlOf, IsPacketOf, IsRowOf}

module _ {Cell : Type 0} where
  -- the names of a message that holds this
  abbrev pub names_of_body : Body Cell → List Name
  names_of_body (Ctrl i v c) = CtrlName i v ∷ []
  names_of_body (Recs b) = names_in b
  names_of_body (Packet j b t s) = PacketName j b t ∷ []
  names_of_body (Row t g fields) = RowName t g ∷ []

  -- the job has this: a control record on its way to a worker, records of a stage that travel together, the state of a bin that moves, or a row of its answer
  abbrev pub IsContentOf : QueryFacts Cell → JobFacts → Body Cell → Type 0
  IsContentOf q job (Ctrl i v c) = IsControlOf job i v c
  IsContentOf q job (Recs b) = IsBundle q job b
  IsContentOf q job (Packet j b t s) = IsPacketOf q job j b t s
  IsContentOf q job (Row t g fields) = IsRowOf q job t g fields
