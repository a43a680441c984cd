-- What the names of a job tell of its messages.
use Rattle.std.specs.Prelude.{◌≡◌, ℕ, List}
use Rattle.mp_names.specs.declared.names.Name.{Name}
use Rattle.mp_names.specs.declared.controls.Control.{Control}
use Rattle.mp_names.specs.declared.names.Name.TheVariants.{Ctrl as CtrlName, Rec as RecName, Packet as PacketName, Row as RowName}
use Rattle.mp_names.specs.declared.names.Tag.{Tag}
use Rattle.mp_names.specs.Names.{In}
use Rattle.mp_names.specs.Outlines.{IsOwed}
use Rattle.mp_machine.specs.Messages.{IsMessage}
use Rattle.mp_model.specs.declared.fields.Field.{Field}
use Rattle.mp_model.specs.declared.record.Rec.{Rec}
use Rattle.mp_model.specs.Facts.{JobFacts, QueryFacts}
use Rattle.mp_outline.specs.JobOutline.{name_of_record, outline_of}
use Rattle.mp_msg.specs.declared.message.Body.{Body}
use Rattle.mp_msg.specs.Bodies.{IsContentOf, names_of_body}
use Rattle.mp_msg.specs.Bundles.{Bundled, HasOneSender, IsBundle, names_in}
use Rattle.mp_msg.specs.Contents.{IsControlOf, IsPacketOf, IsRecordOf, IsRowOf}
use Rattle.mp_msg.specs.States.{BinContent, IsStateBefore}

module _ {Cell : Type 0} where
  -- each record of a stage has to be sent
  abbrev pub RecordsAreOwed : QueryFacts Cell → JobFacts → Type 0
  RecordsAreOwed q job = (j : ℕ) (r : Rec) → IsRecordOf q job j r → IsOwed (outline_of q job) (name_of_record j r)

  -- and so has each answer row
  abbrev pub RowsAreOwed : QueryFacts Cell → JobFacts → Type 0
  RowsAreOwed q job = (t : ℕ) (g : Tag) (fields : List Field) → IsRowOf q job t g fields → IsOwed (outline_of q job) (RowName t g)

  -- and so has each control record, to each worker
  abbrev pub ControlsAreOwed : QueryFacts Cell → JobFacts → Type 0
  ControlsAreOwed q job = (i v : ℕ) (c : Control) → IsControlOf job i v c → IsOwed (outline_of q job) (CtrlName i v)

  -- and the state of each bin that moves
  abbrev pub PacketsAreOwed : QueryFacts Cell → JobFacts → Type 0
  PacketsAreOwed q job = (j b t : ℕ) (s : BinContent Cell) → IsPacketOf q job j b t s → IsOwed (outline_of q job) (PacketName j b t)

  -- where the name of a record has to be sent the job has that record
  abbrev pub OwedRecordsAreThere : QueryFacts Cell → JobFacts → Type 0
  OwedRecordsAreThere q job =
      (j t k : ℕ) (g : Tag)
      → IsOwed (outline_of q job) (RecName j t k g)
      → (r : Rec) × IsRecordOf q job j r × (name_of_record j r ≡ RecName j t k g)

  -- two records of a stage with one name are one record
  abbrev pub RecordsFollowNames : QueryFacts Cell → JobFacts → Type 0
  RecordsFollowNames q job =
      (j : ℕ) (r s : Rec) → IsRecordOf q job j r → IsRecordOf q job j s → name_of_record j r ≡ name_of_record j s → r ≡ s

  -- and two bundles with the same names are one bundle
  abbrev pub BundlesFollowNames : QueryFacts Cell → JobFacts → Type 0
  BundlesFollowNames q job = (a b : Bundled) → IsBundle q job a → IsBundle q job b → names_in a ≡ names_in b → a ≡ b

  -- two answer rows with one time and one tag have the same fields
  abbrev pub RowsFollowNames : QueryFacts Cell → JobFacts → Type 0
  RowsFollowNames q job = (t : ℕ) (g : Tag) (a b : List Field) → IsRowOf q job t g a → IsRowOf q job t g b → a ≡ b

  -- a bin has one state just before a time
  abbrev pub StatesFollowNames : QueryFacts Cell → JobFacts → Type 0
  StatesFollowNames q job = (j b t : ℕ) (s r : BinContent Cell) → IsStateBefore q job j b t s → IsStateBefore q job j b t r → s ≡ r

  -- two messages with the same names hold the same
  abbrev pub BodiesFollowNames : QueryFacts Cell → JobFacts → Type 0
  BodiesFollowNames q job =
      (a b : Body Cell) → IsContentOf q job a → IsContentOf q job b → names_of_body a ≡ names_of_body b → a ≡ b

  -- what a message holds has to be sent, by one worker, and its names are those of a message
  abbrev pub BodiesAreMessages : QueryFacts Cell → JobFacts → Type 0
  BodiesAreMessages q job =
      (b : Body Cell)
      → IsContentOf q job b
      → IsMessage (outline_of q job) (names_of_body b)
      × HasOneSender (outline_of q job) (names_of_body b)
      × ((x : Name) → In x (names_of_body b) → IsOwed (outline_of q job) x)
