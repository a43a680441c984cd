-- What a message holds is called by the names of one message.
use Rattle.std.proofs.Common.{◌≡◌, ◌<◌, List, [], ◌∷◌, sym, ap, ◌∙◌, subst, ⊎_elim, arith}
use Rattle.std.proofs.lemmas.Bool.{false≢true}
use Rattle.std.proofs.lemmas.List.Elements.{All-contains}
use Rattle.mp_names.specs.declared.names.Name.{Name}
use Rattle.mp_names.specs.declared.names.Name.TheVariants.{Ctrl as CtrlName, Packet as PacketName, Row as RowName}
use Rattle.mp_names.specs.Names.{In}
use Rattle.mp_names.specs.Outlines.{IsOwed, IsOwedBy, IsOwedTo, Outline, receiver, sender, time_of}
use Rattle.mp_names.proofs.Lists.{In_cases, In_here}
use Rattle.mp_machine.specs.Messages.{IsMessage}
use Rattle.mp_model.specs.Facts.{JobFacts, QueryFacts}
use Rattle.mp_outline.specs.JobOutline.{name_of_record, outline_of}
use Rattle.mp_outline.proofs.Named.{In_named}
use Rattle.mp_msg.specs.declared.message.Body.TheVariants.{Ctrl, Recs, Packet, Row}
use Rattle.mp_msg.specs.Bundles.{Bundled, HasOneSender, IsBundle, names_in, receiver_of, sender_of}
use Rattle.mp_msg.specs.Contents.{IsRecordOf}
use Rattle.mp_msg.specs.Laws.{BodiesAreMessages}
use Rattle.mp_msg.proofs.Owed.{controls_are_owed, packets_are_owed, records_are_owed, rows_are_owed}

-- a list of one name has no other
only : (x y : Name) → In y (x ∷ []) → x ≡ y
only x y i = ⊎_elim (λ (e : x ≡ y). e) (λ (k : In y []). absurd (false≢true k)) (In_cases y x [] i)

-- where records may travel, a name alone is a message
pub one_name : (o : Outline) → 0 < o.bundle → (x : Name) → IsMessage o (x ∷ [])
one_name o l x =
    record {
      some = omega arith;
      few = omega arith;
      together = λ y z i k. let e = sym (only x y i) ∙ only x z k in (ap (time_of o) (sym e), ap (receiver o) (sym e));
      records = λ h. absurd (omega arith);
      ordered = ((λ y i. absurd (false≢true i)), tt);
    }

-- which one worker sends
one_sender : (o : Outline) (x : Name) → HasOneSender o (x ∷ [])
one_sender o x y z i k = ap (sender o) (sym (only x z k) ∙ only x y i)

one_owed : (o : Outline) (x : Name) → IsOwed o x → (y : Name) → In y (x ∷ []) → IsOwed o y
one_owed o x h y i = subst (IsOwed o) (only x y i) h

pub sent_from : (o : Outline) (m : List Name) (x : Name) → HasOneSender o m → In x m → IsOwed o x → IsOwedBy o (sender_of o m) x
sent_from o [] x one i h = absurd (false≢true i)
sent_from o (y ∷ ys) x one i h = (h, one y x (In_here y ys) i)

pub sent_to : (o : Outline) (m : List Name) (x : Name) → IsMessage o m → In x m → IsOwed o x → IsOwedTo o (receiver_of o m) x
sent_to o [] x one i h = absurd (false≢true i)
sent_to o (y ∷ ys) x one i h = (h, (one.together y x (In_here y ys) i).1)

module _ {Cell : Type 0} (q : QueryFacts Cell) (job : JobFacts) where
  bundle_owed : (b : Bundled) → IsBundle q job b → (x : Name) → In x (names_in b) → IsOwed (outline_of q job) x
  bundle_owed b h x i =
      let a = In_named (name_of_record b.stage) b.recs x i in
      subst (IsOwed (outline_of q job)) a.2 (records_are_owed q job b.stage a.0 (All-contains (IsRecordOf q job b.stage) b.recs a.0 h.records a.1))

  pub bodies_are_messages : BodiesAreMessages q job
  bodies_are_messages (Ctrl i v c) h = let x = CtrlName i v in let o = outline_of q job in (one_name o (omega arith) x, one_sender o x, one_owed o x (controls_are_owed q job i v c h))
  bodies_are_messages (Recs b) h = (h.message, h.sender, bundle_owed b h)
  bodies_are_messages (Packet j b t s) h = let x = PacketName j b t in let o = outline_of q job in (one_name o (omega arith) x, one_sender o x, one_owed o x (packets_are_owed q job j b t s h))
  bodies_are_messages (Row t g fields) h = let x = RowName t g in let o = outline_of q job in (one_name o (omega arith) x, one_sender o x, one_owed o x (rows_are_owed q job t g fields h))
