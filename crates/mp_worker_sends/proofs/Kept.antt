-- A post at which nothing was pushed or popped follows a log that stays.
use Rattle.std.proofs.Common.{◌≡◌, ◌≢◌, ◌⊎◌, ℕ, List, [], ◌∷◌, map, ⊎_elim, refl}
use Rattle.mp_names.specs.declared.names.Name.{Name}
use Rattle.mp_names.specs.declared.names.Name.TheVariants.{Packet as PacketName, Row as RowName}
use Rattle.mp_names.specs.declared.names.Tag.{Tag}
use Rattle.mp_names.specs.Logs.{Log}
use Rattle.mp_names.specs.Outlines.{Outline}
use Rattle.mp_mailbox.specs.Standing.{KeepsEdge, KeepsOthers}
use Rattle.mp_model.specs.declared.fields.Field.{Field}
use Rattle.mp_model.specs.declared.record.Rec.{Rec}
use Rattle.mp_msg.specs.declared.message.Body.{Body}
use Rattle.mp_msg.specs.declared.message.Body.TheVariants.{Ctrl, Recs, Packet, Row}
use Rattle.mp_msg.specs.Bodies.{names_of_body}
use Rattle.mp_outline.specs.JobOutline.{name_of_record}
use Rattle.mp_msg.specs.States.{BinContent}
use Rattle.mp_worker_refinement.specs.Ends.{FollowsLog, MessagesFollowLog, Standing, Waiting}
use Rattle.mp_worker_refinement.proofs.Lists.{at_edge, same_edge}
use Rattle.mp_worker_refinement.proofs.Messages.{messages_kept}

pub follows_kept : (o : Outline) (w : ℕ) (log : Log) (old new : Standing) (from to : ℕ) → KeepsEdge old new from to → KeepsOthers old new from to → FollowsLog old new o w log log
follows_kept o w log old new from to keeps others a b pushed popped in_a in_b stood =
    ⊎_elim
    (λ (s : (a ≡ from) × (b ≡ to)). at_edge (KeepsEdge old new) s keeps _ _ stood)
    (λ (other : (a ≢ from) ⊎ (b ≢ to)). others a b other _ _ stood)
    (same_edge a b from to)

-- where nothing is sent or taken, the same waits
pub messages_stay : (waits : Waiting) (o : Outline) (w : ℕ) (log after : Log) → after.sent ≡ log.sent → after.took ≡ log.took → MessagesFollowLog waits waits o w log after
messages_stay waits o w log after sent took = messages_kept o w log after waits waits sent took (λ a b messages h. h)

-- records travel under no other name
no_record : (j : ℕ) (recs : List Rec) (x : Name) → ((r : Rec) → name_of_record j r ≡ x → ⊥) → map (name_of_record j) recs ≡ x ∷ [] → ⊥
no_record j [] x none e = cc
no_record j (r ∷ rs) x none e = none r (cc)

-- what travels under the name of an answer row is that row
pub holds_a_row : {Cell : Type 0} (b : Body Cell) (t : ℕ) (g : Tag) → names_of_body b ≡ RowName t g ∷ [] → ((u : ℕ) (h : Tag) (fields : List Field) → b ≡ Row u h fields → ⊥) → ⊥
holds_a_row (Ctrl i v c) t g e none = cc
holds_a_row (Recs b) t g e none = no_record b.stage b.recs (RowName t g) (λ r f. cc) e
holds_a_row (Packet j n u s) t g e none = cc
holds_a_row (Row u h fields) t g e none = none u h fields refl

-- and under the name of a packet the state of that bin
pub holds_a_packet : {Cell : Type 0} (b : Body Cell) (j n t : ℕ) → names_of_body b ≡ PacketName j n t ∷ [] → ((i m u : ℕ) (s : BinContent Cell) → b ≡ Packet i m u s → ⊥) → ⊥
holds_a_packet (Ctrl i v c) j n t e none = cc
holds_a_packet (Recs b) j n t e none = no_record b.stage b.recs (PacketName j n t) (λ r f. cc) e
holds_a_packet (Packet i m u s) j n t e none = none i m u s refl
holds_a_packet (Row u h fields) j n t e none = cc
