-- A name tells what a message of it holds.
use Rattle.std.proofs.Common.{◌≡◌, ◌⊎◌, ℕ, ◌-◌, ◌<◌, List, [], ◌∷◌, All, map, length, Contains, refl, sym, ap, ◌∙◌, subst, ⊎_elim, arith}
use Rattle.std.proofs.lemmas.List.Elements.{All-head, All-tail}
use Rattle.mp_names.specs.declared.names.Name.{Name}
use Rattle.mp_names.specs.declared.names.Name.TheVariants.{Ctrl as CtrlName, Rec as RecName, Packet as PacketName, Row as RowName}
use Rattle.mp_names.specs.declared.names.Tag.{Tag}
use Rattle.mp_names.proofs.NameParts.{same_parts, same_row, same_stage}
use Rattle.mp_model.specs.declared.fields.Field.{Field}
use Rattle.mp_model.specs.declared.record.Output.{Output}
use Rattle.mp_model.specs.declared.record.Rec.{Rec as Record}
use Rattle.mp_model.specs.declared.value.Value.{Value}
use Rattle.mp_model.specs.declared.value.Value.TheVariants.{Row as RowValue}
use Rattle.mp_model.specs.Facts.{JobFacts, QueryFacts}
use Rattle.mp_model.specs.Stages.{answer_rows, stage_records}
use Rattle.mp_outline.specs.JobOutline.{name_of_record}
use Rattle.mp_outline.specs.Laws.{OutputsInOrder}
use Rattle.mp_outline.proofs.Outputs.{stage_outputs_in_order}
use Rattle.mp_outline.proofs.Pairs.{Pairs-two}
use Rattle.mp_outline.proofs.Records.{same_record}
use Rattle.mp_outline.proofs.Tags.{tag_irreflexive}
use Rattle.mp_msg.specs.declared.message.Body.TheVariants.{Ctrl, Recs, Packet, Row}
use Rattle.mp_msg.specs.Contents.{IsRecordOf, IsRowOf}
use Rattle.mp_msg.specs.Bundles.{Bundled, names_in}
use Rattle.mp_msg.specs.Laws.{BodiesFollowNames, BundlesFollowNames, RecordsFollowNames, RowsFollowNames}
use Rattle.mp_msg.specs.States.{BinContent, IsStateBefore}
use Rattle.mp_msg.proofs.States.{states_follow_names}

-- the fields of a row
fields_in : Value → List Field
fields_in (RowValue fields) = fields
fields_in _ = []

same_fields : (a b : List Field) → RowValue a ≡ RowValue b → a ≡ b
unfolding fields_in
same_fields a b e = ap fields_in e

-- the first of two lists, and the others

head_is : (x y : Name) (xs ys : List Name) → x ∷ xs ≡ y ∷ ys → x ≡ y
head_is x y xs ys e = cc

rest_is : (x y : Name) (xs ys : List Name) → x ∷ xs ≡ y ∷ ys → xs ≡ ys
rest_is x y xs ys e = cc

abbrev bundled : ℕ → List Record → Bundled
bundled j rs = record { stage = j; recs = rs }

-- records that have the same names are of one stage
one_stage : (i j : ℕ) (rs ss : List Record) → 0 < length (map (name_of_record i) rs) → map (name_of_record i) rs ≡ map (name_of_record j) ss → i ≡ j
one_stage i j [] ss l e = absurd (omega arith)
one_stage i j (r ∷ rs) [] l e = cc
one_stage i j (r ∷ rs) (s ∷ ss) l e = same_stage i j r.time s.time r.key s.key r.tag s.tag (head_is (name_of_record i r) (name_of_record j s) (map (name_of_record i) rs) (map (name_of_record j) ss) e)

-- no record is called by a name of another kind
not_alone : (b : Bundled) (x : Name) → ((j t k : ℕ) (g : Tag) → RecName j t k g ≡ x → ⊥) → 0 < length (names_in b) → names_in b ≡ x ∷ [] → ⊥
not_alone b x other l e = go b.stage b.recs l e
  where
    go : (j : ℕ) (rs : List Record) → 0 < length (map (name_of_record j) rs) → map (name_of_record j) rs ≡ x ∷ [] → ⊥
    go j [] m f = omega arith
    go j (r ∷ rs) m f = other j r.time r.key r.tag (head_is (name_of_record j r) x (map (name_of_record j) rs) [] f)

module _ {Cell : Type 0} (q : QueryFacts Cell) (job : JobFacts) where
  pub records_follow_names : RecordsFollowNames q job
  records_follow_names j r s h i e =
      let same = same_parts j j r.time s.time r.key s.key r.tag s.tag e in same_record q job.events j r s h.1 i.1 same.0 same.2

  -- a time and a tag tell an answer row
  pub same_output : (o p : Output) → Contains (answer_rows q job.events) o → Contains (answer_rows q job.events) p → o.time ≡ p.time → o.tag ≡ p.tag → o ≡ p
  same_output o p h i same tags =
      ⊎_elim
      (λ (e : o ≡ p). e)
      (λ (e : OutputsInOrder o p ⊎ OutputsInOrder p o).
      absurd
      (⊎_elim
      (λ (less : OutputsInOrder o p). tag_irreflexive o.tag p.tag (less same) tags)
      (λ (less : OutputsInOrder p o). tag_irreflexive p.tag o.tag (less (sym same)) (sym tags))
      e))
      (Pairs-two OutputsInOrder (answer_rows q job.events) (stage_outputs_in_order q (q.stages - 1) (stage_records q job.events (q.stages - 1))) o p h i)

  pub rows_follow_names : RowsFollowNames q job
  rows_follow_names t g a b h i =
      same_fields a b (ap (λ (o : Output). o.value) (same_output (record { time = t; tag = g; value = RowValue a }) (record { time = t; tag = g; value = RowValue b }) h i refl refl))

  -- two states of one bin just before one time, where the numbers are only equal
  same_packet : (j i b a t u : ℕ) (s r : BinContent Cell) → PacketName j b t ≡ PacketName i a u → IsStateBefore q job j b t s → IsStateBefore q job i a u r → Packet j b t s ≡ Packet i a u r
  same_packet j i b a t u s r e h k =
      let stage : j ≡ i = cc in
      let bin : b ≡ a = cc in
      let time : t ≡ u = cc in
      let moved : IsStateBefore q job j b t r = rw (stage, bin, time) k in
      let one : s ≡ r = states_follow_names q job j b t s r h moved in
      cc

  -- records of one stage that have the same names are the same
  same_records : (j : ℕ) (rs ss : List Record) → All (IsRecordOf q job j) rs → All (IsRecordOf q job j) ss → map (name_of_record j) rs ≡ map (name_of_record j) ss → rs ≡ ss
  same_records j [] [] h k e = refl
  same_records j [] (s ∷ ss) h k e = cc
  same_records j (r ∷ rs) [] h k e = cc
  same_records j (r ∷ rs) (s ∷ ss) h k e =
      let here = records_follow_names j r s (All-head (IsRecordOf q job j) r rs h) (All-head (IsRecordOf q job j) s ss k) (head_is (name_of_record j r) (name_of_record j s) (map (name_of_record j) rs) (map (name_of_record j) ss) e) in
      let later = same_records j rs ss (All-tail (IsRecordOf q job j) r rs h) (All-tail (IsRecordOf q job j) s ss k) (rest_is (name_of_record j r) (name_of_record j s) (map (name_of_record j) rs) (map (name_of_record j) ss) e) in
      ap (λ (u : Record). u ∷ rs) here ∙ ap (λ (us : List Record). s ∷ us) later

  same_bundles : (i j : ℕ) (rs ss : List Record) → i ≡ j → All (IsRecordOf q job i) rs → All (IsRecordOf q job j) ss → map (name_of_record i) rs ≡ map (name_of_record j) ss → bundled i rs ≡ bundled j ss
  same_bundles i j rs ss s h k e =
      let named : map (name_of_record j) rs ≡ map (name_of_record j) ss = subst (λ (n : ℕ). map (name_of_record n) rs ≡ map (name_of_record j) ss) s e in
      let same = same_records j rs ss (subst (λ (n : ℕ). All (IsRecordOf q job n) rs) s h) k named in
      ap (λ (n : ℕ). bundled n rs) s ∙ ap (λ (us : List Record). bundled j us) same

  pub bundles_follow_names : BundlesFollowNames q job
  bundles_follow_names a b h k e = same_bundles a.stage b.stage a.recs b.recs (one_stage a.stage b.stage a.recs b.recs h.message.some e) h.records k.records e

  pub bodies_follow_names : BodiesFollowNames q job
  bodies_follow_names (Ctrl i v c) (Ctrl l w d) h k e = let one = h.2 in let other = k.2 in cc
  bodies_follow_names (Recs a) (Recs b) h k e = ap (λ (c : Bundled). Recs c) (bundles_follow_names a b h k e)
  bodies_follow_names (Recs a) (Ctrl i v c) h k e = absurd (not_alone a (CtrlName i v) (λ j t l g n. let f : ⊥ = cc in f) h.message.some e)
  bodies_follow_names (Recs a) (Packet j b t s) h k e = absurd (not_alone a (PacketName j b t) (λ j t l g n. let f : ⊥ = cc in f) h.message.some e)
  bodies_follow_names (Recs a) (Row t g fields) h k e = absurd (not_alone a (RowName t g) (λ j t l g n. let f : ⊥ = cc in f) h.message.some e)
  bodies_follow_names (Ctrl i v c) (Recs a) h k e = absurd (not_alone a (CtrlName i v) (λ j t l g n. let f : ⊥ = cc in f) k.message.some (sym e))
  bodies_follow_names (Packet j b t s) (Recs a) h k e = absurd (not_alone a (PacketName j b t) (λ j t l g n. let f : ⊥ = cc in f) k.message.some (sym e))
  bodies_follow_names (Row t g fields) (Recs a) h k e = absurd (not_alone a (RowName t g) (λ j t l g n. let f : ⊥ = cc in f) k.message.some (sym e))
  bodies_follow_names (Packet j b t s) (Packet i a u r) h k e = same_packet j i b a t u s r (head_is (PacketName j b t) (PacketName i a u) [] [] e) h.1 k.1
  bodies_follow_names (Row s f a) (Row t g b) h k e =
      let same = same_row s t f g (head_is (RowName s f) (RowName t g) [] [] e) in
      let timed = subst (λ (u : ℕ). IsRowOf q job u f a) same.0 h in
      let tagged = subst (λ (u : Tag). IsRowOf q job t u a) same.1 timed in
      let one = rows_follow_names t g a b tagged k in
      ap (λ (u : ℕ). Row u f a) same.0 ∙ (ap (λ (u : Tag). Row t u a) same.1 ∙ ap (λ (fields : List Field). Row t g fields) one)
  bodies_follow_names _ _ h k e = cc
