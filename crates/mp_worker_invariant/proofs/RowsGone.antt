-- The answer rows that a worker has to send while the first of them is sent.
use Rattle.std.proofs.Common.{◌≡◌, ℕ, List, [], ◌∷◌, Contains, refl, sym, ap, ◌∙◌, subst}
use Rattle.std.proofs.lemmas.List.Elements.{All-contains}
use Rattle.mp_names.specs.declared.names.Name.TheVariants.{Row as RowName}
use Rattle.mp_names.specs.declared.names.Tag.{Tag}
use Rattle.mp_names.specs.Names.{IsLeast, is_row}
use Rattle.mp_names.specs.Logs.{Log, with_sent}
use Rattle.mp_names.specs.Keeping.{IsHeld}
use Rattle.mp_model.specs.declared.fields.Field.{Field}
use Rattle.mp_model.specs.declared.record.Output.{Output}
use Rattle.mp_model.specs.declared.value.Value.{Value}
use Rattle.mp_model.specs.declared.value.Value.TheVariants.{Row as RowValue}
use Rattle.mp_model.specs.Facts.{JobFacts, QueryFacts}
use Rattle.mp_model.specs.Stages.{answer_rows}
use Rattle.mp_ordered.specs.InOrder.{IsInOrder, put_in_order}
use Rattle.mp_outline.specs.JobOutline.{name_of_row, outline_of}
use Rattle.mp_msg.specs.declared.message.Body.{Body}
use Rattle.mp_msg.specs.declared.message.Body.TheVariants.{Row}
use Rattle.mp_msg.specs.Contents.{IsRowOf}
use Rattle.mp_msg.proofs.Telling.{bodies_follow_names}
use Rattle.mp_output.specs.Rows.{GivesRows, IsRow}
use Rattle.mp_output.specs.Unwritten.{place_rank}
use Rattle.mp_output.proofs.RowsAlone.{rows_alone}
use Rattle.mp_worker_invariant.specs.Parts.{HoldsRowsBut}
use Rattle.mp_worker_invariant.proofs.Sending.{first_row_is_least, row_is_sent}

is_some_row : (v : Value) → IsRow v → ((fields : List Field) → v ≡ RowValue fields → ⊥) → ⊥
is_some_row (RowValue fields) is none = none fields refl
is_some_row _ is none = is

-- the row of these parts
abbrev row_of : ℕ → Tag → List Field → Output
row_of t g fields = record { time = t; tag = g; value = RowValue fields }

same_row : {Cell : Type 0} (t u : ℕ) (g h : Tag) (a b : List Field) → ◌≡◌ {A = Body Cell} (Row t g a) (Row u h b) → row_of t g a ≡ row_of u h b
same_row t u g h a b e = cc

module _ {Cell : Type 0} {q : QueryFacts Cell} {job : JobFacts} {w : ℕ} {log : Log} {rows : List Output} (holds : HoldsRowsBut q job w log [] rows) {row : Output} {rest : List Output} (first : rows ≡ row ∷ rest) where
  -- the first is the least by the log
  pub least_row : IsInOrder place_rank rows → IsLeast (IsHeld (outline_of q job) w log is_row) (name_of_row row)
  least_row order = first_row_is_least q job w log row rest (subst (IsInOrder place_rank) first order) (subst (HoldsRowsBut q job w log []) first holds)

  -- and the others are left
  pub rows_left : HoldsRowsBut q job w (with_sent log (name_of_row row)) [] rest
  rows_left = row_is_sent q job w log row rest (subst (HoldsRowsBut q job w log []) first holds)

module _ {Cell : Type 0} (q : QueryFacts Cell) (job : JobFacts) (row : Output) (there : Contains (answer_rows q job.events) row) where
  -- each of the job holds a row
  pub holds_row : GivesRows q → ((fields : List Field) → row.value ≡ RowValue fields → ⊥) → ⊥
  holds_row gives none = is_some_row row.value (All-contains (λ (o : Output). IsRow o.value) (answer_rows q job.events) row (rows_alone q gives job.events) there) none

  -- a row of this name is the one that was given up, so with that put back the rows are what they were
  pub rows_back : (fields : List Field) → row.value ≡ RowValue fields → (rows rest : List Output) → put_in_order place_rank row rest ≡ rows
      → (t : ℕ) (g : Tag) (others : List Field) → IsRowOf q job t g others → RowName t g ∷ [] ≡ name_of_row row ∷ [] → (last : List Output) → last ≡ put_in_order place_rank (row_of t g others) rest → last ≡ rows
  rows_back fields value rows rest back t g others comes named last put =
      let whole : row ≡ row_of row.time row.tag fields = ap (λ (v : Value). record { time = row.time; tag = row.tag; value = v }) value in
      let was : IsRowOf q job row.time row.tag fields = subst (Contains (answer_rows q job.events)) whole there in
      let same = same_row t row.time g row.tag others fields (bodies_follow_names q job (Row t g others) (Row row.time row.tag fields) comes was named) in
      put ∙ ap (λ (r : Output). put_in_order place_rank r rest) (same ∙ sym whole) ∙ back
