-- The last stage of q1 gives rows alone, in every job.
use Rattle.std.specs.Prelude.{Bool, true, false, List, [], All, cond}
use Rattle.std.proofs.lemmas.List.Elements.{All-nil}
use Rattle.mp_names.specs.Outlines.{is_before_stop}
use Rattle.mp_model.specs.declared.value.Value.{Value}
use Rattle.mp_model.specs.Facts.{JobFacts}
use Rattle.mp_model.specs.Tables.{table_of}
use Rattle.mp_output.specs.Rows.{GivesRows, IsRow}
use Rattle.mp_q_simple.specs.Q1.{q1_facts}
use Rattle.mp_command.proofs.GivingRows.{q1_gives_rows as by_q1}

-- what a job leaves out of a group's outputs, it leaves out whole
kept : (b : Bool) (vs : List Value) → All IsRow vs → All IsRow (cond b vs [])
kept true vs rows = rows
kept false vs rows = All-nil IsRow

pub q1_gives_rows : (job : JobFacts) → GivesRows (table_of q1_facts job)
q1_gives_rows job cell e = kept (is_before_stop job.until e.time) _ (by_q1 job.values cell e)
