-- The last stage of each query gives rows alone, and what is written is that of the query of the name.
use Rattle.std.proofs.Common.{ℕ, List}
use Rattle.mp_control.specs.Settings.{settings_in}
use Rattle.mp_model.specs.Facts.{JobFacts}
use Rattle.mp_words.specs.declared.options.QueryName.TheVariants.{Q1, Q2, Q3, Q4, Q5, Q6, Q7, Q8}
use Rattle.mp_words.specs.Values.{options_in}
use Rattle.mp_command.specs.Config.{flow_of}
use Rattle.mp_command.specs.Queries.{SomeQuery}
use Rattle.mp_command.proofs.Asked.{query_of_name}
use Rattle.mp_command.proofs.GivingRows.{q1_gives_rows, q2_gives_rows, q3_gives_rows, q5_gives_rows}
use Rattle.mp_run_command.proofs.Ended.{EndsBy}
use Rattle.mp_run_command.proofs.writing.write_named.Goals as goal

pub write_saved-requires-clause-rows : goal.write_saved-requires-clause-rows
write_saved-requires-clause-rows g c κs within = q1_gives_rows

pub write_saved-requires-in-Q2-clause-rows : goal.write_saved-requires-in-Q2-clause-rows
write_saved-requires-in-Q2-clause-rows g c κs within = q2_gives_rows

pub write_saved-requires-in-Q3-clause-rows : goal.write_saved-requires-in-Q3-clause-rows
write_saved-requires-in-Q3-clause-rows g c κs within = q3_gives_rows

pub write_saved-requires-in-Q5-clause-rows : goal.write_saved-requires-in-Q5-clause-rows
write_saved-requires-in-Q5-clause-rows g c κs within = q5_gives_rows

pub returns-in-Q1 : goal.returns-in-Q1
returns-in-Q1 g c =
    let asked = options_in c.args.options.now in
    let Says = λ (some : SomeQuery) (values : List ℕ) (j : JobFacts). EndsBy g.D.Depot.files g.D.Depot.write_faults some values c.args.parts.checkpoint.items j asked c.write_saved.result c.args.depot.now c.write_saved.new.depot in
    query_of_name (flow_of asked) c.args.parts.events.items (settings_in c.args.parts.settings) Says _ Q1 c.in-Q1.is _ c.given.ensures c.requires.settings.values c.write_saved.ensures

pub returns-in-Q2 : goal.returns-in-Q2
returns-in-Q2 g c =
    let asked = options_in c.args.options.now in
    let Says = λ (some : SomeQuery) (values : List ℕ) (j : JobFacts). EndsBy g.D.Depot.files g.D.Depot.write_faults some values c.args.parts.checkpoint.items j asked c.write_saved-in-Q2.result c.args.depot.now c.write_saved-in-Q2.new.depot in
    query_of_name (flow_of asked) c.args.parts.events.items (settings_in c.args.parts.settings) Says _ Q2 c.in-Q2.is _ c.given-in-Q2.ensures c.requires.settings.values c.write_saved-in-Q2.ensures

pub returns-in-Q3 : goal.returns-in-Q3
returns-in-Q3 g c =
    let asked = options_in c.args.options.now in
    let Says = λ (some : SomeQuery) (values : List ℕ) (j : JobFacts). EndsBy g.D.Depot.files g.D.Depot.write_faults some values c.args.parts.checkpoint.items j asked c.write_saved-in-Q3.result c.args.depot.now c.write_saved-in-Q3.new.depot in
    query_of_name (flow_of asked) c.args.parts.events.items (settings_in c.args.parts.settings) Says _ Q3 c.in-Q3.is _ c.given-in-Q3.ensures c.requires.settings.values c.write_saved-in-Q3.ensures

pub returns-in-Q4 : goal.returns-in-Q4
returns-in-Q4 g c =
    let asked = options_in c.args.options.now in
    let Says = λ (some : SomeQuery) (values : List ℕ) (j : JobFacts). EndsBy g.D.Depot.files g.D.Depot.write_faults some values c.args.parts.checkpoint.items j asked c.write_saved-in-Q4.result c.args.depot.now c.write_saved-in-Q4.new.depot in
    query_of_name (flow_of asked) c.args.parts.events.items (settings_in c.args.parts.settings) Says _ Q4 c.in-Q4.is _ c.given-in-Q4.ensures c.requires.settings.values c.write_saved-in-Q4.ensures

pub returns-in-Q5 : goal.returns-in-Q5
returns-in-Q5 g c =
    let asked = options_in c.args.options.now in
    let Says = λ (some : SomeQuery) (values : List ℕ) (j : JobFacts). EndsBy g.D.Depot.files g.D.Depot.write_faults some values c.args.parts.checkpoint.items j asked c.write_saved-in-Q5.result c.args.depot.now c.write_saved-in-Q5.new.depot in
    query_of_name (flow_of asked) c.args.parts.events.items (settings_in c.args.parts.settings) Says _ Q5 c.in-Q5.is _ c.given-in-Q5.ensures c.requires.settings.values c.write_saved-in-Q5.ensures

pub returns-in-Q6 : goal.returns-in-Q6
returns-in-Q6 g c =
    let asked = options_in c.args.options.now in
    let Says = λ (some : SomeQuery) (values : List ℕ) (j : JobFacts). EndsBy g.D.Depot.files g.D.Depot.write_faults some values c.args.parts.checkpoint.items j asked c.write_saved-in-Q6.result c.args.depot.now c.write_saved-in-Q6.new.depot in
    query_of_name (flow_of asked) c.args.parts.events.items (settings_in c.args.parts.settings) Says _ Q6 c.in-Q6.is _ c.given-in-Q6.ensures c.requires.settings.values c.write_saved-in-Q6.ensures

pub returns-in-Q7 : goal.returns-in-Q7
returns-in-Q7 g c =
    let asked = options_in c.args.options.now in
    let Says = λ (some : SomeQuery) (values : List ℕ) (j : JobFacts). EndsBy g.D.Depot.files g.D.Depot.write_faults some values c.args.parts.checkpoint.items j asked c.write_saved-in-Q7.result c.args.depot.now c.write_saved-in-Q7.new.depot in
    query_of_name (flow_of asked) c.args.parts.events.items (settings_in c.args.parts.settings) Says _ Q7 c.in-Q7.is _ c.given-in-Q7.ensures c.requires.settings.values c.write_saved-in-Q7.ensures

pub returns-in-Q8 : goal.returns-in-Q8
returns-in-Q8 g c =
    let asked = options_in c.args.options.now in
    let Says = λ (some : SomeQuery) (values : List ℕ) (j : JobFacts). EndsBy g.D.Depot.files g.D.Depot.write_faults some values c.args.parts.checkpoint.items j asked c.write_saved-in-Q8.result c.args.depot.now c.write_saved-in-Q8.new.depot in
    query_of_name (flow_of asked) c.args.parts.events.items (settings_in c.args.parts.settings) Says _ Q8 c.in-Q8.is _ c.given-in-Q8.ensures c.requires.settings.values c.write_saved-in-Q8.ensures
