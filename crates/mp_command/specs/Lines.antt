-- The lines of commands that are done.
use Rattle.std.specs.Prelude.{ℕ, List, [], ◌++◌, codes, length}
use Rattle.std.specs.Fmt.{decimal}
use Rattle.std.specs.List.{sum_by}
use Rattle.mp_make.specs.Made.{made_events}
use Rattle.mp_make.specs.Summary.{summary_of}
use Rattle.mp_model.specs.Rules.{given_values}
use Rattle.mp_names.specs.declared.kinds.Kept.{Kept}
use Rattle.mp_words.specs.declared.options.DemoOptions.{DemoOptions}
use Rattle.mp_words.specs.Words.{Asked, Run, Check, Make, Demo, Audit}
use Rattle.mp_command.specs.declared.flow.FlowQuery.TheVariants.{Named}
use Rattle.mp_command.specs.Inputs.{Found}
use Rattle.mp_command.specs.Queries.{answer_of, rules_of}

-- the line of files that have so many events and control records
abbrev pub ok_line : ℕ → ℕ → List ℕ
ok_line events controls = codes "ok " ++ decimal events ++ codes " events " ++ decimal controls ++ codes " controls\n"

-- the name that a demo writes its answer to, in memory
abbrev pub answer_name : List ℕ
answer_name = codes "answer"

-- the summary of the one-thread answer to the events that a demo makes, with the given values of the query's rules
abbrev pub demo_line : DemoOptions → List ℕ
demo_line asked =
    let query = Named asked.query in
    summary_of asked.count (answer_of query (given_values (rules_of query)) (made_events asked.count asked.seed))

-- how many steps a journal has
abbrev pub step_count : List (List Kept) → ℕ
step_count lists = sum_by length lists

-- the line of the journal of a legal run of so many steps
abbrev pub legal_line : ℕ → List ℕ
legal_line steps = codes "legal " ++ decimal steps ++ codes " steps\n"

-- the line that is said where all is done, by what was read; `run`, `replay` and `make` say nothing
abbrev pub line_after : Asked → Found → List ℕ
line_after (Run asked) found = []
line_after (Check asked) found = ok_line (length found.events) (length found.settings.controls)
line_after (Make asked) found = []
line_after (Demo asked) found = demo_line asked
line_after (Audit asked) found = legal_line (step_count found.journal)
