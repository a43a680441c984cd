-- The files that are read, as the code has them.
use Rattle.std.specs.Prelude.{ℕ, List}
use Rattle.mp_control.specs.Settings.{settings_in}
use Rattle.mp_pipeline.specs.Pipes.{PipeFacts}
use Rattle.mp_words.specs.Values.{query_in}
use Rattle.mp_command.specs.declared.flow.FlowQuery.{FlowQuery}
use Rattle.mp_command.specs.declared.flow.FlowQuery.TheVariants.{Named, Piped}
use Rattle.mp_command.specs.declared.reading.InputFiles.{InputFiles}
use Rattle.mp_command.specs.declared.reading.Inputs.{Inputs as InputsRead}
use Rattle.mp_command.specs.Config.{FlowAsked}
use Rattle.mp_command.specs.Inputs.{Found, Input, files_of, no_pipe, nothing_found}

-- the dataflow that they are read for
abbrev pub flow_in : InputFiles → FlowAsked
flow_in files = record { query = query_in files.query; workers = files.workers; bins = files.bins }

-- the files, in the order in which they are read
abbrev pub inputs_in : InputFiles → List (Input × List ℕ)
inputs_in files = files_of files.events.now files.config.now (flow_in files)

-- the pipeline that a query is, if it is one
abbrev pub pipe_in : FlowQuery → PipeFacts
pipe_in (Named name) = no_pipe
pipe_in (Piped pipe) = pipe

-- what they say
abbrev pub found_in : InputsRead → Found
found_in read = record nothing_found { events = read.parts.events.items; pipe = pipe_in read.flow.query; settings = settings_in read.parts.settings; checkpoint = read.parts.checkpoint.items }
