-- What values of options ask for.
use Rattle.std.specs.Prelude.{ℕ, List, [], ◌∷◌, Bool, true, false, Option, Some, None, ◌&&◌, ◌||◌, ◌++◌, ◌==◌, codes, if◌then◌else◌, is_none, not, option_and_then, option_map}
use Rattle.std.specs.Int.{is_power_of_two}
use Rattle.std.specs.List.{list_any}
use Rattle.std.specs.Option.{option_map_or, option_to_list}
use Rattle.std.specs.Result.{result_ok}
use Rattle.std.specs.Str.{bytes_eq}
use Rattle.mp_text.specs.Numbers.{number_of}
use Rattle.clap.specs.Words.{Row, first_of}
use Rattle.mp_names.specs.Limits.{deepest_mailbox, greatest_seed, greatest_time, most_bins, most_events, most_workers}
use Rattle.mp_words.specs.declared.options.AuditOptions.{AuditOptions}
use Rattle.mp_words.specs.declared.options.CheckOptions.{CheckOptions}
use Rattle.mp_words.specs.declared.options.DemoOptions.{DemoOptions}
use Rattle.mp_words.specs.declared.options.MakeOptions.{MakeOptions}
use Rattle.mp_words.specs.declared.options.QueryName.{QueryName}
use Rattle.mp_words.specs.declared.options.QueryName.TheVariants.{Q1, Q2, Q3, Q4, Q5, Q6, Q7, Q8}
use Rattle.mp_words.specs.declared.options.QueryOption.{QueryOption}
use Rattle.mp_words.specs.declared.options.QueryOption.TheVariants as option
use Rattle.mp_words.specs.declared.options.RunOptions.{RunOptions}
use Rattle.mp_words.specs.declared.options.Schedule.{Schedule}
use Rattle.mp_words.specs.declared.options.Schedule.TheVariants.{Seeded, Threads}
use Rattle.mp_words.specs.declared.options.Span.{Span}
use Rattle.mp_words.specs.declared.options.Span.TheVariants as part

-- the query of a dataflow that runs on files: that of a name, or the pipeline that the file of this name says
pub data QueryAsked : Type 0 where
  Named : (name : QueryName) → QueryAsked
  Piped : (file : List ℕ) → QueryAsked

-- which part of the events a run takes: all of them, those before a time, where what they leave is saved to a name, or those from the time of
-- the checkpoint of a name on
pub data SpanAsked : Type 0 where
  Whole : SpanAsked
  Until : (time : ℕ) (save : List ℕ) → SpanAsked
  From : (name : List ℕ) → SpanAsked

-- what `run` and `replay` ask for
pub record Options : Type 0 where
  pub query : QueryAsked
  pub events : List ℕ
  pub config : List ℕ
  pub out : List ℕ
  pub report : Option (List ℕ)
  pub journal : Option (List ℕ)
  pub workers : ℕ
  pub bins : ℕ
  pub depth : ℕ
  pub schedule : Schedule
  pub paced : Bool
  pub span : SpanAsked

-- what a run reads, but for a checkpoint
pub record InputsAsked : Type 0 where
  pub query : QueryAsked
  pub events : List ℕ
  pub config : List ℕ

-- how great it is
pub record SizeAsked : Type 0 where
  pub workers : ℕ
  pub bins : ℕ
  pub depth : ℕ

-- what `check` asks for
pub record CheckAsked : Type 0 where
  pub query : QueryAsked
  pub events : List ℕ
  pub config : List ℕ
  pub workers : ℕ
  pub bins : ℕ

-- what `audit` asks for
pub record AuditAsked : Type 0 where
  pub query : QueryAsked
  pub events : List ℕ
  pub config : List ℕ
  pub out : List ℕ
  pub journal : List ℕ
  pub workers : ℕ
  pub bins : ℕ
  pub depth : ℕ
  pub paced : Bool

-- what `make` asks for
pub record MakeAsked : Type 0 where
  pub count : ℕ
  pub seed : ℕ
  pub out : List ℕ

-- the query that was read
abbrev pub query_in : QueryOption → QueryAsked
query_in (option.Named name) = Named name
query_in (option.Piped name) = Piped name.now

-- the part of the events that was read
abbrev pub span_in : Span → SpanAsked
span_in part.Whole = Whole
span_in (part.Until time save) = Until time save.now
span_in (part.From name) = From name.now

-- what the options that were read ask for
abbrev pub options_in : RunOptions → Options
options_in o = record {
  query = query_in o.query;
  events = o.events.now;
  config = o.config.now;
  out = o.out.now;
  report = option_map (λ name. name.now) o.report;
  journal = option_map (λ name. name.now) o.journal;
  workers = o.workers;
  bins = o.bins;
  depth = o.depth;
  schedule = o.schedule;
  paced = o.paced;
  span = span_in o.span;
}

-- what those of `check` ask for
abbrev pub check_in : CheckOptions → CheckAsked
check_in o = record { query = query_in o.query; events = o.events.now; config = o.config.now; workers = o.workers; bins = o.bins }

-- what those of `audit` ask for
abbrev pub audit_in : AuditOptions → AuditAsked
audit_in o = record {
  query = query_in o.query;
  events = o.events.now;
  config = o.config.now;
  out = o.out.now;
  journal = o.journal.now;
  workers = o.workers;
  bins = o.bins;
  depth = o.depth;
  paced = o.paced;
}

-- what those of `make` ask for
abbrev pub make_in : MakeOptions → MakeAsked
make_in o = record { count = o.count; seed = o.seed; out = o.out.now }

-- the query of a name
abbrev pub query_of : List ℕ → Option QueryName
query_of name =
    if bytes_eq name (codes "q1") then Some Q1
    else if bytes_eq name (codes "q2") then Some Q2
    else if bytes_eq name (codes "q3") then Some Q3
    else if bytes_eq name (codes "q4") then Some Q4
    else if bytes_eq name (codes "q5") then Some Q5
    else if bytes_eq name (codes "q6") then Some Q6
    else if bytes_eq name (codes "q7") then Some Q7
    else if bytes_eq name (codes "q8") then Some Q8
    else None

-- the query that a word and a pipeline's name ask for: the word `pipe` goes with such a name, and the name of a query without
abbrev pub query_asked : Option (List ℕ) → Option (List ℕ) → Option QueryAsked
query_asked None pipe = None
query_asked (Some word) None = option_map Named (query_of word)
query_asked (Some word) (Some file) = if bytes_eq word (codes "pipe") then Some (Piped file) else None

-- the number from 0 to `most` that a text says
abbrev pub number_up_to : ℕ → List ℕ → Option ℕ
number_up_to most text = result_ok (number_of text most)

-- a number that is at least 1
abbrev pub only_positive : ℕ → Option ℕ
only_positive n = if n == 0 then None else Some n

-- the number from 1 to `most` that a text says
abbrev pub positive_up_to : ℕ → List ℕ → Option ℕ
positive_up_to most text = option_and_then only_positive (number_up_to most text)

-- a number that is a power of two
abbrev pub only_power : ℕ → Option ℕ
only_power n = if is_power_of_two n then Some n else None

-- the power of two from 1 to `most` that a text says
abbrev pub power_up_to : ℕ → List ℕ → Option ℕ
power_up_to most text = option_and_then only_power (positive_up_to most text)

-- the count of events that a text says
abbrev pub count_of : List ℕ → Option ℕ
count_of text = number_up_to most_events text

-- the seed that a text says, and 0 where there is no text
abbrev pub seed_of : Option (List ℕ) → Option ℕ
seed_of (Some text) = number_up_to greatest_seed text
seed_of None = Some 0

-- the part of the events that the texts of `--until`, `--save` and `--from` ask for: the first two go together, and the last goes alone
abbrev pub span_asked : Option (List ℕ) → Option (List ℕ) → Option (List ℕ) → Option SpanAsked
span_asked None None None = Some Whole
span_asked (Some until) (Some save) None = option_map (λ time. Until time save) (positive_up_to greatest_time until)
span_asked None None (Some name) = Some (From name)
span_asked _ _ _ = None

-- whether a flag is there: its value is the text `true`, and else `false`
abbrev pub is_set : List ℕ → List Row → Bool
is_set name rows = option_map_or (λ text. bytes_eq text (codes "true")) (first_of name rows) false

-- the name of a pipeline's file, where there is one
abbrev pub pipe_names : QueryAsked → List (List ℕ)
pipe_names (Named name) = []
pipe_names (Piped file) = file ∷ []

-- the name of the checkpoint that a run goes on from, where there is one
abbrev pub checkpoint_names : SpanAsked → List (List ℕ)
checkpoint_names Whole = []
checkpoint_names (Until time save) = []
checkpoint_names (From name) = name ∷ []

-- the name that what a run leaves is saved to, where there is one
abbrev pub save_names : SpanAsked → List (List ℕ)
save_names Whole = []
save_names (Until time save) = save ∷ []
save_names (From name) = []

-- the names that a run reads
abbrev pub read_names : Options → List (List ℕ)
read_names o = o.events ∷ o.config ∷ (pipe_names o.query ++ checkpoint_names o.span)

-- the names that it writes
abbrev pub written_names : Options → List (List ℕ)
written_names o = o.out ∷ (option_to_list o.report ++ (save_names o.span ++ option_to_list o.journal))

-- a name is one of these
abbrev pub is_among : List ℕ → List (List ℕ) → Bool
is_among name names = list_any (bytes_eq name) names

-- each name that is written is none of the others that are, and none that is read
abbrev pub are_apart : List (List ℕ) → List (List ℕ) → Bool
are_apart [] read = true
are_apart (name ∷ more) read = not (is_among name (more ++ read)) && are_apart more read

-- the same of the names of a run
abbrev pub names_are_apart : Options → Bool
names_are_apart o = are_apart (written_names o) (read_names o)

-- all events are taken
abbrev pub is_whole : SpanAsked → Bool
is_whole Whole = true
is_whole (Until time save) = false
is_whole (From name) = false

-- the query is that of a name
abbrev pub is_named : QueryAsked → Bool
is_named (Named name) = true
is_named (Piped file) = false

-- a run of a part of the events is that of a named query, and keeps no journal
abbrev pub span_is_allowed : Options → Bool
span_is_allowed o = is_whole o.span || (is_named o.query && is_none o.journal)

-- what is asked for, where its names are apart and its part of the events is allowed
abbrev pub only_allowed : Options → Option Options
only_allowed o = if names_are_apart o && span_is_allowed o then Some o else None

-- what a run reads, where each of it is there
abbrev pub together_to_read : Option QueryAsked → Option (List ℕ) → Option (List ℕ) → Option InputsAsked
together_to_read (Some query) (Some events) (Some config) = Some (record { query = query; events = events; config = config })
together_to_read _ _ _ = None

-- what the values for the options of a run ask for it to read
abbrev pub inputs_of : List Row → Option InputsAsked
inputs_of rows = together_to_read
    (query_asked (first_of (codes "query") rows) (first_of (codes "pipe") rows))
    (first_of (codes "events") rows)
    (first_of (codes "config") rows)

-- a run's size, where each of it is there
abbrev pub together_in_size : Option ℕ → Option ℕ → Option ℕ → Option SizeAsked
together_in_size (Some workers) (Some bins) (Some depth) = Some (record { workers = workers; bins = bins; depth = depth })
together_in_size _ _ _ = None

-- what they ask for as its size
abbrev pub size_of : List Row → Option SizeAsked
size_of rows = together_in_size
    (option_and_then (positive_up_to most_workers) (first_of (codes "workers") rows))
    (option_and_then (power_up_to most_bins) (first_of (codes "bins") rows))
    (option_and_then (positive_up_to deepest_mailbox) (first_of (codes "depth") rows))

-- all that a run asks for, if it is allowed: the rest of it may be there or not
abbrev pub together : Schedule → List Row → Option InputsAsked → Option (List ℕ) → Option SizeAsked → Option SpanAsked → Option Options
together schedule rows (Some inputs) (Some out) (Some size) (Some span) = only_allowed (record {
  query = inputs.query;
  events = inputs.events;
  config = inputs.config;
  out = out;
  report = first_of (codes "report") rows;
  journal = first_of (codes "journal") rows;
  workers = size.workers;
  bins = size.bins;
  depth = size.depth;
  schedule = schedule;
  paced = is_set (codes "paced") rows;
  span = span;
})
together _ _ _ _ _ _ = None

-- what the values that clap found for the options of `run` or `replay` ask for, if each is allowed, with this schedule
abbrev pub options_of : Schedule → List Row → Option Options
options_of schedule rows = together schedule rows
    (inputs_of rows)
    (first_of (codes "out") rows)
    (size_of rows)
    (span_asked (first_of (codes "until") rows) (first_of (codes "save") rows) (first_of (codes "from") rows))

-- what those of `replay` ask for: the schedule is that of its seed
abbrev pub replay_of : List Row → Option Options
replay_of rows = option_and_then (λ seed. options_of (Seeded seed) rows) (seed_of (first_of (codes "seed") rows))

-- what `audit` asks for with the options of a run that writes a journal
abbrev pub audit_for : Options → Option (List ℕ) → Option AuditAsked
audit_for o None = None
audit_for o (Some journal) =
    Some (record { query = o.query; events = o.events; config = o.config; out = o.out; journal = journal; workers = o.workers; bins = o.bins; depth = o.depth; paced = o.paced })

-- what the values for the options of `audit` ask for, if each is allowed: it reads what `run` would write with them
abbrev pub audit_of : List Row → Option AuditAsked
audit_of rows = option_and_then (λ o. audit_for o o.journal) (options_of Threads rows)

-- all that `check` asks for
abbrev pub together_to_check : Option QueryAsked → Option (List ℕ) → Option (List ℕ) → Option ℕ → Option ℕ → Option CheckAsked
together_to_check (Some query) (Some events) (Some config) (Some workers) (Some bins) =
    Some (record { query = query; events = events; config = config; workers = workers; bins = bins })
together_to_check _ _ _ _ _ = None

-- what the values for the options of `check` ask for, if each is allowed
abbrev pub check_of : List Row → Option CheckAsked
check_of rows = together_to_check
    (query_asked (first_of (codes "query") rows) (first_of (codes "pipe") rows))
    (first_of (codes "events") rows)
    (first_of (codes "config") rows)
    (option_and_then (positive_up_to most_workers) (first_of (codes "workers") rows))
    (option_and_then (power_up_to most_bins) (first_of (codes "bins") rows))

-- all that `make` asks for
abbrev pub together_to_make : Option ℕ → Option ℕ → Option (List ℕ) → Option MakeAsked
together_to_make (Some count) (Some seed) (Some out) = Some (record { count = count; seed = seed; out = out })
together_to_make _ _ _ = None

-- what the values for the options of `make` ask for, if each is allowed
abbrev pub make_of : List Row → Option MakeAsked
make_of rows = together_to_make
    (option_and_then count_of (first_of (codes "count") rows))
    (seed_of (first_of (codes "seed") rows))
    (first_of (codes "out") rows)

-- all that `demo` asks for
abbrev pub together_to_show : Option QueryName → Option ℕ → Option ℕ → Option ℕ → Option ℕ → Option ℕ → Option DemoOptions
together_to_show (Some query) (Some count) (Some seed) (Some workers) (Some bins) (Some depth) =
    Some (record { query = query; count = count; seed = seed; workers = workers; bins = bins; depth = depth })
together_to_show _ _ _ _ _ _ = None

-- what the values for the options of `demo` ask for, if each is allowed
abbrev pub demo_of : List Row → Option DemoOptions
demo_of rows = together_to_show
    (option_and_then query_of (first_of (codes "query") rows))
    (option_and_then count_of (first_of (codes "count") rows))
    (seed_of (first_of (codes "seed") rows))
    (option_and_then (positive_up_to most_workers) (first_of (codes "workers") rows))
    (option_and_then (power_up_to most_bins) (first_of (codes "bins") rows))
    (option_and_then (positive_up_to deepest_mailbox) (first_of (codes "depth") rows))
