-- The queries that the command line names, and pipelines as their files say them.
use Rattle.std.specs.Prelude.{ℕ, ◌≡◌, true, Option, List, []}
use Rattle.mp_model.specs.declared.record.Event.{Event}
use Rattle.mp_model.specs.Answers.{one_thread_answer}
use Rattle.mp_model.specs.Facts.{QueryFacts}
use Rattle.mp_model.specs.Rules.{RuleFacts, given_values}
use Rattle.mp_pipeline.specs.Pipes.{PipeFacts, are_sound, numbers_of, pipe_table}
use Rattle.mp_q_simple.specs.declared.bids.Nothing.{Nothing}
use Rattle.mp_q_simple.specs.Bids as bids
use Rattle.mp_q_simple.specs.Q1.{q1_facts, q1_rules}
use Rattle.mp_q_simple.specs.Q2.{q2_facts, q2_rules}
use Rattle.mp_q_join.specs.declared.selling.Selling.{Selling}
use Rattle.mp_q_join.specs.Joining.{PersonCell}
use Rattle.mp_q_join.specs.Joining as joining
use Rattle.mp_q_join.specs.Selling as selling
use Rattle.mp_q_join.specs.Q3.{q3_facts, q3_rules}
use Rattle.mp_q_join.specs.Q8.{q8_facts, q8_rules}
use Rattle.mp_auctions.specs.declared.closed.AuctionCell.{AuctionCell}
use Rattle.mp_auctions.specs.Closed as closed
use Rattle.mp_q_auction.specs.Q4.{PriceSum, price_numbers, q4_facts}
use Rattle.mp_q_auction.specs.Q6.{q6_facts, q6_rules}
use Rattle.mp_q_window.specs.declared.best.Offer.{Offer}
use Rattle.mp_q_window.specs.Best as best
use Rattle.mp_q_window.specs.Recent as recent
use Rattle.mp_q_window.specs.Q5.{q5_facts, q5_rules}
use Rattle.mp_q_window.specs.Q7.{q7_facts, q7_rules}
use Rattle.mp_words.specs.declared.options.QueryName.{QueryName}
use Rattle.mp_words.specs.declared.options.QueryName.TheVariants.{Q1, Q2, Q3, Q4, Q5, Q6, Q7, Q8}
use Rattle.mp_words.specs.Values.{QueryAsked}
use Rattle.mp_words.specs.Values as asked
use Rattle.mp_command.specs.declared.flow.FlowQuery.{FlowQuery}
use Rattle.mp_command.specs.declared.flow.FlowQuery.TheVariants.{Named, Piped}

-- A query: what it keeps of a key, the rules that a configuration may set, and its table by their values; and, for files of checkpoints,
-- its number and the texts of what it keeps
pub record SomeQuery : Type 1 where
  pub Cell : Type 0
  pub rules : List RuleFacts
  pub facts : List ℕ → QueryFacts Cell
  pub number : ℕ
  pub text : ℕ → Cell → List ℕ

-- the query of a name
abbrev pub query_named : QueryName → SomeQuery
query_named Q1 = record { Cell = Nothing; rules = q1_rules; facts = q1_facts; number = 1; text = bids.text_of }
query_named Q2 = record { Cell = Nothing; rules = q2_rules; facts = q2_facts; number = 2; text = bids.text_of }
query_named Q3 = record { Cell = PersonCell; rules = q3_rules; facts = q3_facts; number = 3; text = joining.text_of }
query_named Q4 = record { Cell = AuctionCell PriceSum; rules = []; facts = q4_facts; number = 4; text = closed.text_of price_numbers }
query_named Q5 = record { Cell = List ℕ; rules = q5_rules; facts = q5_facts; number = 5; text = recent.text_of }
query_named Q6 = record { Cell = AuctionCell (List ℕ); rules = q6_rules; facts = q6_facts; number = 6; text = closed.text_of (λ latest. latest) }
query_named Q7 = record { Cell = Option Offer; rules = q7_rules; facts = q7_facts; number = 7; text = best.text_of }
query_named Q8 = record { Cell = Selling; rules = q8_rules; facts = q8_facts; number = 8; text = selling.text_of }

-- The query of a dataflow: that of a name, or a pipeline, which has no rules, with the table of its own lines. No run of a pipeline
-- stops at a time or goes on from a checkpoint, so that its number and texts say nothing
abbrev pub query_of : FlowQuery → SomeQuery
query_of (Named name) = query_named name
query_of (Piped pipe) = record { Cell = Option ℕ; rules = []; facts = λ values. pipe_table pipe; number = 0; text = λ j cell. [] }

-- the query that is asked for; where that is a pipeline, the one that its file says
abbrev pub query_with : QueryAsked → PipeFacts → FlowQuery
query_with (asked.Named name) pipe = Named name
query_with (asked.Piped file) pipe = Piped pipe

-- the lines of a pipeline may stand so
abbrev pub IsSound : FlowQuery → Type 0
IsSound (Named name) = Unit {0}
IsSound (Piped pipe) = are_sound pipe.lines ≡ true

-- the rules of a query
abbrev pub rules_of : FlowQuery → List RuleFacts
rules_of query = (query_of query).rules

-- the numbers that tell it apart from others of its type: the values of its rules, or those of a pipeline's lines
abbrev pub query_numbers : FlowQuery → List ℕ → List ℕ
query_numbers (Named name) values = values
query_numbers (Piped pipe) values = numbers_of pipe

-- how many stages it has, whatever the values of its rules
abbrev pub stages_of : FlowQuery → ℕ
stages_of query = let some = query_of query in (some.facts (given_values some.rules)).stages

-- its one-thread answer to events, with these values of its rules
abbrev pub answer_of : FlowQuery → List ℕ → List Event → List ℕ
answer_of query values events = let some = query_of query in one_thread_answer (some.facts values) events
