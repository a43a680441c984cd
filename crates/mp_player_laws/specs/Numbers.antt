-- How far a worker is, in numbers.
use Rattle.std.specs.Prelude.{◌≡◌, ℕ, ◌<◌, List, filter, length, take, Some}
use Rattle.std.specs.List.{slice_get}
use Rattle.mp_names.specs.declared.names.Name.{Name}
use Rattle.mp_names.specs.Names.{is_ctrl, is_packet, is_row, is_group, is_settled, is_written}
use Rattle.mp_names.specs.Outlines.{Outline, share, control_times, answer_times}
use Rattle.mp_names.specs.Logs.{Log, owned_groups}
use Rattle.mp_machine.specs.Promises.{InEveryRun}
use Rattle.mp_player_laws.specs.Decisions.{controls_to_send, packets_to_send, rows_to_send}

-- How many records of its share the worker has ingested; how many control records, packets of a stage and answer rows it has sent; how many groups of a stage it has applied; and how many times of a stage it has settled, and of answer rows written
pub record Numbers : Type 0 where
  pub ingested : ℕ
  pub controls : ℕ
  pub packets : ℕ → ℕ
  pub rows : ℕ
  pub groups : ℕ → ℕ
  pub times : ℕ → ℕ
  pub written : ℕ

abbrev pub numbers_of : Log → Numbers
numbers_of log =
    record {
      ingested = length log.ingested;
      controls = length (filter is_ctrl log.sent);
      packets = λ j. length (filter (is_packet j) log.sent);
      rows = length (filter is_row log.sent);
      groups = λ j. length (filter (is_group j) log.applied);
      times = λ j. length (filter (is_settled j) log.settled);
      written = length (filter is_written log.settled);
    }

-- the name stands at a place of the list, from 0
abbrev pub StandsAt : List Name → ℕ → Name → Type 0
StandsAt all place x = slice_get all place ≡ Some x

-- What the worker has done is as many of each list from its beginning
pub record ListsAreTold (o : Outline) (w : ℕ) (log : Log) : Type 0 where
  pub ingested : log.ingested ≡ take (numbers_of log).ingested (share o w)
  pub controls : filter is_ctrl log.sent ≡ take (numbers_of log).controls (controls_to_send o w)
  pub packets : (j : ℕ) → filter (is_packet j) log.sent ≡ take ((numbers_of log).packets j) (packets_to_send o w j)
  pub rows : filter is_row log.sent ≡ take (numbers_of log).rows (rows_to_send o w)
  pub groups : (j : ℕ) → j < o.stages → filter (is_group j) log.applied ≡ take ((numbers_of log).groups j) (owned_groups o w j)
  pub times : (j : ℕ) → j < o.stages → filter (is_settled j) log.settled ≡ take ((numbers_of log).times j) (control_times o j)
  pub written : filter is_written log.settled ≡ take (numbers_of log).written (answer_times o)

abbrev pub NumbersTellLists : Type 0
NumbersTellLists = InEveryRun (λ o depth world. (w : ℕ) → w < o.workers → ListsAreTold o w (world.worker w).log)
