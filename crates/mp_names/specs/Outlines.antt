-- The outline of a job: all that the protocol needs to know of its query, events and control records.
use Rattle.std.specs.Prelude.{◌≡◌, ℕ, zero, suc, ◌+◌, ◌-◌, ◌*◌, ◌%◌, ◌<◌, Bool, true, false, ◌&&◌, ◌==◌, nat_lt, List, [], ◌∷◌, ◌++◌, length, filter, map, flat_map, Option, None, Some, ◌||◌}
use Rattle.std.specs.List.{list_any}
use Rattle.mp_names.specs.declared.names.Name.{Name}
use Rattle.mp_names.specs.declared.names.Name.TheVariants.{Ctrl, Rec, Packet, Row, Group, Settled, Written}
use Rattle.mp_names.specs.declared.names.Tag.{Tag}
use Rattle.mp_names.specs.declared.controls.Control.{Control}
use Rattle.mp_names.specs.declared.controls.Move.{Move}
use Rattle.mp_names.specs.Names.{has, In, Distinct, ascending, joined_below, is_rec, is_row, is_group, is_settled}
use Rattle.mp_names.specs.Controls.{control_of, owner_below, is_change, packets_in, moves_in}

-- all that is told of a job; its groups, moves, times and what has to be sent follow from it
pub record Outline : Type 0 where
  pub workers : ℕ
  pub bins : ℕ
  pub stages : ℕ
  pub controls : List Control
  pub first_owner : ℕ → ℕ → ℕ  -- of a stage's bin
  pub bin_of : ℕ → ℕ  -- of a key
  pub records : ℕ → List Name  -- the `Rec` names of a stage; those of stage 0 by index
  pub posts : Name → List ℕ  -- the later times at which a record wakes its key
  pub rows : List Name  -- the `Row` names
  pub opening : ℕ → List Name  -- the `Group` names of a stage's opening wakes, which a job that goes on from a checkpoint has from the start
  pub bundle : ℕ  -- how many records travel in one message at most
  pub paced : Bool  -- the control records of a time wait until all that moves at earlier times has arrived
  pub until : Option ℕ  -- the stop time, if there is one: the groups of it and of later times wait for ever

abbrev pub control_at : Outline → ℕ → Control
control_at o i = control_of o.controls i

abbrev pub time_of : Outline → Name → ℕ
time_of o (Ctrl i v) = (control_at o i).time
time_of o (Rec j t k g) = t
time_of o (Packet j b t) = t
time_of o (Row t g) = t
time_of o (Group j t k) = t
time_of o (Settled j t) = t
time_of o (Written t) = t

-- the time is before the stop time, where there is one
abbrev pub IsBeforeStop : Option ℕ → ℕ → Type 0
IsBeforeStop None t = Unit {0}
IsBeforeStop (Some stop) t = t < stop

abbrev pub is_before_stop : Option ℕ → ℕ → Bool
is_before_stop None t = true
is_before_stop (Some stop) t = nat_lt t stop

-- Owners and moves

-- the owner of a stage's bin just before a time
unfoldable pub owner_before : Outline → ℕ → ℕ → ℕ → ℕ
owner_before o j b t = owner_below o.controls (o.first_owner j b) j b t

-- the owner at a time: times are whole numbers, so this is just before the next one
abbrev pub owner_at : Outline → ℕ → ℕ → ℕ → ℕ
owner_at o j b t = owner_before o j b (suc t)

-- the worker that owns a key's group at a time
abbrev pub group_owner : Outline → ℕ → ℕ → ℕ → ℕ
group_owner o j t k = owner_at o j (o.bin_of k) t

-- the bin moves at this time
abbrev pub IsMove : Outline → ℕ → ℕ → ℕ → Type 0
IsMove o j b t = owner_before o j b t ≡ owner_at o j b t → ⊥

abbrev pub is_moving : Outline → Name → Bool
is_moving o x = is_change o.controls o.first_owner x

-- the packets of all moves, by time, stage and bin
unfoldable pub packets_of : Outline → List Name
packets_of o = packets_in o.controls o.first_owner

-- the moves, by time, stage and bin
unfoldable pub moves_of : Outline → List Move
moves_of o = moves_in o.controls o.first_owner

-- Groups and times

-- the record posts this time
abbrev pub is_posted : Outline → Name → ℕ → Bool
is_posted o x u = list_any (λ v. v == u) (o.posts x)

-- the groups that a record makes: that of its key at its own time, and at each time that it posts
abbrev pub groups_made : Outline → Name → List Name
groups_made o (Rec j t k g) = Group j t k ∷ map (λ u. Group j u k) (o.posts (Rec j t k g))
groups_made o _ = []

-- the groups of a stage, by time and key: those of its opening wakes, and those that its records make
unfoldable pub groups_of : Outline → ℕ → List Name
groups_of o j = ascending (o.opening j ++ flat_map (groups_made o) (o.records j))

-- those that are to be applied: they are before the stop time
abbrev pub due_groups : Outline → ℕ → List Name
due_groups o j = filter (λ x. is_before_stop o.until (time_of o x)) (groups_of o j)

-- a record of the key wakes it at this time
abbrev pub wakes : Outline → ℕ → ℕ → Name → Bool
wakes o t k (Rec i s l g) = l == k && is_posted o (Rec i s l g) t
wakes o t k _ = false

-- the group of the key at this time is woken: it is an opening wake, or a record of the key posts the time
abbrev pub is_woken : Outline → ℕ → ℕ → ℕ → Bool
is_woken o j t k = has (o.opening j) (Group j t k) || list_any (wakes o t k) (o.records j)

-- some control record is of this stage and time
abbrev pub HasControl : Outline → ℕ → ℕ → Type 0
HasControl o j t = (i : ℕ) × (i < length o.controls) × ((control_at o i).stage ≡ j) × ((control_at o i).time ≡ t)

-- the times of a stage's control records, ascending and each once, as `Settled` names
unfoldable pub control_times : Outline → ℕ → List Name
control_times o j = filter (is_settled j) (ascending (map (λ c. Settled c.stage c.time) o.controls))

-- the times of the answer rows, ascending and each once, as `Written` names
unfoldable pub answer_times : Outline → List Name
answer_times o = ascending (map (λ x. Written (time_of o x)) o.rows)

-- What has to be sent, by whom and to whom

-- the sender of a name: of a record of stage 0 the worker whose share has its event, of a later one and of an answer row the owner of the group that gave it
abbrev pub sender : Outline → Name → ℕ
sender o (Ctrl i v) = 0
sender o (Rec zero t k g) = g.1 % o.workers
sender o (Rec (suc j) t k g) = group_owner o j t g.0
sender o (Packet j b t) = owner_before o j b t
sender o (Row t g) = group_owner o (o.stages - 1) t g.0
sender o _ = 0

abbrev pub receiver : Outline → Name → ℕ
receiver o (Ctrl i v) = v
receiver o (Rec j t k g) = group_owner o j t k
receiver o (Packet j b t) = owner_at o j b t
receiver o _ = 0

-- the name has to be sent and taken: each control record to each worker, each record, the packet of each move, each answer row
abbrev pub IsOwed : Outline → Name → Type 0
IsOwed o (Ctrl i v) = (i < length o.controls) × (v < o.workers)
IsOwed o (Rec j t k g) = (j < o.stages) × In (Rec j t k g) (o.records j)
IsOwed o (Packet j b t) = IsMove o j b t
IsOwed o (Row t g) = In (Row t g) o.rows
IsOwed o _ = ⊥

-- the worker has to send the name
abbrev pub IsOwedBy : Outline → ℕ → Name → Type 0
IsOwedBy o w x = IsOwed o x × (sender o x ≡ w)

-- the worker has to take the name
abbrev pub IsOwedTo : Outline → ℕ → Name → Type 0
IsOwedTo o w x = IsOwed o x × (receiver o x ≡ w)

-- the `Ctrl` names, by index and receiver
abbrev pub ctrl_names : Outline → List Name
ctrl_names o = joined_below (length o.controls) (λ i. joined_below o.workers (λ v. Ctrl i v ∷ []))

-- the names that have to be sent, each once
unfoldable pub owed_names : Outline → List Name
owed_names o = ctrl_names o ++ (joined_below o.stages o.records ++ (packets_of o ++ o.rows))

abbrev pub owed_by : Outline → ℕ → List Name
owed_by o w = filter (λ x. sender o x == w) (owed_names o)

abbrev pub owed_to : Outline → ℕ → List Name
owed_to o w = filter (λ x. receiver o x == w) (owed_names o)

-- the records of the events whose index is w modulo the number of workers
abbrev pub share : Outline → ℕ → List Name
share o w = filter (λ x. sender o x == w) (o.records 0)

-- how many names the logs of a finished job hold: each owed name sent and taken, each record of stage 0 ingested, each group that is due applied, each control time settled by each worker, each answer time written
unfoldable pub name_count : Outline → ℕ
name_count o =
    2 * length (owed_names o)
    + length (o.records 0)
    + length (joined_below o.stages (due_groups o))
    + o.workers * length (joined_below o.stages (control_times o))
    + length (answer_times o)

-- What makes an outline sound

-- worker, stage and bin of a control record are the job's
abbrev pub IsInShape : Outline → Control → Type 0
IsInShape o c = (c.worker < o.workers) × (c.stage < o.stages) × (c.bin < o.bins)

abbrev pub index_of : Name → ℕ
index_of (Rec j t k g) = g.1
index_of _ = 0

-- the records stand by the index of their event, which their tag holds
abbrev pub StandByIndex : List Name → Type 0
StandByIndex [] = Unit {0}
StandByIndex (x ∷ xs) = ((y : Name) → In y xs → index_of x < index_of y) × StandByIndex xs

-- The facts that the definitions of records, posts, outputs and files give
pub record OutlineIsSound (o : Outline) : Type 0 where
  pub some_worker : 0 < o.workers
  pub some_stage : 0 < o.stages
  pub some_bundle : 0 < o.bundle
  pub controls_fit : (i : ℕ) → i < length o.controls → IsInShape o (control_at o i)
  pub first_owners_fit : (j b : ℕ) → j < o.stages → b < o.bins → o.first_owner j b < o.workers
  pub bins_fit : (k : ℕ) → o.bin_of k < o.bins
  -- the list of a stage holds records of that stage, each once, and the job has the stage
  pub records_are : (j : ℕ) (x : Name) → In x (o.records j) → (j < o.stages) × (is_rec j x ≡ true)
  pub records_once : (j : ℕ) → Distinct (o.records j)
  pub records_by_index : StandByIndex (o.records 0)
  -- a record's time and tag tell its key
  pub tags_tell : (j t k l : ℕ) (g : Tag) → In (Rec j t k g) (o.records j) → In (Rec j t l g) (o.records j) → k ≡ l
  pub posts_later : (j : ℕ) (x : Name) (u : ℕ) → In x (o.records j) → is_posted o x u ≡ true → time_of o x < u
  -- a record of a later stage was given at its time by the group of its tag's key, and so was an answer row
  pub records_given : (j t k : ℕ) (g : Tag) → In (Rec (suc j) t k g) (o.records (suc j)) → In (Group j t g.0) (groups_of o j)
  pub rows_are : (x : Name) → In x o.rows → is_row x ≡ true
  pub rows_once : Distinct o.rows
  pub rows_given : (t : ℕ) (g : Tag) → In (Row t g) o.rows → In (Group (o.stages - 1) t g.0) (groups_of o (o.stages - 1))
  -- what has to be sent is before the stop time; what records post need not be
  pub controls_stop : (i : ℕ) → i < length o.controls → IsBeforeStop o.until (control_at o i).time
  pub records_stop : (j : ℕ) (x : Name) → In x (o.records j) → IsBeforeStop o.until (time_of o x)
  pub rows_stop : (x : Name) → In x o.rows → IsBeforeStop o.until (time_of o x)
  -- the opening wakes of a stage are groups of that stage, and the job has the stage
  pub opening_are : (j : ℕ) (x : Name) → In x (o.opening j) → (j < o.stages) × (is_group j x ≡ true)
  -- where a job has opening wakes, its control records are later than 0: at 0 each bin is still the first owner's
  pub opening_first : (j : ℕ) (x : Name) → In x (o.opening j) → (i : ℕ) → i < length o.controls → 0 < (control_at o i).time
