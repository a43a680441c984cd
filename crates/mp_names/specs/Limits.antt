-- The limits of this version, each a number: the code's constants have to equal them.
use Rattle.std.specs.Prelude.{ℕ, ◌+◌, ◌^◌}

-- how many events an event file may have
abbrev pub most_events : ℕ
most_events = 1000000

-- the greatest time of an event and of a control record, in units of the event file
abbrev pub greatest_time : ℕ
greatest_time = 2 ^ 47

-- the greatest time of a group, an answer row or a record of a later stage
abbrev pub last_time : ℕ
last_time = 2 ^ 47 + 43200

-- how many bytes a name in an event may have
abbrev pub longest_name : ℕ
longest_name = 64

-- the greatest id, seller, category, auction or bidder
abbrev pub greatest_id : ℕ
greatest_id = 2 ^ 48

-- the greatest reserve or price
abbrev pub greatest_price : ℕ
greatest_price = 10 ^ 12

-- how many control records a job may have
abbrev pub most_controls : ℕ
most_controls = 65536

-- how many stages a query may have
abbrev pub most_stages : ℕ
most_stages = 4

-- how many workers a job may have
abbrev pub most_workers : ℕ
most_workers = 64

-- how many bins the keys of a stage may be cut into
abbrev pub most_bins : ℕ
most_bins = 4096

-- how many messages a mailbox may hold
abbrev pub deepest_mailbox : ℕ
deepest_mailbox = 1024

-- how many records may travel in one message
abbrev pub most_in_bundle : ℕ
most_in_bundle = 64

-- the greatest seed of a schedule
abbrev pub greatest_seed : ℕ
greatest_seed = 2 ^ 48

-- how many bytes a file that is read may have
abbrev pub most_bytes : ℕ
most_bytes = 2 ^ 28
