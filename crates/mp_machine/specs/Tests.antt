-- The same conditions as tests, with the next name found by a search through lists.
use Rattle.std.specs.Prelude.{ℕ, Bool, true, false, cond, not, ◌&&◌, ◌||◌, ◌==◌, nat_lt, nat_le, zero, suc, List, [], ◌∷◌, filter, map, length, Option, None, Some}
use Rattle.std.specs.List.{list_any}
use Rattle.mp_names.specs.declared.names.Name.{Name}
use Rattle.mp_names.specs.declared.names.Name.TheVariants.{Ctrl, Packet, Group, Settled, Written}
use Rattle.mp_names.specs.declared.locations.Loc.TheVariants.{CtlMail, Mail, State, Host, OutMail}
use Rattle.mp_names.specs.declared.locations.Frontier.{Frontier}
use Rattle.mp_names.specs.declared.locations.Frontier.TheVariants.{At, Done}
use Rattle.mp_names.specs.declared.kinds.Kind.{Kind}
use Rattle.mp_names.specs.declared.kinds.Kind.TheVariants.{Ingest, SendControl, Route, Receive, Extract, Settle, Apply, SendRow, Write, Exchange}
use Rattle.mp_names.specs.Names.{same_name, has, rank_of, is_before, is_row}
use Rattle.mp_names.specs.Outlines.{Outline, is_before_stop, control_at, time_of, owner_before, sender, receiver, packets_of, groups_of, ctrl_names, share}
use Rattle.mp_names.specs.Logs.{Log, is_pending}
use Rattle.mp_names.specs.Frontiers.{is_held}
use Rattle.mp_machine.specs.Worlds.{Worker, World}
use Rattle.mp_machine.specs.Messages.{first_message}
use Rattle.mp_machine.specs.Steps.{same_log}

abbrev pub kind_fits : Outline → Kind → Bool
kind_fits o (Route j) = nat_lt j o.stages
kind_fits o (Receive v) = nat_lt v o.workers
kind_fits o (Extract j) = nat_lt j o.stages
kind_fits o (Settle j) = nat_lt j o.stages
kind_fits o (Apply j) = nat_lt j o.stages
kind_fits o _ = true

abbrev pub has_passed : Frontier → ℕ → Bool
has_passed (At u) t = nat_lt t u
has_passed Done t = true

abbrev pub has_reached : Frontier → ℕ → Bool
has_reached (At u) t = nat_le t u
has_reached Done t = true

-- the name that follows the first list in the second, where the second begins with the first
abbrev pub next_of : List Name → List Name → Option Name
next_of [] [] = None
next_of [] (y ∷ ys) = Some y
next_of (x ∷ xs) [] = None
next_of (x ∷ xs) (y ∷ ys) = cond (same_name x y) (next_of xs ys) None

abbrev pub lesser : Name → Option Name → Option Name
lesser x None = Some x
lesser x (Some y) = cond (is_before (rank_of x) (rank_of y)) (Some x) (Some y)

-- the least of a list's names that pass the test
abbrev pub least_where : (Name → Bool) → List Name → Option Name
least_where p [] = None
least_where p (x ∷ xs) = cond (p x) (lesser x (least_where p xs)) (least_where p xs)

abbrev pub first_of : List Name → Option Name
first_of [] = None
first_of (x ∷ xs) = Some x

-- the test holds of each number below n
abbrev pub all_below : ℕ → (ℕ → Bool) → Bool
all_below zero p = true
all_below (suc n) p = all_below n p && p n

-- a control record that is held, of an earlier time than x
abbrev pub goes_sooner : Outline → ℕ → Log → Name → Name → Bool
goes_sooner o w log x y = is_held o w log y && nat_lt (time_of o y) (time_of o x)

abbrev pub is_control_due : Outline → ℕ → Log → Name → Bool
is_control_due o w log x = is_held o w log x && (not o.paced || not (list_any (goes_sooner o w log x) (ctrl_names o)))

abbrev pub is_due : Outline → ℕ → Worker → ℕ → Name → Bool
is_due o w worker j (Packet i b t) = i == j && (owner_before o j b t == w && (not (has worker.log.sent (Packet j b t)) && has_passed (worker.seen CtlMail) t))
is_due o w worker j _ = false

abbrev pub is_ctrl_in : Outline → ℕ → Name → Bool
is_ctrl_in o j (Ctrl i v) = (control_at o i).stage == j
is_ctrl_in o j _ = false

-- the times of a stage of which the log has noted a control record
abbrev pub noted_times : Outline → ℕ → Log → List Name
noted_times o j log = map (λ x. Settled j (time_of o x)) (filter (is_ctrl_in o j) log.took)

-- the times of which the log has taken an answer row
abbrev pub taken_times : Outline → Log → List Name
taken_times o log = map (λ x. Written (time_of o x)) (filter is_row log.took)

abbrev pub next_name : Outline → World → ℕ → Kind → Option Name
next_name o world w Ingest = next_of (world.worker w).log.ingested (share o w)
next_name o world w SendControl = least_where (is_control_due o w (world.worker w).log) (ctrl_names o)
next_name o world w (Route j) = least_where (is_held o w (world.worker w).log) (o.records j)
next_name o world w (Receive v) = first_of (first_message (world.mailbox v w))
next_name o world w (Extract j) = least_where (is_due o w (world.worker w) j) (packets_of o)
next_name o world w (Settle j) = least_where (λ x. not (has (world.worker w).log.settled x)) (noted_times o j (world.worker w).log)
next_name o world w (Apply j) = least_where (is_pending o w (world.worker w).log) (groups_of o j)
next_name o world w SendRow = least_where (is_held o w (world.worker w).log) o.rows
next_name o world w Write = cond (w == 0) (least_where (λ x. not (has (world.worker w).log.settled x)) (taken_times o (world.worker w).log)) None
next_name o world w Exchange = None

abbrev pub is_move_below : ℕ → ℕ → ℕ → Name → Bool
is_move_below j b t (Packet i c m) = i == j && (c == b && nat_lt m t)
is_move_below j b t _ = false

-- the last name of the list, if it has one, is taken; else what the test was before
abbrev pub last_taken : List Name → Bool → List Name → Bool
last_taken took before [] = before
last_taken took before (x ∷ xs) = last_taken took (has took x) xs

abbrev pub is_in_hand_before : Outline → ℕ → Log → ℕ → ℕ → ℕ → Bool
is_in_hand_before o w log j b t = owner_before o j b t == w && last_taken log.took true (filter (is_move_below j b t) (packets_of o))

-- a packet that the worker has to send at this time, and hasn't sent
abbrev pub is_left_over : Outline → ℕ → Log → ℕ → ℕ → Name → Bool
is_left_over o w log j t (Packet i b m) = i == j && (m == t && (sender o (Packet i b m) == w && not (has log.sent (Packet i b m))))
is_left_over o w log j t _ = false

-- the time of this control record isn't below t, or the host of stage j has passed it
abbrev pub is_past : Outline → Worker → ℕ → ℕ → ℕ → Bool
is_past o worker t j i = not (nat_lt (control_at o i).time t) || has_passed (worker.seen (Host j)) (control_at o i).time

abbrev pub may_send_control : Outline → Worker → Name → Bool
may_send_control o worker x = not o.paced || all_below o.stages (λ j. all_below (length o.controls) (is_past o worker (time_of o x) j))

abbrev pub may_leave : Outline → ℕ → Worker → ℕ → Name → Bool
may_leave o w worker j (Packet i b t) = has_reached (worker.seen (Host j)) t && is_in_hand_before o w worker.log j b t
may_leave o w worker j _ = false

abbrev pub may_settle : Outline → ℕ → Worker → ℕ → Name → Bool
may_settle o w worker j (Settled i t) = has_passed (worker.seen CtlMail) t && not (list_any (is_left_over o w worker.log j t) (packets_of o))
may_settle o w worker j _ = false

abbrev pub may_apply : Outline → ℕ → Worker → ℕ → Name → Bool
may_apply o w worker j (Group i t k) = has_passed (worker.seen (Mail j)) t && (has_passed (worker.seen (State j)) t && (is_in_hand_before o w worker.log j (o.bin_of k) (suc t) && is_before_stop o.until t))
may_apply o w worker j _ = false

abbrev pub is_ready : Outline → ℕ → Worker → Kind → Name → Bool
is_ready o w worker SendControl x = may_send_control o worker x
is_ready o w worker (Route j) x = has_passed (worker.seen CtlMail) (time_of o x)
is_ready o w worker (Extract j) x = may_leave o w worker j x
is_ready o w worker (Settle j) x = may_settle o w worker j x
is_ready o w worker (Apply j) x = may_apply o w worker j x
is_ready o w worker Write x = has_passed (worker.seen OutMail) (time_of o x)
is_ready o w worker _ x = true

abbrev pub has_room : Outline → ℕ → (ℕ → ℕ → List (List Name)) → ℕ → Name → Bool
has_room o depth mailbox w x = nat_lt (length (mailbox w (receiver o x))) depth

-- that there is a first name to receive, the search for it has shown
abbrev pub mail_allows : Outline → ℕ → (ℕ → ℕ → List (List Name)) → ℕ → Kind → Name → Bool
mail_allows o depth mailbox w SendControl x = has_room o depth mailbox w x
mail_allows o depth mailbox w (Route j) x = has_room o depth mailbox w x
mail_allows o depth mailbox w (Extract j) x = has_room o depth mailbox w x
mail_allows o depth mailbox w SendRow x = has_room o depth mailbox w x
mail_allows o depth mailbox w _ x = true

abbrev pub is_allowed : Outline → ℕ → World → ℕ → Kind → Name → Bool
is_allowed o depth world w kind x = nat_lt w o.workers && (kind_fits o kind && (is_ready o w (world.worker w) kind x && mail_allows o depth world.mailbox w kind x))

abbrev pub can_exchange : Outline → World → ℕ → Bool
can_exchange o world w = nat_lt w o.workers && (not (same_log (world.worker w).log (world.worker w).posted) || not ((world.worker w).version == world.version))
