-- Parts in which room is made for a message: they hold what they held.
use Rattle.std.proofs.Common.{◌≡◌, ◌≤◌, ◌++◌, ℕ, ◌+◌, ◌<◌, ◌^◌, List, arith, drop, length, take, sym, ap, ◌∙◌, subst}
use Rattle.mp_names.specs.Limits.{most_in_bundle}
use Rattle.mp_names.specs.Logs.{Log}
use Rattle.mp_bins.specs.declared.owners.Note.{Note}
use Rattle.mp_bins.specs.Laws.{AreNotesOf}
use Rattle.mp_bins.specs.Notes.{Notes, is_noted}
use Rattle.mp_model.specs.declared.record.Output.{Output}
use Rattle.mp_model.specs.Facts.{JobFacts, QueryFacts}
use Rattle.mp_outline.specs.JobOutline.{outline_of}
use Rattle.mp_rows.specs.WorkerLog.{WorkerLog}
use Rattle.mp_host_laws.specs.Hosted.{Hosted}
use Rattle.mp_host_laws.specs.HostOf.{IsHostOf}
use Rattle.mp_host_laws.proofs.WakeTimes.{few_post_times}
use Rattle.mp_handoff.specs.MoversState.{MoversState}
use Rattle.mp_handoff.specs.MoversOf.{IsMoversOf}
use Rattle.mp_worker_invariant.specs.Parts.{AreMoversAt, AreTaken, IsHostAt, Parts}
use Rattle.mp_worker_invariant.proofs.Items.{same_each, same_length, written_back}
use Rattle.mp_worker_invariant.proofs.Others.{other_hosts, other_movers, other_notes}
use Rattle.mp_worker_parts.specs.Contents.{number_of_post_times}
use Rattle.mp_worker_parts.specs.Kept.{IsKept}
use Rattle.mp_worker_take.specs.Rooms.{SameHosts, SameMovers, roomless, without_room}
use Rattle.mp_worker_parts.proofs.Keeping.{kept_as, kept_by}

-- where there is room for the names of a message there is for one
pub some_names : {n : ℕ} → most_in_bundle ≤ n → 1 ≤ n
some_names h = omega (arith, h)

-- Rooms are nothing that a log says

module _ {Cell : Type 0} (q : QueryFacts Cell) (job : JobFacts) (w : ℕ) (log : Log) where
  unroomed : (h : Hosted Cell) → IsHostOf q job log h → IsHostOf q job log (without_room h)
  unroomed h is = record { moves = is.moves; records = is.records; once = is.once; held = is.held; held_once = is.held_once; states = is.states }

  roomed : (h : Hosted Cell) → IsHostOf q job log (without_room h) → IsHostOf q job log h
  roomed h is = record { moves = is.moves; records = is.records; once = is.once; held = is.held; held_once = is.held_once; states = is.states }

  same_host : (j : ℕ) (old new : Hosted Cell) → without_room new ≡ without_room old → IsHostAt q job w log j old → IsHostAt q job w log j new
  same_host j old new same at =
      (ap (λ (h : Hosted Cell). h.stage) same ∙ at.0, ap (λ (h : Hosted Cell). h.worker) same ∙ at.1, roomed new (subst (IsHostOf q job log) (sym same) (unroomed old at.2)))

  same_movers : (j : ℕ) (old new : MoversState) → roomless new ≡ roomless old → AreMoversAt q job w log j old → AreMoversAt q job w log j new
  same_movers j old new same at =
      let o = outline_of q job in
      let bare : IsMoversOf o log (roomless old) = record { unsettled = at.2.unsettled; sent = at.2.sent; known = at.2.known; settled = at.2.settled; packets = at.2.packets } in
      let moved = subst (IsMoversOf o log) (sym same) bare in
      (ap (λ (m : MoversState). m.stage) same ∙ at.0, ap (λ (m : MoversState). m.worker) same ∙ at.1, record { unsettled = moved.unsettled; sent = moved.sent; known = moved.known; settled = moved.settled; packets = moved.packets })

-- notes of which only the room is another
same_taken : (job : JobFacts) (w : ℕ) (log : Log) (old new : Notes) → new.layout ≡ old.layout → new.noted ≡ old.noted → AreTaken job w log old → AreTaken job w log new
same_taken job w log old new layout noted are = record {
  layout = layout ∙ are.layout;
  of_job = subst (λ (ns : List Note). AreNotesOf job.controls (record { layout = new.layout; noted = ns; room = new.room })) (sym noted) (record { in_order = are.of_job.in_order; each = are.of_job.each });
  taken = λ i. ap (λ (ns : List Note). is_noted ns i) noted ∙ are.taken i;
}

module _ {Cell : Type 0} {q : QueryFacts Cell} {job its : JobFacts} {p : Parts Cell} (kept : IsKept q job its p) where
  -- records post at few times
  pub times_fit : number_of_post_times q job + most_in_bundle < 2 ^ 64
  times_fit = let few = few_post_times q kept.hands_on.later kept.hands_on.nothing job kept.legal in omega (arith, few)

  -- room is made in the hosts, which are lent as a slice
  pub hosts_roomy : (lent roomy : List (Hosted Cell)) (n : ℕ) → lent ≡ p.hosts → length lent ≡ n → SameHosts lent roomy → IsKept q job its (record p { hosts = take n (roomy ++ drop (length roomy) p.hosts) })
  hosts_roomy lent roomy n is count same =
      let there = subst (λ (hs : List (Hosted Cell)). SameHosts hs roomy) is same in
      rw (written_back without_room p.hosts lent roomy n count same)
      (kept_as kept (other_hosts kept.parts roomy (same_length without_room p.hosts roomy there) (same_each without_room (IsHostAt q job p.number p.log) (same_host q job p.number p.log) p.hosts roomy there kept.parts.hosts)))

  -- and in the movers
  pub movers_roomy : (lent roomy : List MoversState) (n : ℕ) → lent ≡ p.movers → length lent ≡ n → SameMovers lent roomy → IsKept q job its (record p { movers = take n (roomy ++ drop (length roomy) p.movers) })
  movers_roomy lent roomy n is count same =
      let there = subst (λ (ms : List MoversState). SameMovers ms roomy) is same in
      rw (written_back roomless p.movers lent roomy n count same)
      (kept_as kept (other_movers kept.parts roomy (same_length roomless p.movers roomy there) (same_each roomless (AreMoversAt q job p.number p.log) (same_movers q job p.number p.log) p.movers roomy there kept.parts.movers)))

  -- room is made in the log, the notes and the rows
  pub front_roomy : (new : WorkerLog) → new.worker ≡ p.number → (more : Notes) (others : List Output) → new.log ≡ p.log → (more.layout ≡ p.notes.layout) × (more.noted ≡ p.notes.noted) → others ≡ p.unwritten
      → IsKept q job its (record p { number = new.worker; log = new.log; notes = more; unwritten = others })
  front_roomy new e more others f n r = rw r (kept_by kept new e f (other_notes kept.parts more (same_taken job p.number p.log p.notes more n.0 n.1 kept.parts.notes)))
