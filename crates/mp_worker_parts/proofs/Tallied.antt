-- The packets that the movers of all stages sent are those that the log has as sent.
use Rattle.std.proofs.Common.{◌≡◌, ◌∙◌, ℕ, zero, suc, ◌<◌, ◌≤◌, ◌++◌, List, [], None, arith, filter, get_or, length, map, refl, sym, ap, take}
use Rattle.std.proofs.lemmas.List.{map-append}
use Rattle.std.proofs.Math.Seq.{take-length}
use Rattle.mp_names.specs.declared.names.Name.{Name}
use Rattle.mp_names.specs.Logs.{Log}
use Rattle.mp_names.specs.Names.{is_packet}
use Rattle.mp_model.specs.Facts.{JobFacts, QueryFacts}
use Rattle.mp_handoff.specs.MoversState.{MoversState}
use Rattle.mp_tally.specs.Tallies.{moved_by, moved_of, name_of_moved, sent_packets}
use Rattle.mp_tally.proofs.Packets.{names_of, one_more}
use Rattle.mp_worker_invariant.specs.Parts.{AreMoversAt, AtEach}

module _ {Cell : Type 0} (q : QueryFacts Cell) (job : JobFacts) (w : ℕ) (log : Log) (movers : List MoversState) (at : AtEach movers (AreMoversAt q job w log)) where
  some : MoversState
  some = record { stage = 0; worker = 0; unsettled = []; last = None; room = 0; sent = []; room_for_sent = 0 }

  of_stage : (n : ℕ) → n < length movers → map name_of_moved (map (moved_of (get_or movers n some).stage) (get_or movers n some).sent) ≡ filter (is_packet n) log.sent
  of_stage n l =
      let m = get_or movers n some in
      let here = at n some l in
      names_of m.stage m.sent ∙ here.2.packets ∙ ap (λ (i : ℕ). filter (is_packet i) log.sent) here.0

  names_below : (n : ℕ) → n ≤ length movers → map name_of_moved (moved_by (take n movers)) ≡ sent_packets n log
  names_below zero l = refl
  names_below (suc n) l =
      let m = get_or movers n some in
      let inside : n < length movers = omega arith in
      let before : n ≤ length movers = omega arith in
      ap (map name_of_moved) (one_more movers n some inside)
      ∙ map-append name_of_moved (moved_by (take n movers)) (map (moved_of m.stage) m.sent)
      ∙ ap (λ (xs : List Name). xs ++ map name_of_moved (map (moved_of m.stage) m.sent)) (names_below n before)
      ∙ ap (λ (xs : List Name). sent_packets n log ++ xs) (of_stage n inside)

  pub names_moved : map name_of_moved (moved_by movers) ≡ sent_packets (length movers) log
  names_moved = ap (λ (ms : List MoversState). map name_of_moved (moved_by ms)) (sym (take-length movers)) ∙ names_below (length movers) (omega arith)
