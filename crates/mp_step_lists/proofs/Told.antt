-- The tables hold what the workers of the job do.
use Rattle.std.proofs.Common.{◌≡◌, ◌≢◌, ◌∙◌, ◌==◌, ◌&&◌, ℕ, ◌<◌, ◌≤◌, true, List, [], get_or, refl, sym, ap, ⊎_elim, zero-add, arith}
use Rattle.std.proofs.lemmas.Bool.{cases_eq, cases_lt, cond-false, cond-true, eq-eqb, false≢true, false_from_ne_true, eqb-true, and_parts, ne_eqb}
use Rattle.std.proofs.lemmas.List.{get_or_past}
use Rattle.std.proofs.lemmas.List.FromFn.{get_or-map-range_with_len, length-map-range_with_len}
use Rattle.mp_names.specs.declared.names.Name.{Name}
use Rattle.mp_names.specs.declared.names.Name.TheVariants.{Packet}
use Rattle.mp_names.specs.declared.kinds.Kind.{Kind}
use Rattle.mp_names.specs.declared.kinds.Kind.TheVariants.{Ingest, SendControl, Route, Receive, Extract, Settle, Apply, SendRow, Write, Exchange}
use Rattle.mp_names.specs.Names.{is_packet}
use Rattle.mp_names.specs.Outlines.{Outline, OutlineIsSound, packets_of, sender, share, control_times}
use Rattle.mp_names.proofs.Listed.{control_time_is}
use Rattle.mp_player_laws.specs.Decisions.{controls_to_send, packets_to_send}
use Rattle.mp_chart.specs.declared.entry.Entry.{Entry}
use Rattle.mp_chart.specs.Entries.{entries_of}
use Rattle.mp_chart.specs.Lists.{to_do}
use Rattle.mp_parted.specs.Fitting.{FitsShape}
use Rattle.mp_parted.proofs.Fitting.{packet_fits}
use Rattle.mp_step_lists.specs.Tables.{StepTables, TellsSteps, is_told, list_at, packets_by_stage, packets_by_worker, times_by_stage}
use Rattle.mp_step_lists.proofs.Filters.{filter_none, none_in}
use Rattle.mp_step_lists.proofs.InTurn.{none_to_send}

module _ (o : Outline) (ok : OutlineIsSound o) where
  -- at a stage that the job doesn't have there is nothing to do

  no_packets : (w j : ℕ) → o.stages ≤ j → packets_to_send o w j ≡ []
  no_packets w j past = filter_none (λ x. is_packet j x && sender o x == w) (packets_of o) (λ x i. false_from_ne_true (is_packet j x && sender o x == w) (λ e. other x (packet_fits o ok x i) (and_parts (is_packet j x) (sender o x == w) e).0))
    where
      other : (x : Name) → FitsShape o x → is_packet j x ≡ true → ⊥
      other (Packet i b t) fits e = let l = fits.0 in let s = eqb-true i j e in omega arith
      other _ fits e = false≢true e

  no_times : (j : ℕ) → o.stages ≤ j → control_times o j ≡ []
  no_times j past = none_in (control_times o j) (λ x i. let r = (control_time_is o j x i).2 in let fits = (ok.controls_fit r.0 r.1).1 in let s = r.2 in omega arith)

  module _ (t : StepTables) (tells : TellsSteps o t) (w : ℕ) (l : w < o.workers) where
    packets_told : (j : ℕ) → list_at t w (Extract j) ≡ entries_of o (packets_to_send o w j)
    packets_told j =
        ap (λ (ps : List (List (List Entry))). get_or (get_or ps j []) w []) tells.packets
        ∙ ⊎_elim
        (λ (m : j < o.stages).
        ap (λ (row : List (List Entry)). get_or row w []) (get_or-map-range_with_len (packets_by_worker o) 0 o.stages j j [] m (zero-add j))
        ∙ get_or-map-range_with_len (λ v. entries_of o (packets_to_send o v j)) 0 o.workers w w [] l (zero-add w))
        (λ (m : o.stages ≤ j).
        let long = length-map-range_with_len (packets_by_worker o) 0 o.stages in
        ap (λ (row : List (List Entry)). get_or row w []) (get_or_past (packets_by_stage o) j [] (omega arith))
        ∙ ap (entries_of o) (sym (no_packets w j m)))
        (cases_lt j o.stages)

    times_told : (j : ℕ) → list_at t w (Settle j) ≡ entries_of o (control_times o j)
    times_told j =
        ap (λ (ts : List (List Entry)). get_or ts j []) tells.times
        ∙ ⊎_elim
        (λ (m : j < o.stages). get_or-map-range_with_len (λ i. entries_of o (control_times o i)) 0 o.stages j j [] m (zero-add j))
        (λ (m : o.stages ≤ j).
        let long = length-map-range_with_len (λ i. entries_of o (control_times o i)) 0 o.stages in
        get_or_past (times_by_stage o) j [] (omega arith) ∙ ap (entries_of o) (sym (no_times j m)))
        (cases_lt j o.stages)

    controls_told : list_at t w SendControl ≡ entries_of o (controls_to_send o w)
    controls_told =
        ⊎_elim
        (λ (e : w ≡ 0). cond-true (w == 0) t.controls [] (eq-eqb w 0 e) ∙ tells.controls ∙ ap (λ (v : ℕ). entries_of o (controls_to_send o v)) (sym e))
        (λ (d : w ≢ 0). cond-false (w == 0) t.controls [] (ne_eqb w 0 d) ∙ ap (entries_of o) (sym (none_to_send o w d)))
        (cases_eq w 0)

    pub told_list : (kind : Kind) → is_told kind ≡ true → list_at t w kind ≡ entries_of o (to_do o w kind)
    told_list Ingest told = ap (λ (ls : List (List Entry)). get_or ls w []) tells.shares ∙ get_or-map-range_with_len (λ v. entries_of o (share o v)) 0 o.workers w w [] l (zero-add w)
    told_list SendControl told = controls_told
    told_list (Route j) told = refl
    told_list (Receive v) told = refl
    told_list (Extract j) told = packets_told j
    told_list (Settle j) told = times_told j
    told_list (Apply j) told = absurd (false≢true told)
    told_list SendRow told = absurd (false≢true told)
    told_list Write told = tells.written
    told_list Exchange told = refl
