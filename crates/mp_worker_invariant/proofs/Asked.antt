-- What the parts of a worker say where one of them is asked, and that a worker begins with what the empty log says.
use Rattle.std.proofs.Common.{◌≡◌, ℕ, suc, ◌<◌, ◌≤◌, true, false, [], length, refl, sym, ap, ◌∙◌, subst, inl, inr, ⊎_elim, arith}
use Rattle.std.proofs.lemmas.Bool.{cases_Bool, false≢true, both_ways, false_from_ne_true}
use Rattle.mp_names.specs.declared.locations.Frontier.{Frontier}
use Rattle.mp_names.specs.declared.locations.Frontier.TheVariants.{At, Done}
use Rattle.mp_names.specs.declared.locations.Loc.{Loc}
use Rattle.mp_names.specs.declared.locations.Loc.TheVariants.{CtlMail, Host as HostLoc, Move, State}
use Rattle.mp_names.specs.declared.names.Name.{Name}
use Rattle.mp_names.specs.declared.names.Name.TheVariants.{Ctrl, Packet, Row, Written}
use Rattle.mp_names.specs.declared.names.Tag.{Tag}
use Rattle.mp_names.specs.Controls.{control_of, owner_below}
use Rattle.mp_names.specs.Frontiers.{HasPassed, HasReached}
use Rattle.mp_names.specs.Locations.{IsLocation, Reaches, goes, stays}
use Rattle.mp_names.specs.Names.{has, In, IsLeast, is_row}
use Rattle.mp_names.specs.Outlines.{IsOwedBy, IsOwedTo, Outline, OutlineIsSound, owner_before}
use Rattle.mp_names.specs.Logs.{Log, LogIsLegal, empty_log, is_given, with_sent}
use Rattle.mp_names.proofs.Keeps.{empty_is_legal}
use Rattle.mp_names.proofs.Reach.{move-state}
use Rattle.mp_stamps.specs.Seen.{SeenIsDone, seen_at}
use Rattle.mp_bins.specs.Laws.{AreNotedBelow}
use Rattle.mp_bins.specs.Notes.{Layout, first_owner, owner_before as noted_before}
use Rattle.mp_bins.proofs.Told.{told}
use Rattle.mp_model.specs.Facts.{JobFacts, QueryFacts}
use Rattle.mp_outline.specs.JobOutline.{outline_of}
use Rattle.mp_output.specs.Holding.{HoldsUnwritten}
use Rattle.mp_host_laws.specs.Hosted.{Hosted}
use Rattle.mp_host_laws.specs.HostOf.{HostMatchesLogAndSeen, OwnersAreCurrent}
use Rattle.mp_host_laws.specs.Laws.{MayLeaveNow}
use Rattle.mp_handoff.specs.Due.{IsDueHere}
use Rattle.mp_handoff.specs.MoversOf.{KnowsMoves}
use Rattle.mp_worker_invariant.specs.Kept.{PartsAreAsked, PartsBegin}
use Rattle.mp_worker_invariant.specs.Parts.{ArePartsOf, HoldsRowsBut, IsHostAt, Parts}
use Rattle.mp_worker_invariant.proofs.Legal.{packet_legal}
use Rattle.mp_controller.proofs.Sending.{controller_begins}
use Rattle.mp_worker_invariant.proofs.Noted.{none_taken}

-- a row that is still to come is of a time that isn't written
pub row_not_written : (o : Outline) (w : ℕ) (log : Log) → LogIsLegal o w log → (t : ℕ) (g : Tag) → IsOwedTo o w (Row t g) → has log.took (Row t g) ≡ false → has log.settled (Written t) ≡ false
row_not_written o w log legal t g owed fresh =
    false_from_ne_true (has log.settled (Written t)) (λ i. both_ways (has log.took (Row t g)) fresh ((legal.settled_ready (Written t) i).1 g owed.0))

ctl_mail-state : (j : ℕ) → Reaches CtlMail (State j)
ctl_mail-state j = goes {b = Move j} (j, refl) (move-state j)

-- a frontier that has passed a time has passed all earlier ones
passed_sooner : (f : Frontier) (t u : ℕ) → HasPassed f t → u < t → HasPassed f u
passed_sooner (At s) t u h l = omega arith
passed_sooner Done t u h l = tt

module _ {Cell : Type 0} (q : QueryFacts Cell) (job : JobFacts) (sound : OutlineIsSound (outline_of q job)) (p : Parts Cell) (parts : ArePartsOf q job p) where
  pub host_is_informed : (j : ℕ) (h : Hosted Cell) → IsHostAt q job p.number p.log j h → HostMatchesLogAndSeen q job p.log p.seen h
  host_is_informed j h at = record {
    host = at.2;
    legal = subst (λ (w : ℕ). LogIsLegal (outline_of q job) w p.log) (sym at.1) parts.legal;
    done = subst (λ (w : ℕ). SeenIsDone (outline_of q job) w p.log p.seen) (sym at.1) parts.done;
  }

  -- where a frontier behind the control records was seen to have passed a time, all of them up to it are taken, and so noted
  module _ (at : Loc) (has_loc : IsLocation job.shape.stages at) (behind : Reaches CtlMail at) (t : ℕ) (passed : HasPassed (seen_at p.seen at) t) where
    taken_upto : (i : ℕ) → i < length job.controls → (control_of job.controls i).time ≤ t → In (Ctrl i p.number) p.log.took
    taken_upto i l le = parts.done at t has_loc passed CtlMail (control_of job.controls i).time behind le (Ctrl i p.number) ((l, parts.worker), refl) refl refl

    noted_upto : AreNotedBelow job.controls p.notes (suc t)
    noted_upto i l before = parts.notes.taken i ∙ taken_upto i l (omega arith)

    -- then the owners up to it are the job's
    owners_upto : (j b u : ℕ) → u ≤ suc t → noted_before p.notes j b u ≡ owner_before (outline_of q job) j b u
    unfolding owner_before
    owners_upto j b u le = told job.controls p.notes (suc t) parts.notes.of_job noted_upto j b u le ∙ ap (λ (l : Layout). owner_below job.controls (first_owner l j b) j b u) parts.notes.layout

  owners_are_known : (j : ℕ) → j < job.shape.stages → OwnersAreCurrent q job p.notes p.seen j
  owners_are_known j below = record { shape = ap (λ (l : Layout). l.shape) parts.notes.layout; owners = λ t b passed. owners_upto (State j) below (ctl_mail-state j) t passed j b (suc t) (omega arith) }

  moves_are_known : (j : ℕ) → KnowsMoves (outline_of q job) p.log p.notes p.seen p.number j
  moves_are_known j = record {
    taken = λ i t passed. taken_upto CtlMail tt stays t passed i;
    owners = λ b t passed. (owners_upto CtlMail tt stays t passed j b t (omega arith), owners_upto CtlMail tt stays t passed j b (suc t) (omega arith));
  }

  -- The least packet that is due may leave, once the groups before its time were seen to be applied

  module _ (j b t : ℕ) (least : IsLeast (IsDueHere (outline_of q job) p.log p.seen p.number j) (Packet j b t)) (reached : HasReached (seen_at p.seen (HostLoc j)) t) where
    -- an earlier packet of the bin would be less, were it not sent
    earlier_sent : (m : ℕ) → m < t → IsOwedBy (outline_of q job) p.number (Packet j b m) → In (Packet j b m) p.log.sent
    earlier_sent m l owed =
        ⊎_elim
        (λ (e : In (Packet j b m) p.log.sent). e)
        (λ (e : has p.log.sent (Packet j b m) ≡ false). absurd (least.1 (Packet j b m) ((refl, owed, e), passed_sooner (seen_at p.seen CtlMail) t m least.0.1 l) (inr (refl, inl l))))
        (cases_Bool (has p.log.sent (Packet j b m)))

    leaves : (h : Hosted Cell) → IsHostAt q job p.number p.log j h → MayLeaveNow q job p.log h b t
    leaves h at =
        let o = outline_of q job in
        record {
          owed = here (λ v i. IsOwedBy o v (Packet i b t)) least.0.0.1;
          unsent = here (λ v i. has p.log.sent (Packet i b t) ≡ false) least.0.0.2;
          legal = here (λ v i. LogIsLegal o v (with_sent p.log (Packet i b t))) (packet_legal q job sound p.number parts.worker p.log parts.legal p.seen parts.done j b t least reached);
          earlier = here (λ v i. (m : ℕ) → m < t → IsOwedBy o v (Packet i b m) → In (Packet i b m) p.log.sent) earlier_sent;
        }
      where
        here : (P : ℕ → ℕ → Type 0) → P p.number j → P h.worker h.stage
        here P k = subst (λ (v : ℕ). P v h.stage) (sym at.1) (subst (λ (i : ℕ). P p.number i) (sym at.0) k)

  pub parts_are_asked : PartsAreAsked q job p
  parts_are_asked = record {
    informed = host_is_informed;
    owners = owners_are_known;
    moves = moves_are_known;
    leaves = λ j b t h below at least reached. leaves j b t least reached h at;
    row_not_written = row_not_written (outline_of q job) p.number p.log parts.legal;
  }

module _ {Cell : Type 0} (q : QueryFacts Cell) (job : JobFacts) where
  -- the empty log gives no row
  none_is_given : (o : Outline) (w : ℕ) (x : Name) → is_row x ≡ true → is_given o w empty_log x ≡ false
  none_is_given o w (Row t g) e = refl
  none_is_given o w _ e = absurd (false≢true e)

  pub no_rows_at_first : (w : ℕ) → HoldsRowsBut q job w empty_log [] []
  no_rows_at_first w = record {
    once = tt;
    unsent = λ x. (
      (λ i. absurd (false≢true i)),
      (λ h. absurd (both_ways (is_given (outline_of q job) w empty_log x) (none_is_given (outline_of q job) w x h.0) h.2)),
    );
  }

  pub no_rows_to_write : HoldsUnwritten empty_log []
  no_rows_to_write = record { held = λ t g. ((λ i. absurd (false≢true i)), (λ a. absurd (false≢true a.0))); once = tt }

  pub parts_begin : PartsBegin q job
  parts_begin w seen notes c routers hosts movers worker done layout none new all_routers at_routers all_hosts at_hosts all_movers at_movers = record {
    worker = worker;
    legal = empty_is_legal (outline_of q job) w;
    done = done;
    notes = none_taken job w notes layout none;
    controller = λ first. controller_begins (outline_of q job) job c (new first) refl refl refl (omega arith);
    all_routers = all_routers;
    routers = at_routers;
    all_hosts = all_hosts;
    hosts = at_hosts;
    all_movers = all_movers;
    movers = at_movers;
    unsent = no_rows_at_first w;
    unwritten = no_rows_to_write;
  }
