-- A packet that comes to a worker: what it changes at the counts, and that the host holds it.
use Rattle.std.proofs.Common.{◌≡◌, ℕ, ◌<◌, ◌+◌, ◌++◌, false, List, [], ◌∷◌, length, pos, refl, sym, ap, ◌∙◌, subst, arith}
use Rattle.std.proofs.lemmas.List.{length-map}
use Rattle.mp_names.specs.declared.locations.Loc.TheVariants.{Host}
use Rattle.mp_names.specs.declared.names.Name.TheVariants.{Packet}
use Rattle.mp_names.specs.declared.pointstamps.Change.{Change}
use Rattle.mp_names.specs.Names.{has}
use Rattle.mp_names.specs.Outlines.{IsOwedTo, OutlineIsSound}
use Rattle.mp_names.specs.Logs.{Log, LogIsLegal, with_took}
use Rattle.mp_names.proofs.Owners.{move_in_shape}
use Rattle.mp_model.specs.Facts.{JobFacts, QueryFacts}
use Rattle.mp_outline.specs.JobOutline.{outline_of}
use Rattle.mp_rows.specs.Entries.{AreChanges, change_at}
use Rattle.mp_rows_laws.specs.Changes.{AreMore, packet_taken_at, waiting_at}
use Rattle.mp_rows_laws.proofs.Moved.{groups_come}
use Rattle.mp_rows_laws.proofs.Packets.{packet_taken}
use Rattle.mp_msg.specs.States.{BinContent, IsStateBefore}
use Rattle.mp_host_laws.specs.Hosted.{Hosted, StandsInOrder}
use Rattle.mp_host_laws.specs.HostOf.{IsHostOf}
use Rattle.mp_host_laws.specs.Moving.{AreNumbersOf, IsPutIn, brought, not_waiting}
use Rattle.mp_host_laws.proofs.MovingTold.{coming_are_told}
use Rattle.mp_host_laws.proofs.Wakes.{wakes_once}
use Rattle.mp_host.specs.Moves.{TakesPacket}
use Rattle.mp_worker_invariant.specs.Parts.{IsHostAt}

module _ {Cell : Type 0} (q : QueryFacts Cell) (job : JobFacts) (sound : OutlineIsSound (outline_of q job)) (log : Log) (h : Hosted Cell) (b t : ℕ) (s : BinContent Cell) (ns : List (ℕ × ℕ))
    (denotes : StandsInOrder q job h) (host : IsHostOf q job log h) (legal : LogIsLegal (outline_of q job) h.worker log) (below : h.stage < job.shape.stages)
    (owed : IsOwedTo (outline_of q job) h.worker (Packet h.stage b t)) (fresh : has log.took (Packet h.stage b t) ≡ false)
    (state : IsStateBefore q job h.stage b t s) (told : AreNumbersOf (not_waiting h s) ns) where
  -- the host with the state in hand
  abbrev with_state : Hosted Cell
  with_state = record h { held = h.held ++ brought b t s ∷ [] }

  put : IsPutIn (brought b t s) h with_state
  put = record { stage = refl; worker = refl; records = refl; held = refl }

  more : AreMore (outline_of q job) h.worker h.stage log (with_took log (Packet h.stage b t)) ns
  more = record {
    numbers = λ u.
        groups_come (outline_of q job) h.worker log sound legal h.stage b t (not_waiting h s) (wakes_once h s state.order.wakes) (λ v k. coming_are_told q job sound log b t s h with_state v k denotes host legal below owed fresh state put) u
        ∙ ap (λ (n : ℕ). waiting_at (outline_of q job) h.worker log h.stage u + n) (sym (told.numbers u));
    once = told.once;
    none_is_zero = told.none_is_zero;
  }

  -- the groups that begin to wait are counted
  coming_counted : AreChanges (outline_of q job) h.worker log (with_took log (Packet h.stage b t)) (packet_taken_at h.stage t ns)
  coming_counted = packet_taken (outline_of q job) h.worker log sound h.stage b t ns more

-- the same of the host of a stage
pub packet_changes : {Cell : Type 0} (q : QueryFacts Cell) (job : JobFacts) → OutlineIsSound (outline_of q job) → (w : ℕ) (log : Log) (j : ℕ) (h : Hosted Cell) → IsHostAt q job w log j h
    → (b t : ℕ) (s : BinContent Cell) (ns : List (ℕ × ℕ))
    → StandsInOrder q job h
    → LogIsLegal (outline_of q job) w log
    → IsOwedTo (outline_of q job) w (Packet j b t)
    → has log.took (Packet j b t) ≡ false
    → IsStateBefore q job j b t s
    → AreNumbersOf (not_waiting h s) ns
    → AreChanges (outline_of q job) w log (with_took log (Packet j b t)) (packet_taken_at j t ns)
packet_changes q job sound w log j h at b t s ns denotes legal owed fresh state told =
    let o = outline_of q job in
    let below = (move_in_shape o sound j b t owed.0).0 in
    let its_log = subst (λ (v : ℕ). LogIsLegal o v log) (sym at.1) legal in
    let its_owed = subst (λ (v : ℕ). IsOwedTo o v (Packet h.stage b t)) (sym at.1) (subst (λ (i : ℕ). IsOwedTo o w (Packet i b t)) (sym at.0) owed) in
    let its_fresh = subst (λ (i : ℕ). has log.took (Packet i b t) ≡ false) (sym at.0) fresh in
    let its_state = subst (λ (i : ℕ). IsStateBefore q job i b t s) (sym at.0) state in
    let counted = coming_counted q job sound log h b t s ns denotes at.2 its_log (subst (λ (i : ℕ). i < job.shape.stages) (sym at.0) below) its_owed its_fresh its_state told in
    subst (λ (v : ℕ). AreChanges o v log (with_took log (Packet j b t)) (packet_taken_at j t ns)) at.1 (subst (λ (i : ℕ). AreChanges o h.worker log (with_took log (Packet i b t)) (packet_taken_at i t ns)) at.0 counted)

-- and the host holds it
pub packet_held : {Cell : Type 0} (q : QueryFacts Cell) (job : JobFacts) (w : ℕ) (log : Log) (j : ℕ) (h : Hosted Cell) → IsHostAt q job w log j h
    → (b t : ℕ) (s : BinContent Cell) (new : Hosted Cell)
    → LogIsLegal (outline_of q job) w log
    → IsOwedTo (outline_of q job) w (Packet j b t)
    → has log.took (Packet j b t) ≡ false
    → IsPutIn (brought b t s) h new
    → ((l : Log) → TakesPacket q job l b t s h new)
    → IsHostAt q job w (with_took log (Packet j b t)) j new
packet_held q job w log j h at b t s new legal owed fresh put takes =
    let o = outline_of q job in
    let its_log = subst (λ (v : ℕ). LogIsLegal o v log) (sym at.1) legal in
    let its_owed = subst (λ (v : ℕ). IsOwedTo o v (Packet h.stage b t)) (sym at.1) (subst (λ (i : ℕ). IsOwedTo o w (Packet i b t)) (sym at.0) owed) in
    let its_fresh = subst (λ (i : ℕ). has log.took (Packet i b t) ≡ false) (sym at.0) fresh in
    let holds = takes log at.2 its_log its_owed its_fresh in
    (put.stage ∙ at.0, put.worker ∙ at.1, subst (λ (i : ℕ). IsHostOf q job (with_took log (Packet i b t)) new) at.0 holds)

-- the changes that are listed: one, and one for each number
pub taken_length : (j t : ℕ) (ns : List (ℕ × ℕ)) → length (packet_taken_at j t ns) ≡ length ns + 1
taken_length j t ns =
    let f : ℕ × ℕ → Change = λ n. change_at (Host j) n.0 (pos n.1) in
    let l = length-map ns f in
    omega arith
