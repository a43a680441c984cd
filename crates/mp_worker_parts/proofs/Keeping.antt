-- What a worker keeps to where its parts are others, and what its parts say of its steps.
use Rattle.std.proofs.Common.{◌≡◌, ◌<◌, ℕ, List, [], ◌∷◌, Err, IfNone, None, Ok, OnOk, Option, Result, Some, ap, get_or, length, refl, slice_get, subst, sym, ◌∙◌}
use Rattle.mp_names.specs.declared.kinds.Kept.{Kept}
use Rattle.mp_names.specs.declared.kinds.Kind.{Kind}
use Rattle.mp_names.specs.declared.kinds.Kind.TheVariants.{Receive}
use Rattle.mp_names.specs.declared.names.Name.{Name}
use Rattle.mp_names.specs.Logs.{Log}
use Rattle.mp_names.specs.Names.{In}
use Rattle.mp_names.specs.Outlines.{Outline, sender}
use Rattle.mp_machine.specs.Steps.{AreNamesOf, KindFits, logged}
use Rattle.mp_model.specs.Facts.{JobFacts, QueryFacts}
use Rattle.mp_job.proofs.Runs.{run_controls, run_shape}
use Rattle.mp_outline.specs.JobOutline.{outline_of}
use Rattle.mp_rows.specs.WorkerLog.{WorkerLog}
use Rattle.mp_msg.specs.declared.names.Names.{Names}
use Rattle.mp_worker_invariant.specs.Laws.{CanDo}
use Rattle.mp_worker_invariant.specs.Parts.{ArePartsOf, Parts}
use Rattle.mp_worker_refinement.specs.State.{CanMake, Makes, WorkerState, kept_with}
use Rattle.mp_worker_refinement.specs.Steps.{MakesAlone, MakesByMail, Tells}
use Rattle.mp_output.specs.Unwritten.{Unwritten}
use Rattle.mp_worker_parts.specs.declared.lists.ChangeLists.{ChangeLists}
use Rattle.mp_worker_parts.specs.Contents.{Contents, with_taken}
use Rattle.mp_worker_parts.specs.Kept.{IsKept}
use Rattle.std.specs.Result.{IsOk}
use Rattle.std.proofs.lemmas.Bool.{false≢true}
use Rattle.std.proofs.lemmas.Option.{slice_get-get_or}
use Rattle.mp_host_laws.specs.Hosted.{Hosted}

module _ {Cell : Type 0} {q : QueryFacts Cell} {job its : JobFacts} {p : Parts Cell} (kept : IsKept q job its p) where
  -- its job has the shape and the control records of the run
  pub its_shape : its.shape ≡ job.shape
  its_shape = run_shape its job kept.run

  pub its_controls : its.controls ≡ job.controls
  its_controls = run_controls its job kept.run

  -- a worker with other parts that hold what its log says
  pub kept_as : {made : Parts Cell} → ArePartsOf q job made → IsKept q job its made
  kept_as are = record { run = kept.run; legal = kept.legal; rows = kept.rows; sound = kept.sound; hands_on = kept.hands_on; parts = are }

  -- where the parts hold what these names say, a worker whose log has them keeps to what it is to
  pub kept_by : (new : WorkerLog) {made : Parts Cell} → new.worker ≡ made.number → new.log ≡ made.log → ArePartsOf q job made → IsKept q job its (record made { number = new.worker; log = new.log })
  kept_by new e f are = kept_as (rw (e, f) are)

-- what follows from what holds on `None`
pub on_none : {A : Type 0} (o : Option A) {P Q : Type 0} → IfNone o P → (P → Q) → IfNone o Q
on_none None p f = f p
on_none (Some a) p f = tt

-- and from what holds on `Ok`
pub on_ok : {A E : Type 0} (r : Result A E) {P Q : Type 0} → OnOk r P → (P → Q) → OnOk r Q
on_ok (Ok a) p f = f p
on_ok (Err e) p f = tt

-- the worker as contracts see it
abbrev pub state : {Cell : Type 0} → Parts Cell → WorkerState
state p = record { number = p.number; log = p.log; posted = p.posted; seen = p.seen; steps = None }

-- the parts as contracts see them
abbrev pub contents : {Cell : Type 0} → Parts Cell → ℕ → ℕ → Unwritten → Unwritten → ChangeLists → Contents Cell
contents p names changes unsent unwritten lists =
    record { worker = state p; names = names; changes = changes; notes = p.notes; routers = p.routers; hosts = p.hosts; movers = p.movers; unsent = unsent; unwritten = unwritten; lists = lists }

module _ {Cell : Type 0} {q : QueryFacts Cell} {job its : JobFacts} {p : Parts Cell} (kept : IsKept q job its p) (kind : Kind) (x : Name) where
  pub can_make : KindFits (outline_of q job) kind → CanDo q job p kind x → CanMake (outline_of q job) kind (state p) x
  can_make fits can = record { fits = fits; next = can.0; ready = can.1 }

  pub can_do : CanMake (outline_of q job) kind (state p) x → CanDo q job p kind x
  can_do can = (can.next, can.ready)

  -- the step was made with these names
  pub makes_all : KindFits (outline_of q job) kind → CanDo q job p kind x → (xs : List Name) → AreNamesOf (outline_of q job) p.number p.log kind x xs → (l : Log) → l ≡ logged kind p.log xs
      → Makes (outline_of q job) kind (state p) xs (record { number = p.number; log = l; posted = p.posted; seen = p.seen; steps = None })
  makes_all fits can xs are l is = record { first = x; can = can_make fits can; names = are; after = rw is refl }

  -- or with one alone
  pub makes : KindFits (outline_of q job) kind → CanDo q job p kind x → AreNamesOf (outline_of q job) p.number p.log kind x (x ∷ []) → (l : Log) → l ≡ logged kind p.log (x ∷ [])
      → MakesAlone (outline_of q job) kind (state p) (record { number = p.number; log = l; posted = p.posted; seen = p.seen; steps = None }) (record { first = x; count = 1 })
  makes fits can are l is = record { names = x ∷ []; tells = record { first = refl; count = refl }; makes = makes_all fits can (x ∷ []) are l is }

-- where no steps are kept, none are after one more
none_kept : (kind : Kind) (steps : Option (List Kept)) → steps ≡ None → steps ≡ kept_with steps kind 0
none_kept kind steps none = subst (λ (k : Option (List Kept)). k ≡ kept_with k kind 0) (sym none) refl

-- a step that can be made was made with its one name, by a worker that keeps no steps
pub made_alone : {o : Outline} {kind : Kind} {s : WorkerState} {x : Name} → s.steps ≡ None → CanMake o kind s x → AreNamesOf o s.number s.log kind x (x ∷ []) → (l : Log) → l ≡ logged kind s.log (x ∷ []) → MakesAlone o kind s (record s { log = l }) (record { first = x; count = 1 })
made_alone {kind = kind} {s = s} {x = x} none can are l is = record {
  names = x ∷ [];
  tells = record { first = refl; count = refl };
  makes = record { first = x; can = can; names = are; after = ap (λ (m : Log × Option (List Kept)). record s { log = m.0; steps = m.1 }) (λ i. (is i, none_kept kind s.steps none i)) };
}

-- a message that begins with a name may be taken, and its names put into the log, by a worker that keeps no steps
pub received : (o : Outline) (s : WorkerState) (v : ℕ) → s.steps ≡ None → v < o.workers → (xs : List Name) (told : Names) → Tells told xs → (had_room was_full was_empty : ℕ → ℕ → Type 0) → ((x : Name) → In x xs → sender o x ≡ v)
    → MakesByMail had_room was_full was_empty o (Receive v) s (with_taken xs s) told
received o s v keeps fits [] told tells had_room was_full was_empty sends = absurd (none tells.first)
  where
    none : None ≡ Some told.first → ⊥
    none e = cc
received o s v keeps fits (x ∷ xs) told tells had_room was_full was_empty sends = record {
  names = x ∷ xs;
  tells = tells;
  makes = record { first = x; can = record { fits = fits; next = tt; ready = tt }; names = (xs, refl); after = ap (λ (k : Option (List Kept)). record (with_taken (x ∷ xs) s) { steps = k }) (none_kept (Receive v) s.steps keeps) };
  allows = sends;
}

-- a call that is never refused has an answer
pub not_refused : {A E : Type 0} (r : Result A E) → IsOk r → ((a : A) → r ≡ Ok a → ⊥) → ⊥
not_refused (Ok a) ok none = none a refl
not_refused (Err e) ok none = false≢true ok

-- the host that is found is the one that stands there
pub same_host_there : {Cell : Type 0} (hosts : List (Hosted Cell)) (j : ℕ) (here h : Hosted Cell) → j < length hosts → here ≡ get_or hosts j here → slice_get hosts j ≡ Some h → h ≡ here
same_host_there {Cell} hosts j here h inside is at =
    let found : slice_get hosts j ≡ Some here = slice_get-get_or hosts j here inside ∙ ap (λ (y : Hosted Cell). Some y) (sym is) in
    cc
