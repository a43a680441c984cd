-- A state shows the world in which nothing is done.
use Rattle.std.proofs.Common.{◌≡◌, ℕ, zero, suc, ◌<◌, ◌≤◌, ◌&&◌, ◌==◌, Bool, true, false, cond, List, [], ◌∷◌, length, filter, get_or, replicate, Some, ℤ, pos, refl, sym, ap, ◌∙◌, subst, arith}
use Rattle.std.proofs.Math.Path.{fun_ext}
use Rattle.std.proofs.lemmas.Bool.{false≢true}
use Rattle.std.proofs.lemmas.Option.{slice_get-get_or, slice_get_within}
use Rattle.std.proofs.lemmas.List.Sums.{get_or-le-sum_by}
use Rattle.std.proofs.lemmas.List.{length-replicate, get_or-replicate}
use Rattle.std.specs.List.{slice_get}
use Rattle.std.specs.Prelude.{All, Contains}
use Rattle.mp_names.specs.declared.names.Name.{Name}
use Rattle.mp_names.specs.declared.names.Name.TheVariants.{Rec}
use Rattle.mp_names.specs.declared.kinds.Kind.{Kind}
use Rattle.mp_names.specs.declared.kinds.Kind.TheVariants.{Ingest, SendControl, Route, Receive, Extract, Settle, Apply, SendRow, Write, Exchange}
use Rattle.mp_names.specs.declared.locations.Loc.{Loc}
use Rattle.mp_names.specs.Names.{In, is_rec, ascending}
use Rattle.mp_names.specs.Limits.{most_stages}
use Rattle.mp_names.specs.Locations.{IsLocation}
use Rattle.mp_names.specs.Frontiers.{IsFrontierOf, is_held}
use Rattle.mp_names.specs.Outlines.{Outline, OutlineIsSound, receiver}
use Rattle.mp_names.specs.Logs.{empty_log}
use Rattle.mp_names.proofs.Lists.{In_here, In_later}
use Rattle.mp_names.proofs.Orders.{In_ascending}
use Rattle.mp_machine.specs.Worlds.{posted_logs, start_of_machine}
use Rattle.mp_player_laws.specs.WorkLeft.{work_left}
use Rattle.mp_player_laws.proofs.Remaining.{shows_frontier}
use Rattle.mp_player_laws.specs.Numbers.{numbers_of}
use Rattle.mp_player_laws.proofs.Exchanging.{start_legal}
use Rattle.mp_stamps.specs.Counts.{CountTable}
use Rattle.mp_stamps.specs.Seen.{seen_at}
use Rattle.mp_stamps.specs.declared.seen.Seen.{Seen}
use Rattle.mp_chart.specs.declared.work.Work.{Work}
use Rattle.mp_chart.specs.Left.{IsWorkOf, left_in, part_at, work_at}
use Rattle.mp_chart.proofs.Parts.{is_here}
use Rattle.mp_chart.specs.declared.entry.Entry.{Entry}
use Rattle.mp_chart.specs.Entries.{entries_of}
use Rattle.mp_chart.specs.Lists.{number_at}
use Rattle.mp_standing.specs.declared.message.Message.{Message}
use Rattle.mp_standing.specs.Boxes.{box_of}
use Rattle.mp_standing.specs.Messages.{AreMessagesOf}
use Rattle.mp_standing.specs.declared.standing.Standing.{Standing}
use Rattle.mp_standing.specs.Standings.{Stands, AreHeld}
use Rattle.mp_player.specs.declared.state.State.{State}
use Rattle.mp_player.specs.Shows.{Shows, IsMailOf}
use Rattle.mp_audit_player.specs.Starting.{IsAtStart}

-- of a list of one thing that thing, or the default
of_replicate : {X : Type 0} (P : X → Type 0) (n : ℕ) (x d : X) (k : ℕ) → P x → P d → P (get_or (replicate n x) k d)
of_replicate P zero x d k p q = q
of_replicate P (suc n) x d zero p q = p
of_replicate P (suc n) x d (suc k) p q = of_replicate P n x d k p q

-- all work is at times and locations of the job
pub work_is : (o : Outline) (stages : ℕ) (times : List ℕ) (works : List Work) → stages ≡ o.stages → ((a : Loc) (t : ℕ) → 0 < work_left o (λ w. empty_log) a t → Contains times t) → ((a : Loc) (t : ℕ) → work_at a t works ≡ work_left o (λ w. empty_log) a t) → All (λ work. IsLocation o.stages work.loc) works → All (λ (work : Work). 0 < work.count) works → All (IsWorkOf stages times) works
work_is o stages times works same has all there some = λ k d l.
    let work = get_or works k d in
    let part : part_at work.loc work.time work ≡ work.count = ap (λ (b : Bool). cond b work.count 0) (is_here work) in
    let within = get_or-le-sum_by (part_at work.loc work.time) works k d l in
    let is = all work.loc work.time in
    let one = some k d l in
    (subst (λ (n : ℕ). IsLocation n work.loc) (sym same) (there k d l), has work.loc work.time (omega arith))

abbrev Shown : CountTable → Loc → ℕ → ℤ
Shown counts a t = pos (left_in counts a t)

abbrev AllWork : Outline → Loc → ℕ → ℤ
AllWork o a t = pos (work_left o (λ w. empty_log) a t)

-- the frontiers of all work
pub seen_shown : (o : Outline) (counts : CountTable) (stages : ℕ) (seen : Seen) → stages ≡ o.stages → ((a : Loc) (t : ℕ) → left_in counts a t ≡ work_left o (λ w. empty_log) a t) → ((at : Loc) → IsLocation stages at → IsFrontierOf (λ a t. pos (left_in counts a t)) at (seen_at seen at)) → (at : Loc) → IsLocation o.stages at → IsFrontierOf (λ a t. pos (work_left o (λ w. empty_log) a t)) at (seen_at seen at)
seen_shown o counts stages seen same left shown at l =
    let alike : Shown counts ≡ AllWork o = fun_ext (λ a. fun_ext (λ t. ap pos (left a t))) in
    subst (λ (c : Loc → ℕ → ℤ). IsFrontierOf c at (seen_at seen at)) alike (shown at (subst (λ (n : ℕ). IsLocation n at) (sym same) l))

-- nothing is held

none_held_there : (o : Outline) (w j v : ℕ) (xs : List Name) → ((y : Name) → In y xs → is_rec j y ≡ true) → filter (λ y. is_held o w empty_log y && receiver o y == v) xs ≡ []
none_held_there o w j v [] are = refl
none_held_there o w j v (x ∷ xs) are =
    ap (λ (b : Bool). cond (b && receiver o x == v) (x ∷ filter (λ y. is_held o w empty_log y && receiver o y == v) xs) (filter (λ y. is_held o w empty_log y && receiver o y == v) xs)) (not_held x (are x (In_here x xs)))
    ∙ none_held_there o w j v xs (λ y i. are y (In_later y x xs i))
  where
    not_held : (y : Name) → is_rec j y ≡ true → is_held o w empty_log y ≡ false
    not_held (Rec zero t k g) is = refl
    not_held (Rec (suc i) t k g) is = refl
    not_held _ is = absurd (false≢true is)

pub none_are_held : (o : Outline) → OutlineIsSound o → (w j : ℕ) → AreHeld o w empty_log j (replicate o.workers [])
none_are_held o ok w j =
    record {
      receivers = length-replicate o.workers [];
      records = λ v l. get_or-replicate o.workers v [] [] l ∙ ap (entries_of o) (sym (none_held_there o w j v (ascending (o.records j)) (λ y i. (ok.records_are j y (In_ascending y (o.records j) i)).1)));
    }

nothing_done : (kind : Kind) → number_at (numbers_of empty_log) kind ≡ 0
nothing_done Ingest = refl
nothing_done SendControl = refl
nothing_done (Route j) = refl
nothing_done (Receive v) = refl
nothing_done (Extract j) = refl
nothing_done (Settle j) = refl
nothing_done (Apply j) = refl
nothing_done SendRow = refl
nothing_done Write = refl
nothing_done Exchange = refl

module _ (o : Outline) (ok : OutlineIsSound o) (stages : ℕ) (same : stages ≡ o.stages) (few : o.stages ≤ most_stages) (seen : Seen) (of : seen.stages ≡ o.stages) (first : seen.version ≡ 0) (shown : (at : Loc) → IsLocation o.stages at → IsFrontierOf (λ a t. pos (work_left o (λ w. empty_log) a t)) at (seen_at seen at)) where
  stands_at_start : (w : ℕ) (s : Standing) → IsAtStart o.workers stages seen s → Stands o w s ((start_of_machine o).worker w)
  stands_at_start w s is =
      record {
        done = λ kind fits. is.done kind ∙ sym (nothing_done kind);
        few = few;
        stages = ap length is.held ∙ length-replicate stages (replicate o.workers []) ∙ same;
        held = λ j low. subst (AreHeld o w empty_log j) (sym (ap (λ (l : List (List (List Entry))). get_or l j []) is.held ∙ get_or-replicate stages j (replicate o.workers []) [] (omega arith))) (none_are_held o ok w j);
        seen_stages = ap (λ (k : Seen). k.stages) is.seen_is ∙ of;
        seen = λ at l. ap (λ (k : Seen). seen_at k at) is.seen_is ∙ shows_frontier o ok (posted_logs (start_of_machine o)) at (start_legal o ok) (seen_at seen at) (shown at l);
        version = ap (λ (k : Seen). k.version) is.seen_is ∙ first;
        changed = ((λ t e. false≢true (sym is.changed ∙ t)), (λ n. absurd (n refl)));
        since = λ a t. let none = ap (work_at a t) is.since in omega arith;
      }

  pub shows_start :
      (depth : ℕ) (state : State)
      → length state.standings.items ≡ o.workers
      → All (IsAtStart o.workers stages seen) state.standings.items
      → state.mail ≡ replicate o.workers (replicate o.workers [])
      → state.left.stages ≡ o.stages
      → ((a : Loc) (t : ℕ) → left_in state.left.counts a t ≡ work_left o (λ w. empty_log) a t)
      → state.version ≡ 0
      → Shows o depth state (start_of_machine o)
  shows_start depth state long each mail stages_are left version =
      record {
        reached = record { sound = ok; steps = []; run = refl };
        workers = long;
        each = λ w s there. stands_at_start w s (at_place w s there);
        mail_of =
            subst (IsMailOf o.workers) (sym mail)
            (record {
              senders = length-replicate o.workers (replicate o.workers []);
              receivers = λ v l. ap length (get_or-replicate o.workers v (replicate o.workers []) [] l) ∙ length-replicate o.workers [];
            });
        mail = λ v w. subst (λ (m : List (List (List Message))). AreMessagesOf o (box_of m v w) []) (sym mail) (no_mail v w);
        stages = stages_are;
        left = left;
        version = version;
      }
    where
      at_place : (w : ℕ) (s : Standing) → slice_get state.standings.items w ≡ Some s → IsAtStart o.workers stages seen s
      at_place w s there =
          let l = slice_get_within state.standings.items w s there in
          let same_one : get_or state.standings.items w s ≡ s = let a = slice_get-get_or state.standings.items w s l in cc in
          subst (IsAtStart o.workers stages seen) same_one (each w s l)

      no_mail : (v w : ℕ) → AreMessagesOf o (box_of (replicate o.workers (replicate o.workers [])) v w) []
      no_mail v w =
          of_replicate (λ (row : List (List Message)). AreMessagesOf o (get_or row w []) []) o.workers (replicate o.workers []) [] v
          (of_replicate (λ (ms : List Message). AreMessagesOf o ms []) o.workers [] [] w tt tt)
          tt
