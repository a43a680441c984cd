-- A worker stays at its ends and at its seat.
use Rattle.std.proofs.Common.{◌≡◌, ◌≤◌, ◌==◌, ℕ, Bool, true, false, cond, List, [], length, Option, None, Some, Ok, Err, refl, sym, ap, ◌∙◌, subst, arith}
use Rattle.std.specs.Prelude.{is_some}
use Rattle.std.specs.Option.{unwrap_or}
use Rattle.std.specs.declared.result.Result.{Result}
use Rattle.mp_names.specs.declared.kinds.Kept.{Kept}
use Rattle.mp_names.specs.declared.kinds.Kind.{Kind}
use Rattle.mp_names.specs.declared.names.Name.{Name}
use Rattle.mp_names.specs.Logs.{Log, LogGrows, empty_log}
use Rattle.mp_names.specs.Outlines.{Outline}
use Rattle.mp_names.proofs.Grows.{grows_refl}
use Rattle.mp_ruled.specs.Posts.{PostState}
use Rattle.mp_seat.specs.Seats.{SeatState}
use Rattle.mp_worker_refinement.specs.Ends.{popped_by, pushed_by}
use Rattle.mp_worker_refinement.specs.State.{WorkerState}
use Rattle.mp_worker.specs.Below.{Stop}
use Rattle.mp_worker.specs.Below.stop
use Rattle.mp_worker.specs.Below.{Turn}
use Rattle.mp_worker.specs.Below.turn
use Rattle.mp_worker.specs.Below.{steps_after}
use Rattle.mp_worker.specs.Turns.{Answers}
use Rattle.mp_threads_hub.specs.Hubs.{HasLooked, IsSeatOf, own_row}
use Rattle.mp_threads_member.specs.Members.{IsAtEnds, IsAtSeat, IsMember, MailFollows, MemberState, ends_denote}

same_either : (b : Bool) (xs : List Name) → cond b xs xs ≡ xs
same_either true xs = refl
same_either false xs = refl

-- a worker that has done nothing is at its ends, where nothing went through the mailboxes
pub new_at_ends : (o : Outline) (w : ℕ) (log : Log) (post : PostState (List Name)) → log ≡ empty_log → post.worker ≡ w → length post.senders ≡ o.workers → ((from to : ℕ) → ends_denote post from to [] []) → IsAtEnds o w log post
new_at_ends o w log post is worker all none = subst (λ (l : Log). IsAtEnds o w l post) (sym is) (record {
  all_workers = all;
  served = sym worker;
  ends = λ a b la lb e.
      let pushed : pushed_by o w empty_log a b [] ≡ [] = same_either (a == w) [] in
      let popped : popped_by o w empty_log a b [] ≡ [] = same_either (b == w) [] in (
        [],
        [],
        subst (λ (xs : List Name). ends_denote post a b xs (popped_by o w empty_log a b [])) (sym pushed)
            (subst (λ (ys : List Name). ends_denote post a b [] ys) (sym popped) (none a b)),
      );
})

-- and at its seat, which has the empty log
pub new_at_seat : (o : Outline) (s : WorkerState) (seat : SeatState Log) → s.log ≡ empty_log → s.posted ≡ empty_log → IsSeatOf o seat s.number → seat.row ≡ Some empty_log → s.seen.version ≤ seat.version → IsAtSeat o s seat
new_at_seat o s seat log posted of_seat row later = record {
  served = of_seat;
  has_posted = ap (λ (r : Option Log). unwrap_or r empty_log) row ∙ sym posted;
  grows = subst (λ (l : Log). LogGrows l s.log) (log ∙ sym posted) (grows_refl s.log);
  later = later;
}

-- a step leaves the worker's number
pub number_stays : (had_room was_full was_empty : ℕ → ℕ → Type 0) (o : Outline) (kind : Kind) (old new : WorkerState) (r : Result Turn Stop)
    → Answers had_room was_full was_empty o kind old new r → new.number ≡ old.number
number_stays f g h o kind old new (Ok (turn.Did x n)) says = ap (λ (s : WorkerState). s.number) says.makes.after
number_stays f g h o kind old new (Ok (turn.Seen version)) says = ap (λ (s : WorkerState). s.number) says.1.after
number_stays f g h o kind old new (Ok turn.NotNow) says = ap (λ (s : WorkerState). s.number) says.1
number_stays f g h o kind old new (Ok turn.Busy) says = ap (λ (s : WorkerState). s.number) says.1
number_stays f g h o kind old new (Err stop.Write) says = ap (λ (s : WorkerState). s.number) says.1
number_stays f g h o kind old new (Err stop.Memory) says = ap (λ (s : WorkerState). s.number) says
number_stays f g h o kind old new (Err (stop.Other cause)) says = ap (λ (s : WorkerState). s.number) says.1

-- and whether it keeps its steps
pub keeps_on : (steps : Option (List Kept)) (kind : Kind) (r : Result Turn Stop) → is_some (steps_after steps kind r) ≡ is_some steps
keeps_on None kind (Ok (turn.Did x n)) = refl
keeps_on (Some kept) kind (Ok (turn.Did x n)) = refl
keeps_on None kind (Ok (turn.Seen version)) = refl
keeps_on (Some kept) kind (Ok (turn.Seen version)) = refl
keeps_on steps kind (Ok turn.NotNow) = refl
keeps_on steps kind (Ok turn.Busy) = refl
keeps_on steps kind (Err stop) = refl

-- where the mail followed its log, the worker is at its ends after the step
pub member_stays : (o : Outline) (old new : MemberState) → IsMember o old → new.worker.number ≡ old.worker.number → MailFollows o old new → IsAtSeat o new.worker new.hub → IsMember o new
member_stays o old new was number mail hub = record {
  post = subst (λ (n : ℕ). IsAtEnds o n new.worker.log new.post) (sym number) (record {
    all_workers = mail.keeps.same_workers ∙ was.post.all_workers;
    served = mail.keeps.same_ends old.worker.number was.post.served;
    ends = λ a b la lb e. let h = was.post.ends a b la lb e in (h.0, h.1, mail.follows a b h.0 h.1 la lb h.2);
  });
  hub = hub;
}

-- a seat that put the board back with the logs that it found is as good as it was
pub looked_on : (o : Outline) (s : WorkerState) (seat later : SeatState Log) → IsAtSeat o s seat → HasLooked seat later → IsAtSeat o s later
looked_on o s seat later at looked =
    let now = looked.1 in
    let before = at.later in
    record {
      served = (at.served.0 ∙ sym (ap (λ (h : SeatState Log). h.number) looked.0), ap (λ (h : SeatState Log). h.seats) looked.0 ∙ at.served.1);
      has_posted = ap own_row looked.0 ∙ at.has_posted;
      grows = at.grows;
      later = omega arith;
    }
