-- A log that grows keeps what was so of it.
use Rattle.std.proofs.Common.{◌≡◌, ℕ, zero, suc, ◌-◌, ◌<◌, Bool, true, false, cond, List, [], ◌∷◌, ◌++◌, filter, refl, sym, subst, inl, inr, ⊎_elim, append-nil}
use Rattle.std.proofs.lemmas.Bool.{false≢true}
use Rattle.std.proofs.lemmas.List.Elements.{filter-append}
use Rattle.mp_names.specs.declared.names.Name.{Name}
use Rattle.mp_names.specs.declared.names.Name.TheVariants.{Ctrl, Rec, Packet, Row, Group, Settled}
use Rattle.mp_names.specs.declared.locations.Loc.{Loc}
use Rattle.mp_names.specs.declared.locations.Loc.TheVariants.{Ctl, CtlMail, Source, Route, Mail, Move, State, Host, OutRoute, OutMail}
use Rattle.mp_names.specs.Names.{In, IsPrefix}
use Rattle.mp_names.specs.Outlines.{Outline, IsMove}
use Rattle.mp_names.specs.Logs.{Log, LogGrows, is_given, InHandBefore, IsGiven, IsReadyGroup}
use Rattle.mp_names.specs.Frontiers.{IsDoneBy, IsClosedForOne}
use Rattle.mp_names.proofs.Lists.{In_prefix, prefix_refl, prefix_trans}

pub grows_refl : (log : Log) → LogGrows log log
grows_refl log =
    record { ingested = prefix_refl log.ingested; sent = prefix_refl log.sent; took = prefix_refl log.took; applied = prefix_refl log.applied; settled = prefix_refl log.settled }

pub grows_trans : (a b c : Log) → LogGrows a b → LogGrows b c → LogGrows a c
grows_trans a b c p q =
    record {
      ingested = prefix_trans a.ingested b.ingested c.ingested p.ingested q.ingested;
      sent = prefix_trans a.sent b.sent c.sent p.sent q.sent;
      took = prefix_trans a.took b.took c.took p.took q.took;
      applied = prefix_trans a.applied b.applied c.applied p.applied q.applied;
      settled = prefix_trans a.settled b.settled c.settled p.settled q.settled;
    }

module _ (o : Outline) (w : ℕ) (log new : Log) (g : LogGrows log new) where
  pub grown_given : (x : Name) → is_given o w log x ≡ true → is_given o w new x ≡ true
  grown_given (Ctrl i v) h = h
  grown_given (Rec zero t k a) h = In_prefix (Rec 0 t k a) log.ingested new.ingested g.ingested h
  grown_given (Rec (suc j) t k a) h = In_prefix (Group j t a.0) log.applied new.applied g.applied h
  grown_given (Row t a) h = In_prefix (Group (o.stages - 1) t a.0) log.applied new.applied g.applied h
  grown_given _ h = absurd (false≢true h)

  pub grown_in_hand : (j b t : ℕ) → InHandBefore o w log j b t → InHandBefore o w new j b t
  grown_in_hand j b t h = (
    h.0,
    ⊎_elim
        (λ (q : (m : ℕ) → m < t → IsMove o j b m → ⊥). inl q)
        (λ (q : (m : ℕ) × (m < t) × IsMove o j b m × ((n : ℕ) → m < n → n < t → IsMove o j b n → ⊥) × In (Packet j b m) log.took). inr (q.0, q.1, q.2, q.3, In_prefix (Packet j b q.0) log.took new.took g.took q.4))
        h.1,
  )

  pub grown_is_given : (x : Name) → IsGiven o w log x → IsGiven o w new x
  grown_is_given (Packet j b t) h = (grown_in_hand j b t h.0, (λ u k l e f i. In_prefix (Group j u k) log.applied new.applied g.applied (h.1 u k l e f i)))
  grown_is_given (Ctrl i v) h = grown_given (Ctrl i v) h
  grown_is_given (Rec j t k a) h = grown_given (Rec j t k a) h
  grown_is_given (Row t a) h = grown_given (Row t a) h
  grown_is_given _ h = absurd (false≢true h)

  pub grown_ready : (x : Name) → IsReadyGroup o w log x → IsReadyGroup o w new x
  grown_ready (Group j t k) h = (h.0, (λ a r. In_prefix (Rec j t k a) log.took new.took g.took (h.1 a r)), grown_in_hand j (o.bin_of k) (suc t) h.2)
  grown_ready _ h = absurd h

  pub grown_done : (a : Loc) (t : ℕ) → IsDoneBy o w log a t → IsDoneBy o w new a t
  grown_done Ctl t h = λ x d e f. In_prefix x log.sent new.sent g.sent (h x d e f)
  grown_done CtlMail t h = λ x d e f. In_prefix x log.took new.took g.took (h x d e f)
  grown_done Source t h = λ x i f. In_prefix x log.ingested new.ingested g.ingested (h x i f)
  grown_done (Route j) t h = λ x d e f. In_prefix x log.sent new.sent g.sent (h x d e f)
  grown_done (Mail j) t h = λ x d e f. In_prefix x log.took new.took g.took (h x d e f)
  grown_done (Move j) t h = ((λ c. In_prefix (Settled j t) log.settled new.settled g.settled (h.0 c)), (λ x d e f. In_prefix x log.sent new.sent g.sent (h.1 x d e f)))
  grown_done (State j) t h = λ x d e f. In_prefix x log.took new.took g.took (h x d e f)
  grown_done (Host j) t h = λ x i e f. In_prefix x log.applied new.applied g.applied (h x i e f)
  grown_done OutRoute t h = λ x d e f. In_prefix x log.sent new.sent g.sent (h x d e f)
  grown_done OutMail t h = λ x d e f. In_prefix x log.took new.took g.took (h x d e f)

  pub grown_closed : (at : Loc) (t : ℕ) → IsClosedForOne o w log at t → IsClosedForOne o w new at t
  grown_closed at t h = λ a u r l. grown_done a u (h a u r l)

-- a filter of a list with one more
pub prefix_filter_push : (p : Name → Bool) (xs ys : List Name) (x : Name) → IsPrefix (filter p xs) ys → (p x ≡ true → IsPrefix (filter p xs ++ x ∷ []) ys) → IsPrefix (filter p (xs ++ x ∷ [])) ys
prefix_filter_push p xs ys x h k = subst (λ (l : List Name). IsPrefix l ys) (sym (filter-append p xs (x ∷ []))) (pick (p x) k)
  where
    pick : (b : Bool) → (b ≡ true → IsPrefix (filter p xs ++ x ∷ []) ys) → IsPrefix (filter p xs ++ cond b (x ∷ []) []) ys
    pick true k = k refl
    pick false k = subst (λ (l : List Name). IsPrefix l ys) (sym (append-nil (filter p xs))) h
