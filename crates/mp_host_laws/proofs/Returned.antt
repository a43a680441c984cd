-- A host that gets back what was taken out of it holds what it held.
use Rattle.std.proofs.Common.{◌≡◌, ℕ, List, [], ◌∷◌, ◌++◌, Contains, ap, ◌∙◌, subst, ⊎_elim}
use Rattle.std.proofs.lemmas.List.Elements.{All-contains, Contains-append_left, Contains-push, Contains-push_cases}
use Rattle.mp_names.specs.Logs.{Log}
use Rattle.mp_model.specs.Facts.{JobFacts, QueryFacts}
use Rattle.mp_outline.proofs.Pairs.{AllPairs-Pairs, Pairs}
use Rattle.mp_host_laws.specs.declared.held.Held.{Held}
use Rattle.mp_host_laws.specs.Hosted.{Hosted}
use Rattle.mp_host_laws.specs.Moving.{IsPutIn, IsTakenOut, last_first}
use Rattle.mp_host_laws.specs.HostOf.{IsHostOf, IsStateOf}
use Rattle.mp_host_laws.specs.Laws.{BinsReturn}
use Rattle.mp_host_laws.proofs.Changed.{Contains-one}
use Rattle.mp_host_laws.proofs.LastFirst.{still_apart, still_in, was_in}
use Rattle.mp_host_laws.proofs.Lists.{All-each}
use Rattle.mp_host_laws.proofs.Parts.{Any-among, Pairs-one, Pairs-others, Pairs-push, one_or_other, other_is_in}
use Rattle.mp_host_laws.proofs.Holding.{apart_turn, AreApart, by_parts, IsSince}

module _ {Cell : Type 0} (q : QueryFacts Cell) (job : JobFacts) (log : Log) (b t : ℕ) (one : Held Cell) (old between new : Hosted Cell)
    (host : IsHostOf q job log old) (taken : IsTakenOut b t one old between) (put : IsPutIn one between new) where
  abbrev others : List (Held Cell)
  others = taken.front ++ last_first taken.rest

  put_was_there : (s : Held Cell) → Contains (others ++ one ∷ []) s → Contains old.held s
  put_was_there s i =
      was_in taken.front one taken.rest old.held taken.was s
      (⊎_elim
      (λ (k : Contains others s). other_is_in one taken.front (last_first taken.rest) s k)
      (λ (e : one ≡ s). subst (λ (r : Held Cell). Contains (taken.front ++ one ∷ last_first taken.rest) r) e (Contains-one taken.front one one (last_first taken.rest)))
      (Contains-push_cases others one s i))

  there_is_put : (s : Held Cell) → Contains old.held s → Contains (others ++ one ∷ []) s
  there_is_put s i =
      ⊎_elim
      (λ (e : one ≡ s). subst (λ (r : Held Cell). Contains (others ++ one ∷ []) r) e (Contains-push others one))
      (λ (k : Contains others s). Contains-append_left others (one ∷ []) s k)
      (one_or_other one taken.front (last_first taken.rest) s (still_in taken.front one taken.rest old.held taken.was s i))

  put_apart : Pairs AreApart (others ++ one ∷ [])
  put_apart =
      let were = still_apart taken.front one taken.rest old.held taken.was AreApart apart_turn host.held_once in
      Pairs-push AreApart others one (Pairs-others AreApart one taken.front (last_first taken.rest) were) (λ s i. apart_turn one s (Pairs-one AreApart apart_turn one taken.front (last_first taken.rest) were s i))

  pub bin_returned : IsHostOf q job log new
  bin_returned =
      let same : new.held ≡ others ++ one ∷ [] = put.held ∙ ap (λ (hs : List (Held Cell)). hs ++ one ∷ []) taken.is in
      by_parts (IsHostOf q job log) new old.stage old.worker old.records (others ++ one ∷ []) (put.stage ∙ taken.stage) (put.worker ∙ taken.worker) (put.records ∙ taken.records) same
      (record {
        moves = host.moves;
        records = host.records;
        once = host.once;
        held = λ c a. (
          (λ i. (host.held c a).0 (Any-among (IsSince c a) (others ++ one ∷ []) old.held put_was_there i)),
          (λ i. Any-among (IsSince c a) old.held (others ++ one ∷ []) there_is_put ((host.held c a).1 i)),
        );
        held_once = AllPairs-Pairs AreApart (others ++ one ∷ []) put_apart;
        states = All-each (IsStateOf q job log old.stage) (others ++ one ∷ []) (λ s i. All-contains (IsStateOf q job log old.stage) old.held s host.states (put_was_there s i));
      })

module _ {Cell : Type 0} (q : QueryFacts Cell) (job : JobFacts) where
  pub bins_return : BinsReturn q job
  bins_return log b t one old between new host taken put = bin_returned q job log b t one old between new host taken put
