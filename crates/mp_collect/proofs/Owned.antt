-- The states of all workers: each bin of each stage once.
use Rattle.std.proofs.Common.{◌≡◌, ◌≢◌, ◌↔◌, ◌⊎◌, ℕ, suc, ◌+◌, ◌<◌, ◌≤◌, List, [], ◌∷◌, ◌++◌, Some, Contains, length, map, slice_get, refl, subst, ⊎_elim, arith}
use Rattle.std.specs.List.{flat_map}
use Rattle.std.proofs.lemmas.List.Elements.{Contains-append_cases, Contains-append_left, Contains-append_right}
use Rattle.mp_names.specs.Outlines.{OutlineIsSound, owner_before}
use Rattle.mp_names.proofs.Owners.{owner_is_worker}
use Rattle.mp_model.specs.Facts.{JobFacts, QueryFacts}
use Rattle.mp_job.proofs.Members.{Contains-cases, Contains-here, Contains-later, nothing_in_nil}
use Rattle.mp_outline.specs.JobOutline.{outline_of}
use Rattle.mp_outline.proofs.Pairs.{Pairs, Pairs-append}
use Rattle.mp_restart_laws.proofs.OneWay.{AllPairs-to_Pairs}
use Rattle.mp_msg.specs.LastStates.{AreAllStates, AreStatesOf, end_time}
use Rattle.mp_msg.specs.States.{BinContent, IsStateBefore}

module _ {Cell : Type 0} (q : QueryFacts Cell) (job : JobFacts) where
  -- the state is of this stage, and is what the bin has at the end
  abbrev pub IsLast : ℕ × ℕ → ℕ × BinContent Cell → Type 0
  IsLast b s = (s.0 ≡ b.0) × IsStateBefore q job b.0 b.1 (end_time job) s.1

  -- beside each stage and bin its state
  abbrev pub AreLast : List (ℕ × ℕ) → List (ℕ × BinContent Cell) → Type 0
  AreLast [] [] = Unit {0}
  AreLast (b ∷ bs) (s ∷ ss) = IsLast b s × AreLast bs ss
  AreLast _ _ = ⊥

  abbrev Told : List (ℕ × ℕ) → List (ℕ × BinContent Cell) → Type 0
  Told bs ss = (i : ℕ) (b : ℕ × ℕ) (s : ℕ × BinContent Cell) → slice_get bs i ≡ Some b → slice_get ss i ≡ Some s → IsStateBefore q job b.0 b.1 (end_time job) s.1

  are_last : (bs : List (ℕ × ℕ)) (ss : List (ℕ × BinContent Cell)) → map (λ s. s.0) ss ≡ map (λ b. b.0) bs → Told bs ss → AreLast bs ss
  are_last [] [] e told = tt
  are_last (b ∷ bs) (s ∷ ss) e told =
      let first : s.0 ≡ b.0 = cc in
      let others : map (λ (r : ℕ × BinContent Cell). r.0) ss ≡ map (λ (c : ℕ × ℕ). c.0) bs = cc in
      ((first, told 0 b s refl refl), are_last bs ss others (λ i c r f g. told (suc i) c r f g))
  are_last [] (s ∷ ss) e told = absurd (cc)
  are_last (b ∷ bs) [] e told = absurd (cc)

  joined_last : (bs cs : List (ℕ × ℕ)) (ss us : List (ℕ × BinContent Cell)) → AreLast bs ss → AreLast cs us → AreLast (bs ++ cs) (ss ++ us)
  joined_last [] cs [] us h k = k
  joined_last (b ∷ bs) cs (s ∷ ss) us h k = (h.0, joined_last bs cs ss us h.1 k)
  joined_last [] cs (s ∷ ss) us h k = absurd h
  joined_last (b ∷ bs) cs [] us h k = absurd h

  -- each bin has its state there
  pub state_of_bin : (bs : List (ℕ × ℕ)) (ss : List (ℕ × BinContent Cell)) → AreLast bs ss → (b : ℕ × ℕ) → Contains bs b → (s : ℕ × BinContent Cell) × Contains ss s × IsLast b s
  state_of_bin [] ss h b i = absurd (nothing_in_nil b i)
  state_of_bin (c ∷ bs) [] h b i = absurd h
  state_of_bin (c ∷ bs) (s ∷ ss) h b i =
      ⊎_elim
      (λ (e : c ≡ b). (s, Contains-here s ss, subst (λ (d : ℕ × ℕ). IsLast d s) e h.0))
      (λ (j : Contains bs b). let a = state_of_bin bs ss h.1 b j in (a.0, Contains-later s a.0 ss a.1, a.2))
      (Contains-cases c b bs i)

  -- and each state is of a bin
  pub bin_of_state : (bs : List (ℕ × ℕ)) (ss : List (ℕ × BinContent Cell)) → AreLast bs ss → (s : ℕ × BinContent Cell) → Contains ss s → (b : ℕ × ℕ) × Contains bs b × IsLast b s
  bin_of_state bs [] h s i = absurd (nothing_in_nil s i)
  bin_of_state [] (r ∷ ss) h s i = absurd h
  bin_of_state (c ∷ bs) (r ∷ ss) h s i =
      ⊎_elim
      (λ (e : r ≡ s). (c, Contains-here c bs, subst (λ (u : ℕ × BinContent Cell). IsLast c u) e h.0))
      (λ (j : Contains ss s). let a = bin_of_state bs ss h.1 s j in (a.0, Contains-later c a.0 bs a.1, a.2))
      (Contains-cases r s ss i)

  -- Of several workers

  abbrev owner : ℕ → ℕ → ℕ
  owner j b = owner_before (outline_of q job) j b (end_time job)

  -- the stage has the bin, and one of so many workers from a number on owns it at the end
  abbrev IsOwnedFrom : ℕ → ℕ → ℕ × ℕ → Type 0
  IsOwnedFrom n count b = (b.0 < job.shape.stages) × (b.1 < job.shape.bins) × (n ≤ owner b.0 b.1) × (owner b.0 b.1 < n + count)

  record Joined (n : ℕ) (all : List (List (ℕ × BinContent Cell))) : Type 0 where
    bins : List (ℕ × ℕ)
    last : AreLast bins (flat_map (λ ss. ss) all)
    once : Pairs (λ a b. a ≢ b) bins
    owned : (b : ℕ × ℕ) → (Contains bins b ↔ IsOwnedFrom n (length all) b)

  abbrev Each : ℕ → List (List (ℕ × BinContent Cell)) → Type 0
  Each n all = (w : ℕ) (ss : List (ℕ × BinContent Cell)) → slice_get all w ≡ Some ss → AreStatesOf q job (n + w) ss

  none : (n : ℕ) → Joined n []
  none n = record { bins = []; last = tt; once = tt; owned = λ b. ((λ i. absurd (nothing_in_nil b i)), λ h. absurd (let low = h.2 in let high = h.3 in omega arith)) }

  one_more : (n : ℕ) (ss : List (ℕ × BinContent Cell)) (all : List (List (ℕ × BinContent Cell))) → AreStatesOf q job n ss → Joined (suc n) all → Joined n (ss ∷ all)
  one_more n ss all first rest = record {
    bins = first.bins ++ rest.bins;
    last = joined_last first.bins rest.bins ss (flat_map (λ us. us) all) (are_last first.bins ss first.stages first.each) rest.last;
    once = Pairs-append (λ a b. a ≢ b) first.bins rest.bins (AllPairs-to_Pairs (λ a b. a ≢ b) first.bins first.once) rest.once apart;
    owned = λ b. (to b, from b);
  }
    where
      apart : (a b : ℕ × ℕ) → Contains first.bins a → Contains rest.bins b → a ≢ b
      apart a b i k e =
          let here : owner a.0 a.1 ≡ n = ((first.owned a.0 a.1).0 i).2 in
          let there : suc n ≤ owner b.0 b.1 = ((rest.owned b).0 k).2 in
          let same : owner a.0 a.1 ≡ owner b.0 b.1 = (λ x. owner (e x).0 (e x).1) in
          absurd (omega arith)

      to : (b : ℕ × ℕ) → Contains (first.bins ++ rest.bins) b → IsOwnedFrom n (length (ss ∷ all)) b
      to b i =
          ⊎_elim
          (λ (k : Contains first.bins b).
          let h = (first.owned b.0 b.1).0 k in
          let here : owner b.0 b.1 ≡ n = h.2 in
          (h.0, h.1, omega arith, omega arith))
          (λ (k : Contains rest.bins b).
          let h = (rest.owned b).0 k in
          let low : suc n ≤ owner b.0 b.1 = h.2 in
          let high : owner b.0 b.1 < suc n + length all = h.3 in
          (h.0, h.1, omega arith, omega arith))
          (Contains-append_cases first.bins rest.bins b i)

      from : (b : ℕ × ℕ) → IsOwnedFrom n (length (ss ∷ all)) b → Contains (first.bins ++ rest.bins) b
      from b h =
          ⊎_elim
          (λ (e : owner b.0 b.1 ≡ n). Contains-append_left first.bins rest.bins b ((first.owned b.0 b.1).1 (h.0, h.1, e)))
          (λ (l : suc n ≤ owner b.0 b.1). Contains-append_right first.bins rest.bins b ((rest.owned b).1 (h.0, h.1, l, let high : owner b.0 b.1 < n + length (ss ∷ all) = h.3 in omega arith)))
          (cases (owner b.0 b.1) h.2)
        where
          cases : (v : ℕ) → n ≤ v → (v ≡ n) ⊎ (suc n ≤ v)
          cases v l = grind arith

  joined : (n : ℕ) (all : List (List (ℕ × BinContent Cell))) → Each n all → Joined n all
  joined n [] each = none n
  joined n (ss ∷ all) each =
      let here : n + 0 ≡ n = omega arith in
      let later : (w : ℕ) → n + suc w ≡ suc n + w = λ w. omega arith in
      one_more n ss all
      (subst (λ (w : ℕ). AreStatesOf q job w ss) here (each 0 ss refl))
      (joined (suc n) all (λ w us e. subst (λ (v : ℕ). AreStatesOf q job v us) (later w) (each (suc w) us e)))

  -- states beside the stages and bins whose they are, each stage and bin once
  pub record AreOfBins (states : List (ℕ × BinContent Cell)) : Type 0 where
    pub bins : List (ℕ × ℕ)
    pub last : AreLast bins states
    pub once : Pairs (λ a b. a ≢ b) bins
    pub within : (b : ℕ × ℕ) → Contains bins b → b.0 < job.shape.stages
    pub all : (b : ℕ × ℕ) → b.0 < job.shape.stages → b.1 < job.shape.bins → Contains bins b

  pub are_of_bins : (all : List (List (ℕ × BinContent Cell))) → OutlineIsSound (outline_of q job) → AreAllStates q job all → AreOfBins (flat_map (λ ss. ss) all)
  are_of_bins all sound are =
      let here : (w : ℕ) → w ≡ 0 + w = λ w. omega arith in
      let whole = joined 0 all (λ w ss e. subst (λ (v : ℕ). AreStatesOf q job v ss) (here w) (are.each w ss e)) in
      let count : length all ≡ job.shape.workers = are.workers in
      record {
        bins = whole.bins;
        last = whole.last;
        once = whole.once;
        within = λ b i. ((whole.owned b).0 i).0;
        all = λ b l m. (whole.owned b).1 (l, m, omega arith, let high : owner b.0 b.1 < job.shape.workers = owner_is_worker (outline_of q job) sound b.0 b.1 (end_time job) l m in omega arith);
      }
