-- Each step keeps the rule.
use Rattle.std.proofs.Common.{◌≡◌, ◌≢◌, ◌⊎◌, ℕ, suc, ◌+◌, ◌<◌, ◌≤◌, eqb, List, [], ◌∷◌, ◌++◌, length, get_or, set, sym, refl, ap, ◌∙◌, subst, inl, inr, ⊎_elim, arith, length-set, length-append, eq-eqb, ne_eqb, Option, Some, None}
use mathlib.Core.Option.{some, none, some-ne-none, some-injective}
use mathlib.Core.Logic.{dite}
use native.Mathlib.Decide.{ℕ_discrete}
use lib.ListN.{get_elem?}
use prog.Atomic.{either}
use Rattle.atomic_table.specs.Table.{State, Me, step, opening, rest, put_back, keeps, takes, gives, stepped, Allows, Splits, Joins}
use Rattle.atomic_table.proofs.Lists.{at_set, at_snoc, set_here, set_else, set_again, at_longer, at_last, exchanged}
use Rattle.mp_seat.specs.declared.view.SeatView.{SeatView}
use Rattle.mp_seat.specs.Rule.{Knows, NobodyHolds, OneHolds, SomeIsLatest, IsHome, IsAway, KeepsRows, TakesOrNot, PutsBack, taking, putting, first_of, others_of, first_row, other_rows, joined, spent, opening_view}
use Rattle.mp_seat.proofs.Places.{inside, there_is, only_row, at_end_or, at_append, same_list, some_not_none}

-- the value that is carried first
abbrev carried_value : {T : Type 0} → T → List (ℕ × Option T) → T
carried_value d [] = d
carried_value d (x ∷ xs) = elim x.1 [ Some t ↦ t | None ↦ d ]

-- a number changes at one argument
chosen : (k f new x : ℕ) (F : ℕ → Type 0) → (k ≡ f → F new) → (k ≢ f → F x) → F (either (eqb k f) new x)
chosen k f new x F hit miss = dite (ℕ_discrete k f) (λ e. subst (λ b. F (either b new x)) (sym (eq-eqb k f e)) (hit e)) (λ ne. subst (λ b. F (either b new x)) (sym (ne_eqb k f ne)) (miss ne))

module _ {T R : Type 0} (rows : T → List R) (version : T → ℕ) (count : ℕ) where
  abbrev G : Type 0
  G = SeatView R

  abbrev St : Type 0
  St = State (Option T) G

  abbrev M : Type 0
  M = Me (Option T) G

  abbrev Rule : St → Type 0
  Rule = KeepsRows rows version count

  -- a step that changes nothing
  same : (s : St) (i id : ℕ) (m : M) → get_elem? s.views id ≡ some m.0 → Rule s → s.words ≡ set s.words i (get_or s.words i 0) → Rule (stepped s i (get_or s.words i 0) id m.1 m.0 keeps)
  same s i id m at r w = subst (λ (x : List ℕ × List G). Rule record { words = x.0; homes = s.homes; views = x.1 }) (λ k. (w k, sym (set_again s.views id m.0 at) k)) r

  knows_set : (rs : List R) (owner : ℕ → ℕ) (n : ℕ) (views : List G) (id : ℕ) (w : G) → Knows rs owner n id w
      → ((j : ℕ) (v : G) → j ≢ id → get_elem? views j ≡ some v → Knows rs owner n j v)
      → (j : ℕ) (v : G) → get_elem? (set views id w) j ≡ some v → Knows rs owner n j v
  knows_set rs owner n views id w mine others j v e = ⊎_elim (λ (t : (j ≡ id) × (w ≡ v)). subst (λ (x : ℕ × G). Knows rs owner n x.0 x.1) (λ k. (sym t.0 k, t.1 k)) mine)
      (λ (t : (j ≢ id) × (get_elem? views j ≡ some v)). others j v t.0 t.1) (at_set views id j w v e)

  -- where the others hold nothing, and this seat nothing now
  nobody_set : (views : List G) (id : ℕ) (w : G) → w.taken ≡ None → ((j : ℕ) (v : G) → j ≢ id → get_elem? views j ≡ some v → v.taken ≡ None) → NobodyHolds (set views id w)
  nobody_set views id w mine others j v e = ⊎_elim (λ (t : (j ≡ id) × (w ≡ v)). subst (λ (x : G). x.taken ≡ None) t.1 mine)
      (λ (t : (j ≢ id) × (get_elem? views j ≡ some v)). others j v t.0 t.1) (at_set views id j w v e)

  latest_here : (n : ℕ) (views : List G) (id : ℕ) (v w : G) (row : R) → get_elem? views id ≡ some v → get_elem? w.own 0 ≡ some row → w.version ≡ n → SomeIsLatest n (set views id w)
  latest_here n views id v w row at owns is = record { id = id; view = w; row = row; at = set_here views id w (inside views id v at); owns = owns; version_is = is }

  taken : (id : ℕ) (m : M) (row : R) → m.0.own ≡ row ∷ [] → (s : St) (r : Rule s) (h : IsHome rows version r.rs r.n s) → get_elem? s.views id ≡ some m.0
      → Rule (stepped s 0 1 id m.1 (taking m.0 (rows h.value) (version h.value)) (takes 0 (Some h.value)))
  taken id m row one s r h at =
      let w : G = taking m.0 (rows h.value) (version h.value) in
      let f = r.knows id m.0 at in
      let first : get_elem? m.0.own 0 ≡ some row = ap (λ (l : List R). get_elem? l 0) one in
      record {
        rs = r.rs;
        n = r.n;
        owner = r.owner;
        many = r.many;
        knows = knows_set r.rs r.owner r.n s.views id w record { stand = f.stand; owns = f.owns; counts = f.counts; seen = omega (arith, h.version_is) } (λ j v _ e. r.knows j v e);
        latest = latest_here r.n s.views id m.0 w row at first h.version_is;
        lies = inr record {
          taken = ap (λ (l : List ℕ). set l 0 1) h.free;
          out = ap (λ (l : List _). set l 0 none) h.home;
          holder = record {
            id = id;
            view = w;
            row = row;
            at = set_here s.views id w (inside s.views id m.0 at);
            owns = first;
            taken = ap Some h.rows_are;
            version_is = h.version_is;
            alone = λ j v other e. h.nobody j v (sym (set_else s.views id j w other) ∙ e);
          };
        };
      }

  -- the holder is another seat, with another number
  other_holds : (id : ℕ) (m : M) (row : R) → m.0.own ≡ row ∷ [] → m.0.taken ≡ None → (s : St) (r : Rule s) → OneHolds r.rs r.n s.views → get_elem? s.views id ≡ some m.0
      → (other : ℕ) × (other < m.0.seats) × (other ≢ m.0.first)
  other_holds id m row one idle s r h at =
      let f = r.knows id m.0 at in
      let g = r.knows h.id h.view h.at in
      let mine : r.owner (m.0.first + 0) ≡ id = f.owns 0 row (ap (λ (l : List R). get_elem? l 0) one) in
      let theirs : r.owner (h.view.first + 0) ≡ h.id = g.owns 0 h.row h.owns in
      let there : h.view.first + 0 < length r.rs = inside r.rs (h.view.first + 0) h.row (g.stand 0 h.row h.owns) in
      let seats : m.0.seats ≡ length r.rs = f.counts 0 row (ap (λ (l : List R). get_elem? l 0) one) in (
        h.view.first,
        omega arith,
        λ meets.
            let who : h.id ≡ id = sym theirs ∙ (ap (λ k. r.owner (k + 0)) meets ∙ mine) in
            let it : h.view ≡ m.0 = some-injective h.view m.0 (sym h.at ∙ (ap (λ k. get_elem? s.views k) who ∙ at)) in
            absurd (some_not_none h.view.taken r.rs h.taken (ap (λ (v : G). v.taken) it ∙ idle)),
      )

  pub may_take : (slots id : ℕ) (m : M) (row : R) → m.0.own ≡ row ∷ [] → m.0.taken ≡ None → Allows Rule slots id m 0 (λ x. either (eqb x 0) 1 x) (TakesOrNot rows version (step slots 0 0 1 none) m)
  may_take slots id m row one idle s r size at small = ⊎_elim
      (λ (h : IsHome rows version r.rs r.n s).
      let w : G = taking m.0 (rows h.value) (version h.value) in
      let f = r.knows id m.0 at in
      let zero_here : get_or s.words 0 0 ≡ 0 = ap (λ (l : List ℕ). get_or l 0 0) h.free in (
        w,
        takes 0 (Some h.value),
        ap (λ (l : List _). get_elem? l 0) h.home,
        exchanged (get_or s.words 0 0) 0 1 (λ k. Rule (stepped s 0 k id m.1 w (takes 0 (Some h.value)))) (λ _. taken id m row one s r h at) (λ n. absurd (n zero_here)),
        (
          (λ _. record {
            value = h.value;
            slot = refl;
            view = refl;
            stand = λ i q e. ap (λ (l : List R). get_elem? l (m.0.first + i)) h.rows_are ∙ f.stand i q e;
            many = ap length h.rows_are ∙ sym (f.counts 0 row (ap (λ (l : List R). get_elem? l 0) one));
            later = let a = f.seen in let b = h.version_is in omega arith;
          }),
          λ n. absurd (n zero_here),
        ),
      ))
      (λ (a : IsAway rows version r.rs r.n s).
      let one_here : get_or s.words 0 0 ≡ 1 = ap (λ (l : List ℕ). get_or l 0 0) a.taken in
      let other : get_or s.words 0 0 ≢ 0 = λ z. absurd (omega arith) in (
        m.0,
        keeps,
        tt,
        exchanged (get_or s.words 0 0) 0 1 (λ k. Rule (stepped s 0 k id m.1 m.0 keeps)) (λ z. absurd (other z))
            (λ _. same s 0 id m at r (subst (λ (l : List ℕ). l ≡ set l 0 (get_or l 0 0)) (sym a.taken) refl)),
        ((λ z. absurd (other z)), λ _. (refl, other_holds id m row one idle s r a.holder at)),
      ))
      r.lies

  given : (id : ℕ) (m : M) (t : T) (r0 r : R) → m.0.own ≡ r0 ∷ [] → m.1 ≡ (0, Some t) ∷ [] → m.0.version ≤ version t
      → (s : St) (q : Rule s) (a : IsAway rows version q.rs q.n s) → get_elem? s.views id ≡ some m.0 → q.n ≡ m.0.version → rows t ≡ set q.rs m.0.first r
      → ((j : ℕ) (v : G) → j ≢ id → get_elem? s.views j ≡ some v → v.taken ≡ None)
      → Rule (stepped s 0 0 id m.1 (putting m.0 r (version t)) gives)
  given id m t r0 r one slot later s q a at same_version changed alone =
      let first : ℕ = m.0.first in
      let w : G = putting m.0 r (version t) in
      let f = q.knows id m.0 at in
      let mine_is : get_elem? m.0.own 0 ≡ some r0 = ap (λ (l : List R). get_elem? l 0) one in
      let start : first + 0 ≡ first = omega arith in
      let mine : q.owner first ≡ id = ap q.owner (sym start) ∙ f.owns 0 r0 mine_is in
      let bound : first < length q.rs = inside q.rs first r0 (ap (λ k. get_elem? q.rs k) (sym start) ∙ f.stand 0 r0 mine_is) in
      let long : length (rows t) ≡ length q.rs = ap length changed ∙ length-set q.rs first r in
      record {
        rs = rows t;
        n = version t;
        owner = q.owner;
        many = long ∙ q.many;
        knows = knows_set (rows t) q.owner (version t) s.views id w record {
          stand = λ i x e. let o = only_row r x i e in let z = o.0 in let here : first + i ≡ first = omega arith in
              ap (λ (l : List R). get_elem? l (first + i)) changed ∙ (ap (λ k. get_elem? (set q.rs first r) k) here ∙ (set_here q.rs first r bound ∙ ap some o.1));
          owns = λ i x e. let o = only_row r x i e in let z = o.0 in let here : first + i ≡ first = omega arith in ap q.owner here ∙ mine;
          counts = λ i x e. f.counts 0 r0 mine_is ∙ sym long;
          seen = omega arith;
        } (λ j v other e. let g = q.knows j v e in record {
          stand = λ i x o. let apart : v.first + i ≢ first = λ is. other (sym (g.owns i x o) ∙ (ap q.owner is ∙ mine)) in
              ap (λ (l : List R). get_elem? l (v.first + i)) changed ∙ (set_else q.rs first (v.first + i) r apart ∙ g.stand i x o);
          owns = g.owns;
          counts = λ i x o. g.counts i x o ∙ sym long;
          seen = let b = g.seen in omega arith;
        });
        latest = latest_here (version t) s.views id m.0 w r at refl refl;
        lies = inl record {
          free = ap (λ (l : List ℕ). set l 0 0) a.taken;
          value = t;
          home = ap (λ c. put_back s.homes c) slot ∙ ap (λ (l : List _). set l 0 (some (Some t))) a.out;
          rows_are = refl;
          version_is = refl;
          nobody = nobody_set s.views id w refl alone;
        };
      }

  pub may_put : (slots id : ℕ) (m : M) (t : T) (before : List R) (r0 r : R) → m.0.own ≡ r0 ∷ [] → m.0.taken ≡ Some before → m.1 ≡ (0, Some t) ∷ [] → rows t ≡ set before m.0.first r → m.0.version ≤ version t
      → Allows Rule slots id m 0 (λ _. 0) (λ _. PutsBack rows version (step slots 0 0 0 none) m 0)
  may_put slots id m t before r0 r one holds slot changed later s q size at small = ⊎_elim
      (λ (h : IsHome rows version q.rs q.n s). absurd (some_not_none m.0.taken before holds (h.nobody id m.0 at)))
      (λ (a : IsAway rows version q.rs q.n s). let hd = a.holder in dite (ℕ_discrete id hd.id)
      (λ is.
      let it : hd.view ≡ m.0 = some-injective hd.view m.0 (sym hd.at ∙ (ap (λ k. get_elem? s.views k) (sym is) ∙ at)) in
      let all : before ≡ q.rs = let e : Some before ≡ Some q.rs = sym holds ∙ (ap (λ (v : G). v.taken) (sym it) ∙ hd.taken) in cc in
      let changed' : rows t ≡ set q.rs m.0.first r = changed ∙ ap (λ (l : List R). set l m.0.first r) all in
      let first : ℕ = m.0.first in
      let f = q.knows id m.0 at in
      let start : first + 0 ≡ first = omega arith in
      let bound : first < length q.rs = inside q.rs first r0 (ap (λ k. get_elem? q.rs k) (sym start) ∙ f.stand 0 r0 (ap (λ (l : List R). get_elem? l 0) one)) in
      let there : get_elem? (rows t) first ≡ some r = ap (λ (l : List R). get_elem? l first) changed' ∙ set_here q.rs first r bound in (
        putting m.0 r (version t),
        gives,
        tt,
        given id m t r0 r one slot later s q a at (sym hd.version_is ∙ ap (λ (v : G). v.version) it) changed' (λ j v other e. hd.alone j v (λ k. other (k ∙ sym is)) e),
        λ t' slot'.
            let t_is : t ≡ t' = ap (carried_value t) (sym slot ∙ slot') in
            subst (λ (u : T). (rest m.1 ≡ []) × ((x : R) × (get_elem? (rows u) first ≡ some x) × (putting m.0 r (version t) ≡ putting m.0 x (version u)))) t_is
            (ap rest slot, (r, there, refl)),
      ))
      (λ not. absurd (some_not_none m.0.taken before holds (hd.alone id m.0 not at))))
      q.lies

  -- the value stays where it is, where the views that hold it stay and no other begins to
  lies_still : (rs : List R) (n : ℕ) (s : St) (views' : List G) → ((j : ℕ) (v : G) → get_elem? views' j ≡ some v → (v.taken ≡ None) ⊎ (get_elem? s.views j ≡ some v))
      → ((j : ℕ) (v : G) (all : List R) → get_elem? s.views j ≡ some v → v.taken ≡ Some all → get_elem? views' j ≡ some v)
      → IsHome rows version rs n s ⊎ IsAway rows version rs n s
      → IsHome rows version rs n record { words = s.words; homes = s.homes; views = views' } ⊎ IsAway rows version rs n record { words = s.words; homes = s.homes; views = views' }
  lies_still rs n s views' calm stays l = ⊎_elim
      (λ (h : IsHome rows version rs n s). inl record {
        free = h.free;
        value = h.value;
        home = h.home;
        rows_are = h.rows_are;
        version_is = h.version_is;
        nobody = λ j v e. ⊎_elim (λ (x : v.taken ≡ None). x) (λ (x : get_elem? s.views j ≡ some v). h.nobody j v x) (calm j v e);
      })
      (λ (a : IsAway rows version rs n s). let o = a.holder in inr record {
        taken = a.taken;
        out = a.out;
        holder = record {
          id = o.id;
          view = o.view;
          row = o.row;
          at = stays o.id o.view rs o.at o.taken;
          owns = o.owns;
          taken = o.taken;
          version_is = o.version_is;
          alone = λ j v other e. ⊎_elim (λ (x : v.taken ≡ None). x) (λ (x : get_elem? s.views j ≡ some v). o.alone j v other x) (calm j v e);
        };
      })
      l

  pub may_split : (id : ℕ) (v : G) (r : R) (left : List R) → v.own ≡ r ∷ left → v.taken ≡ None → Splits Rule id v (other_rows v) (first_row v)
  may_split id v r left own idle s q at =
      let l : G = other_rows v in
      let o : G = first_row v in
      let vs : List G = set s.views id l in
      let new : ℕ = length vs in
      let f = q.knows id v at in
      let first : get_elem? v.own 0 ≡ some r = ap (λ (x : List R). get_elem? x 0) own in
      let start : v.first + 0 ≡ v.first = omega arith in
      let owner : ℕ → ℕ = λ k. either (eqb k v.first) new (q.owner k) in
      let mine : q.owner v.first ≡ id = ap q.owner (sym start) ∙ f.owns 0 r first in
      let lown : l.own ≡ left = ap others_of own in
      let oown : o.own ≡ r ∷ [] = ap first_of own in
      let deeper : (i : ℕ) (x : R) → get_elem? l.own i ≡ some x → get_elem? v.own (suc i) ≡ some x = λ i x e. ap (λ (y : List R). get_elem? y (suc i)) own ∙ (ap (λ (y : List R). get_elem? y i) (sym lown) ∙ e) in
      let shift : (i : ℕ) → (v.first + 1) + i ≡ v.first + suc i = λ i. omega arith in
      let left_knows : Knows q.rs owner q.n id l = record {
        stand = λ i x e. ap (λ k. get_elem? q.rs k) (shift i) ∙ f.stand (suc i) x (deeper i x e);
        owns = λ i x e. chosen ((v.first + 1) + i) v.first new (q.owner ((v.first + 1) + i)) (λ k. k ≡ id) (λ is. absurd (omega arith)) (λ _. ap q.owner (shift i) ∙ f.owns (suc i) x (deeper i x e));
        counts = λ i x e. f.counts 0 r first;
        seen = f.seen;
      } in
      let right_knows : Knows q.rs owner q.n new o = record {
        stand = λ i x e. let w = only_row r x i (ap (λ (y : List R). get_elem? y i) (sym oown) ∙ e) in
            ap (λ k. get_elem? q.rs (v.first + k)) w.0 ∙ (f.stand 0 r first ∙ ap some w.1);
        owns = λ i x e. let w = only_row r x i (ap (λ (y : List R). get_elem? y i) (sym oown) ∙ e) in let z = w.0 in
            chosen (v.first + i) v.first new (q.owner (v.first + i)) (λ k. k ≡ new) (λ _. refl) (λ not. absurd (not (omega arith)));
        counts = λ i x e. f.counts 0 r first;
        seen = f.seen;
      } in
      let old_knows : (j : ℕ) (u : G) → j ≢ id → get_elem? s.views j ≡ some u → Knows q.rs owner q.n j u = λ j u other e. let g = q.knows j u e in record {
        stand = g.stand;
        owns = λ i x p. chosen (u.first + i) v.first new (q.owner (u.first + i)) (λ k. k ≡ j) (λ is. absurd (other (sym (g.owns i x p) ∙ (ap q.owner is ∙ mine)))) (λ _. g.owns i x p);
        counts = g.counts;
        seen = g.seen;
      } in
      let was = q.latest in
      record {
        rs = q.rs;
        n = q.n;
        owner = owner;
        many = q.many;
        knows = λ j u e. at_end_or vs o u j e (λ x. knows_set q.rs owner q.n s.views id l left_knows old_knows j u x) (λ here is. subst (λ (y : ℕ × G). Knows q.rs owner q.n y.0 y.1) (λ k. (sym here k, is k)) right_knows);
        latest = dite (ℕ_discrete was.id id)
            (λ is. let it : was.view ≡ v = some-injective was.view v (sym was.at ∙ (ap (λ k. get_elem? s.views k) is ∙ at)) in
            record { id = new; view = o; row = r; at = at_last vs o new refl; owns = ap (λ (x : List R). get_elem? x 0) oown; version_is = ap (λ (x : G). x.version) (sym it) ∙ was.version_is })
            (λ not. record { id = was.id; view = was.view; row = was.row; at = at_longer vs (o ∷ []) was.id was.view (set_else s.views id was.id l not ∙ was.at); owns = was.owns; version_is = was.version_is });
        lies = lies_still q.rs q.n s (vs ++ o ∷ [])
            (λ j u e. ⊎_elim
            (λ (x : get_elem? vs j ≡ some u). ⊎_elim (λ (t : (j ≡ id) × (l ≡ u)). inl (ap (λ (y : G). y.taken) (sym t.1))) (λ (t : (j ≢ id) × (get_elem? s.views j ≡ some u)). inr t.1) (at_set s.views id j l u x))
            (λ (x : o ≡ u). inl (ap (λ (y : G). y.taken) (sym x))) (at_snoc vs o u j e))
            (λ j u all e h. let apart : j ≢ id = λ is. absurd (some_not_none u.taken all h (ap (λ (y : G). y.taken) (some-injective u v (sym e ∙ (ap (λ k. get_elem? s.views k) is ∙ at))) ∙ idle)) in
            at_longer vs (o ∷ []) j u (set_else s.views id j l apart ∙ e))
            q.lies;
      }

  pub may_join : (id : ℕ) (v : G) (other : ℕ) (w : G) (r : R) (left : List R) → v.own ≡ r ∷ left → v.taken ≡ None → w.taken ≡ None → w.first + length w.own ≡ v.first → Joins Rule id v other w (joined v w) spent
  may_join id v other w r left own idle idle' meets s q at apart there' =
      let b : G = joined v w in
      let vs : List G = set s.views id b in
      let there : get_elem? s.views other ≡ some w = sym (set_else s.views id other b apart) ∙ there' in
      let f = q.knows id v at in
      let g = q.knows other w there in
      let first : get_elem? v.own 0 ≡ some r = ap (λ (x : List R). get_elem? x 0) own in
      let owner : ℕ → ℕ = λ k. either (eqb (q.owner k) other) id (q.owner k) in
      let some_own = there_is b.own 0 (omega (arith, length-append w.own v.own, ap length own)) in
      let low : v.version ≤ q.n = f.seen in
      let low' : w.version ≤ q.n = g.seen in
      let mine : Knows q.rs owner q.n id b = record {
        stand = λ i x e. at_append w.own v.own i x (λ k. get_elem? q.rs k ≡ some x) w.first v.first meets e (λ p. g.stand i x p) (λ j p. f.stand j x p);
        owns = λ i x e. at_append w.own v.own i x (λ k. owner k ≡ id) w.first v.first meets e
            (λ p. chosen (q.owner (w.first + i)) other id (q.owner (w.first + i)) (λ k. k ≡ id) (λ _. refl) (λ no. absurd (no (g.owns i x p))))
            (λ j p. chosen (q.owner (v.first + j)) other id (q.owner (v.first + j)) (λ k. k ≡ id) (λ _. refl) (λ _. f.owns j x p));
        counts = λ i x e. f.counts 0 r first;
        seen = omega arith;
      } in
      let spent_knows : Knows q.rs owner q.n other spent = record {
        stand = λ i x e. absurd (some-ne-none x (sym e));
        owns = λ i x e. absurd (some-ne-none x (sym e));
        counts = λ i x e. absurd (some-ne-none x (sym e));
        seen = omega arith;
      } in
      let others : (j : ℕ) (u : G) → j ≢ other → j ≢ id → get_elem? s.views j ≡ some u → Knows q.rs owner q.n j u = λ j u not not' e. let k = q.knows j u e in record {
        stand = k.stand;
        owns = λ i x p. chosen (q.owner (u.first + i)) other id (q.owner (u.first + i)) (λ z. z ≡ j) (λ is. absurd (not (sym (k.owns i x p) ∙ is))) (λ _. k.owns i x p);
        counts = k.counts;
        seen = k.seen;
      } in
      let was = q.latest in
      let both_latest : b.version ≡ q.n → SomeIsLatest q.n (set vs other spent) = λ is. record {
        id = id;
        view = b;
        row = some_own.0;
        at = set_else vs other id spent (λ k. apart (sym k)) ∙ set_here s.views id b (inside s.views id v at);
        owns = some_own.1;
        version_is = is;
      } in
      record {
        rs = q.rs;
        n = q.n;
        owner = owner;
        many = q.many;
        knows = knows_set q.rs owner q.n vs other spent spent_knows (λ j u not e. ⊎_elim
            (λ (t : (j ≡ id) × (b ≡ u)). subst (λ (y : ℕ × G). Knows q.rs owner q.n y.0 y.1) (λ k. (sym t.0 k, t.1 k)) mine)
            (λ (t : (j ≢ id) × (get_elem? s.views j ≡ some u)). others j u not t.0 t.1) (at_set s.views id j b u e));
        latest = dite (ℕ_discrete was.id id)
            (λ is. let it : v.version ≡ q.n = ap (λ (x : G). x.version) (some-injective v was.view (sym at ∙ (ap (λ k. get_elem? s.views k) (sym is) ∙ was.at))) ∙ was.version_is in both_latest (omega arith))
            (λ not. dite (ℕ_discrete was.id other)
            (λ is. let it : w.version ≡ q.n = ap (λ (x : G). x.version) (some-injective w was.view (sym there ∙ (ap (λ k. get_elem? s.views k) (sym is) ∙ was.at))) ∙ was.version_is in both_latest (omega arith))
            (λ not'. record { id = was.id; view = was.view; row = was.row; at = set_else vs other was.id spent not' ∙ (set_else s.views id was.id b not ∙ was.at); owns = was.owns; version_is = was.version_is }));
        lies = lies_still q.rs q.n s (set vs other spent)
            (λ j u e. ⊎_elim
            (λ (t : (j ≡ other) × (spent ≡ u)). inl (ap (λ (y : G). y.taken) (sym t.1)))
            (λ (t : (j ≢ other) × (get_elem? vs j ≡ some u)). ⊎_elim (λ (x : (j ≡ id) × (b ≡ u)). inl (ap (λ (y : G). y.taken) (sym x.1))) (λ (x : (j ≢ id) × (get_elem? s.views j ≡ some u)). inr x.1) (at_set s.views id j b u t.1))
            (at_set vs other j spent u e))
            (λ j u all e h.
            let away : (k : ℕ) (y : G) → y.taken ≡ None → get_elem? s.views k ≡ some y → j ≢ k = λ k y hush p is. absurd (some_not_none u.taken all h (ap (λ (z : G). z.taken) (some-injective u y (sym e ∙ (ap (λ m. get_elem? s.views m) is ∙ p))) ∙ hush)) in
            set_else vs other j spent (away other w idle' there) ∙ (set_else s.views id j b (away id v idle at) ∙ e))
            q.lies;
      }

  -- a seat that owns each row that another owns is that seat
  is_owner : (id : ℕ) (v : G) (s : St) (q : Rule s) → v.first ≡ 0 → length v.own ≡ count → get_elem? s.views id ≡ some v → (j : ℕ) (u : G) (row : R) → get_elem? s.views j ≡ some u → get_elem? u.own 0 ≡ some row → u ≡ v
  is_owner id v s q begin whole at j u row there owns =
      let f = q.knows id v at in
      let g = q.knows j u there in
      let k : ℕ = u.first + 0 in
      let bound : k < length q.rs = inside q.rs k row (g.stand 0 row owns) in
      let has = there_is v.own k (omega (arith, q.many)) in
      let here : v.first + k ≡ k = omega arith in
      let same_seat : j ≡ id = sym (g.owns 0 row owns) ∙ (ap q.owner (sym here) ∙ f.owns k has.0 has.1) in
      some-injective u v (sym there ∙ (ap (λ m. get_elem? s.views m) same_seat ∙ at))

  -- a seat with all rows that doesn't hold the value: the value is at home, with these rows and the version that the seat has seen
  pub at_end : (id : ℕ) (v : G) (s : St) → v.first ≡ 0 → length v.own ≡ count → v.taken ≡ None → Rule s → get_elem? s.views id ≡ some v
      → (t : T) × (s.homes ≡ some (Some t) ∷ []) × (rows t ≡ v.own) × (version t ≡ v.version)
  at_end id v s begin whole idle q at = ⊎_elim
      (λ (h : IsHome rows version q.rs q.n s). let f = q.knows id v at in let was = q.latest in (
        h.value,
        h.home,
        h.rows_are ∙ same_list q.rs v.own (q.many ∙ sym whole) (λ i x e. ap (λ k. get_elem? q.rs k) (let z : i ≡ v.first + i = omega arith in z) ∙ f.stand i x e),
        h.version_is ∙ (sym was.version_is ∙ ap (λ (x : G). x.version) (is_owner id v s q begin whole at was.id was.view was.row was.at was.owns)),
      ))
      (λ (a : IsAway rows version q.rs q.n s).
      let o = a.holder in
      absurd (some_not_none o.view.taken q.rs o.taken (ap (λ (y : G). y.taken) (is_owner id v s q begin whole at o.id o.view o.row o.at o.owns) ∙ idle)))
      q.lies

  pub begins : (t : T) → length (rows t) ≡ count → 0 < count → Rule (opening (0 ∷ []) (Some t ∷ []) (opening_view rows version t))
  begins t many more =
      let v : G = opening_view rows version t in
      let first = there_is (rows t) 0 (omega arith) in
      record {
        rs = rows t;
        n = version t;
        owner = λ _. 0;
        many = many;
        knows = λ j u e. let z = only_row v u j e in
            subst (λ (y : ℕ × G). Knows (rows t) (λ _. 0) (version t) y.0 y.1) (λ k. (sym z.0 k, z.1 k)) record {
              stand = λ i x p. ap (λ k. get_elem? (rows t) k) (let z : 0 + i ≡ i = omega arith in z) ∙ p;
              owns = λ i x p. refl;
              counts = λ i x p. refl;
              seen = omega arith;
            };
        latest = record { id = 0; view = v; row = first.0; at = refl; owns = first.1; version_is = refl };
        lies = inl record {
          free = refl;
          value = t;
          home = refl;
          rows_are = refl;
          version_is = refl;
          nobody = λ j u e. ap (λ (y : G). y.taken) (sym (only_row v u j e).1);
        };
      }
