-- Each step keeps the rule.
use Rattle.std.proofs.Common.{◌≡◌, ◌≢◌, ℕ, zero, suc, ◌<◌, true, false, true≢false, List, [], ◌∷◌, ◌++◌, length, set, All, sym, refl, ap, ◌∙◌, subst, ⊎_elim, append_assoc, length-append, arith, Bool}
use mathlib.Core.Option.{some, some-ne-none}
use mathlib.Core.List.{IsPrefix}
use lib.ListN.{get_elem?}
use Rattle.std.proofs.lemmas.List.{get_or_at}
use Rattle.std.proofs.lemmas.List.Elements.{All-push, All-nil}
use Rattle.crossbeam_queue.specs.Fifo.{Pushes, Pops, Forks, Merges, Learns}
use Rattle.crossbeam_queue.proofs.Lists.{at_set, at_snoc}
use Rattle.mp_mailbox.specs.Names.{Distinct, names_of, OnEdge}
use Rattle.mp_mailbox.proofs.NameLists.{Distinct-begin, Distinct-nil}
use Rattle.std.proofs.lemmas.Grind.{flat_map-append}
use Rattle.mp_ruled.specs.declared.view.QueueView.{QueueView}
use Rattle.mp_ruled.specs.Ends.{Waits}
use Rattle.mp_ruled.specs.Rule.{IsEndAt, Knows, KeepsOrder, opening_view, sender_view, receiver_view, note_view, blank, knowing_sent, knowing_got, both_view, sent_more, got_more, Pushed, Popped, Arrives, Met}
use Rattle.mp_ruled.proofs.Prefixes.{prefix_refl, prefix_nil, prefix_more, nothing_in_nil}

-- the element after a beginning
after_begin : {A : Type 0} (P : A → Type 0) (xs ys : List A) (x : A) → All P (xs ++ x ∷ ys) → P x
after_begin P xs ys x all = subst P (get_or_at xs x ys x (length xs) refl) (all (length xs) x (omega (arith, length-append xs (x ∷ ys))))

not_true : (b : Bool) → b ≡ false → b ≢ true
not_true b is_false is_true = absurd (true≢false (sym is_true ∙ is_false))

module _ {M : Type 0} where
  -- a place that is none of the old ones is the new one
  at_end : (l : List (QueueView M)) (a b : QueueView M) (j : ℕ) → get_elem? l j ≢ some b → get_elem? (l ++ a ∷ []) j ≡ some b → j ≡ length l
  at_end [] a b zero n e = refl
  at_end [] a b (suc j) n e = absurd (some-ne-none b (sym e))
  at_end (x ∷ xs) a b zero n e = absurd (n e)
  at_end (x ∷ xs) a b (suc j) n e = ap suc (at_end xs a b j n e)

  all_set : (F : ℕ → QueueView M → Type 0) (views : List (QueueView M)) (port : ℕ) (w : QueueView M) → F port w → ((j : ℕ) (u : QueueView M) → j ≢ port → get_elem? views j ≡ some u → F j u)
      → (j : ℕ) (u : QueueView M) → get_elem? (set views port w) j ≡ some u → F j u
  all_set F views port w mine others j u e = ⊎_elim (λ (x : (j ≡ port) × (w ≡ u)). subst (λ (y : ℕ × QueueView M). F y.0 y.1) (λ i. (sym x.0 i, x.1 i)) mine)
      (λ (x : (j ≢ port) × (get_elem? views j ≡ some u)). others j u x.0 x.1) (at_set views port j w u e)

  blank_knows : (writer reader from to depth : ℕ) (sent got : List M) (port : ℕ) → Knows writer reader from to depth sent got port blank
  blank_knows writer reader from to depth sent got port = record {
    some_sent = prefix_nil sent;
    some_got = prefix_nil got;
    sends = λ p. absurd (true≢false (sym p));
    gets = λ p. absurd (true≢false (sym p));
  }

module _ {M N : Type 0} (names : M → List N) (message_from message_to : M → ℕ) where
  abbrev Rule : List M → List (QueueView M) → Type 0
  Rule = KeepsOrder names message_from message_to

  pub begins : Rule [] (opening_view ∷ [])
  begins =
      let v : QueueView M = opening_view in
      let here : IsEndAt 0 0 0 0 0 v = record { port_is = refl; from_is = refl; to_is = refl; depth_is = refl } in
      record {
        writer = 0;
        reader = 0;
        from = 0;
        to = 0;
        depth = 0;
        sent = [];
        got = [];
        whole = refl;
        bounded = omega arith;
        once = Distinct-nil;
        edge = All-nil (λ m. (message_from m ≡ 0) × (message_to m ≡ 0));
        knows = all_set (Knows 0 0 0 0 0 [] []) (v ∷ []) 0 v record { some_sent = prefix_nil []; some_got = prefix_nil []; sends = λ _. (here, refl); gets = λ _. (here, refl) }
            (λ j u other e. absurd (other (at_end [] v u j (λ x. some-ne-none u (sym x)) e)));
      }

  pub may_push : (n port : ℕ) (v : QueueView M) (x : M) → n ≡ v.depth → v.pushes ≡ true → (message_from x ≡ v.from) × (message_to x ≡ v.to) → Distinct (names_of names (v.sent ++ x ∷ [])) → Pushes Rule n port v x (Pushed v x)
  may_push n port v x deep may way fresh items views room h at =
      let w : QueueView M = sent_more v x in
      let mine = h.knows port v at in
      let role = mine.sends may in
      let place = role.0 in
      let sent : List M = h.sent ++ x ∷ [] in
      let same : v.sent ++ x ∷ [] ≡ sent = ap (λ l. l ++ x ∷ []) role.1 in (
        w,
        record {
          writer = h.writer;
          reader = h.reader;
          from = h.from;
          to = h.to;
          depth = h.depth;
          sent = sent;
          got = h.got;
          whole = ap (λ l. l ++ x ∷ []) h.whole ∙ append_assoc h.got items (x ∷ []);
          bounded = omega (arith, length-append items (x ∷ []), place.depth_is);
          once = subst (λ (l : List M). Distinct (names_of names l)) same fresh;
          edge = All-push (λ m. (message_from m ≡ h.from) × (message_to m ≡ h.to)) h.sent x h.edge (way.0 ∙ place.from_is, way.1 ∙ place.to_is);
          knows = all_set (Knows h.writer h.reader h.from h.to h.depth sent h.got) views port w
              record { some_sent = subst (λ l. IsPrefix l sent) (sym same) (prefix_refl sent); some_got = mine.some_got; sends = λ _. (record { port_is = place.port_is; from_is = place.from_is; to_is = place.to_is; depth_is = place.depth_is }, same); gets = λ p. let g = mine.gets p in (record { port_is = g.0.port_is; from_is = g.0.from_is; to_is = g.0.to_is; depth_is = g.0.depth_is }, g.1) }
              (λ j u other e. let k = h.knows j u e in record { some_sent = prefix_more u.sent h.sent (x ∷ []) k.some_sent; some_got = k.some_got; sends = λ p. absurd (other ((k.sends p).0.port_is ∙ sym place.port_is)); gets = k.gets });
        },
        (refl, (items, (h.got, mine.some_got, role.1 ∙ h.whole), subst (λ k. length items < k) deep room)),
      )

  pub full : (port : ℕ) (v : QueueView M) → v.pushes ≡ true → Learns Rule port v (λ items. Waits v.sent v.got items)
  full port v may items views h at = let mine = h.knows port v at in (h.got, mine.some_got, (mine.sends may).1 ∙ h.whole)

  pub may_pop : (port : ℕ) (v : QueueView M) → v.pops ≡ true → Pops Rule port v (Popped names message_from message_to v)
  may_pop port v may x items views h at =
      let w : QueueView M = got_more v x in
      let mine = h.knows port v at in
      let role = mine.gets may in
      let place = role.0 in
      let got : List M = h.got ++ x ∷ [] in
      let same : v.got ++ x ∷ [] ≡ got = ap (λ l. l ++ x ∷ []) role.1 in
      let whole : h.sent ≡ got ++ items = h.whole ∙ sym (append_assoc h.got (x ∷ []) items) in
      let way = after_begin (λ m. (message_from m ≡ h.from) × (message_to m ≡ h.to)) h.got items x (subst (λ l. OnEdge message_from message_to h.from h.to l) h.whole h.edge) in
      let apart : Distinct (names_of names got ++ names_of names items) = subst (λ (l : List N). Distinct l) (ap (names_of names) whole ∙ flat_map-append names got items) h.once in (
        w,
        record {
          writer = h.writer;
          reader = h.reader;
          from = h.from;
          to = h.to;
          depth = h.depth;
          sent = h.sent;
          got = got;
          whole = whole;
          bounded = let b = h.bounded in omega arith;
          once = h.once;
          edge = h.edge;
          knows = all_set (Knows h.writer h.reader h.from h.to h.depth h.sent got) views port w
              record { some_sent = mine.some_sent; some_got = subst (λ l. IsPrefix l got) (sym same) (prefix_refl got); sends = λ p. let s = mine.sends p in (record { port_is = s.0.port_is; from_is = s.0.from_is; to_is = s.0.to_is; depth_is = s.0.depth_is }, s.1); gets = λ _. (record { port_is = place.port_is; from_is = place.from_is; to_is = place.to_is; depth_is = place.depth_is }, same) }
              (λ j u other e. let k = h.knows j u e in record { some_sent = k.some_sent; some_got = prefix_more u.got h.got (x ∷ []) k.some_got; sends = k.sends; gets = λ p. absurd (other ((k.gets p).0.port_is ∙ sym place.port_is)) });
        },
        (refl, way.0 ∙ sym place.from_is, way.1 ∙ sym place.to_is, subst (λ (l : List M). Distinct (names_of names l)) (sym same) (Distinct-begin (names_of names got) (names_of names items) apart)),
      )

  pub arrives : (port : ℕ) (v : QueueView M) → v.pops ≡ true → Learns Rule port v (Arrives v)
  arrives port v may items views h at = let mine = h.knows port v at in (h.sent, mine.some_sent, h.whole ∙ ap (λ l. l ++ items) (sym (mine.gets may).1))

  -- before anything is sent the queue gets its edge and its two ends
  pub may_open : (port : ℕ) (v : QueueView M) (from to depth : ℕ) → v.pushes ≡ true → v.pops ≡ true → v.sent ≡ [] → Forks Rule port v (sender_view from to depth v.sent v.got) (receiver_view from to depth v.sent v.got)
  may_open port v from to depth pushes pops empty items views h at =
      let l : QueueView M = sender_view from to depth v.sent v.got in
      let r : QueueView M = receiver_view from to depth v.sent v.got in
      let mine = h.knows port v at in
      let sender = mine.sends pushes in
      let receiver = mine.gets pops in
      let none : h.sent ≡ [] = sym sender.1 ∙ empty in
      let nothing = nothing_in_nil h.got items (sym none ∙ h.whole) in
      let vs : List (QueueView M) = set views port l in
      let Old : ℕ → QueueView M → Type 0 = λ j u. IsPrefix u.sent h.sent × IsPrefix u.got h.got × (u.pushes ≡ true → IsEndAt port from to depth j u × (u.sent ≡ h.sent)) × (u.pops ≢ true) in
      let old : (j : ℕ) (u : QueueView M) → get_elem? vs j ≡ some u → Old j u = all_set Old views port l
      (mine.some_sent, mine.some_got, (λ _. (record { port_is = refl; from_is = refl; to_is = refl; depth_is = refl }, sender.1)), λ p. true≢false (sym p))
      (λ j u other e. let k = h.knows j u e in (k.some_sent, k.some_got, (λ p. absurd (other ((k.sends p).0.port_is ∙ sym sender.0.port_is))), λ p. other ((k.gets p).0.port_is ∙ sym receiver.0.port_is))) in
      record {
        writer = port;
        reader = length vs;
        from = from;
        to = to;
        depth = depth;
        sent = h.sent;
        got = h.got;
        whole = h.whole;
        bounded = omega (arith, ap length nothing.1);
        once = h.once;
        edge = subst (λ (z : List M). OnEdge message_from message_to from to z) (sym none) (All-nil _);
        knows = λ j u e. ⊎_elim
            (λ x. let o = old j u x in record { some_sent = o.0; some_got = o.1; sends = o.2; gets = λ p. absurd (o.3 p) })
            (λ (is : r ≡ u).
            let place : j ≡ length vs = at_end vs r u j (λ x. (old j u x).3 (ap (λ (y : QueueView M). y.pops) (sym is))) e in
            subst (λ (y : ℕ × QueueView M). Knows port (length vs) from to depth h.sent h.got y.0 y.1) (λ k. (sym place k, is k)) record {
              some_sent = mine.some_sent;
              some_got = mine.some_got;
              sends = λ p. absurd (true≢false (sym p));
              gets = λ _. (record { port_is = refl; from_is = refl; to_is = refl; depth_is = refl }, receiver.1);
            })
            (at_snoc vs r u j e);
      }

  -- the two ends go into two hands again
  pub may_part : (port : ℕ) (v : QueueView M) → v.pushes ≡ true → v.pops ≡ true → Forks Rule port v (sender_view v.from v.to v.depth v.sent v.got) (receiver_view v.from v.to v.depth v.sent v.got)
  may_part port v pushes pops items views h at =
      let l : QueueView M = sender_view v.from v.to v.depth v.sent v.got in
      let r : QueueView M = receiver_view v.from v.to v.depth v.sent v.got in
      let mine = h.knows port v at in
      let sender = mine.sends pushes in
      let receiver = mine.gets pops in
      let vs : List (QueueView M) = set views port l in
      let Old : ℕ → QueueView M → Type 0 = λ j u. IsPrefix u.sent h.sent × IsPrefix u.got h.got × (u.pushes ≡ true → IsEndAt h.writer h.from h.to h.depth j u × (u.sent ≡ h.sent)) × (u.pops ≢ true) in
      let old : (j : ℕ) (u : QueueView M) → get_elem? vs j ≡ some u → Old j u = all_set Old views port l
      (mine.some_sent, mine.some_got, (λ _. (record { port_is = sender.0.port_is; from_is = sender.0.from_is; to_is = sender.0.to_is; depth_is = sender.0.depth_is }, sender.1)), λ p. true≢false (sym p))
      (λ j u other e. let k = h.knows j u e in (k.some_sent, k.some_got, k.sends, λ p. other ((k.gets p).0.port_is ∙ sym receiver.0.port_is))) in
      record {
        writer = h.writer;
        reader = length vs;
        from = h.from;
        to = h.to;
        depth = h.depth;
        sent = h.sent;
        got = h.got;
        whole = h.whole;
        bounded = h.bounded;
        once = h.once;
        edge = h.edge;
        knows = λ j u e. ⊎_elim
            (λ x. let o = old j u x in record { some_sent = o.0; some_got = o.1; sends = o.2; gets = λ p. absurd (o.3 p) })
            (λ (is : r ≡ u).
            let place : j ≡ length vs = at_end vs r u j (λ x. (old j u x).3 (ap (λ (y : QueueView M). y.pops) (sym is))) e in
            subst (λ (y : ℕ × QueueView M). Knows h.writer (length vs) h.from h.to h.depth h.sent h.got y.0 y.1) (λ k. (sym place k, is k)) record {
              some_sent = mine.some_sent;
              some_got = mine.some_got;
              sends = λ p. absurd (true≢false (sym p));
              gets = λ _. (record { port_is = refl; from_is = receiver.0.from_is; to_is = receiver.0.to_is; depth_is = receiver.0.depth_is }, receiver.1);
            })
            (at_snoc vs r u j e);
      }

  -- a note is made of a view
  pub may_tell : (port : ℕ) (v : QueueView M) → Forks Rule port v v (note_view v)
  may_tell port v items views h at =
      let mine = h.knows port v at in
      let vs : List (QueueView M) = set views port v in
      let note : (j : ℕ) → Knows h.writer h.reader h.from h.to h.depth h.sent h.got j (note_view v) = λ j. record {
        some_sent = mine.some_sent;
        some_got = mine.some_got;
        sends = λ p. absurd (true≢false (sym p));
        gets = λ p. absurd (true≢false (sym p));
      } in
      record {
        writer = h.writer;
        reader = h.reader;
        from = h.from;
        to = h.to;
        depth = h.depth;
        sent = h.sent;
        got = h.got;
        whole = h.whole;
        bounded = h.bounded;
        once = h.once;
        edge = h.edge;
        knows = λ j u e. ⊎_elim
            (λ x. all_set (Knows h.writer h.reader h.from h.to h.depth h.sent h.got) views port v mine (λ k y _ z. h.knows k y z) j u x)
            (λ (is : note_view v ≡ u). subst (λ (y : QueueView M). Knows h.writer h.reader h.from h.to h.depth h.sent h.got j y) is (note j))
            (at_snoc vs (note_view v) u j e);
      }

  -- a view becomes another that the rule allows, and takes in a second one
  reads : (port : ℕ) (v : QueueView M) (other : ℕ) (u w : QueueView M) (items : List M) (views : List (QueueView M)) (h : Rule items views) → get_elem? views port ≡ some v → get_elem? views other ≡ some u
      → ((j : ℕ) → Knows h.writer h.reader h.from h.to h.depth h.sent h.got port w) → Rule items (set (set views port w) other blank)
  reads port v other u w items views h at there now = record {
    writer = h.writer;
    reader = h.reader;
    from = h.from;
    to = h.to;
    depth = h.depth;
    sent = h.sent;
    got = h.got;
    whole = h.whole;
    bounded = h.bounded;
    once = h.once;
    edge = h.edge;
    knows = all_set (Knows h.writer h.reader h.from h.to h.depth h.sent h.got) (set views port w) other blank (blank_knows h.writer h.reader h.from h.to h.depth h.sent h.got other)
        (λ j y _ e. all_set (Knows h.writer h.reader h.from h.to h.depth h.sent h.got) views port w (now 0) (λ k x _ z. h.knows k x z) j y e);
  }

  was_there : (views : List (QueueView M)) (port other : ℕ) (w u : QueueView M) → ¬ (other ≡ port) → get_elem? (set views port w) other ≡ some u → get_elem? views other ≡ some u
  was_there views port other w u two at = ⊎_elim (λ x. absurd (two x.0)) (λ x. x.1) (at_set views port other w u at)

  pub may_read_sent : (port : ℕ) (v : QueueView M) (other : ℕ) (u : QueueView M) → v.pushes ≡ false → Merges Rule port v other u (knowing_sent v u) blank
  may_read_sent port v other u pushes_not items views h at two at' =
      let mine = h.knows port v at in
      let there = was_there views port other (knowing_sent v u) u two at' in
      let theirs = h.knows other u there in
      reads port v other u (knowing_sent v u) items views h at there (λ _. record {
        some_sent = theirs.some_sent;
        some_got = mine.some_got;
        sends = λ p. absurd (not_true v.pushes pushes_not p);
        gets = λ p. let g = mine.gets p in (record { port_is = g.0.port_is; from_is = g.0.from_is; to_is = g.0.to_is; depth_is = g.0.depth_is }, g.1);
      })

  pub may_read_got : (port : ℕ) (v : QueueView M) (other : ℕ) (u : QueueView M) → v.pops ≡ false → Merges Rule port v other u (knowing_got v u) blank
  may_read_got port v other u pops_not items views h at two at' =
      let mine = h.knows port v at in
      let there = was_there views port other (knowing_got v u) u two at' in
      let theirs = h.knows other u there in
      reads port v other u (knowing_got v u) items views h at there (λ _. record {
        some_sent = mine.some_sent;
        some_got = theirs.some_got;
        sends = λ p. let s = mine.sends p in (record { port_is = s.0.port_is; from_is = s.0.from_is; to_is = s.0.to_is; depth_is = s.0.depth_is }, s.1);
        gets = λ p. absurd (not_true v.pops pops_not p);
      })

  -- both ends come into one hand
  pub may_meet : (port : ℕ) (v : QueueView M) (other : ℕ) (u : QueueView M) → v.pushes ≡ true → u.pops ≡ true → Merges Rule port v other u (both_view v u) blank
  may_meet port v other u pushes pops items views h at two at' =
      let both : QueueView M = both_view v u in
      let mine = h.knows port v at in
      let sender = mine.sends pushes in
      let vs : List (QueueView M) = set views port both in
      let there = was_there views port other both u two at' in
      let theirs = h.knows other u there in
      let receiver = theirs.gets pops in
      let Now : ℕ → QueueView M → Type 0 = λ j y. j ≢ other → Knows h.writer port h.from h.to h.depth h.sent h.got j y in
      let now : (j : ℕ) (y : QueueView M) → get_elem? vs j ≡ some y → Now j y = all_set Now views port both
      (λ _. record {
        some_sent = mine.some_sent;
        some_got = theirs.some_got;
        sends = λ _. (record { port_is = sender.0.port_is; from_is = sender.0.from_is; to_is = sender.0.to_is; depth_is = sender.0.depth_is }, sender.1);
        gets = λ _. (record { port_is = refl; from_is = sender.0.from_is; to_is = sender.0.to_is; depth_is = sender.0.depth_is }, receiver.1);
      })
      (λ j y _ e apart. let k = h.knows j y e in record {
        some_sent = k.some_sent;
        some_got = k.some_got;
        sends = k.sends;
        gets = λ p. absurd (apart ((k.gets p).0.port_is ∙ sym receiver.0.port_is));
      }) in
      record {
        writer = h.writer;
        reader = port;
        from = h.from;
        to = h.to;
        depth = h.depth;
        sent = h.sent;
        got = h.got;
        whole = h.whole;
        bounded = h.bounded;
        once = h.once;
        edge = h.edge;
        knows = all_set (Knows h.writer port h.from h.to h.depth h.sent h.got) vs other blank (blank_knows h.writer port h.from h.to h.depth h.sent h.got other) (λ j y apart e. now j y e apart);
      }

  pub met : (port : ℕ) (v : QueueView M) → v.pushes ≡ true → v.pops ≡ true → Learns Rule port v (Met names v)
  met port v pushes pops items views h at =
      let mine = h.knows port v at in
      let sender = mine.sends pushes in
      let receiver = mine.gets pops in (
        sender.1 ∙ (h.whole ∙ ap (λ l. l ++ items) (sym receiver.1)),
        (let d = sender.0.depth_is in let b = h.bounded in omega arith),
        subst (λ l. Distinct (names_of names l)) (sym sender.1) h.once,
      )
