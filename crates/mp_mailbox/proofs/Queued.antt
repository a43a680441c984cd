-- Plain queues under a push and a pop.
-- `f` gives the messages of a queue, so that these lemmas fit queues as they are stored.
use Rattle.std.proofs.Common.{◌≡◌, ◌≢◌, ◌⊎◌, ℕ, suc, ◌+◌, ◌*◌, ◌<◌, ◌≤◌, List, [], ◌∷◌, ◌++◌, length, map, set, get_or, sym, ap, ◌∙◌, subst, ⊎_elim, arith, append_assoc, mul-le-mul_right, suc-mul, lt_of_not-le}
use mathlib.Core.Logic.{dite}
use native.Mathlib.Decide.{dec_le, ℕ_discrete}
use Rattle.std.proofs.lemmas.List.{map-append, map-set, get_or-map, get_or-set_same, get_or-set_other, get_or-replicate, length-map}
use Rattle.std.proofs.lemmas.List.Elements.{All-push, All-head, All-tail, All-nil}
use Rattle.mp_mailbox.specs.Names.{Distinct, names_of, OnEdge}
use Rattle.mp_mailbox.specs.Standing.{Denotes, AddsLast, AddsPushed, AddsPopped, PopsNew, KeepsEdge, KeepsOthers, KeepsOthersWaiting, KeepsWaiting, TakesFirst}
use Rattle.mp_mailbox.specs.Queues.{Queues, queue_between, PlainDenotes, PlainWaits, empty_queues}
use Rattle.mp_mailbox.proofs.NameLists.{Distinct-begin, Distinct-nil, names_of-push}

-- two edges have two places
below : (w f g t u : ℕ) → f < g → t < w → f * w + t ≢ g * w + u
below w f g t u less inside same = let rows : suc f * w ≤ g * w = mul-le-mul_right w less in absurd (omega (arith, suc-mul f w))

apart : (w f g t u : ℕ) → t < w → u < w → (f ≢ g) ⊎ (t ≢ u) → f * w + t ≢ g * w + u
apart w f g t u t_in u_in other same = dite (dec_le f g)
    (λ le. dite (ℕ_discrete f g)
    (λ one. ⊎_elim (λ n. n one) (λ n. n (let row : f * w ≡ g * w = ap (λ k. k * w) one in omega arith)) other)
    (λ two. below w f g t u (omega arith) t_in same))
    (λ above. below w g f u t (lt_of_not-le above) u_in (sym same))

pub place_inside : (w f t : ℕ) → f < w → t < w → f * w + t < w * w
place_inside w f t f_in t_in = let rows : suc f * w ≤ w * w = mul-le-mul_right w f_in in omega (arith, suc-mul f w)

module _ {M E : Type 0} (f : E → List M) (w d : ℕ) where
  -- the post with these queues
  abbrev pub post_of : List E → Queues M
  post_of es = record { workers = w; depth = d; queued = map f es }

  pub queue_here : (es : List E) (from to at : ℕ) (e : E) → at ≡ from * w + to → at < length es → e ≡ get_or es at e → queue_between (post_of es) from to ≡ f e
  queue_here es from to at e is inside read = ap (λ k. get_or (map f es) k []) (sym is) ∙ (get_or-map f es at e [] inside ∙ ap f (sym read))

  queue_set : (es : List E) (from to at : ℕ) (e : E) → at ≡ from * w + to → at < length es → queue_between (post_of (set es at e)) from to ≡ f e
  queue_set es from to at e is inside =
      ap (λ l. get_or l (from * w + to) []) (map-set f es at e)
      ∙ (ap (λ k. get_or (set (map f es) k (f e)) (from * w + to) []) is
      ∙ get_or-set_same (map f es) (from * w + to) (f e) [] (omega (arith, length-map es f)))

  queue_other : (es : List E) (from to at : ℕ) (e : E) (g u : ℕ) → at ≡ from * w + to → to < w → u < w → (g ≢ from) ⊎ (u ≢ to) → queue_between (post_of (set es at e)) g u ≡ queue_between (post_of es) g u
  queue_other es from to at e g u is to_in u_in other =
      ap (λ l. get_or l (g * w + u) []) (map-set f es at e)
      ∙ get_or-set_other (map f es) at (g * w + u) (f e) [] (λ same. apart w g from u to u_in to_in other (same ∙ is))

  module _ {N : Type 0} (names : M → List N) (message_from message_to : M → ℕ) (es : List E) (from to at : ℕ) (old new : E) where
    abbrev Old : ℕ → ℕ → List N → List N → Type 0
    Old = PlainDenotes names message_from message_to (post_of es)

    abbrev New : ℕ → ℕ → List N → List N → Type 0
    New = PlainDenotes names message_from message_to (post_of (set es at new))

    pub others : at ≡ from * w + to → to < w → KeepsOthers Old New from to
    others is to_in g u other pushed popped h =
        let same = queue_other es from to at new g u is to_in h.receiver other in record {
          sender = h.sender;
          receiver = h.receiver;
          whole = h.whole ∙ ap (λ q. popped ++ names_of names q) (sym same);
          once = h.once;
          edge = subst (λ q. OnEdge message_from message_to g u q) (sym same) h.edge;
        }

    pub kept : at ≡ from * w + to → at < length es → old ≡ get_or es at old → f new ≡ f old → KeepsEdge Old New from to
    kept is inside read stays pushed popped h =
        let same : queue_between (post_of (set es at new)) from to ≡ queue_between (post_of es) from to = queue_set es from to at new is inside ∙ (stays ∙ sym (queue_here es from to at old is inside read)) in record {
          sender = h.sender;
          receiver = h.receiver;
          whole = h.whole ∙ ap (λ q. popped ++ names_of names q) (sym same);
          once = h.once;
          edge = subst (λ q. OnEdge message_from message_to from to q) (sym same) h.edge;
        }

    pub pushes : (m : M) → at ≡ from * w + to → at < length es → old ≡ get_or es at old → f new ≡ f old ++ m ∷ [] → (message_from m ≡ from) × (message_to m ≡ to) → AddsPushed Old New from to (names m)
    pushes m is inside read grows way pushed popped h once =
        let was = queue_here es from to at old is inside read in
        let now : queue_between (post_of (set es at new)) from to ≡ queue_between (post_of es) from to ++ m ∷ [] = queue_set es from to at new is inside ∙ (grows ∙ ap (λ q. q ++ m ∷ []) (sym was)) in record {
          sender = h.sender;
          receiver = h.receiver;
          whole = ap (λ l. l ++ names m) h.whole
              ∙ (append_assoc popped (names_of names (queue_between (post_of es) from to)) (names m)
              ∙ ap (λ l. popped ++ l) (sym (ap (names_of names) now ∙ names_of-push names (queue_between (post_of es) from to) m)));
          once = once;
          edge = subst (λ q. OnEdge message_from message_to from to q) (sym now) (All-push (λ x. (message_from x ≡ from) × (message_to x ≡ to)) (queue_between (post_of es) from to) m h.edge way);
        }

    pops_one : (m : M) → at ≡ from * w + to → at < length es → old ≡ get_or es at old → f old ≡ m ∷ f new → (pushed popped : List N) → (h : Old from to pushed popped)
        → (pushed ≡ (popped ++ names m) ++ names_of names (f new)) × OnEdge message_from message_to from to (m ∷ f new)
    pops_one m is inside read leaves pushed popped h =
        let was : queue_between (post_of es) from to ≡ m ∷ f new = queue_here es from to at old is inside read ∙ leaves in (
          h.whole ∙ (ap (λ q. popped ++ names_of names q) was ∙ sym (append_assoc popped (names m) (names_of names (f new)))),
          subst (λ q. OnEdge message_from message_to from to q) was h.edge,
        )

    pub pops : (m : M) → at ≡ from * w + to → at < length es → old ≡ get_or es at old → f old ≡ m ∷ f new → AddsPopped Old New from to (names m)
    pops m is inside read leaves pushed popped h =
        let one = pops_one m is inside read leaves pushed popped h in
        let now = queue_set es from to at new is inside in record {
          sender = h.sender;
          receiver = h.receiver;
          whole = one.0 ∙ ap (λ q. (popped ++ names m) ++ names_of names q) (sym now);
          once = h.once;
          edge = subst (λ q. OnEdge message_from message_to from to q) (sym now) (All-tail (λ x. (message_from x ≡ from) × (message_to x ≡ to)) m (f new) one.1);
        }

    pub pops_edge : (m : M) → at ≡ from * w + to → at < length es → old ≡ get_or es at old → f old ≡ m ∷ f new → Denotes Old from to → (message_from m ≡ from) × (message_to m ≡ to)
    pops_edge m is inside read leaves (pushed, popped, h) = All-head (λ x. (message_from x ≡ from) × (message_to x ≡ to)) m (f new) (pops_one m is inside read leaves pushed popped h).1

    pub pops_new : (m : M) → at ≡ from * w + to → at < length es → old ≡ get_or es at old → f old ≡ m ∷ f new → PopsNew Old from to (names m)
    pops_new m is inside read leaves pushed popped h =
        Distinct-begin (popped ++ names m) (names_of names (f new)) (subst (λ l. Distinct l) (pops_one m is inside read leaves pushed popped h).0 h.once)

  -- the messages that wait, by their names
  module _ {N : Type 0} (names : M → List N) (es : List E) (from to at : ℕ) (old new : E) (is : at ≡ from * w + to) where
    abbrev Before : ℕ → ℕ → List (List N) → Type 0
    Before = PlainWaits names (post_of es)

    abbrev After : ℕ → ℕ → List (List N) → Type 0
    After = PlainWaits names (post_of (set es at new))

    module _ (inside : at < length es) (read : old ≡ get_or es at old) where
      was : queue_between (post_of es) from to ≡ f old
      was = queue_here es from to at old is inside read

      now : queue_between (post_of (set es at new)) from to ≡ f new
      now = queue_set es from to at new is inside

      pub adds_last : (m : M) → f new ≡ f old ++ m ∷ [] → AddsLast Before After from to (names m)
      adds_last m grows messages h = record {
        sender = h.sender;
        receiver = h.receiver;
        queued = ap (map names) (now ∙ grows) ∙ map-append names (f old) (m ∷ []) ∙ ap (λ l. l ++ names m ∷ []) (sym (ap (map names) was) ∙ h.queued);
      }

      pub takes_first : (m : M) → f old ≡ m ∷ f new → TakesFirst Before After from to (names m)
      takes_first m leaves messages h =
          (map names (f new), sym h.queued ∙ ap (map names) (was ∙ leaves), record { sender = h.sender; receiver = h.receiver; queued = ap (map names) now })

      pub keeps_waiting : f new ≡ f old → KeepsWaiting Before After from to
      keeps_waiting stays messages h = record { sender = h.sender; receiver = h.receiver; queued = ap (map names) (now ∙ stays ∙ sym was) ∙ h.queued }

    pub others_wait : to < w → KeepsOthersWaiting Before After from to
    others_wait to_in g u other messages h =
        record { sender = h.sender; receiver = h.receiver; queued = ap (map names) (queue_other es from to at new g u is to_in h.receiver other) ∙ h.queued }

-- queues in which nothing waits
pub empty_stands : {M N : Type 0} (names : M → List N) (message_from message_to : M → ℕ) (w d from to : ℕ) → from < w → to < w → PlainDenotes names message_from message_to (empty_queues w d) from to [] []
empty_stands names message_from message_to w d from to from_in to_in =
    let none = get_or-replicate (w * w) (from * w + to) [] [] (place_inside w from to from_in to_in) in record {
      sender = from_in;
      receiver = to_in;
      whole = sym (ap (names_of names) none);
      once = Distinct-nil;
      edge = subst (λ q. OnEdge message_from message_to from to q) (sym none) (All-nil _);
    }
