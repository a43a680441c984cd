-- Pieces of a file, and the first lines of it.
use Rattle.std.proofs.lemmas.List.{append-nil, drop-drop, drop_at, take-append-drop, take_all}
use Rattle.std.proofs.Common.{◌≡◌, ◌+◌, ◌-◌, ◌≤◌, ℕ, List, [], ◌∷◌, ◌++◌, length, take, drop, refl, ap, sym, subst, ◌∙◌, append_assoc, arith, length-append, length-take, length-drop}
use Rattle.mp_events.specs.declared.piece.Piece.{Piece}
use Rattle.mp_events.specs.Pieces.{BeginsWithEvents, IsPieceOf}
use Rattle.mp_events.specs.Usual.{AreReadFirst, BeginsWithEvent}
use Rattle.mp_events.proofs.UsualLines.{one_more}
use Rattle.mp_model.specs.declared.record.Event.{Event}
use Rattle.mp_names.specs.Limits.{most_events}

-- events, and those behind them
pub joined : (text : List ℕ) (events more : List Event) (rest behind : List ℕ) → BeginsWithEvents text events rest → BeginsWithEvents rest more behind
    → BeginsWithEvents text (events ++ more) behind
joined text [] more rest behind h next = subst (λ t. BeginsWithEvents t more behind) (sym h) next
joined text (event ∷ events) more rest behind h next = (h.0, h.1, joined h.0 events more rest behind h.2 next)

-- one event more
pub one_event_more : (text : List ℕ) (events : List Event) (rest : List ℕ) (event : Event) (behind : List ℕ) → BeginsWithEvents text events rest
    → BeginsWithEvent rest event behind → BeginsWithEvents text (events ++ event ∷ []) behind
one_event_more text events rest event behind h next = joined text events (event ∷ []) rest behind h (behind, next, refl)

-- where a text begins with an event, so does a longer one
line_extended : (text : List ℕ) (event : Event) (rest more : List ℕ) → BeginsWithEvent text event rest → BeginsWithEvent (text ++ more) event (rest ++ more)
line_extended text event rest more h = record {
  line = h.line;
  is = ap (λ t. t ++ more) h.is ∙ append_assoc h.line (10 ∷ rest) more;
  alone = h.alone;
  stays = h.stays;
  filled = h.filled;
  fails = h.fails;
  says = h.says;
}

-- and with events
pub extended : (text : List ℕ) (events : List Event) (rest more : List ℕ) → BeginsWithEvents text events rest → BeginsWithEvents (text ++ more) events (rest ++ more)
extended text [] rest more h = ap (λ t. t ++ more) h
extended text (event ∷ events) rest more h = (h.0 ++ more, line_extended text event h.0 more h.1, extended h.0 events rest more h.2)

-- the lines of the events stand before the rest
front_of : (text : List ℕ) (events : List Event) (rest : List ℕ) → BeginsWithEvents text events rest → (front : List ℕ) × (text ≡ front ++ rest)
front_of text [] rest h = ([], h)
front_of text (event ∷ events) rest h =
    let behind = front_of h.0 events rest h.2 in
    let line = h.1.line in
    (line ++ 10 ∷ behind.0, h.1.is ∙ ap (λ t. line ++ 10 ∷ t) behind.1 ∙ sym (append_assoc line (10 ∷ behind.0) rest))

-- the first lines are read, and those behind them
read_on : (text : List ℕ) (before : List Event) (middle : List ℕ) (events : List Event) (rest : List ℕ) → AreReadFirst text before middle
    → BeginsWithEvents middle events rest → length before + length events ≤ most_events → AreReadFirst text (before ++ events) rest
read_on text before middle [] rest h next few = rw append-nil (subst (AreReadFirst text before) next h)
read_on text before middle (event ∷ events) rest h next few =
    let more = one_more text before middle event next.0 h (omega (arith, few)) next.1 in
    subst (λ es. AreReadFirst text es rest) (append_assoc before (event ∷ []) events)
    (read_on text (before ++ event ∷ []) next.0 events rest more next.2 (omega (arith, few, length-append before (event ∷ []))))

-- events that a text begins with are those of its first lines
pub read_first : (text : List ℕ) (events : List Event) (rest : List ℕ) → BeginsWithEvents text events rest → length events ≤ most_events
    → AreReadFirst text events rest
read_first text events rest h few = read_on text [] text events rest (record { failures = refl; said = refl; few = omega arith; shorter = omega arith }) h (omega (arith, few))

-- a part of a file from one place to another
module _ (text part rest : List ℕ) (start end : ℕ) (events : List Event) (is : part ≡ take (end - start) (drop start text)) (ordered : start ≤ end)
    (within : end ≤ length text) (h : BeginsWithEvents part events rest) where
  whole : part ++ drop end text ≡ drop start text
  whole =
      let there : start + (end - start) ≡ end = omega arith in
      let behind : drop (end - start) (drop start text) ≡ drop end text = drop-drop (end - start) start text ∙ ap (λ n. drop n text) there in
      rw (is, ← behind) (take-append-drop (end - start) (drop start text))

  -- what is behind the events is no longer than the part
  pub part_within : start + length rest ≤ end
  part_within =
      let front = front_of part events rest h in
      omega (arith, ap length is, ap length front.1, length-append front.0 rest, length-take (end - start) (drop start text), length-drop start text, ordered, within)

  behind : drop (end - length rest) text ≡ rest ++ drop end text
  behind =
      let front = front_of part events rest h in
      let lines = front.0 in
      let place : start + length lines ≡ end - length rest =
      omega (arith, ap length is, ap length front.1, length-append lines rest, length-take (end - start) (drop start text), length-drop start text, ordered, within) in
      let parts : drop start text ≡ lines ++ (rest ++ drop end text) = sym whole ∙ ap (λ t. t ++ drop end text) front.1 ∙ append_assoc lines rest (drop end text) in
      ap (λ n. drop n text) (sym place)
      ∙ sym (drop-drop (length lines) start text)
      ∙ ap (drop (length lines)) parts
      ∙ drop_at lines (rest ++ drop end text) (length lines) refl

  -- of the file the same lines begin with the events
  pub part_begins : BeginsWithEvents (drop start text) events (drop (end - length rest) text)
  part_begins =
      subst (λ b. BeginsWithEvents (drop start text) events b) (sym behind)
      (subst (λ t. BeginsWithEvents t events (rest ++ drop end text)) whole (extended part events rest (drop end text) h))

-- the lines of a piece that begins the file are its first ones
pub piece_first : (text : List ℕ) (piece : Piece) (events : List Event) (end : ℕ) → IsPieceOf text piece → piece.start ≡ 0 → events ≡ piece.events.items → end ≡ piece.end
    → AreReadFirst text events (take (length text - end) (drop end text))
piece_first text piece events end h first same there =
    let P : ℕ → Type 0 = λ n. BeginsWithEvents (drop n text) piece.events.items (drop piece.end text) in
    let whole : take (length text - piece.end) (drop piece.end text) ≡ drop piece.end text = take_all _ _ (omega (arith, length-drop piece.end text)) in
    rw (same, there, whole) (read_first text piece.events.items (drop piece.end text) (subst P first h.begins) h.few)

-- a piece, and the one behind it
pub piece_more : (text : List ℕ) (all next piece : Piece) → IsPieceOf text all → IsPieceOf text next → all.end ≡ next.start
    → length all.events.items + length next.events.items ≤ most_events → piece.start ≡ all.start → piece.end ≡ next.end
    → piece.events.items ≡ all.events.items ++ next.events.items → IsPieceOf text piece
piece_more text all next piece h g meets few start end events =
    let lines : BeginsWithEvents (drop all.end text) next.events.items (drop next.end text) =
    subst (λ n. BeginsWithEvents (drop n text) next.events.items (drop next.end text)) (sym meets) g.begins in
    let both : BeginsWithEvents (drop all.start text) (all.events.items ++ next.events.items) (drop next.end text) =
    joined (drop all.start text) all.events.items next.events.items (drop all.end text) (drop next.end text) h.begins lines in
    record {
      ordered = omega (arith, start, end, meets, h.ordered, g.ordered);
      within = omega (arith, end, g.within);
      begins = rw (start, end, events) both;
      few = omega (arith, ap length events, length-append all.events.items next.events.items, few);
    }
