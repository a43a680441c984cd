-- Lines as they mostly are, one after the other.
use Rattle.std.proofs.Common.{◌≡◌, ◌+◌, ◌^◌, ◌<◌, ℕ, Ok, Err, List, [], ◌∷◌, ◌++◌, length, refl, ap, sym, ◌∙◌, append_assoc, arith, length-append}
use Rattle.std.specs.Prelude.{codes}
use Rattle.std.specs.List.{enumerate_from, join_with_byte}
use Rattle.mp_events.specs.declared.refused.EventsReason.{EventsReason}
use Rattle.mp_events.specs.Events.{events_of}
use Rattle.mp_events.specs.Lines.{event_rules}
use Rattle.mp_events.specs.Usual.{AreReadFirst, BeginsWithEvent, BeginsWithName, BeginsWithNumber, refused_behind}
use Rattle.mp_events.proofs.EventLines.{IsLineOf, IsNamed, IsNumeral, auction_line, bid_line, first_line, person_line}
use Rattle.mp_events.proofs.Renumbered.{fails_again, number_within, passes_again, said_again, said_is}
use Rattle.mp_lines.specs.declared.refused.FileRefused.{FileRefused}
use Rattle.mp_lines.specs.declared.refused.FileRefused.TheVariants.{BadLine, NoMemory}
use Rattle.mp_lines.specs.Files.{failures_from, file_of, filled, said_after}
use Rattle.mp_lines.specs.Refusals.{IfBadLine}
use Rattle.mp_model.specs.declared.record.Event.{Event}
use Rattle.mp_model.specs.declared.value.Value.TheVariants.{Person, Auction, Bid}
use Rattle.mp_names.specs.Limits.{greatest_id, greatest_price, greatest_time, most_events}
use Rattle.mp_text.proofs.LineLemmas.{length-lines_of}
use Rattle.mp_text.specs.Lines.{lines_of}

-- a field, and those behind it
onto : (f g : List ℕ) (gs : List (List ℕ)) (text behind rest : List ℕ) → text ≡ f ++ 124 ∷ behind → behind ≡ join_with_byte 124 (g ∷ gs) ++ 10 ∷ rest
    → text ≡ join_with_byte 124 (f ∷ g ∷ gs) ++ 10 ∷ rest
onto f g gs text behind rest e more = e ∙ ap (λ l. f ++ 124 ∷ l) more ∙ sym (append_assoc f (124 ∷ join_with_byte 124 (g ∷ gs)) (10 ∷ rest))

-- the fields of a line, and a line feed
line_found : (fields : List (List ℕ)) (event : Event) (text rest : List ℕ) → IsLineOf fields event → text ≡ join_with_byte 124 fields ++ 10 ∷ rest → BeginsWithEvent text event rest
line_found fields event text rest h e = record {
  line = join_with_byte 124 fields;
  is = e;
  alone = h.alone;
  stays = h.stays;
  filled = h.filled;
  fails = λ before low. rw h.cuts (h.fails before low);
  says = rw h.cuts h.says;
}

numeral : (text : List ℕ) (end greatest value : ℕ) (rest : List ℕ) → (h : BeginsWithNumber text end greatest value rest) → IsNumeral value greatest h.digits
numeral text end greatest value rest h = record { is = h.number; worth = h.worth; within = h.within }

named : (text : List ℕ) (end : ℕ) (name rest : List ℕ) → BeginsWithName text end name rest → IsNamed name
named text end name rest h = record { named = h.named; plain = h.plain }

pub bid_found : (time auction bidder price : ℕ) (text t a b rest : List ℕ)
    → BeginsWithNumber text 124 greatest_time time t → BeginsWithNumber t 124 greatest_id auction a → BeginsWithNumber a 124 greatest_id bidder b
    → BeginsWithNumber b 10 greatest_price price rest → BeginsWithEvent (66 ∷ 124 ∷ text) (record { time = time; value = Bid auction bidder price }) rest
bid_found time auction bidder price text t a b rest ht ha hb hp =
    line_found _ _ _ _
    (bid_line time auction bidder price ht.digits ha.digits hb.digits hp.digits (numeral _ _ _ _ _ ht) (numeral _ _ _ _ _ ha) (numeral _ _ _ _ _ hb) (numeral _ _ _ _ _ hp))
    (onto (codes "B") ht.digits (ha.digits ∷ hb.digits ∷ hp.digits ∷ []) _ text rest refl (onto ht.digits ha.digits (hb.digits ∷ hp.digits ∷ []) _ t rest ht.is (onto ha.digits hb.digits (hp.digits ∷ []) _ a rest ha.is (onto hb.digits hp.digits [] _ b rest hb.is hp.is))))

pub auction_found : (time id seller category reserve expires : ℕ) (text t i s c r rest : List ℕ)
    → BeginsWithNumber text 124 greatest_time time t → BeginsWithNumber t 124 greatest_id id i → BeginsWithNumber i 124 greatest_id seller s
    → BeginsWithNumber s 124 greatest_id category c → BeginsWithNumber c 124 greatest_price reserve r → BeginsWithNumber r 10 greatest_time expires rest → time < expires
    → BeginsWithEvent (65 ∷ 124 ∷ text) (record { time = time; value = Auction id seller category reserve expires }) rest
auction_found time id seller category reserve expires text t i s c r rest ht hi hs hc hr he later =
    line_found _ _ _ _
    (auction_line time id seller category reserve expires ht.digits hi.digits hs.digits hc.digits hr.digits he.digits (numeral _ _ _ _ _ ht) (numeral _ _ _ _ _ hi) (numeral _ _ _ _ _ hs) (numeral _ _ _ _ _ hc) (numeral _ _ _ _ _ hr) (numeral _ _ _ _ _ he) later)
    (onto (codes "A") ht.digits (hi.digits ∷ hs.digits ∷ hc.digits ∷ hr.digits ∷ he.digits ∷ []) _ text rest refl (onto ht.digits hi.digits (hs.digits ∷ hc.digits ∷ hr.digits ∷ he.digits ∷ []) _ t rest ht.is (onto hi.digits hs.digits (hc.digits ∷ hr.digits ∷ he.digits ∷ []) _ i rest hi.is (onto hs.digits hc.digits (hr.digits ∷ he.digits ∷ []) _ s rest hs.is (onto hc.digits hr.digits (he.digits ∷ []) _ c rest hc.is (onto hr.digits he.digits [] _ r rest hr.is he.is))))))

pub person_found : (time id : ℕ) (name city state text t i n c rest : List ℕ)
    → BeginsWithNumber text 124 greatest_time time t → BeginsWithNumber t 124 greatest_id id i → BeginsWithName i 124 name n
    → BeginsWithName n 124 city c → BeginsWithName c 10 state rest
    → BeginsWithEvent (80 ∷ 124 ∷ text) (record { time = time; value = Person id name city state }) rest
person_found time id name city state text t i n c rest ht hi hn hc hs =
    line_found _ _ _ _
    (person_line time id ht.digits hi.digits name city state (numeral _ _ _ _ _ ht) (numeral _ _ _ _ _ hi) (named _ _ _ _ hn) (named _ _ _ _ hc) (named _ _ _ _ hs) hs.stays)
    (onto (codes "P") ht.digits (hi.digits ∷ name ∷ city ∷ state ∷ []) _ text rest refl (onto ht.digits hi.digits (name ∷ city ∷ state ∷ []) _ t rest ht.is (onto hi.digits name (city ∷ state ∷ []) _ i rest hi.is (onto name city (state ∷ []) _ n rest hn.is (onto city state [] _ c rest hc.is hs.is)))))

-- one line more is read
pub one_more : (text : List ℕ) (events : List Event) (rest : List ℕ) (event : Event) (behind : List ℕ) → AreReadFirst text events rest → length events < most_events
    → BeginsWithEvent rest event behind → AreReadFirst text (events ++ event ∷ []) behind
one_more text events rest event behind h low next =
    let cut : lines_of rest ≡ next.line ∷ lines_of behind = ap lines_of next.is ∙ first_line next.line behind next.alone next.stays in
    let count : length events + 1 + 1 ≡ length (events ++ event ∷ []) + 1 = omega (arith, length-append events (event ∷ [])) in
    record {
      failures = h.failures ∙ rw (cut, next.filled, next.fails (length events) low, next.says) (ap (λ n. failures_from event_rules (events ++ event ∷ []) (filled (enumerate_from n (lines_of behind)))) count);
      said =
          h.said
          ∙ rw (cut, next.filled) (ap (λ es. said_after event_rules (events ++ es) (filled (enumerate_from (length events + 1 + 1) (lines_of behind)))) next.says)
          ∙ ap (λ n. said_after event_rules (events ++ event ∷ []) (filled (enumerate_from n (lines_of behind)))) count;
      few = omega (arith, low, length-append events (event ∷ []));
      shorter = omega (arith, h.shorter, length-append events (event ∷ []), ap length next.is, length-append next.line (10 ∷ behind));
    }

-- The first lines and those behind them

module _ (text : List ℕ) (events : List Event) (rest : List ℕ) (h : AreReadFirst text events rest) where
  -- the lines behind, under their own numbers, tell what the file says
  pub rest_passes : (all : List Event) → file_of event_rules events rest ≡ Ok all → events_of text ≡ Ok all
  rest_passes all e =
      let lines : List (List ℕ) = lines_of rest in
      let said : List Event = said_after event_rules events (filled (enumerate_from 1 lines)) in
      let is = said_is (failures_from event_rules events (filled (enumerate_from 1 lines))) said all e in
      let same = said_again event_rules lines (length events + 1) 1 events in
      rw (h.failures, h.said) (passes_again event_rules lines (length events + 1) 1 events said (said_after event_rules events (filled (enumerate_from (length events + 1) lines))) all e) ∙ ap Ok (same ∙ is)

  pub rest_fails : (number : ℕ) (why : EventsReason) → file_of event_rules events rest ≡ Err (number, why) → events_of text ≡ Err (number + length events, why)
  rest_fails number why e =
      let next : length events + 1 ≡ 1 + length events = omega arith in
      rw (h.failures, h.said, next) (fails_again event_rules (lines_of rest) (length events) 1 events _ _ number why e)

  -- there are not too many lines to number them
  pub few_lines : (refused : FileRefused EventsReason) → IfBadLine refused (λ number why. file_of event_rules events rest ≡ Err (number, why)) → length text < 2 ^ 64
      → IfBadLine refused (λ number _. number + length events < 2 ^ 64)
  few_lines (BadLine number why) e short =
      let within = number_within event_rules (lines_of rest) 1 events _ number why e in
      omega (arith, within, length-lines_of rest, h.shorter, short)
  few_lines NoMemory e short = tt

  pub refused_there : (refused : FileRefused EventsReason) → IfBadLine refused (λ number why. file_of event_rules events rest ≡ Err (number, why))
      → IfBadLine (refused_behind (length events) refused) (λ number why. events_of text ≡ Err (number, why))
  refused_there (BadLine number why) e = rest_fails number why e
  refused_there NoMemory e = tt
