-- A packet that is sent or taken: the groups that wait by the wakes of its bin go or come with it.
use Rattle.std.proofs.Common.{◌≡◌, ◌≢◌, ℕ, zero, suc, ◌+◌, ◌&&◌, ◌==◌, Bool, true, false, not, cond, nat_le, nat_lt, List, [], ◌∷◌, map, ℤ, pos, negsuc, ◌+ℤ◌, ◌-ℤ◌, refl, sym, ap, ◌∙◌, subst, arith}
use Rattle.std.specs.List.{All, list_any}
use Rattle.std.specs.Prelude.{neg_ℤ}
use Rattle.std.proofs.lemmas.Bool.{and_left, eqb-true}
use Rattle.std.proofs.lemmas.Int.{ints}
use Rattle.std.proofs.lemmas.List.Elements.{All-cons, All-map, All-weaker}
use Rattle.std.proofs.lemmas.List.Kept.{AllPairs-cons}
use Rattle.std.proofs.lemmas.List.Sums.{sum_by-cons}
use Rattle.mp_names.specs.declared.locations.Loc.{Loc}
use Rattle.mp_names.specs.declared.locations.Loc.TheVariants.{Ctl, CtlMail, Source, Route, Mail, Move, State, Host, OutRoute, OutMail}
use Rattle.mp_names.specs.declared.names.Name.{Name}
use Rattle.mp_names.specs.declared.names.Name.TheVariants.{Packet, Group, Settled}
use Rattle.mp_names.specs.Frontiers.{contribution}
use Rattle.mp_names.specs.Logs.{Log, brings_wake, is_ctrl_of, is_packet_after, is_pending, is_record_of, left_since, with_sent, with_took}
use Rattle.mp_names.specs.Names.{has, In, is_ctrl, is_packet, is_rec, is_row}
use Rattle.mp_names.specs.Outlines.{Outline, OutlineIsSound, ctrl_names, groups_of}
use Rattle.mp_names.proofs.Listed.{groups_are}
use Rattle.mp_stamps.specs.Counts.{same_loc}
use Rattle.mp_rows.specs.Entries.{AreChanges, change_at, sum_at}
use Rattle.mp_rows_laws.specs.Changes.{AreMore, number_in, one_less, one_more, packet_sent_at, packet_taken_at, waiting_at}
use Rattle.mp_rows_laws.proofs.Entries.{IsApart, IsNotZero, nothing, same_loc_of}
use Rattle.mp_rows_laws.proofs.Numbers.{number_same}
use Rattle.mp_rows_laws.proofs.Parts.{brought_same, pending_same}
use Rattle.mp_rows_laws.proofs.Places.{no_control, no_record, no_row}
use Rattle.mp_rows_laws.proofs.Pushes.{any_other, number_push}
use Rattle.mp_rows_laws.proofs.Sent.{held_kept as sent_held, mail_kept as sent_mail}
use Rattle.mp_rows_laws.proofs.Times.{once_at}
use Rattle.mp_rows_laws.proofs.Took.{held_same as took_held, mail_kept as took_mail}

-- Entries with a number at each time

number_cons : (n : ℕ × ℕ) (ns : List (ℕ × ℕ)) (u : ℕ) → number_in (n ∷ ns) u ≡ cond (n.0 == u) n.1 0 + number_in ns u
number_cons n ns u = sum_by-cons (λ m. cond (m.0 == u) m.1 0) n ns

add_one : (c d : Bool) (n m k : ℕ) (z : ℤ) → k ≡ cond d n 0 + m → z ≡ pos (cond c m 0) → cond (c && d) (pos n) (pos 0) +ℤ z ≡ pos (cond c k 0)
add_one true true n m k z e f = omega (arith, ints)
add_one true false n m k z e f = omega (arith, ints)
add_one false d n m k z e f = omega (arith, ints)

pub sum_come : (at : Loc) (ns : List (ℕ × ℕ)) (loc : Loc) (u : ℕ) → sum_at (map (λ n. change_at at n.0 (pos n.1)) ns) loc u ≡ pos (cond (same_loc at loc) (number_in ns u) 0)
sum_come at [] loc u = none (same_loc at loc)
  where
    none : (b : Bool) → pos 0 ≡ pos (cond b 0 0)
    none true = refl
    none false = refl
sum_come at (n ∷ ns) loc u = add_one (same_loc at loc) (n.0 == u) n.1 (number_in ns u) (number_in (n ∷ ns) u) _ (number_cons n ns u) (sum_come at ns loc u)

take_one : (c d : Bool) (n m k : ℕ) (z : ℤ) → k ≡ cond d n 0 + m → z ≡ pos 0 -ℤ pos (cond c m 0) → cond (c && d) (neg_ℤ (pos n)) (pos 0) +ℤ z ≡ pos 0 -ℤ pos (cond c k 0)
take_one true true n m k z e f = omega (arith, ints)
take_one true false n m k z e f = omega (arith, ints)
take_one false d n m k z e f = omega (arith, ints)

pub sum_left : (at : Loc) (ns : List (ℕ × ℕ)) (loc : Loc) (u : ℕ) → sum_at (map (λ n. change_at at n.0 (neg_ℤ (pos n.1))) ns) loc u ≡ pos 0 -ℤ pos (cond (same_loc at loc) (number_in ns u) 0)
sum_left at [] loc u = none (same_loc at loc)
  where
    none : (b : Bool) → pos 0 ≡ pos 0 -ℤ pos (cond b 0 0)
    none true = refl
    none false = refl
sum_left at (n ∷ ns) loc u = take_one (same_loc at loc) (n.0 == u) n.1 (number_in ns u) (number_in (n ∷ ns) u) _ (number_cons n ns u) (sum_left at ns loc u)

-- one at the packets, and numbers at the hosts

at_packets : (b : Bool) (n m k : ℕ) → n ≡ m + cond b 1 0 → cond b (pos 1) (pos 0) +ℤ (pos 0 -ℤ pos 0) ≡ (pos n -ℤ pos k) -ℤ (pos m -ℤ pos k)
at_packets true n m k e = omega (arith, ints)
at_packets false n m k e = omega (arith, ints)

at_packets_less : (b : Bool) (n m k : ℕ) → n ≡ m + cond b 1 0 → cond b (negsuc 0) (pos 0) +ℤ pos 0 ≡ (pos k -ℤ pos n) -ℤ (pos k -ℤ pos m)
at_packets_less true n m k e = omega (arith, ints)
at_packets_less false n m k e = omega (arith, ints)

fewer_wait : (c : Bool) (n x y : ℕ) → (c ≡ true → y ≡ x + n) → (c ≡ false → x ≡ y) → pos 0 +ℤ (pos 0 -ℤ pos (cond c n 0)) ≡ pos x -ℤ pos y
fewer_wait true n x y f g = let h = f refl in omega (arith, ints)
fewer_wait false n x y f g = let h = g refl in omega (arith, ints)

more_wait : (c : Bool) (n x y : ℕ) → (c ≡ true → x ≡ y + n) → (c ≡ false → x ≡ y) → pos 0 +ℤ pos (cond c n 0) ≡ pos x -ℤ pos y
more_wait true n x y f g = let h = f refl in omega (arith, ints)
more_wait false n x y f g = let h = g refl in omega (arith, ints)

-- the groups of a stage, by each one
of_stage : (o : Outline) → OutlineIsSound o → (w : ℕ) (new log : Log) (i u : ℕ) → ((s k : ℕ) → is_pending o w new (Group i s k) ≡ is_pending o w log (Group i s k)) → waiting_at o w new i u ≡ waiting_at o w log i u
of_stage o ok w new log i u h = number_same o u (is_pending o w new) (is_pending o w log) (groups_of o i) same
  where
    same : (y : Name) → In y (groups_of o i) → is_pending o w new y ≡ is_pending o w log y
    same (Group n s k) g = subst (λ (m : ℕ). is_pending o w new (Group m s k) ≡ is_pending o w log (Group m s k)) (sym (eqb-true n i (groups_are o ok i (Group n s k) g).1)) (h s k)
    same _ g = refl

module _ (o : Outline) (w : ℕ) (log : Log) (ok : OutlineIsSound o) (j b t : ℕ) (left : List (ℕ × ℕ)) (more : AreMore o w j (with_sent log (Packet j b t)) log left) where
  abbrev packet : Name
  packet = Packet j b t

  abbrev sent : Log
  sent = with_sent log packet

  other_stage : (i u : ℕ) → (j == i) ≡ false → waiting_at o w sent i u ≡ waiting_at o w log i u
  other_stage i u e = of_stage o ok w sent log i u (λ s k. pending_same o log sent w i s k (λ m. refl) (kept (o.bin_of k)) (λ m. brought_same o log sent i (o.bin_of k) m s (kept (o.bin_of k)) log.took) refl)
    where
      kept : (c m : ℕ) → left_since sent i c m ≡ left_since log i c m
      kept c m = any_other (is_packet_after i c m) log.sent packet (and_left (j == i) (b == c && nat_lt m t) e)

  sent_body : (loc : Loc) (u : ℕ) → cond (same_loc (State j) loc && t == u) (pos 1) (pos 0) +ℤ (pos 0 -ℤ pos (cond (same_loc (Host j) loc) (number_in left u) 0)) ≡ contribution o w (with_sent log (Packet j b t)) loc u -ℤ contribution o w log loc u
  sent_body Ctl u = nothing _ _ (ap pos (sent_held o w log packet u (ctrl_names o) (no_control o ok packet refl)))
  sent_body CtlMail u = nothing _ _ (sent_mail o w log packet is_ctrl u refl)
  sent_body Source u = nothing (contribution o w log Source u) (contribution o w log Source u) refl
  sent_body (Route i) u = nothing _ _ (ap pos (sent_held o w log packet u (o.records i) (no_record o ok i packet refl)))
  sent_body (Mail i) u = nothing _ _ (sent_mail o w log packet (is_rec i) u refl)
  sent_body (Move i) u = nothing (contribution o w log (Move i) u) (contribution o w log (Move i) u) refl
  sent_body (State i) u = at_packets (j == i && t == u) _ _ _ (number_push o (is_packet i) u log.sent packet)
  sent_body (Host i) u =
      fewer_wait (j == i) (number_in left u) (waiting_at o w sent i u) (waiting_at o w log i u)
      (λ e. subst (λ (n : ℕ). waiting_at o w log n u ≡ waiting_at o w sent n u + number_in left u) (eqb-true j i e) (more.numbers u))
      (λ e. other_stage i u e)
  sent_body OutRoute u = nothing _ _ (ap pos (sent_held o w log packet u o.rows (no_row o ok packet refl)))
  sent_body OutMail u = nothing _ _ (sent_mail o w log packet is_row u refl)

  sent_apart : All (IsApart (one_more (State j) t)) (map (λ n. change_at (Host j) n.0 (neg_ℤ (pos n.1))) left)
  sent_apart = All-map (IsApart (one_more (State j) t)) (λ n. change_at (Host j) n.0 (neg_ℤ (pos n.1))) left (All-weaker (λ n. n.1 ≢ 0) (λ n. IsApart (one_more (State j) t) (change_at (Host j) n.0 (neg_ℤ (pos n.1)))) (λ n h e. other_place (same_loc_of (one_more (State j) t) (change_at (Host j) n.0 (neg_ℤ (pos n.1))) e)) left more.none_is_zero)
    where
      other_place : State j ≡ Host j → ⊥
      other_place e = cc

  not_nothing : (n : ℕ) → n ≢ 0 → neg_ℤ (pos n) ≢ pos 0
  not_nothing zero h e = h refl
  not_nothing (suc n) h e = cc

  pub packet_sent : AreChanges o w log (with_sent log (Packet j b t)) (packet_sent_at j t left)
  packet_sent = record {
    sums = λ loc u. ap (λ (z : ℤ). cond (same_loc (State j) loc && t == u) (pos 1) (pos 0) +ℤ z) (sum_left (Host j) left loc u) ∙ sent_body loc u;
    once = AllPairs-cons IsApart (one_more (State j) t) (map (λ n. change_at (Host j) n.0 (neg_ℤ (pos n.1))) left) sent_apart (once_at (Host j) (λ n. n.0) (λ n. neg_ℤ (pos n.1)) left more.once);
    none_by_zero =
        All-cons IsNotZero (one_more (State j) t) (map (λ n. change_at (Host j) n.0 (neg_ℤ (pos n.1))) left) (λ e. cc)
        (All-map IsNotZero (λ n. change_at (Host j) n.0 (neg_ℤ (pos n.1))) left (All-weaker (λ n. n.1 ≢ 0) (λ n. IsNotZero (change_at (Host j) n.0 (neg_ℤ (pos n.1)))) (λ n h. not_nothing n.1 h) left more.none_is_zero));
  }

module _ (o : Outline) (w : ℕ) (log : Log) (ok : OutlineIsSound o) (j b t : ℕ) (come : List (ℕ × ℕ)) (more : AreMore o w j log (with_took log (Packet j b t)) come) where
  abbrev bin_packet : Name
  bin_packet = Packet j b t

  abbrev took : Log
  took = with_took log bin_packet

  stage_kept : (i u : ℕ) → (j == i) ≡ false → waiting_at o w took i u ≡ waiting_at o w log i u
  stage_kept i u e = of_stage o ok w took log i u (λ s k. pending_same o log took w i s k (λ m. refl) (λ m. refl) (λ m. kept (o.bin_of k) m s) (any_other (is_record_of i s k) log.took bin_packet refl))
    where
      kept : (c m v : ℕ) → list_any (brings_wake took i c m v) took.took ≡ list_any (brings_wake log i c m v) log.took
      kept c m v =
          brought_same o log took i c m v (λ n. refl) took.took
          ∙ any_other (brings_wake log i c m v) log.took bin_packet (and_left (j == i) (b == c && (nat_lt m t && (nat_le t v && not (left_since log i c t)))) e)

  taken_body : (loc : Loc) (u : ℕ) → cond (same_loc (State j) loc && t == u) (negsuc 0) (pos 0) +ℤ pos (cond (same_loc (Host j) loc) (number_in come u) 0) ≡ contribution o w (with_took log (Packet j b t)) loc u -ℤ contribution o w log loc u
  taken_body Ctl u = nothing _ _ (ap pos (took_held o w log bin_packet u (ctrl_names o)))
  taken_body CtlMail u = nothing _ _ (took_mail o w log bin_packet is_ctrl u refl)
  taken_body Source u = nothing (contribution o w log Source u) (contribution o w log Source u) refl
  taken_body (Route i) u = nothing _ _ (ap pos (took_held o w log bin_packet u (o.records i)))
  taken_body (Mail i) u = nothing _ _ (took_mail o w log bin_packet (is_rec i) u refl)
  taken_body (Move i) u = nothing _ _ (ap (λ (c : Bool). pos (cond (c && not (has log.settled (Settled i u))) 1 0)) (any_other (is_ctrl_of o i u) log.took bin_packet refl))
  taken_body (State i) u = at_packets_less (j == i && t == u) _ _ _ (number_push o (is_packet i) u log.took bin_packet)
  taken_body (Host i) u =
      more_wait (j == i) (number_in come u) (waiting_at o w took i u) (waiting_at o w log i u)
      (λ e. subst (λ (n : ℕ). waiting_at o w took n u ≡ waiting_at o w log n u + number_in come u) (eqb-true j i e) (more.numbers u))
      (λ e. stage_kept i u e)
  taken_body OutRoute u = nothing _ _ (ap pos (took_held o w log bin_packet u o.rows))
  taken_body OutMail u = nothing _ _ (took_mail o w log bin_packet is_row u refl)

  taken_apart : All (IsApart (one_less (State j) t)) (map (λ n. change_at (Host j) n.0 (pos n.1)) come)
  taken_apart = All-map (IsApart (one_less (State j) t)) (λ n. change_at (Host j) n.0 (pos n.1)) come (All-weaker (λ n. n.1 ≢ 0) (λ n. IsApart (one_less (State j) t) (change_at (Host j) n.0 (pos n.1))) (λ n h e. other_place (same_loc_of (one_less (State j) t) (change_at (Host j) n.0 (pos n.1)) e)) come more.none_is_zero)
    where
      other_place : State j ≡ Host j → ⊥
      other_place e = cc

  same_number : (m n : ℕ) → pos m ≡ pos n → m ≡ n
  same_number m n e = cc

  pub packet_taken : AreChanges o w log (with_took log (Packet j b t)) (packet_taken_at j t come)
  packet_taken = record {
    sums = λ loc u. ap (λ (z : ℤ). cond (same_loc (State j) loc && t == u) (negsuc 0) (pos 0) +ℤ z) (sum_come (Host j) come loc u) ∙ taken_body loc u;
    once = AllPairs-cons IsApart (one_less (State j) t) (map (λ n. change_at (Host j) n.0 (pos n.1)) come) taken_apart (once_at (Host j) (λ n. n.0) (λ n. pos n.1) come more.once);
    none_by_zero =
        All-cons IsNotZero (one_less (State j) t) (map (λ n. change_at (Host j) n.0 (pos n.1)) come) (λ e. cc)
        (All-map IsNotZero (λ n. change_at (Host j) n.0 (pos n.1)) come (All-weaker (λ n. n.1 ≢ 0) (λ n. IsNotZero (change_at (Host j) n.0 (pos n.1))) (λ n h e. h (same_number n.1 0 e)) come more.none_is_zero));
  }
