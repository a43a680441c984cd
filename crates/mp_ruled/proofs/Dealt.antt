-- The ends of all queues, one more at a time.
use Rattle.std.proofs.Common.{◌≡◌, ℕ, zero, suc, ◌+◌, ◌<◌, List, [], ◌∷◌, ◌++◌, length, set, replicate, sym, refl, ap, ◌∙◌, subst, ⊎_elim, arith, length-set, length-append, Some, slice_get}
use Rattle.std.proofs.lemmas.List.{length-replicate}
use Rattle.std.proofs.lemmas.Option.{same_Some, none-some, slice_get_within}
use Rattle.mp_mailbox.specs.Names.{names_of}
use Rattle.mp_mailbox.proofs.NameLists.{Distinct-nil}
use Rattle.mp_ruled.specs.Ends.{EndState, IsNewEnd}
use Rattle.mp_ruled.specs.Own.{OwnState}
use Rattle.mp_ruled.specs.Posts.{PostState, AreNewPosts, AreLinked, StandForNone}
use Rattle.mp_ruled.specs.Dealing.{AreEnds, DealsRow, AreDealt, FitWorkers, HasItsEnds, HaveEnds}
use Rattle.mp_ruled.proofs.Places.{there_is, set_here, set_else, push_cases, push_old, push_new}

of_empty : {A : Type 0} (n k : ℕ) (a : List A) → slice_get (replicate n []) k ≡ Some a → length a ≡ 0
of_empty zero k a e = absurd (none-some a e)
of_empty (suc n) zero a e = ap length (sym (same_Some [] a e))
of_empty (suc n) (suc k) a e = of_empty n k a e

module _ {M : Type 0} where
  pub no_row : (from depth : ℕ) (columns : List (List (EndState M))) → DealsRow from depth [] columns columns
  no_row from depth columns = record {
    as_many = refl;
    dealt = λ to sender at. absurd (none-some sender at);
    others = λ to _. refl;
  }

  -- one more queue of the row
  pub row_more : (from to depth : ℕ) (row : List (EndState M)) (old new : List (List (EndState M))) (sender receiver : EndState M) (column : List (EndState M))
      → DealsRow from depth row old new → length row ≡ to → slice_get new to ≡ Some column → AreEnds from to depth sender receiver
      → DealsRow from depth (row ++ sender ∷ []) old (set new to (column ++ receiver ∷ []))
  row_more from to depth row old new sender receiver column h many at ends =
      let inside : to < length new = slice_get_within new to column at in record {
        as_many = length-set new to (column ++ receiver ∷ []) ∙ h.as_many;
        dealt = λ k e is. ⊎_elim
            (λ (before : slice_get row k ≡ Some e).
            let d = h.dealt k e before in
            let near : k < length row = slice_get_within row k e before in
            (d.0, d.1, d.2, set_else new to k (column ++ receiver ∷ []) (λ same. absurd (omega arith)) ∙ d.3, d.4))
            (λ (now : (k ≡ length row) × (sender ≡ e)).
            let place : k ≡ to = now.0 ∙ many in (
              column,
              receiver,
              ap (λ j. slice_get old j) place ∙ (sym (h.others to (omega arith)) ∙ at),
              ap (λ j. slice_get (set new to (column ++ receiver ∷ [])) j) place ∙ set_here new to (column ++ receiver ∷ []) inside,
              subst (λ (y : ℕ × EndState M). AreEnds from y.0 depth y.1 receiver) (λ i. (sym place i, now.1 i)) ends,
            ))
            (push_cases row sender e k is);
        others = λ k past. set_else new to k (column ++ receiver ∷ []) (λ same. absurd (omega (arith, length-append row (sender ∷ [])))) ∙ h.others k (omega (arith, length-append row (sender ∷ [])));
      }

  pub none_dealt : (workers depth : ℕ) (columns : List (List (EndState M))) → columns ≡ replicate workers [] → AreDealt workers depth [] columns
  none_dealt workers depth columns is = record {
    all_columns = ap length is ∙ length-replicate workers [];
    wide = λ from row at. absurd (none-some row at);
    high = λ to column at. of_empty workers to column (ap (λ l. slice_get l to) (sym is) ∙ at);
    joint = λ from to row sender at _. absurd (none-some row at);
  }

  -- one more row
  pub rows_more : (workers depth from : ℕ) (rows old new : List (List (EndState M))) (row : List (EndState M)) → AreDealt workers depth rows old → DealsRow from depth row old new → length row ≡ workers → length rows ≡ from
      → AreDealt workers depth (rows ++ row ∷ []) new
  rows_more workers depth from rows old new row h d wide place =
      let long : length (rows ++ row ∷ []) ≡ length rows + 1 = length-append rows (row ∷ []) in record {
        all_columns = d.as_many ∙ h.all_columns;
        wide = λ k r at. ⊎_elim (λ (before : slice_get rows k ≡ Some r). h.wide k r before) (λ (now : (k ≡ length rows) × (row ≡ r)). ap length (sym now.1) ∙ wide) (push_cases rows row r k at);
        high = λ to column at.
            let inside : to < length row = let n = slice_get_within new to column at in let m = d.as_many in let a = h.all_columns in omega arith in
            let e = there_is row to inside in
            let x = d.dealt to e.0 e.1 in
            let same = same_Some column (x.0 ++ x.1 ∷ []) (sym at ∙ x.3) in
            let before = h.high to x.0 x.2 in
            omega (arith, ap length same, length-append x.0 (x.1 ∷ []));
        joint = λ k to r sender at there. ⊎_elim
            (λ (before : slice_get rows k ≡ Some r).
            let j = h.joint k to r sender before there in
            let inside : to < length row = let n = slice_get_within r to sender there in let w = h.wide k r before in omega arith in
            let e = there_is row to inside in
            let x = d.dealt to e.0 e.1 in
            let same = same_Some x.0 j.0 (sym x.2 ∙ j.2) in
            (x.0 ++ x.1 ∷ [], j.1, x.3, push_old x.0 (x.1 ∷ []) k j.1 (ap (λ l. slice_get l k) same ∙ j.3), j.4))
            (λ (now : (k ≡ length rows) × (row ≡ r)).
            let x = d.dealt to sender (ap (λ l. slice_get l to) now.1 ∙ there) in
            let high = h.high to x.0 x.2 in
            let is : k ≡ from = now.0 ∙ place in
            (x.0 ++ x.1 ∷ [], x.1, x.3, push_new x.0 x.1 k (now.0 ∙ sym high), subst (λ j. AreEnds j to depth sender x.1) (sym is) x.4))
            (push_cases rows row r k at);
      }

  -- a receiver in a column has its sender in a row
  back : (workers depth : ℕ) (rows columns : List (List (EndState M))) → AreDealt workers depth rows columns → (from to : ℕ) (column : List (EndState M)) (receiver : EndState M) → slice_get columns to ≡ Some column → slice_get column from ≡ Some receiver
      → IsNewEnd from to depth receiver
  back workers depth rows columns h from to column receiver at there =
      let in_rows : from < length rows = let n = slice_get_within column from receiver there in let m = h.high to column at in omega arith in
      let row = there_is rows from in_rows in
      let in_row : to < length row.0 = let n = slice_get_within columns to column at in let a = h.all_columns in let w = h.wide from row.0 row.1 in omega arith in
      let sender = there_is row.0 to in_row in
      let j = h.joint from to row.0 sender.0 row.1 sender.1 in
      let same_column = same_Some j.0 column (sym j.2 ∙ at) in
      let same_end = same_Some j.1 receiver (sym j.3 ∙ (ap (λ l. slice_get l from) same_column ∙ there)) in
      subst (λ e. IsNewEnd from to depth e) same_end j.4.receiver_is

  pub fit : (workers depth : ℕ) (rows columns : List (List (EndState M))) → AreDealt workers depth rows columns → length rows ≡ workers → FitWorkers rows columns
  fit workers depth rows columns h all k row column at at' = record {
    square = h.high k column at' ∙ (all ∙ sym (h.wide k row at));
    pushes = λ to sender is. let e = (h.joint k to row sender at is).4.sender_is in (e.from_is, e.to_is);
    pops = λ from receiver is. let e = back workers depth rows columns h from k column receiver at' is in (e.from_is, e.to_is);
  }

  pub new_posts : (workers depth : ℕ) (rows columns : List (List (EndState M))) (posts : List (PostState M)) → AreDealt workers depth rows columns → length rows ≡ workers → HaveEnds depth rows columns posts → AreNewPosts workers depth posts
  new_posts workers depth rows columns posts h all have k p at = let e = have k p at in record {
    worker_is = e.worker_is;
    to_all = h.wide k p.senders e.row;
    from_all = h.high k p.receivers e.column ∙ all;
    pushes = λ to sender is. (h.joint k to p.senders sender e.row is).4.sender_is;
    pops = λ from receiver is. back workers depth rows columns h from k p.receivers receiver e.column is;
    own_is = e.own_is;
  }

  pub linked : (workers depth : ℕ) (rows columns : List (List (EndState M))) (posts : List (PostState M)) → AreDealt workers depth rows columns → HaveEnds depth rows columns posts → AreLinked posts
  linked workers depth rows columns posts h have from to p q sender receiver at at' is is' =
      let j = h.joint from to p.senders sender (have from p at).row is in
      let same_column = same_Some j.0 q.receivers (sym j.2 ∙ (have to q at').column) in
      let same_end = same_Some j.1 receiver (sym j.3 ∙ (ap (λ l. slice_get l from) same_column ∙ is')) in
      j.4.one_queue ∙ ap (λ (e : EndState M). e.queue) same_end

  pub stand_for_none : {N : Type 0} (names : M → List N) (workers depth : ℕ) (posts : List (PostState M)) → AreNewPosts workers depth posts → StandForNone names posts
  stand_for_none names workers depth posts new k p at from to =
      let is_new = new k p at in record {
        sent = λ sender _ _ is. sym (ap (names_of names) (is_new.pushes to sender is).sent_is);
        got = λ receiver _ _ is. sym (ap (names_of names) (is_new.pops from receiver is).got_is);
        own = λ _ _. record { whole = sym (ap (λ (o : OwnState M). names_of names o.waiting) is_new.own_is); once = Distinct-nil };
      }

  pub one_more_post : (depth : ℕ) (rows columns : List (List (EndState M))) (posts : List (PostState M)) (p : PostState M) (k : ℕ) → HaveEnds depth rows columns posts → length posts ≡ k → HasItsEnds depth rows columns k p
      → HaveEnds depth rows columns (posts ++ p ∷ [])
  one_more_post depth rows columns posts p k have place its j q at = ⊎_elim
      (λ (before : slice_get posts j ≡ Some q). have j q before)
      (λ (now : (j ≡ length posts) × (p ≡ q)).
      let is : j ≡ k = now.0 ∙ place in
      subst (λ (y : ℕ × PostState M). HasItsEnds depth rows columns y.0 y.1) (λ i. (sym is i, now.1 i)) its)
      (push_cases posts p q j at)
