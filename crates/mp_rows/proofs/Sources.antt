-- The records of a worker's share that aren't ingested: those of the events whose indices it has.
use Rattle.std.proofs.Common.{◌≡◌, ℕ, suc, ◌+◌, ◌<◌, ◌%◌, ◌&&◌, ◌==◌, Bool, true, false, cond, Option, None, Some, List, [], ◌∷◌, ◌++◌, length, filter, map, take, get_or, count_by, is_some, option_map, option_and_then, slice_get, refl, sym, ap, ◌∙◌, subst, arith, append_assoc, add-zero, zero-add}
use Rattle.std.specs.List.{cons_option, enumerate_from, filter_map, range_with_len}
use Rattle.std.specs.Option.{option_map_or}
use Rattle.std.proofs.lemmas.Bool.{lt-ltb}
use Rattle.std.proofs.lemmas.List.{map-append, take_more}
use Rattle.std.proofs.lemmas.Option.{slice_get-get_or}
use Rattle.mp_names.specs.declared.names.Name.{Name}
use Rattle.mp_names.specs.Outlines.{sender, share, time_of}
use Rattle.std.proofs.lemmas.List.Sums.{sum_by-cons}
use Rattle.mp_model.specs.declared.record.Event.{Event}
use Rattle.mp_model.specs.declared.record.Rec.{Rec}
use Rattle.mp_model.specs.Facts.{JobFacts, QueryFacts}
use Rattle.mp_model.specs.Stages.{input_records, record_of}
use Rattle.mp_job.specs.Records.{is_taken_by, share_of}
use Rattle.mp_outline.specs.JobOutline.{name_of_record, outline_of}
use Rattle.mp_rows.specs.Opening.{time_at}
use Rattle.mp_rows.proofs.Sums.{add_same}

-- one more thing of a list is added
pub mapped_more : {X Y : Type 0} (f : X → Y) (xs : List X) (k : ℕ) (d : X) (start items more : List Y) (y : Y) → k < length xs → items ≡ start ++ map f (take k xs) → more ≡ items ++ y ∷ [] → y ≡ f (get_or xs k d) → more ≡ start ++ map f (take (k + 1) xs)
mapped_more {X} {Y} f xs k d start items more y l e g h =
    g
    ∙ ap (λ (ys : List Y). ys ++ y ∷ []) e
    ∙ append_assoc start (map f (take k xs)) (y ∷ [])
    ∙ ap (λ (z : Y). start ++ (map f (take k xs) ++ z ∷ [])) h
    ∙ ap (λ (ys : List Y). start ++ ys) (sym (map-append f (take k xs) (get_or xs k d ∷ [])))
    ∙ ap (λ (ys : List X). start ++ map f ys) (sym (take_more xs k d l))

-- the time of an event that is read
pub time_of_read : (events : List Event) (i : ℕ) (e : Event) → i < length events → e ≡ get_or events i e → e.time ≡ time_at events i
time_of_read events i e l r = ap (λ (d : Event). d.time) r ∙ sym (ap (λ (o : Option Event). option_map_or (λ d. d.time) o 0) (slice_get-get_or events i e l))

-- One event: its record has its time and its index
module _ (n w workers : ℕ) (e : Event) (p mine : Name → Bool) (q : ℕ → Bool) (records : List Rec) (indices : List ℕ) (same : count_by p (filter mine (map (name_of_record 0) records)) ≡ count_by q indices) where
  -- the record that it makes, if it makes one of this key
  abbrev pub of_event : Option ℕ → Option Rec
  of_event key = option_map (λ k. record { time = e.time; key = k; tag = record { 0 = 0; 1 = n }; value = e.value }) key

  counted_if : (b : Bool) (x : Name) → p x ≡ q n → count_by p (cond b (x ∷ filter mine (map (name_of_record 0) records)) (filter mine (map (name_of_record 0) records))) ≡ count_by q (cond b (n ∷ indices) indices)
  counted_if true x f =
      let names = filter mine (map (name_of_record 0) records) in
      sum_by-cons (λ y. cond (p y) 1 0) x names
      ∙ add_same (cond (p x) 1 0) (cond (q n) 1 0) (count_by p names) (count_by q indices) (ap (λ (b : Bool). cond b 1 0) f) same
      ∙ sym (sum_by-cons (λ i. cond (q i) 1 0) n indices)
  counted_if false x f = same

  pub one_event : (key : Option ℕ) → ((r : Rec) → r.time ≡ e.time → r.tag.1 ≡ n → (mine (name_of_record 0 r) ≡ (n % workers == w)) × (p (name_of_record 0 r) ≡ q n)) → count_by p (filter mine (map (name_of_record 0) (cons_option (of_event key) records))) ≡ count_by q (cond (is_some (of_event key) && n % workers == w) (n ∷ indices) indices)
  one_event None h = same
  one_event (Some k) h =
      let r : Rec = record { time = e.time; key = k; tag = record { 0 = 0; 1 = n }; value = e.value } in
      let a = h r refl refl in
      ap (λ (b : Bool). count_by p (cond b (name_of_record 0 r ∷ filter mine (map (name_of_record 0) records)) (filter mine (map (name_of_record 0) records)))) a.0
      ∙ counted_if (n % workers == w) (name_of_record 0 r) a.1

module _ {Cell : Type 0} (q : QueryFacts Cell) (job : JobFacts) (w t : ℕ) where
  at_time : Name → Bool
  at_time x = time_of (outline_of q job) x == t

  mine : Name → Bool
  mine x = sender (outline_of q job) x == w

  event_at_time : ℕ → Bool
  event_at_time i = time_at job.events i == t

  count_from : (n : ℕ) (es : List Event) → ((k : ℕ) → slice_get job.events (n + k) ≡ slice_get es k) → count_by at_time (filter mine (map (name_of_record 0) (filter_map (λ p. record_of q p.0 p.1) (enumerate_from n es)))) ≡ count_by event_at_time (filter (is_taken_by q job.events job.shape.workers w) (range_with_len n (length es)))
  unfolding at_time mine event_at_time
  count_from n [] h = refl
  count_from n (e ∷ es) h =
      let records = filter_map (λ p. record_of q p.0 p.1) (enumerate_from (n + 1) es) in
      let indices = filter (is_taken_by q job.events job.shape.workers w) (range_with_len (n + 1) (length es)) in
      let there : slice_get job.events n ≡ Some e = subst (λ (m : ℕ). slice_get job.events m ≡ Some e) (add-zero n) (h 0) in
      let rest = count_from (n + 1) es (λ k. let m : n + suc k ≡ n + 1 + k = omega arith in subst (λ (i : ℕ). slice_get job.events i ≡ slice_get es k) m (h (suc k))) in
      let time : time_at job.events n ≡ e.time = ap (λ (o : Option Event). option_map_or (λ d. d.time) o 0) there in
      one_event n w job.shape.workers e at_time mine event_at_time records indices rest (q.key 0 e.time e.value) (λ r same index. (ap (λ (m : ℕ). m % job.shape.workers == w) index, ap (λ (m : ℕ). m == t) (same ∙ sym time)))
      ∙ ap (λ (o : Option Event). count_by event_at_time (cond (is_some (option_and_then (record_of q n) o) && n % job.shape.workers == w) (n ∷ indices) indices)) (sym there)

  -- as many records of the share have a time as events of the share
  pub count_share : 0 < job.shape.stages → count_by (λ x. time_of (outline_of q job) x == t) (share (outline_of q job) w) ≡ count_by (λ i. time_at job.events i == t) (share_of q job.events job.shape.workers w)
  unfolding at_time mine event_at_time
  count_share l =
      ap (λ (b : Bool). count_by at_time (filter mine (cond b (map (name_of_record 0) (input_records q job.events)) []))) (lt-ltb 0 job.shape.stages l)
      ∙ count_from 0 job.events (λ k. ap (slice_get job.events) (zero-add k))
