-- What is written is a beginning of the one-thread answer, and in the end all of it.
use Rattle.std.proofs.Common.{◌≡◌, ℕ, false, List, [], ◌∷◌, ◌++◌, length, take, drop, filter, flat_map, refl, sym, ap, ◌∙◌, append-nil, append_assoc}
use Rattle.std.proofs.Math.Seq.{take-append_seam}
use Rattle.std.proofs.lemmas.Grind.{flat_map-append}
use Rattle.std.proofs.lemmas.List.{take-append-drop}
use Rattle.std.proofs.lemmas.List.Elements.{filter-append}
use Rattle.mp_names.specs.declared.kinds.Kind.TheVariants as kinds
use Rattle.mp_names.specs.declared.names.Name.{Name}
use Rattle.mp_names.specs.declared.names.Name.TheVariants.{Settled, Written}
use Rattle.mp_names.specs.Keeping.{IsUnsettled}
use Rattle.mp_names.specs.Logs.{Log, with_settled}
use Rattle.mp_names.specs.Names.{is_written}
use Rattle.mp_names.specs.Outlines.{Outline, answer_times}
use Rattle.mp_model.specs.Answers.{one_thread_answer}
use Rattle.mp_model.specs.Facts.{JobFacts, QueryFacts}
use Rattle.mp_outline.specs.JobOutline.{outline_of}
use Rattle.mp_output.specs.Holding.{answer_at}
use Rattle.mp_answer_laws.specs.Laws.{FullLogsAnswer, OthersWriteNothing, PartsOfLinesBegin, WritingAddsLines, WrittenLinesBegin}
use Rattle.mp_answer_laws.specs.Lines.{lines_of_time, written_lines}
use Rattle.mp_answer_laws.proofs.ByTime.{answer_by_times}

-- a list in front of another is its first elements
front : {X : Type 0} (xs ys zs : List X) → xs ++ ys ≡ zs → (k : ℕ) × (xs ≡ take k zs)
front {X} xs ys zs e = (length xs, sym (take-append_seam xs ys) ∙ ap (λ (all : List X). take (length xs) all) e)

-- the first elements of a list, and then all others
front_more : {X : Type 0} (xs ys zs : List X) (n : ℕ) → (xs ++ take n ys) ++ (drop n ys ++ zs) ≡ (xs ++ ys) ++ zs
front_more {X} xs ys zs n =
    let all : take n ys ++ (drop n ys ++ zs) ≡ ys ++ zs = sym (append_assoc (take n ys) (drop n ys) zs) ∙ ap (λ (us : List X). us ++ zs) (take-append-drop n ys) in
    append_assoc xs (take n ys) (drop n ys ++ zs) ∙ ap (λ (us : List X). xs ++ us) all ∙ sym (append_assoc xs ys zs)

-- a settled time isn't a written one
not_written : (o : Outline) (log : Log) (j : ℕ) (x : Name) → IsUnsettled o log j x → is_written x ≡ false
not_written o log j (Settled i t) h = refl
not_written o log j x h = absurd h

module _ {Cell : Type 0} (q : QueryFacts Cell) (job : JobFacts) where
  -- the lines of the first times are in front of those of the others
  begins : (first rest : List Name) → first ++ rest ≡ answer_times (outline_of q job) → flat_map (lines_of_time q job.events) first ++ flat_map (lines_of_time q job.events) rest ≡ one_thread_answer q job.events
  begins first rest e = sym (flat_map-append (lines_of_time q job.events) first rest) ∙ ap (flat_map (lines_of_time q job.events)) e ∙ answer_by_times q job

  pub written_lines_begin : WrittenLinesBegin q job
  written_lines_begin log legal =
      let p = legal.written_in_order in
      front (written_lines q job.events log) (flat_map (lines_of_time q job.events) p.0) (one_thread_answer q job.events) (begins (filter is_written log.settled) p.0 p.1)

  pub writing_adds_lines : WritingAddsLines q job
  writing_adds_lines log t =
      ap (flat_map (lines_of_time q job.events)) (filter-append is_written log.settled (Written t ∷ []))
      ∙ flat_map-append (lines_of_time q job.events) (filter is_written log.settled) (Written t ∷ [])
      ∙ ap (λ (more : List ℕ). written_lines q job.events log ++ more) (append-nil (answer_at q job.events t))

  pub parts_of_lines_begin : PartsOfLinesBegin q job
  parts_of_lines_begin log t n legal =
      let p = legal.written_in_order in
      let before = written_lines q job.events log in
      let lines = answer_at q job.events t in
      let after = flat_map (lines_of_time q job.events) p.0 in
      front
      (before ++ take n lines)
      (drop n lines ++ after)
      (one_thread_answer q job.events)
      (front_more before lines after n ∙ ap (λ (some : List ℕ). some ++ after) (sym (writing_adds_lines log t)) ∙ begins (filter is_written (log.settled ++ Written t ∷ [])) p.0 p.1)

  pub full_logs_answer : FullLogsAnswer q job
  full_logs_answer log full = ap (flat_map (lines_of_time q job.events)) (full.written refl) ∙ answer_by_times q job

  -- a name that isn't a written time adds no lines
  adds_nothing : (log : Log) (x : Name) → is_written x ≡ false → written_lines q job.events (with_settled log x) ≡ written_lines q job.events log
  adds_nothing log x e =
      let none : filter is_written (x ∷ []) ≡ [] = rw e refl in
      ap (flat_map (lines_of_time q job.events)) (filter-append is_written log.settled (x ∷ []) ∙ ap (λ (more : List Name). filter is_written log.settled ++ more) none ∙ append-nil (filter is_written log.settled))

  pub others_write_nothing : OthersWriteNothing q job
  others_write_nothing w worker kinds.Write x other next = absurd (other refl)
  others_write_nothing w worker (kinds.Settle j) x other next = adds_nothing worker.log x (not_written (outline_of q job) worker.log j x next.0)
  others_write_nothing w worker kind x other next = refl
