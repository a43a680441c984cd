-- The files that a run writes, by the span that is asked for.
use Rattle.std.proofs.Common.{◌≡◌, ◌∙◌, ◌++◌, ℕ, Bool, true, false, List, [], ◌∷◌, Option, None, Some, Result, ap, inl, inr, refl, subst, sym}
use Rattle.std.specs.Prelude.{◌&&◌, ◌||◌, is_none}
use Rattle.std.proofs.lemmas.Bool.{and_parts, false≢true}
use Rattle.mp_outside.specs.Files.{Files}
use Rattle.mp_pipeline.specs.Pipes.{PipeFacts}
use Rattle.mp_words.specs.Values.{From, Named as NamedAsked, Options, Piped as PipedAsked, QueryAsked, SpanAsked, Until, Whole, is_named, is_whole, span_is_allowed}
use Rattle.mp_words.specs.Words.{Run}
use Rattle.mp_command.specs.declared.flow.Flow.{Flow}
use Rattle.mp_command.specs.declared.flow.FlowQuery.TheVariants.{Piped}
use Rattle.mp_command.specs.Config.{flow_of, flow_with}
use Rattle.mp_command.specs.Queries.{query_with}
use Rattle.mp_command.specs.Writing.{Journal, Purpose, Report, Save, WritesAll, WritesSome, answer_at, save_at, save_target, target_in, targets_of}
use Rattle.mp_run_command.specs.Wrote.{Wrote}

-- what takes a part of the events keeps no journal
none_there : (name : Option (List ℕ)) → is_none name ≡ true → name ≡ None
none_there None none = refl
none_there (Some name) none = cc

pub no_journal : (asked : Options) → span_is_allowed asked ≡ true → is_whole asked.span ≡ false → asked.journal ≡ None
no_journal asked allowed part =
    let both : (is_named asked.query && is_none asked.journal) ≡ true = subst (λ (b : Bool). (b || (is_named asked.query && is_none asked.journal)) ≡ true) part allowed in
    none_there asked.journal (and_parts (is_named asked.query) (is_none asked.journal) both).1

-- a pipeline takes all events
whole_only : (named none : Bool) (span : SpanAsked) → (is_whole span || (named && none)) ≡ true → named ≡ false → span ≡ Whole
whole_only named none Whole allowed piped = refl
whole_only named none (Until time save) allowed piped = absurd (false≢true (sym piped ∙ (and_parts named none allowed).0))
whole_only named none (From name) allowed piped = absurd (false≢true (sym piped ∙ (and_parts named none allowed).0))

not_named : (query : QueryAsked) (found pipe : PipeFacts) → query_with query found ≡ Piped pipe → is_named query ≡ false
not_named (NamedAsked name) found pipe is = cc
not_named (PipedAsked file) found pipe is = refl

pub pipes_are_whole : (asked : Options) → span_is_allowed asked ≡ true → (flow : Flow) (found pipe : PipeFacts) → flow ≡ flow_with (flow_of asked) found → flow.query ≡ Piped pipe → asked.span ≡ Whole
pipes_are_whole asked allowed flow found pipe same is =
    whole_only (is_named asked.query) (is_none asked.journal) asked.span allowed (not_named asked.query found pipe (sym (ap (λ (f : Flow). f.query) same) ∙ is))

module _ {T E : Type 0} (IsText : Purpose → List ℕ → Type 0) (asked : Options) (end : Result T E) (old new : Option Files) where
  -- nothing is saved
  pub no_save : save_target asked.span ≡ [] → Wrote IsText (answer_at asked.out ∷ (target_in Report asked.report ++ target_in Journal asked.journal)) end old new → Wrote IsText (targets_of (Run asked)) end old new
  no_save none w = subst (λ saves. Wrote IsText (answer_at asked.out ∷ (target_in Report asked.report ++ (saves ++ target_in Journal asked.journal))) end old new) (sym none) w

  -- what is left is saved
  pub with_save : (t : ℕ) (save : List ℕ) → span_is_allowed asked ≡ true → asked.span ≡ Until t save
      → Wrote IsText (answer_at asked.out ∷ (target_in Report asked.report ++ save_at save ∷ [])) end old new → Wrote IsText (targets_of (Run asked)) end old new
  with_save t save allowed is w =
      subst (λ (s : SpanAsked). Wrote IsText (answer_at asked.out ∷ (target_in Report asked.report ++ (save_target s ++ target_in Journal asked.journal))) end old new) (sym is)
      (subst (λ (name : Option (List ℕ)). Wrote IsText (answer_at asked.out ∷ (target_in Report asked.report ++ save_at save ∷ target_in Journal name)) end old new) (sym (no_journal asked allowed (ap is_whole is))) w)

  -- a run goes on from a checkpoint
  pub of_rest : (name : List ℕ) → span_is_allowed asked ≡ true → asked.span ≡ From name
      → Wrote IsText (answer_at asked.out ∷ (target_in Report asked.report ++ [])) end old new → Wrote IsText (targets_of (Run asked)) end old new
  of_rest name allowed is w =
      subst (λ (s : SpanAsked). Wrote IsText (answer_at asked.out ∷ (target_in Report asked.report ++ (save_target s ++ target_in Journal asked.journal))) end old new) (sym is)
      (subst (λ (none : Option (List ℕ)). Wrote IsText (answer_at asked.out ∷ (target_in Report asked.report ++ target_in Journal none)) end old new) (sym (no_journal asked allowed (ap is_whole is))) w)

module _ (IsText : Purpose → List ℕ → Type 0) (T : List ℕ → Type 0) (save : List ℕ) (old new : Option Files) where
  -- what is saved, with a text like this, is saved with a text for its purpose
  pub all_saved : ((text : List ℕ) → T text → IsText Save text) → WritesAll (λ _. T) (save_at save ∷ []) old new → WritesAll IsText (save_at save ∷ []) old new
  all_saved is (text, has, rest) = (text, is text has, rest)

  pub some_saved : ((text : List ℕ) → T text → IsText Save text) → WritesSome (λ _. T) (save_at save ∷ []) old new → WritesSome IsText (save_at save ∷ []) old new
  some_saved is (inl same) = inl same
  some_saved is (inr (text, has, rest)) = inr (text, is text has, rest)
