-- What a command has written, and what the files then hold.
use Rattle.std.proofs.Common.{ℕ, zero, suc, Bool, true, false, ◌||◌, ◌≡◌, ◌<◌, ◌⊎◌, inl, inr, Option, Some, None, List, [], ◌∷◌, ◌++◌, take, map, refl, sym, ap, ap₂, ◌∙◌, arith}
use Rattle.std.specs.Prelude.{All, OnSome, is_some, not, slice_index_or, ◌≢◌}
use Rattle.std.proofs.lemmas.List.{map-append}
use Rattle.std.proofs.lemmas.List.Elements.{All-cons, All-head, All-nil, All-tail}
use Rattle.std.proofs.lemmas.List.Kept.{AllPairs-cons}
use Rattle.std.specs.Option.{option_to_list}
use Rattle.std.specs.Str.{bytes_eq}
use Rattle.std.proofs.lemmas.Bool.{and_parts, false≢true}
use Rattle.std.proofs.lemmas.Slice.Eq.{bytes_eq-Decides}
use Rattle.mp_outside.specs.Files.{Files, file_at, with_file}
use Rattle.mp_outside.proofs.FileLemmas.{file_at-with_file, file_at-with_file-other, told-with_file}
use Rattle.mp_words.specs.Limits.{AreWithinLimits, IsWithinLimits}
use Rattle.mp_words.specs.Values.{From, Options, SpanAsked, Until, Whole, are_apart, is_among, options_in, read_names, save_names, written_names}
use Rattle.mp_words.specs.Words.{Asked, Run, Check, Make, Demo, Audit, asked_in}
use Rattle.mp_words.specs.declared.options.Command.{Command}
use Rattle.mp_words.specs.declared.options.Command.TheVariants as read
use Rattle.mp_words.specs.declared.options.RunOptions.{RunOptions}
use Rattle.mp_command.specs.Audits.{bad_checkpoint_of, refuted_end}
use Rattle.mp_command_files.specs.Outcome.{StopsAnswer}
use Rattle.mp_command.specs.Ends.{AreInPart, EndsWith, IsCommandAnsweredInPart, IsDone, IsDoneInPart, IsLeft, IsRefusal, IsSame, IsStop, IsWhole, Leaves, MakesNoRun}
use Rattle.mp_command_files.specs.Outcome.{Outcome, Answered, BadCheckpoint, ConfigRefused, EventsRefused, JournalRefused, NoFile, NoMemory, NoRun, PipeRefused, ReadFault, TooLarge, Usage, WriteFault, status_of}
use Rattle.mp_command.specs.Writing.{AreApart, IsTextOf, Journal, Keeping, NoneKept, Purpose, Report, Target, WritesAll, WritesPart, WritesSome, WritesWhole, save_target, target_in, targets_of}

-- a target is behind the first of a list, so it has another name; and so is the rest apart
later : (one : Target) (more : List Target) → AreApart (one ∷ more) → All (λ other. other.name ≢ one.name) more
later one more apart i d low = apart zero (suc i) d (omega arith) (omega (arith, low))

rest_apart : (one : Target) (more : List Target) → AreApart (one ∷ more) → AreApart more
rest_apart one more apart i j d less low = apart (suc i) (suc j) d (omega (arith, less)) (omega (arith, low))

-- a name that was written last holds what was written
at_written : (told : Option Files) → is_some told ≡ true → (name bytes : List ℕ) → file_at (with_file told name bytes) name ≡ Some bytes
at_written (Some files) some name bytes = file_at-with_file files name bytes
at_written None some name bytes = cc

-- what was told before a file is written is told after it
still_told : (told : Option Files) (name bytes : List ℕ) → is_some told ≡ true → is_some (with_file told name bytes) ≡ true
still_told told name bytes some = told-with_file told name bytes ∙ some

module _ (IsText : Purpose → List ℕ → Type 0) where
  -- a name that isn't written holds what it held
  kept_by_all : (targets : List Target) (told new : Option Files) (name : List ℕ) → WritesAll IsText targets told new → All (λ target. name ≢ target.name) targets → file_at new name ≡ file_at told name
  kept_by_all [] told new name w others = ap (λ (files : Option Files). file_at files name) w
  kept_by_all (target ∷ more) told new name w others =
      kept_by_all more (with_file told target.name w.0) new name w.2 (All-tail (λ target. name ≢ target.name) target more others)
      ∙ file_at-with_file-other told target.name w.0 name (All-head (λ target. name ≢ target.name) target more others)

  kept_by_some : (targets : List Target) (told new : Option Files) (name : List ℕ) → WritesSome IsText targets told new → All (λ target. name ≢ target.name) targets → file_at new name ≡ file_at told name
  kept_by_some [] told new name w others = ap (λ (files : Option Files). file_at files name) w
  kept_by_some (target ∷ more) told new name (inl same) others = ap (λ (files : Option Files). file_at files name) same
  kept_by_some (target ∷ more) told new name (inr (text, is, inl part)) others =
      ap (λ (files : Option Files). file_at files name) part.1 ∙ file_at-with_file-other told target.name (take part.0 text) name (All-head (λ target. name ≢ target.name) target more others)
  kept_by_some (target ∷ more) told new name (inr (text, is, inr w)) others =
      kept_by_some more (with_file told target.name text) new name w (All-tail (λ target. name ≢ target.name) target more others)
      ∙ file_at-with_file-other told target.name text name (All-head (λ target. name ≢ target.name) target more others)

  -- the name of the first isn't that of any behind it
  not_later : (one : Target) (more : List Target) → AreApart (one ∷ more) → All (λ target. one.name ≢ target.name) more
  not_later one more apart i d low same = later one more apart i d low (sym same)

  -- each file that was written is whole
  all_whole : (targets : List Target) (told new : Option Files) → is_some told ≡ true → AreApart targets → WritesAll IsText targets told new → All (IsWhole IsText new) targets
  all_whole [] told new some apart w = All-nil (IsWhole IsText new)
  all_whole (target ∷ more) told new some apart w =
      let now = with_file told target.name w.0 in
      All-cons (IsWhole IsText new) target more
      (w.0, w.1, kept_by_all more now new target.name w.2 (not_later target more apart) ∙ at_written told some target.name w.0)
      (all_whole more now new (still_told told target.name w.0 some) (rest_apart target more apart) w.2)

  -- files that are as they were when a first one was written are as they were before it
  same_before : (old told : Option Files) (target : Target) (more : List Target) (bytes : List ℕ) → AreApart (target ∷ more) → All (IsSame old told) more → All (IsSame old (with_file told target.name bytes)) more
  same_before old told target more bytes apart same i d low =
      file_at-with_file-other told target.name bytes (slice_index_or more i d).name (later target more apart i d low) ∙ same i d low

  -- the files that were written in part, where none of them was written before
  in_part : (targets : List Target) (old told new : Option Files) → is_some told ≡ true → AreApart targets → All (IsSame old told) targets → WritesSome IsText targets told new → AreInPart IsText old new targets
  in_part [] old told new some apart same w = tt
  in_part (target ∷ more) old told new some apart same (inl none) =
      let unchanged : All (IsSame old new) (target ∷ more) = λ i d low. ap (λ (files : Option Files). file_at files (slice_index_or (target ∷ more) i d).name) none ∙ same i d low in
      inl (inl (All-head (IsSame old new) target more unchanged), All-tail (IsSame old new) target more unchanged)
  in_part (target ∷ more) old told new some apart same (inr (text, is, inl part)) =
      let at : file_at new target.name ≡ Some (take part.0 text) = ap (λ (files : Option Files). file_at files target.name) part.1 ∙ at_written told some target.name (take part.0 text) in
      let kept = same_before old told target more (take part.0 text) apart (All-tail (IsSame old told) target more same) in
      inl (inr (text, is, part.0, at), λ i d low. ap (λ (files : Option Files). file_at files (slice_index_or more i d).name) part.1 ∙ kept i d low)
  in_part (target ∷ more) old told new some apart same (inr (text, is, inr w)) =
      let now = with_file told target.name text in
      let kept = same_before old told target more text apart (All-tail (IsSame old told) target more same) in
      let whole = kept_by_some more now new target.name w (not_later target more apart) ∙ at_written told some target.name text in
      inr ((text, is, whole), in_part more old now new (still_told told target.name text some) (rest_apart target more apart) kept w)

-- the files that a command writes have names of their own

makes_apart : (target : Target) → AreApart (target ∷ [])
makes_apart target = λ i j d less low. absurd (omega (arith, less, low))

-- no two of none or one
not_both : (a b : Bool) → not (a || b) ≡ true → (a ≡ false) × (not b ≡ true)
not_both true b none = absurd (false≢true none)
not_both false b none = (refl, none)

-- a name that is none of these isn't that of a target among them
none_named : (one : List ℕ) (targets : List Target) (read : List (List ℕ)) → not (is_among one (map (λ (target : Target). target.name) targets ++ read)) ≡ true → All (λ other. other.name ≢ one) targets
none_named one [] read none = All-nil (λ other. other.name ≢ one)
none_named one (target ∷ more) read none =
    let parts = not_both (bytes_eq one target.name) (is_among one (map (λ (target : Target). target.name) more ++ read)) none in
    All-cons (λ other. other.name ≢ one) target more (λ same. false≢true (sym parts.0 ∙ (bytes_eq-Decides one target.name).1 (sym same))) (none_named one more read parts.1)

-- targets whose names are apart are so
names_apart : (targets : List Target) (read : List (List ℕ)) → are_apart (map (λ (target : Target). target.name) targets) read ≡ true → AreApart targets
names_apart [] read apart = λ i j d less low. absurd (omega (arith, low))
names_apart (target ∷ more) read apart =
    let Differs : Target → Target → Type 0 = λ one other. other.name ≢ one.name in
    let names : List (List ℕ) = map (λ (target : Target). target.name) more in
    let both = and_parts (not (is_among target.name (names ++ read))) (are_apart names read) apart in
    AllPairs-cons Differs target more (none_named target.name more read both.0) (names_apart more read both.1)

-- the names of targets

named_in : (purpose : Purpose) (name : Option (List ℕ)) → map (λ (target : Target). target.name) (target_in purpose name) ≡ option_to_list name
named_in purpose None = refl
named_in purpose (Some name) = refl

named_save : (span : SpanAsked) → map (λ (target : Target). target.name) (save_target span) ≡ save_names span
named_save Whole = refl
named_save (Until time save) = refl
named_save (From name) = refl

-- those that a run writes are the names that its words say
written_are : (asked : Options) → map (λ (target : Target). target.name) (targets_of (Run asked)) ≡ written_names asked
written_are asked =
    let name : Target → List ℕ = λ target. target.name in
    let saves = map-append name (save_target asked.span) (target_in Journal asked.journal) ∙ ap₂ (λ (a b : List (List ℕ)). a ++ b) (named_save asked.span) (named_in Journal asked.journal) in
    let both = map-append name (target_in Report asked.report) (save_target asked.span ++ target_in Journal asked.journal) ∙ ap₂ (λ (a b : List (List ℕ)). a ++ b) (named_in Report asked.report) saves in
    ap (λ (names : List (List ℕ)). asked.out ∷ names) both

run_is_apart : (options : RunOptions) → AreWithinLimits options → AreApart (targets_of (Run (options_in options)))
run_is_apart options within =
    let asked : Options = options_in options in
    names_apart (targets_of (Run asked)) (read_names asked) (ap (λ (names : List (List ℕ)). are_apart names (read_names asked)) (written_are asked) ∙ within.names)

pub command_is_apart : (command : Command) → IsWithinLimits command → AreApart (targets_of (asked_in command))
command_is_apart (read.Run options) within = run_is_apart options within
command_is_apart (read.Check options) within = λ i j d less low. absurd (omega (arith, low))
command_is_apart (read.Make options) within = makes_apart _
command_is_apart (read.Demo options) within = λ i j d less low. absurd (omega (arith, low))
command_is_apart (read.Audit options) within = λ i j d less low. absurd (omega (arith, low))

-- each status is that of an end, of a stop or of a refusal
pub status_is : (o : Outcome) → (status_of o ≡ 0) ⊎ (IsStop (status_of o) ⊎ IsRefusal (status_of o))
status_is (Answered line) = inl refl
status_is Usage = inr (inr (inl refl))
status_is (EventsRefused line why) = inr (inr (inr (inl refl)))
status_is (ConfigRefused line why) = inr (inr (inr (inr (inl refl))))
status_is (NoFile name) = inr (inr (inr (inr (inr (inl refl)))))
status_is ReadFault = inr (inr (inr (inr (inr (inr (inl refl))))))
status_is WriteFault = inr (inl (inl refl))
status_is NoMemory = inr (inl (inr refl))
status_is (TooLarge name) = inr (inr (inr (inr (inr (inr (inr (inl refl)))))))
status_is (BadCheckpoint name) = inr (inr (inr (inr (inr (inr (inr (inr (inl refl))))))))
status_is (PipeRefused line why) = inr (inr (inr (inr (inr (inr (inr (inr (inr (inl refl)))))))))
status_is NoRun = inr (inr (inr (inr (inr (inr (inr (inr (inr (inr (inl refl))))))))))
status_is (JournalRefused line why) = inr (inr (inr (inr (inr (inr (inr (inr (inr (inr (inr refl))))))))))

-- a stop is no end and no refusal
pub no_stop : (code : ℕ) → IsStop code → code ≡ 0 → ⊥
no_stop code (inl e) done = omega (arith, e, done)
no_stop code (inr e) done = omega (arith, e, done)

pub no_refusal : (code : ℕ) → IsRefusal code → code ≡ 0 → ⊥
no_refusal code (inl e) done = omega (arith, e, done)
no_refusal code (inr (inl e)) done = omega (arith, e, done)
no_refusal code (inr (inr (inl e))) done = omega (arith, e, done)
no_refusal code (inr (inr (inr (inl e)))) done = omega (arith, e, done)
no_refusal code (inr (inr (inr (inr (inl e))))) done = omega (arith, e, done)
no_refusal code (inr (inr (inr (inr (inr (inl e)))))) done = omega (arith, e, done)
no_refusal code (inr (inr (inr (inr (inr (inr (inl e))))))) done = omega (arith, e, done)
no_refusal code (inr (inr (inr (inr (inr (inr (inr (inl e)))))))) done = omega (arith, e, done)
no_refusal code (inr (inr (inr (inr (inr (inr (inr (inr (inl e))))))))) done = omega (arith, e, done)
no_refusal code (inr (inr (inr (inr (inr (inr (inr (inr (inr e))))))))) done = omega (arith, e, done)

other : (code n : ℕ) → IsStop code → code ≡ n → (n ≡ 7 → ⊥) → (n ≡ 8 → ⊥) → ⊥
other code n (inl e) is no_seven no_eight = no_seven (sym is ∙ e)
other code n (inr e) is no_seven no_eight = no_eight (sym is ∙ e)

pub no_both : (code : ℕ) → IsStop code → IsRefusal code → ⊥
no_both code stop (inl e) = other code 2 stop e (λ h. omega (arith, h)) (λ h. omega (arith, h))
no_both code stop (inr (inl e)) = other code 3 stop e (λ h. omega (arith, h)) (λ h. omega (arith, h))
no_both code stop (inr (inr (inl e))) = other code 4 stop e (λ h. omega (arith, h)) (λ h. omega (arith, h))
no_both code stop (inr (inr (inr (inl e)))) = other code 5 stop e (λ h. omega (arith, h)) (λ h. omega (arith, h))
no_both code stop (inr (inr (inr (inr (inl e))))) = other code 6 stop e (λ h. omega (arith, h)) (λ h. omega (arith, h))
no_both code stop (inr (inr (inr (inr (inr (inl e)))))) = other code 9 stop e (λ h. omega (arith, h)) (λ h. omega (arith, h))
no_both code stop (inr (inr (inr (inr (inr (inr (inl e))))))) = other code 11 stop e (λ h. omega (arith, h)) (λ h. omega (arith, h))
no_both code stop (inr (inr (inr (inr (inr (inr (inr (inl e)))))))) = other code 12 stop e (λ h. omega (arith, h)) (λ h. omega (arith, h))
no_both code stop (inr (inr (inr (inr (inr (inr (inr (inr (inl e))))))))) = other code 13 stop e (λ h. omega (arith, h)) (λ h. omega (arith, h))
no_both code stop (inr (inr (inr (inr (inr (inr (inr (inr (inr e))))))))) = other code 14 stop e (λ h. omega (arith, h)) (λ h. omega (arith, h))

-- a command that refutes what it found ends as 11 or 13
pub refuted_late : (asked : Asked) (o : Outcome) → refuted_end asked ≡ Some o → 10 < status_of o
refuted_late (Run asked) o e = of_span asked.span e
  where
    of_span : (span : SpanAsked) → bad_checkpoint_of span ≡ Some o → 10 < status_of o
    of_span Whole e = cc
    of_span (Until time save) e = cc
    of_span (From name) e =
        let is : BadCheckpoint name ≡ o = cc in omega (arith, ap status_of is)
refuted_late (Check asked) o e = cc
refuted_late (Make asked) o e = cc
refuted_late (Demo asked) o e = cc
refuted_late (Audit asked) o e =
    let is : NoRun ≡ o = cc in omega (arith, ap status_of is)

-- What a command leaves

-- nothing has changed
pub leaves_alone : (AreKept : Keeping) (asked : Asked) (o : Outcome) (old new : Option Files) → (status_of o ≡ 0 → ⊥) → new ≡ old → Leaves AreKept asked o old new
leaves_alone AreKept asked o old new not_done same = record { whole = λ e. absurd (not_done e); part = λ stop. inl same; untouched = λ refusal. same }

-- all was written
pub leaves_whole : (AreKept : Keeping) (asked : Asked) (line : List ℕ) (old new : Option Files) → WritesWhole AreKept asked old new → Leaves AreKept asked (Answered line) old new
leaves_whole AreKept asked line old new w =
    record { whole = λ e. w; part = λ stop. absurd (no_stop 0 stop refl); untouched = λ refusal. absurd (no_refusal 0 refusal refl) }

-- the writing was stopped
pub leaves_part : (AreKept : Keeping) (asked : Asked) (o : Outcome) (old new : Option Files) → StopsAnswer o → WritesPart AreKept asked old new → Leaves AreKept asked o old new
leaves_part AreKept asked o old new stops w =
    let stop : IsStop (status_of o) = stop_of stops in
    record { whole = λ e. absurd (no_stop _ stop e); part = λ stop. w; untouched = λ refusal. absurd (no_both _ stop refusal) }
  where
    stop_of : StopsAnswer o → IsStop (status_of o)
    stop_of (inl e) = inl (ap status_of e)
    stop_of (inr e) = inr (ap status_of e)

-- a command that makes no run leaves the same, whatever is known of the steps that runs keep
pub leaves_without_run : (AreKept : Keeping) (asked : Asked) (o : Outcome) (old new : Option Files) → MakesNoRun asked → Leaves NoneKept asked o old new → Leaves AreKept asked o old new
leaves_without_run AreKept (Run asked) o old new none left = absurd none
leaves_without_run AreKept (Check asked) o old new none left = record { whole = left.whole; part = left.part; untouched = left.untouched }
leaves_without_run AreKept (Make asked) o old new none left = record { whole = left.whole; part = left.part; untouched = left.untouched }
leaves_without_run AreKept (Demo asked) o old new none left = record { whole = left.whole; part = left.part; untouched = left.untouched }
leaves_without_run AreKept (Audit asked) o old new none left = record { whole = left.whole; part = left.part; untouched = left.untouched }

-- What the files hold then

module _ (AreKept : Keeping) (asked : Asked) (old new : Option Files) (apart : AreApart (targets_of asked)) where
  whole_is_done : WritesWhole AreKept asked old new → OnSome old (IsDone AreKept old new asked)
  whole_is_done = go old
    where
      go : (old : Option Files) → WritesWhole AreKept asked old new → OnSome old (IsDone AreKept old new asked)
      go None w = tt
      go (Some files) w = (w.0, w.1, w.2, all_whole (IsTextOf AreKept asked w.0) (targets_of asked) (Some files) new refl apart w.3)

  part_is_done : WritesPart AreKept asked old new → OnSome old (IsDoneInPart AreKept old new asked)
  part_is_done = go old
    where
      go : (old : Option Files) → WritesPart AreKept asked old new → OnSome old (IsDoneInPart AreKept old new asked)
      go None w = tt
      go (Some files) (inl same) = inl (λ i d low. ap (λ (told : Option Files). file_at told (slice_index_or (targets_of asked) i d).name) same)
      go (Some files) (inr w) = inr (w.0, w.1, in_part (IsTextOf AreKept asked w.0) (targets_of asked) (Some files) (Some files) new refl apart (λ i d low. refl) w.2)

  -- no other name has changed
  others_stay : (o : Outcome) → Leaves AreKept asked o old new → (name : List ℕ) → IsLeft name asked → file_at new name ≡ file_at old name
  others_stay o left name other = go (status_is o)
    where
      of_part : WritesPart AreKept asked old new → file_at new name ≡ file_at old name
      of_part (inl same) = ap (λ (told : Option Files). file_at told name) same
      of_part (inr w) = kept_by_some (IsTextOf AreKept asked w.0) (targets_of asked) old new name w.2 other

      go : (status_of o ≡ 0) ⊎ (IsStop (status_of o) ⊎ IsRefusal (status_of o)) → file_at new name ≡ file_at old name
      go (inl done) = let w = left.whole done in kept_by_all (IsTextOf AreKept asked w.0) (targets_of asked) old new name w.3 other
      go (inr (inl stop)) = of_part (left.part stop)
      go (inr (inr refusal)) = ap (λ (told : Option Files). file_at told name) (left.untouched refusal)

  -- what a command leaves is what its end promises
  pub ends_so : (o : Outcome) → Leaves AreKept asked o old new → EndsWith AreKept (Some asked) o old new
  ends_so o left = record {
    answered = λ e. whole_is_done (left.whole e);
    part = λ stop. part_is_done (left.part stop);
    untouched = left.untouched;
    others = others_stay o left;
  }

-- where nothing has changed, what is promised of a stop holds
pub stopped_alone : (AreKept : Keeping) (command : Option Asked) (old new : Option Files) → new ≡ old → IsCommandAnsweredInPart AreKept command old new
stopped_alone AreKept command None new same = tt
stopped_alone AreKept None (Some files) new same = tt
stopped_alone AreKept (Some asked) (Some files) new same = inl (λ i d low. ap (λ (told : Option Files). file_at told (slice_index_or (targets_of asked) i d).name) same)

-- and so does all that is promised of an end
pub ends_alone : (AreKept : Keeping) (command : Option Asked) (o : Outcome) (old new : Option Files) → (status_of o ≡ 0 → ⊥) → new ≡ old → EndsWith AreKept command o old new
ends_alone AreKept command o old new not_done same = record {
  answered = λ e. absurd (not_done e);
  part = λ stop. stopped_alone AreKept command old new same;
  untouched = λ refusal. same;
  others = λ name other. ap (λ (told : Option Files). file_at told name) same;
}
