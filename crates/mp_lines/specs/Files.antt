-- What a file says.
use Rattle.std.specs.Prelude.{ℕ, ◌++◌, not, Result, Ok, Err, List, [], ◌∷◌, filter, fold, map}
use Rattle.mp_lines.specs.Rules.{LineRules}
use Rattle.mp_text.specs.Fields.{fields_of}
use Rattle.mp_text.specs.Lines.{is_blank, numbered_lines_of}

-- those of these lines that aren't blank, each with its number in the file
abbrev pub filled : List (ℕ × List ℕ) → List (ℕ × List ℕ)
filled lines = filter (λ line. not (is_blank line.1)) lines

module _ {State Reason : Type 0} where
  -- the number of each line with each check that it fails, in order, where this was said before the first of them
  abbrev pub failures_from : LineRules State Reason → State → List (ℕ × List ℕ) → List (ℕ × Reason)
  failures_from rules before [] = []
  failures_from rules before (line ∷ more) =
      let fields = fields_of line.1 in
      map (λ why. (line.0, why)) (rules.failures before fields) ++ failures_from rules (rules.after before fields) more

  -- what lines say, behind what was said before them
  abbrev pub said_after : LineRules State Reason → State → List (ℕ × List ℕ) → State
  said_after rules before lines = fold (λ state line. rules.after state (fields_of line.1)) before lines

  -- what is said, unless there is a failure: the first one then
  abbrev pub unless_failed : List (ℕ × Reason) → State → Result State (ℕ × Reason)
  unless_failed [] said = Ok said
  unless_failed (failure ∷ more) said = Err failure

  -- what the lines of a file that aren't blank say, beginning with this, or the number of its first line that fails a check and the first
  -- check that this line fails
  abbrev pub file_of : LineRules State Reason → State → List ℕ → Result State (ℕ × Reason)
  file_of rules start text = let lines = filled (numbered_lines_of text) in unless_failed (failures_from rules start lines) (said_after rules start lines)
