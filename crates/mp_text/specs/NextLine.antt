-- What a call of `next` of a `Lines` gives.
use Rattle.std.specs.Prelude.{◌≡◌, ◌+◌, [], ◌∷◌, Option, MatchOption}
use Rattle.mp_text.specs.declared.cutting.Line.{Line}
use Rattle.mp_text.specs.Lines.{LinesLeft}

-- the line is the first of those that were left, under the number that was next
pub record IsFirstLeft (old : LinesLeft) (line : Line) (new : LinesLeft) : Type 0 where
  pub number : line.number ≡ old.number
  pub bytes : old.lines ≡ line.bytes.now ∷ new.lines
  pub counted : new.number ≡ old.number + 1

-- at the end of the text there is none, and there alone; else the first line that was left
abbrev pub GivesLine : LinesLeft → Option Line → LinesLeft → Type 0
GivesLine old given new = MatchOption given ((old.lines ≡ []) × (new ≡ old)) (λ line. IsFirstLeft old line new)
