-- The pipeline that a file says.
use Rattle.std.specs.Prelude.{ℕ, ◌+◌, ◌==◌, Option, Some, None, Result, Ok, Err, List, if◌then◌else◌, length}
use Rattle.mp_lines.specs.Files.{file_of}
use Rattle.mp_pipe_file.specs.declared.refused.PipeReason.{PipeReason}
use Rattle.mp_pipe_file.specs.declared.refused.PipeReason.TheVariants.{End}
use Rattle.mp_pipe_file.specs.Lines.{pipe_rules}
use Rattle.mp_pipeline.specs.Pipes.{PipeFacts}
use Rattle.mp_text.specs.Lines.{lines_of}

-- the pipeline that lines said, if it has a stage
abbrev pub whole : Option PipeFacts → Option PipeFacts
whole None = None
whole (Some pipe) = if length pipe.lines == 0 then None else Some pipe

-- the same, or that it is missed at this line
abbrev pub ended : ℕ → Option PipeFacts → Result PipeFacts (ℕ × PipeReason)
ended line None = Err (line, End)
ended line (Some pipe) = Ok pipe

-- the same, unless a line is bad
abbrev pub pipe_from : ℕ → Result (Option PipeFacts) (ℕ × PipeReason) → Result PipeFacts (ℕ × PipeReason)
pipe_from line (Ok said) = ended line (whole said)
pipe_from line (Err bad) = Err bad

-- the pipeline that a file says, or the number of its first line that fails a check and the first check that this line fails. A file without a
-- stage ends too early, at the line behind its last
abbrev pub pipe_of : List ℕ → Result PipeFacts (ℕ × PipeReason)
pipe_of text = pipe_from (length (lines_of text) + 1) (file_of pipe_rules None text)
