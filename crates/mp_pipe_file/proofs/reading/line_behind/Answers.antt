use Rattle.std.proofs.Common.{arith}
use Rattle.mp_text.proofs.LineLemmas.{length-lines_of}
use Rattle.mp_pipe_file.proofs.reading.line_behind.Goals as goal

pub overflow_add-count : goal.overflow_add-count
overflow_add-count c = grind (arith, length-lines_of)

pub overflow_add-result : goal.overflow_add-result
overflow_add-result c = grind (arith, length-lines_of)
