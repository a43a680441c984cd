use Rattle.std.proofs.Common.{arith}
use Rattle.mp_machine.proofs.Places.{length_kinds}
use Rattle.mp_worker.proofs.Numbered.{route_at, receive_at, extract_at, settle_at, apply_at, send_row_at, write_at, exchange_at}
use Rattle.mp_worker.proofs.kinds.kind_after.Goals as goal

pub returns-then-number-receive : goal.returns-then-number-receive
returns-then-number-receive c = λ o workers stages below. route_at o _ _ (omega arith) (omega arith)

pub returns-then-number-extract : goal.returns-then-number-extract
returns-then-number-extract c = λ o workers stages below. receive_at o _ _ (omega arith) (omega arith)

pub returns-then-number-settle : goal.returns-then-number-settle
returns-then-number-settle c = λ o workers stages below. extract_at o _ _ (omega arith) (omega arith)

pub returns-then-number-apply : goal.returns-then-number-apply
returns-then-number-apply c = λ o workers stages below. settle_at o _ _ (omega arith) (omega arith)

pub returns-then-number-last : goal.returns-then-number-last
returns-then-number-last c = λ o workers stages below. apply_at o _ _ (omega arith) (omega arith)

pub returns-then-number-last-2 : goal.returns-then-number-last-2
returns-then-number-last-2 c = λ o workers stages below. send_row_at o _ (omega arith)

pub returns-then-number-last-3 : goal.returns-then-number-last-3
returns-then-number-last-3 c = λ o workers stages below. write_at o _ (omega arith)

pub returns-else-number-last-3 : goal.returns-else-number-last-3
returns-else-number-last-3 c = λ o workers stages below. let n = length_kinds o in exchange_at o _ (omega arith)
