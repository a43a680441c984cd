use Rattle.mp_threads_member.proofs.member.Member.repeat.Goals as goal

pub returns-in-Ingest-clause-idle : goal.returns-in-Ingest-clause-idle
returns-in-Ingest-clause-idle g c = rw c.in-Ingest.is c.repeat_kind.ensures.idle

pub returns-in-SendControl-clause-idle : goal.returns-in-SendControl-clause-idle
returns-in-SendControl-clause-idle g c = rw c.in-SendControl.is c.repeat_kind-in-SendControl.ensures.idle

pub returns-in-Route-clause-idle : goal.returns-in-Route-clause-idle
returns-in-Route-clause-idle g c = rw c.in-Route.is c.repeat_kind-in-Route.ensures.idle

pub returns-in-Receive-clause-idle : goal.returns-in-Receive-clause-idle
returns-in-Receive-clause-idle g c = rw c.in-Receive.is c.repeat_kind-in-Receive.ensures.idle

pub returns-in-Extract-clause-idle : goal.returns-in-Extract-clause-idle
returns-in-Extract-clause-idle g c = rw c.in-Extract.is c.repeat_kind-in-Extract.ensures.idle

pub returns-in-Settle-clause-idle : goal.returns-in-Settle-clause-idle
returns-in-Settle-clause-idle g c = rw c.in-Settle.is c.repeat_kind-in-Settle.ensures.idle

pub returns-in-Apply-clause-idle : goal.returns-in-Apply-clause-idle
returns-in-Apply-clause-idle g c = rw c.in-Apply.is c.repeat_kind-in-Apply.ensures.idle

pub returns-in-SendRow-clause-idle : goal.returns-in-SendRow-clause-idle
returns-in-SendRow-clause-idle g c = rw c.in-SendRow.is c.repeat_kind-in-SendRow.ensures.idle

pub returns-in-Write-clause-idle : goal.returns-in-Write-clause-idle
returns-in-Write-clause-idle g c = rw c.in-Write.is c.repeat_kind-in-Write.ensures.idle

pub returns-in-Exchange-clause-idle : goal.returns-in-Exchange-clause-idle
returns-in-Exchange-clause-idle g c = rw c.in-Exchange.is c.repeat_kind-in-Exchange.ensures.idle
