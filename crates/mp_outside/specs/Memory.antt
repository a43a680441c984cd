-- What the fakes hold, which of their calls fail, and how many have.
use Rattle.std.specs.Prelude.{ℕ, ◌+◌, List, Option}
use Rattle.mp_outside.specs.Calls.{CallPlan, faults_of}
use Rattle.mp_outside.specs.Failures.{calls_for}
use Rattle.mp_outside.specs.Files.{Files}
use Rattle.mp_outside.specs.Shelf.{files_on}
use Rattle.mp_outside.specs.declared.mem_depot.MemDepot.{MemDepot}
use Rattle.mp_outside.specs.declared.mem_sink.MemSink.{MemSink}
use Rattle.mp_outside.specs.declared.never_fails.NeverFails.{NeverFails}
use Rattle.mp_outside.specs.declared.op.Op.{Op}
use Rattle.mp_outside.specs.declared.op.Op.TheVariants.{Find, Read, Begin, Append, Write}

-- the files of a depot in memory, all of them told
abbrev pub depot_files : MemDepot → Option Files
depot_files depot = files_on depot.shelf

-- the calls of one of its methods
abbrev pub depot_calls : MemDepot → Op → CallPlan
depot_calls depot op = calls_for depot.failures op

-- how many bytes one call gives or takes at most
abbrev pub depot_portion : MemDepot → ℕ
depot_portion depot = depot.portion

-- how many of its calls to read failed
abbrev pub depot_read_faults : MemDepot → ℕ
depot_read_faults depot = faults_of (depot_calls depot Find) + faults_of (depot_calls depot Read)

-- how many of its calls to write failed
abbrev pub depot_write_faults : MemDepot → ℕ
depot_write_faults depot = faults_of (depot_calls depot Begin) + faults_of (depot_calls depot Append)

-- the bytes of a sink in memory
abbrev pub sink_bytes : MemSink → List ℕ
sink_bytes sink = sink.bytes.items

-- the calls of one of its methods; those of its `write` are the only ones that are made
abbrev pub sink_calls : MemSink → Op → CallPlan
sink_calls sink op = calls_for sink.failures op

-- how many bytes one write takes at most
abbrev pub sink_portion : MemSink → ℕ
sink_portion sink = sink.portion

-- how many of its writes failed
abbrev pub sink_faults : MemSink → ℕ
sink_faults sink = faults_of (sink_calls sink Write)

-- the files of the depot that never fails
abbrev pub unfailing_files : NeverFails → Option Files
unfailing_files outside = files_on outside.shelf

-- the bytes of the sink that never fails
abbrev pub unfailing_bytes : NeverFails → List ℕ
unfailing_bytes outside = outside.bytes.items
