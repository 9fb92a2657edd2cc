-- The names that the lines of a trace use.
use Rattle.std.specs.Prelude.{ℕ, Bool, true, false, List, [], codes}
use Rattle.dsm_messages.specs.declared.messages.Need.{Need}
use Rattle.dsm_messages.specs.declared.messages.Need.TheVariants as need
use Rattle.state_table.specs.declared.State.{State}
use Rattle.state_table.specs.declared.State.TheVariants.{Exclusive, Shared, Invalid, Pending}
use Rattle.run_trace.specs.declared.traced.AccessKind.{AccessKind}
use Rattle.run_trace.specs.declared.traced.AccessKind.TheVariants.{Reads, Writes, WritesNot, Exchanges}
use Rattle.dsm_messages.specs.declared.headers.MessageKind.{MessageKind}
use Rattle.dsm_messages.specs.declared.headers.MessageKind.TheVariants as kind

abbrev pub message_name : MessageKind → List ℕ
message_name kind.Read = codes "Read"
message_name kind.Write = codes "Write"
message_name kind.FwdRead = codes "FwdRead"
message_name kind.FwdWrite = codes "FwdWrite"
message_name kind.Inval = codes "Inval"
message_name kind.Data = codes "Data"
message_name kind.Grant = codes "Grant"
message_name kind.Ack = codes "Ack"
message_name kind.Done = codes "Done"
message_name kind.Bye = codes "Bye"

abbrev pub state_name : State → List ℕ
state_name Exclusive = codes "exclusive"
state_name Shared = codes "shared"
state_name Invalid = codes "invalid"
state_name Pending = codes "pending"

abbrev pub access_name : AccessKind → List ℕ
access_name Reads = codes "; reads "
access_name Writes = codes "; writes "
access_name WritesNot = codes "; no longer reserved "
access_name Exchanges = codes "; exchanges "

abbrev pub need_name : Need → List ℕ
need_name need.Read = codes " to read"
need_name need.Write = codes " to write"

-- where a request that met its row was begun at the home, or waits there
abbrev pub begins_name : (sends : Bool) → List ℕ
begins_name true = codes "; begins"
begins_name false = codes "; waits at its home"

-- where a request was done, and the home begins another, or none
abbrev pub next_name : (sends : Bool) → List ℕ
next_name true = codes "; done, and the next begins"
next_name false = codes "; done"

-- where an answer ends the wait, or more of them come
abbrev pub answer_name : (completes : Bool) → List ℕ
answer_name true = codes "; completes"
answer_name false = codes "; more answers to come"

-- the row that a message of this kind met: whether it sent something, and whether it ended a wait
abbrev pub row_name : MessageKind → (sends completes : Bool) → List ℕ
row_name kind.Read sends completes = begins_name sends
row_name kind.Write sends completes = begins_name sends
row_name kind.FwdRead sends completes = codes "; shares"
row_name kind.FwdWrite sends completes = codes "; gives up"
row_name kind.Inval sends completes = codes "; gives up"
row_name kind.Data sends completes = answer_name completes
row_name kind.Grant sends completes = answer_name completes
row_name kind.Ack sends completes = answer_name completes
row_name kind.Done sends completes = next_name sends
row_name kind.Bye sends completes = []
