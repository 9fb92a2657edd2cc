-- What is put back for the bytes of a debugger (GDB manual, 'Packet Acknowledgment').
use Rattle.std.specs.Prelude.{ℕ, ◌++◌, Bool, true, false, List, [], ◌∷◌, Option, Some, None, if◌then◌else◌}
use Rattle.gdb_remote.specs.declared.reader.PacketEvent.{PacketEvent}
use Rattle.gdb_remote.specs.declared.reader.PacketEvent.TheVariants.{Packet, Damaged, TooLong, Interrupt, Acknowledged, AskedAgain}
use Rattle.gdb_session.specs.declared.session.After.{After}
use Rattle.gdb_session.specs.declared.session.After.TheVariants.{GoesOn, Leaves, IsKilled}
use Rattle.gdb_remote.specs.Frames.{framed}
use Rattle.gdb_remote.specs.Readings.{Reading}
use Rattle.gdb_session.specs.Sessions.{Session, refused}

-- a reader and a session, and the packet that was put last
pub record Server : Type 0 where
  pub reading : Reading
  pub session : Session
  pub last : List ℕ

-- an acknowledgement, where there are any
abbrev pub acknowledgement : Session → ℕ → List ℕ
acknowledgement s sign = if s.acknowledges then sign ∷ [] else []

-- the packet that was put last, after an event: a packet that is too long is refused
abbrev pub last_after : List ℕ → Option PacketEvent → List ℕ
last_after last (Some TooLong) = framed refused
last_after last e = last

-- what is put for an event: a packet is acknowledged, and a damaged one asked for again
abbrev pub put_for : Session → List ℕ → Option PacketEvent → List ℕ
put_for s last (Some Packet) = acknowledgement s 43
put_for s last (Some Damaged) = acknowledgement s 45
put_for s last (Some TooLong) = acknowledgement s 43 ++ framed refused
put_for s last (Some AskedAgain) = last
put_for s last (Some Interrupt) = []
put_for s last (Some Acknowledged) = []
put_for s last None = []

-- whether an event is a request that is to be answered
abbrev pub is_request : Option PacketEvent → Bool
is_request (Some Packet) = true
is_request e = false

-- the packet of an answer, if one is awaited
abbrev pub packet_of : After → List ℕ → List ℕ
packet_of GoesOn answer = framed answer
packet_of Leaves answer = framed answer
packet_of IsKilled answer = []

-- the packet that was put last, after an answer
abbrev pub last_behind : After → (last answer : List ℕ) → List ℕ
last_behind GoesOn last answer = framed answer
last_behind Leaves last answer = framed answer
last_behind IsKilled last answer = last
