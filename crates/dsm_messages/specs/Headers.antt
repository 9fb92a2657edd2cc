-- Messages without their buffers.
use Rattle.std.specs.Prelude.{ℕ, Some, None}
use Rattle.dsm_messages.specs.declared.messages.Message.{Message}
use Rattle.dsm_messages.specs.declared.messages.Message.TheVariants.{Read, Write, FwdRead, FwdWrite, Inval, Data, Grant, Ack, Done, Bye}
use Rattle.dsm_messages.specs.declared.messages.Post.{Post}
use Rattle.dsm_messages.specs.declared.headers.MessageKind.{MessageKind}
use Rattle.dsm_messages.specs.declared.headers.MessageKind.TheVariants as kind
use Rattle.dsm_messages.specs.declared.headers.Header.{Header}
use Rattle.dsm_messages.specs.declared.headers.Sent.{Sent}

abbrev pub about : MessageKind → (block : ℕ) → Header
about k b = record { kind = k; block = Some b; requester = None; acks = None }

abbrev pub header_of : Message → Header
header_of (Read b buf) = about kind.Read b
header_of (Write b buf) = about kind.Write b
header_of (FwdRead b r buf) = record (about kind.FwdRead b) { requester = Some r }
header_of (FwdWrite b r k buf) =
    record (about kind.FwdWrite b) { requester = Some r; acks = Some k }
header_of (Inval b r) = record (about kind.Inval b) { requester = Some r }
header_of (Data b k buf) = record (about kind.Data b) { acks = Some k }
header_of (Grant b k buf) = record (about kind.Grant b) { acks = Some k }
header_of (Ack b) = about kind.Ack b
header_of (Done b) = about kind.Done b
header_of Bye = record { kind = kind.Bye; block = None; requester = None; acks = None }

abbrev pub sent_by : Post → Sent
sent_by p = record { to = p.to; header = header_of p.message }
