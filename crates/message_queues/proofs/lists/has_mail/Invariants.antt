use Rattle.std.proofs.Common.{◌≡◌, ℕ, ◌<◌, []}
use Rattle.message_queues.specs.Queue.{wires_of}
use Rattle.message_queues.proofs.lists.has_mail.Given as goal

abbrev pub invariant-loop-from : goal.invariant-loop-from
invariant-loop-from l = record {
  empty : (j : ℕ) → j < l.from → wires_of l.queues l.nodes j l.node ≡ [];
}
