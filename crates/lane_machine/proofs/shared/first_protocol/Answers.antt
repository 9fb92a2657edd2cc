-- The entries of a directory at the start.
use Rattle.node_machine.proofs.OpeningLemmas.{opening_entries}
use Rattle.lane_machine.proofs.shared.first_protocol.Goals as goal

pub returns-clause-entries : goal.returns-clause-entries
returns-clause-entries c =
    let new = c.in_ok-directory.ensures in
    opening_entries c.in_ok-directory.directory c.args.layout.now c.args.me new.layout new.me new.entries
