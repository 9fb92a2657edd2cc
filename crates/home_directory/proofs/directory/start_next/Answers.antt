use Rattle.std.proofs.Common.{◌≡◌, ◌<◌, ◌∙◌, ap, sym, arith}
use Rattle.home_directory.specs.Table.{Start}
use Rattle.home_directory.proofs.Requests.{next_started}
use Rattle.home_directory.proofs.directory.start_next.Goals as goal

pub returns-else-request-nodes-clause-sends : goal.returns-else-request-nodes-clause-sends
returns-else-request-nodes-clause-sends c =
    let request = c.in-Some.request in
    let node : request.from < c.args.nodes = omega arith in
    c.start.ensures.sends
    ∙ ap (λ (s : Start). s.sends) (sym (next_started c.args.block c.args.entry.now c.args.waiting.now.requests c.take_first.new.self.requests request c.in-Some.ensures.first c.args.nodes node))
