use Rattle.exec_map.proofs.Accepting.{accepted}
use Rattle.exec_map.proofs.accept.Goals as goal

pub returns-clause-accepted : goal.returns-clause-accepted
returns-clause-accepted c = accepted c.args.e.now c.segments.ensures.placed c.in_default-broken_by_code.ensures.none c.in_default-broken_by_code.ensures.supported
