use Rattle.liveness.proofs.ChainLemmas.{pass_kept}
use Rattle.liveness.proofs.back.Predecessors.pass.Goals as goal

pub returns-clause-kept : goal.returns-clause-kept
returns-clause-kept c e q h = pass_kept c.args.self.now.heads.items c.args.self.now.links.items c.push.new.self.items e q c.in_ok-push.ensures.items h
