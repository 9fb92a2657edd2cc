use Rattle.node_threads.proofs.Working.{works_none}
use Rattle.node_threads.proofs.worker.Worker.act.Goals as goal

pub returns-in-Over : goal.returns-in-Over
returns-in-Over g c = record { works = works_none _ c.requires.undelivered }
