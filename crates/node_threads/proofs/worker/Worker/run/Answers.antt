use Rattle.node_threads.proofs.Working.{works_none}
use Rattle.node_threads.proofs.worker.Worker.run.Goals as goal

pub returns-in-Spinning : goal.returns-in-Spinning
returns-in-Spinning g c = record { works = works_none _ c.requires.undelivered }
