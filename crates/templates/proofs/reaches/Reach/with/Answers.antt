use Rattle.templates.proofs.ReachLemmas.{extends_by, extends_not}
use Rattle.templates.proofs.reaches.Reach.with.Goals as goal

pub returns-in-Some : goal.returns-in-Some
returns-in-Some c = record {
  value = extends_by c.args.self c.in-Some.more c.joined.result c.args.i.now c.in-Some.ensures.value c.joined.ensures.value;
}

pub returns-in-None : goal.returns-in-None
returns-in-None c = record { value = extends_not c.args.self c.args.i.now c.in-None.ensures.value }
