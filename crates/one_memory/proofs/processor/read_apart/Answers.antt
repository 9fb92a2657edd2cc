use Rattle.std.proofs.Common.{sym}
use Rattle.one_memory.proofs.ReadLemmas.{read_private, read_first}
use Rattle.one_memory.proofs.processor.read_apart.Goals as goal

pub returns-in-Some : goal.returns-in-Some
returns-in-Some c =
    read_private c.args.memory.now c.args.body.now c.args.width c.args.address c.in-Some.number c.requires.aligned c.in-Some.ensures.value

pub returns-in-None : goal.returns-in-None
returns-in-None c =
    read_first c.args.memory.now c.args.body.now c.args.width c.args.address c.load_first.result c.requires.aligned (sym c.requires.apart) c.in-None.ensures.value c.load_first.ensures.value
