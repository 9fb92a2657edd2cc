use Rattle.templates.specs.Code.{code_of}
use Rattle.templates.proofs.ExpandLemmas.{fast_longer}
use Rattle.templates.proofs.batches.push_fast.Goals as goal

pub returns-clause-words : goal.returns-clause-words
returns-clause-words c =
    fast_longer c.args.sequence.now.items c.push_reloads.new.sequence.items c.push_run.new.sequence.items c.push_to_head.new.sequence.items
    (code_of c.args.code.now) c.args.entry.now c.address_behind.result c.requires.run c.address_behind.ensures.value
    c.push_reloads.ensures.words c.push_run.ensures.words c.push_to_head.ensures.words
