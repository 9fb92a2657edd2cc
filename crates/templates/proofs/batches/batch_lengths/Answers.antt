use Rattle.std.proofs.Common.{arith}
use Rattle.templates.specs.Code.{code_of}
use Rattle.templates.specs.Runs.{code_from}
use Rattle.templates.proofs.BatchLemmas.{fast_words}
use Rattle.templates.proofs.ExpandLemmas.{some_words}
use Rattle.templates.proofs.batches.batch_lengths.Goals as goal

pub returns-clause-fast : goal.returns-clause-fast
returns-clause-fast c =
    let e = c.args.entry.now in
    let code = code_of c.args.code.now in
    let words = fast_words e.address e.batch (code_from code e.address e.run) (some_words code e.address e.run c.requires.run) in
    let coded = c.requires.run.coded in
    let spilled = c.reload_count-spilled.ensures.value in
    omega (arith, words, coded, spilled)
