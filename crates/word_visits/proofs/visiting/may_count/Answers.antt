-- A load of a word other than the flag word.
use Rattle.std.proofs.Common.{subst}
use Rattle.rv32_decode.specs.declared.LoadKind.TheVariants.{Word as WordLoad}
use Rattle.node_words.specs.Strides.{Gives}
use Rattle.word_visits.proofs.VisitLemmas.{micro_reads}
use Rattle.word_visits.proofs.visiting.may_count.Goals as goal

pub returns-in-Some : goal.returns-in-Some
returns-in-Some c = λ done looks image at few there.
    let b = c.args.body.now in
    micro_reads image at c.in-Some._value c.args.op.now b few there c.in-LoadWord.is
    (subst (λ a. Gives b WordLoad a c.in-Some._value) c.sum_by.ensures c.in-Some.ensures.value) c.in-Some.ensures.unlike
