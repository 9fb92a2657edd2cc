use Rattle.std.proofs.Common.{◌∙◌, rules}
use Rattle.command_line.specs.Reading.{Reads}
use Rattle.command_line.specs.Table.{view_settings}
use Rattle.command_line.proofs.Viewing.{answers, only_one, view_word, word_is}
use Rattle.command_line.proofs.view.view_of.Goals as goal

pub returns-in_default-of-clause-asks : goal.returns-in_default-of-clause-asks
returns-in_default-of-clause-asks c v h =
    c.in_default-of.ensures (view_word v) (word_is v ∙ search rules)

pub returns-in_default-of-clause-only : goal.returns-in_default-of-clause-only
returns-in_default-of-clause-only c = only_one c.args.words.now

pub returns-in_err-matches-clause-only : goal.returns-in_err-matches-clause-only
returns-in_err-matches-clause-only c = only_one c.args.words.now

pub returns-in-Some-2-clause-asks : goal.returns-in-Some-2-clause-asks
returns-in-Some-2-clause-asks c =
    let w = c.in-Some-of.word in
    let reads : Reads (view_settings w) c.in-Some.arguments.now c.in-Some-2.matches = search rules in
    answers c.in-Some.word.now c.in-Some.arguments.now c.args.words.now w c.in-Some-2.matches
    c.view_in.result (search rules) (search rules) reads c.view_in.ensures

pub returns-in-Some-2-clause-only : goal.returns-in-Some-2-clause-only
returns-in-Some-2-clause-only c = only_one c.args.words.now

pub returns-in-None-clause-only : goal.returns-in-None-clause-only
returns-in-None-clause-only c = only_one c.args.words.now
