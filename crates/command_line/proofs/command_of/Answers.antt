use Rattle.std.proofs.Common.{List, ◌∙◌, rules}
use Rattle.command_line.specs.Asks.{Argument}
use Rattle.command_line.specs.Table.{settings_of}
use Rattle.command_line.specs.Reading.{IsCut, Reads}
use Rattle.command_line.proofs.Rows.{answers, answers_none, command_word, only_one, word_is}
use Rattle.command_line.proofs.command_of.Goals as goal

pub returns-in_default-of-clause-asks : goal.returns-in_default-of-clause-asks
returns-in_default-of-clause-asks c d h =
    c.in_default-of.ensures (command_word d) (word_is d ∙ search rules)

pub returns-in_default-of-clause-only : goal.returns-in_default-of-clause-only
returns-in_default-of-clause-only c = only_one c.args.words.now

pub returns-in_err-matches-clause-only : goal.returns-in_err-matches-clause-only
returns-in_err-matches-clause-only c = only_one c.args.words.now

pub returns-in-Some-2-clause-asks : goal.returns-in-Some-2-clause-asks
returns-in-Some-2-clause-asks c =
    let w = c.in-Some-of.word in
    let reads : Reads (settings_of w) c.in-Some.arguments.now c.in-Some-2.matches = search rules in
    answers c.in-Some.word.now c.in-Some.arguments.now c.args.words.now w c.in-Some-2.matches
    c.command_in.result (search rules) (search rules) reads c.command_in.ensures

pub returns-in-Some-2-clause-only : goal.returns-in-Some-2-clause-only
returns-in-Some-2-clause-only c = only_one c.args.words.now

pub returns-in-None-clause-asks : goal.returns-in-None-clause-asks
returns-in-None-clause-asks c d h =
    let w = c.in-Some-of.word in
    let none : (xs : List Argument) → IsCut (settings_of w) c.in-Some.arguments.now xs → ⊥ =
    search rules in
    answers_none c.in-Some.word.now c.in-Some.arguments.now c.args.words.now w (search rules)
    (search rules) none d h

pub returns-in-None-clause-only : goal.returns-in-None-clause-only
returns-in-None-clause-only c = only_one c.args.words.now
