use Rattle.block_layout.proofs.Fields.{words_of_fields, fields_moved}
use Rattle.block_layout.proofs.text.fields_of.Goals as goal

pub returns-in_err-words-clause-only : goal.returns-in_err-words-clause-only
returns-in_err-words-clause-only c = λ r h. absurd (c.in_err-words.ensures.only _ _ _ _ (words_of_fields c.args.line.now r h))

pub returns-clause-only : goal.returns-clause-only
returns-clause-only c = λ r h.
    let same = c.in_ok-words.ensures.only _ _ _ _ (words_of_fields c.args.line.now r h) in
    c.range_of.ensures.only r (fields_moved _ _ _ _ _ _ _ _ r same.0 same.1 same.2 same.3 (record { start = h.start; length = h.length; block = h.block; home = h.home }))
