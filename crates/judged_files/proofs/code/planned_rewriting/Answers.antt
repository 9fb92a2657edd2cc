use Rattle.judged_files.proofs.code.planned_rewriting.Goals as goal

pub returns-in_ok-too_many_words-in-Err-CodeTooLarge-clause-refused :
    goal.returns-in_ok-too_many_words-in-Err-CodeTooLarge-clause-refused
returns-in_ok-too_many_words-in-Err-CodeTooLarge-clause-refused c =
    let is = c.in-Err-CodeTooLarge.is in
    let words_is = c.in-Err-CodeTooLarge.field-0-is in (
      c.in-Err-CodeTooLarge.words,
      c.rewrite.ensures.too_large c.in-Err-CodeTooLarge.words (cc),
      (cc (c.in_ok-too_many_words-in-Err-CodeTooLarge.ensures, c.in-Err-CodeTooLarge.words-is)),
    )
