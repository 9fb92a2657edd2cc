use Rattle.block_layout.proofs.LineFields.{split_moved}
use Rattle.block_layout.proofs.text.words_of.Goals as goal

pub returns-in_err-start-clause-only : goal.returns-in_err-start-clause-only
returns-in_err-start-clause-only c = λ x y z w h. absurd (c.in_err-start.ensures.only x h.behind h.first)

pub returns-in_err-length-clause-only : goal.returns-in_err-length-clause-only
returns-in_err-length-clause-only c = λ x y z w h.
    let first = c.in_ok-start.ensures.only x h.behind h.first in
    absurd (c.in_err-length.ensures.only y h.far (split_moved _ h.behind y h.far first.1 h.second))

pub returns-in_err-block-clause-only : goal.returns-in_err-block-clause-only
returns-in_err-block-clause-only c = λ x y z w h.
    let first = c.in_ok-start.ensures.only x h.behind h.first in
    let second = c.in_ok-length.ensures.only y h.far (split_moved _ h.behind y h.far first.1 h.second) in
    absurd (c.in_err-block.ensures.only z w (split_moved _ h.far z w second.1 h.third))

pub returns-clause-only : goal.returns-clause-only
returns-clause-only c = λ x y z w h.
    let first = c.in_ok-start.ensures.only x h.behind h.first in
    let second = c.in_ok-length.ensures.only y h.far (split_moved _ h.behind y h.far first.1 h.second) in
    let third = c.in_ok-block.ensures.only z w (split_moved _ h.far z w second.1 h.third) in
    (first.0, second.0, third.0, third.1)
