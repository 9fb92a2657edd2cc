use Rattle.std.proofs.Common.{length, sym, ◌∙◌}
use Rattle.std.proofs.lemmas.Bool.{ltb-true, ltb-false, cond-true, cond-false}
use Rattle.exec_map.proofs.Looking.{find_here, find_nowhere}
use Rattle.exec_map.proofs.segments.at_line.Goals as goal

pub returns-in_err-s : goal.returns-in_err-s
returns-in_err-s c =
    let xs = c.args.sorted.now in
    let le = ltb-false c.passed.result (length xs) (sym c.in_err-s.ensures.lookup.0) in
    rw c.from_residual.ensures (sym (find_nowhere xs c.args.line c.passed.result c.passed.ensures.passed le))

pub returns-then-touches : goal.returns-then-touches
returns-then-touches c =
    let xs = c.args.sorted.now in
    let lt = ltb-true c.passed.result (length xs) (sym c.in_ok-s.ensures.lookup.0) in
    let is = find_here xs c.args.line c.passed.result c.in_ok-s.s.now c.requires c.passed.ensures.passed c.passed.ensures.ahead lt c.in_ok-s.ensures.lookup.1 in
    sym (is ∙ cond-true _ _ _ (sym c.touches.ensures ∙ c.if-touches.true))

pub returns-else-touches : goal.returns-else-touches
returns-else-touches c =
    let xs = c.args.sorted.now in
    let lt = ltb-true c.passed.result (length xs) (sym c.in_ok-s.ensures.lookup.0) in
    let is = find_here xs c.args.line c.passed.result c.in_ok-s.s.now c.requires c.passed.ensures.passed c.passed.ensures.ahead lt c.in_ok-s.ensures.lookup.1 in
    sym (is ∙ cond-false _ _ _ (sym c.touches.ensures ∙ c.if-touches.false))
