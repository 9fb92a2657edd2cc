use Rattle.std.proofs.Common.{◌≡◌, None, Some, ap}
use Rattle.run_record.proofs.Digits.{start_of, length_of, size_of}
use Rattle.run_record.proofs.Told.{same_range}
use Rattle.run_record.proofs.line.range_of.Goals as goal

pub returns-in_err-block-clause-only : goal.returns-in_err-block-clause-only
returns-in_err-block-clause-only c = λ r h.
    let start = c.in_ok-start.ensures.only _ _ (start_of c.args.line.now r h) in
    let length = c.in_ok-length.ensures.only _ _ (length_of c.args.line.now _ r h start.1) in
    absurd (c.in_err-block.ensures.only _ _ h.digits.size (size_of c.args.line.now _ r h length.1))

pub returns-in_err-home-clause-only : goal.returns-in_err-home-clause-only
returns-in_err-home-clause-only c = λ r h.
    let start = c.in_ok-start.ensures.only _ _ (start_of c.args.line.now r h) in
    let length = c.in_ok-length.ensures.only _ _ (length_of c.args.line.now _ r h start.1) in
    let size = c.in_ok-block.ensures.only _ _ h.digits.size (size_of c.args.line.now _ r h length.1) in
    let t : None ≡ Some r.home = c.in_err-home.ensures.only r.home h.digits.home size.1 in
    absurd (cc)

pub returns-clause-only : goal.returns-clause-only
returns-clause-only c = λ r h.
    let start = c.in_ok-start.ensures.only _ _ (start_of c.args.line.now r h) in
    let length = c.in_ok-length.ensures.only _ _ (length_of c.args.line.now _ r h start.1) in
    let size = c.in_ok-block.ensures.only _ _ h.digits.size (size_of c.args.line.now _ r h length.1) in
    let t : Some c.in_ok-home.home ≡ Some r.home = c.in_ok-home.ensures.only r.home h.digits.home size.1 in
    let home : c.in_ok-home.home ≡ r.home = cc in
    ap Some (same_range _ r start.0 length.0 size.0 home)
