use Rattle.std.proofs.Common.{◌≡◌, None, Some, ap}
use Rattle.run_record.proofs.Digits.{stamp_of, from_of, words_of}
use Rattle.run_record.proofs.Told.{same_take}
use Rattle.run_record.proofs.line.take_of.Goals as goal

pub returns-in_err-stamp_or_gap-clause-only : goal.returns-in_err-stamp_or_gap-clause-only
returns-in_err-stamp_or_gap-clause-only c = λ e h. absurd (c.in_err-stamp_or_gap.ensures.only _ _ (stamp_of c.args.line.now e h))

pub returns-in_err-from-clause-only : goal.returns-in_err-from-clause-only
returns-in_err-from-clause-only c = λ e h.
    let stamp = c.in_ok-stamp_or_gap.ensures.only _ _ (stamp_of c.args.line.now e h) in
    absurd (c.in_err-from.ensures.only _ _ (from_of c.args.line.now _ e h stamp.1))

pub returns-in_err-words-clause-only : goal.returns-in_err-words-clause-only
returns-in_err-words-clause-only c = λ e h.
    let stamp = c.in_ok-stamp_or_gap.ensures.only _ _ (stamp_of c.args.line.now e h) in
    let from = c.in_ok-from.ensures.only _ _ (from_of c.args.line.now _ e h stamp.1) in
    let t : None ≡ Some e.words = c.in_err-words.ensures.only _ (words_of c.args.line.now _ e h from.1) in
    absurd (cc)

pub returns-clause-only : goal.returns-clause-only
returns-clause-only c = λ e h.
    let stamp = c.in_ok-stamp_or_gap.ensures.only _ _ (stamp_of c.args.line.now e h) in
    let from = c.in_ok-from.ensures.only _ _ (from_of c.args.line.now _ e h stamp.1) in
    let t : Some c.in_ok-words.words ≡ Some e.words = c.in_ok-words.ensures.only _ (words_of c.args.line.now _ e h from.1) in
    let words : c.in_ok-words.words ≡ e.words = cc in
    ap Some (same_take _ e stamp.0 from.0 words)
