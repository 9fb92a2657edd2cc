-- The first word that is left.
use Rattle.std.proofs.Common.{◌<◌, ◌+◌, sym, subst}
use Rattle.replay.specs.declared.cursor.Cursor.{Cursor}
use Rattle.replay.specs.Way.{IsNext, left_at}
use Rattle.replay.proofs.Cursors.{next_word}
use Rattle.replay.proofs.cursor.Cursors.next.Goals as goal

pub returns-then-cursor-entry : goal.returns-then-cursor-entry
returns-then-cursor-entry c =
    let w = c.args.self.now in
    let i = c.args.node in
    let is = c.at-cursor.ensures.value in
    subst (λ (z : Cursor). IsNext i (z.last + 1) (left_at w i)) (sym is)
    (next_word w i c.in_ok-entry.entry c.in_ok-entry.ensures
    (subst (λ (z : Cursor). z.words < c.in_ok-entry.entry.words) is c.if-cursor-entry.true))
