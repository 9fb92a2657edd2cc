-- The next events of the first node.
use Rattle.std.proofs.Common.{◌≡◌, ◌≤◌, ◌<◌, ◌+◌, ap, subst, arith}
use Rattle.std.proofs.lemmas.Result.{on_ok_weaker}
use Rattle.replay.specs.declared.cursor.Cursor.{Cursor}
use Rattle.replay.specs.Way.{last_at, cursor_at}
use Rattle.replay.proofs.Cursors.{next_take, first_event, word_within, words_first_of, words_less, take_less}
use Rattle.replay.proofs.events.Replayer.make_first.Goals as goal

pub overflow_sub-first : goal.overflow_sub-first
overflow_sub-first c =
    let w = c.args.self.now.cursors in let x = c.args.first in let e = c.in-Some.entry in
    let is = c.at-cursor.ensures.value in
    let lt : (cursor_at w x.node).words < e.words =
    subst (λ (z : Cursor). z.words < e.words) is c.if-cursor-entry.true in
    let within = word_within w w.rec.now.nodes x e c.requires.first c.in-Some.ensures lt in
    let last : c.at-cursor.result.last ≡ last_at w x.node = ap (λ (z : Cursor). z.last) is in
    omega (arith, within, last)

pub execute-requires-clause-first : goal.execute-requires-clause-first
execute-requires-clause-first c =
    let w = c.args.self.now.cursors in let x = c.args.first in let e = c.in-Some.entry in
    let is = c.at-cursor.ensures.value in
    let lt : (cursor_at w x.node).words < e.words =
    subst (λ (z : Cursor). z.words < e.words) is c.if-cursor-entry.true in
    let least = c.min-words.ensures in
    let last = ap (λ (z : Cursor). z.last) is in
    words_first_of w w.rec.now.nodes c.min-words.result x e c.requires.first c.in-Some.ensures lt
    (omega (arith, least, last))

pub returns-then-cursor-entry-clause-fewer : goal.returns-then-cursor-entry-clause-fewer
returns-then-cursor-entry-clause-fewer c =
    let w = c.args.self.now.cursors in let x = c.args.first in let e = c.in-Some.entry in
    let is = c.at-cursor.ensures.value in
    let lt : (cursor_at w x.node).words < e.words =
    subst (λ (z : Cursor). z.words < e.words) is c.if-cursor-entry.true in
    let within = word_within w w.rec.now.nodes x e c.requires.first c.in-Some.ensures lt in
    let least = c.min-words.ensures in
    let words = ap (λ (z : Cursor). z.words) is in
    let last = ap (λ (z : Cursor). z.last) is in
    let some : 1 ≤ c.min-words.result = omega (arith, within, least, words, last, lt) in
    let le : (cursor_at w x.node).words + c.min-words.result ≤ e.words =
    omega (arith, least, words, lt) in
    on_ok_weaker c.execute.result (λ f. words_less w c.execute.new.self.cursors x.node
    c.min-words.result e f c.requires.first.below c.in-Some.ensures le some)
    c.execute.ensures.followed

pub take-requires-clause-first : goal.take-requires-clause-first
take-requires-clause-first c =
    let w = c.args.self.now.cursors in let x = c.args.first in let e = c.in-Some.entry in
    let le : e.words ≤ (cursor_at w x.node).words =
    subst (λ (z : Cursor). e.words ≤ z.words) c.at-cursor.ensures.value c.if-cursor-entry.false in
    first_event w w.rec.now.nodes e.stamp x c.requires.first
    (next_take w x.node e c.in-Some.ensures le)

pub returns-clause-fewer : goal.returns-clause-fewer
returns-clause-fewer c =
    let w = c.args.self.now.cursors in let i = c.args.first.node in let e = c.in-Some.entry in
    let le : e.words ≤ (cursor_at w i).words =
    subst (λ (z : Cursor). e.words ≤ z.words) c.at-cursor.ensures.value c.if-cursor-entry.false in
    take_less w c.take.new.self.cursors i e c.in_ok-take.ensures.followed
    c.requires.first.below c.in-Some.ensures le
