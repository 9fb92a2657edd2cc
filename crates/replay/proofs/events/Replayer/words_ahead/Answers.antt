-- The words of the node that comes first.
use Rattle.std.proofs.Common.{◌≡◌, ◌<◌, ap, subst, arith}
use Rattle.replay.specs.declared.cursor.Cursor.{Cursor}
use Rattle.replay.specs.Way.{last_at, cursor_at}
use Rattle.replay.proofs.Cursors.{word_within, words_first_of}
use Rattle.replay.proofs.events.Replayer.words_ahead.Goals as goal

pub overflow_sub-first : goal.overflow_sub-first
overflow_sub-first c =
    let w = c.args.self.now.cursors in let x = c.in_ok-first.first in let e = c.in-Some.entry in
    let is = c.at-cursor.ensures.value in
    let lt : (cursor_at w x.node).words < e.words =
    subst (λ (z : Cursor). z.words < e.words) is c.if-cursor-entry.false in
    let within = word_within w w.rec.now.nodes x e c.in_ok-first.ensures c.in-Some.ensures lt in
    let last : c.at-cursor.result.last ≡ last_at w x.node = ap (λ (z : Cursor). z.last) is in
    omega (arith, within, last)

pub returns-clause-words : goal.returns-clause-words
returns-clause-words c =
    let w = c.args.self.now.cursors in let x = c.in_ok-first.first in let e = c.in-Some.entry in
    let is = c.at-cursor.ensures.value in
    let lt : (cursor_at w x.node).words < e.words =
    subst (λ (z : Cursor). z.words < e.words) is c.if-cursor-entry.false in
    let least = c.min.ensures in
    let words = ap (λ (z : Cursor). z.words) is in
    let last = ap (λ (z : Cursor). z.last) is in
    record {
      node = c.in_ok-first.ensures.below;
      may = c.enabled.ensures.value.0 c.if-not-enabled.false;
      is_entry = c.in-Some.ensures;
      words = omega (arith, least, words, lt);
      first = λ some. words_first_of w w.rec.now.nodes c.min.result x e c.in_ok-first.ensures
          c.in-Some.ensures lt (omega (arith, least, last));
    }

pub returns-clause-some : goal.returns-clause-some
returns-clause-some c =
    let w = c.args.self.now.cursors in let x = c.in_ok-first.first in let e = c.in-Some.entry in
    let is = c.at-cursor.ensures.value in
    let lt : (cursor_at w x.node).words < e.words =
    subst (λ (z : Cursor). z.words < e.words) is c.if-cursor-entry.false in
    let within = word_within w w.rec.now.nodes x e c.in_ok-first.ensures c.in-Some.ensures lt in
    let least = c.min.ensures in
    let words = ap (λ (z : Cursor). z.words) is in
    let last = ap (λ (z : Cursor). z.last) is in
    omega (arith, within, least, words, last, lt)
