-- The next event of the first node.
use Rattle.std.proofs.Common.{◌≤◌, ◌<◌, ◌+◌, refl, subst}
use Rattle.replay.specs.declared.cursor.Cursor.{Cursor}
use Rattle.replay.specs.Way.{last_at, cursor_at}
use Rattle.replay.proofs.Cursors.{next_word, next_take, first_event, lawful_entry}
use Rattle.replay.proofs.events.Replayer.next.Goals as goal

pub returns-then-at-entry : goal.returns-then-at-entry
returns-then-at-entry c =
    let w = c.args.self.now.cursors in let x = c.in_ok-node.field-0 in let e = c.in-Some.entry in
    let first = c.in_ok-node.ensures in
    let lt : (cursor_at w x.node).words < e.words =
    subst (λ (z : Cursor). z.words < e.words) c.at.ensures.value c.if-at-entry.true in
    record {
      node = first.below;
      entry = e;
      is_entry = c.in-Some.ensures;
      words = lt;
      first = first_event w w.rec.now.nodes (last_at w x.node + 1) x first
          (next_word w x.node e c.in-Some.ensures lt);
    }

pub returns : goal.returns
returns c =
    let w = c.args.self.now.cursors in let x = c.in_ok-node.field-0 in let e = c.in-Some.entry in
    let first = c.in_ok-node.ensures in
    let le : e.words ≤ (cursor_at w x.node).words =
    subst (λ (z : Cursor). e.words ≤ z.words) c.at.ensures.value c.if-at-entry.false in
    record {
      node = first.below;
      entry = e;
      is_entry = c.in-Some.ensures;
      words = le;
      from = refl;
      sender = (lawful_entry w x.node e first.below c.requires.running.lawful c.in-Some.ensures).from;
      first = first_event w w.rec.now.nodes e.stamp x first
          (next_take w x.node e c.in-Some.ensures le);
    }
