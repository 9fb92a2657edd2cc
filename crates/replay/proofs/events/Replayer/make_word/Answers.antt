-- The next word.
use Rattle.std.proofs.Common.{◌∙◌, ℕ, ◌+◌, ◌<◌, ◌≤◌, arith, [], ◌∷◌, ◌++◌, ap, refl, subst}
use Rattle.run_order.specs.node_model.declared.Entry.{Entry as JournalEntry}
use Rattle.dsm_core.specs.declared.seen.Seen.{Seen}
use Rattle.dsm_core.specs.CoreParts.{work_of}
use Rattle.replay.specs.declared.cursor.Cursor.{Cursor}
use Rattle.replay.specs.declared.events.Replayer.{Replayer}
use Rattle.replay.specs.declared.refused.ReplayRule.{ReplayRule}
use Rattle.replay.specs.declared.refused.ReplayRule.TheVariants.{NotThere}
use Rattle.replay.specs.Refusals.{IsFirstBroken}
use Rattle.replay.specs.Way.{cursor_at}
use Rattle.replay.proofs.Cursors.{word_next, words_less}
use Rattle.replay.proofs.Runs.{made_word, word_refused, err_same, not_true, entry_one, stamp_now}
use Rattle.replay.proofs.events.Replayer.make_word.Goals as goal

pub returns-then-not-enabled-clause-refused : goal.returns-then-not-enabled-clause-refused
returns-then-not-enabled-clause-refused c = λ rule i number err.
    let a = c.args.self.now in
    let x = c.requires.next in
    let P : ReplayRule → ℕ → ℕ → Type 0 =
    λ y j n. IsFirstBroken (work_of a.core) a.cursors.rec.now y j n in
    err_same Seen P c.broken.result NotThere rule c.args.node i
    ((cursor_at a.cursors c.args.node).takes + 1) number c.broken.ensures.value err
    (word_refused a c.args.node x.entry c.requires.running x.node x.is_entry x.words x.first
    (λ may. not_true c.enabled.result (c.enabled.ensures.value.1 may) c.if-not-enabled.true))

pub follow_word-requires-clause-word : goal.follow_word-requires-clause-word
follow_word-requires-clause-word c =
    let w = c.args.self.now.cursors in
    let x = c.requires.next in
    subst (λ (e : JournalEntry). (cursor_at w c.args.node).words < e.words)
    (entry_one w c.args.node x.entry c.in-Some.entry x.is_entry c.in-Some.ensures) x.words

pub returns-clause-made : goal.returns-clause-made
returns-clause-made c = λ before h.
    let a = c.args.self.now in
    let b : Replayer = record { core = c.step_seen.new.self; cursors = c.follow_word.new.self } in
    let x = c.requires.next in
    let made = c.in_ok-seen.ensures in
    let gone = made_word a b before c.args.node x.entry h x.node x.is_entry x.words x.first
    (c.enabled.ensures.value.0 c.if-not-enabled.false) made.event made.work
    c.follow_word.ensures.followed in
    record {
      told = word_next a.cursors c.args.node;
      event_is = refl;
      made = gone;
      may = c.enabled.ensures.value.0 c.if-not-enabled.false;
      stamp = stamp_now a b c.args.node (before ++ word_next a.cursors c.args.node ∷ []) gone
          c.follow_word.ensures.followed.rec_is x.node
          ∙ ap (λ (z : Cursor). z.last) c.follow_word.ensures.followed.own;
      leads = made.event;
      seen = made.seen;
    }

pub returns-clause-fewer : goal.returns-clause-fewer
returns-clause-fewer c =
    let w = c.args.self.now.cursors in
    let x = c.requires.next in
    let le : (cursor_at w c.args.node).words + 1 ≤ x.entry.words = (let lt = x.words in omega (arith, lt)) in
    words_less w c.follow_word.new.self c.args.node 1 x.entry c.follow_word.ensures.followed x.node x.is_entry le
    (omega arith)
