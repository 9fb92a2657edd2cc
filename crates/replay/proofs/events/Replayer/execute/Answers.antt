-- Words more, or why none can be executed.
use Rattle.std.proofs.Common.{◌≡◌, ℕ, ◌+◌, ◌-◌, ◌≤◌, drop, subst, arith}
use Rattle.dsm_core.specs.CoreParts.{work_of}
use Rattle.replay.specs.declared.refused.ReplayRule.{ReplayRule}
use Rattle.replay.specs.declared.refused.ReplayRule.TheVariants.{NotThere}
use Rattle.replay.specs.Refusals.{IsFirstBroken}
use Rattle.replay.specs.Way.{HasFollowed, cursor_at, entries_at}
use Rattle.replay.proofs.Cursors.{words_after, words_none, words_also, entry_kept, entry_within, mid_words, mid_first, mid_node}
use Rattle.replay.proofs.Runs.{same_none, same_also, broken_same, word_refused, err_same, not_true}
use Rattle.replay.proofs.events.Replayer.execute.Goals as goal

pub loop-made-init : goal.loop-made-init
loop-made-init c = record {
  running = c.requires.running;
  same = same_none c.args.self.now;
  followed = words_none c.args.self.now.cursors c.args.node;
  most = omega arith;
  may = c.enabled-may.ensures.value;
}

pub broken-requires-clause-record : goal.broken-requires-clause-record
broken-requires-clause-record c = c.loop-made.invariant.running.lawful.is_record

pub broken-requires-clause-node : goal.broken-requires-clause-node
broken-requires-clause-node c =
    let w = c.args.self.now.cursors in let i = c.args.node in
    mid_node w c.loop-made.self.cursors i i (words_after w i c.loop-made.made)
    c.loop-made.invariant.followed c.requires.node

pub broken-requires-clause-left : goal.broken-requires-clause-left
broken-requires-clause-left c =
    let w = c.args.self.now.cursors in let v = c.loop-made.self.cursors in
    let i = c.args.node in
    entry_within (cursor_at v i).takes (entries_at v i) c.args.entry
    (drop ((cursor_at v i).takes + 1) (entries_at v i))
    (entry_kept w v i c.loop-made.made c.args.entry c.loop-made.invariant.followed c.requires.entry)

pub returns-then-not-may-clause-refused : goal.returns-then-not-may-clause-refused
returns-then-not-may-clause-refused c = λ rule j number err.
    let a = c.args.self.now in let b = c.loop-made.self in
    let w = a.cursors in let v = b.cursors in
    let i = c.args.node in let k = c.loop-made.made in let e = c.args.entry in
    let h = c.loop-made.invariant in
    let some : k + 1 ≤ c.args.words = omega (arith, c.loop-made-test.true) in
    let within = mid_words w v i k 1 c.args.words e h.followed some c.requires.words in
    let P : ReplayRule → ℕ → ℕ → Type 0 =
    λ x y n. IsFirstBroken (work_of a.core) w.rec.now x y n in
    err_same (Unit {0}) P c.broken.result NotThere rule i j ((cursor_at v i).takes + 1) number
    c.broken.ensures.value err (broken_same a b NotThere i ((cursor_at v i).takes + 1) h.same
    (word_refused b i e h.running (mid_node w v i i (words_after w i k) h.followed c.requires.node)
    (entry_kept w v i k e h.followed c.requires.entry) (omega (arith, within))
    (mid_first w v i k 1 c.args.words h.followed some c.requires.first)
    (λ may. not_true c.loop-made.may (h.may.1 may) c.if-not-may.true)))

pub silent_words-made-requires-clause-running : goal.silent_words-made-requires-clause-running
silent_words-made-requires-clause-running c = c.loop-made.invariant.running

pub silent_words-made-requires-clause-node : goal.silent_words-made-requires-clause-node
silent_words-made-requires-clause-node c =
    let w = c.args.self.now.cursors in let i = c.args.node in
    mid_node w c.loop-made.self.cursors i i (words_after w i c.loop-made.made)
    c.loop-made.invariant.followed c.requires.node

pub silent_words-made-requires-clause-entry : goal.silent_words-made-requires-clause-entry
silent_words-made-requires-clause-entry c =
    entry_kept c.args.self.now.cursors c.loop-made.self.cursors c.args.node c.loop-made.made
    c.args.entry c.loop-made.invariant.followed c.requires.entry

pub silent_words-made-requires-clause-words : goal.silent_words-made-requires-clause-words
silent_words-made-requires-clause-words c =
    mid_words c.args.self.now.cursors c.loop-made.self.cursors c.args.node c.loop-made.made
    (c.args.words - c.loop-made.made) c.args.words c.args.entry c.loop-made.invariant.followed
    (omega (arith, c.loop-made-test.true)) c.requires.words

pub silent_words-made-requires-clause-first : goal.silent_words-made-requires-clause-first
silent_words-made-requires-clause-first c =
    mid_first c.args.self.now.cursors c.loop-made.self.cursors c.args.node c.loop-made.made
    (c.args.words - c.loop-made.made) c.args.words c.loop-made.invariant.followed
    (omega (arith, c.loop-made-test.true)) c.requires.first

pub silent_words-made-requires-clause-may : goal.silent_words-made-requires-clause-may
silent_words-made-requires-clause-may c = c.loop-made.invariant.may.0 c.if-not-may.false

pub word-requires-clause-running : goal.word-requires-clause-running
word-requires-clause-running c = c.silent_words-made.ensures.running

pub word-requires-clause-node : goal.word-requires-clause-node
word-requires-clause-node c =
    let w = c.args.self.now.cursors in let v = c.loop-made.self.cursors in
    let u = c.silent_words-made.new.self.cursors in let i = c.args.node in
    let k = c.loop-made.made in let r = c.silent_words-made.result in
    mid_node w u i i (words_after w i (k + r))
    (words_also w v u i k r c.loop-made.invariant.followed c.silent_words-made.ensures.followed)
    c.requires.node

pub word-requires-clause-entry : goal.word-requires-clause-entry
word-requires-clause-entry c =
    let w = c.args.self.now.cursors in let v = c.loop-made.self.cursors in
    let u = c.silent_words-made.new.self.cursors in let i = c.args.node in
    let k = c.loop-made.made in let r = c.silent_words-made.result in
    entry_kept w u i (k + r) c.args.entry
    (words_also w v u i k r c.loop-made.invariant.followed c.silent_words-made.ensures.followed)
    c.requires.entry

pub word-requires-clause-word : goal.word-requires-clause-word
word-requires-clause-word c =
    let w = c.args.self.now.cursors in let v = c.loop-made.self.cursors in
    let u = c.silent_words-made.new.self.cursors in let i = c.args.node in
    let k = c.loop-made.made in let r = c.silent_words-made.result in
    let within = mid_words w u i (k + r) 1 c.args.words c.args.entry
    (words_also w v u i k r c.loop-made.invariant.followed c.silent_words-made.ensures.followed)
    (omega (arith, c.if-made-words.true)) c.requires.words in
    omega (arith, within)

pub word-requires-clause-first : goal.word-requires-clause-first
word-requires-clause-first c =
    let w = c.args.self.now.cursors in let v = c.loop-made.self.cursors in
    let u = c.silent_words-made.new.self.cursors in let i = c.args.node in
    let k = c.loop-made.made in let r = c.silent_words-made.result in
    mid_first w u i (k + r) 1 c.args.words
    (words_also w v u i k r c.loop-made.invariant.followed c.silent_words-made.ensures.followed)
    (omega (arith, c.if-made-words.true)) c.requires.first

pub word-requires-clause-may : goal.word-requires-clause-may
word-requires-clause-may c = c.silent_words-made.ensures.may

pub loop-made-preserved-then-made-words : goal.loop-made-preserved-then-made-words
loop-made-preserved-then-made-words c =
    let h = c.loop-made.invariant in
    let s = c.silent_words-made.ensures in
    let g = c.in_ok-may.ensures in
    let w = c.args.self.now.cursors in let v = c.loop-made.self.cursors in
    let u = c.silent_words-made.new.self.cursors in let i = c.args.node in
    let k = c.loop-made.made in let r = c.silent_words-made.result in
    record {
      running = g.running;
      same = same_also c.args.self.now c.silent_words-made.new.self c.word.new.self
          (same_also c.args.self.now c.loop-made.self c.silent_words-made.new.self h.same s.same) g.same;
      followed = words_also w u c.word.new.self.cursors i (k + r) 1
          (words_also w v u i k r h.followed s.followed) g.followed;
      most = omega (arith, c.if-made-words.true);
      may = g.may;
    }

pub loop-made-preserved : goal.loop-made-preserved
loop-made-preserved c =
    let h = c.loop-made.invariant in
    let s = c.silent_words-made.ensures in
    let w = c.args.self.now.cursors in let v = c.loop-made.self.cursors in
    let u = c.silent_words-made.new.self.cursors in let i = c.args.node in
    let k = c.loop-made.made in let r = c.silent_words-made.result in
    record {
      running = s.running;
      same = same_also c.args.self.now c.loop-made.self c.silent_words-made.new.self h.same s.same;
      followed = words_also w v u i k r h.followed s.followed;
      most = omega (arith, s.most, c.loop-made-test.true);
      may = (λ _. s.may, λ _. c.if-not-may.false);
    }

pub returns-clause-running : goal.returns-clause-running
returns-clause-running c = c.loop-made.invariant.running

pub returns-clause-followed : goal.returns-clause-followed
returns-clause-followed c =
    let w = c.args.self.now.cursors in
    let all : c.loop-made.made ≡ c.args.words =
    omega (arith, c.loop-made.invariant.most, c.loop-made-test.false) in
    subst (λ k. HasFollowed w c.args.node (words_after w c.args.node k) c.loop-made.self.cursors) all
    c.loop-made.invariant.followed

pub returns-clause-same : goal.returns-clause-same
returns-clause-same c = c.loop-made.invariant.same
