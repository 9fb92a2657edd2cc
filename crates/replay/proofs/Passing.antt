-- A silent word of a stretch.
use Rattle.std.proofs.Common.{◌≡◌, ℕ, ◌+◌, ◌<◌, true, List, [], ◌∷◌, ◌++◌, refl, sym, ap, ◌∙◌, subst, eq-eqb, arith}
use Rattle.run_order.specs.node_model.declared.Entry.{Entry as JournalEntry}
use Rattle.run_order.specs.node_model.Node.{Work, Node, standing_of}
use Rattle.run_order.specs.node_model.Turns.{word_turn}
use Rattle.run_order.specs.node_model.Core.{Core, Exec, May, may_execute, event_step}
use Rattle.run_record.specs.declared.Record.{Record}
use Rattle.dsm_core.specs.CoreParts.{work_of, core_of}
use Rattle.dsm_core.specs.CoreWords.{HasPassed}
use Rattle.replay.specs.declared.cursor.Cursor.{Cursor}
use Rattle.replay.specs.declared.events.Replayer.{Replayer}
use Rattle.replay.specs.declared.events.WordsAhead.{WordsAhead}
use Rattle.replay.specs.Told.{Told}
use Rattle.replay.specs.Way.{cursor_at, last_at, IsEntryOf, ComesFirst, HasFollowed, HasMade, HasMadeWord, IsSilent, IsStretch}
use Rattle.replay.proofs.Cursors.{word_next, after_word, words_after, entry_kept, first_kept, mid_node}
use Rattle.replay.proofs.Runs.{made_word, stamp_now}

word_node : (work : Work) (c : Core) (i : ℕ)
    → (event_step work c (Exec i)).nodes i ≡ (word_turn work (c.nodes i)).node
word_node work c i = rw (eq-eqb i i refl) refl

-- a word that was passed is silent
silent_word : (work : Work) (c d : Core) (i : ℕ) → i < work.layout.nodes → HasPassed work i c d
    → IsSilent work c (Exec i)
silent_word work c d i bi p = (
  p.silent,
  subst (λ (n : Node). may_execute (standing_of work n) ≡ true) (p.event.nodes i bi ∙ word_node work c i) p.may.1,
)

-- and it is one word more
pub passed_word : (a d : Replayer) (before : List Told) (i : ℕ) (e : JournalEntry) → HasMade a before
    → i < a.cursors.rec.now.nodes → IsEntryOf a.cursors i e → (cursor_at a.cursors i).words < e.words
    → ComesFirst a.cursors a.cursors.rec.now.nodes (last_at a.cursors i + 1) i
    → May (work_of a.core) (core_of a.core) (Exec i)
    → HasPassed (work_of a.core) i (core_of a.core) (core_of d.core) → work_of d.core ≡ work_of a.core
    → HasFollowed a.cursors i (after_word a.cursors i) d.cursors → HasMadeWord a d before i
passed_word a d before i e h bi entry lt first may p work f =
    let made = made_word a d before i e h bi entry lt first may p.event work f in
    record {
      told = word_next a.cursors i;
      event_is = refl;
      made = made;
      may = may;
      stamp = stamp_now a d i (before ++ word_next a.cursors i ∷ []) made f.rec_is bi
          ∙ ap (λ (z : Cursor). z.last) f.own;
      silent = silent_word (work_of a.core) (core_of a.core) (core_of d.core) i may.0 p;
    }

-- the words of a stretch behind so many are a stretch
pub stretch_on : (a d : Replayer) (s : WordsAhead) (j k : ℕ) → s.words ≡ k + j → IsStretch a s
    → HasFollowed a.cursors s.node (words_after a.cursors s.node j) d.cursors
    → May (work_of d.core) (core_of d.core) (Exec s.node) → IsStretch d (record s { words = k })
stretch_on a d s j k count is f may =
    let w = a.cursors in let v = d.cursors in let i = s.node in
    let words : (cursor_at v i).words ≡ (cursor_at w i).words + j = ap (λ (c : Cursor). c.words) f.own in
    let last : last_at v i ≡ last_at w i + j = ap (λ (c : Cursor). c.last) f.own in
    let same : last_at w i + s.words ≡ last_at v i + k = omega (arith, last, count) in
    let within = is.words in
    record {
      node = mid_node w v i i (words_after w i j) f is.node;
      may = may;
      is_entry = entry_kept w v i j s.entry f is.is_entry;
      words = omega (arith, words, within, count);
      first = λ some. subst (λ (r : Record). ComesFirst v r.nodes (last_at v i + k) i) (sym f.rec_is)
          (subst (λ x. ComesFirst v w.rec.now.nodes x i) same
          (first_kept w v i w.rec.now.nodes (last_at w i + s.words) (words_after w i j) f
          (is.first (omega (arith, count, some)))));
    }
