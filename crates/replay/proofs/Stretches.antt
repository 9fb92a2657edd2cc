-- Words of one node, one after another, between two places of its journal.
use Rattle.std.proofs.Common.{◌≡◌, ◌≢◌, ℕ, zero, suc, ◌+◌, ◌<◌, ◌≤◌, List, [], ◌∷◌, ◌++◌, append-nil, append_assoc, get_or, refl, sym, ap, ap₂, ◌∙◌, subst, arith, ⊎_elim}
use Rattle.std.specs.Prelude.{replicate}
use Rattle.std.proofs.lemmas.Bool.{cases_eq}
use Rattle.run_order.specs.node_model.declared.Entry.{Entry as JournalEntry}
use Rattle.run_order.specs.node_model.Node.{Work, Node}
use Rattle.run_order.specs.node_model.Core.{Core, Exec, May, AreAlike, event_step}
use Rattle.run_record.specs.declared.Record.{Record}
use Rattle.run_record.specs.Record.{IsRecord, AreTakesBehind}
use Rattle.dsm_core.specs.CoreParts.{work_of, core_of}
use Rattle.dsm_core.specs.CoreWords.{GoesOnBy, HasPassedWords}
use Rattle.dsm_core.proofs.CoreRuns.{alike_also, alike_same}
use Rattle.replay.specs.declared.cursor.Cursor.{Cursor}
use Rattle.replay.specs.declared.cursor.Cursors.{Cursors}
use Rattle.replay.specs.declared.events.Replayer.{Replayer}
use Rattle.replay.specs.Told.{Told, entries_of, events_told}
use Rattle.replay.specs.Way.{left_of, start_of, cursor_at, entries_at, left_at, last_at, IsEntryOf, AreLawful, ComesFirst, HasFollowed, HasMade, HasMadeWords, IsBehind, IsRunning}
use Rattle.replay.proofs.Made.{word_at}
use Rattle.replay.proofs.Way.{IsAhead, step_on}
use Rattle.replay.proofs.Runs.{made_of, running_of}
use Rattle.replay.proofs.Cursors.{behind_word, word_next, after_word, words_after, words_none, word_ahead, word_now, word_lawful, left_same, first_kept, first_sooner, entry_kept}

-- 1. The place of one node, by a list of places

abbrev put_at : List Cursor → ℕ → Cursor → List Cursor
put_at [] zero c = c ∷ []
put_at [] (suc i) c = start_of ∷ put_at [] i c
put_at (x ∷ xs) zero c = c ∷ xs
put_at (x ∷ xs) (suc i) c = x ∷ put_at xs i c

put_own : (xs : List Cursor) (i : ℕ) (c : Cursor) → get_or (put_at xs i c) i start_of ≡ c
put_own [] zero c = refl
put_own [] (suc i) c = put_own [] i c
put_own (x ∷ xs) zero c = refl
put_own (x ∷ xs) (suc i) c = put_own xs i c

put_others : (xs : List Cursor) (i : ℕ) (c : Cursor) (k : ℕ) → k ≢ i
    → get_or (put_at xs i c) k start_of ≡ get_or xs k start_of
put_others [] zero c zero other = absurd (other refl)
put_others [] zero c (suc k) other = refl
put_others [] (suc i) c zero other = refl
put_others [] (suc i) c (suc k) other = put_others [] i c k (λ e. other (ap suc e))
put_others (x ∷ xs) zero c zero other = absurd (other refl)
put_others (x ∷ xs) zero c (suc k) other = refl
put_others (x ∷ xs) (suc i) c zero other = refl
put_others (x ∷ xs) (suc i) c (suc k) other = put_others xs i c k (λ e. other (ap suc e))

abbrev followed_to : Cursors → ℕ → Cursor → Cursors
followed_to w i c = record w { cursors = put_at w.cursors i c }

has_followed : (w : Cursors) (i : ℕ) (c : Cursor) → HasFollowed w i c (followed_to w i c)
has_followed w i c = record {
  rec_is = refl;
  own = put_own w.cursors i c;
  others = λ k other. put_others w.cursors i c k other;
}

-- 2. A core at these places

pub record IsAt (work : Work) (w : Cursors) (c : Core) (before : List Told) : Type 0 where
  pub lawful : AreLawful w
  pub nodes : work.layout.nodes ≡ w.rec.now.nodes
  pub way : IsBehind work w.rec.now (left_at w) (last_at w) c before

at_of : (r : Replayer) (before : List Told) → HasMade r before
    → IsAt (work_of r.core) r.cursors (core_of r.core) before
at_of r before is = record { lawful = is.lawful; nodes = is.nodes; way = is.way }

-- where the places are the same, it is at them
at_same : (work : Work) (w v : Cursors) (c : Core) (before : List Told) → v.rec.now ≡ w.rec.now
    → ((k : ℕ) → cursor_at v k ≡ cursor_at w k) → IsAt work w c before → IsAt work v c before
at_same work w v c before rec same is = record {
  lawful = record {
    is_record = subst (λ (r : Record). IsRecord r) (sym rec) is.lawful.is_record;
    left = λ i bi.
        subst (λ (r : Record). AreTakesBehind r.nodes (last_at v i)
        (left_of (cursor_at v i) (entries_of r i))) (sym rec)
        (subst (λ (x : Cursor). AreTakesBehind w.rec.now.nodes x.last (left_of x (entries_at w i)))
        (sym (same i)) (is.lawful.left i (subst (λ (r : Record). i < r.nodes) rec bi)));
  };
  nodes = is.nodes ∙ ap (λ (r : Record). r.nodes) (sym rec);
  way =
      let b = is.way in
      subst (λ (r : Record). IsBehind work r (left_at v) (last_at v) c before) (sym rec) (record {
        rest = b.rest;
        are_told = b.are_told;
        made = b.made;
        alike = b.alike;
        each = λ i bi. b.each i bi ∙ sym (left_same w v i rec (same i));
        stamps = λ i bi. b.stamps i bi ∙ ap (λ (x : Cursor). x.last) (sym (same i));
      });
}

-- a core that is alike is there too
at_alike : (work : Work) (w : Cursors) (c d : Core) (before : List Told) → AreAlike work.layout.nodes d c
    → IsAt work w c before → IsAt work w d before
at_alike work w c d before a is = record {
  lawful = is.lawful;
  nodes = is.nodes;
  way =
      let b = is.way in record {
        rest = b.rest;
        are_told = b.are_told;
        made = b.made;
        alike = alike_also work.layout.nodes d c _ a b.alike;
        each = b.each;
        stamps = λ i bi. ap (λ (n : Node). n.stamp) (a.nodes i bi) ∙ b.stamps i bi;
      };
}

-- 3. One word, and words one after another

one_word : (work : Work) (w v : Cursors) (c : Core) (before : List Told) (i : ℕ) (e : JournalEntry)
    → IsAt work w c before → i < w.rec.now.nodes → IsEntryOf w i e → (cursor_at w i).words < e.words
    → ComesFirst w w.rec.now.nodes (last_at w i + 1) i → May work c (Exec i)
    → HasFollowed w i (after_word w i) v
    → IsAt work v (event_step work c (Exec i)) (before ++ word_next w i ∷ [])
one_word work w v c before i e is bi entry lt first may f =
    let d = event_step work c (Exec i) in
    let x = word_next w i in
    record {
      lawful = word_lawful w v i e bi is.lawful entry lt f;
      nodes = is.nodes ∙ ap (λ (r : Record). r.nodes) (sym f.rec_is);
      way = subst (λ (r : Record). IsBehind work r (left_at v) (last_at v) d (before ++ x ∷ [])) (sym f.rec_is)
          (step_on work w.rec.now (left_at w) (left_at v) (last_at w) (last_at v) c d i x
          (behind_word w i) (sym is.nodes) (before, is.way)
          (subst (λ k. IsAhead k (left_at w) i x (behind_word w i)) (sym is.nodes)
          (word_ahead w is.lawful i bi e entry lt first)) (record {
            made = record {
              may = may;
              stamp = word_at work c i
                  ∙ ap (λ k. k + 1) (is.way.stamps i (subst (λ k. i < k) (sym is.nodes) bi));
            };
            leads = alike_same work.layout.nodes d;
          }) (word_now w v i f));
    }

-- a word, and so many behind it
words_behind : (w u v : Cursors) (i k : ℕ) → HasFollowed w i (after_word w i) u
    → HasFollowed w i (words_after w i (suc k)) v → HasFollowed u i (words_after u i k) v
words_behind w u v i k f g =
    let c = cursor_at w i in
    let a : c.words + suc k ≡ (c.words + 1) + k = omega arith in
    let b : c.last + suc k ≡ (c.last + 1) + k = omega arith in
    record {
      rec_is = g.rec_is ∙ sym f.rec_is;
      own = g.own ∙ ap₂ (λ x y. record { takes = c.takes; words = x; last = y }) a b
          ∙ ap (λ (z : Cursor). record {
            takes = z.takes;
            words = z.words + k;
            last = z.last + k;
          }) (sym f.own);
      others = λ j other. g.others j other ∙ sym (f.others j other);
    }

-- it has come there by so many words of node i more
pub record HasCome (work : Work) (v : Cursors) (d : Core) (before : List Told) (i k : ℕ) : Type 0 where
  pub more : List Told
  pub events : events_told more ≡ replicate k (Exec i)
  pub at : IsAt work v d (before ++ more)

words_run : (work : Work) (k : ℕ) (w v : Cursors) (c d : Core) (before : List Told) (i : ℕ) (e : JournalEntry)
    → IsAt work w c before → i < w.rec.now.nodes → IsEntryOf w i e → (cursor_at w i).words + k ≤ e.words
    → (0 < k → ComesFirst w w.rec.now.nodes (last_at w i + k) i) → GoesOnBy work i k c d
    → HasFollowed w i (words_after w i k) v → HasCome work v d before i k
words_run work zero w v c d before i e is bi entry le first goes f =
    let none = words_none w i in
    record {
      more = [];
      events = refl;
      at = subst (λ (l : List Told). IsAt work v d l) (sym (append-nil before))
          (subst (λ (z : Core). IsAt work v z before) goes
          (at_same work w v c before f.rec_is (λ k. ⊎_elim
          (λ (s : k ≡ i). subst (λ z. cursor_at v z ≡ cursor_at w z) (sym s) (f.own ∙ sym none.own))
          (λ (o : k ≢ i). f.others k o) (cases_eq k i)) is));
    }
words_run work (suc k) w v c d before i e is bi entry le comes goes f =
    let first = comes (omega arith) in
    let next = event_step work c (Exec i) in
    let u = followed_to w i (after_word w i) in
    let g = has_followed w i (after_word w i) in
    let x = word_next w i in
    let last : last_at w i + suc k ≡ last_at u i + k =
    (let a : last_at u i ≡ last_at w i + 1 = ap (λ (x : Cursor). x.last) g.own in omega arith) in
    let within : (cursor_at u i).words + k ≤ e.words =
    (let a : (cursor_at u i).words ≡ (cursor_at w i).words + 1 =
    ap (λ (x : Cursor). x.words) g.own in omega arith) in
    let rest = words_run work k u v next d (before ++ x ∷ []) i e
    (one_word work w u c before i e is bi entry (omega arith)
    (first_sooner w w.rec.now.nodes (last_at w i + suc k) (last_at w i + 1) i (omega arith) first)
    goes.0 g) bi (entry_kept w u i 1 e g entry) within
    (λ some. subst (λ x. ComesFirst u w.rec.now.nodes x i) last
    (first_kept w u i w.rec.now.nodes (last_at w i + suc k) (after_word w i) g first))
    goes.2 (words_behind w u v i k g f) in
    record {
      more = x ∷ rest.more;
      events = ap (λ es. Exec i ∷ es) rest.events;
      at = subst (λ (l : List Told). IsAt work v d l) (append_assoc before (x ∷ []) rest.more) rest.at;
    }

-- 4. Of a run

pub made_words : (a b : Replayer) (before : List Told) (i k : ℕ) (e : JournalEntry) → HasMade a before
    → i < a.cursors.rec.now.nodes → IsEntryOf a.cursors i e
    → (cursor_at a.cursors i).words + k ≤ e.words
    → (0 < k → ComesFirst a.cursors a.cursors.rec.now.nodes (last_at a.cursors i + k) i)
    → HasPassedWords (work_of a.core) i k (core_of a.core) (core_of b.core)
    → work_of b.core ≡ work_of a.core
    → HasFollowed a.cursors i (words_after a.cursors i k) b.cursors → HasMadeWords b before i k
made_words a b before i k e is bi entry le first p work f =
    let come = words_run (work_of a.core) k a.cursors b.cursors (core_of a.core) p.last before i e
    (at_of a before is) bi entry le first p.goes_on f in
    let at : IsAt (work_of b.core) b.cursors (core_of b.core) (before ++ come.more) =
    subst (λ (w : Work). IsAt w b.cursors (core_of b.core) (before ++ come.more)) (sym work)
    (at_alike (work_of a.core) b.cursors p.last (core_of b.core) (before ++ come.more) p.alike come.at) in
    record {
      more = come.more;
      events = come.events;
      made = record { lawful = at.lawful; nodes = at.nodes; way = at.way };
    }

pub run_words : (a b : Replayer) (i k : ℕ) (e : JournalEntry) → IsRunning a
    → i < a.cursors.rec.now.nodes → IsEntryOf a.cursors i e
    → (cursor_at a.cursors i).words + k ≤ e.words
    → ComesFirst a.cursors a.cursors.rec.now.nodes (last_at a.cursors i + k) i
    → HasPassedWords (work_of a.core) i k (core_of a.core) (core_of b.core)
    → work_of b.core ≡ work_of a.core
    → HasFollowed a.cursors i (words_after a.cursors i k) b.cursors → IsRunning b
run_words a b i k e is bi entry le first p work f =
    let made = made_words a b is.way.0 i k e (made_of a is) bi entry le (λ some. first) p work f in
    running_of b (is.way.0 ++ made.more) made.made
