-- Where journals were followed to, and what is left of them.
use Rattle.std.proofs.Common.{◌≡◌, ◌≢◌, ℕ, zero, suc, Vec, Global, get_or, Option, Some, None, ◌+◌, ◌-◌, ◌<◌, ◌≤◌, ◌⊎◌, List, [], ◌∷◌, ◌++◌, length, drop, sym, refl, ap, ap₂, ◌∙◌, subst, arith, ⊎_elim, inl, inr}
use Rattle.std.proofs.lemmas.Bool.{cases_eq, cases_order}
use Rattle.std.proofs.lemmas.List.{drop_all}
use Rattle.std.proofs.lemmas.List.Elements.{All-get_or}
use Rattle.run_order.specs.node_model.declared.Entry.{Entry as JournalEntry}
use Rattle.run_order.specs.OwnRun.{words_from}
use Rattle.run_record.specs.declared.Record.{Record}
use Rattle.run_record.specs.Lists.{items_of}
use Rattle.run_record.specs.Record.{IsRecord, IsTakeBehind, AreTakesBehind}
use Rattle.replay.specs.declared.cursor.Cursor.{Cursor}
use Rattle.replay.specs.declared.cursor.Cursors.{Cursors}
use Rattle.replay.specs.declared.cursor.First.{First}
use Rattle.replay.specs.Told.{Told, told_by, told_in, entries_of, stamp_told, maker_told}
use Rattle.replay.specs.Way.{without, left_of, cursor_at, entries_at, left_at, last_at, IsEntryOf, AreLawful, IsNext, ComesBefore, ComesFirst, IsFirst, IsFirstBelow, HasFollowed, count_left, all_left}
use Rattle.replay.proofs.Sorting.{AreOf}
use Rattle.replay.proofs.Journals.{take_of, told_word, told_take, left_word, left_take, words_first, without_none, behind_takes, rising_in}
use Rattle.replay.proofs.Way.{IsAhead, AreNow}

-- 1. The first event that is left

abbrev pub behind_word : Cursors → ℕ → List Told
behind_word w i = told_in i ((cursor_at w i).takes + 1) ((cursor_at w i).last + 1)
    (without ((cursor_at w i).words + 1) (drop (cursor_at w i).takes (entries_at w i)))

abbrev pub behind_take : Cursors → ℕ → JournalEntry → List Told
behind_take w i e = told_in i ((cursor_at w i).takes + 1 + 1) e.stamp
    (drop ((cursor_at w i).takes + 1) (entries_at w i))

abbrev pub word_next : Cursors → ℕ → Told
word_next w i = told_word i ((cursor_at w i).takes + 1) ((cursor_at w i).last + 1)

abbrev pub take_next : Cursors → ℕ → JournalEntry → Told
take_next w i e = told_take i ((cursor_at w i).takes + 1) e

pub left_from_word : (w : Cursors) (i : ℕ) (e : JournalEntry) → IsEntryOf w i e
    → (cursor_at w i).words < e.words → left_at w i ≡ word_next w i ∷ behind_word w i
left_from_word w i e is lt =
    let c = cursor_at w i in
    left_word i (c.takes + 1) c.last c.words (drop c.takes (entries_at w i)) e
    (drop (c.takes + 1) (entries_at w i)) is lt

pub left_from_take : (w : Cursors) (i : ℕ) (e : JournalEntry) → IsEntryOf w i e
    → e.words ≤ (cursor_at w i).words → left_at w i ≡ take_next w i e ∷ behind_take w i e
left_from_take w i e is le =
    let c = cursor_at w i in
    left_take i (c.takes + 1) c.last c.words (drop c.takes (entries_at w i)) e
    (drop (c.takes + 1) (entries_at w i)) is le

pub next_word : (w : Cursors) (i : ℕ) (e : JournalEntry) → IsEntryOf w i e
    → (cursor_at w i).words < e.words → IsNext i (last_at w i + 1) (left_at w i)
next_word w i e is lt = record {
  event = word_next w i;
  behind = behind_word w i;
  left_is = left_from_word w i e is lt;
  stamp_is = refl;
  maker_is = refl;
}

pub next_take : (w : Cursors) (i : ℕ) (e : JournalEntry) → IsEntryOf w i e
    → e.words ≤ (cursor_at w i).words → IsNext i e.stamp (left_at w i)
next_take w i e is le = record {
  event = take_next w i e;
  behind = behind_take w i e;
  left_is = left_from_take w i e is le;
  stamp_is = refl;
  maker_is = refl;
}

-- the stamp of what is first is one
pub one_next : (i s t : ℕ) (left : List Told) → IsNext i s left → IsNext i t left → s ≡ t
one_next i s t left a b =
    let e : a.event ∷ a.behind ≡ b.event ∷ b.behind = sym a.left_is ∙ b.left_is in
    let same : a.event ≡ b.event = cc in
    sym a.stamp_is ∙ ap (λ x. stamp_told x) same ∙ b.stamp_is

pub none_next : (i s : ℕ) (left : List Told) → left ≡ [] → IsNext i s left → ⊥
none_next i s left none a =
    let e : [] ≡ a.event ∷ a.behind = sym none ∙ a.left_is in cc

-- an event that comes before the next of the node comes before it
pub before_next : (stamp node i s : ℕ) (left : List Told) → IsNext i s left
    → (stamp < s) ⊎ ((stamp ≡ s) × (node < i)) → ComesBefore stamp node i left
before_next stamp node i s left a before t b =
    subst (λ z. (stamp < z) ⊎ ((stamp ≡ z) × (node < i))) (one_next i s t left a b) before

pub before_none : (stamp node i : ℕ) (left : List Told) → left ≡ [] → ComesBefore stamp node i left
before_none stamp node i left none s a = absurd (none_next i s left none a)

-- so does an earlier one of its node
pub before_sooner : (stamp sooner node i : ℕ) (left : List Told) → sooner ≤ stamp
    → ComesBefore stamp node i left → ComesBefore sooner node i left
before_sooner stamp sooner node i left le before s a = ⊎_elim
    (λ (l : stamp < s). inl (omega arith))
    (λ (r : (stamp ≡ s) × (node < i)). sooner_same r.0 r.1 (cases_eq sooner stamp))
    (before s a)
  where
    sooner_same : stamp ≡ s → node < i → (sooner ≡ stamp) ⊎ (sooner ≢ stamp)
        → (sooner < s) ⊎ ((sooner ≡ s) × (node < i))
    sooner_same e lt o = ⊎_elim (λ (p : sooner ≡ stamp). inr (p ∙ e, lt))
        (λ (p : sooner ≢ stamp). inl (omega arith)) o

pub first_sooner : (w : Cursors) (m stamp sooner node : ℕ) → sooner ≤ stamp
    → ComesFirst w m stamp node → ComesFirst w m sooner node
first_sooner w m stamp sooner node le first i bi other =
    before_sooner stamp sooner node i (left_at w i) le (first i bi other)

-- 2. It is ahead of all

made_by_its_node : (w : Cursors) → AreLawful w → (i : ℕ) → i < w.rec.now.nodes
    → (y : Told) (ys : List Told) → left_at w i ≡ y ∷ ys → maker_told y ≡ i
made_by_its_node w lawful i bi y ys e =
    let c = cursor_at w i in
    let up = rising_in i (c.takes + 1) c.last (left_of c (entries_at w i))
    (behind_takes w.rec.now.nodes c.last (left_of c (entries_at w i)) (lawful.left i bi)) in
    let own : AreOf stamp_told maker_told i (y ∷ ys) =
    subst (λ l. AreOf stamp_told maker_told i l) e up.own in own.0

ahead_by : (w : Cursors) → AreLawful w → (i : ℕ) → i < w.rec.now.nodes → (x : Told)
    (more : List Told) → left_at w i ≡ x ∷ more → maker_told x ≡ i
    → ComesFirst w w.rec.now.nodes (stamp_told x) i → IsAhead w.rec.now.nodes (left_at w) i x more
ahead_by w lawful i bi x more left own first = record {
  below = bi;
  maker_is = own;
  left_is = left;
  before = λ k bk other y ys e.
      let its = made_by_its_node w lawful k bk y ys e in ⊎_elim
      (λ (l : stamp_told x < stamp_told y). inl l)
      (λ (r : (stamp_told x ≡ stamp_told y) × (i < k)). inr (r.0, omega arith))
      (first k bk other (stamp_told y) (record {
        event = y;
        behind = ys;
        left_is = e;
        stamp_is = refl;
        maker_is = its;
      }));
}

pub word_ahead : (w : Cursors) → AreLawful w → (i : ℕ) → i < w.rec.now.nodes
    → (e : JournalEntry) → IsEntryOf w i e → (cursor_at w i).words < e.words
    → ComesFirst w w.rec.now.nodes (last_at w i + 1) i
    → IsAhead w.rec.now.nodes (left_at w) i (word_next w i) (behind_word w i)
word_ahead w lawful i bi e is lt first =
    ahead_by w lawful i bi (word_next w i) (behind_word w i) (left_from_word w i e is lt) refl first

pub take_ahead : (w : Cursors) → AreLawful w → (i : ℕ) → i < w.rec.now.nodes
    → (e : JournalEntry) → IsEntryOf w i e → e.words ≤ (cursor_at w i).words
    → ComesFirst w w.rec.now.nodes e.stamp i
    → IsAhead w.rec.now.nodes (left_at w) i (take_next w i e) (behind_take w i e)
take_ahead w lawful i bi e is le first =
    ahead_by w lawful i bi (take_next w i e) (behind_take w i e) (left_from_take w i e is le) refl
    first

-- 3. One event further

abbrev pub after_word : Cursors → ℕ → Cursor
after_word w i = record {
  takes = (cursor_at w i).takes;
  words = (cursor_at w i).words + 1;
  last = (cursor_at w i).last + 1;
}

abbrev pub words_after : Cursors → (i more : ℕ) → Cursor
words_after w i more = record {
  takes = (cursor_at w i).takes;
  words = (cursor_at w i).words + more;
  last = (cursor_at w i).last + more;
}

abbrev pub after_take : Cursors → ℕ → JournalEntry → Cursor
after_take w i e = record { takes = (cursor_at w i).takes + 1; words = 0; last = e.stamp }

abbrev left_by : ℕ → Cursor → Record → List Told
left_by i c r = told_in i (c.takes + 1) c.last (left_of c (entries_of r i))

left_followed : (w v : Cursors) (k : ℕ) (c : Cursor) → v.rec.now ≡ w.rec.now
    → cursor_at v k ≡ c → left_at v k ≡ left_by k c w.rec.now
left_followed w v k c rec own = ap (λ z. left_by k z v.rec.now) own ∙ ap (λ z. left_by k c z) rec

pub left_same : (w v : Cursors) (k : ℕ) → v.rec.now ≡ w.rec.now → cursor_at v k ≡ cursor_at w k
    → left_at v k ≡ left_at w k
left_same w v k rec same = left_followed w v k (cursor_at w k) rec same

pub others_left : (w v : Cursors) (i : ℕ) (c : Cursor) → HasFollowed w i c v → (k : ℕ) → k ≢ i
    → left_at v k ≡ left_at w k
others_left w v i c f k other = left_same w v k f.rec_is (f.others k other)

pub own_left : (w v : Cursors) (i : ℕ) (c : Cursor) → HasFollowed w i c v
    → left_at v i ≡ left_by i c w.rec.now
own_left w v i c f = left_followed w v i c f.rec_is f.own

pub word_now : (w v : Cursors) (i : ℕ) → HasFollowed w i (after_word w i) v
    → AreNow i (word_next w i) (behind_word w i) (left_at w) (left_at v) (last_at w) (last_at v)
word_now w v i f = record {
  own = own_left w v i (after_word w i) f;
  others = others_left w v i (after_word w i) f;
  stamp = ap (λ (c : Cursor). c.last) f.own;
  lasts = λ k other. ap (λ (c : Cursor). c.last) (f.others k other);
}

pub take_now : (w v : Cursors) (i : ℕ) (e : JournalEntry) → HasFollowed w i (after_take w i e) v
    → AreNow i (take_next w i e) (behind_take w i e) (left_at w) (left_at v) (last_at w) (last_at v)
take_now w v i e f = record {
  own = own_left w v i (after_take w i e) f
      ∙ ap (λ l. told_in i ((cursor_at w i).takes + 1 + 1) e.stamp l)
      (without_none (drop ((cursor_at w i).takes + 1) (entries_at w i)));
  others = others_left w v i (after_take w i e) f;
  stamp = ap (λ (c : Cursor). c.last) f.own;
  lasts = λ k other. ap (λ (c : Cursor). c.last) (f.others k other);
}

-- 4. It stays lawful

abbrev IsLawfulBy : Record → ℕ → Cursor → Type 0
IsLawfulBy r i c = AreTakesBehind r.nodes c.last (left_of c (entries_of r i))

pub lawful_on : (w v : Cursors) (i : ℕ) (c : Cursor) → AreLawful w → HasFollowed w i c v
    → IsLawfulBy w.rec.now i c → AreLawful v
lawful_on w v i c lawful f h = record {
  is_record = subst IsRecord (sym f.rec_is) lawful.is_record;
  left = λ k bk.
      let below : k < w.rec.now.nodes = subst (λ (r : Record). k < r.nodes) f.rec_is bk in
      subst (λ (r : Record). IsLawfulBy r k (cursor_at v k)) (sym f.rec_is) (⊎_elim
      (λ (e : k ≡ i). subst (λ j. IsLawfulBy w.rec.now j (cursor_at v j)) (sym e)
      (subst (λ z. IsLawfulBy w.rec.now i z) (sym f.own) h))
      (λ (e : k ≢ i). subst (λ z. IsLawfulBy w.rec.now k z) (sym (f.others k e))
      (lawful.left k below)) (cases_eq k i));
}

lawful_word : (n last words : ℕ) (l : List JournalEntry) (e : JournalEntry) (es : List JournalEntry)
    → l ≡ e ∷ es → words < e.words → AreTakesBehind n last (without words l)
    → AreTakesBehind n (last + 1) (without (words + 1) l)
lawful_word n last words l e es is lt h =
    let g : AreTakesBehind n last (without words (e ∷ es)) =
    subst (λ l. AreTakesBehind n last (without words l)) is h in
    let stamp = g.0.stamp in
    let few = g.0.few_words in
    subst (λ l. AreTakesBehind n (last + 1) (without (words + 1) l)) (sym is)
    (record { from = g.0.from; stamp = omega arith; low = g.0.low; few_words = omega arith }, g.1)

lawful_take : (n last words : ℕ) (l : List JournalEntry) (e : JournalEntry) (es : List JournalEntry)
    → l ≡ e ∷ es → AreTakesBehind n last (without words l) → AreTakesBehind n e.stamp (without 0 es)
lawful_take n last words l e es is h =
    let g : AreTakesBehind n last (without words (e ∷ es)) =
    subst (λ l. AreTakesBehind n last (without words l)) is h in
    subst (λ l. AreTakesBehind n e.stamp l) (sym (without_none es)) g.1

pub word_lawful : (w v : Cursors) (i : ℕ) (e : JournalEntry) → i < w.rec.now.nodes
    → AreLawful w → IsEntryOf w i e → (cursor_at w i).words < e.words
    → HasFollowed w i (after_word w i) v → AreLawful v
word_lawful w v i e bi lawful is lt f = let c = cursor_at w i in
    lawful_on w v i (after_word w i) lawful f (lawful_word w.rec.now.nodes c.last c.words
    (drop c.takes (entries_at w i)) e (drop (c.takes + 1) (entries_at w i)) is lt (lawful.left i bi))

pub take_lawful : (w v : Cursors) (i : ℕ) (e : JournalEntry) → i < w.rec.now.nodes
    → AreLawful w → IsEntryOf w i e → HasFollowed w i (after_take w i e) v → AreLawful v
take_lawful w v i e bi lawful is f = let c = cursor_at w i in
    lawful_on w v i (after_take w i e) lawful f (lawful_take w.rec.now.nodes c.last c.words
    (drop c.takes (entries_at w i)) e (drop (c.takes + 1) (entries_at w i)) is (lawful.left i bi))

-- the entry of a lawful journal
pub lawful_entry : (w : Cursors) (i : ℕ) (e : JournalEntry) → i < w.rec.now.nodes → AreLawful w
    → IsEntryOf w i e → IsTakeBehind w.rec.now.nodes (last_at w i)
    (record e { words = e.words - (cursor_at w i).words })
lawful_entry w i e bi lawful is = let c = cursor_at w i in
    let g : AreTakesBehind w.rec.now.nodes c.last
    (without c.words (e ∷ drop (c.takes + 1) (entries_at w i))) =
    subst (λ l. AreTakesBehind w.rec.now.nodes c.last (without c.words l)) is (lawful.left i bi) in
    g.0

-- 5. There are fewer left

length_by : (i entry last k : ℕ) (e : JournalEntry) (tail : List Told)
    → length (told_by entry (words_from i last k ++ take_of i e ∷ []) ++ tail) ≡ k + 1 + length tail
length_by i entry last zero e tail = omega arith
length_by i entry last (suc k) e tail =
    ap (λ l. length (told_by entry (l ++ take_of i e ∷ []) ++ tail)) (words_first i last k)
    ∙ (let h = length_by i entry (last + 1) k e tail in omega arith)

length_left : (i entry last words : ℕ) (l : List JournalEntry) (e : JournalEntry)
    (es : List JournalEntry) → l ≡ e ∷ es
    → length (told_in i entry last (without words l))
    ≡ (e.words - words) + 1 + length (told_in i (entry + 1) e.stamp es)
length_left i entry last words l e es is =
    ap (λ l. length (told_in i entry last (without words l))) is
    ∙ length_by i entry last (e.words - words) e (told_in i (entry + 1) e.stamp es)

-- words of an entry leave so many less
pub words_fewer : (i entry last later words more : ℕ) (l : List JournalEntry) (e : JournalEntry)
    (es : List JournalEntry) → l ≡ e ∷ es → words + more ≤ e.words → 1 ≤ more
    → length (told_in i entry later (without (words + more) l))
    < length (told_in i entry last (without words l))
words_fewer i entry last later words more l e es is le some =
    let a = length_left i entry last words l e es is in
    let b = length_left i entry later (words + more) l e es is in omega arith

count_same : (w v : Cursors) (m : ℕ) → ((k : ℕ) → k < m → left_at v k ≡ left_at w k)
    → count_left v m ≡ count_left w m
count_same w v zero same = refl
count_same w v (suc m) same =
    ap₂ (λ a b. a + b) (count_same w v m (λ k lt. same k (omega arith)))
    (ap (λ l. length l) (same m (omega arith)))

pub count_fewer : (w v : Cursors) (i m : ℕ) → i < m → ((k : ℕ) → k ≢ i → left_at v k ≡ left_at w k)
    → length (left_at v i) < length (left_at w i) → count_left v m < count_left w m
count_fewer w v i zero lt same less = absurd (omega arith)
count_fewer w v i (suc m) lt same less = ⊎_elim
    (λ (e : m ≡ i).
    let rest = count_same w v m (λ k below. same k (λ q. absurd (omega arith))) in
    let here : length (left_at v m) < length (left_at w m) =
    subst (λ j. length (left_at v j) < length (left_at w j)) (sym e) less in omega arith)
    (λ (e : m ≢ i).
    let rest = count_fewer w v i m (omega arith) same less in
    let here : length (left_at v m) ≡ length (left_at w m) = ap (λ l. length l) (same m e) in
    omega arith) (cases_eq m i)

pub all_fewer : (w v : Cursors) (i : ℕ) (c : Cursor) → HasFollowed w i c v → i < w.rec.now.nodes
    → length (left_at v i) < length (left_at w i) → all_left v < all_left w
all_fewer w v i c f bi less =
    subst (λ (r : Record). count_left v r.nodes < count_left w w.rec.now.nodes) (sym f.rec_is)
    (count_fewer w v i w.rec.now.nodes bi (others_left w v i c f) less)

-- where words of an entry were executed, or its take was made
pub words_less : (w v : Cursors) (i more : ℕ) (e : JournalEntry)
    → HasFollowed w i (words_after w i more) v → i < w.rec.now.nodes → IsEntryOf w i e
    → (cursor_at w i).words + more ≤ e.words → 1 ≤ more → all_left v < all_left w
words_less w v i more e f bi is le some = let c = cursor_at w i in
    all_fewer w v i (words_after w i more) f bi
    (subst (λ l. length l < length (left_at w i)) (sym (own_left w v i (words_after w i more) f))
    (words_fewer i (c.takes + 1) c.last (c.last + more) c.words more (drop c.takes (entries_at w i))
    e (drop (c.takes + 1) (entries_at w i)) is le some))

pub words_none : (w : Cursors) (i : ℕ) → HasFollowed w i (words_after w i 0) w
words_none w i =
    let c = cursor_at w i in
    let a : c.words ≡ c.words + 0 = omega arith in
    let b : c.last ≡ c.last + 0 = omega arith in
    record {
      rec_is = refl;
      own = ap₂ (λ x y. record { takes = c.takes; words = x; last = y }) a b;
      others = λ k other. refl;
    }

count_kept : (w v : Cursors) (m : ℕ) → ((k : ℕ) → left_at v k ≡ left_at w k) → count_left v m ≡ count_left w m
count_kept w v zero same = refl
count_kept w v (suc m) same = ap₂ (λ x y. x + y) (count_kept w v m same) (ap length (same m))

all_kept : (w v : Cursors) → v.rec.now ≡ w.rec.now → ((k : ℕ) → cursor_at v k ≡ cursor_at w k)
    → all_left v ≡ all_left w
all_kept w v rec same =
    ap (λ (r : Record). count_left v r.nodes) rec
    ∙ count_kept w v w.rec.now.nodes (λ k. left_same w v k rec (same k))

-- no more is left where any number of words were executed
pub words_no_more : (w v : Cursors) (i more : ℕ) (e : JournalEntry)
    → HasFollowed w i (words_after w i more) v → i < w.rec.now.nodes → IsEntryOf w i e
    → (cursor_at w i).words + more ≤ e.words → all_left v ≤ all_left w
words_no_more w v i zero e f bi is le =
    let none = words_none w i in
    let same = all_kept w v f.rec_is (λ k. ⊎_elim
    (λ (s : k ≡ i). subst (λ z. cursor_at v z ≡ cursor_at w z) (sym s) (f.own ∙ sym none.own))
    (λ (o : k ≢ i). f.others k o) (cases_eq k i)) in
    omega (arith, same)
words_no_more w v i (suc k) e f bi is le =
    let less = words_less w v i (suc k) e f bi is le (omega arith) in omega (arith, less)

pub take_less : (w v : Cursors) (i : ℕ) (e : JournalEntry)
    → HasFollowed w i (after_take w i e) v → i < w.rec.now.nodes → IsEntryOf w i e
    → e.words ≤ (cursor_at w i).words → all_left v < all_left w
take_less w v i e f bi is le =
    let new = (take_now w v i e f).own in
    let old = left_from_take w i e is le in
    all_fewer w v i (after_take w i e) f bi
    (let a : length (left_at v i) ≡ length (behind_take w i e) = ap (λ l. length l) new in
    let b : length (left_at w i) ≡ length (take_next w i e ∷ behind_take w i e) =
    ap (λ l. length l) old in omega arith)

-- 6. Words one after another

pub words_also : (w v u : Cursors) (i j k : ℕ) → HasFollowed w i (words_after w i j) v
    → HasFollowed v i (words_after v i k) u → HasFollowed w i (words_after w i (j + k)) u
words_also w v u i j k f g =
    let c = cursor_at w i in
    let a : (c.words + j) + k ≡ c.words + (j + k) = omega arith in
    let b : (c.last + j) + k ≡ c.last + (j + k) = omega arith in
    record {
      rec_is = g.rec_is ∙ f.rec_is;
      own = g.own ∙ ap (λ (z : Cursor). record {
        takes = z.takes;
        words = z.words + k;
        last = z.last + k;
      }) f.own ∙ ap₂ (λ x y. record { takes = c.takes; words = x; last = y }) a b;
      others = λ j other. g.others j other ∙ f.others j other;
    }

pub entry_kept : (w v : Cursors) (i k : ℕ) (e : JournalEntry)
    → HasFollowed w i (words_after w i k) v → IsEntryOf w i e → IsEntryOf v i e
entry_kept w v i k e f is =
    let takes : (cursor_at v i).takes ≡ (cursor_at w i).takes =
    ap (λ (c : Cursor). c.takes) f.own in
    subst (λ (r : Record). drop (cursor_at v i).takes (entries_of r i)
    ≡ e ∷ drop ((cursor_at v i).takes + 1) (entries_of r i)) (sym f.rec_is)
    (subst (λ t. drop t (entries_at w i) ≡ e ∷ drop (t + 1) (entries_at w i)) (sym takes) is)

pub first_kept : (w v : Cursors) (i m stamp : ℕ) (c : Cursor) → HasFollowed w i c v
    → ComesFirst w m stamp i → ComesFirst v m stamp i
first_kept w v i m stamp c f first k bk other =
    subst (λ l. ComesBefore stamp i k l) (sym (others_left w v i c f k other)) (first k bk other)

-- 7. The start

pub all_takes : (r : Record) → IsRecord r → (i : ℕ) → i < r.nodes
    → AreTakesBehind r.nodes 0 (entries_of r i)
all_takes r is i bi =
    let each = is.each in
    All-get_or (AreTakesBehind r.nodes 0) r.journals i [] (omega arith) is.journals

-- 8. Stored journals

pub items_length : (vs : List (Vec JournalEntry Global)) → length (items_of vs) ≡ length vs
items_length [] = refl
items_length (v ∷ vs) = ap suc (items_length vs)

pub items_at : (vs : List (Vec JournalEntry Global)) (i : ℕ) (v : Vec JournalEntry Global)
    → i < length vs → v ≡ get_or vs i v → get_or (items_of vs) i [] ≡ v.items
items_at [] i v lt is = absurd (omega arith)
items_at (x ∷ xs) zero v lt is = ap (λ (z : Vec JournalEntry Global). z.items) (sym is)
items_at (x ∷ xs) (suc i) v lt is = items_at xs i v (omega arith) is

pub entry_within : (t : ℕ) (l : List JournalEntry) (e : JournalEntry) (es : List JournalEntry)
    → drop t l ≡ e ∷ es → t < length l
entry_within t l e es is = ⊎_elim
    (λ (same : t ≡ length l). past (omega arith))
    (λ r. ⊎_elim (λ (lt : t < length l). lt) (λ (gt : length l < t). past (omega arith)) r)
    (cases_order t (length l))
  where
    past : length l ≤ t → t < length l
    past le = absurd (let none : [] ≡ e ∷ es = sym (drop_all t l le) ∙ is in cc)

-- 9. The first of the next events, over one node more

-- a node to which nothing is left
pub first_without : (w : Cursors) (m : ℕ) (o : Option First) → IsFirstBelow w m o
    → left_at w m ≡ [] → IsFirstBelow w (m + 1) o
first_without w m None h none = λ i lt. ⊎_elim
    (λ (e : i ≡ m). subst (λ k. left_at w k ≡ []) (sym e) none)
    (λ (e : i ≢ m). h i (omega arith)) (cases_eq i m)
first_without w m (Some x) h none = record {
  below = (let a = h.below in omega arith);
  next = h.next;
  some = h.some;
  others = λ i lt other. ⊎_elim
      (λ (e : i ≡ m). subst (λ k. ComesBefore x.to x.node k (left_at w k)) (sym e)
      (before_none x.to x.node m (left_at w m) none))
      (λ (e : i ≢ m). h.others i (omega arith) other) (cases_eq i m);
}

-- a node whose next event doesn't come before that of a lower node
pub first_still : (w : Cursors) (m : ℕ) (x : First) (stamp to : ℕ) → IsFirst w m x
    → IsNext m stamp (left_at w m) → x.stamp ≤ to → to ≤ x.to → to ≤ stamp
    → IsFirst w (m + 1) (record { node = x.node; stamp = x.stamp; to = to })
first_still w m x stamp to h next some sooner le = record {
  below = (let a = h.below in omega arith);
  next = h.next;
  some = some;
  others = λ i lt other. ⊎_elim
      (λ (e : i ≡ m). subst (λ k. ComesBefore to x.node k (left_at w k)) (sym e)
      (before_next to x.node m stamp (left_at w m) next (before_or to stamp x.node m le h.below)))
      (λ (e : i ≢ m). before_sooner x.to to x.node i (left_at w i) sooner
      (h.others i (omega arith) other)) (cases_eq i m);
}
  where
    before_or : (a b n k : ℕ) → a ≤ b → n < k → (a < b) ⊎ ((a ≡ b) × (n < k))
    before_or a b n k le lt = ⊎_elim (λ (e : a ≡ b). inr (e, lt))
        (λ (e : a ≢ b). inl (omega arith)) (cases_eq a b)

-- a node whose next event comes before that of every lower node
pub first_now : (w : Cursors) (m : ℕ) (x : First) (stamp to : ℕ) → IsFirst w m x
    → IsNext m stamp (left_at w m) → stamp ≤ to → to < x.stamp
    → IsFirst w (m + 1) (record { node = m; stamp = stamp; to = to })
first_now w m x stamp to h next some lt = record {
  below = omega arith;
  next = next;
  some = some;
  others = λ i below other. ⊎_elim
      (λ (e : i ≡ x.node). subst (λ k. ComesBefore to m k (left_at w k)) (sym e)
      (before_next to m x.node x.stamp (left_at w x.node) h.next (inl lt)))
      (λ (e : i ≢ x.node). λ s its. ⊎_elim
      (λ (l : x.to < s). inl (let a = h.some in omega arith))
      (λ (r : (x.to ≡ s) × (x.node < i)). inl (let a = h.some in let q = r.0 in omega arith))
      (h.others i (omega arith) e s its)) (cases_eq i x.node);
}

-- 10. The first event, and the words behind it

pub first_event : (w : Cursors) (m stamp : ℕ) (x : First) → IsFirst w m x
    → IsNext x.node stamp (left_at w x.node) → ComesFirst w m stamp x.node
first_event w m stamp x h next =
    let same = one_next x.node x.stamp stamp (left_at w x.node) h.next next in
    let some = h.some in
    first_sooner w m x.to stamp x.node (omega arith) h.others

pub word_within : (w : Cursors) (m : ℕ) (x : First) (e : JournalEntry) → IsFirst w m x
    → IsEntryOf w x.node e → (cursor_at w x.node).words < e.words → last_at w x.node + 1 ≤ x.to
word_within w m x e h is lt =
    let same = one_next x.node x.stamp (last_at w x.node + 1) (left_at w x.node) h.next
    (next_word w x.node e is lt) in
    let some = h.some in omega arith

pub words_first_of : (w : Cursors) (m words : ℕ) (x : First) (e : JournalEntry) → IsFirst w m x
    → IsEntryOf w x.node e → (cursor_at w x.node).words < e.words
    → words ≤ x.to - last_at w x.node → ComesFirst w m (last_at w x.node + words) x.node
words_first_of w m words x e h is lt le =
    let within = word_within w m x e h is lt in
    first_sooner w m x.to (last_at w x.node + words) x.node (omega arith) h.others

-- 11. In the middle of words

pub mid_words : (w v : Cursors) (i k more words : ℕ) (e : JournalEntry)
    → HasFollowed w i (words_after w i k) v → k + more ≤ words
    → (cursor_at w i).words + words ≤ e.words → (cursor_at v i).words + more ≤ e.words
mid_words w v i k more words e f le within =
    let at : (cursor_at v i).words ≡ (cursor_at w i).words + k =
    ap (λ (c : Cursor). c.words) f.own in omega arith

pub mid_first : (w v : Cursors) (i k more words : ℕ) → HasFollowed w i (words_after w i k) v
    → k + more ≤ words → ComesFirst w w.rec.now.nodes (last_at w i + words) i
    → ComesFirst v v.rec.now.nodes (last_at v i + more) i
mid_first w v i k more words f le first =
    let at : last_at v i ≡ last_at w i + k = ap (λ (c : Cursor). c.last) f.own in
    subst (λ (r : Record). ComesFirst v r.nodes (last_at v i + more) i) (sym f.rec_is)
    (first_sooner v w.rec.now.nodes (last_at w i + words) (last_at v i + more) i (omega arith)
    (first_kept w v i w.rec.now.nodes (last_at w i + words) (words_after w i k) f first))

pub mid_node : (w v : Cursors) (i k : ℕ) (c : Cursor) → HasFollowed w i c v → k < w.rec.now.nodes
    → k < v.rec.now.nodes
mid_node w v i k c f bk = subst (λ (r : Record). k < r.nodes) (sym f.rec_is) bk
