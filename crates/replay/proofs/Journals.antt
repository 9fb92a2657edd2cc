-- What journals tell of: one event after another, by ascending stamps.
use Rattle.std.proofs.Common.{◌≡◌, ℕ, zero, suc, ◌+◌, ◌-◌, ◌<◌, ◌≤◌, Bool, true, false, cond, eqb, List, [], ◌∷◌, ◌++◌, map, sym, refl, ap, ◌∙◌, subst, append_assoc, arith}
use Rattle.run_order.specs.node_model.declared.Entry.{Entry as JournalEntry}
use Rattle.run_order.specs.node_model.Core.{Exec, Take}
use Rattle.run_order.specs.OwnRun.{Stamped, words_from, events_in, stamp_in, maker}
use Rattle.run_order.specs.Sorted.{PrecedesAll, AreSorted, AreMadeBelow, made_by}
use Rattle.run_order.specs.Takes.{AreTakesWithin}
use Rattle.run_record.specs.Record.{AreTakesBehind}
use Rattle.replay.specs.Told.{Told, told_by, told_in, stamp_told, maker_told, what_told}
use Rattle.replay.specs.Way.{without}
use Rattle.replay.proofs.Sorting.{From, Climbs, AreOf, from_more}

abbrev pub word_of : (i stamp : ℕ) → Stamped
word_of i stamp = record { stamp = stamp; event = Exec i }

abbrev pub take_of : (i : ℕ) → JournalEntry → Stamped
take_of i e = record { stamp = e.stamp; event = Take i e.from }

abbrev pub told_word : (i entry stamp : ℕ) → Told
told_word i entry stamp = record { what = word_of i stamp; entry = entry }

abbrev pub told_take : (i entry : ℕ) → JournalEntry → Told
told_take i entry e = record { what = take_of i e; entry = entry }

-- 1. The first event

pub words_first : (i last k : ℕ)
    → words_from i last (suc k) ≡ word_of i (last + 1) ∷ words_from i (last + 1) k
words_first i last zero = refl
words_first i last (suc k) =
    let at : last + suc (suc k) ≡ (last + 1) + suc k = omega arith in
    ap (λ l. l ++ word_of i (last + suc (suc k)) ∷ []) (words_first i last k)
    ∙ ap (λ n. word_of i (last + 1) ∷ (words_from i (last + 1) k ++ word_of i n ∷ [])) at

pub first_word : (i entry last w : ℕ) (e : JournalEntry) (es : List JournalEntry)
    → told_in i entry last (record e { words = suc w } ∷ es)
    ≡ told_word i entry (last + 1) ∷ told_in i entry (last + 1) (record e { words = w } ∷ es)
first_word i entry last w e es =
    ap (λ l. told_by entry (l ++ take_of i e ∷ []) ++ told_in i (entry + 1) e.stamp es)
    (words_first i last w)

pub without_word : (words : ℕ) (e : JournalEntry) (es : List JournalEntry) → words < e.words
    → without words (e ∷ es) ≡ record e { words = suc (e.words - (words + 1)) } ∷ es
without_word words e es lt =
    let at : e.words - words ≡ suc (e.words - (words + 1)) = omega arith in
    ap (λ n. record e { words = n } ∷ es) at

pub left_word : (i entry last words : ℕ) (l : List JournalEntry) (e : JournalEntry)
    (es : List JournalEntry) → l ≡ e ∷ es → words < e.words
    → told_in i entry last (without words l)
    ≡ told_word i entry (last + 1) ∷ told_in i entry (last + 1) (without (words + 1) l)
left_word i entry last words l e es is lt =
    subst (λ l. told_in i entry last (without words l)
    ≡ told_word i entry (last + 1) ∷ told_in i entry (last + 1) (without (words + 1) l)) (sym is)
    (ap (λ l. told_in i entry last l) (without_word words e es lt)
    ∙ first_word i entry last (e.words - (words + 1)) e es)

pub left_take : (i entry last words : ℕ) (l : List JournalEntry) (e : JournalEntry)
    (es : List JournalEntry) → l ≡ e ∷ es → e.words ≤ words
    → told_in i entry last (without words l)
    ≡ told_take i entry e ∷ told_in i (entry + 1) e.stamp es
left_take i entry last words l e es is le =
    let none : e.words - words ≡ 0 = omega arith in
    ap (λ l. told_in i entry last (without words l)) is
    ∙ ap (λ n. told_in i entry last (record e { words = n } ∷ es)) none

pub without_none : (es : List JournalEntry) → without 0 es ≡ es
without_none [] = refl
without_none (e ∷ es) =
    let at : e.words - 0 ≡ e.words = omega arith in
    ap (λ n. record e { words = n } ∷ es) at

-- 2. Ascending stamps

-- node i made them, behind this stamp, with ascending stamps
pub record IsRising (i last : ℕ) (told : List Told) : Type 0 where
  pub own : AreOf stamp_told maker_told i told
  pub from : From stamp_told maker_told (last + 1) told
  pub climbs : Climbs stamp_told maker_told told

rising_words : (i entry last w : ℕ) (e : JournalEntry) (tail : List Told) → last + w + 1 ≤ e.stamp
    → IsRising i e.stamp tail
    → IsRising i last (told_by entry (words_from i last w ++ take_of i e ∷ []) ++ tail)
rising_words i entry last zero e tail le r = record {
  own = (refl, r.own);
  from = (omega arith, from_more stamp_told maker_told (last + 1) (e.stamp + 1) tail (omega arith) r.from);
  climbs = (r.from, r.climbs);
}
rising_words i entry last (suc w) e tail le r =
    let rest = rising_words i entry (last + 1) w e tail (omega arith) r in
    subst (λ l. IsRising i last (told_by entry (l ++ take_of i e ∷ []) ++ tail))
    (sym (words_first i last w)) (record {
      own = (refl, rest.own);
      from = (
        omega arith,
        from_more stamp_told maker_told (last + 1) (last + 1 + 1)
            (told_by entry (words_from i (last + 1) w ++ take_of i e ∷ []) ++ tail) (omega arith)
            rest.from,
      );
      climbs = (rest.from, rest.climbs);
    })

-- each take stands behind the one before it, and the words between them
abbrev pub AreBehind : (last : ℕ) → List JournalEntry → Type 0
AreBehind last [] = Unit {0}
AreBehind last (e ∷ es) = (last + e.words + 1 ≤ e.stamp) × AreBehind e.stamp es

pub behind_takes : (n last : ℕ) (es : List JournalEntry) → AreTakesBehind n last es
    → AreBehind last es
behind_takes n last [] h = tt
behind_takes n last (e ∷ es) h = (h.0.stamp, behind_takes n e.stamp es h.1)

pub behind_within : (n last most : ℕ) (es : List JournalEntry) → AreTakesWithin n last most es
    → AreBehind last es
behind_within n last most [] h = tt
behind_within n last most (e ∷ es) h = (h.0.behind, behind_within n e.stamp most es h.1)

pub rising_in : (i entry last : ℕ) (es : List JournalEntry) → AreBehind last es
    → IsRising i last (told_in i entry last es)
rising_in i entry last [] h = record { own = tt; from = tt; climbs = tt }
rising_in i entry last (e ∷ es) h =
    rising_words i entry last e.words e (told_in i (entry + 1) e.stamp es) h.0
    (rising_in i (entry + 1) e.stamp es h.1)

-- 3. Without entries

what_by : (entry : ℕ) (l : List Stamped) (rest : List Told)
    → map what_told (told_by entry l ++ rest) ≡ l ++ map what_told rest
what_by entry [] rest = refl
what_by entry (x ∷ xs) rest = ap (λ l. x ∷ l) (what_by entry xs rest)

pub what_in : (i entry last : ℕ) (es : List JournalEntry)
    → map what_told (told_in i entry last es) ≡ events_in i last es
what_in i entry last [] = refl
what_in i entry last (e ∷ es) =
    what_by entry (words_from i last e.words ++ take_of i e ∷ []) (told_in i (entry + 1) e.stamp es)
    ∙ ap (λ l. (words_from i last e.words ++ take_of i e ∷ []) ++ l)
    (what_in i (entry + 1) e.stamp es)
    ∙ append_assoc (words_from i last e.words) (take_of i e ∷ []) (events_in i e.stamp es)

pub what_made : (i : ℕ) (told : List Told) → made_by stamp_in maker i (map what_told told)
    ≡ map what_told (made_by stamp_told maker_told i told)
what_made i [] = refl
what_made i (x ∷ xs) =
    ap (λ l. cond (eqb (maker_told x) i) (x.what ∷ l) l) (what_made i xs)
    ∙ both (eqb (maker_told x) i)
  where
    both : (b : Bool) → cond b (x.what ∷ map what_told (made_by stamp_told maker_told i xs))
        (map what_told (made_by stamp_told maker_told i xs))
        ≡ map what_told (cond b (x ∷ made_by stamp_told maker_told i xs)
        (made_by stamp_told maker_told i xs))
    both true = refl
    both false = refl

what_all : (x : Told) (ys : List Told) → PrecedesAll stamp_told maker_told x ys
    → PrecedesAll stamp_in maker x.what (map what_told ys)
what_all x [] p = tt
what_all x (y ∷ ys) p = (p.0, what_all x ys p.1)

pub what_sorted : (told : List Told) → AreSorted stamp_told maker_told told
    → AreSorted stamp_in maker (map what_told told)
what_sorted [] s = tt
what_sorted (x ∷ xs) s = (what_all x xs s.0, what_sorted xs s.1)

pub what_below : (n : ℕ) (told : List Told) → AreMadeBelow stamp_told maker_told n told
    → AreMadeBelow stamp_in maker n (map what_told told)
what_below n [] u = tt
what_below n (x ∷ xs) u = (u.0, what_below n xs u.1)
