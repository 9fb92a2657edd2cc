-- Each event adds itself to what is read off a journal.
use Rattle.std.proofs.Common.{◌≡◌, ℕ, suc, ◌+◌, ◌-◌, ◌≤◌, List, [], ◌∷◌, ◌++◌, sym, refl, ap, ◌∙◌, append_assoc, append-nil, arith}
use Rattle.node_model.specs.declared.Entry.{Entry as JournalEntry}
use Rattle.node_model.specs.Turns.{words_before}
use Rattle.node_model.specs.Core.{Exec, Take}
use Rattle.run_order.specs.OwnRun.{Stamped, words_from, events_in, last_take}

-- what is read off a journal with so many words executed
abbrev pub read_off : ℕ → List JournalEntry → ℕ → List Stamped
read_off i journal executed = events_in i 0 journal
    ++ words_from i (last_take 0 journal) (executed - words_before journal)

abbrev word : ℕ → ℕ → Stamped
word i stamp = record { stamp = stamp; event = Exec i }

abbrev take : ℕ → JournalEntry → Stamped
take i e = record { stamp = e.stamp; event = Take i e.from }

-- the journal and the words executed tell the last stamp
pub record IsTold (journal : List JournalEntry) (executed last : ℕ) : Type 0 where
  pub before : words_before journal ≤ executed
  pub stamp : last ≡ last_take 0 journal + (executed - words_before journal)

pub word_told : (journal : List JournalEntry) (executed stamp : ℕ) → IsTold journal executed stamp
    → IsTold journal (executed + 1) (stamp + 1)
word_told journal executed stamp h = record {
  before = (let a = h.before in omega arith);
  stamp = (let a = h.before in let b = h.stamp in omega arith);
}

pub word_adds : (i : ℕ) (journal : List JournalEntry) (executed stamp : ℕ)
    → IsTold journal executed stamp
    → read_off i journal (executed + 1)
    ≡ read_off i journal executed ++ record { stamp = stamp + 1; event = Exec i } ∷ []
word_adds i journal executed stamp h =
    let words = executed - words_before journal in
    let le = h.before in let is = h.stamp in
    let one : (executed + 1) - words_before journal ≡ suc words = omega arith in
    let at : last_take 0 journal + suc words ≡ stamp + 1 = omega arith in
    ap (λ n. events_in i 0 journal ++ words_from i (last_take 0 journal) n) one
    ∙ sym (append_assoc (events_in i 0 journal) (words_from i (last_take 0 journal) words)
    (word i (last_take 0 journal + suc words) ∷ []))
    ∙ ap (λ n. read_off i journal executed ++ word i n ∷ []) at

events_snoc : (i last : ℕ) (journal : List JournalEntry) (e : JournalEntry)
    → events_in i last (journal ++ e ∷ [])
    ≡ (events_in i last journal ++ words_from i (last_take last journal) e.words) ++ take i e ∷ []
events_snoc i last [] e = refl
events_snoc i last (x ∷ xs) e =
    ap (λ l. words_from i last x.words ++ (take i x ∷ l)) (events_snoc i x.stamp xs e)
    ∙ sym (append_assoc (words_from i last x.words)
    (take i x ∷ (events_in i x.stamp xs ++ words_from i (last_take x.stamp xs) e.words))
    (take i e ∷ []))
    ∙ ap (λ l. l ++ take i e ∷ []) (sym (append_assoc (words_from i last x.words)
    (take i x ∷ events_in i x.stamp xs) (words_from i (last_take x.stamp xs) e.words)))

last_snoc : (last : ℕ) (journal : List JournalEntry) (e : JournalEntry)
    → last_take last (journal ++ e ∷ []) ≡ e.stamp
last_snoc last [] e = refl
last_snoc last (x ∷ xs) e = last_snoc x.stamp xs e

words_snoc : (journal : List JournalEntry) (e : JournalEntry)
    → words_before (journal ++ e ∷ []) ≡ words_before journal + e.words
words_snoc [] e = omega arith
words_snoc (x ∷ xs) e = let h = words_snoc xs e in omega arith

all_told : (journal : List JournalEntry) (executed : ℕ) (e : JournalEntry)
    → words_before journal ≤ executed → e.words ≡ executed - words_before journal
    → executed - words_before (journal ++ e ∷ []) ≡ 0
all_told journal executed e le is = let h = words_snoc journal e in omega arith

pub take_told : (journal : List JournalEntry) (executed stamp : ℕ) (e : JournalEntry)
    → IsTold journal executed stamp → e.words ≡ executed - words_before journal
    → IsTold (journal ++ e ∷ []) executed e.stamp
take_told journal executed stamp e h is = let le = h.before in record {
  before = (let s = words_snoc journal e in omega arith);
  stamp = (let l = last_snoc 0 journal e in let a = all_told journal executed e le is in
      omega arith);
}

pub take_adds : (i : ℕ) (journal : List JournalEntry) (executed stamp : ℕ) (e : JournalEntry)
    → IsTold journal executed stamp → e.words ≡ executed - words_before journal
    → read_off i (journal ++ e ∷ []) executed
    ≡ read_off i journal executed ++ record { stamp = e.stamp; event = Take i e.from } ∷ []
take_adds i journal executed stamp e h is =
    ap (λ n. events_in i 0 (journal ++ e ∷ []) ++ words_from i (last_take 0 (journal ++ e ∷ [])) n)
    (all_told journal executed e h.before is)
    ∙ append-nil (events_in i 0 (journal ++ e ∷ []))
    ∙ events_snoc i 0 journal e
    ∙ ap (λ n. (events_in i 0 journal ++ words_from i (last_take 0 journal) n) ++ take i e ∷ []) is
