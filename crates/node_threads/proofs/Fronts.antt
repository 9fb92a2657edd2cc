-- A wire in front of one list of many.
use Rattle.std.proofs.Common.{◌≡◌, ◌≢◌, ℕ, zero, suc, remove, ◌-◌, ◌+◌, ◌<◌, ◌≤◌, Option, Some, None, List, [], ◌∷◌, ◌++◌, set, get_or, length, ap, ap₂, ◌∙◌, sym, subst, arith, eq-eqb, ne_eqb, ⊎_elim, Vec, Global, le_of_suc-le-suc, not-suc-le-zero}
use Rattle.std.proofs.lemmas.Bool.{cases_eq}
use Rattle.std.specs.declared.collections.VecDeque.{VecDeque}
use Rattle.dsm_messages.specs.declared.messages.Wire.{Wire}
use Rattle.node_threads.specs.Works.{undelivered_from}
use Rattle.node_threads.specs.Rows.{wires_at}
use Rattle.node_threads.specs.Crew.{RowsOf, UndeliveredFit, list_of, undelivered_at}
use Rattle.node_threads.proofs.Entries.{wires_same, wires_other, wires_get}

abbrev pub Deque : Type 0
Deque = VecDeque Wire Global

abbrev pub Row : Type 0
Row = Vec (VecDeque Wire Global) Global

abbrev R : Row → List Deque
R v = v.items

abbrev Q : Deque → List Wire
Q o = o.items

pub row_len : (n : ℕ) (rs : List Row) (i : ℕ) (row : Row) → RowsOf n rs → i < length rs → row ≡ get_or rs i row → length row.items ≡ n
row_len n [] i row ro lt is = absurd (not-suc-le-zero lt)
row_len n (r ∷ rs) zero row ro lt is = ap (λ (v : Row). length v.items) is ∙ ro.0
row_len n (r ∷ rs) (suc i) row ro lt is = row_len n rs i row ro.1 (le_of_suc-le-suc lt) is

pub rows_set : (n : ℕ) (rs : List Row) (i : ℕ) (new : Row) → RowsOf n rs → length new.items ≡ n → RowsOf n (set rs i new)
rows_set n [] i new ro len = tt
rows_set n (r ∷ rs) zero new ro len = (len, ro.1)
rows_set n (r ∷ rs) (suc i) new ro len = (ro.0, rows_set n rs i new ro.1 len)

module _ (rs : List Row) (i j k : ℕ) (row new : Row) (old deque : Deque) (w : Wire) (at : i ≡ j) (lt : i < length rs) (is_row : row ≡ get_or rs i row) (lk : k < length row.items)
    (is_old : old ≡ get_or row.items k old) (is_deque : deque.items ≡ w ∷ old.items) (is_new : new.items ≡ set row.items k deque) where
  pub front_here : (a : ℕ) → list_of (set rs i new) a k ≡ undelivered_from a (Some (j, w)) ++ list_of rs a k
  front_here a = ⊎_elim
      (λ (e : j ≡ a).
      let here : i ≡ a = at ∙ e in
      rw (eq-eqb j a e) (subst (λ b. list_of (set rs i new) b k ≡ (w ∷ []) ++ list_of rs b k) here
      (ap (λ l. wires_at Q l k) (wires_same Row Deque R rs i new lt ∙ is_new) ∙ wires_same Deque Wire Q row.items k deque lk ∙ is_deque
      ∙ ap (λ l. w ∷ l) (sym (ap (λ l. wires_at Q l k) (wires_get Row Deque R rs i row lt is_row) ∙ wires_get Deque Wire Q row.items k old lk is_old)))))
      (λ (e : j ≢ a). rw (ne_eqb j a e) (ap (λ l. wires_at Q l k) (wires_other Row Deque R rs i a new (λ q. e (sym at ∙ sym q)))))
      (cases_eq j a)

  pub front_other : (a b : ℕ) → b ≢ k → list_of (set rs i new) a b ≡ list_of rs a b
  front_other a b other = ⊎_elim
      (λ (e : i ≡ a). subst (λ c. list_of (set rs i new) c b ≡ list_of rs c b) e
      (ap (λ l. wires_at Q l b) (wires_same Row Deque R rs i new lt ∙ is_new) ∙ wires_other Deque Wire Q row.items k b deque other ∙ sym (ap (λ l. wires_at Q l b) (wires_get Row Deque R rs i row lt is_row))))
      (λ (e : i ≢ a). ap (λ l. wires_at Q l b) (wires_other Row Deque R rs i a new (λ q. e (sym q))))
      (cases_eq i a)

pub undelivered_first : (n : ℕ) (hs : List (Option (ℕ × Wire))) (h : Option (ℕ × Wire)) (rest : List (Option (ℕ × Wire))) → 0 < length hs → h ≡ get_or hs 0 h → rest ≡ remove hs 0 → UndeliveredFit n hs
    → UndeliveredFit n (h ∷ []) × UndeliveredFit n rest × (h ≡ undelivered_at hs 0) × ((i : ℕ) → undelivered_at rest i ≡ undelivered_at hs (suc i)) × (suc (length rest) ≡ length hs)
undelivered_first n [] h rest some is after fit = absurd (not-suc-le-zero some)
undelivered_first n (None ∷ hs) h rest some is after fit = (subst (λ x. UndeliveredFit n (x ∷ [])) (sym is) tt, subst (λ l. UndeliveredFit n l) (sym after) fit, is, (λ i. ap (λ l. undelivered_at l i) after), ap (λ l. suc (length l)) after)
undelivered_first n (Some p ∷ hs) h rest some is after fit = (subst (λ x. UndeliveredFit n (x ∷ [])) (sym is) (fit.0, tt), subst (λ l. UndeliveredFit n l) (sym after) fit.1, is, (λ i. ap (λ l. undelivered_at l i) after), ap (λ l. suc (length l)) after)

-- one more list has its undelivered wire
pub one_more : (undelivered : List (Option (ℕ × Wire))) (old now next : List Row) (k : ℕ) (h : Option (ℕ × Wire)) → h ≡ undelivered_at undelivered k
    → ((a b : ℕ) → b < k → list_of now a b ≡ undelivered_from a (undelivered_at undelivered b) ++ list_of old a b) → ((a b : ℕ) → k ≤ b → list_of now a b ≡ list_of old a b)
    → ((a : ℕ) → list_of next a k ≡ undelivered_from a h ++ list_of now a k) → ((a b : ℕ) → b ≢ k → list_of next a b ≡ list_of now a b)
    → ((a b : ℕ) → b < k + 1 → list_of next a b ≡ undelivered_from a (undelivered_at undelivered b) ++ list_of old a b) × ((a b : ℕ) → k + 1 ≤ b → list_of next a b ≡ list_of old a b)
one_more undelivered old now next k h is done left here other = (
  (λ a b lt. ⊎_elim
      (λ (e : b ≡ k). subst (λ c. list_of next a c ≡ undelivered_from a (undelivered_at undelivered c) ++ list_of old a c) (sym e)
      (here a ∙ ap₂ (λ x y. undelivered_from a x ++ y) is (left a k (omega arith))))
      (λ (e : b ≢ k). other a b e ∙ done a b (omega arith)) (cases_eq b k)),
  λ a b le. let ne : b ≢ k = omega arith in other a b ne ∙ left a b (omega arith),
)

pub none_undelivered : (undelivered rest : List (Option (ℕ × Wire))) (k : ℕ) → length rest ≡ 0 → ((i : ℕ) → undelivered_at rest i ≡ undelivered_at undelivered (k + i)) → (b : ℕ) → k ≤ b → undelivered_at undelivered b ≡ None
none_undelivered undelivered [] k none same b le = let i = b - k in let e : k + i ≡ b = omega arith in ap (λ c. undelivered_at undelivered c) (sym e) ∙ sym (same i)
none_undelivered undelivered (r ∷ rest) k none same b le = absurd (omega arith)
