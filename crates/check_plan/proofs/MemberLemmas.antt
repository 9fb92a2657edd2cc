-- Members of sets, counted and in order.
use Rattle.std.proofs.Common.{◌≡◌, ◌≢◌, ℕ, suc, ◌+◌, ◌-◌, ◌<◌, ◌≤◌, ◌⊎◌, ◌↔◌, Bool, true, false, ◌==◌, cond, List, ◌∷◌, ◌++◌, length, Option, Some, None, refl, sym, ap, ◌∙◌, inl, inr, arith}
use Rattle.std.specs.Prelude.{Contains, min, not, ◌&&◌, ◌||◌, map, take, filter, slice_get, slice_index_or}
use Rattle.std.specs.List.{list_any, range_with_len}
use Rattle.std.specs.Option.{option_map_or}
use Rattle.std.proofs.lemmas.Bool.{eqb-true, eq-eqb}
use Rattle.std.proofs.lemmas.List.{get_or-take, get_or_past, get_or_append_left, get_or-append_right, get_or-map, length-take, length-map, length-append}
use Rattle.std.proofs.lemmas.Option.{slice_get_within, get_or_from_slice_get}
use Rattle.rv32_decode.specs.declared.Instr.{Instr}
use Rattle.rv32_decode.specs.Fields.{field, bit}
use Rattle.rv32_decode.specs.Registers.{IsMember, Reads, Writes, sources, destination}
use Rattle.templates.specs.declared.plans.Scratch.{Scratch}
use Rattle.templates.specs.Plans.{no_scratch}
use Rattle.templates.specs.WholePlan.{is_own, candidates, unspilled, spilled, in_order}
use Rattle.check_plan.specs.Members.{members, both, IsPassed}
use Rattle.check_plan.proofs.ListLemmas.{same_test, two_tests, agree, was_there, range_within, any_of, of_any}

-- the members from a number on
abbrev pub from : ℕ → ℕ → List ℕ
from set number = filter (bit set) (range_with_len number (32 - number))

from_step : (set n : ℕ) → n < 32 → from set n ≡ cond (bit set n) (n ∷ from set (n + 1)) (from set (n + 1))
from_step set n lt =
    let e : 32 - n ≡ suc (32 - (n + 1)) = omega (arith, lt) in ap (λ m. filter (bit set) (range_with_len n m)) e

with_member : (set n : ℕ) → n < 32 → IsMember set n → from set n ≡ n ∷ from set (n + 1)
with_member set n lt m = from_step set n lt ∙ ap (λ b. cond b (n ∷ from set (n + 1)) (from set (n + 1))) (eq-eqb (field set n 1) 1 m)

not_true : (b : Bool) → (b ≡ true → ⊥) → b ≡ false
not_true true h = absurd (h refl)
not_true false h = refl

without_member : (set n : ℕ) → n < 32 → (IsMember set n → ⊥) → from set n ≡ from set (n + 1)
without_member set n lt m =
    from_step set n lt
    ∙ ap (λ b. cond b (n ∷ from set (n + 1)) (from set (n + 1))) (not_true (bit set n) (λ e. m (eqb-true (field set n 1) 1 e)))

-- the search for the member of number k
pub record IsSearch (set k n left : ℕ) : Type 0 where
  pub found : slice_get (from set n) left ≡ slice_get (members set) k
  pub count : length (members set) + left ≡ k + length (from set n)

pub search_begin : (set k : ℕ) → IsSearch set k 1 k
unfolding members
search_begin set k = record { found = refl; count = omega arith }

pub search_here : (set k n left : ℕ) → n < 32 → IsMember set n → left ≡ 0 → IsSearch set k n left → slice_get (members set) k ≡ Some n
search_here set k n left lt m none h = sym h.found ∙ ap (λ j. slice_get (from set n) j) none ∙ ap (λ xs. slice_get xs 0) (with_member set n lt m)

pub search_pass : (set k n left : ℕ) → n < 32 → IsMember set n → left ≢ 0 → IsSearch set k n left → IsSearch set k (n + 1) (left - 1)
search_pass set k n left lt m some h =
    let is = with_member set n lt m in
    let more : left ≡ suc (left - 1) = omega (arith, some) in
    let len = ap (λ xs. length xs) is in
    let count = h.count in
    record {
      found = sym (ap (λ xs. slice_get xs left) is ∙ ap (λ j. slice_get (n ∷ from set (n + 1)) j) more) ∙ h.found;
      count = omega (arith, some, len, count);
    }

pub search_skip : (set k n left : ℕ) → n < 32 → (IsMember set n → ⊥) → IsSearch set k n left → IsSearch set k (n + 1) left
search_skip set k n left lt m h =
    let is = without_member set n lt m in record {
      found = sym (ap (λ xs. slice_get xs left) is) ∙ h.found;
      count = h.count ∙ ap (λ xs. k + length xs) is;
    }

pub search_end : (set k n left : ℕ) → 32 ≤ n → IsSearch set k n left → IsPassed set k left
search_end set k n left le h =
    let e : 32 - n ≡ 0 = omega (arith, le) in
    let none : length (from set n) ≡ 0 = ap (λ m. length (filter (bit set) (range_with_len n m))) e in
    let count = h.count in omega (arith, none, count)

-- the candidate of number k
pub candidate_dead : (dead others k r : ℕ) → slice_get (members dead) k ≡ Some r → unspilled r ≡ slice_index_or (both dead others) k no_scratch
candidate_dead dead others k r at =
    let lt = slice_get_within (members dead) k r at in
    let len = length-map (members dead) unspilled in
    sym (get_or_append_left (map unspilled (members dead)) (map spilled (members others)) no_scratch k (omega (arith, lt, len))
    ∙ get_or-map unspilled (members dead) k r no_scratch lt ∙ ap unspilled (get_or_from_slice_get (members dead) k r r at))

pub candidate_other : (dead others k left r : ℕ) → IsPassed dead k left → slice_get (members others) left ≡ Some r → spilled r ≡ slice_index_or (both dead others) k no_scratch
candidate_other dead others k left r passed at =
    let lt = slice_get_within (members others) left r at in
    let len = length-map (members dead) unspilled in
    let rest : k - length (members dead) ≡ left = omega (arith, passed) in
    sym (get_or-append_right (map unspilled (members dead)) (map spilled (members others)) (length (members dead)) k no_scratch len (omega (arith, passed))
    ∙ ap (λ j. slice_index_or (map spilled (members others)) j no_scratch) rest
    ∙ get_or-map spilled (members others) left r no_scratch lt ∙ ap spilled (get_or_from_slice_get (members others) left r r at))

pub candidate_none : (dead others k left rest : ℕ) → IsPassed dead k left → IsPassed others left rest → no_scratch ≡ slice_index_or (both dead others) k no_scratch
candidate_none dead others k left rest passed after =
    let one = length-map (members dead) unspilled in
    let two = length-map (members others) spilled in
    let sum = length-append (map unspilled (members dead)) (map spilled (members others)) in
    sym (get_or_past (both dead others) k no_scratch (omega (arith, passed, after, one, two, sum)))

pub taken_before : (xs : List Scratch) (k count : ℕ) (x : Scratch) → k < count → x ≡ slice_index_or xs k no_scratch → x ≡ slice_index_or (take count xs) k no_scratch
taken_before xs k count x lt is = is ∙ sym (get_or-take count xs k no_scratch lt)

pub none_from : (xs : List Scratch) (k count : ℕ) → count ≤ k → no_scratch ≡ slice_index_or (take count xs) k no_scratch
none_from xs k count le =
    let len = length-take count xs in
    sym (get_or_past (take count xs) k no_scratch (short (length xs) (length (take count xs)) len))
  where
    short : (m n : ℕ) → n ≡ min count m → n ≤ k
    short m n e = omega (arith, e, le)

-- the instruction's own registers
own_of : (i : Instr) (r : ℕ) → is_own i r ≡ true → Contains (sources i) r ⊎ (destination i ≡ Some r)
own_of i r h = go (list_any (λ q. r == q) (sources i)) (destination i) refl h
  where
    go : (b : Bool) (o : Option ℕ) → list_any (λ q. r == q) (sources i) ≡ b → (b || option_map_or (λ q. r == q) o false) ≡ true → Contains (sources i) r ⊎ (o ≡ Some r)
    go true o e t = inl (of_any r (sources i) e)
    go false None e t = cc
    go false (Some q) e t = inr (ap (λ x. Some x) (sym (eqb-true r q t)))

or_right : (b c : Bool) → c ≡ true → (b || c) ≡ true
or_right true c e = refl
or_right false c e = e

is_own_by : (i : Instr) (r : ℕ) → Contains (sources i) r ⊎ (destination i ≡ Some r) → is_own i r ≡ true
is_own_by i r h = elim h [
  | inl reads ↦ ap (λ b. b || option_map_or (λ q. r == q) (destination i) false) (any_of r (sources i) reads)
  | inr writes ↦ or_right (list_any (λ q. r == q) (sources i)) _ (ap (λ o. option_map_or (λ q. r == q) o false) writes ∙ eq-eqb r r refl)
]

both_parts : (a b : Bool) → (a && b) ≡ true → (a ≡ true) × (b ≡ true)
both_parts true b h = (refl, h)
both_parts false b h = cc

both_hold : (a b : Bool) → a ≡ true → b ≡ true → (a && b) ≡ true
both_hold true b one h = h
both_hold false b one h = cc

negated : (b : Bool) → not b ≡ true → b ≡ true → ⊥
negated true n t = cc
negated false n t = cc

negates : (b : Bool) → (b ≡ true → ⊥) → not b ≡ true
negates true f = absurd (f refl)
negates false f = refl

pub bit_of : (set r : ℕ) → IsMember set r → bit set r ≡ true
bit_of set r m = eq-eqb (field set r 1) 1 m

pub of_bit : (set r : ℕ) → bit set r ≡ true → IsMember set r
of_bit set r t = eqb-true (field set r 1) 1 t

bounds : (r : ℕ) → Contains (range_with_len 1 31) r → (r ≢ 0) × (r < 32)
bounds r c =
    let b = range_within 1 31 r c in
    let low = b.0 in
    let high = b.1 in
    ((λ e. omega (arith, low, e)), omega (arith, high))

-- registers that pass a test
pub passing_bounds : (p : ℕ → Bool) (r : ℕ) → Contains (filter p (range_with_len 1 31)) r
    → (r ≢ 0) × (r < 32)
passing_bounds p r c = bounds r (was_there p (range_with_len 1 31) r c)

-- the members of a set are those that pass a test
pub members_by : (set : ℕ) (p : ℕ → Bool)
    → ((r : ℕ) → r ≢ 0 → r < 32 → (IsMember set r ↔ (p r ≡ true)))
    → members set ≡ filter p (range_with_len 1 31)
unfolding members
members_by set p h = agree (bit set) p (range_with_len 1 31) each
  where
    each : (r : ℕ) → Contains (range_with_len 1 31) r → bit set r ≡ p r
    each r c =
        let b = bounds r c in
        let m = h r b.0 b.1 in
        same_test _ _ (λ t. m.0 (of_bit set r t)) (λ t. bit_of set r (m.1 t))

-- what is no register of the instruction's own is a candidate
pub candidates_are : (i : Instr) (own set : ℕ)
    → ((r : ℕ) → r < 32 → (IsMember own r ↔ (Reads i r ⊎ Writes i r)))
    → ((r : ℕ) → r < 32 → (IsMember set r ↔ ¬ IsMember own r)) → members set ≡ candidates i
candidates_are i own set own_is set_is = members_by set (λ r. not (is_own i r)) (λ r nz lt. (
  λ m. negates (is_own i r) (λ t. (set_is r lt).0 m ((own_is r lt).1 (owned r nz t))),
  λ t. (set_is r lt).1 (λ m. negated (is_own i r) t (owns r ((own_is r lt).0 m))),
))
  where
    owned : (r : ℕ) → r ≢ 0 → is_own i r ≡ true → Reads i r ⊎ Writes i r
    owned r nz t = elim (own_of i r t) [ inl c ↦ inl (nz, c) | inr d ↦ inr (nz, d) ]

    owns : (r : ℕ) → Reads i r ⊎ Writes i r → is_own i r ≡ true
    owns r h = is_own_by i r (elim h [ inl c ↦ inl c.1 | inr d ↦ inr d.1 ])

-- the dead ones of some candidates, and the others
pub order_is : (set dead these others : ℕ)
    → ((r : ℕ) → r < 32 → (IsMember these r ↔ (IsMember set r × ¬ IsMember others r)))
    → ((r : ℕ) → r < 32 → (IsMember others r ↔ (IsMember set r × ¬ IsMember dead r)))
    → both these others ≡ in_order (bit dead) (members set)
unfolding members
order_is set dead these others these_are others_are =
    ap (λ xs. map unspilled xs ++ map spilled (members others))
    (two_tests (bit these) (bit set) (bit dead) (range_with_len 1 31) first)
    ∙ ap (λ xs. map unspilled (filter (bit dead) (members set)) ++ map spilled xs)
    (two_tests (bit others) (bit set) (λ r. not (bit dead r)) (range_with_len 1 31) second)
  where
    dead_or : (b : Bool) → (b ≡ true) ⊎ (b ≡ true → ⊥)
    dead_or true = inl refl
    dead_or false = inr (λ e. cc)

    first : (r : ℕ) → Contains (range_with_len 1 31) r → bit these r ≡ (bit set r && bit dead r)
    first r c =
        let lt = (bounds r c).1 in
        same_test _ _
        (λ t.
        let m = (these_are r lt).0 (of_bit these r t) in
        both_hold (bit set r) (bit dead r) (bit_of set r m.0)
        (elim (dead_or (bit dead r)) [
          | inl is ↦ is
          | inr out ↦
              absurd (m.1 ((others_are r lt).1 (m.0, λ d. out (bit_of dead r d))))
        ]))
        (λ t.
        let p = both_parts (bit set r) (bit dead r) t in
        bit_of these r ((these_are r lt).1
        (of_bit set r p.0, λ m. ((others_are r lt).0 m).1 (of_bit dead r p.1))))

    second : (r : ℕ) → Contains (range_with_len 1 31) r
        → bit others r ≡ (bit set r && not (bit dead r))
    second r c =
        let lt = (bounds r c).1 in
        same_test _ _
        (λ t.
        let m = (others_are r lt).0 (of_bit others r t) in
        both_hold (bit set r) (not (bit dead r)) (bit_of set r m.0)
        (negates (bit dead r) (λ e. m.1 (of_bit dead r e))))
        (λ t.
        let p = both_parts (bit set r) (not (bit dead r)) t in
        bit_of others r ((others_are r lt).1
        (of_bit set r p.0, λ m. negated (bit dead r) p.1 (bit_of dead r m))))
