-- What waits, as a list and as flags.
use Rattle.std.proofs.Common.{◌≡◌, ◌≢◌, ℕ, zero, suc, ◌+◌, ◌*◌, ◌-◌, ◌^◌, ◌<◌, ◌≤◌, inl, inr, Bool, true, false, cond, List, [], ◌∷◌, ◌++◌, length, get_or, nat_eq, refl, sym, ap, ◌∙◌, subst, arith, add-zero}
use Rattle.std.specs.List.{sum_by}
use Rattle.std.proofs.Math.ListN.{set}
use Rattle.std.proofs.Math.Nat.{mul-le-mul_right}
use Rattle.std.proofs.lemmas.Bool.Decides.{eqb_tells, leb_tells}
use Rattle.std.proofs.lemmas.Bool.{eq-eqb}
use Rattle.std.proofs.lemmas.List.{get_or_past, get_or-set_same, get_or-set_other}
use Rattle.std.proofs.lemmas.List.Sums.{sum_by-set, sum_by-cons, sum_by-append}
use Rattle.std.proofs.lemmas.Nat.{or_of_32}
use Rattle.std.proofs.lemmas.Nat.Bits.{bit_at_or, bit_at-lt, same_from_bits_below}
use Rattle.std.specs.Int.{bit_at}
use Rattle.std.specs.Prelude.{bit_or}
use Rattle.liveness.specs.Marks.{Marks, times}

abbrev pub one_if : Bool → ℕ
one_if b = cond b 1 0

pub count_last : (x y : ℕ) (xs : List ℕ) → times x (xs ++ y ∷ []) ≡ times x xs + one_if (nat_eq x y)
count_last x y xs =
    let f : ℕ → ℕ = λ z. cond (nat_eq x z) 1 0 in
    sum_by-append f xs (y ∷ []) ∙ ap (λ n. sum_by f xs + n) (sum_by-cons f y [] ∙ add-zero _)

pub flag_set : (b : Bool) (n : ℕ) → n + 1 ≡ one_if b → (b ≡ true) × (n ≡ 0)
flag_set true n e = (refl, omega (arith, e))
flag_set false n e = absurd (omega (arith, e))

pub flag_clear : (b : Bool) → 0 ≡ one_if b → b ≡ false
flag_clear true e = absurd (omega (arith, e))
flag_clear false e = refl

-- a flag that is set is one of the list's
pub flag_within : (flags : List Bool) (i : ℕ) → get_or flags i false ≡ true → i < length flags
flag_within flags i e = let past = get_or_past flags i false in grind (arith, past)

-- the last of the list has its flag set
pub popped_flag : (queue rest : List ℕ) (flags : List Bool) (i : ℕ) → Marks queue flags → queue ≡ rest ++ i ∷ [] → (get_or flags i false ≡ true) × (times i rest ≡ 0)
popped_flag queue rest flags i m e =
    flag_set (get_or flags i false) (times i rest)
    (sym (count_last i i rest ∙ ap (λ b. times i rest + one_if b) (eq-eqb i i refl)) ∙ ap (times i) (sym e) ∙ m i)

pub popped : (queue rest : List ℕ) (flags : List Bool) (i : ℕ) → Marks queue flags → queue ≡ rest ++ i ∷ [] → Marks rest (set flags i false)
popped queue rest flags i m e x = let f = popped_flag queue rest flags i m e in let l = flag_within flags i f.0 in elim (eqb_tells x i) [
  | inl same ↦
      ap (λ (y : ℕ). times y rest) same.1 ∙ f.1 ∙ sym (ap one_if (ap (λ y. get_or (set flags i false) y false) same.1 ∙ get_or-set_same flags i false false l))
  | inr other ↦
      let last : times x (rest ++ i ∷ []) ≡ times x rest + 0 = count_last x i rest ∙ ap (λ b. times x rest + one_if b) other.0 in
      let now : times x (rest ++ i ∷ []) ≡ one_if (get_or flags x false) = ap (times x) (sym e) ∙ m x in
      let before : times x rest ≡ one_if (get_or flags x false) = omega (arith, last, now) in
      before ∙ sym (ap one_if (get_or-set_other flags i x false false other.1))
]

-- nothing waits in an empty list
pub none_wait : (queue : List ℕ) (flags : List Bool) (k : ℕ) → Marks queue flags → queue ≡ [] → get_or flags k false ≡ false
none_wait queue flags k m e = flag_clear (get_or flags k false) (ap (times k) (sym e) ∙ m k)

-- how many wait
abbrev pub waiting : List Bool → ℕ
waiting flags = sum_by one_if flags

pub waiting-clear : (flags : List Bool) (i : ℕ) → get_or flags i false ≡ true → waiting (set flags i false) + 1 ≡ waiting flags
waiting-clear flags i e =
    let s = sum_by-set one_if flags i false false (flag_within flags i e) in
    let one : one_if (get_or flags i false) ≡ 1 = ap one_if e in
    omega (arith, s, one)

waiting_at : (b : Bool) (n m : ℕ) → n ≤ m → one_if b + n ≤ m + 1
waiting_at true n m l = omega (arith, l)
waiting_at false n m l = omega (arith, l)

pub waiting-le : (flags : List Bool) → waiting flags ≤ length flags
waiting-le [] = omega arith
waiting-le (b ∷ bs) = let l = waiting_at b _ _ (waiting-le bs) in let s = sum_by-cons one_if b bs in omega (arith, l, s)

-- how many of the low k bits are not set
pub unset : ℕ → ℕ → ℕ
unset zero s = 0
unset (suc k) s = (1 - bit_at s k) + unset k s

-- where each bit of s is one of t
grows : (k s t : ℕ) → ((i : ℕ) → i < k → bit_at s i ≤ bit_at t i) → (unset k t ≤ unset k s) × (unset k t ≡ unset k s → (i : ℕ) → i < k → bit_at s i ≡ bit_at t i)
unfolding unset
grows zero s t h = (omega arith, λ e i l. absurd (omega (arith, l)))
grows (suc k) s t h =
    let g = grows k s t (λ i l. h i (omega (arith, l))) in
    let m : unset k t ≤ unset k s = g.0 in
    let b : bit_at s k ≤ bit_at t k = h k (omega arith) in
    let bs = bit_at-lt s k in let bt = bit_at-lt t k in (
      omega (arith, m, b, bs, bt),
      λ e i l. elim (eqb_tells i k) [
        | inl same ↦ let P : ℕ → Type 0 = λ j. bit_at s j ≡ bit_at t j in subst P (sym same.1) (omega (arith, e, m, b, bs, bt))
        | inr other ↦ let n = other.1 in g.1 (omega (arith, e, m, b, bs, bt)) i (omega (arith, l, n))
      ],
    )

pub unset-le : (k s : ℕ) → unset k s ≤ k
unfolding unset
unset-le zero s = omega arith
unset-le (suc k) s = let l = unset-le k s in omega (arith, l)

unset_or : (old more : ℕ) → old < 2 ^ 32 → more < 2 ^ 32 → bit_or old more ≢ old → unset 32 (bit_or old more) < unset 32 old
unset_or old more small few other =
    let g = grows 32 old (bit_or old more) (λ i l. let e = bit_at_or old more i in omega (arith, e)) in
    elim (leb_tells (unset 32 old) (unset 32 (bit_or old more))) [
      | inl no_less ↦
          let n = no_less.1 in let m = g.0 in
          absurd (other (sym (same_from_bits_below 32 old (bit_or old more) small (or_of_32 old more small few) (g.1 (omega (arith, n, m))))))
      | inr less ↦ let n = less.1 in omega (arith, n)
    ]

-- how many bits of the sets are not set
pub lacking : List ℕ → ℕ
lacking sets = sum_by (unset 32) sets

pub lacking-set : (sets : List ℕ) (i old more : ℕ) → i < length sets → old ≡ get_or sets i 0 → old < 2 ^ 32 → more < 2 ^ 32 → bit_or old more ≢ old → lacking (set sets i (bit_or old more)) < lacking sets
unfolding lacking
lacking-set sets i old more l e small few other =
    let s = sum_by-set (unset 32) sets i (bit_or old more) 0 l in
    let same : unset 32 (get_or sets i 0) ≡ unset 32 old = ap (unset 32) (sym e) in
    let less = unset_or old more small few other in
    omega (arith, s, same, less)

-- so the sets change at most 32 times for each node
pub lacking-le : (sets : List ℕ) → lacking sets ≤ 32 * length sets
unfolding lacking
lacking-le [] = omega arith
lacking-le (s ∷ ss) =
    let l : sum_by (unset 32) ss ≤ 32 * length ss = lacking-le ss in let c = sum_by-cons (unset 32) s ss in let u = unset-le 32 s in omega (arith, l, c, u)

-- a measure of two parts
pub measure_less : (a b v w n : ℕ) → a < b → v ≤ n → a * (n + 1) + v < b * (n + 1) + w
measure_less a b v w n l k =
    let m : (a + 1) * (n + 1) ≤ b * (n + 1) = mul-le-mul_right (n + 1) (omega (arith, l)) in
    let d : (a + 1) * (n + 1) ≡ a * (n + 1) + (n + 1) = omega arith in
    omega (arith, m, d, k)
