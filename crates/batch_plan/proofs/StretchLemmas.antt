-- Stretches with a word more, and with fewer.
use Rattle.std.proofs.Common.{◌≡◌, ◌≢◌, ℕ, zero, suc, ◌+◌, ◌*◌, ◌^◌, ◌<◌, ◌≤◌, ◌⊎◌, Bool, true, false, ◌==◌, cond, List, [], ◌∷◌, ◌++◌, length, Option, Some, None, refl, sym, ap, ◌∙◌, subst, inl, inr, arith, append-nil, append_assoc}
use Rattle.std.specs.Prelude.{option_to_list}
use Rattle.std.proofs.lemmas.Bool.{eqb-true, cases_lt}
use Rattle.std.proofs.lemmas.List.{length-append}
use Rattle.rv32_decode.specs.declared.Instr.{Instr}
use Rattle.templates.specs.declared.code.CodeWord.{CodeWord}
use Rattle.templates.specs.Code.{Ascends, code_of}
use Rattle.templates.specs.Runs.{code_from, reach_of, reach_at, may_stand}
use Rattle.templates.specs.Reaches.{is_near}
use Rattle.batch_plan.specs.Stretches.{IsFront, IsRunPrefix}
use Rattle.batch_plan.proofs.ReachLemmas.{front_more, front_less}

-- the words of a stretch with the one behind them
code_more : (code : ℕ → Option Instr) (a n : ℕ)
    → code_from code a (suc n) ≡ code_from code a n ++ option_to_list (code (a + 4 * n))
code_more code a zero =
    let e : a ≡ a + 4 * 0 = omega arith in
    append-nil (option_to_list (code a)) ∙ ap (λ b. option_to_list (code b)) e
code_more code a (suc n) =
    let e : a + 4 + 4 * n ≡ a + 4 * suc n = omega arith in
    ap (λ xs. option_to_list (code a) ++ xs) (code_more code (a + 4) n
    ∙ ap (λ b. code_from code (a + 4) n ++ option_to_list (code b)) e)
    ∙ sym (append_assoc (option_to_list (code a)) (code_from code (a + 4) n)
    (option_to_list (code (a + 4 * suc n))))

few_from : (code : ℕ → Option Instr) (a n : ℕ) → length (code_from code a n) ≤ n
few_from code a zero = omega arith
few_from code a (suc n) =
    let more = few_from code (a + 4) n in
    let sum = length-append (option_to_list (code a)) (code_from code (a + 4) n) in
    let one = at_most_one (code a) in
    omega (arith, more, sum, one)
  where
    at_most_one : (o : Option Instr) → length (option_to_list o) ≤ 1
    at_most_one None = omega arith
    at_most_one (Some i) = omega arith

-- words of which the last is there
pub record IsBehind (code : ℕ → Option Instr) (a n : ℕ) : Type 0 where
  pub instruction : Instr
  pub there : code (a + 4 * n) ≡ Some instruction
  pub coded : length (code_from code a n) ≡ n
  pub words : code_from code a (suc n) ≡ code_from code a n ++ instruction ∷ []

words_behind : (code : ℕ → Option Instr) (a n : ℕ) (i : Instr) → code (a + 4 * n) ≡ Some i
    → code_from code a (suc n) ≡ code_from code a n ++ i ∷ []
words_behind code a n i is =
    code_more code a n ∙ ap (λ o. code_from code a n ++ option_to_list o) is

is_behind : (code : ℕ → Option Instr) (a n : ℕ) → length (code_from code a (suc n)) ≡ suc n
    → IsBehind code a n
is_behind code a n coded = go (code (a + 4 * n)) refl
  where
    long : length (code_from code a n ++ option_to_list (code (a + 4 * n))) ≡ suc n
    long = sym (ap (λ xs. length xs) (code_more code a n)) ∙ coded

    go : (o : Option Instr) → code (a + 4 * n) ≡ o → IsBehind code a n
    go None is = absurd (
        let few = few_from code a n in
        let sum = length-append (code_from code a n) (option_to_list (code (a + 4 * n))) in
        let none = ap (λ o. length (option_to_list o)) is in
        let whole = long in
        omega (arith, few, sum, none, whole))
    go (Some i) is = record {
      instruction = i;
      there = is;
      coded =
          let sum = length-append (code_from code a n) (option_to_list (code (a + 4 * n))) in
          let one = ap (λ o. length (option_to_list o)) is in
          let whole = long in
          omega (arith, sum, one, whole);
      words = words_behind code a n i is;
    }

-- a stretch of one word
pub one_word : (code : ℕ → Option Instr) (a : ℕ) (i : Instr) → code a ≡ Some i
    → code_from code a 1 ≡ i ∷ []
one_word code a i is = ap (λ o. option_to_list o ++ []) is

pub one_is : (code : ℕ → Option Instr) (a : ℕ) (i : Instr) → code a ≡ Some i → IsFront (i ∷ [])
    → IsRunPrefix code a 1
one_is code a i is h = record {
  some = λ z. omega (arith, z);
  coded = ap (λ xs. length xs) (one_word code a i is);
  front = subst IsFront (sym (one_word code a i is)) h;
}

pub one_front : (code : ℕ → Option Instr) (a : ℕ) (i : Instr) → code a ≡ Some i
    → IsRunPrefix code a 1 → IsFront (i ∷ [])
one_front code a i is h = subst IsFront (one_word code a i is) h.front

pub one_coded : (code : ℕ → Option Instr) (a : ℕ) → code a ≡ None → IsRunPrefix code a 1 → ⊥
one_coded code a is h =
    let none : length (code_from code a 1) ≡ 0 = ap (λ o. length (option_to_list o ++ [])) is in
    let one = h.coded in
    omega (arith, none, one)

-- a stretch with one word more
pub stretch_more : (code : ℕ → Option Instr) (a n : ℕ) (i : Instr) → IsRunPrefix code a n
    → code (a + 4 * n) ≡ Some i → may_stand (reach_at code a n).base i ≡ true
    → is_near (reach_of (code_from code a n ++ i ∷ [])) ≡ true → IsRunPrefix code a (n + 1)
stretch_more code a n i h is stands near = subst (IsRunPrefix code a) one_more (record {
  some = λ z. omega (arith, z);
  coded =
      let coded = h.coded in
      let sum = length-append (code_from code a n) (i ∷ []) in
      let same = ap (λ xs. length xs) (words_behind code a n i is) in
      omega (arith, coded, sum, same);
  front =
      subst IsFront (sym (words_behind code a n i is))
      (front_more (code_from code a n) i h.front stands near);
})
  where
    one_more : suc n ≡ n + 1
    one_more = omega arith

pub words_more : (code : ℕ → Option Instr) (a n : ℕ) (i : Instr) → code (a + 4 * n) ≡ Some i
    → code_from code a (n + 1) ≡ code_from code a n ++ i ∷ []
words_more code a n i is =
    let e : n + 1 ≡ suc n = omega arith in
    ap (λ m. code_from code a m) e ∙ words_behind code a n i is

-- a stretch, by the one with a word more
pub record IsShorter (code : ℕ → Option Instr) (a n : ℕ) : Type 0 where
  pub instruction : Instr
  pub there : code (a + 4 * n) ≡ Some instruction
  pub stretch : IsRunPrefix code a n
  pub stands : may_stand (reach_at code a n).base instruction ≡ true
  pub near : is_near (reach_of (code_from code a n ++ instruction ∷ [])) ≡ true

pub shorter : (code : ℕ → Option Instr) (a n : ℕ) → n ≢ 0 → IsRunPrefix code a (suc n)
    → IsShorter code a n
shorter code a n some h =
    let b = is_behind code a n h.coded in
    let long = b.coded in
    let less = front_less (code_from code a n) b.instruction
    (λ z. some (sym long ∙ z)) (subst IsFront b.words h.front) in
    record {
      instruction = b.instruction;
      there = b.there;
      stretch = record { some = some; coded = b.coded; front = less.front };
      stands = less.stands;
      near = less.near;
    }

-- the front of a stretch is one
pub stretch_front : (code : ℕ → Option Instr) (a m n : ℕ) → m ≢ 0 → m ≤ n → IsRunPrefix code a n
    → IsRunPrefix code a m
stretch_front code a m zero some le h = absurd (h.some refl)
stretch_front code a m (suc n) some le h = elim (near_or m n le) [
  | inl same ↦ subst (IsRunPrefix code a) (sym same) h
  | inr less ↦
      let low : n ≢ 0 = λ z. some (omega (arith, less, z)) in
      stretch_front code a m n some less (shorter code a n low h).stretch
]
  where
    near_or : (m n : ℕ) → m ≤ suc n → (m ≡ suc n) ⊎ (m ≤ n)
    near_or m n le = elim (cases_lt n m) [
      | inl above ↦ inl (omega (arith, above, le))
      | inr below ↦ inr below
    ]

-- code words lie low
low_word : (low : ℕ) (ws : List CodeWord) (a : ℕ) (i : Instr) → Ascends low ws
    → code_of ws a ≡ Some i → a + 4 < 2 ^ 32
low_word low [] a i up is = cc
low_word low (w ∷ ws) a i up is =
    go (low_word (w.address + 4) ws a i up.3) (w.address == a) refl is
  where
    go : (code_of ws a ≡ Some i → a + 4 < 2 ^ 32) → (b : Bool) → (w.address == a) ≡ b
        → cond b (Some w.instruction) (code_of ws a) ≡ Some i → a + 4 < 2 ^ 32
    go more true e is = let same = eqb-true w.address a e in let lt = up.2 in omega (arith, same, lt)
    go more false e is = more is

pub stretch_low : (ws : List CodeWord) (a n : ℕ) → Ascends 0 ws → IsRunPrefix (code_of ws) a n
    → a + 4 * n < 2 ^ 32
stretch_low ws a zero up h = absurd (h.some refl)
stretch_low ws a (suc n) up h =
    let b = is_behind (code_of ws) a n h.coded in
    let lt = low_word 0 ws (a + 4 * n) b.instruction up b.there in
    omega (arith, lt)
