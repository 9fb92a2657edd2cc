-- Code words one behind another.
use Rattle.std.proofs.Common.{◌≡◌, ℕ, zero, suc, ◌+◌, ◌*◌, ◌^◌, ◌<◌, ◌≤◌, List, ◌++◌, length, Option, Some, None, refl, sym, ap, ◌∙◌, subst, arith, append_assoc, append-nil, length-append}
use Rattle.std.specs.Prelude.{IsTrue, option_to_list}
use Rattle.rv32_decode.specs.declared.Instr.{Instr}
use Rattle.templates.specs.declared.code.CodeWord.{CodeWord}
use Rattle.templates.specs.Code.{Ascends, code_of}
use Rattle.templates.specs.Runs.{code_from, has_access}
use Rattle.templates.proofs.CodeLemmas.{code_below}

-- one code word more
pub from_more : (code : ℕ → Option Instr) (a n : ℕ) → code_from code a (suc n) ≡ code_from code a n ++ option_to_list (code (a + 4 * n))
from_more code a zero =
    let same : a ≡ a + 4 * zero = omega arith in
    append-nil (option_to_list (code a)) ∙ ap (λ b. option_to_list (code b)) same
from_more code a (suc n) =
    let same : a + 4 + 4 * n ≡ a + 4 * suc n = omega arith in
    ap (λ xs. option_to_list (code a) ++ xs) (from_more code (a + 4) n)
    ∙ sym (append_assoc (option_to_list (code a)) (code_from code (a + 4) n) (option_to_list (code (a + 4 + 4 * n))))
    ∙ ap (λ b. (option_to_list (code a) ++ code_from code (a + 4) n) ++ option_to_list (code b)) same

pub from_step : (code : ℕ → Option Instr) (a n m : ℕ) → m ≡ n + 1
    → code_from code a m ≡ code_from code a n ++ option_to_list (code (a + 4 * n))
from_step code a n m is = let same : m ≡ suc n = omega (arith, is) in ap (λ k. code_from code a k) same ∙ from_more code a n

one_of : (o : Option Instr) → length (option_to_list o) ≤ 1
one_of None = omega arith
one_of (Some i) = omega arith

pub from_short : (code : ℕ → Option Instr) (a n : ℕ) → length (code_from code a n) ≤ n
from_short code a zero = omega arith
from_short code a (suc n) =
    let more = from_short code (a + 4) n in
    let one = one_of (code a) in
    let both = length-append (option_to_list (code a)) (code_from code (a + 4) n) in
    omega (arith, more, one, both)

some_one : (o : Option Instr) → length (option_to_list o) ≡ 1 → (i : Instr) × (o ≡ Some i)
some_one None h = absurd (omega (arith, h))
some_one (Some i) h = (i, refl)

-- where none is missing, each is there
pub all_there : (code : ℕ → Option Instr) (a n k : ℕ) → length (code_from code a n) ≡ n → k < n
    → (i : Instr) × (code (a + 4 * k) ≡ Some i)
all_there code a zero k coded lt = absurd (omega arith)
all_there code a (suc n) zero coded lt =
    let more = from_short code (a + 4) n in
    let one = one_of (code a) in
    let both = length-append (option_to_list (code a)) (code_from code (a + 4) n) in
    let first = some_one (code a) (omega (arith, more, one, both, coded)) in
    let same : a + 4 * zero ≡ a = omega arith in
    (first.0, ap code same ∙ first.1)
all_there code a (suc n) (suc k) coded lt =
    let more = from_short code (a + 4) n in
    let one = one_of (code a) in
    let both = length-append (option_to_list (code a)) (code_from code (a + 4) n) in
    let there = all_there code (a + 4) n k (omega (arith, more, one, both, coded)) (omega (arith, lt)) in
    let same : a + 4 * suc k ≡ a + 4 + 4 * k = omega arith in
    (there.0, ap code same ∙ there.1)

pub from_more_length : (code : ℕ → Option Instr) (a n m : ℕ) → m ≡ n + 1
    → length (code_from code a m) ≡ length (code_from code a n) + length (option_to_list (code (a + 4 * n)))
from_more_length code a n m is =
    ap (λ xs. length xs) (from_step code a n m is) ∙ length-append (code_from code a n) (option_to_list (code (a + 4 * n)))

-- they end below the end of the addresses
pub ends_below : (ws : List CodeWord) (a n : ℕ) → Ascends 0 ws → length (code_from (code_of ws) a n) ≡ n → a < 2 ^ 32
    → a + 4 * n < 2 ^ 32
ends_below ws a zero up coded low = omega (arith, low)
ends_below ws a (suc n) up coded low =
    let last = all_there (code_of ws) a (suc n) n coded (omega arith) in
    let lt = code_below 0 ws (a + 4 * n) last.0 up last.1 in
    omega (arith, lt)

-- nor is one missing among the first ones
pub coded_front : (code : ℕ → Option Instr) (a n k : ℕ) → length (code_from code a n) ≡ n → k ≤ n
    → length (code_from code a k) ≡ k
coded_front code a n zero coded le = omega arith
coded_front code a zero (suc k) coded le = absurd (omega (arith, le))
coded_front code a (suc n) (suc k) coded le =
    let more = from_short code (a + 4) n in
    let one = one_of (code a) in
    let both = length-append (option_to_list (code a)) (code_from code (a + 4) n) in
    let front = coded_front code (a + 4) n k (omega (arith, more, one, both, coded)) (omega (arith, le)) in
    let few = length-append (option_to_list (code a)) (code_from code (a + 4) k) in
    omega (arith, more, one, both, coded, front, few)

-- and begin alike, however many are taken
pub begins_still : (code : ℕ → Option Instr) (a n k : ℕ) → length (code_from code a n) ≡ n → k < n
    → IsTrue (has_access (code_from code a n) 0) → IsTrue (has_access (code_from code a (suc k)) 0)
begins_still code a zero k coded lt begins = absurd (omega arith)
begins_still code a (suc n) k coded lt begins =
    let first = all_there code a (suc n) 0 coded (omega arith) in
    let same : a + 4 * 0 ≡ a = omega arith in
    let there = ap code (sym same) ∙ first.1 in
    subst (λ o. IsTrue (has_access (option_to_list o ++ code_from code (a + 4) k) 0)) (sym there)
    (subst (λ o. IsTrue (has_access (option_to_list o ++ code_from code (a + 4) n) 0)) there begins)
