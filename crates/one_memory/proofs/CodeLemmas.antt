-- Decoding the code words in order.
use Rattle.std.proofs.Common.{◌≡◌, ℕ, zero, suc, ◌+◌, ◌-◌, ◌%◌, ◌<◌, ◌≤◌, Bool, true, ◌&&◌, eqb, List, [], ◌∷◌, ◌++◌, length, Option, Some, None, refl, sym, ap, ◌∙◌, subst, arith, inl, inr, IfSome}
use Rattle.std.specs.Prelude.{slice_get}
use Rattle.std.proofs.lemmas.Bool.{cases_lt}
use Rattle.std.proofs.lemmas.Bool.Decides.{eqb_tells, nat_tests}
use Rattle.std.proofs.lemmas.List.{length-append}
use Rattle.std.proofs.lemmas.Option.{slice_get_past}
use Rattle.elf32_read.specs.Elf.{Elf}
use Rattle.exec_map.specs.Contents.{IsNextCode}
use Rattle.micro_op.specs.Micro.{index_address}
use Rattle.micro_op.specs.declared.micro_op.MicroOp.{MicroOp}
use Rattle.one_memory.specs.Machine.{AreOps, Serves}

pub get_push_before : {X : Type 0} (xs : List X) (y : X) (k : ℕ) → k < length xs → slice_get (xs ++ y ∷ []) k ≡ slice_get xs k
get_push_before [] y k h = absurd (omega arith)
get_push_before (x ∷ xs) y zero h = refl
get_push_before (x ∷ xs) y (suc k) h = get_push_before xs y k (omega arith)

pub get_push_last : {X : Type 0} (xs : List X) (y : X) → slice_get (xs ++ y ∷ []) (length xs) ≡ Some y
get_push_last [] y = refl
get_push_last (x ∷ xs) y = get_push_last xs y

-- what holds of each place of a list holds of one more
pub each_push : {X : Type 0} (P : ℕ → X → Type 0) (xs : List X) (y : X) → ((k : ℕ) (x : X) → slice_get xs k ≡ Some x → P k x) → P (length xs) y → (k : ℕ) (x : X) → slice_get (xs ++ y ∷ []) k ≡ Some x → P k x
each_push P xs y each last k x is = elim (cases_lt k (length xs)) [
  | inl below ↦ each k x (sym (get_push_before xs y k below) ∙ is)
  | inr above ↦ elim (eqb_tells k (length xs)) [
    | inl e ↦
        let same : Some y ≡ Some x = sym (get_push_last xs y) ∙ (let at : length xs ≡ k = sym e.1 in ap (slice_get (xs ++ y ∷ [])) at) ∙ is in
        let value : y ≡ x = cc in
        subst (λ j. P j x) (sym e.1) (subst (P (length xs)) value last)
    | inr e ↦
        let ne = e.1 in
        let past = slice_get_past (xs ++ y ∷ []) k (omega (arith, above, ne, length-append xs (y ∷ []))) in
        absurd (cc)
  ]
]

pub ops_push : (e : Elf) (first : ℕ) (ops : List MicroOp) (op : MicroOp) (end : ℕ) → AreOps e first ops → index_address 0 (first + length ops) ≡ end → Serves e end op → AreOps e first (ops ++ op ∷ [])
ops_push e first ops op end are at serves =
    each_push (λ k x. Serves e (index_address 0 (first + k)) x) ops op are (subst (λ a. Serves e a op) (sym at) serves)

-- a word that code begins or goes on with
pub record IsWord (from a : ℕ) : Type 0 where
  pub aligned : a % 4 ≡ 0
  pub low : a + 4 ≤ 2147418112
  pub at_least : from ≤ a

aligned_word : (n : ℕ) (b : Bool) → (eqb n 0 && b) ≡ true → n ≡ 0
aligned_word n b h = grind (arith, nat_tests)

pub next_word : (e : Elf) (from : ℕ) (r : Option ℕ) → IfSome r (λ a. IsNextCode e from a) → IfSome r (λ a. a + 4 ≤ 2147418112) → IfSome r (λ a. IsWord from a)
next_word e from None next low = tt
next_word e from (Some a) next low = record { aligned = aligned_word (a % 4) _ next.code_word; low = low; at_least = next.at_least }

-- the bytes that are left
abbrev pub bytes_left : Option ℕ → ℕ
bytes_left None = 0
bytes_left (Some a) = 2147418112 - a

pub from_start : (from : ℕ) (r : Option ℕ) → IfSome r (λ a. IsWord from a) → IfSome r (λ a. IsWord 0 a)
from_start from None word = tt
from_start from (Some a) word = record { aligned = word.aligned; low = word.low; at_least = omega arith }
