-- The first contents of addresses, one after another.
use Rattle.std.proofs.Common.{◌≡◌, ℕ, zero, suc, ◌+◌, ◌<◌, ◌++◌, [], ◌∷◌, length, refl, ap, ◌∙◌, arith}
use Rattle.std.specs.Prelude.{slice_index}
use Rattle.elf32_read.specs.Elf.{Elf}
use Rattle.exec_map.specs.Contents.{first_byte, first_bytes}

pub first_bytes-length : (e : Elf) (a n : ℕ) → length (first_bytes e a n) ≡ n
unfolding first_bytes
first_bytes-length e a zero = refl
first_bytes-length e a (suc n) = let rest = first_bytes-length e (a + 1) n in omega arith

pub first_bytes-each : (e : Elf) (a n k : ℕ) → k < n → slice_index (first_bytes e a n) k ≡ first_byte e (a + k)
unfolding first_bytes
first_bytes-each e a zero k lt = absurd (omega arith)
first_bytes-each e a (suc n) zero lt = let same : a ≡ a + 0 = omega arith in ap (first_byte e) same
first_bytes-each e a (suc n) (suc k) lt =
    let same : a + 1 + k ≡ a + suc k = omega arith in
    first_bytes-each e (a + 1) n k (omega arith) ∙ ap (first_byte e) same

pub first_bytes-more : (e : Elf) (a n : ℕ) → first_bytes e a (suc n) ≡ first_bytes e a n ++ first_byte e (a + n) ∷ []
unfolding first_bytes
first_bytes-more e a zero = let same : a ≡ a + 0 = omega arith in ap (λ b. first_byte e b ∷ []) same
first_bytes-more e a (suc n) =
    let same : a + 1 + n ≡ a + suc n = omega arith in
    ap (λ bs. first_byte e a ∷ bs) (first_bytes-more e (a + 1) n ∙ ap (λ b. first_bytes e (a + 1) n ++ first_byte e b ∷ []) same)

pub first_bytes-none : (e : Elf) (a : ℕ) → first_bytes e a 0 ≡ []
unfolding first_bytes
first_bytes-none e a = refl
