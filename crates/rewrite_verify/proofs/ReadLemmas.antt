-- The bytes of one entry, read.
use Rattle.std.proofs.Common.{◌≡◌, ◌∙◌, ℕ, ◌+◌, ◌%◌, ◌<◌, if◌then◌else◌, List, [], ◌∷◌, ◌++◌, length, get_or, refl, sym, ap, arith}
use Rattle.std.specs.Prelude.{nat_le, slice_range}
use Rattle.std.proofs.lemmas.Bool.Decides.{nat_tests}
use Rattle.templates.specs.declared.plans.PlanEntry.{PlanEntry}
use Rattle.templates.specs.Numbers.{number_of}
use Rattle.rewriter.specs.RewrittenFile.{template_byte, scratch_bytes, entry_bytes}

-- eight bytes by their parts
eight : (bs : List ℕ) → length bs ≡ 8
    → bs ≡ get_or bs 0 0 ∷ (slice_range bs 1 4 ++ (get_or bs 4 0 ∷ slice_range bs 5 8))
eight [] l = absurd (omega (arith, l))
eight (a ∷ []) l = absurd (omega (arith, l))
eight (a ∷ b ∷ []) l = absurd (omega (arith, l))
eight (a ∷ b ∷ c ∷ []) l = absurd (omega (arith, l))
eight (a ∷ b ∷ c ∷ d ∷ []) l = absurd (omega (arith, l))
eight (a ∷ b ∷ c ∷ d ∷ e ∷ []) l = absurd (omega (arith, l))
eight (a ∷ b ∷ c ∷ d ∷ e ∷ f ∷ []) l = absurd (omega (arith, l))
eight (a ∷ b ∷ c ∷ d ∷ e ∷ f ∷ g ∷ []) l = absurd (omega (arith, l))
eight (a ∷ b ∷ c ∷ d ∷ e ∷ f ∷ g ∷ h ∷ []) l = refl
eight (a ∷ b ∷ c ∷ d ∷ e ∷ f ∷ g ∷ h ∷ i ∷ is) l = absurd (omega (arith, l))

-- a byte by its mark and the rest
pub marked : (byte n : ℕ) → byte < 256 → n ≡ byte % 128
    → n + (if nat_le 128 byte then 0x80 else 0) ≡ byte
marked byte n fits is = grind (arith, nat_tests)

-- these are the bytes of an entry of these parts
pub entry_of_parts : (bs : List ℕ) (e : PlanEntry) → length bs ≡ 8 → get_or bs 0 0 < 256
    → number_of e.template ≡ get_or bs 0 0 % 128 → e.polls ≡ nat_le 128 (get_or bs 0 0)
    → scratch_bytes e.single ≡ slice_range bs 1 4 → e.run ≡ get_or bs 4 0
    → scratch_bytes e.batch ≡ slice_range bs 5 8 → entry_bytes e ≡ bs
entry_of_parts bs e long fits template polls single run batch =
    let first : template_byte e ≡ get_or bs 0 0 =
    ap (λ b. number_of e.template + (if b then 0x80 else 0)) polls
    ∙ marked (get_or bs 0 0) (number_of e.template) fits template in
    (λ i. first i ∷ (single i ++ (run i ∷ batch i))) ∙ sym (eight bs long)
