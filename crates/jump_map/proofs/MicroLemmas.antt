-- The micro-ops of an image while they are made.
use Rattle.std.proofs.Common.{◌≡◌, ℕ, zero, suc, ◌⊎◌, List, [], ◌∷◌, ◌++◌, length, Some, ◌+◌, refl, sym, ap, ◌∙◌, subst, inl, inr, arith}
use Rattle.std.specs.Prelude.{slice_get}
use Rattle.micro_op.specs.declared.micro_op.MicroOp.{MicroOp}
use Rattle.jump_map.specs.Image.{Cell, address_of_word, read_cell}
use Rattle.jump_map.specs.Micro.{IsMicroWord}
use Rattle.jump_map.specs.Decoding.{AreMicros}
use Rattle.jump_map.specs.Strides.{IsStride}
use Rattle.jump_map.specs.declared.strides.StrideKind.{StrideKind}

-- an element of a list with one more is an old one, or the last
at_end : {X : Type 0} (xs : List X) (m x : X) (j : ℕ) → slice_get (xs ++ m ∷ []) j ≡ Some x
    → (slice_get xs j ≡ Some x) ⊎ ((j ≡ length xs) × (m ≡ x))
at_end [] m x zero h = inr (refl, cc)
at_end [] m x (suc j) h = cc
at_end (y ∷ ys) m x zero h = inl h
at_end (y ∷ ys) m x (suc j) h = elim (at_end ys m x j h) [
  | inl old ↦ inl old
  | inr new ↦ (let e = new.0 in inr (omega (arith, e), new.1))
]

pub micros_more : (image : List Cell) (old new : List MicroOp) (m : MicroOp) (k : ℕ) → new ≡ old ++ m ∷ []
    → length old ≡ k → AreMicros image old
    → ((c : Cell) → slice_get image k ≡ Some c → IsMicroWord (address_of_word k) (read_cell c).what m)
    → AreMicros image new
micros_more image old new m k is long h own = record {
  each = λ j c x at there. elim (at_end old m x j (ap (λ xs. slice_get xs j) (sym is) ∙ there)) [
    | inl before ↦ h.each j c x at before
    | inr last ↦ (let same : k ≡ j = sym long ∙ sym last.0 in
        subst (λ y. IsMicroWord (address_of_word j) (read_cell c).what y) last.1
        (subst (λ n. IsMicroWord (address_of_word n) (read_cell c).what m) same
        (own c (ap (slice_get image) same ∙ at))))
  ];
}

-- a stride more
pub strides_more : (micros : List MicroOp) (old new : List StrideKind) (is : StrideKind) (k : ℕ) → new ≡ old ++ is ∷ []
    → length old ≡ k → ((j : ℕ) (x : StrideKind) → slice_get old j ≡ Some x → IsStride micros j x) → IsStride micros k is
    → (j : ℕ) (x : StrideKind) → slice_get new j ≡ Some x → IsStride micros j x
strides_more micros old new is k same long each own = λ j x there.
    elim (at_end old is x j (ap (λ xs. slice_get xs j) (sym same) ∙ there)) [
      | inl before ↦ each j x before
      | inr last ↦ subst (λ y. IsStride micros j y) last.1
          (subst (λ n. IsStride micros n is) (sym long ∙ sym last.0) own)
    ]
