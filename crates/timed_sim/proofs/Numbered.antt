-- What is changed at one number, and numbers below one.
use Rattle.std.proofs.Common.{◌≡◌, ◌≢◌, ◌⊎◌, ℕ, zero, suc, ◌<◌, cond, refl, ap, inl, inr, arith}
use Rattle.std.proofs.lemmas.Bool.Decides.{eqb_tells}
use Rattle.block_layout.specs.Update.{changed}

pub below_or_last : (i k : ℕ) → i < suc k → (i < k) ⊎ (i ≡ k)
below_or_last zero zero low = inr refl
below_or_last zero (suc k) low = inl (omega arith)
below_or_last (suc i) zero low = absurd (omega (arith, low))
below_or_last (suc i) (suc k) low = elim (below_or_last i k (omega (arith, low))) [
  | inl h ↦ inl (omega (arith, h))
  | inr h ↦ inr (ap suc h)
]

pub hit : {A : Type 0} (f : ℕ → A) (k : ℕ) (x : A) → changed f k x k ≡ x
hit f k x = elim (eqb_tells k k) [
  | inl t ↦ ap (λ b. cond b x (f k)) t.0
  | inr t ↦ absurd (t.1 refl)
]

pub other : {A : Type 0} (f : ℕ → A) (k i : ℕ) (x : A) → i ≢ k → changed f k x i ≡ f i
other f k i x apart = elim (eqb_tells i k) [
  | inl t ↦ absurd (apart t.1)
  | inr t ↦ ap (λ b. cond b x (f i)) t.0
]
