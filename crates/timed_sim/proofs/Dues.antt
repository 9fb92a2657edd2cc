-- Events that are due, and the one that begins first.
use Rattle.std.proofs.Common.{◌≡◌, ◌⊎◌, ℕ, zero, suc, ◌<◌, Bool, true, false, cond, Option, Some, None, refl, ap, ◌∙◌, inl, inr, arith}
use Rattle.std.specs.Prelude.{nat_lt}
use Rattle.timed_sim.specs.Clock.{Due, earlier, earliest}
use Rattle.timed_sim.proofs.Numbered.{below_or_last}

one_of : (b : Bool) (x y d : Due) → cond b (Some y) (Some x) ≡ Some d
    → (Some x ≡ Some d) ⊎ (Some y ≡ Some d)
one_of true x y d e = inr e
one_of false x y d e = inl e

earlier_one : (x y : Option Due) (d : Due) → earlier x y ≡ Some d → (x ≡ Some d) ⊎ (y ≡ Some d)
earlier_one None y d e = inr e
earlier_one (Some x) None d e = inl e
earlier_one (Some x) (Some y) d e = one_of (nat_lt y.time x.time) x y d e

not_none : (b : Bool) (x y : Due) → cond b (Some y) (Some x) ≡ None → ⊥
not_none true x y e = absurd (cc)
not_none false x y e = absurd (cc)

earlier_none : (x y : Option Due) → earlier x y ≡ None → (x ≡ None) × (y ≡ None)
earlier_none None y e = (refl, e)
earlier_none (Some x) None e = absurd (cc)
earlier_none (Some x) (Some y) e = absurd (not_none (nat_lt y.time x.time) x y e)

-- the earliest below n is one of those below n
pub earliest_one : (due : ℕ → Option Due) (n : ℕ) (d : Due) → earliest due n ≡ Some d
    → (i : ℕ) × (i < n) × (due i ≡ Some d)
earliest_one due zero d e = absurd (cc)
earliest_one due (suc k) d e = elim (earlier_one (earliest due k) (due k) d e) [
  | inl h ↦ (let before = earliest_one due k d h in (before.0, omega (arith, before.1), before.2))
  | inr h ↦ (k, omega arith, h)
]

-- where there is none, none of those below n is due
pub earliest_none : (due : ℕ → Option Due) (n i : ℕ) → earliest due n ≡ None → i < n → due i ≡ None
earliest_none due zero i e low = absurd (omega (arith, low))
earliest_none due (suc k) i e low =
    let both = earlier_none (earliest due k) (due k) e in
    elim (below_or_last i k low) [
      | inl h ↦ earliest_none due k i both.0 h
      | inr h ↦ ap due h ∙ both.1
    ]

pub earliest_same : (f g : ℕ → Option Due) (n : ℕ) → ((i : ℕ) → i < n → f i ≡ g i)
    → earliest f n ≡ earliest g n
earliest_same f g zero same = refl
earliest_same f g (suc k) same =
    let before = earliest_same f g k (λ i low. same i (omega (arith, low))) in
    let last = same k (omega arith) in
    λ t. earlier (before t) (last t)
