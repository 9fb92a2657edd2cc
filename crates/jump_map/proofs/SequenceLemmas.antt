-- Micro-ops that stand one after another.
use Rattle.std.proofs.Common.{◌≡◌, ℕ, List, [], ◌∷◌, subst}
use Rattle.micro_op.specs.declared.micro_op.MicroOp.{MicroOp}
use Rattle.jump_map.specs.Strides.{StandFrom}

-- the same micro-ops
pub stand_one : (micros : List MicroOp) (k : ℕ) (m m' : MicroOp) → m ≡ m' → StandFrom micros k (m ∷ [])
    → StandFrom micros k (m' ∷ [])
stand_one micros k m m' is stand = subst (λ (x : MicroOp). StandFrom micros k (x ∷ [])) is stand

pub stand_two : (micros : List MicroOp) (k : ℕ) (m m' n n' : MicroOp) → m ≡ m' → n ≡ n'
    → StandFrom micros k (m ∷ n ∷ []) → StandFrom micros k (m' ∷ n' ∷ [])
stand_two micros k m m' n n' is also stand =
    subst (λ (x : MicroOp). StandFrom micros k (m' ∷ x ∷ [])) also
    (subst (λ (x : MicroOp). StandFrom micros k (x ∷ n ∷ [])) is stand)
