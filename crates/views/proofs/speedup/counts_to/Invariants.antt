use Rattle.std.proofs.Common.{◌≡◌, ◌++◌, ◌∷◌, [], drop}
use Rattle.std.specs.Prelude.{filter, nat_lt}
use Rattle.views.proofs.speedup.counts_to.Given as goal

-- the numbers so far, and those that are to come
abbrev pub invariant-loop-number : goal.invariant-loop-number
invariant-loop-number l =
    l.counts.items ++ filter (λ n. nat_lt n l.most) (drop l.number-index (1 ∷ 2 ∷ 4 ∷ 8 ∷ []))
    ≡ filter (λ n. nat_lt n l.most) (1 ∷ 2 ∷ 4 ∷ 8 ∷ [])
