-- Waits for one block, of several lanes: at most one of them has one.
use Rattle.std.proofs.Common.{◌≡◌, List, [], ◌∷◌, Option, Some, None}
use Rattle.home_directory.specs.declared.wait.Wait.{Wait}
use Rattle.lane_machine.specs.Waits.{first_in, AtMostOne}

pub some_none : (w : Wait) → Some w ≡ None → ⊥
some_none w e = cc

-- where none is there
pub one_of_none : (os : List (Option Wait)) → first_in os ≡ None → AtMostOne os
one_of_none [] e = tt
one_of_none (None ∷ os) e = one_of_none os e
one_of_none (Some w ∷ os) e = absurd (some_none w e)
