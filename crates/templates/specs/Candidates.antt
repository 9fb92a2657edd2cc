-- Helps the code alone: the places of a program as they are gathered from its code words.
use Rattle.std.specs.Prelude.{ℕ, ◌+◌, ◌++◌, List, [], ◌∷◌}
use Rattle.std.specs.Prelude.{option_to_list}
use Rattle.rv32_program.specs.Targets.{aligned_target}
use Rattle.templates.specs.declared.code.CodeWord.{CodeWord}

-- the place of a code word, the one after it, and the one where it jumps
abbrev pub places_of : CodeWord → List ℕ
places_of w = w.address ∷ (w.address + 4) ∷ option_to_list (aligned_target w.instruction w.address)

-- the places of code words, some of them more than once
abbrev pub candidates : List CodeWord → List ℕ
candidates [] = []
candidates (w ∷ ws) = places_of w ++ candidates ws
