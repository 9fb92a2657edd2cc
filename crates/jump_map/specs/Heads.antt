-- Helps the code alone: where the words of each place begin.
use Rattle.std.specs.Prelude.{ℕ, ◌+◌, ◌==◌, ◌≤◌, if◌then◌else◌, List, [], ◌∷◌, Option, Some, None, unwrap_or, length}
use Rattle.std.specs.Option.{option_map}
use Rattle.templates.specs.rv32_program.Program.{Program}
use Rattle.templates.specs.rv32_program.declared.Class.TheVariants.{Unmapped}
use Rattle.templates.specs.declared.code.CodeWord.{CodeWord}
use Rattle.templates.specs.declared.plans.PlanEntry.{PlanEntry}
use Rattle.templates.specs.Code.{code_of}
use Rattle.templates.specs.Sequences.{batch_sequence}
use Rattle.jump_map.specs.declared.heads.PlaceStart.{PlaceStart}
use Rattle.jump_map.specs.HeadsValue.{HeadsValue}
use Rattle.jump_map.specs.Image.{entry_items, address_of_word, most_words}

-- a program of this code
abbrev pub program_with : List CodeWord → Program
program_with words =
    record { class = λ _. Unmapped; first = λ _. 0; code = code_of words; entry = 0 }

abbrev pub start : ℕ → ℕ → ℕ → PlaceStart
start address head single = record { address = address; head = head; single = single }

-- where the words of a place begin
abbrev pub start_of : List PlaceStart → ℕ → Option PlaceStart
start_of [] a = None
start_of (s ∷ ss) a = if s.address == a then Some s else start_of ss a

-- the number of the first word of a place, and that of the first of its single sequence
abbrev pub head_start : List PlaceStart → ℕ → Option ℕ
head_start starts a = option_map (λ s. s.head) (start_of starts a)

abbrev pub single_start : List PlaceStart → ℕ → Option ℕ
single_start starts a = option_map (λ s. s.single) (start_of starts a)

-- the addresses ascend, from this one on
abbrev pub Ascends : ℕ → List PlaceStart → Type 0
Ascends low [] = Unit {0}
Ascends low (s ∷ ss) =
    (low ≤ s.address) × (s.head ≤ most_words) × (s.single ≤ most_words)
    × Ascends (s.address + 1) ss

-- the address above the last place
abbrev pub end_from : ℕ → List PlaceStart → ℕ
end_from low [] = low
end_from low (s ∷ ss) = end_from (s.address + 1) ss

abbrev pub end_of : List PlaceStart → ℕ
end_of starts = end_from 0 starts

-- the starts of the entries' places, of which the first is word n
abbrev pub starts_from : Program → ℕ → List PlanEntry → List PlaceStart
starts_from program n [] = []
starts_from program n (e ∷ es) =
    start e.address n (n + length (batch_sequence program.code e))
    ∷ starts_from program (n + length (entry_items program e)) es

-- the number of the first word of a place; of an address that is none, the number of all words
abbrev pub head_number : HeadsValue → ℕ → ℕ
head_number heads a = unwrap_or (head_start heads.starts a) heads.total

abbrev pub head_address : HeadsValue → ℕ → ℕ
head_address heads a = address_of_word (head_number heads a)
