-- What the outside did in a call.
use Rattle.std.specs.Prelude.{◌≡◌, ℕ, ◌+◌, ◌-◌, ◌^◌, ◌≤◌, min, List, ◌++◌, take, Option}
use Rattle.std.specs.Option.{option_map}

-- one more, or the same at the end of a u64
abbrev pub next_count : ℕ → ℕ
next_count n = min (n + 1) (2 ^ 64 - 1)

-- a count rose, or it stands at the end of its 64 bits
abbrev pub Rose : ℕ → ℕ → Type 0
Rose before now = next_count before ≤ now

-- the whole piece was taken; what was hidden still is
abbrev pub Appends : Option (List ℕ) → Option (List ℕ) → List ℕ → Type 0
Appends before now piece = now ≡ option_map (λ taken. taken ++ piece) before

-- a prefix of the piece was taken
abbrev pub AppendsPrefix : Option (List ℕ) → Option (List ℕ) → List ℕ → Type 0
AppendsPrefix before now piece = (k : ℕ) × Appends before now (take k piece)
