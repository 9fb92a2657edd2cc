-- Sections by their names and types.
use Rattle.std.specs.Prelude.{◌≡◌, ℕ, List, Some, slice_get}
use Rattle.elf32_read.specs.Elf.{Section}

-- the section has the name and the type of this one
abbrev pub IsNamedAs : Section → Section → Type 0
IsNamedAs wanted s = (s.name ≡ wanted.name) × (s.kind ≡ wanted.kind)

-- exactly one of the sections has the name and the type of this one, and it has its bytes
pub record HasOnly (sections : List Section) (wanted : Section) : Type 0 where
  pub number : ℕ
  pub section : Section
  pub there : slice_get sections number ≡ Some section
  pub named : IsNamedAs wanted section
  pub bytes : section.bytes ≡ wanted.bytes
  pub alone : (k : ℕ) (s : Section) → slice_get sections k ≡ Some s → IsNamedAs wanted s
      → k ≡ number
