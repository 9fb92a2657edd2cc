-- The functions that an executable names
-- (System V ABI, "Object Files": Symbol Table, String Table, Special Sections).
use Rattle.std.specs.Prelude.{ℕ, ◌+◌, ◌*◌, ◌/◌, ◌%◌, Bool, not, ◌&&◌, ◌||◌, ◌==◌, nat_lt, nat_le, if◌then◌else◌, List, [], ◌∷◌, length, slice_index, Option, codes}
use Rattle.std.specs.List.{range_with_len, flat_map, find, list_all}
use Rattle.std.specs.Str.{bytes_eq}
use Rattle.elf32_read.specs.Elf.{Elf, Section}
use Rattle.elf32_read.specs.Fields.{word_at}
use Rattle.elf32_read.specs.Reading.{name_at}

-- a function: its name, the address of its first byte, and how many bytes it has
pub record Symbol : Type 0 where
  pub name : List ℕ
  pub value : ℕ
  pub size : ℕ

-- 1. The table

-- the symbol of a number in a table, by its st_name, st_value and st_size: an Elf32_Sym has
-- st_name, st_value and st_size, of four bytes each, then st_info, st_other and st_shndx
abbrev pub symbol_in : (table names : List ℕ) (k : ℕ) → Symbol
symbol_in table names k = record {
  name = name_at names (word_at table (16 * k));
  value = word_at table (16 * k + 4);
  size = word_at table (16 * k + 8);
}

-- its type, in st_info, is STT_FUNC
abbrev pub is_function : (table : List ℕ) (k : ℕ) → Bool
is_function table k = slice_index table (16 * k + 12) % 16 == 2

-- it has a name: one that ends within the names
abbrev pub is_named : Symbol → Bool
is_named s = nat_lt 0 (length s.name)

-- the symbol of a number, where it is a function with a name
abbrev pub function_in : (table names : List ℕ) (k : ℕ) → List Symbol
function_in table names k =
    if is_function table k && is_named (symbol_in table names k)
    then symbol_in table names k ∷ [] else []

-- the functions of a table, in its order
abbrev pub functions_in : (table names : List ℕ) → List Symbol
functions_in table names =
    flat_map (function_in table names) (range_with_len 0 (length table / 16))

-- the bytes of the first section of a name, or none
abbrev pub bytes_named : (name : List ℕ) → List Section → List ℕ
bytes_named name [] = []
bytes_named name (s ∷ ss) = if bytes_eq s.name name then s.bytes else bytes_named name ss

-- the functions that an executable names, by its sections .symtab and .strtab (Special Sections)
abbrev pub functions_of : Elf → List Symbol
functions_of elf =
    functions_in (bytes_named (codes ".symtab") elf.sections)
    (bytes_named (codes ".strtab") elf.sections)

-- 2. The function at an address

-- the byte at the address is one of the function's; one of no bytes has none
abbrev pub covers : (address : ℕ) → Symbol → Bool
covers address s = nat_le s.value address && nat_lt address (s.value + s.size)

-- of these functions none that has the byte begins later
abbrev pub begins_last : (symbols : List Symbol) (address : ℕ) → Symbol → Bool
begins_last symbols address s =
    list_all (λ o. not (covers address o) || nat_le o.value s.value) symbols

-- of the functions that have the byte the one that begins last; of several the first of the table
abbrev pub symbol_at : (symbols : List Symbol) (address : ℕ) → Option Symbol
symbol_at symbols address =
    find (λ s. covers address s && begins_last symbols address s) symbols
