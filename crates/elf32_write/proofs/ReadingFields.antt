-- A field is read where it was put.
use Rattle.std.proofs.Common.{◌≡◌, ℕ, zero, suc, ◌+◌, ◌-◌, ◌*◌, ◌/◌, ◌%◌, ◌^◌, ◌<◌, List, [], ◌∷◌, ◌++◌, length, length-append, take, drop, get_or, refl, ap, ◌∙◌, append_assoc, arith}
use Rattle.std.specs.Prelude.{slice_index, slice_range}
use Rattle.std.specs.List.{flat_map}
use Rattle.std.proofs.Math.Seq.{drop-append_seam, take-append_seam, get_or-append-add}
use Rattle.elf32_read.specs.declared.headers.FileHeader.{FileHeader}
use Rattle.elf32_read.specs.Fields as fields
use Rattle.elf32_read.specs.Fields.{half_at, word_at}
use Rattle.elf32_write.specs.declared.table.Table.{Table}
use Rattle.elf32_write.specs.Layout.{half, word, identification, file_header}

byte_behind : (front xs : List ℕ) (k n : ℕ) → n ≡ length front + k → slice_index (front ++ xs) n ≡ slice_index xs k
byte_behind front xs k n is = ap (slice_index (front ++ xs)) is ∙ get_or-append-add front xs k 0

half_behind : (front xs : List ℕ) (k n : ℕ) → n ≡ length front + k → half_at (front ++ xs) n ≡ half_at xs k
unfolding half_at
half_behind front xs k n is =
    let low = byte_behind front xs k n is in
    let high = byte_behind front xs (k + 1) (n + 1) (omega arith) in
    cc

-- a word behind a front
pub word_behind : (front xs : List ℕ) (k n : ℕ) → n ≡ length front + k → word_at (front ++ xs) n ≡ word_at xs k
unfolding word_at
word_behind front xs k n is =
    let low = half_behind front xs k n is in
    let high = half_behind front xs (k + 2) (n + 2) (omega arith) in
    cc

half_rebuilt : (n : ℕ) → n < 2 ^ 16 → n % 256 + 2 ^ 8 * (n / 2 ^ 8 % 256) ≡ n
half_rebuilt n small = omega arith

word_rebuilt : (n : ℕ) → n < 2 ^ 32
    → (n % 256 + 2 ^ 8 * (n / 2 ^ 8 % 256)) + 2 ^ 16 * (n / 2 ^ 16 % 256 + 2 ^ 8 * (n / 2 ^ 24 % 256)) ≡ n
word_rebuilt n small = omega arith

word_first : (n : ℕ) (rest : List ℕ) → n < 2 ^ 32 → word_at (word n ++ rest) 0 ≡ n
unfolding word_at half_at word
word_first n rest small = word_rebuilt n small

word-length : (n : ℕ) → length (word n) ≡ 4
unfolding word
word-length n = refl

-- the word of a number in a list of words
pub word_of_list : (ws rest : List ℕ) (k : ℕ) → k < length ws → get_or ws k 0 < 2 ^ 32
    → word_at (flat_map word ws ++ rest) (4 * k) ≡ get_or ws k 0
word_of_list [] rest k low small = absurd (omega arith)
word_of_list (w ∷ ws) rest zero low small =
    ap (λ xs. word_at xs 0) (append_assoc (word w) (flat_map word ws) rest) ∙ word_first w (flat_map word ws ++ rest) small
word_of_list (w ∷ ws) rest (suc k) low small =
    ap (λ xs. word_at xs (4 * suc k)) (append_assoc (word w) (flat_map word ws) rest)
    ∙ word_behind (word w) (flat_map word ws ++ rest) (4 * k) (4 * suc k) (omega (arith, word-length w))
    ∙ word_of_list ws rest k (omega arith) small

-- the same, behind a front
pub word_put : (front ws rest : List ℕ) (k n : ℕ) → n ≡ length front + 4 * k → k < length ws → get_or ws k 0 < 2 ^ 32
    → word_at (front ++ (flat_map word ws ++ rest)) n ≡ get_or ws k 0
word_put front ws rest k n is low small =
    word_behind front (flat_map word ws ++ rest) (4 * k) n is ∙ word_of_list ws rest k low small

pub words-length : (ws : List ℕ) → length (flat_map word ws) ≡ 4 * length ws
words-length [] = refl
words-length (w ∷ ws) = omega (arith, words-length ws, word-length w, length-append (word w) (flat_map word ws))

-- the ELF header
pub record Small (entry flags count : ℕ) (t : Table) : Type 0 where
  pub entry_fits : entry < 2 ^ 32
  pub flags_fit : flags < 2 ^ 32
  pub count_fits : count < 2 ^ 16
  pub offset_fits : t.offset < 2 ^ 32
  pub size_fits : t.entry_size < 2 ^ 16
  pub sections_fit : t.count < 2 ^ 16
  pub names_fit : t.names < 2 ^ 16

unfoldable pub header_made : ℕ → ℕ → ℕ → Table → FileHeader
header_made entry flags count t = record {
  e_type = 2;
  e_machine = 243;
  e_entry = entry;
  e_phoff = 52;
  e_shoff = t.offset;
  e_flags = flags;
  e_phentsize = 32;
  e_phnum = count;
  e_shentsize = t.entry_size;
  e_shnum = t.count;
  e_shstrndx = t.names;
}

pub header_read : (entry flags count : ℕ) (t : Table) (rest : List ℕ) → Small entry flags count t
    → fields.file_header (file_header entry flags count t ++ rest) ≡ header_made entry flags count t
unfolding fields.file_header word_at half_at file_header identification half word header_made
header_read entry flags count t rest s = λ i. record {
  e_type = 2;
  e_machine = 243;
  e_entry = word_rebuilt entry s.entry_fits i;
  e_phoff = 52;
  e_shoff = word_rebuilt t.offset s.offset_fits i;
  e_flags = word_rebuilt flags s.flags_fit i;
  e_phentsize = 32;
  e_phnum = half_rebuilt count s.count_fits i;
  e_shentsize = half_rebuilt t.entry_size s.size_fits i;
  e_shnum = half_rebuilt t.count s.sections_fit i;
  e_shstrndx = half_rebuilt t.names s.names_fit i;
}

pub file_header-length : (entry flags count : ℕ) (t : Table) → length (file_header entry flags count t) ≡ 52
unfolding file_header identification half word
file_header-length entry flags count t = refl

-- the first seven bytes
pub header_begins : (entry flags count : ℕ) (t : Table) (rest : List ℕ)
    → take 7 (file_header entry flags count t ++ rest) ≡ 0x7f ∷ 0x45 ∷ 0x4c ∷ 0x46 ∷ 1 ∷ 1 ∷ 1 ∷ []
unfolding file_header identification
header_begins entry flags count t rest = refl

-- bytes are read where they were put
pub slice_put : (front bytes rest : List ℕ) (n m : ℕ) → n ≡ length front → m ≡ n + length bytes
    → slice_range (front ++ (bytes ++ rest)) n m ≡ bytes
slice_put front bytes rest n m is end =
    let size : m - n ≡ length bytes = omega arith in
    ap (λ k. take k (drop n (front ++ (bytes ++ rest)))) size
    ∙ ap (λ k. take (length bytes) (drop k (front ++ (bytes ++ rest)))) is
    ∙ ap (take (length bytes)) (drop-append_seam front (bytes ++ rest))
    ∙ take-append_seam bytes rest
