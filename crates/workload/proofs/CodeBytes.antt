-- The bytes of code, and how many there are: so few that the executable is in the limits.
use Rattle.std.proofs.Common.{◌≡◌, ℕ, ◌+◌, ◌*◌, ◌<◌, ◌≤◌, ◌^◌, true, List, [], ◌∷◌, ◌++◌, length, length-append, get_or, map, take, refl, sym, ap, ◌∙◌, arith}
use Rattle.std.specs.Int.{bytes_low_first}
use Rattle.std.proofs.lemmas.Bool.{and_from, le-leb}
use Rattle.std.proofs.lemmas.List.{append-nil, take_more}
use Rattle.std.proofs.lemmas.List.Concat.{flat_map-append}
use Rattle.rv32_decode.specs.Words.{word_of}
use Rattle.rv32_decode.specs.declared.Instr.{Instr}
use Rattle.elf32_read.specs.Elf.{is_in_limits}
use Rattle.elf32_read.specs.Segments.{segment_of}
use Rattle.elf32_read.specs.declared.Segment as declared
use Rattle.workload.specs.Generated.{opening, again, meeting, summing, writing, leaving, round_of, groups, group_count, instructions, code_bytes}
use Rattle.workload.proofs.Groups.{length-groups}

-- an instruction has four bytes
length-code_bytes : (code : List Instr) → length (code_bytes code) ≡ 4 * length code
length-code_bytes [] = refl
length-code_bytes (i ∷ code) =
    let one : length (bytes_low_first 0 4 (word_of i)) ≡ 4 = refl in
    let more = length-code_bytes code in
    let both = length-append (bytes_low_first 0 4 (word_of i)) (code_bytes code) in
    omega (arith, one, more, both)

-- one instruction's bytes more
pub bytes_more : (code : List Instr) (bytes new : List ℕ) (at : ℕ) (i : Instr) → at < length code
    → i ≡ get_or code at i → bytes ≡ code_bytes (take at code)
    → new ≡ bytes ++ bytes_low_first 0 4 (word_of i) → new ≡ code_bytes (take (at + 1) code)
bytes_more code bytes new at i less is before this =
    let these = bytes_low_first 0 4 (word_of i) in
    let cut : take (at + 1) code ≡ take at code ++ i ∷ [] =
    take_more code at i less ∙ ap (λ x. take at code ++ x ∷ []) (sym is) in
    this ∙ ap (λ xs. xs ++ these) before ∙ ap (λ xs. code_bytes (take at code) ++ xs) (sym (append-nil these))
    ∙ sym (ap code_bytes cut ∙ flat_map-append (λ x. bytes_low_first 0 4 (word_of x)) (take at code) (i ∷ []))

-- the parts beside the groups have 50 instructions
length-round : (made : List Instr) → length (opening ++ round_of made) ≡ length made + 50
length-round made =
    let tail : List Instr = meeting ++ (summing ++ (writing ++ leaving)) in
    let size : length tail ≡ 41 = refl in
    let both = length-append made (again (length made) ++ tail) in
    omega (arith, size, both)

few_instructions : (number : ℕ) → length (instructions number) ≤ 24050
unfolding instructions
few_instructions number =
    let made = groups group_count number in
    let whole = length-round made in
    let few = length-groups group_count number in
    omega (arith, whole, few)

pub few_bytes : (bytes : List ℕ) (number : ℕ) → bytes ≡ code_bytes (instructions number)
    → length bytes ≤ 96200
few_bytes bytes number is =
    let same = ap length is in
    let size = length-code_bytes (instructions number) in
    let few = few_instructions number in
    omega (arith, same, size, few)

-- an executable whose code has so few bytes is in the limits
pub in_limits : (bytes : List ℕ) (size : ℕ) → size ≡ length bytes → length bytes ≤ 96200
    → is_in_limits (record {
      entry = 0x10000;
      flags = 0;
      segments =
          record { flags = 5; vaddr = 0x10000; memsz = size; bytes = bytes }
          ∷ record { flags = 6; vaddr = 0x200000; memsz = 0x4080; bytes = [] } ∷ [];
      sections = [];
    }) ≡ true
in_limits bytes size is few =
    let one = le-leb (length bytes) size (omega (arith, is)) in
    let two = le-leb (0x10000 + size) (2 ^ 32) (omega (arith, is, few)) in
    let all = le-leb (0 + length bytes + 0 + 0) 1073741824 (omega (arith, few)) in
    and_from _ _ (and_from _ _ (and_from _ _ one two) refl) all

-- two segments appended
pub two_segments : (e0 e1 e2 : List declared.Segment) (first second : declared.Segment) → e0 ≡ []
    → e1 ≡ e0 ++ first ∷ [] → e2 ≡ e1 ++ second ∷ []
    → map segment_of e2 ≡ segment_of first ∷ segment_of second ∷ []
two_segments e0 e1 e2 first second none one two = rw (two, one, none) refl
