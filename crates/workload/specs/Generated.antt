-- The executable that a number makes: processors that load and store all over four pages, and add
-- to words of them atomically. Its output tells whether an addition was lost.
use Rattle.std.specs.Prelude.{ℕ, pos, zero, suc, ◌+◌, ◌-◌, ◌*◌, ◌/◌, ◌%◌, ◌^◌, ◌==◌, if◌then◌else◌, List, [], ◌∷◌, ◌++◌, length}
use Rattle.std.specs.List.{flat_map}
use Rattle.std.specs.Int.{bytes_low_first}
use Rattle.rv32_decode.specs.Words.{word_of}
use Rattle.rv32_decode.specs.declared.Instr.{Instr}
use Rattle.rv32_decode.specs.declared.Instr.TheVariants.{Ecall}
use Rattle.elf32_read.specs.Elf.{Elf}
use Rattle.workload.specs.Assembler.{minus, lui, addi, add, slli, srli, lw, sw, sb, amoadd, beq, bne, blt, jump}
use Rattle.random_order.specs.Orders.{following}

-- what a number says of a group: the register that holds the address of a page; a word of the page;
-- the word beside it, of a pair; and what is added
abbrev pub page_register : ℕ → ℕ
page_register page = if page == 0 then 8 else 17 + page

abbrev pub base_of : ℕ → ℕ
base_of x = page_register (x / 2 ^ 26 % 4)

abbrev pub offset_of : ℕ → ℕ
offset_of x = x / 2 ^ 16 % 512 * 4

abbrev pub beside : ℕ → ℕ
beside offset = if offset / 4 % 2 == 0 then offset + 4 else offset - 4

abbrev pub addend_of : ℕ → ℕ
addend_of x = x / 2 ^ 8 % 256

-- the group of a number, by its kind: a load; an atomic addition; two loads, side by side; or a
-- store below the stack pointer
abbrev pub group_by : (kind base offset addend : ℕ) → List Instr
group_by kind base offset addend =
    if kind == 0 then lw 12 (pos offset) base ∷ []
    else if kind == 1 then addi 13 0 (pos addend) ∷ addi 14 base (pos offset) ∷ amoadd 13 14 ∷ []
    else if kind == 2 then lw 12 (pos offset) base ∷ lw 15 (pos (beside offset)) base ∷ []
    else sw 13 (minus (offset + 4)) 2 ∷ []

abbrev pub group_of : ℕ → List Instr
group_of x = group_by (x / 2 ^ 30) (base_of x) (offset_of x) (addend_of x)

-- so many groups, of the numbers that follow one
unfoldable pub groups : (count number : ℕ) → List Instr
groups zero number = []
groups (suc count) number = group_of (following number) ++ groups count (following number)

abbrev pub group_count : ℕ
group_count = 8000

-- the addresses of the pages, and that the groups are executed twice
abbrev pub opening : List Instr
opening =
    lui 8 0x200 ∷ lui 18 0x201 ∷ lui 19 0x202 ∷ lui 20 0x203 ∷ addi 9 0 (pos 2)
    ∷ addi 13 0 (pos 0) ∷ []

-- back to the groups, which take so many words, until they have been executed twice
abbrev pub again : (words : ℕ) → List Instr
again words =
    addi 9 9 (minus 1) ∷ beq 9 0 (pos 8) ∷ jump (minus (4 * (words + 2))) ∷ []

-- each processor counts itself; the first one waits until all have, and the others go on to the
-- exit, 35 words on
abbrev pub meeting : List Instr
meeting =
    lui 5 0x204 ∷ addi 6 0 (pos 1) ∷ amoadd 6 5 ∷ bne 10 0 (pos 140)
    ∷ lw 7 (pos 0) 5 ∷ bne 7 11 (minus 4) ∷ []

-- the sum of the first 512 words of each of the four pages
abbrev pub summing : List Instr
summing =
    addi 16 0 (pos 0) ∷ addi 21 0 (pos 4)
    ∷ addi 22 0 (pos 512) ∷ addi 23 8 (pos 0)
    ∷ lw 24 (pos 0) 23 ∷ add 16 16 24 ∷ addi 23 23 (pos 4) ∷ addi 22 22 (minus 1)
    ∷ bne 22 0 (minus 16)
    ∷ lui 25 1 ∷ add 8 8 25 ∷ addi 21 21 (minus 1) ∷ bne 21 0 (minus 40) ∷ []

-- the sum's eight hexadecimal digits and a line feed, written
abbrev pub writing : List Instr
writing =
    addi 22 0 (pos 8) ∷ addi 23 5 (pos 64)
    ∷ srli 24 16 28 ∷ slli 16 16 4 ∷ addi 26 24 (minus 10) ∷ addi 24 24 (pos 48)
    ∷ blt 26 0 (pos 8) ∷ addi 24 24 (pos 39)
    ∷ sb 24 (pos 0) 23 ∷ addi 23 23 (pos 1) ∷ addi 22 22 (minus 1) ∷ bne 22 0 (minus 36)
    ∷ addi 24 0 (pos 10) ∷ sb 24 (pos 0) 23
    ∷ addi 10 0 (pos 1) ∷ addi 11 5 (pos 64) ∷ addi 12 0 (pos 9) ∷ addi 17 0 (pos 64)
    ∷ Ecall ∷ []

-- the exit, with code 0
abbrev pub leaving : List Instr
leaving = addi 10 0 (pos 0) ∷ addi 17 0 (pos 93) ∷ Ecall ∷ []

-- what stands after the opening, for these groups
abbrev pub round_of : List Instr → List Instr
round_of made = made ++ (again (length made) ++ (meeting ++ (summing ++ (writing ++ leaving))))

-- the code of a number
unfoldable pub instructions : ℕ → List Instr
instructions number = opening ++ round_of (groups group_count number)

-- the words of instructions, little-endian
abbrev pub code_bytes : List Instr → List ℕ
code_bytes code = flat_map (λ i. bytes_low_first 0 4 (word_of i)) code

-- the executable of a number: its code, readable and executable, and four pages and a line of
-- zeros, readable and writable
abbrev pub generated_elf : ℕ → Elf
generated_elf number = record {
  entry = 0x10000;
  flags = 0;
  segments =
      record {
        flags = 5;
        vaddr = 0x10000;
        memsz = length (code_bytes (instructions number));
        bytes = code_bytes (instructions number);
      }
      ∷ record { flags = 6; vaddr = 0x200000; memsz = 0x4080; bytes = [] } ∷ [];
  sections = [];
}
