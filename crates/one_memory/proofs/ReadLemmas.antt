-- What a processor reads in one line.
use Rattle.std.proofs.Common.{◌≡◌, ℕ, ◌+◌, ◌/◌, ◌%◌, Bool, true, false, Option, Some, None, refl, sym, ap, ◌∙◌, arith, inl, inr}
use Rattle.std.specs.Prelude.{MatchOption, find, if◌then◌else◌}
use Rattle.std.proofs.lemmas.Bool.{cases_Bool}
use Rattle.std.proofs.lemmas.Bool.Decides.{nat_tests}
use Rattle.rv32_decode.specs.declared.Width.{Width}
use Rattle.rv32_decode.specs.declared.Width.TheVariants.{Byte, Half, Word}
use Rattle.elf32_read.specs.Elf.{Elf, Segment}
use Rattle.exec_map.specs.Contents.{program_of, first_byte, is_shared, is_private, is_writable, touches, class_of_line, segment_class}
use Rattle.byte_range.specs.Lines.{lines_memory}
use Rattle.byte_range.specs.Window.{window_memory, is_in_window}
use Rattle.rv32_program.specs.declared.Class.{Class}
use Rattle.rv32_program.specs.declared.Class.TheVariants.{Shared, ReadOnly, Private, Unmapped}
use Rattle.rv32_program.specs.Program.{class_at, is_writable as may_be_written}
use Rattle.byte_range.specs.Memory.{raw}
use Rattle.rv32_decode.specs.Widths.{is_aligned}
use Rattle.rv32_step.specs.Memory.{byte_by}
use Rattle.one_memory.specs.declared.processor.OriginalState.{OriginalState}
use Rattle.one_memory.specs.Machine.{MemoryParts, byte_seen}

-- an aligned access is made in one line
in_line : (w : Width) (f g : ℕ → ℕ) (a : ℕ) → is_aligned w a ≡ true → ((x : ℕ) → x / 64 ≡ a / 64 → f x ≡ g x) → raw w f a ≡ raw w g a
unfolding raw
in_line Byte f g a aligned same = same a refl
in_line Half f g a aligned same =
    let at : a % 2 ≡ 0 = grind (arith, nat_tests) in
    let next = same (a + 1) (omega arith) in
    rw (same a refl, next) refl
in_line Word f g a aligned same =
    let at : a % 4 ≡ 0 = grind (arith, nat_tests) in
    let one = same (a + 1) (omega arith) in
    let two = same (a + 2) (omega arith) in
    let three = same (a + 3) (omega arith) in
    rw (same a refl, one, two, three) refl

-- the class of the line of an address in this memory
abbrev pub class_in : MemoryParts → ℕ → Class
class_in m a = class_at (program_of m.program) a

class_there : (m : MemoryParts) (a x : ℕ) → x / 64 ≡ a / 64 → class_in m x ≡ class_in m a
class_there m a x same = ap (program_of m.program).class same

-- the byte of an address in a line of this class
abbrev byte_in : MemoryParts → OriginalState → Class → ℕ → ℕ
byte_in m k c a =
    byte_by c (lines_memory m.shared (first_byte m.program) a) (first_byte m.program a) (window_memory k.window a) 0

seen_at : (m : MemoryParts) (k : OriginalState) (c : Class) (a : ℕ) → c ≡ class_in m a → byte_in m k c a ≡ byte_seen m k a
seen_at m k c a is = ap (λ x. byte_in m k x a) is

-- the number that an access in a line of this class reads
read_at : (m : MemoryParts) (k : OriginalState) (c : Class) (w : Width) (a : ℕ) → c ≡ class_in m a → is_aligned w a ≡ true → raw w (byte_in m k c) a ≡ raw w (byte_seen m k) a
read_at m k c w a is aligned =
    in_line w _ (byte_seen m k) a aligned (λ x same. seen_at m k c x (is ∙ sym (class_there m a x same)))

shared_class : (c : Class) → true ≡ is_shared c → c ≡ Shared
shared_class Shared is = refl
shared_class other is = absurd (cc)

mapped_class : (c d : Class) → c ≡ d → (d ≡ Unmapped → ⊥) → c ≡ Unmapped → ⊥
mapped_class c d is mapped unmapped = mapped (sym is ∙ unmapped)

private_line : (a : ℕ) → is_private (a / 64) ≡ is_in_window a
private_line a = elim (cases_Bool (is_in_window a)) [
  | inl e ↦ rw e (grind (arith, nat_tests))
  | inr e ↦ rw e (grind (arith, nat_tests))
]

pub private_class : (e : Elf) (a : ℕ) → is_in_window a ≡ true → class_of_line e (a / 64) ≡ Private
private_class e a inside = let t = private_line a ∙ inside in rw t refl

segment_not_private : (o : Option Segment) → segment_class o ≡ Private → ⊥
segment_not_private None is = absurd (cc)
segment_not_private (Some s) is = elim (cases_Bool (is_writable s)) [
  | inl e ↦ absurd (let x = rw e at is in cc)
  | inr e ↦ absurd (let x = rw e at is in cc)
]

pub other_class : (e : Elf) (a : ℕ) → is_in_window a ≡ false → class_of_line e (a / 64) ≡ Private → ⊥
other_class e a outside is =
    let f = private_line a ∙ outside in
    segment_not_private (find (touches (a / 64)) e.segments) (rw f at is)

-- what is read is what the processor sees
abbrev pub IsRead : MemoryParts → OriginalState → Width → ℕ → ℕ → Type 0
IsRead m k w a n = (class_in m a ≡ Unmapped → ⊥) × (n ≡ raw w (byte_seen m k) a)

pub read_shared : (m : MemoryParts) (k : OriginalState) (w : Width) (a n : ℕ) → is_aligned w a ≡ true → true ≡ is_shared (class_in m a) → n ≡ raw w (lines_memory m.shared (first_byte m.program)) a → IsRead m k w a n
read_shared m k w a n aligned found value =
    let class = shared_class (class_in m a) found in
    (mapped_class (class_in m a) Shared class (λ is. absurd (cc)), value ∙ read_at m k Shared w a (sym class) aligned)

pub some_window : (b : Bool) (n v : ℕ) → Some n ≡ (if b then Some v else None) → (b ≡ true) × (n ≡ v)
some_window true n v is = (refl, (cc))
some_window false n v is = absurd (cc)

pub none_window : (b : Bool) (v : ℕ) → None ≡ (if b then Some v else None) → b ≡ false
none_window true v is = absurd (cc)
none_window false v is = refl

pub read_private : (m : MemoryParts) (k : OriginalState) (w : Width) (a n : ℕ) → is_aligned w a ≡ true → Some n ≡ (if is_in_window a then Some (raw w (window_memory k.window) a) else None) → IsRead m k w a n
read_private m k w a n aligned value =
    let parts = some_window (is_in_window a) n _ value in
    let class = private_class m.program a parts.0 in
    (mapped_class (class_in m a) Private class (λ is. absurd (cc)), parts.1 ∙ read_at m k Private w a (sym class) aligned)

-- neither shared nor private, so not to be written
pub unwritable_else : (c : Class) → is_shared c ≡ false → (c ≡ Private → ⊥) → false ≡ may_be_written c
unwritable_else Shared s p = absurd (cc)
unwritable_else ReadOnly s p = refl
unwritable_else Private s p = absurd (p refl)
unwritable_else Unmapped s p = refl

-- neither shared nor private
unmapped_else : (c : Class) → false ≡ is_shared c → (c ≡ Private → ⊥) → (c ≡ ReadOnly → ⊥) → c ≡ Unmapped
unmapped_else Shared s p r = absurd (cc)
unmapped_else ReadOnly s p r = absurd (r refl)
unmapped_else Private s p r = absurd (p refl)
unmapped_else Unmapped s p r = refl

pub read_first : (m : MemoryParts) (k : OriginalState) (w : Width) (a : ℕ) (r : Option ℕ) → is_aligned w a ≡ true → false ≡ is_shared (class_in m a) → None ≡ (if is_in_window a then Some (raw w (window_memory k.window) a) else None) → MatchOption r (class_in m a ≡ ReadOnly → ⊥) (λ n. (class_in m a ≡ ReadOnly) × (n ≡ raw w (first_byte m.program) a)) → MatchOption r (class_in m a ≡ Unmapped) (IsRead m k w a)
read_first m k w a None aligned shared window first =
    unmapped_else (class_in m a) shared (other_class m.program a (none_window _ _ window)) first
read_first m k w a (Some n) aligned shared window first =
    (mapped_class (class_in m a) ReadOnly first.0 (λ is. absurd (cc)), first.1 ∙ read_at m k ReadOnly w a (sym first.0) aligned)

-- a byte is what an access to one byte reads
pub as_byte : (m : MemoryParts) (k : OriginalState) (a n : ℕ) → IsRead m k Byte a n → (class_in m a ≡ Unmapped → ⊥) × (n ≡ byte_seen m k a)
unfolding raw
as_byte m k a n is = is

pub as_byte_option : (m : MemoryParts) (k : OriginalState) (a : ℕ) (r : Option ℕ) → false ≡ is_shared (class_in m a) → None ≡ (if is_in_window a then Some (raw Byte (window_memory k.window) a) else None) → MatchOption r (class_in m a ≡ ReadOnly → ⊥) (λ n. (class_in m a ≡ ReadOnly) × (n ≡ first_byte m.program a)) → MatchOption r (class_in m a ≡ Unmapped) (λ n. (class_in m a ≡ Unmapped → ⊥) × (n ≡ byte_seen m k a))
unfolding raw
as_byte_option m k a None shared window first =
    unmapped_else (class_in m a) shared (other_class m.program a (none_window _ _ window)) first
as_byte_option m k a (Some n) shared window first =
    (mapped_class (class_in m a) ReadOnly first.0 (λ is. absurd (cc)), first.1 ∙ seen_at m k ReadOnly a (sym first.0))

pub byte_aligned : (a : ℕ) → is_aligned Byte a ≡ true
byte_aligned a = grind (arith, nat_tests)
