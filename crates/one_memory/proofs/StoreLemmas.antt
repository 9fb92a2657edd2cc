-- What a store leaves.
use Rattle.std.proofs.Common.{◌≡◌, ℕ, ◌+◌, ◌%◌, true, if◌then◌else◌, List, Option, Some, None, refl, sym, ap, ◌∙◌, arith}
use Rattle.rv32_decode.specs.declared.AmoOp.{AmoOp}
use Rattle.rv32_decode.specs.declared.Width.{Width}
use Rattle.rv32_decode.specs.declared.Width.TheVariants.{Word}
use Rattle.rv32_decode.specs.Widths.{is_aligned}
use Rattle.rv32_ops.specs.Operations.{extend, amo}
use Rattle.byte_range.specs.Lines.{lines_memory}
use Rattle.byte_range.specs.Memory.{stored}
use Rattle.byte_range.specs.Window.{window_memory, is_in_window}
use Rattle.exec_map.specs.Contents.{program_of, first_byte}
use Rattle.llsc.specs.Reservation.{holds}
use Rattle.rv32_program.specs.Program.{Program, class_at, is_mapped, is_writable}
use Rattle.rv32_step.specs.Registers.{registers_of, put}
use Rattle.rv32_program.specs.declared.Class.TheVariants.{Private}
use Rattle.rv32_step.specs.Memory.{shared_after, private_after}
use Rattle.rv32_step.specs.Reservations.{with_reservation, after_store_by}
use Rattle.rv32_step.specs.declared.Demand.TheVariants.{Stores, Reserves, StoresIf, Updates}
use Rattle.rv32_step.specs.OneMemory.{Processor, State, StoresTo, ReservesAt, StoresWhere, UpdatesAt, request_for, answer, set_register, next_pc, after_store, after_exchange, after_conditional, with_processor, with_store, with_reserved, with_conditional, word_at}
use Rattle.micro_op.specs.Micro.{index_address}
use Rattle.one_memory.specs.declared.processor.OriginalState.{OriginalState}
use Rattle.one_memory.specs.declared.processor.StepTarget.TheVariants.{Next}
use Rattle.one_memory.specs.Machine.{MemoryParts, IsStored, Meets, processor_of, at_index, original_on, state_among, reserved_in, with_one}
use Rattle.one_memory.proofs.ReadLemmas.{IsRead, class_in, private_class}
use Rattle.one_memory.proofs.StepLemmas.{mapped}
use Rattle.one_memory.proofs.TurnLemmas.{one_over}

-- the state after a store
state_stored : (nodes p : ℕ) (all : ℕ → Processor) (w : Width) (a v : ℕ) (m m' : MemoryParts) (b b' : OriginalState) (q : Processor) → IsStored p w a v m b m' b' → with_store (original_on m nodes) (state_among all m) p q w a v ≡ state_among (with_one all p q) m'
state_stored nodes p all w a v m m' b b' q h = λ t. record {
  shared = sym h.shared_is t;
  processors = with_one all p q;
  reservations = sym h.reserved_is t;
  output = sym h.output t;
}

-- a store to the window
pub stored_apart : (p a v : ℕ) (w : Width) (m m' : MemoryParts) (b b' : OriginalState) → is_in_window a ≡ true → window_memory b'.window ≡ (if is_in_window a then stored w (window_memory b.window) a v else window_memory b.window) → b'.registers ≡ b.registers → b'.written ≡ b.written → m' ≡ record m { reserved = m'.reserved } → reserved_in m'.reserved ≡ after_store_by m.layout p a (reserved_in m.reserved) → IsStored p w a v m b m' b'
stored_apart p a v w m m' b b' inside bytes registers written rest reserved =
    let class : class_in m a ≡ Private = private_class m.program a inside in
    let shared : ℕ → ℕ = lines_memory m.shared (first_byte m.program) in
    let private : ℕ → ℕ = window_memory b.window in
    record {
      shared_is = ap (λ (x : MemoryParts). lines_memory x.shared (first_byte x.program)) rest ∙ ap (λ c. shared_after c shared (stored w shared a v)) (sym class);
      private_is = bytes ∙ ap (λ x. if x then stored w private a v else private) inside ∙ ap (λ c. private_after c private (stored w private a v)) (sym class);
      reserved_is = reserved;
      output = ap (λ (x : MemoryParts). x.output) rest;
      registers = registers;
      written = written;
    }

-- what an access asks for, where it may be made
asks_update : (program : Program) (q : Processor) (o : AmoOp) (r a v : ℕ) → is_aligned Word a ≡ true → true ≡ is_writable (class_at program a) → request_for program q (Updates o r a v) ≡ UpdatesAt o r a v
asks_update program q o r a v aligned may = rw (aligned, sym may) refl

asks_conditional : (program : Program) (q : Processor) (r a v : ℕ) → is_aligned Word a ≡ true → true ≡ is_writable (class_at program a) → request_for program q (StoresIf r a v) ≡ StoresWhere r a v
asks_conditional program q r a v aligned may = rw (aligned, sym may) refl

asks_reserve : (program : Program) (q : Processor) (r a : ℕ) → is_aligned Word a ≡ true → is_mapped (class_at program a) ≡ true → request_for program q (Reserves r a) ≡ ReservesAt r a
asks_reserve program q r a aligned there = rw (aligned, there) refl

next_at : (at : ℕ) → next_pc (index_address 0 at) ≡ index_address 0 ((at + 1) % 4294967296)
next_at at = omega arith

-- the word that is read
word_read : (m : MemoryParts) (b : OriginalState) (at a n nodes : ℕ) (all : ℕ → Processor) → IsRead m b Word a n → word_at (program_of m.program) (state_among all m) (processor_of (at_index at b)) a ≡ n
unfolding extend
word_read m b at a n nodes all read = sym read.1

asks_store : (program : Program) (q : Processor) (w : Width) (a v : ℕ) → is_aligned w a ≡ true → true ≡ is_writable (class_at program a) → request_for program q (Stores w a v) ≡ StoresTo w a v
asks_store program q w a v aligned may = rw (aligned, sym may) refl

-- a processor that has stored
processor_stored : (p at a v : ℕ) (w : Width) (m m' : MemoryParts) (b b' : OriginalState) → IsStored p w a v m b m' b' → after_store (program_of m.program) (processor_of (at_index at b)) w a v ≡ processor_of (at_index ((at + 1) % 4294967296) b')
processor_stored p at a v w m m' b b' h = λ t. record {
  registers = registers_of (sym h.registers t);
  pc = next_at at t;
  private = sym h.private_is t;
  written = sym h.written t;
  exit = None;
}

-- a store, where it may be made
pub met_store : (p at : ℕ) (w : Width) (a v : ℕ) (m m' : MemoryParts) (b b' : OriginalState) → is_aligned w a ≡ true → true ≡ is_writable (class_in m a) → IsStored p w a v m b m' b' → Meets p (Stores w a v) at m b m' b' Next
met_store p at w a v m m' b b' aligned may h = λ nodes all.
    let q = processor_of (at_index at b) in
    let original = original_on m nodes in
    let base = state_among all m in
    ap (λ x. (answer original base p q x).state) (asks_store original.program q w a v aligned may)
    ∙ ap (λ (x : Processor). with_store original base p x w a v) (processor_stored p at a v w m m' b b' h)
    ∙ state_stored nodes p all w a v m m' b b' (processor_of (at_index ((at + 1) % 4294967296) b')) h

-- a processor that has stored, and whose register is set
processor_exchanged : (p at a v r value : ℕ) (m m' : MemoryParts) (b b1 b' : OriginalState) → IsStored p Word a v m b m' b1 → registers_of b'.registers ≡ put (registers_of b1.registers) r value → b'.window ≡ b1.window → b'.written ≡ b1.written → after_exchange (program_of m.program) (processor_of (at_index at b)) a v r value ≡ processor_of (at_index ((at + 1) % 4294967296) b')
processor_exchanged p at a v r value m m' b b1 b' h registers window written = λ t. record {
  registers = (ap (λ (x : List ℕ). put (registers_of x) r value) (sym h.registers) ∙ sym registers) t;
  pc = next_at at t;
  private = (sym h.private_is ∙ ap window_memory (sym window)) t;
  written = (sym h.written ∙ sym written) t;
  exit = None;
}

-- an update, where it may be made
pub met_update : (p at : ℕ) (o : AmoOp) (r a v old new : ℕ) (m m' : MemoryParts) (b b1 b' : OriginalState) → is_aligned Word a ≡ true → true ≡ is_writable (class_in m a) → IsRead m b Word a old → new ≡ amo o old v → IsStored p Word a new m b m' b1 → registers_of b'.registers ≡ put (registers_of b1.registers) r old → b'.window ≡ b1.window → b'.written ≡ b1.written → Meets p (Updates o r a v) at m b m' b' Next
met_update p at o r a v old new m m' b b1 b' aligned may read is h registers window written = λ nodes all.
    let q = processor_of (at_index at b) in
    let original = original_on m nodes in
    let base = state_among all m in
    let word = word_read m b at a old nodes all read in
    let made : amo o (word_at original.program base q a) v ≡ new = ap (λ x. amo o x v) word ∙ sym is in
    ap (λ x. (answer original base p q x).state) (asks_update original.program q o r a v aligned may)
    ∙ (λ t. with_store original base p (after_exchange original.program q a (made t) r (word t)) Word a (made t))
    ∙ ap (λ (x : Processor). with_store original base p x Word a new) (processor_exchanged p at a new r old m m' b b1 b' h registers window written)
    ∙ state_stored nodes p all Word a new m m' b b1 (processor_of (at_index ((at + 1) % 4294967296) b')) h

-- the parts where the reservations are others
state_reserved : (p : ℕ) (all : ℕ → Processor) (m m' : MemoryParts) (reserved : Option ℕ) (q : Processor) → m' ≡ record m { reserved = m'.reserved } → reserved_in m'.reserved ≡ with_reservation (reserved_in m.reserved) p reserved → with_reserved (state_among all m) p q reserved ≡ state_among (with_one all p q) m'
state_reserved p all m m' reserved q rest is =
    ap (λ (f : ℕ → Option ℕ). record (with_processor (state_among all m) p q) { reservations = f }) (sym is)
    ∙ ap (state_among (with_one all p q)) (sym rest)

-- a processor whose register is set
processor_set : (at : ℕ) (b b' : OriginalState) (r value : ℕ) → registers_of b'.registers ≡ put (registers_of b.registers) r value → b'.window ≡ b.window → b'.written ≡ b.written → set_register (processor_of (at_index at b)) r value ≡ processor_of (at_index ((at + 1) % 4294967296) b')
processor_set at b b' r value registers window written = λ t. record {
  registers = sym registers t;
  pc = next_at at t;
  private = window_memory (sym window t);
  written = sym written t;
  exit = None;
}

-- a load that reserves
pub met_reserve : (p at r a n : ℕ) (m m' : MemoryParts) (b b' : OriginalState) → is_aligned Word a ≡ true → IsRead m b Word a n → registers_of b'.registers ≡ put (registers_of b.registers) r n → b'.window ≡ b.window → b'.written ≡ b.written → m' ≡ record m { reserved = m'.reserved } → reserved_in m'.reserved ≡ with_reservation (reserved_in m.reserved) p (Some a) → Meets p (Reserves r a) at m b m' b' Next
met_reserve p at r a n m m' b b' aligned read registers window written rest is = λ nodes all.
    let q = processor_of (at_index at b) in
    let original = original_on m nodes in
    let base = state_among all m in
    ap (λ x. (answer original base p q x).state) (asks_reserve original.program q r a aligned (mapped _ read.0))
    ∙ ap (λ x. with_reserved base p (set_register q r x) (Some a)) (word_read m b at a n nodes all read)
    ∙ ap (λ (x : Processor). with_reserved base p x (Some a)) (processor_set at b b' r n registers window written)
    ∙ state_reserved p all m m' (Some a) (processor_of (at_index ((at + 1) % 4294967296) b')) rest is

-- a conditional store that stores
pub met_conditional : (p at r a v : ℕ) (m m1 m' : MemoryParts) (b b1 b' : OriginalState) → is_aligned Word a ≡ true → true ≡ is_writable (class_in m a) → holds (reserved_in m.reserved p) a ≡ true → IsStored p Word a v m b m1 b1 → registers_of b'.registers ≡ put (registers_of b1.registers) r 0 → b'.window ≡ b1.window → b'.written ≡ b1.written → m' ≡ record m1 { reserved = m'.reserved } → reserved_in m'.reserved ≡ with_reservation (reserved_in m1.reserved) p None → Meets p (StoresIf r a v) at m b m' b' Next
met_conditional p at r a v m m1 m' b b1 b' aligned may reserved h registers window written rest is = λ nodes all.
    let q = processor_of (at_index at b) in
    let original = original_on m nodes in
    let base = state_among all m in
    let q' = processor_of (at_index ((at + 1) % 4294967296) b') in
    ap (λ x. (answer original base p q x).state) (asks_conditional original.program q r a v aligned may)
    ∙ ap (λ h. with_conditional original base p (after_conditional original.program q r a v h) a v h) reserved
    ∙ ap (λ (x : Processor). with_conditional original base p x a v true) (processor_exchanged p at a v r 0 m m1 b b1 b' h registers window written)
    ∙ ap (λ (x : State). with_reserved x p q' None) (state_stored nodes p all Word a v m m1 b b1 q' h)
    ∙ state_reserved p (with_one all p q') m1 m' None q' rest is
    ∙ ap (λ (x : ℕ → Processor). state_among x m') (one_over all p q' q')
