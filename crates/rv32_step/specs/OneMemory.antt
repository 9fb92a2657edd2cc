-- The original program's processors, interleaved instruction by instruction on one memory.
use Rattle.std.specs.Prelude.{◌≡◌, ℕ, ◌+◌, ◌%◌, ◌^◌, ◌<◌, Bool, true, false, if◌then◌else◌, ◌==◌, List, [], ◌∷◌, ◌++◌, Option, Some, None, ◌⊎◌}
use Rattle.std.specs.Option.{option_to_list}
use Rattle.rv32_decode.specs.Widths.{width_of, is_aligned}
use Rattle.rv32_decode.specs.declared.Instr.{Instr}
use Rattle.rv32_decode.specs.declared.LoadKind.{LoadKind}
use Rattle.rv32_decode.specs.declared.LoadKind.TheVariants.{ByteU, Word as WordLoad}
use Rattle.rv32_decode.specs.declared.AmoOp.{AmoOp}
use Rattle.rv32_decode.specs.declared.Width.{Width}
use Rattle.rv32_decode.specs.declared.Width.TheVariants.{Word}
use Rattle.rv32_ops.specs.Operations.{amo}
use Rattle.block_layout.specs.Layout.{Shape, block_of}
use Rattle.llsc.specs.Reservation.{holds}
use Rattle.byte_range.specs.Memory.{stored}
use Rattle.rv32_program.specs.declared.Class.{Class}
use Rattle.rv32_program.specs.declared.Exit.{Exit}
use Rattle.rv32_program.specs.declared.Exit.TheVariants.{Code, Misaligned, Access as NoAccess, Fetch}
use Rattle.rv32_program.specs.Program.{Program, line_of, class_at, is_mapped, is_writable}
use Rattle.rv32_step.specs.declared.Demand.{Demand}
use Rattle.rv32_step.specs.declared.Demand.TheVariants.{Sets, Continues, Jumps, Branches, Loads, Stores, Calls, Traps, Reserves, StoresIf, Updates}
use Rattle.rv32_step.specs.declared.CallStep.{CallStep}
use Rattle.rv32_step.specs.declared.CallStep.TheVariants.{Ends, Returns, Puts}
use Rattle.rv32_step.specs.Registers.{put, registers_of, first_values}
use Rattle.rv32_step.specs.Demands.{demand_of, call_step, cut_short}
use Rattle.rv32_step.specs.Memory.{load_value, byte_by, shared_after, private_after}
use Rattle.rv32_step.specs.Reservations.{with_reservation, after_store_by}
use Rattle.rv32_step.specs.Breaks.{stands_at_store, RunsToStore}

-- what runs on the one memory: a program, whose shared lines have these blocks; its `nodes` are how
-- many processors there are, and those of the layout how many nodes
pub record Original : Type 0 where
  pub program : Program
  pub layout : Shape
  pub nodes : ℕ

-- a processor: its registers and pc, the bytes of its own window, how many bytes a write in
-- progress has written, and its exit
pub record Processor : Type 0 where
  pub registers : ℕ → ℕ
  pub pc : ℕ
  pub private : ℕ → ℕ
  pub written : ℕ
  pub exit : Option Exit

-- the shared bytes, the processors, the address that each has reserved, or none, and the bytes that
-- were printed
pub record State : Type 0 where
  pub shared : ℕ → ℕ
  pub processors : ℕ → Processor
  pub reservations : ℕ → Option ℕ
  pub output : List ℕ

abbrev pub first_processor : Original → ℕ → Processor
first_processor original p = record {
  registers = registers_of (first_values p original.nodes);
  pc = original.program.entry;
  private = λ _. 0;
  written = 0;
  exit = None;
}

-- the processors at the start
abbrev pub opening : Original → State
opening original = record {
  shared = original.program.first;
  processors = first_processor original;
  reservations = λ _. None;
  output = [];
}

-- what a step does in memory, as seen from outside; a write call's byte is read as by a load of an
-- unsigned byte
pub data Access : Type 0 where
  Nothing : Access
  Reads : (kind : LoadKind) (address value : ℕ) → Access
  Writes : (width : Width) (address value : ℕ) → Access
  -- a word is written where its address was reserved
  WritesIf : (address value : ℕ) (reserved : Bool) → Access
  -- a word is read, and written anew
  Exchanges : (address old new : ℕ) → Access

-- the value read by a step: a load's, an LR's or an AMO's old word, or a write call's byte
abbrev pub value_read : Access → Option ℕ
value_read Nothing = None
value_read (Reads kind address value) = Some value
value_read (Writes width address value) = None
value_read (WritesIf address value reserved) = None
value_read (Exchanges address old new) = Some old

-- an access at pc of this width to an address whose line may be accessed so or not. Misaligned is
-- judged before Access
abbrev pub exit_of_access : ℕ → Width → ℕ → Bool → Option Exit
exit_of_access pc w a may =
    if is_aligned w a then (if may then None else Some (NoAccess pc)) else Some (Misaligned pc)

-- the exit by which a demand at pc ends the processor, where it may not be met
abbrev pub exit_of_demand : (ℕ → Class) → ℕ → Demand → Option Exit
exit_of_demand class pc (Loads k r a) = exit_of_access pc (width_of k) a (is_mapped (class a))
exit_of_demand class pc (Stores w a value) = exit_of_access pc w a (is_writable (class a))
exit_of_demand class pc (Jumps r target) = if target % 4 == 0 then None else Some (Misaligned pc)
exit_of_demand class pc (Branches target) = if target % 4 == 0 then None else Some (Misaligned pc)
exit_of_demand class pc (Reserves r a) = exit_of_access pc Word a (is_mapped (class a))
exit_of_demand class pc (StoresIf r a value) = exit_of_access pc Word a (is_writable (class a))
exit_of_demand class pc (Updates o r a value) = exit_of_access pc Word a (is_writable (class a))
exit_of_demand class pc (Traps e) = Some e
exit_of_demand class pc d = None

-- what the next step of a processor requests of the memory: nothing, so that it becomes q; or that
-- the byte of an address is printed; or a load into a register; or a store; or a load that reserves
-- its address; or a store where the address is reserved; or a store of what an operation makes of
-- the word that is there
pub data Request : Type 0 where
  Becomes : (q : Processor) → Request
  Prints : (address : ℕ) → Request
  LoadsFrom : (kind : LoadKind) (r address : ℕ) → Request
  StoresTo : (width : Width) (address value : ℕ) → Request
  ReservesAt : (r address : ℕ) → Request
  StoresWhere : (r address value : ℕ) → Request
  UpdatesAt : (o : AmoOp) (r address value : ℕ) → Request

abbrev pub next_pc : ℕ → ℕ
next_pc pc = (pc + 4) % 2 ^ 32

abbrev pub with_exit : Processor → Exit → Processor
with_exit q e = record q { exit = Some e }

-- the register gets the value, and the next instruction follows
abbrev pub set_register : Processor → ℕ → ℕ → Processor
set_register q r value = record q { registers = put q.registers r value; pc = next_pc q.pc }

-- a0 gets the result, and the call is done
abbrev pub after_call : Processor → ℕ → Processor
after_call q value =
    record q { registers = put q.registers 10 value; pc = next_pc q.pc; written = 0 }

abbrev pub request_of_call : Program → Processor → CallStep → Request
request_of_call program q (Ends code) = Becomes (with_exit q (Code code))
request_of_call program q (Returns value) = Becomes (after_call q value)
request_of_call program q (Puts a) =
    if is_mapped (class_at program a) then Prints a
    else Becomes (after_call q (cut_short q.written))

-- a demand that may be met: the next instruction follows but where a jump or a branch goes to its
-- target, and a jump's register gets the address of the next instruction
abbrev pub request_by : Program → Processor → Demand → Request
request_by program q (Sets r value) = Becomes (set_register q r value)
request_by program q Continues = Becomes (record q { pc = next_pc q.pc })
request_by program q (Jumps r target) =
    Becomes (record q { registers = put q.registers r (next_pc q.pc); pc = target })
request_by program q (Branches target) = Becomes (record q { pc = target })
request_by program q (Loads k r a) = LoadsFrom k r a
request_by program q (Stores w a value) = StoresTo w a value
request_by program q Calls = request_of_call program q (call_step q.registers q.written)
request_by program q (Traps e) = Becomes (with_exit q e)
request_by program q (Reserves r a) = ReservesAt r a
request_by program q (StoresIf r a value) = StoresWhere r a value
request_by program q (Updates o r a value) = UpdatesAt o r a value

abbrev pub request_unless : Program → Processor → Demand → Option Exit → Request
request_unless program q d (Some e) = Becomes (with_exit q e)
request_unless program q d None = request_by program q d

abbrev pub request_for : Program → Processor → Demand → Request
request_for program q d = request_unless program q d (exit_of_demand (class_at program) q.pc d)

abbrev pub request_at : Program → Processor → Option Instr → Request
request_at program q None = Becomes (with_exit q (Fetch q.pc))
request_at program q (Some i) = request_for program q (demand_of i q.registers q.pc)

abbrev pub request : Program → Processor → Request
request program q = request_at program q (program.code q.pc)

-- the processor once its byte is printed
abbrev pub after_print : Processor → Processor
after_print q = record q { written = q.written + 1 }

-- the processor once its store is done
abbrev pub after_store : Program → Processor → Width → ℕ → ℕ → Processor
after_store program q w a value = record q {
  private = private_after (class_at program a) q.private (stored w q.private a value);
  pc = next_pc q.pc;
}

-- the processor once its store is done, and a register has a value
abbrev pub after_exchange : Program → Processor → ℕ → ℕ → ℕ → ℕ → Processor
after_exchange program q a value r result = record q {
  registers = put q.registers r result;
  private = private_after (class_at program a) q.private (stored Word q.private a value);
  pc = next_pc q.pc;
}

-- the processor once its conditional store is done, or wasn't
abbrev pub after_conditional : Program → Processor → ℕ → ℕ → ℕ → Bool → Processor
after_conditional program q r a value reserved =
    if reserved then after_exchange program q a value r 0 else set_register q r 1

-- the byte of an address, as the processor sees it
abbrev pub byte_at : Program → State → Processor → ℕ → ℕ
byte_at program s q a = byte_by (class_at program a) (s.shared a) (program.first a) (q.private a) 0

abbrev pub with_processor : State → ℕ → Processor → State
with_processor s p q = record s { processors = λ i. if i == p then q else s.processors i }

-- the shared bytes after a store
abbrev pub shared_stored : Program → State → Width → ℕ → ℕ → ℕ → ℕ
shared_stored program s w a value =
    shared_after (class_at program a) s.shared (stored w s.shared a value)

-- the state after a store of processor p, which becomes q
abbrev pub with_store : Original → State → ℕ → Processor → Width → ℕ → ℕ → State
with_store original s p q w a value = record (with_processor s p q) {
  shared = shared_stored original.program s w a value;
  reservations = after_store_by original.layout p a s.reservations;
}

-- the state where processor p becomes q, and has this reservation
abbrev pub with_reserved : State → ℕ → Processor → Option ℕ → State
with_reserved s p q reserved = record (with_processor s p q) {
  reservations = with_reservation s.reservations p reserved;
}

-- the state after a conditional store of processor p, which becomes q: no reservation is left to it
abbrev pub with_conditional : Original → State → ℕ → Processor → ℕ → ℕ → Bool → State
with_conditional original s p q a value reserved =
    with_reserved (if reserved then with_store original s p q Word a value else s) p q None

-- the word of an address, as the processor sees it
abbrev pub word_at : Program → State → Processor → ℕ → ℕ
word_at program s q a = load_value WordLoad (byte_at program s q) a

-- the state once the memory has answered a request of processor p, which is q
abbrev pub state_by : Original → State → ℕ → Processor → Request → State
state_by original s p q (Becomes q') = with_processor s p q'
state_by original s p q (Prints a) = record (with_processor s p (after_print q)) {
  output = s.output ++ byte_at original.program s q a ∷ [];
}
state_by original s p q (LoadsFrom k r a) =
    with_processor s p (set_register q r (load_value k (byte_at original.program s q) a))
state_by original s p q (StoresTo w a value) =
    with_store original s p (after_store original.program q w a value) w a value
state_by original s p q (ReservesAt r a) =
    with_reserved s p (set_register q r (word_at original.program s q a)) (Some a)
state_by original s p q (StoresWhere r a value) =
    with_conditional original s p
    (after_conditional original.program q r a value (holds (s.reservations p) a)) a value
    (holds (s.reservations p) a)
state_by original s p q (UpdatesAt o r a value) =
    with_store original s p
    (after_exchange original.program q a (amo o (word_at original.program s q a) value) r
    (word_at original.program s q a))
    Word a (amo o (word_at original.program s q a) value)

-- how a request of the processor q accesses memory
abbrev pub access_by : Original → State → ℕ → Processor → Request → Access
access_by original s p q (Becomes q') = Nothing
access_by original s p q (Prints a) = Reads ByteU a (byte_at original.program s q a)
access_by original s p q (LoadsFrom k r a) =
    Reads k a (load_value k (byte_at original.program s q) a)
access_by original s p q (StoresTo w a value) = Writes w a value
access_by original s p q (ReservesAt r a) = Reads WordLoad a (word_at original.program s q a)
access_by original s p q (StoresWhere r a value) = WritesIf a value (holds (s.reservations p) a)
access_by original s p q (UpdatesAt o r a value) =
    Exchanges a (word_at original.program s q a) (amo o (word_at original.program s q a) value)

-- the byte that a request prints
abbrev pub byte_printed : Original → State → Processor → Request → Option ℕ
byte_printed original s q (Prints a) = Some (byte_at original.program s q a)
byte_printed original s q asked = None

-- what a step leaves, what it accesses, and what it prints
pub record StepResult : Type 0 where
  pub state : State
  pub access : Access
  pub printed : Option ℕ

-- the memory's answer to a request of processor p, which is q
abbrev pub answer : Original → State → ℕ → Processor → Request → StepResult
answer original s p q asked = record {
  state = state_by original s p q asked;
  access = access_by original s p q asked;
  printed = byte_printed original s q asked;
}

-- one step of processor p
abbrev pub step : Original → State → ℕ → StepResult
step original s p =
    answer original s p (s.processors p) (request original.program (s.processors p))

-- what happens next on the one memory: a processor makes a step; or the reservation of p is broken
-- by q
pub data Pick : Type 0 where
  Step : (p : ℕ) → Pick
  Break : (p q : ℕ) → Pick

-- the reservation of processor p may be broken by another one, q, which has no exit: it stands at a
-- store into the reserved block, or at the start of a stretch that stores
pub record MayBreak (original : Original) (s : State) (p q : ℕ) : Type 0 where
  pub other : (p == q) ≡ false
  pub among : (p < original.nodes) × (q < original.nodes)
  pub runs : (s.processors q).exit ≡ None
  pub reserved : ℕ
  pub has : s.reservations p ≡ Some reserved
  pub block : ℕ
  pub lies : block_of original.layout (line_of reserved) ≡ Some block
  pub stores : (stands_at_store original.program original.layout block
      (s.processors q).registers (s.processors q).pc ≡ true)
      ⊎ RunsToStore original.program original.layout block (s.processors q).registers
      (s.processors q).pc

-- a step is one of the processors', which has no exit
abbrev pub Allowed : Original → State → Pick → Type 0
Allowed original s (Step p) = (p < original.nodes) × ((s.processors p).exit ≡ None)
Allowed original s (Break p q) = MayBreak original s p q

-- the state after a pick; a break ends the reservation of p
abbrev pub after_pick : Original → State → Pick → State
after_pick original s (Step p) =
    state_by original s p (s.processors p) (request original.program (s.processors p))
after_pick original s (Break p q) =
    record s { reservations = with_reservation s.reservations p None }

-- the picks are an interleaved run from this state on
abbrev pub IsRun : Original → State → List Pick → Type 0
IsRun original s [] = Unit {0}
IsRun original s (k ∷ ks) = Allowed original s k × IsRun original (after_pick original s k) ks

-- the state after the picks
abbrev pub run : Original → State → List Pick → State
run original s [] = s
run original s (k ∷ ks) = run original (after_pick original s k) ks

abbrev pub is_of : ℕ → Pick → Bool
is_of p (Step q) = p == q
is_of p (Break r q) = false

-- what a pick leaves, accesses and prints; a break neither accesses nor prints
abbrev pub pick_step : Original → State → Pick → StepResult
pick_step original s (Step p) = step original s p
pick_step original s (Break p q) = record {
  state = after_pick original s (Break p q);
  access = Nothing;
  printed = None;
}

-- the value that processor p reads in a pick
abbrev pub value_of_pick : ℕ → Pick → StepResult → List ℕ
value_of_pick p k result = if is_of p k then option_to_list (value_read result.access) else []

-- the values that processor p reads, in order
abbrev pub values_read : Original → ℕ → State → List Pick → List ℕ
values_read original p s [] = []
values_read original p s (k ∷ ks) =
    value_of_pick p k (pick_step original s k)
    ++ values_read original p (after_pick original s k) ks
