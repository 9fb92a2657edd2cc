-- One node: what belongs to its processor, what the words see of the node, and what executing one
-- word does.
use Rattle.std.specs.Prelude.{◌≡◌, ◌↔◌, ℕ, ◌+◌, ◌-◌, ◌*◌, ◌/◌, ◌%◌, ◌^◌, Bool, true, false, not, if◌then◌else◌, ◌==◌, ◌||◌, ◌&&◌, pos, nat_lt, bit_and, List, [], ◌∷◌, ◌++◌, Option, Some, None, unwrap_or, option_and_then}
use Rattle.std.specs.Option.{option_map_or}
use Rattle.rv32_decode.specs.Widths.{width_of, is_aligned}
use Rattle.rv32_decode.specs.declared.LoadKind.{LoadKind}
use Rattle.rv32_decode.specs.declared.LoadKind.TheVariants.{ByteU, Word as WordLoad}
use Rattle.rv32_decode.specs.declared.AmoOp.{AmoOp}
use Rattle.rv32_decode.specs.declared.Width.{Width}
use Rattle.rv32_decode.specs.declared.Width.TheVariants.{Word}
use Rattle.jump_map.specs.rv32_ops.Operations.{amo}
use Rattle.block_layout.specs.Layout.{Shape, is_shared, home, block_of}
use Rattle.miss_handlers.specs.llsc.Reservation.{holds}
use Rattle.miss_handlers.specs.state_table.declared.TheConstants.{EXCLUSIVE, INVALID, READ_ONLY, UNMAPPED}
pub use Rattle.miss_handlers.specs.state_table.StateByte.{is_mapped_state, is_readable_state, is_fixed_state, is_writable_state}
use Rattle.miss_handlers.specs.flag_memory.Flag.{flag_byte}
use Rattle.miss_handlers.specs.dsm_messages.declared.messages.Need.{Need}
use Rattle.miss_handlers.specs.dsm_messages.declared.messages.Need.TheVariants.{Read, Write}
use Rattle.miss_handlers.specs.home_directory.declared.wait.Wait.{Wait}
use Rattle.miss_handlers.specs.home_directory.declared.directory.Request.{Request}
use Rattle.miss_handlers.specs.home_directory.Home.{DirectoryEntry, first_entry, count_of}
use Rattle.jump_map.specs.byte_range.Memory.{stored}
use Rattle.jump_map.specs.rv32_program.declared.Class.{Class}
use Rattle.jump_map.specs.rv32_program.declared.Class.TheVariants.{Shared, ReadOnly, Private, Unmapped}
use Rattle.jump_map.specs.rv32_program.declared.Exit.{Exit}
use Rattle.jump_map.specs.rv32_program.declared.Exit.TheVariants.{Code, Ebreak, Illegal, Misaligned, Access as NoAccess, Fetch}
use Rattle.jump_map.specs.rv32_program.declared.End.{End}
use Rattle.jump_map.specs.rv32_program.declared.End.TheVariants.{Exited, Stopped}
use Rattle.jump_map.specs.rv32_program.Program.{Program, line_of, class_at}
use Rattle.jump_map.specs.rv32_program.Targets.{offset_address}
use Rattle.jump_map.specs.rv32_step.declared.Demand.{Demand}
use Rattle.jump_map.specs.rv32_step.declared.Demand.TheVariants.{Sets, Continues, Jumps, Branches, Loads, Stores, Calls, Traps, Reserves, StoresIf, Updates}
use Rattle.jump_map.specs.rv32_step.declared.CallStep.{CallStep}
use Rattle.jump_map.specs.rv32_step.declared.CallStep.TheVariants.{Ends, Returns, Puts}
use Rattle.jump_map.specs.rv32_step.Registers.{reg, put, registers_of, first_values}
use Rattle.jump_map.specs.rv32_step.Demands.{demand_of, call_step, cut_short}
use Rattle.jump_map.specs.rv32_step.Memory.{load_value, byte_by, shared_after, private_after}
use Rattle.jump_map.specs.rv32_step.OneMemory.{Access, Nothing, Reads, Writes, WritesIf, Exchanges, next_pc}
use Rattle.jump_map.specs.runtime_words.declared.RtWord.{RtWord}
use Rattle.jump_map.specs.runtime_words.declared.RtWord.TheVariants.{Native, MissR, MissW, Poll, Call, Xjalr, Batch, Prepare, Far, TrapFetch, TrapOff, TrapIllegal, TrapEbreak}
use Rattle.jump_map.specs.templates.declared.places.Place.{Place}
use Rattle.jump_map.specs.declared.image.ImageWord.{ImageWord}
use Rattle.jump_map.specs.Image.{Cell, image_base, address_of_word}
use Rattle.jump_map.specs.Maps.{fetch, new_of}
use Rattle.node_model.specs.declared.NodeCounts.{NodeCounts}
use Rattle.node_model.specs.declared.Entry.{Entry as JournalEntry}
use Rattle.node_model.specs.declared.OutByte.{OutByte}
use Rattle.node_model.specs.declared.Standing.{Standing}
use Rattle.node_model.specs.declared.Standing.TheVariants as standing

-- what is a processor's own
pub record ProcessorState : Type 0 where
  pub registers : ℕ → ℕ
  -- the address of its next rewritten word
  pub at : ℕ
  -- the bytes of its own window
  pub private : ℕ → ℕ
  -- the bytes that a write in progress has written
  pub written : ℕ
  -- where it went, when that was no place
  pub off : ℕ
  -- the three words in which sequences keep registers
  pub spills : ℕ → ℕ

-- what words see of their node: its copy of the shared bytes, the state byte of each line, and the
-- address that the processor has reserved
pub record NodeMemory : Type 0 where
  pub copy : ℕ → ℕ
  pub state : ℕ → ℕ
  pub reservation : Option ℕ

-- the state byte of a line of this class at the start: a shared line's block is exclusive at its
-- home, and invalid elsewhere
abbrev pub first_state : Class → Bool → ℕ
first_state Shared at_home = if at_home then EXCLUSIVE else INVALID
first_state ReadOnly at_home = READ_ONLY
first_state Private at_home = EXCLUSIVE
first_state Unmapped at_home = UNMAPPED

-- what is wanted: that the line of an address may be read, or written
pub record Want : Type 0 where
  pub at : ℕ
  pub need : Need

-- where a processor goes on once nothing that its word wanted is on its way: after the word; at
-- the word again; or by what the lines of two addresses allow then
pub data Resume : Type 0 where
  PastWord : Resume
  SameWord : Resume
  ByLines : (need : Need) (low high : ℕ) → Resume

-- where a processor goes after a word: to the next word, to the same word again, to a word's
-- address, to the sequence of an original address; or it waits for blocks; or it is ended
pub data Move : Type 0 where
  Next : Move
  Again : Move
  To : (address : ℕ) → Move
  Enters : (original : ℕ) → Move
  Waits : (resume : Resume) (want : Want) (more : List Want) → Move
  Leaves : (exit : Exit) → Move

-- what a word counts
pub data Tally : Type 0 where
  Nothing_counted : Tally
  FalseMiss : Tally
  FallsBack : Tally

-- what a word leaves, what it accesses, prints and counts, and where the processor goes
pub record WordOutcome : Type 0 where
  pub lane : ProcessorState
  pub local : NodeMemory
  pub access : Access
  pub printed : Option ℕ
  pub tally : Tally
  pub move : Move

-- the processor goes on so, and nothing else happens
abbrev pub only_moves : ProcessorState → NodeMemory → Move → WordOutcome
only_moves l n m = record {
  lane = l;
  local = n;
  access = Nothing;
  printed = None;
  tally = Nothing_counted;
  move = m;
}

abbrev pub exit_by : ProcessorState → NodeMemory → Exit → WordOutcome
exit_by l n e = only_moves l n (Leaves e)

abbrev pub set_register : ProcessorState → ℕ → ℕ → ProcessorState
set_register l r value = record l { registers = put l.registers r value }

-- where an address of the node lies: below the state table, in it, in a spill word, or elsewhere
pub data Region : Type 0 where
  Memory : Region
  StateOf : (line : ℕ) → Region
  Spill : (k : ℕ) → Region
  Elsewhere : Region

abbrev pub region_of : ℕ → Region
region_of a =
    if nat_lt a (2 ^ 31) then Memory
    else (if nat_lt a (2 ^ 31 + 2 ^ 26) then StateOf (a - 2 ^ 31)
    else (if a == 2 ^ 32 - 4 then Spill 0
    else (if a == 2 ^ 32 - 8 then Spill 1
    else (if a == 2 ^ 32 - 12 then Spill 2 else Elsewhere))))

-- the byte that a load of an address below the state table gives
abbrev pub byte_at : Program → ProcessorState → NodeMemory → ℕ → ℕ
byte_at program l n a =
    byte_by (class_at program a) (n.copy a) (program.first a) (l.private a) (flag_byte a)

-- a load: from memory, or the state byte, or the spill word, or zero
abbrev pub load : Program → ProcessorState → NodeMemory → LoadKind → ℕ → ℕ → Region → WordOutcome
load program l n k r a Memory = record {
  lane = set_register l r (load_value k (byte_at program l n) a);
  local = n;
  access = Reads k a (load_value k (byte_at program l n) a);
  printed = None;
  tally = Nothing_counted;
  move = Next;
}
load program l n k r a (StateOf line) = only_moves (set_register l r (n.state line)) n Next
load program l n k r a (Spill j) = only_moves (set_register l r (l.spills j)) n Next
load program l n k r a Elsewhere = only_moves (set_register l r 0) n Next

-- the private bytes, and the copy, after a store
abbrev pub lane_stored : Program → ProcessorState → Width → ℕ → ℕ → ProcessorState
lane_stored program l w a value = record l {
  private = private_after (class_at program a) l.private (stored w l.private a value);
}

abbrev pub local_stored : Program → NodeMemory → Width → ℕ → ℕ → NodeMemory
local_stored program n w a value = record n {
  copy = shared_after (class_at program a) n.copy (stored w n.copy a value);
}

-- a store: into the copy, the private bytes or a spill word, and nowhere else
abbrev pub store : Program → ProcessorState → NodeMemory → Width → ℕ → ℕ → Region → WordOutcome
store program l n w a value Memory = record {
  lane = lane_stored program l w a value;
  local = local_stored program n w a value;
  access = Writes w a value;
  printed = None;
  tally = Nothing_counted;
  move = Next;
}
store program l n w a value (Spill j) =
    only_moves (record l { spills = λ i. if i == j then value else l.spills i }) n Next
store program l n w a value (StateOf line) = only_moves l n Next
store program l n w a value Elsewhere = only_moves l n Next

-- a0 gets the result of a call
abbrev pub lane_after_call : ProcessorState → ℕ → ProcessorState
lane_after_call l value = record l { registers = put l.registers 10 value; written = 0 }

-- the byte is printed, and the word is executed again
abbrev pub print_byte : ProcessorState → NodeMemory → ℕ → ℕ → WordOutcome
print_byte l n address byte = record {
  lane = record l { written = l.written + 1 };
  local = n;
  access = Reads ByteU address byte;
  printed = Some byte;
  tally = Nothing_counted;
  move = Again;
}

-- the byte of a write call, by the state of its line: printed, waited for, or not there
abbrev pub put_byte : Program → ProcessorState → NodeMemory → ℕ → ℕ → WordOutcome
put_byte program l n a state =
    if is_mapped_state state then
    (if is_readable_state state then print_byte l n a (byte_at program l n a)
    else only_moves l n (Waits SameWord (record { at = a; need = Read }) []))
    else only_moves (lane_after_call l (cut_short l.written)) n Next

-- one step of a call
abbrev pub make_call : Program → ProcessorState → NodeMemory → CallStep → WordOutcome
make_call program l n (Ends code) = exit_by l n (Code code)
make_call program l n (Returns value) = only_moves (lane_after_call l value) n Next
make_call program l n (Puts a) = put_byte program l n a (n.state (line_of a))

-- what reads an address, and reserves it
abbrev pub reserving : ℕ → WordOutcome → WordOutcome
reserving a r = record r { local = record r.local { reservation = Some a } }

-- a conditional store, of an address that is reserved or isn't: no reservation is left
abbrev pub store_if : Program → ProcessorState → NodeMemory → ℕ → ℕ → ℕ → Bool → WordOutcome
store_if program l n r a value true = record (store program l n Word a value (region_of a)) {
  lane = set_register (store program l n Word a value (region_of a)).lane r 0;
  local = record (store program l n Word a value (region_of a)).local { reservation = None };
  access = WritesIf a value true;
}
store_if program l n r a value false = record (only_moves (set_register l r 1) n Next) {
  local = record n { reservation = None };
  access = WritesIf a value false;
}

-- the register gets the old word, and the address what the operation makes of it
abbrev pub update : Program → ProcessorState → NodeMemory → AmoOp → ℕ → ℕ → ℕ → ℕ → WordOutcome
update program l n o r a value old =
    record (store program l n Word a (amo o old value) (region_of a)) {
      lane = set_register (store program l n Word a (amo o old value) (region_of a)).lane r old;
      access = Exchanges a old (amo o old value);
    }

-- a native instruction at an address of a place's sequence. No sequence has one that calls or traps
abbrev pub native : Program → ℕ → ℕ → ProcessorState → NodeMemory → Demand → WordOutcome
native program place at l n (Sets r value) = only_moves (set_register l r value) n Next
native program place at l n Continues = only_moves l n Next
native program place at l n (Jumps r target) =
    if target % 4 == 0 then only_moves (set_register l r (next_pc at)) n (To target)
    else exit_by l n (Misaligned place)
native program place at l n (Branches target) =
    if target % 4 == 0 then only_moves l n (To target) else exit_by l n (Misaligned place)
native program place at l n (Loads k r a) =
    if is_aligned (width_of k) a then load program l n k r a (region_of a)
    else exit_by l n (Misaligned place)
native program place at l n (Stores w a value) =
    if is_aligned w a then store program l n w a value (region_of a)
    else exit_by l n (Misaligned place)
native program place at l n Calls = exit_by l n (Fetch at)
native program place at l n (Traps e) = exit_by l n (Fetch at)
native program place at l n (Reserves r a) =
    if is_aligned Word a then reserving a (load program l n WordLoad r a (region_of a))
    else exit_by l n (Misaligned place)
native program place at l n (StoresIf r a value) =
    if is_aligned Word a then store_if program l n r a value (holds n.reservation a)
    else exit_by l n (Misaligned place)
native program place at l n (Updates o r a value) =
    if is_aligned Word a
    then update program l n o r a value (load_value WordLoad (byte_at program l n) a)
    else exit_by l n (Misaligned place)

-- a miss check for reading, by the line's state: not mapped, readable after all, or to be waited
-- for
abbrev pub miss_r_by : ℕ → ℕ → ProcessorState → NodeMemory → ℕ → WordOutcome
miss_r_by state place l n a =
    if is_mapped_state state then
    (if is_readable_state state then record (only_moves l n Next) { tally = FalseMiss }
    else only_moves l n (Waits PastWord (record { at = a; need = Read }) []))
    else exit_by l n (NoAccess place)

abbrev pub miss_r : ℕ → ProcessorState → NodeMemory → Width → ℕ → WordOutcome
miss_r place l n w a =
    if is_aligned w a then miss_r_by (n.state (line_of a)) place l n a
    else exit_by l n (Misaligned place)

-- a miss check for writing: not to be written by anyone, writable, or to be waited for
abbrev pub miss_w_by : ℕ → ℕ → ProcessorState → NodeMemory → ℕ → WordOutcome
miss_w_by state place l n a =
    if is_fixed_state state then exit_by l n (NoAccess place)
    else (if is_writable_state state then only_moves l n Next
    else only_moves l n (Waits PastWord (record { at = a; need = Write }) []))

abbrev pub miss_w : ℕ → ProcessorState → NodeMemory → Width → ℕ → WordOutcome
miss_w place l n w a =
    if is_aligned w a then miss_w_by (n.state (line_of a)) place l n a
    else exit_by l n (Misaligned place)

-- what comes before a conditional store, by the line's state: not to be written by anyone; or to be
-- waited for, where the address is reserved and the line isn't writable
abbrev pub prepare_by : ℕ → ℕ → ProcessorState → NodeMemory → ℕ → WordOutcome
prepare_by state place l n a =
    if is_fixed_state state then exit_by l n (NoAccess place)
    else (if holds n.reservation a && not (is_writable_state state)
    then only_moves l n (Waits PastWord (record { at = a; need = Write }) [])
    else only_moves l n Next)

abbrev pub prepare : ℕ → ProcessorState → NodeMemory → ℕ → WordOutcome
prepare place l n a =
    if is_aligned Word a then prepare_by (n.state (line_of a)) place l n a
    else exit_by l n (Misaligned place)

-- the state byte of a line meets a need
abbrev pub meets_need : Need → ℕ → Bool
meets_need Read state = is_readable_state state
meets_need Write state = is_writable_state state

-- it says that the need can't be met by any message: the line isn't mapped, or nobody may write it
abbrev pub refuses_need : Need → ℕ → Bool
refuses_need Read state = not (is_mapped_state state)
refuses_need Write state = is_fixed_state state

-- the lines of two addresses meet a need, or one of them refuses it
abbrev pub both_meet : NodeMemory → Need → ℕ → ℕ → Bool
both_meet n need low high =
    meets_need need (n.state (line_of low)) && meets_need need (n.state (line_of high))

abbrev pub one_refuses : NodeMemory → Need → ℕ → ℕ → Bool
one_refuses n need low high =
    refuses_need need (n.state (line_of low)) || refuses_need need (n.state (line_of high))

-- what a batch wants of the line of an address
abbrev pub unmet : NodeMemory → Need → ℕ → List Want
unmet n need a =
    if meets_need need (n.state (line_of a)) then [] else record { at = a; need = need } ∷ []

-- the batch's run goes on by its fast part, past the next word; or by its single sequences, to
-- which the next word leads
abbrev pub past_next : ℕ → ℕ
past_next at = next_pc (next_pc at)

abbrev pub fall_back : ProcessorState → NodeMemory → WordOutcome
fall_back l n = record (only_moves l n Next) { tally = FallsBack }

abbrev pub batch_by : ProcessorState → NodeMemory → Need → ℕ → ℕ → List Want → WordOutcome
batch_by l n need low high [] = only_moves l n (To (past_next l.at))
batch_by l n need low high (want ∷ more) = only_moves l n (Waits (ByLines need low high) want more)

-- the check of a run that reaches from one address to another: where a line refuses the need the
-- run falls back; else each line that doesn't meet it is wanted
abbrev pub batch : ProcessorState → NodeMemory → Need → ℕ → ℕ → WordOutcome
batch l n need low high =
    if one_refuses n need low high then fall_back l n
    else batch_by l n need low high (unmet n need low ++ unmet n need high)

abbrev pub need_of_run : Bool → Need
need_of_run stores = if stores then Write else Read

-- an indirect jump at a place: the register gets the next original address
abbrev pub indirect : ℕ → ProcessorState → NodeMemory → ℕ → ℕ → WordOutcome
indirect place l n rd target =
    if target % 4 == 0 then only_moves (set_register l rd (next_pc place)) n (Enters target)
    else exit_by l n (Misaligned place)

abbrev pub place_address : Option Place → ℕ
place_address place = option_map_or (λ p. p.address) place 0

-- what executing a word of a place, which stands at this address, does
abbrev pub execute : Program → ℕ → ℕ → RtWord → ProcessorState → NodeMemory → WordOutcome
execute program place at (Native i) l n =
    native program place at l n (demand_of i l.registers at)
execute program place at (MissR w rs1 imm) l n =
    miss_r place l n w (offset_address (reg l.registers rs1) imm)
execute program place at (MissW w rs1 imm) l n =
    miss_w place l n w (offset_address (reg l.registers rs1) imm)
execute program place at Poll l n = only_moves l n Next
execute program place at Call l n = make_call program l n (call_step l.registers l.written)
execute program place at (Xjalr rd rs1 imm) l n =
    indirect place l n rd (offset_address (reg l.registers rs1) imm / 2 * 2)
execute program place at (Batch stores low high) l n =
    batch l n (need_of_run stores) (reg l.registers low) (reg l.registers high)
execute program place at (Prepare rs1) l n =
    prepare place l n (offset_address (reg l.registers rs1) (pos 0))
execute program place at (Far k) l n = only_moves l n (To (address_of_word k))
execute program place at TrapFetch l n = exit_by l n (Fetch place)
execute program place at TrapOff l n = exit_by l n (Fetch l.off)
execute program place at TrapIllegal l n = exit_by l n (Illegal place)
execute program place at TrapEbreak l n = exit_by l n (Ebreak place)

-- a word that isn't there, or isn't one of rewritten code, ends the processor
abbrev pub execute_read : Program → Option Place → Option RtWord → ProcessorState → NodeMemory
    → WordOutcome
execute_read program place None l n = exit_by l n (Fetch l.at)
execute_read program place (Some w) l n = execute program (place_address place) l.at w l n

abbrev pub execute_at : Program → Option ImageWord → ProcessorState → NodeMemory → WordOutcome
execute_at program None l n = exit_by l n (Fetch l.at)
execute_at program (Some w) l n = execute_read program w.place w.what l n

-- what the next word does
abbrev pub next_outcome : Program → List Cell → ProcessorState → NodeMemory → WordOutcome
next_outcome program image l n = execute_at program (fetch image l.at) l n

-- an original address is entered at its sequence; where it is no place it is kept, and word 0
-- follows
abbrev pub enter : ProcessorState → ℕ → Option ℕ → ProcessorState
enter l original (Some new) = record l { at = new }
enter l original None = record l { at = image_base; off = original }

-- the processor at the word that follows a wait, by its node's lines then
abbrev pub lane_resumed : ProcessorState → NodeMemory → Resume → ProcessorState
lane_resumed l n PastWord = record l { at = next_pc l.at }
lane_resumed l n SameWord = l
lane_resumed l n (ByLines need low high) =
    record l { at = if both_meet n need low high then past_next l.at else next_pc l.at }

-- what is counted where a wait is over
abbrev pub tally_resumed : NodeMemory → Resume → Tally
tally_resumed n (ByLines need low high) =
    if both_meet n need low high then Nothing_counted else FallsBack
tally_resumed n resume = Nothing_counted

-- the processor after its word; one that waits stays at it until it has what it wants
abbrev pub lane_after : List Cell → ProcessorState → Move → ProcessorState
lane_after image l Next = record l { at = next_pc l.at }
lane_after image l Again = l
lane_after image l (To address) = record l { at = address }
lane_after image l (Enters original) = enter l original (new_of image original)
lane_after image l (Waits resume want more) = l
lane_after image l (Leaves e) = l

-- whether a processor runs, has just got what it waited for, waits for blocks, or has ended
pub data Phase : Type 0 where
  Running : Phase
  Resumed : Phase
  Waiting : (resume : Resume) → Phase
  Ended : (end : End) → Phase

-- a processor that has executed so many words, its budget, with nothing pending, is stopped
abbrev pub stop_or : ℕ → ℕ → Phase → Phase
stop_or budget executed phase = if executed == budget then Ended (Stopped budget) else phase

abbrev pub stop_at : ℕ → ℕ → Phase
stop_at budget executed = stop_or budget executed Running

-- the phase of a processor that has executed so many words, after the last one's move
abbrev pub phase_after : ℕ → ℕ → Move → Phase
phase_after budget executed (Leaves e) = Ended (Exited e)
phase_after budget executed (Waits resume want more) = Waiting resume
phase_after budget executed move = stop_at budget executed

abbrev pub end_of : Phase → Option End
end_of (Ended e) = Some e
end_of phase = None

abbrev pub can_execute : Phase → Bool
can_execute Running = true
can_execute Resumed = true
can_execute phase = false

abbrev pub no_counts : NodeCounts
no_counts = record {
  read = 0;
  exclusive = 0;
  upgrade = 0;
  falses = 0;
  invalidations = 0;
  fallbacks = 0;
  messages = 0;
}

-- the counts after a word, or after a wait
abbrev pub counts_after : Tally → NodeCounts → NodeCounts
counts_after Nothing_counted c = c
counts_after FalseMiss c = record c { falses = c.falses + 1 }
counts_after FallsBack c = record c { fallbacks = c.fallbacks + 1 }

-- a node: its number; its processor's part, what words see of the node, how many words its
-- processor has executed, and whether it goes on; for the protocol the entries of the blocks whose
-- home it is, the requests for these that wait there, how many they are in all, and what it waits
-- for itself; the nodes whose Byes it has taken; the stamp of its last event; and what is kept of
-- its events: the takes, the bytes printed, and the counts
pub record Node : Type 0 where
  pub me : ℕ
  pub lane : ProcessorState
  pub local : NodeMemory
  pub executed : ℕ
  pub phase : Phase
  pub entry : ℕ → DirectoryEntry
  pub waiting : ℕ → List Request
  pub occupancy : ℕ
  pub wait : ℕ → Option Wait
  pub byes : ℕ → Bool
  pub stamp : ℕ
  pub journal : List JournalEntry
  pub output : List OutByte
  pub counts : NodeCounts

-- what the nodes run: rewritten code of a program, on the nodes of a layout of its shared lines, at
-- most so many words on each
pub record Work : Type 0 where
  pub program : Program
  pub image : List Cell
  pub layout : Shape
  pub budget : ℕ

abbrev pub first_lane : Work → ℕ → ProcessorState
first_lane work me = record {
  registers = registers_of (first_values me work.layout.nodes);
  at = unwrap_or (new_of work.image work.program.entry) 0;
  private = λ _. 0;
  written = 0;
  off = 0;
  spills = λ _. 0;
}

-- the shared lines of the layout are those of the program
abbrev pub IsLaidOver : Program → Shape → Type 0
IsLaidOver program layout =
    (line : ℕ) → (program.class line ≡ Shared) ↔ (is_shared layout line ≡ true)

-- the line is in a block whose home is this node
abbrev pub is_at_home : Shape → (me line : ℕ) → Bool
is_at_home layout me line = option_map_or (λ b. home layout b == me) (block_of layout line) false

-- the copy has the first contents of the blocks at home, and flag words in the others
abbrev pub first_local : Work → ℕ → NodeMemory
first_local work me = record {
  copy = λ a. if is_at_home work.layout me (line_of a) then work.program.first a else flag_byte a;
  state = λ line. first_state (work.program.class line) (is_at_home work.layout me line);
  reservation = None;
}

-- node number me at the start
abbrev pub opening_node : Work → ℕ → Node
opening_node work me = record {
  me = me;
  lane = first_lane work me;
  local = first_local work me;
  executed = 0;
  phase = Running;
  entry = λ b. first_entry me;
  waiting = λ b. [];
  occupancy = 0;
  wait = λ b. None;
  byes = λ j. false;
  stamp = 0;
  journal = [];
  output = [];
  counts = no_counts;
}

-- what a node's next word does
abbrev pub word_outcome : Work → Node → WordOutcome
word_outcome work n = next_outcome work.program work.image n.lane n.local

-- a word at which a node may take messages: a poll, or a call
abbrev pub takes_messages : Option RtWord → Bool
takes_messages (Some Poll) = true
takes_messages (Some Call) = true
takes_messages word = false

abbrev pub is_at_poll : Work → Node → Bool
is_at_poll work n = takes_messages (option_and_then (λ w. w.what) (fetch work.image n.lane.at))

-- a Bye of every node was taken
abbrev pub has_all_byes : Work → Node → Bool
has_all_byes work n = count_of n.byes work.layout.nodes == work.layout.nodes

abbrev pub standing_in : Work → Node → Phase → Standing
standing_in work n Running = if is_at_poll work n then standing.AtPoll else standing.Running
standing_in work n Resumed = standing.Running
standing_in work n (Waiting resume) = standing.Waiting
standing_in work n (Ended end) = if has_all_byes work n then standing.Over else standing.Ended

-- what a node may do next: a node that runs may execute a word, and take a message before where the
-- word lets it and it hasn't just got what it waited for there; one that waits or has ended may
-- take messages, until it has those of all nodes that they have ended
abbrev pub standing_of : Work → Node → Standing
standing_of work n = standing_in work n n.phase

-- the bytes printed, with one more
abbrev pub printed_also : List OutByte → ℕ → Option ℕ → List OutByte
printed_also output stamp None = output
printed_also output stamp (Some byte) = output ++ (record { stamp = stamp; byte = byte }) ∷ []

-- the node after its next word, before what the word wants is asked for
abbrev pub word_step : Work → Node → Node
word_step work n = record n {
  lane = lane_after work.image (word_outcome work n).lane (word_outcome work n).move;
  local = (word_outcome work n).local;
  executed = n.executed + 1;
  phase = phase_after work.budget (n.executed + 1) (word_outcome work n).move;
  stamp = n.stamp + 1;
  output = printed_also n.output (n.stamp + 1) (word_outcome work n).printed;
  counts = counts_after (word_outcome work n).tally n.counts;
}
