-- One word of each kind that sequences have.
use Rattle.std.proofs.Common.{◌≡◌, ◌≢◌, ℕ, zero, suc, not, Some, ◌+◌, ◌-◌, ◌%◌, ◌^◌, ◌<◌, true, false, eqb, ltb, if◌then◌else◌, ◌==◌, refl, sym, ap, ◌∙◌, arith}
use Rattle.std.proofs.lemmas.Bool.Decides.{nat_tests}
use Rattle.rv32_decode.specs.declared.LoadKind.{LoadKind}
use Rattle.rv32_decode.specs.declared.LoadKind.TheVariants.{ByteU}
use Rattle.rv32_decode.specs.declared.LoadKind.TheVariants.{Word as WordLoad}
use Rattle.rv32_decode.specs.declared.Width.{Width}
use Rattle.rv32_decode.specs.declared.Width.TheVariants.{Byte, Word}
use Rattle.rv32_decode.specs.Widths.{is_aligned, width_of}
use Rattle.rv32_program.specs.Program.{Program}
use Rattle.node_memory.specs.rv32_step.Memory.{load_value}
use Rattle.node_memory.specs.rv32_step.Registers.{reg, put}
use Rattle.node_memory.specs.rv32_step.OneMemory.{next_pc}
use Rattle.node_memory.specs.rv32_step.declared.Demand.TheVariants.{Branches, Continues, Jumps, Loads, Sets, Stores}
use Rattle.node_memory.specs.micro_op.declared.micro_op.MicroOp.{MicroOp}
use Rattle.node_memory.specs.micro_op.declared.MicroKind.TheVariants as kind
use Rattle.node_memory.specs.micro_op.Micro.{Demands, meaning_of}
use Rattle.node_memory.specs.jump_map.Image.{image_base}
use Rattle.node_memory.specs.jump_map.Strides.{StandsAt, op_of, spill_address}
use Rattle.node_memory.specs.node_model.Node.{ProcessorState, NodeMemory, Memory, Spill, byte_at, load, native, region_of, local_stored, lane_stored}
use Rattle.node_words.specs.Address.{word_address}
use Rattle.node_memory.proofs.MemoryLemmas.{memory_region}
use Rattle.node_words.proofs.StepLemmas.{put_zero}
use Rattle.node_words.specs.Runs.{reads_other}
use Rattle.node_words.proofs.ReachLemmas.{Code, Reaches, ReachesTold, reaches_by, reaches_telling}
use Rattle.node_words.proofs.RegisterLemmas.{reg_zero}

-- a processor with these registers and spill words, at the word of a number
abbrev pub lane_at : ProcessorState → (registers spills : ℕ → ℕ) → ℕ → ProcessorState
lane_at l f g k = record l { registers = f; spills = g; at = word_address k }

next_word : (k n : ℕ) → n ≡ k + 1 → word_address n ≡ next_pc (word_address k)
next_word k n behind = omega (arith, behind)

-- a register gets a value
pub sets : (c : Code) (k n : ℕ) (op : MicroOp) (r v : ℕ) (l : ProcessorState) (m : NodeMemory) (f g f' : ℕ → ℕ)
    → n ≡ k + 1 → StandsAt c.micros k op → meaning_of image_base op f ≡ Demands (Sets r v) → f' ≡ put f r v
    → Reaches c k 1 (lane_at l f g k) m (lane_at l f' g n) m
sets c k n op r v l m f g f' behind stands means is =
    reaches_by c k op (lane_at l f g k) m (lane_at l f' g n) m (Sets r v) stands refl means (λ place. record {
      lane = λ t. record l { registers = is t; spills = g; at = next_word k n behind t };
      local = refl;
      output = refl;
      tally = refl;
      phase = λ budget executed. refl;
      wants = refl;
    })

-- nothing changes
pub passes : (c : Code) (k n : ℕ) (op : MicroOp) (l : ProcessorState) (m : NodeMemory) (f g : ℕ → ℕ)
    → n ≡ k + 1 → StandsAt c.micros k op → meaning_of image_base op f ≡ Demands Continues
    → Reaches c k 1 (lane_at l f g k) m (lane_at l f g n) m
passes c k n op l m f g behind stands means =
    reaches_by c k op (lane_at l f g k) m (lane_at l f g n) m Continues stands refl means (λ place. record {
      lane = λ t. record l { registers = f; spills = g; at = next_word k n behind t };
      local = refl;
      output = refl;
      tally = refl;
      phase = λ budget executed. refl;
      wants = refl;
    })

-- the word of a number follows

pub is_place : (to : ℕ) → eqb (word_address to % 4) 0 ≡ true
is_place to = let rest : word_address to % 4 ≡ 0 = omega arith in grind (arith, nat_tests)

pub branches_to : (c : Code) (k to : ℕ) (op : MicroOp) (l : ProcessorState) (m : NodeMemory) (f g : ℕ → ℕ)
    → StandsAt c.micros k op → meaning_of image_base op f ≡ Demands (Branches (word_address to))
    → Reaches c k 1 (lane_at l f g k) m (lane_at l f g to) m
branches_to c k to op l m f g stands means =
    reaches_by c k op (lane_at l f g k) m (lane_at l f g to) m (Branches (word_address to)) stands refl means
    (λ place. rw (is_place to) (record {
      lane = refl;
      local = refl;
      output = refl;
      tally = refl;
      phase = λ budget executed. refl;
      wants = refl;
    }))

pub jumps_to : (c : Code) (k to : ℕ) (op : MicroOp) (l : ProcessorState) (m : NodeMemory) (f g : ℕ → ℕ)
    → StandsAt c.micros k op → meaning_of image_base op f ≡ Demands (Jumps 0 (word_address to))
    → Reaches c k 1 (lane_at l f g k) m (lane_at l f g to) m
jumps_to c k to op l m f g stands means =
    reaches_by c k op (lane_at l f g k) m (lane_at l f g to) m (Jumps 0 (word_address to)) stands refl means
    (λ place. rw (is_place to) (record {
      lane = λ t. record l { registers = sym (put_zero f (next_pc (word_address k))) t; spills = g; at = word_address to };
      local = refl;
      output = refl;
      tally = refl;
      phase = λ budget executed. refl;
      wants = refl;
    }))

-- a register gets what a load of memory gives
pub loads_memory : (c : Code) (k n : ℕ) (op : MicroOp) (q : LoadKind) (r a v : ℕ) (l : ProcessorState) (m : NodeMemory)
    (f g : ℕ → ℕ) → n ≡ k + 1 → StandsAt c.micros k op → meaning_of image_base op f ≡ Demands (Loads q r a)
    → is_aligned (width_of q) a ≡ true → a < 2 ^ 31 → v ≡ load_value q (byte_at c.program (lane_at l f g k) m) a
    → Reaches c k 1 (lane_at l f g k) m (lane_at l (put f r v) g n) m
loads_memory c k n op q r a v l m f g behind stands means aligned low is =
    reaches_by c k op (lane_at l f g k) m (lane_at l (put f r v) g n) m (Loads q r a) stands refl means
    (λ place. rw (aligned, memory_region a low) (record {
      lane = λ t. record l { registers = put f r (is t); spills = g; at = next_word k n behind t };
      local = refl;
      output = refl;
      tally = refl;
      phase = λ budget executed. refl;
      wants = refl;
    }))

-- and reads something other than the flag word
pub load_reads : (p : Program) (place at r a v : ℕ) (l : ProcessorState) (m : NodeMemory) → is_aligned Word a ≡ true
    → a < 2 ^ 31 → v ≡ load_value WordLoad (byte_at p l m) a → v ≢ 0xffffff03
    → reads_other (native p place at l m (Loads WordLoad r a)) ≡ true
load_reads p place at r a v l m aligned low value unlike =
    let test : ltb a (2 ^ 31) ≡ true = grind (arith, nat_tests) in
    let apart : eqb v 0xffffff03 ≡ false = grind (arith, nat_tests) in
    let loaded : native p place at l m (Loads WordLoad r a) ≡ load p l m WordLoad r a Memory = rw aligned (rw test refl) in
    ap reads_other loaded ∙ ap (λ (x : ℕ). not (eqb x 0xffffff03)) (sym value) ∙ ap not apart

pub loads_other : (c : Code) (k n : ℕ) (op : MicroOp) (r a v : ℕ) (l : ProcessorState) (m : NodeMemory) (f g : ℕ → ℕ)
    → n ≡ k + 1 → StandsAt c.micros k op → meaning_of image_base op f ≡ Demands (Loads WordLoad r a)
    → is_aligned Word a ≡ true → a < 2 ^ 31 → v ≡ load_value WordLoad (byte_at c.program (lane_at l f g k) m) a
    → v ≢ 0xffffff03 → ReachesTold (Some k) c k 1 (lane_at l f g k) m (lane_at l (put f r v) g n) m
loads_other c k n op r a v l m f g behind stands means aligned low is unlike =
    reaches_telling c k op (lane_at l f g k) m (lane_at l (put f r v) g n) m (Loads WordLoad r a) stands refl means
    (λ place. rw (aligned, memory_region a low) (record {
      lane = λ t. record l { registers = put f r (is t); spills = g; at = next_word k n behind t };
      local = refl;
      output = refl;
      tally = refl;
      phase = λ budget executed. refl;
      wants = refl;
    }))
    (λ place. load_reads c.program place (word_address k) r a v (lane_at l f g k) m aligned low is unlike)

-- a register gets the state byte of a line
pub loads_state : (c : Code) (k n : ℕ) (op : MicroOp) (r line : ℕ) (l : ProcessorState) (m : NodeMemory) (f g f' : ℕ → ℕ)
    → n ≡ k + 1 → StandsAt c.micros k op → meaning_of image_base op f ≡ Demands (Loads ByteU r (0x80000000 + line)) → line < 2 ^ 26
    → f' ≡ put f r (m.state line) → Reaches c k 1 (lane_at l f g k) m (lane_at l f' g n) m
loads_state c k n op r line l m f g f' behind stands means few is =
    let a = 0x80000000 + line in
    let whole : a % 1 ≡ 0 = omega arith in
    let aligned : is_aligned Byte a ≡ true = grind (arith, nat_tests) in
    let t1 : ltb a 2147483648 ≡ false = grind (arith, nat_tests) in
    let t2 : ltb a 2214592512 ≡ true = grind (arith, nat_tests) in
    let same : a - 2147483648 ≡ line = omega arith in
    reaches_by c k op (lane_at l f g k) m (lane_at l f' g n) m (Loads ByteU r a) stands refl means
    (λ place. rw (aligned, t1, t2, same) (record {
      lane = λ t. record l { registers = is t; spills = g; at = next_word k n behind t };
      local = refl;
      output = refl;
      tally = refl;
      phase = λ budget executed. refl;
      wants = refl;
    }))

-- a word is stored into memory
pub stores_memory : (c : Code) (k n : ℕ) (op : MicroOp) (w : Width) (a v : ℕ) (l : ProcessorState) (m : NodeMemory)
    (f g : ℕ → ℕ) → n ≡ k + 1 → StandsAt c.micros k op → meaning_of image_base op f ≡ Demands (Stores w a v)
    → is_aligned w a ≡ true → a < 2 ^ 31
    → Reaches c k 1 (lane_at l f g k) m (lane_at (lane_stored c.program l w a v) f g n) (local_stored c.program m w a v)
stores_memory c k n op w a v l m f g behind stands means aligned low =
    reaches_by c k op (lane_at l f g k) m _ (local_stored c.program m w a v) (Stores w a v) stands refl means
    (λ place. rw (aligned, memory_region a low) (record {
      lane = λ t. record (lane_stored c.program l w a v) { registers = f; spills = g; at = next_word k n behind t };
      local = refl;
      output = refl;
      tally = refl;
      phase = λ budget executed. refl;
      wants = refl;
    }))

-- the spill words

record IsSpillWord (i : ℕ) : Type 0 where
  address : (0 + spill_address i) % 4294967296 ≡ spill_address i
  aligned : is_aligned Word (spill_address i) ≡ true
  region : region_of (spill_address i) ≡ Spill i

spill_word : (i : ℕ) → i < 3 → IsSpillWord i
spill_word zero few = record { address = refl; aligned = refl; region = refl }
spill_word (suc zero) few = record { address = refl; aligned = refl; region = refl }
spill_word (suc (suc zero)) few = record { address = refl; aligned = refl; region = refl }
spill_word (suc (suc (suc n))) few = absurd (omega (arith, few))

-- a register is kept in one
pub keeps : (c : Code) (k n i r : ℕ) (l : ProcessorState) (m : NodeMemory) (f g : ℕ → ℕ) → n ≡ k + 1 → i < 3
    → StandsAt c.micros k (op_of kind.StoreWord 0 0 r (spill_address i))
    → Reaches c k 1 (lane_at l f g k) m (lane_at l f (λ j. if j == i then reg f r else g j) n) m
keeps c k n i r l m f g behind few stands =
    let is = spill_word i few in
    let a = spill_address i in
    reaches_by c k _ (lane_at l f g k) m (lane_at l f (λ j. if j == i then reg f r else g j) n) m
    (Stores Word a (reg f r)) stands refl
    ((λ t. Demands (Stores Word ((reg_zero f t + a) % 4294967296) (reg f r)))
    ∙ ap (λ (x : ℕ). Demands (Stores Word x (reg f r))) is.address)
    (λ place. rw (is.aligned, is.region) (record {
      lane = λ t. record l { registers = f; spills = λ j. if j == i then reg f r else g j; at = next_word k n behind t };
      local = refl;
      output = refl;
      tally = refl;
      phase = λ budget executed. refl;
      wants = refl;
    }))

-- and taken back
pub takes : (c : Code) (k n i r : ℕ) (l : ProcessorState) (m : NodeMemory) (f g f' : ℕ → ℕ) → n ≡ k + 1 → i < 3
    → StandsAt c.micros k (op_of kind.LoadWord r 0 0 (spill_address i)) → f' ≡ put f r (g i)
    → Reaches c k 1 (lane_at l f g k) m (lane_at l f' g n) m
takes c k n i r l m f g f' behind few stands same =
    let is = spill_word i few in
    let a = spill_address i in
    reaches_by c k _ (lane_at l f g k) m (lane_at l f' g n) m (Loads WordLoad r a) stands refl
    ((λ t. Demands (Loads WordLoad r ((reg_zero f t + a) % 4294967296)))
    ∙ ap (λ (x : ℕ). Demands (Loads WordLoad r x)) is.address)
    (λ place. rw (is.aligned, is.region) (record {
      lane = λ t. record l { registers = same t; spills = g; at = next_word k n behind t };
      local = refl;
      output = refl;
      tally = refl;
      phase = λ budget executed. refl;
      wants = refl;
    }))
