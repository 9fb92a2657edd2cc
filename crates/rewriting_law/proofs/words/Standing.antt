-- Where a node stands between two words, beside the processor that it follows.
use Rattle.std.proofs.Common.{◌≡◌, ℕ, suc, ◌+◌, ◌%◌, ◌^◌, ◌<◌, Bool, true, false, List, [], ◌∷◌, ◌++◌, length, Option, Some, None, refl, sym, ap, ◌∙◌, inl, inr, arith, length-append}
use Rattle.std.specs.Prelude.{ℤ, slice_get}
use Rattle.std.proofs.lemmas.Bool.Decides.{leb_tells}
use Rattle.rewriting_law.proofs.Names.{signed, Cond, LoadKind, Instr, Lui, Auipc, Jal, Jalr, Branch, Load, Store, OpImm, ShiftImm, Op, Fence, Ecall, Ebreak, Lr, Sc, Amo, Illegal, offset_address, Program, IsAccepted, Processor, next_pc, PlanEntry, Scratches, is_flag_checked, Serves, SequenceItem, instruction_items, place_items, poll_first, items_of, spills, spill, spill_by, load_sequence, branch_sequence, jump_sequence, is_multiple_of_four, Cell, IsRewriting, image_base, distance, ProcessorState, NodeMemory}
use Rattle.rewriting_law.proofs.words.Plans.{EntrySplit, is_contained}
use Rattle.rewriting_law.proofs.words.Fetching.{word_address, in_range, next_word}
use Rattle.rewriting_law.proofs.words.Spots.{Spot, kind_of, sequence, number, next_number, spot}
use Rattle.rewriting_law.proofs.templates.Does.{Does, place_of}

pub get_middle : {X : Type 0} (xs : List X) (y : X) (ys : List X)
    → slice_get (xs ++ y ∷ ys) (length xs) ≡ Some y
get_middle [] y ys = refl
get_middle (x ∷ xs) y ys = get_middle xs y ys

-- every single sequence has a word
some_spill : (b : Bool) (k r : ℕ) (rest : List SequenceItem) → 0 < length rest
    → 0 < length (spill_by b k r rest)
some_spill true k r rest h = omega arith
some_spill false k r rest h = h

some_spills : (regs : Scratches) (rest : List SequenceItem) → 0 < length rest
    → 0 < length (spills regs rest)
some_spills regs rest h =
    some_spill regs.s.spilled 0 regs.s.register (spill 1 regs.t rest)
    (some_spill regs.t.spilled 1 regs.t.register rest h)

some_load : (by_value : Bool) (regs : Scratches) (k : LoadKind) (rd rs1 : ℕ) (imm : ℤ)
    → 0 < length (load_sequence by_value regs k rd rs1 imm)
some_load true regs k rd rs1 imm = some_spill regs.s.spilled 0 regs.s.register _ (omega arith)
some_load false regs k rd rs1 imm = some_spills regs _ (omega arith)

some_branch : (b : Bool) (c : Cond) (rs1 rs2 target : ℕ)
    → 0 < length (branch_sequence b c rs1 rs2 target)
some_branch true c rs1 rs2 target = omega arith
some_branch false c rs1 rs2 target = omega arith

some_jump : (b : Bool) (rd next target : ℕ) → 0 < length (jump_sequence b rd next target)
some_jump true rd next target = omega arith
some_jump false rd next target = omega arith

some_instruction_items : (a : ℕ) (regs : Scratches) (i : Instr)
    → 0 < length (instruction_items a regs i)
some_instruction_items a regs (Lui rd upper) = omega arith
some_instruction_items a regs (Auipc rd upper) = omega arith
some_instruction_items a regs (Jal rd offset) =
    some_jump (is_multiple_of_four (offset_address a offset)) rd ((a + 4) % 2 ^ 32)
    (offset_address a offset)
some_instruction_items a regs (Jalr rd rs1 imm) = omega arith
some_instruction_items a regs (Branch c rs1 rs2 offset) =
    some_branch (is_multiple_of_four (offset_address a offset)) c rs1 rs2 (offset_address a offset)
some_instruction_items a regs (Load k rd rs1 imm) =
    some_load (is_flag_checked k rd rs1) regs k rd rs1 imm
some_instruction_items a regs (Store w rs1 rs2 imm) = some_spills regs _ (omega arith)
some_instruction_items a regs (OpImm o rd rs1 imm) = omega arith
some_instruction_items a regs (ShiftImm o rd rs1 amount) = omega arith
some_instruction_items a regs (Op o rd rs1 rs2) = omega arith
some_instruction_items a regs (Fence rd rs1 bits) = omega arith
some_instruction_items a regs Ecall = omega arith
some_instruction_items a regs Ebreak = omega arith
some_instruction_items a regs (Lr rd rs1 aq rl) = some_spills regs _ (omega arith)
some_instruction_items a regs (Sc rd rs1 rs2 aq rl) = omega arith
some_instruction_items a regs (Amo o rd rs1 rs2 aq rl) = some_spills regs _ (omega arith)
some_instruction_items a regs (Illegal word) = omega arith

some_place_items : (a : ℕ) (regs : Scratches) (o : Option Instr) → 0 < length (place_items a regs o)
some_place_items a regs None = omega arith
some_place_items a regs (Some i) = some_instruction_items a regs i

some_poll : (b : Bool) (items : List SequenceItem) → 0 < length items
    → 0 < length (poll_first b items)
some_poll true items h = omega arith
some_poll false items h = h

pub some_items : (e : PlanEntry) (o : Option Instr) → 0 < length (items_of e o)
some_items e o =
    some_poll e.polls (place_items e.address e.single o) (some_place_items e.address e.single o)

-- a jump reaches the address that it is made for
pub reaches : (at target : ℕ) → at < 2 ^ 32 → target < 2 ^ 32
    → offset_address at (signed 32 (distance at target)) ≡ target
reaches at target low high = elim (leb_tells (suc (distance at target)) (2 ^ 31)) [
  | inl f ↦ rw f.0 (omega arith)
  | inr f ↦ rw f.0 (omega arith)
]

module _ (program : Program) (plan : List PlanEntry) (image : List Cell)
    (accepted : IsAccepted program) (rewriting : IsRewriting program plan image) where
  -- the node stands at a word of one of a place's sequences, and the words from there on make the
  -- processor's next steps
  pub record Stands (q : Processor) (l : ProcessorState) (n : NodeMemory) : Type 0 where
    pub place : ℕ
    pub entry : EntrySplit plan place
    -- the batch of the run that starts there, or the place's own sequence
    pub in_batch : Bool
    pub before : List SequenceItem
    pub item : SequenceItem
    pub after : List SequenceItem
    pub split : sequence program in_batch entry.entry ≡ before ++ item ∷ after
    pub at : l.at ≡ word_address program entry (number program in_batch entry.entry (length before))
    pub does : Does program (kind_of program in_batch entry.entry) place (length before)
        (word_address program entry (number program in_batch entry.entry (length before)))
        (item ∷ after) 0 q l n

  -- or at word 0, where its processor is at an address without a code word
  pub record Off (q : Processor) (l : ProcessorState) : Type 0 where
    pub at : l.at ≡ image_base
    pub off : l.off ≡ q.pc
    pub no_code : program.code q.pc ≡ None

  pub serves : {a : ℕ} (f : EntrySplit plan a) → Serves program.code f.entry
  serves f = rewriting.admissible.serves f.entry (is_contained f)

  -- the address of a word of one of a place's sequences
  abbrev pub address_of : {a : ℕ} → EntrySplit plan a → Bool → ℕ → ℕ
  address_of f b k = word_address program f (number program b f.entry k)

  -- where such a word stands
  pub spot_of : {a : ℕ} (f : EntrySplit plan a) (b : Bool) (k : ℕ) (i : SequenceItem)
      → slice_get (sequence program b f.entry) k ≡ Some i
      → Spot program f.entry (place_of (kind_of program b f.entry) f.entry.address k)
      (number program b f.entry k) i
  spot_of f b k i there = spot program f.entry k i b (serves f).run there

  pub item_there : {q : Processor} {l : ProcessorState} {n : NodeMemory} (st : Stands q l n)
      → slice_get (sequence program st.in_batch st.entry.entry) (length st.before) ≡ Some st.item
  item_there st =
      ap (λ xs. slice_get xs (length st.before)) st.split ∙ get_middle st.before st.item st.after

  -- the word behind
  pub next_at : (a : ℕ) (f : EntrySplit plan a) (b : Bool) (before : List SequenceItem)
      (i : SequenceItem) (is : List SequenceItem)
      → sequence program b f.entry ≡ before ++ i ∷ is
      → next_pc (address_of f b (length before)) ≡ address_of f b (length (before ++ i ∷ []))
  next_at a f b before i is e =
      let there : slice_get (sequence program b f.entry) (length before) ≡ Some i =
      ap (λ xs. slice_get xs (length before)) e ∙ get_middle before i is in
      let sp = spot_of f b (length before) i there in
      next_word program plan image rewriting a f (number program b f.entry (length before)) sp.part
      sp.word i sp.item sp.there
      ∙ ap (word_address program f) (next_number program b f.entry (length before)
      ∙ ap (number program b f.entry) (sym (length-append before (i ∷ []))))

  -- the heads of places
  pub head_low : (a : ℕ) (f : EntrySplit plan a) → word_address program f 0 < 2 ^ 31 + 2 ^ 30
  head_low a f = go (sequence program false f.entry) refl
      (some_items f.entry (program.code f.entry.address))
    where
      go : (is : List SequenceItem) → sequence program false f.entry ≡ is → 0 < length is
          → word_address program f 0 < 2 ^ 31 + 2 ^ 30
      go [] e some = absurd (omega (arith, some))
      go (i ∷ is) e some =
          let sp = spot_of f false 0 i (ap (λ xs. slice_get xs 0) e) in
          let low = in_range program plan image rewriting a f (number program false f.entry 0)
          sp.part sp.word i sp.item sp.there in
          omega (arith, low)
