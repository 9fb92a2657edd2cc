-- What the micro-op of a word tells of its access.
use Rattle.std.proofs.Common.{◌≡◌, ◌≢◌, ℕ, ◌+◌, ◌-◌, ◌*◌, ◌/◌, ◌%◌, ◌^◌, ◌<◌, ◌≤◌, Bool, true, false, cond, leb, ltb, eqb, List, length, Option, Some, None, refl, sym, ap, ◌∙◌, subst, arith}
use Rattle.std.proofs.lemmas.Bool.Decides.{nat_tests}
use Rattle.std.proofs.lemmas.Option.{slice_get_within}
use Rattle.std.specs.Prelude.{slice_get}
use Rattle.rv32_decode.specs.declared.LoadKind.{LoadKind}
use Rattle.rv32_decode.specs.declared.Width.{Width}
use Rattle.rv32_decode.specs.Fields.{unsigned}
use Rattle.rv32_decode.specs.Widths.{width_of, is_aligned}
use Rattle.node_words.specs.rv32_ops.Operations.{taken}
use Rattle.rv32_decode.specs.declared.Cond.{Cond}
use Rattle.rv32_decode.specs.declared.Cond.TheVariants.{Eq, Ne, Lt, Ge, Ltu, Geu}
use Rattle.rv32_program.specs.Program.{Program}
use Rattle.node_words.specs.rv32_step.Demands.{branch_demand}
use Rattle.node_words.specs.rv32_step.OneMemory as memory
use Rattle.node_words.specs.rv32_step.Registers.{reg}
use Rattle.node_words.specs.rv32_step.declared.Demand.{Demand}
use Rattle.node_words.specs.rv32_step.declared.Demand.TheVariants.{Continues, Jumps, Loads, Stores}
use Rattle.node_words.specs.micro_op.declared.micro_op.MicroOp.{MicroOp}
use Rattle.node_words.specs.micro_op.declared.MicroKind.{MicroKind}
use Rattle.node_words.specs.micro_op.declared.MicroKind.TheVariants.{Slow, Jump, JumpBy, EnterBy, BranchEq, BranchNe, BranchLt, BranchGe, BranchLtu, BranchGeu, LoadByte, LoadHalf, LoadWord, LoadByteU, LoadHalfU, StoreByte, StoreHalf, StoreWord}
use Rattle.node_words.specs.micro_op.Micro.{Meaning, Unserved, Demands, Enters, Meets, EntersAt, meaning_by, meaning_of, index_address, sum_address, loads, stores}
use Rattle.node_words.specs.runtime_words.declared.RtWord.{RtWord}
use Rattle.node_words.specs.runtime_words.declared.RtWord.TheVariants.{Native, Poll, Xjalr, Far}
use Rattle.node_words.specs.runtime_words.Reading.{read_word}
use Rattle.node_words.specs.templates.declared.places.Place.{Place}
use Rattle.node_words.specs.jump_map.declared.image.ImageWord.{ImageWord}
use Rattle.node_words.specs.jump_map.Image.{Cell, image_base, most_words, address_of_word, read_cell}
use Rattle.node_words.specs.jump_map.Maps.{fetch}
use Rattle.node_words.specs.jump_map.Micro.{IsMicroWord, IsMicroAt}
use Rattle.node_words.specs.node_model.Node.{Node, Work, ProcessorState, NodeMemory, WordOutcome, Nothing_counted, region_of, native, indirect, execute_read, execute_at, place_address}
use Rattle.node_words.specs.Address.{word_address}
use Rattle.node_words.proofs.StepLemmas.{load_next, store_next}
use Rattle.node_machine.specs.declared.node_state.NodeState.{NodeState}
use Rattle.node_machine.specs.NodeState.{node_of, work_of, IsNode}
use Rattle.node_machine.specs.declared.touch.Touch.{Touch}
use Rattle.node_machine.specs.declared.touch.Touch.TheVariants.{Nothing}
use Rattle.node_machine.specs.Touch.{IsAccess, IsTouch}

either : (P : WordOutcome → Type 0) (b : Bool) (x y : WordOutcome) → P x → P y → P (cond b x y)
either P true x y p q = p
either P false x y p q = q

-- 1. Loads and stores

-- a word that counts nothing
abbrev IsUncounted : WordOutcome → Type 0
IsUncounted o = o.tally ≡ Nothing_counted

within : (a : ℕ) → a < 2 ^ 31 → ltb a (2 ^ 31) ≡ true
within a h = grind (arith, nat_tests)

module _ (p : Program) (place at : ℕ) (l : ProcessorState) (n : NodeMemory) where
  stores_here : (w : Width) (a v : ℕ) → is_aligned w a ≡ true → a < 2 ^ 31
      → (native p place at l n (Stores w a v)).access ≡ memory.Writes w a v
  stores_here w a v e h = rw e (rw (within a h) refl)

  -- the address may be written in another way
  pub stores_at : (w : Width) (a v b : ℕ) → a ≡ b → is_aligned w a ≡ true → a < 2 ^ 31
      → (native p place at l n (Stores w b v)).access ≡ memory.Writes w a v
  stores_at w a v b is e h =
      subst (λ x. (native p place at l n (Stores w x v)).access ≡ memory.Writes w a v) is (stores_here w a v e h)

  loads_uncounted : (k : LoadKind) (r a : ℕ) → IsUncounted (native p place at l n (Loads k r a))
  loads_uncounted k r a =
      either IsUncounted (is_aligned (width_of k) a) _ _ (load_next p l n k r a (region_of a)).2 refl

  stores_uncounted : (w : Width) (a v : ℕ) → IsUncounted (native p place at l n (Stores w a v))
  stores_uncounted w a v = either IsUncounted (is_aligned w a) _ _ (store_next p l n w a v (region_of a)).2 refl

-- 2. Micro-ops by what they mean

-- a word that leaves this outcome touches memory so, and counts nothing
abbrev Touches : Work → Node → Touch → WordOutcome → Type 0
Touches work n t o = IsAccess work n t o.access × IsUncounted o

-- a word whose micro-op means so touches memory so, wherever it stands
abbrev pub Means : Work → Node → Touch → Meaning → Type 0
Means work n t Unserved = ⊥
Means work n t (Demands d) = (place at : ℕ) → Touches work n t (native work.program place at n.lane n.local d)
Means work n t (Enters original) = (place rd : ℕ) → Touches work n t (indirect place n.lane n.local rd original)

-- a kind that neither loads nor stores, and isn't slow
abbrev pub IsPlain : MicroKind → Type 0
IsPlain Slow = ⊥
IsPlain LoadByte = ⊥
IsPlain LoadHalf = ⊥
IsPlain LoadWord = ⊥
IsPlain LoadByteU = ⊥
IsPlain LoadHalfU = ⊥
IsPlain StoreByte = ⊥
IsPlain StoreHalf = ⊥
IsPlain StoreWord = ⊥
IsPlain k = Unit {0}

pub is_plain : (k : MicroKind) → k ≢ Slow → k ≢ LoadByte → k ≢ LoadHalf → k ≢ LoadWord → k ≢ LoadByteU → k ≢ LoadHalfU
    → k ≢ StoreByte → k ≢ StoreHalf → k ≢ StoreWord → IsPlain k
is_plain Slow slow lb lh lw lbu lhu sb sh sw = slow refl
is_plain LoadByte slow lb lh lw lbu lhu sb sh sw = lb refl
is_plain LoadHalf slow lb lh lw lbu lhu sb sh sw = lh refl
is_plain LoadWord slow lb lh lw lbu lhu sb sh sw = lw refl
is_plain LoadByteU slow lb lh lw lbu lhu sb sh sw = lbu refl
is_plain LoadHalfU slow lb lh lw lbu lhu sb sh sw = lhu refl
is_plain StoreByte slow lb lh lw lbu lhu sb sh sw = sb refl
is_plain StoreHalf slow lb lh lw lbu lhu sb sh sw = sh refl
is_plain StoreWord slow lb lh lw lbu lhu sb sh sw = sw refl
is_plain k slow lb lh lw lbu lhu sb sh sw = tt

-- 3. The micro-op of a word

module _ (work : Work) (n : Node) where
  still_jump : (r target : ℕ) → Means work n Nothing (Demands (Jumps r target))
  still_jump r target place at = either (Touches work n Nothing) (eqb (target % 4) 0) _ _ (refl, refl) (refl, refl)

  still_entry : (original : ℕ) → Means work n Nothing (Enters original)
  still_entry original place rd = either (Touches work n Nothing) (eqb (original % 4) 0) _ _ (refl, refl) (refl, refl)

  still_branch : (target : ℕ) (t : Bool) → Means work n Nothing (Demands (branch_demand t target))
  still_branch target true place at = either (Touches work n Nothing) (eqb (target % 4) 0) _ _ (refl, refl) (refl, refl)
  still_branch target false place at = (refl, refl)

  branches : (c : Cond) (m : MicroOp) (registers : ℕ → ℕ)
      → Means work n Nothing (Demands (branch_demand (taken c (reg registers m.rs1) (reg registers m.rs2))
      (index_address image_base m.imm)))
  branches c m registers =
      still_branch (index_address image_base m.imm) (taken c (reg registers m.rs1) (reg registers m.rs2))

  -- one that neither loads nor stores touches nothing
  pub plain : (k : MicroKind) (m : MicroOp) (registers : ℕ → ℕ) → IsPlain k
      → Means work n Nothing (meaning_by k image_base m registers)
  plain Slow m registers h = absurd h
  plain LoadByte m registers h = absurd h
  plain LoadHalf m registers h = absurd h
  plain LoadWord m registers h = absurd h
  plain LoadByteU m registers h = absurd h
  plain LoadHalfU m registers h = absurd h
  plain StoreByte m registers h = absurd h
  plain StoreHalf m registers h = absurd h
  plain StoreWord m registers h = absurd h
  plain Jump m registers h = still_jump m.rd (index_address image_base m.imm)
  plain JumpBy m registers h = still_jump m.rd (sum_address m registers / 2 * 2)
  plain EnterBy m registers h = still_entry (sum_address m registers / 2 * 2)
  plain BranchEq m registers h = branches Eq m registers
  plain BranchNe m registers h = branches Ne m registers
  plain BranchLt m registers h = branches Lt m registers
  plain BranchGe m registers h = branches Ge m registers
  plain BranchLtu m registers h = branches Ltu m registers
  plain BranchGeu m registers h = branches Geu m registers
  plain k m registers h = λ place at. (refl, refl)

  -- one that loads or stores, by its access
  pub loading : (t : Touch) (k : LoadKind) (m : MicroOp) (registers : ℕ → ℕ)
      → ((place at r : ℕ) → IsAccess work n t
      (native work.program place at n.lane n.local (Loads k r (sum_address m registers))).access)
      → Means work n t (loads k m registers)
  loading t k m registers access = λ place at.
      (access place at m.rd, loads_uncounted work.program place at n.lane n.local k m.rd (sum_address m registers))

  pub storing : (t : Touch) (w : Width) (m : MicroOp) (registers : ℕ → ℕ)
      → ((place at v : ℕ) → IsAccess work n t
      (native work.program place at n.lane n.local (Stores w (sum_address m registers) v)).access)
      → Means work n t (stores w m registers)
  storing t w m registers access = λ place at. (
    access place at (reg registers m.rs2),
    stores_uncounted work.program place at n.lane n.local w (sum_address m registers) (reg registers m.rs2),
  )

  -- the word of a micro-op touches memory as the micro-op tells

  native_touched : (t : Touch) (m : Meaning) (d : Demand) → Meets m d → Means work n t m
      → (place at : ℕ) → Touches work n t (native work.program place at n.lane n.local d)
  native_touched t Unserved d meets means = absurd means
  native_touched t (Demands e) d meets means = λ place at.
      subst (λ (x : Demand). Touches work n t (native work.program place at n.lane n.local x)) meets (means place at)
  native_touched t (Enters original) d meets means = absurd meets

  entry_touched : (t : Touch) (m : Meaning) (rd original : ℕ) → EntersAt m rd original → Means work n t m
      → (place : ℕ) → Touches work n t (indirect place n.lane n.local rd original)
  entry_touched t Unserved rd original enters means = absurd means
  entry_touched t (Demands e) rd original enters means = absurd enters
  entry_touched t (Enters target) rd original enters means = λ place.
      subst (λ x. Touches work n t (indirect place n.lane n.local rd x)) enters.1 (means place rd)

  slow_touched : (t : Touch) (m : MicroOp) (registers : ℕ → ℕ) → m.kind ≡ Slow
      → Means work n t (meaning_of image_base m registers) → ⊥
  slow_touched t m registers is means =
      subst (λ (k : MicroKind). Means work n t (meaning_by k image_base m registers)) is means

  word_touched : (t : Touch) (m : MicroOp) (place : Option Place) (word : Option RtWord) → IsMicroWord n.lane.at word m
      → Means work n t (meaning_of image_base m n.lane.registers)
      → Touches work n t (execute_read work.program place word n.lane n.local)
  word_touched t m place None is means = absurd (slow_touched t m n.lane.registers is means)
  word_touched t m place (Some (Native i)) is means =
      native_touched t _ _ (is.meets n.lane.registers) means (place_address place) n.lane.at
  word_touched t m place (Some Poll) is means =
      native_touched t _ Continues (is n.lane.registers) means (place_address place) n.lane.at
  word_touched t m place (Some (Xjalr rd rs1 imm)) is means =
      entry_touched t _ rd ((reg n.lane.registers rs1 + unsigned 32 imm) % 4294967296 / 2 * 2)
      (is.enters n.lane.registers) means (place_address place)
  word_touched t m place (Some (Far k)) is means =
      let jump = native_touched t _ (Jumps 0 (address_of_word k)) (is n.lane.registers) means
      (place_address place) n.lane.at in
      (subst (IsAccess work n t) (still_jump 0 (address_of_word k) (place_address place) n.lane.at).0 jump.0, refl)
  word_touched t m place (Some w) is means = absurd (slow_touched t m n.lane.registers is means)

-- the word of an index is read
fetch_word : (image : List Cell) (at : ℕ) (c : Cell) → length image ≤ most_words → slice_get image at ≡ Some c
    → fetch image (word_address at) ≡ Some (read_cell c)
fetch_word image at c few is =
    let below = slice_get_within image at c is in
    let new : word_address at ≡ image_base + 4 * at = omega arith in
    let low : leb image_base (image_base + 4 * at) ≡ true = grind (arith, nat_tests) in
    let rest : (image_base + 4 * at) % 4 ≡ 0 = omega arith in
    let back : (image_base + 4 * at - image_base) / 4 ≡ at = omega arith in
    rw (new, low, rest, back, is) refl

-- a node's next word touches memory as its micro-op tells
touched : (work : Work) (n : Node) (at : ℕ) (m : MicroOp) (t : Touch) → length work.image ≤ most_words
    → n.lane.at ≡ word_address at → IsMicroAt work.image at m
    → Means work n t (meaning_of image_base m n.lane.registers) → IsTouch work n t
touched work n at m t few here there means =
    let c = there.cell in
    let below = slice_get_within work.image at c there.there in
    let new : image_base + 4 * at ≡ n.lane.at = omega (arith, here, below, few) in
    let word = subst (λ (x : ℕ). IsMicroWord x (read_word c.word) m) new there.micro in
    let got = ap (fetch work.image) here ∙ fetch_word work.image at c few there.there in
    let touch = subst (λ (f : Option ImageWord). Touches work n t (execute_at work.program f n.lane n.local)) (sym got)
    (word_touched work n t m c.place (read_word c.word) word means) in
    record { access = touch.0; tally = touch.1 }

-- the node of a inner, by the kind of its micro-op
pub touched_by : (f : NodeState) (m : MicroOp) (t : Touch) (k : MicroKind) → IsNode f
    → IsMicroAt f.lane.image.now f.lane.at m → m.kind ≡ k → Means (work_of f) (node_of f) t (meaning_by k image_base m (node_of f).lane.registers)
    → IsTouch (work_of f) (node_of f) t
touched_by f m t k node there is means =
    let work = work_of f in let n = node_of f in
    touched work n f.lane.at m t node.lane.short refl there
    (subst (λ (q : MicroKind). Means work n t (meaning_by q image_base m n.lane.registers)) (sym is) means)
