-- Strides: what is executed at once from a word of an image on: one word, or a whole sequence of
-- the templates. What is said of each is which micro-ops stand there.
use Rattle.std.specs.Prelude.{◌≡◌, ◌≢◌, ℕ, ◌+◌, ◌-◌, ◌*◌, ◌<◌, List, [], ◌∷◌, Some, length, slice_get}
use Rattle.micro_op.specs.declared.micro_op.MicroOp.{MicroOp}
use Rattle.micro_op.specs.declared.MicroKind.{MicroKind}
use Rattle.micro_op.specs.declared.MicroKind.TheVariants as kind
use Rattle.jump_map.specs.declared.strides.StrideKind.{StrideKind}
use Rattle.jump_map.specs.declared.strides.StrideKind.TheVariants as stride

-- a micro-op by its parts
abbrev pub op_of : MicroKind → (rd rs1 rs2 imm : ℕ) → MicroOp
op_of k rd rs1 rs2 imm = record { kind = k; rd = rd; rs1 = rs1; rs2 = rs2; imm = imm }

-- what a stride of one word says of its micro-op, and one that goes on after an operation says of
-- that; one of a whole sequence says nothing
abbrev pub IsPlain : StrideKind → MicroOp → Type 0
IsPlain stride.Nothing m = m.kind ≡ kind.Nothing
IsPlain stride.Constant m = m.kind ≡ kind.Constant
IsPlain stride.Jump m = (m.kind ≡ kind.Jump) × (m.rd ≡ 0)
IsPlain stride.Link m = m.kind ≡ kind.Jump
IsPlain stride.EnterBy m = m.kind ≡ kind.EnterBy
IsPlain stride.BranchEq m = m.kind ≡ kind.BranchEq
IsPlain stride.BranchNe m = m.kind ≡ kind.BranchNe
IsPlain stride.BranchLt m = m.kind ≡ kind.BranchLt
IsPlain stride.BranchGe m = m.kind ≡ kind.BranchGe
IsPlain stride.BranchLtu m = m.kind ≡ kind.BranchLtu
IsPlain stride.BranchGeu m = m.kind ≡ kind.BranchGeu
IsPlain stride.LoadByte m = m.kind ≡ kind.LoadByte
IsPlain stride.LoadHalf m = m.kind ≡ kind.LoadHalf
IsPlain stride.LoadWord m = m.kind ≡ kind.LoadWord
IsPlain stride.LoadByteU m = m.kind ≡ kind.LoadByteU
IsPlain stride.LoadHalfU m = m.kind ≡ kind.LoadHalfU
IsPlain stride.StoreByte m = m.kind ≡ kind.StoreByte
IsPlain stride.StoreHalf m = m.kind ≡ kind.StoreHalf
IsPlain stride.StoreWord m = m.kind ≡ kind.StoreWord
IsPlain stride.AddImm m = m.kind ≡ kind.AddImm
IsPlain stride.SltImm m = m.kind ≡ kind.SltImm
IsPlain stride.SltuImm m = m.kind ≡ kind.SltuImm
IsPlain stride.XorImm m = m.kind ≡ kind.XorImm
IsPlain stride.OrImm m = m.kind ≡ kind.OrImm
IsPlain stride.AndImm m = m.kind ≡ kind.AndImm
IsPlain stride.SllImm m = m.kind ≡ kind.SllImm
IsPlain stride.SrlImm m = m.kind ≡ kind.SrlImm
IsPlain stride.SraImm m = m.kind ≡ kind.SraImm
IsPlain stride.Add m = m.kind ≡ kind.Add
IsPlain stride.Sub m = m.kind ≡ kind.Sub
IsPlain stride.Sll m = m.kind ≡ kind.Sll
IsPlain stride.Slt m = m.kind ≡ kind.Slt
IsPlain stride.Sltu m = m.kind ≡ kind.Sltu
IsPlain stride.Xor m = m.kind ≡ kind.Xor
IsPlain stride.Srl m = m.kind ≡ kind.Srl
IsPlain stride.Sra m = m.kind ≡ kind.Sra
IsPlain stride.Or m = m.kind ≡ kind.Or
IsPlain stride.And m = m.kind ≡ kind.And
IsPlain stride.Mul m = m.kind ≡ kind.Mul
IsPlain stride.Mulh m = m.kind ≡ kind.Mulh
IsPlain stride.Mulhsu m = m.kind ≡ kind.Mulhsu
IsPlain stride.Mulhu m = m.kind ≡ kind.Mulhu
IsPlain stride.Div m = m.kind ≡ kind.Div
IsPlain stride.Divu m = m.kind ≡ kind.Divu
IsPlain stride.Rem m = m.kind ≡ kind.Rem
IsPlain stride.Remu m = m.kind ≡ kind.Remu
IsPlain stride.AddImmThenAddImm m = m.kind ≡ kind.AddImm
IsPlain stride.AddImmThenAdd m = m.kind ≡ kind.AddImm
IsPlain stride.AddThenAddImm m = m.kind ≡ kind.Add
IsPlain stride.AddThenAdd m = m.kind ≡ kind.Add
IsPlain stride.SllImmThenAddImm m = m.kind ≡ kind.SllImm
IsPlain stride.SllImmThenAdd m = m.kind ≡ kind.SllImm
IsPlain stride.MulThenAddImm m = m.kind ≡ kind.Mul
IsPlain stride.MulThenAdd m = m.kind ≡ kind.Mul
IsPlain stride.AddImmThenOverEq m = m.kind ≡ kind.AddImm
IsPlain stride.AddImmThenOverNe m = m.kind ≡ kind.AddImm
IsPlain stride.AddImmThenOverLt m = m.kind ≡ kind.AddImm
IsPlain stride.AddImmThenOverGe m = m.kind ≡ kind.AddImm
IsPlain stride.AddImmThenOverLtu m = m.kind ≡ kind.AddImm
IsPlain stride.AddImmThenOverGeu m = m.kind ≡ kind.AddImm
IsPlain stride.AddImmThenPollOverEq m = m.kind ≡ kind.AddImm
IsPlain stride.AddImmThenPollOverNe m = m.kind ≡ kind.AddImm
IsPlain stride.AddImmThenPollOverLt m = m.kind ≡ kind.AddImm
IsPlain stride.AddImmThenPollOverGe m = m.kind ≡ kind.AddImm
IsPlain stride.AddImmThenPollOverLtu m = m.kind ≡ kind.AddImm
IsPlain stride.AddImmThenPollOverGeu m = m.kind ≡ kind.AddImm
IsPlain stride.AddThenOverEq m = m.kind ≡ kind.Add
IsPlain stride.AddThenOverNe m = m.kind ≡ kind.Add
IsPlain stride.AddThenOverLt m = m.kind ≡ kind.Add
IsPlain stride.AddThenOverGe m = m.kind ≡ kind.Add
IsPlain stride.AddThenOverLtu m = m.kind ≡ kind.Add
IsPlain stride.AddThenOverGeu m = m.kind ≡ kind.Add
IsPlain stride.AddThenPollOverEq m = m.kind ≡ kind.Add
IsPlain stride.AddThenPollOverNe m = m.kind ≡ kind.Add
IsPlain stride.AddThenPollOverLt m = m.kind ≡ kind.Add
IsPlain stride.AddThenPollOverGe m = m.kind ≡ kind.Add
IsPlain stride.AddThenPollOverLtu m = m.kind ≡ kind.Add
IsPlain stride.AddThenPollOverGeu m = m.kind ≡ kind.Add
IsPlain k m = Unit {0}

-- what a stride of one word leads to is one of so many words: the one after its own, and the one
-- that it jumps to. Of a slow one and of an indirect jump nothing is said
abbrev pub IsInside : StrideKind → MicroOp → (k words : ℕ) → Type 0
IsInside stride.Slow m k words = Unit {0}
IsInside stride.EnterBy m k words = Unit {0}
IsInside stride.Jump m k words = m.imm < words
IsInside stride.Link m k words = m.imm < words
IsInside stride.BranchEq m k words = (k + 1 < words) × (m.imm < words)
IsInside stride.BranchNe m k words = (k + 1 < words) × (m.imm < words)
IsInside stride.BranchLt m k words = (k + 1 < words) × (m.imm < words)
IsInside stride.BranchGe m k words = (k + 1 < words) × (m.imm < words)
IsInside stride.BranchLtu m k words = (k + 1 < words) × (m.imm < words)
IsInside stride.BranchGeu m k words = (k + 1 < words) × (m.imm < words)
IsInside is m k words = k + 1 < words

-- this micro-op stands at a number
abbrev pub StandsAt : List MicroOp → ℕ → MicroOp → Type 0
StandsAt micros k m = slice_get micros k ≡ Some m

-- these stand from a number on
abbrev pub StandFrom : List MicroOp → ℕ → List MicroOp → Type 0
StandFrom micros k ops = (i : ℕ) (m : MicroOp) → StandsAt ops i m → StandsAt micros (k + i) m

-- a poll, a FENCE
pub record IsPolled (micros : List MicroOp) (k : ℕ) : Type 0 where
  pub poll : MicroOp
  pub there : StandsAt micros k poll
  pub is : poll.kind ≡ kind.Nothing

-- a jump that keeps no link, to another word
pub record IsJump (micros : List MicroOp) (k : ℕ) : Type 0 where
  pub jump : MicroOp
  pub there : StandsAt micros k jump
  pub is : jump.kind ≡ kind.Jump
  pub keeps_none : jump.rd ≡ 0
  pub inside : jump.imm < length micros

-- an indirect jump
pub record IsEntry (micros : List MicroOp) (k : ℕ) : Type 0 where
  pub entry : MicroOp
  pub there : StandsAt micros k entry
  pub is : entry.kind ≡ kind.EnterBy

-- a branch past the jump after it, to another word
pub record IsOver (micros : List MicroOp) (k : ℕ) (c : MicroKind) : Type 0 where
  pub branch : MicroOp
  pub there : StandsAt micros k branch
  pub is : branch.kind ≡ c
  pub past : branch.imm ≡ k + 2
  pub next : k + 2 < length micros
  pub jump : IsJump micros (k + 1)

-- the two words that put a number into a register, with another one after them
pub record IsNumber (micros : List MicroOp) (k : ℕ) : Type 0 where
  pub upper : MicroOp
  pub lower : MicroOp
  pub upper_there : StandsAt micros k upper
  pub lower_there : StandsAt micros (k + 1) lower
  pub upper_is : upper.kind ≡ kind.Constant
  pub kept : upper.rd ≢ 0
  pub lower_is : lower.kind ≡ kind.AddImm
  pub same_rd : lower.rd ≡ upper.rd
  pub same_rs1 : lower.rs1 ≡ upper.rd
  pub next : k + 2 < length micros

-- the address of the spill word of a number
abbrev pub spill_address : ℕ → ℕ
spill_address i = 0xfffffffc - 4 * i

-- a register is kept in the spill word of a number
abbrev pub keep : (r i : ℕ) → MicroOp
keep r i = op_of kind.StoreWord 0 0 r (spill_address i)

-- and is taken back
abbrev pub take_back : (r i : ℕ) → MicroOp
take_back r i = op_of kind.LoadWord r 0 0 (spill_address i)

-- the last so many of some registers are kept in the spill words of their numbers, from a word on
abbrev pub Keep : List MicroOp → (k spilled : ℕ) → List ℕ → Type 0
Keep micros k spilled registers =
    (i r : ℕ) → i < spilled → slice_get registers (length registers - spilled + i) ≡ Some r
    → StandsAt micros (k + i) (keep r (length registers - spilled + i))

-- and are taken back
abbrev pub TakeBack : List MicroOp → (k spilled : ℕ) → List ℕ → Type 0
TakeBack micros k spilled registers =
    (i r : ℕ) → i < spilled → slice_get registers (length registers - spilled + i) ≡ Some r
    → StandsAt micros (k + i) (take_back r (length registers - spilled + i))

-- the words that read the state byte of the line of an address into s: the state table is at
-- 0x80000000, which t gets, with a byte for each line of 64 bytes
abbrev pub state_look : (s t base imm : ℕ) → List MicroOp
state_look s t base imm =
    op_of kind.AddImm s base 0 imm
    ∷ op_of kind.Constant t 0 0 0x80000000
    ∷ op_of kind.SrlImm s s 0 6
    ∷ op_of kind.Add s s t 0
    ∷ op_of kind.LoadByteU s s 0 0
    ∷ []

-- those that read that of a second line into u, and or both into s
abbrev pub second_look : (s t u base imm : ℕ) → List MicroOp
second_look s t u base imm =
    op_of kind.AddImm u base 0 imm
    ∷ op_of kind.SrlImm u u 0 6
    ∷ op_of kind.Add u u t 0
    ∷ op_of kind.LoadByteU u u 0 0
    ∷ op_of kind.Or s s u 0
    ∷ []

-- leaves of s the bit that says that a line can't be read
abbrev pub mask : ℕ → MicroOp
mask s = op_of kind.AndImm s s 0 2

-- goes to the word of a number where s is zero
abbrev pub skip : (s to : ℕ) → MicroOp
skip s to = op_of kind.BranchEq 0 s 0 to

-- the scratch registers of a look, and the base of its address
pub record Scratch : Type 0 where
  pub s : ℕ
  pub t : ℕ
  pub base : ℕ
  pub imm : ℕ

-- those of a look whose first word has this micro-op
abbrev pub scratch_of : MicroOp → (t : ℕ) → Scratch
scratch_of m t = record { s = m.rd; t = t; base = m.rs1; imm = m.imm }

-- they are apart, and not x0
pub record AreApart (x : Scratch) : Type 0 where
  pub s_t : x.s ≢ x.t
  pub s_base : x.s ≢ x.base
  pub t_base : x.t ≢ x.base
  pub s_kept : x.s ≢ 0
  pub t_kept : x.t ≢ 0

-- an access of this kind, to the address of a look
pub record IsAccess (micros : List MicroOp) (k : ℕ) (x : Scratch) (is : MicroKind) : Type 0 where
  pub access : MicroOp
  pub there : StandsAt micros k access
  pub kind_is : access.kind ≡ is
  pub base : access.rs1 ≡ x.base
  pub imm : access.imm ≡ x.imm

-- a load whose line's state is tested, with so many scratch registers spilled
pub record IsRead (micros : List MicroOp) (k spilled : ℕ) (is : MicroKind) : Type 0 where
  pub x : Scratch
  pub apart : AreApart x
  pub keep : Keep micros k spilled (x.s ∷ x.t ∷ [])
  pub look : StandFrom micros (k + spilled) (state_look x.s x.t x.base x.imm)
  pub test : StandFrom micros (k + spilled + 5) (mask x.s ∷ skip x.s (k + spilled + 8) ∷ [])
  pub load : IsAccess micros (k + spilled + 8) x is
  pub rd_s : load.access.rd ≢ x.s
  pub rd_t : load.access.rd ≢ x.t
  pub take : TakeBack micros (k + spilled + 9) spilled (x.s ∷ x.t ∷ [])
  pub next : k + spilled + 9 + spilled < length micros

-- a store whose line's state is tested
pub record IsWrite (micros : List MicroOp) (k spilled : ℕ) (is : MicroKind) : Type 0 where
  pub x : Scratch
  pub apart : AreApart x
  pub keep : Keep micros k spilled (x.s ∷ x.t ∷ [])
  pub look : StandFrom micros (k + spilled) (state_look x.s x.t x.base x.imm)
  pub test : StandFrom micros (k + spilled + 5) (skip x.s (k + spilled + 7) ∷ [])
  pub store : IsAccess micros (k + spilled + 7) x is
  pub rs2_s : store.access.rs2 ≢ x.s
  pub rs2_t : store.access.rs2 ≢ x.t
  pub take : TakeBack micros (k + spilled + 8) spilled (x.s ∷ x.t ∷ [])
  pub next : k + spilled + 8 + spilled < length micros

-- the words of a load that looks at its value: where that isn't the flag word they go on past the
-- check and the second load, and where the address is one of the upper half at once to the check
abbrev pub flag_look : (k s v base imm : ℕ) → List MicroOp
flag_look k s v base imm =
    op_of kind.AddImm s base 0 imm
    ∷ op_of kind.BranchLt 0 s 0 (k + 5)
    ∷ op_of kind.LoadWord v base 0 imm
    ∷ op_of kind.AddImm s 0 0 0xffffff03
    ∷ op_of kind.BranchNe 0 v s (k + 7)
    ∷ []

-- a load that looks at its value, with so many registers spilled
pub record IsFlagged (micros : List MicroOp) (k spilled : ℕ) : Type 0 where
  pub s : ℕ
  pub v : ℕ
  pub base : ℕ
  pub imm : ℕ
  pub apart : s ≢ v
  pub base_kept : s ≢ base
  pub s_kept : s ≢ 0
  pub v_kept : v ≢ 0
  pub keep : Keep micros k spilled (s ∷ [])
  pub look : StandFrom micros (k + spilled) (flag_look (k + spilled) s v base imm)
  pub take : TakeBack micros (k + spilled + 7) spilled (s ∷ [])
  pub next : k + spilled + 7 + spilled < length micros

-- the looks at both lines of a batch, with so many registers spilled
pub record LooksTwice (micros : List MicroOp) (k spilled : ℕ) (x : Scratch) (u high : ℕ)
    : Type 0 where
  pub apart : AreApart x
  pub u_s : u ≢ x.s
  pub u_t : u ≢ x.t
  pub u_kept : u ≢ 0
  pub keep : Keep micros k spilled (x.s ∷ x.t ∷ u ∷ [])
  pub low_look : StandFrom micros (k + spilled) (state_look x.s x.t x.base x.imm)
  pub high_look : StandFrom micros (k + spilled + 5) (second_look x.s x.t u x.base high)

-- the same with the registers and the numbers that it has
pub record IsHead (micros : List MicroOp) (k spilled : ℕ) : Type 0 where
  pub x : Scratch
  pub u : ℕ
  pub high : ℕ
  pub looks : LooksTwice micros k spilled x u high

-- the head of a batch that only loads, and the reloads after it
pub record IsReadHead (micros : List MicroOp) (k spilled : ℕ) : Type 0 where
  pub head : IsHead micros k spilled
  pub test : StandFrom micros (k + spilled + 10)
      (mask head.x.s ∷ skip head.x.s (k + spilled + 16) ∷ [])
  pub take : TakeBack micros (k + spilled + 16) spilled (head.x.s ∷ head.x.t ∷ head.u ∷ [])
  pub next : k + spilled + 16 + spilled < length micros

-- that of one that stores
pub record IsWriteHead (micros : List MicroOp) (k spilled : ℕ) : Type 0 where
  pub head : IsHead micros k spilled
  pub test : StandFrom micros (k + spilled + 10) (skip head.x.s (k + spilled + 15) ∷ [])
  pub take : TakeBack micros (k + spilled + 15) spilled (head.x.s ∷ head.x.t ∷ head.u ∷ [])
  pub next : k + spilled + 15 + spilled < length micros

-- a word of a kind, with another one after it
pub record IsWord (micros : List MicroOp) (k : ℕ) (is : MicroKind) : Type 0 where
  pub micro : MicroOp
  pub there : StandsAt micros k micro
  pub kind_is : micro.kind ≡ is
  pub next : k + 1 < length micros

-- a poll, and after it a branch past a jump
abbrev pub IsPollOver : List MicroOp → ℕ → MicroKind → Type 0
IsPollOver micros k c = IsPolled micros k × IsOver micros (k + 1) c

-- what a stride of a whole sequence says of the words from its own on, and one that goes on after
-- an operation says of those after it; one of a word says nothing
abbrev pub IsWhole : StrideKind → List MicroOp → ℕ → Type 0
IsWhole stride.OverEq micros k = IsOver micros k kind.BranchEq
IsWhole stride.OverNe micros k = IsOver micros k kind.BranchNe
IsWhole stride.OverLt micros k = IsOver micros k kind.BranchLt
IsWhole stride.OverGe micros k = IsOver micros k kind.BranchGe
IsWhole stride.OverLtu micros k = IsOver micros k kind.BranchLtu
IsWhole stride.OverGeu micros k = IsOver micros k kind.BranchGeu
IsWhole stride.PollOverEq micros k = IsPollOver micros k kind.BranchEq
IsWhole stride.PollOverNe micros k = IsPollOver micros k kind.BranchNe
IsWhole stride.PollOverLt micros k = IsPollOver micros k kind.BranchLt
IsWhole stride.PollOverGe micros k = IsPollOver micros k kind.BranchGe
IsWhole stride.PollOverLtu micros k = IsPollOver micros k kind.BranchLtu
IsWhole stride.PollOverGeu micros k = IsPollOver micros k kind.BranchGeu
IsWhole stride.PollJump micros k = IsPolled micros k × IsJump micros (k + 1)
IsWhole stride.PollEnter micros k = IsPolled micros k × IsEntry micros (k + 1)
IsWhole stride.Number micros k = IsNumber micros k
IsWhole stride.Call micros k = IsNumber micros k × IsJump micros (k + 2)
IsWhole stride.ReadByte0 micros k = IsRead micros k 0 kind.LoadByte
IsWhole stride.ReadHalf0 micros k = IsRead micros k 0 kind.LoadHalf
IsWhole stride.ReadWord0 micros k = IsRead micros k 0 kind.LoadWord
IsWhole stride.ReadByteU0 micros k = IsRead micros k 0 kind.LoadByteU
IsWhole stride.ReadHalfU0 micros k = IsRead micros k 0 kind.LoadHalfU
IsWhole stride.ReadByte1 micros k = IsRead micros k 1 kind.LoadByte
IsWhole stride.ReadHalf1 micros k = IsRead micros k 1 kind.LoadHalf
IsWhole stride.ReadWord1 micros k = IsRead micros k 1 kind.LoadWord
IsWhole stride.ReadByteU1 micros k = IsRead micros k 1 kind.LoadByteU
IsWhole stride.ReadHalfU1 micros k = IsRead micros k 1 kind.LoadHalfU
IsWhole stride.ReadByte2 micros k = IsRead micros k 2 kind.LoadByte
IsWhole stride.ReadHalf2 micros k = IsRead micros k 2 kind.LoadHalf
IsWhole stride.ReadWord2 micros k = IsRead micros k 2 kind.LoadWord
IsWhole stride.ReadByteU2 micros k = IsRead micros k 2 kind.LoadByteU
IsWhole stride.ReadHalfU2 micros k = IsRead micros k 2 kind.LoadHalfU
IsWhole stride.WriteByte0 micros k = IsWrite micros k 0 kind.StoreByte
IsWhole stride.WriteHalf0 micros k = IsWrite micros k 0 kind.StoreHalf
IsWhole stride.WriteWord0 micros k = IsWrite micros k 0 kind.StoreWord
IsWhole stride.WriteByte1 micros k = IsWrite micros k 1 kind.StoreByte
IsWhole stride.WriteHalf1 micros k = IsWrite micros k 1 kind.StoreHalf
IsWhole stride.WriteWord1 micros k = IsWrite micros k 1 kind.StoreWord
IsWhole stride.WriteByte2 micros k = IsWrite micros k 2 kind.StoreByte
IsWhole stride.WriteHalf2 micros k = IsWrite micros k 2 kind.StoreHalf
IsWhole stride.WriteWord2 micros k = IsWrite micros k 2 kind.StoreWord
IsWhole stride.Flag0 micros k = IsFlagged micros k 0
IsWhole stride.Flag1 micros k = IsFlagged micros k 1
IsWhole stride.ReadHead0 micros k = IsReadHead micros k 0
IsWhole stride.ReadHead1 micros k = IsReadHead micros k 1
IsWhole stride.ReadHead2 micros k = IsReadHead micros k 2
IsWhole stride.ReadHead3 micros k = IsReadHead micros k 3
IsWhole stride.WriteHead0 micros k = IsWriteHead micros k 0
IsWhole stride.WriteHead1 micros k = IsWriteHead micros k 1
IsWhole stride.WriteHead2 micros k = IsWriteHead micros k 2
IsWhole stride.WriteHead3 micros k = IsWriteHead micros k 3
IsWhole stride.AddImmThenAddImm micros k = IsWord micros (k + 1) kind.AddImm
IsWhole stride.AddImmThenAdd micros k = IsWord micros (k + 1) kind.Add
IsWhole stride.AddThenAddImm micros k = IsWord micros (k + 1) kind.AddImm
IsWhole stride.AddThenAdd micros k = IsWord micros (k + 1) kind.Add
IsWhole stride.SllImmThenAddImm micros k = IsWord micros (k + 1) kind.AddImm
IsWhole stride.SllImmThenAdd micros k = IsWord micros (k + 1) kind.Add
IsWhole stride.MulThenAddImm micros k = IsWord micros (k + 1) kind.AddImm
IsWhole stride.MulThenAdd micros k = IsWord micros (k + 1) kind.Add
IsWhole stride.AddImmThenOverEq micros k = IsOver micros (k + 1) kind.BranchEq
IsWhole stride.AddImmThenOverNe micros k = IsOver micros (k + 1) kind.BranchNe
IsWhole stride.AddImmThenOverLt micros k = IsOver micros (k + 1) kind.BranchLt
IsWhole stride.AddImmThenOverGe micros k = IsOver micros (k + 1) kind.BranchGe
IsWhole stride.AddImmThenOverLtu micros k = IsOver micros (k + 1) kind.BranchLtu
IsWhole stride.AddImmThenOverGeu micros k = IsOver micros (k + 1) kind.BranchGeu
IsWhole stride.AddImmThenPollOverEq micros k = IsPollOver micros (k + 1) kind.BranchEq
IsWhole stride.AddImmThenPollOverNe micros k = IsPollOver micros (k + 1) kind.BranchNe
IsWhole stride.AddImmThenPollOverLt micros k = IsPollOver micros (k + 1) kind.BranchLt
IsWhole stride.AddImmThenPollOverGe micros k = IsPollOver micros (k + 1) kind.BranchGe
IsWhole stride.AddImmThenPollOverLtu micros k = IsPollOver micros (k + 1) kind.BranchLtu
IsWhole stride.AddImmThenPollOverGeu micros k = IsPollOver micros (k + 1) kind.BranchGeu
IsWhole stride.AddThenOverEq micros k = IsOver micros (k + 1) kind.BranchEq
IsWhole stride.AddThenOverNe micros k = IsOver micros (k + 1) kind.BranchNe
IsWhole stride.AddThenOverLt micros k = IsOver micros (k + 1) kind.BranchLt
IsWhole stride.AddThenOverGe micros k = IsOver micros (k + 1) kind.BranchGe
IsWhole stride.AddThenOverLtu micros k = IsOver micros (k + 1) kind.BranchLtu
IsWhole stride.AddThenOverGeu micros k = IsOver micros (k + 1) kind.BranchGeu
IsWhole stride.AddThenPollOverEq micros k = IsPollOver micros (k + 1) kind.BranchEq
IsWhole stride.AddThenPollOverNe micros k = IsPollOver micros (k + 1) kind.BranchNe
IsWhole stride.AddThenPollOverLt micros k = IsPollOver micros (k + 1) kind.BranchLt
IsWhole stride.AddThenPollOverGe micros k = IsPollOver micros (k + 1) kind.BranchGe
IsWhole stride.AddThenPollOverLtu micros k = IsPollOver micros (k + 1) kind.BranchLtu
IsWhole stride.AddThenPollOverGeu micros k = IsPollOver micros (k + 1) kind.BranchGeu
IsWhole is micros k = Unit {0}

-- what a stride says of the words from its own on, of which each that it may lead to is one
pub record IsStride (micros : List MicroOp) (k : ℕ) (is : StrideKind) : Type 0 where
  pub micro : MicroOp
  pub there : StandsAt micros k micro
  pub plain : IsPlain is micro
  pub whole : IsWhole is micros k
  pub inside : IsInside is micro k (length micros)

-- a stride of a whole sequence begins with a word
abbrev pub Begins : List MicroOp → ℕ → StrideKind → Type 0
Begins micros k is = ((m : MicroOp) → IsPlain is m) × IsWhole is micros k

-- each word has a stride
pub record HasStrides (micros : List MicroOp) (strides : List StrideKind) : Type 0 where
  pub each : (k : ℕ) (is : StrideKind) → slice_get strides k ≡ Some is → IsStride micros k is
  pub count : length strides ≡ length micros
