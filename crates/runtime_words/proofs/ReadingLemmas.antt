-- What the words of sequences read as.
use Rattle.std.proofs.Common.{◌≡◌, ◌≢◌, ℕ, ℤ, ◌+◌, ◌*◌, ◌/◌, ◌%◌, ◌^◌, ◌<◌, eqb, Bool, true, false, cond, Option, Some, None, refl, sym, ap, ◌∙◌, arith}
use Rattle.std.specs.Prelude.{◌&&◌, nat_lt}
use Rattle.std.specs.Option.{option_map}
use Rattle.std.proofs.lemmas.Bool.{eq-eqb, ne_eqb}
use Rattle.rv32_decode.specs.Fields.{field, imm_i}
use Rattle.rv32_decode.specs.Rows.{instruction_of}
use Rattle.rv32_decode.specs.declared.Instr.{Instr}
use Rattle.rv32_decode.specs.declared.Width.{Width}
use Rattle.rv32_decode.proofs.Custom.{custom_0-None, custom_1-None}
use Rattle.runtime_words.specs.declared.RtWord.TheVariants.{Native, MissR, MissW, Xjalr, Batch, Prepare, Far, Poll, Call, TrapFetch, TrapOff, TrapIllegal, TrapEbreak}
use Rattle.runtime_words.specs.Reading.{read_word, custom_0, custom_1, batch_of, prepare_of, far_number, width_of_log}

pub reads_poll : read_word 0x200b ≡ Some Poll
unfolding read_word
reads_poll = refl

pub reads_call : read_word 0x300b ≡ Some Call
unfolding read_word
reads_call = refl

pub reads_trap_fetch : read_word 0x2b ≡ Some TrapFetch
unfolding read_word
reads_trap_fetch = refl

pub reads_trap_off : read_word 0x102b ≡ Some TrapOff
unfolding read_word
reads_trap_off = refl

pub reads_trap_illegal : read_word 0x202b ≡ Some TrapIllegal
unfolding read_word
reads_trap_illegal = refl

pub reads_trap_ebreak : read_word 0x302b ≡ Some TrapEbreak
unfolding read_word
reads_trap_ebreak = refl

not_custom_0 : (w : ℕ) (i : Instr) → instruction_of w ≡ Some i → field w 0 7 ≢ 0x0b
not_custom_0 w i h e = let bad : ◌≡◌ {A = Option Instr} None (Some i) = sym (custom_0-None w e) ∙ h in cc

not_custom_1 : (w : ℕ) (i : Instr) → instruction_of w ≡ Some i → field w 0 7 ≢ 0x2b
not_custom_1 w i h e = let bad : ◌≡◌ {A = Option Instr} None (Some i) = sym (custom_1-None w e) ∙ h in cc

-- a word of another opcode reads as its instruction
pub reads_other : (w : ℕ) → field w 0 7 ≢ 0x0b → field w 0 7 ≢ 0x2b → read_word w ≡ option_map Native (instruction_of w)
unfolding read_word
reads_other w e f = rw (ne_eqb (field w 0 7) 0x0b e, ne_eqb (field w 0 7) 0x2b f) refl

-- an instruction's word reads as that instruction
pub reads_native : (w : ℕ) (i : Instr) → instruction_of w ≡ Some i → read_word w ≡ Some (Native i)
unfolding read_word
reads_native w i h = rw (ne_eqb (field w 0 7) 0x0b (not_custom_0 w i h), ne_eqb (field w 0 7) 0x2b (not_custom_1 w i h)) (ap (option_map Native) h)

-- a word of custom-0 reads by its funct3
pub reads_custom_0 : (w funct3 : ℕ) → field w 0 7 ≡ 0x0b → field w 12 3 ≡ funct3 → read_word w ≡ custom_0 w funct3
unfolding read_word
reads_custom_0 w funct3 e f = rw (eq-eqb (field w 0 7) 0x0b e) (ap (custom_0 w) f)

pub reads_custom_1 : (w : ℕ) → field w 0 7 ≡ 0x2b → read_word w ≡ custom_1 w
unfolding read_word
reads_custom_1 w e = rw (ne_eqb (field w 0 7) 0x0b (omega (arith, e)), eq-eqb (field w 0 7) 0x2b e) refl

pub reads_miss_r : (w rd rs1 : ℕ) (imm : ℤ) (width : Width) → field w 0 7 ≡ 0x0b → field w 12 3 ≡ 0 → field w 7 5 ≡ rd → field w 15 5 ≡ rs1 → imm_i w ≡ imm
    → width_of_log rd ≡ Some width → read_word w ≡ Some (MissR width rs1 imm)
reads_miss_r w rd rs1 imm width e f d r i log =
    reads_custom_0 w 0 e f ∙ ap (λ n. option_map (λ x. MissR x (field w 15 5) (imm_i w)) (width_of_log n)) d
    ∙ ap (option_map (λ x. MissR x (field w 15 5) (imm_i w))) log ∙ ap (λ n. Some (MissR width n (imm_i w))) r ∙ ap (λ n. Some (MissR width rs1 n)) i

pub reads_miss_w : (w rd rs1 : ℕ) (imm : ℤ) (width : Width) → field w 0 7 ≡ 0x0b → field w 12 3 ≡ 1 → field w 7 5 ≡ rd → field w 15 5 ≡ rs1 → imm_i w ≡ imm
    → width_of_log rd ≡ Some width → read_word w ≡ Some (MissW width rs1 imm)
reads_miss_w w rd rs1 imm width e f d r i log =
    reads_custom_0 w 1 e f ∙ ap (λ n. option_map (λ x. MissW x (field w 15 5) (imm_i w)) (width_of_log n)) d
    ∙ ap (option_map (λ x. MissW x (field w 15 5) (imm_i w))) log ∙ ap (λ n. Some (MissW width n (imm_i w))) r ∙ ap (λ n. Some (MissW width rs1 n)) i

pub reads_prepare : (w rs1 : ℕ) → rs1 < 32 → w ≡ rs1 * 2 ^ 15 + 0x600b → read_word w ≡ Some (Prepare rs1)
reads_prepare w rs1 low is =
    let e : field w 0 7 ≡ 0x0b = omega (arith, is) in
    let f : field w 12 3 ≡ 6 = omega (arith, is) in
    let d : field w 7 5 ≡ 0 = omega (arith, is) in
    let i : field w 20 12 ≡ 0 = omega (arith, is, low) in
    let r : field w 15 5 ≡ rs1 = omega (arith, is, low) in
    reads_custom_0 w 6 e f
    ∙ ap (λ b. cond b (Some Poll) (cond (eqb w 0x300b) (Some Call) (prepare_of w))) (ne_eqb w 0x200b (λ h. let g : field w 12 3 ≡ 2 = ap (λ x. field x 12 3) h in omega (arith, f, g)))
    ∙ ap (λ b. cond b (Some Call) (prepare_of w)) (ne_eqb w 0x300b (λ h. let g : field w 12 3 ≡ 3 = ap (λ x. field x 12 3) h in omega (arith, f, g)))
    ∙ (rw (eq-eqb (field w 7 5) 0 d, eq-eqb (field w 20 12) 0 i) (ap (λ n. Some (Prepare n)) r))

pub reads_far : (w k : ℕ) → k < 2 ^ 22 → w ≡ k / 32 * 2 ^ 15 + k % 32 * 2 ^ 7 + 0x700b → read_word w ≡ Some (Far k)
reads_far w k low is =
    let e : field w 0 7 ≡ 0x0b = omega (arith, is) in
    let f : field w 12 3 ≡ 7 = omega (arith, is) in
    let n : far_number w ≡ k = omega (arith, is, low) in
    let no_poll = ne_eqb w 0x200b (λ h. let g : field w 12 3 ≡ 2 = ap (λ x. field x 12 3) h in omega (arith, f, g)) in
    let no_call = ne_eqb w 0x300b (λ h. let g : field w 12 3 ≡ 3 = ap (λ x. field x 12 3) h in omega (arith, f, g)) in
    reads_custom_0 w 7 e f
    ∙ ap (λ b. cond b (Some Poll) (cond (eqb w 0x300b) (Some Call) (Some (Far (far_number w))))) no_poll
    ∙ ap (λ b. cond b (Some Call) (Some (Far (far_number w)))) no_call
    ∙ ap (λ m. Some (Far m)) n

pub reads_xjalr : (w rd rs1 : ℕ) (imm : ℤ) → field w 0 7 ≡ 0x0b → field w 12 3 ≡ 4 → field w 7 5 ≡ rd → field w 15 5 ≡ rs1 → imm_i w ≡ imm
    → read_word w ≡ Some (Xjalr rd rs1 imm)
reads_xjalr w rd rs1 imm e f d r i =
    reads_custom_0 w 4 e f
    ∙ ap (λ b. cond b (Some Poll) (cond (eqb w 0x300b) (Some Call) (Some (Xjalr (field w 7 5) (field w 15 5) (imm_i w))))) (ne_eqb w 0x200b (λ h. let g : field w 12 3 ≡ 2 = ap (λ x. field x 12 3) h in omega (arith, f, g)))
    ∙ ap (λ b. cond b (Some Call) (Some (Xjalr (field w 7 5) (field w 15 5) (imm_i w)))) (ne_eqb w 0x300b (λ h. let g : field w 12 3 ≡ 3 = ap (λ x. field x 12 3) h in omega (arith, f, g)))
    ∙ ap (λ n. Some (Xjalr n (field w 15 5) (imm_i w))) d ∙ ap (λ n. Some (Xjalr rd n (imm_i w))) r ∙ ap (λ n. Some (Xjalr rd rs1 n)) i

batch_fields : (w n rs1 rs2 : ℕ) → field w 7 5 ≡ n → field w 25 7 ≡ 0 → field w 15 5 ≡ rs1 → field w 20 5 ≡ rs2
    → batch_of w ≡ cond (nat_lt n 2 && eqb 0 0) (Some (Batch (eqb n 1) rs1 rs2)) None
batch_fields w n rs1 rs2 d z r q = λ t. cond (nat_lt (d t) 2 && eqb (z t) 0) (Some (Batch (eqb (d t) 1) (r t) (q t))) None

pub reads_batch : (w n rs1 rs2 : ℕ) → n < 2 → rs1 < 32 → rs2 < 32 → w ≡ rs2 * 2 ^ 20 + rs1 * 2 ^ 15 + n * 2 ^ 7 + 0x500b
    → read_word w ≡ cond (nat_lt n 2 && eqb 0 0) (Some (Batch (eqb n 1) rs1 rs2)) None
reads_batch w n rs1 rs2 few low1 low2 is =
    let e : field w 0 7 ≡ 0x0b = omega (arith, is) in
    let f : field w 12 3 ≡ 5 = omega (arith, is, few) in
    let d : field w 7 5 ≡ n = omega (arith, is, few) in
    let z : field w 25 7 ≡ 0 = omega (arith, is, few, low1, low2) in
    let r : field w 15 5 ≡ rs1 = omega (arith, is, few, low1) in
    let q : field w 20 5 ≡ rs2 = omega (arith, is, few, low1, low2) in
    reads_custom_0 w 5 e f
    ∙ ap (λ b. cond b (Some Poll) (cond (eqb w 0x300b) (Some Call) (batch_of w))) (ne_eqb w 0x200b (λ h. let g : field w 12 3 ≡ 2 = ap (λ x. field x 12 3) h in omega (arith, f, g)))
    ∙ ap (λ b. cond b (Some Call) (batch_of w)) (ne_eqb w 0x300b (λ h. let g : field w 12 3 ≡ 3 = ap (λ x. field x 12 3) h in omega (arith, f, g)))
    ∙ batch_fields w n rs1 rs2 d z r q

pub byte_small : (b : Bool) → cond b 1 0 < 2
byte_small true = omega arith
byte_small false = omega arith

stores_is : (b : Bool) (rs1 rs2 : ℕ)
    → cond (nat_lt (cond b 1 0) 2 && eqb 0 0) (Some (Batch (eqb (cond b 1 0) 1) rs1 rs2)) None ≡ Some (Batch b rs1 rs2)
stores_is true rs1 rs2 = refl
stores_is false rs1 rs2 = refl

pub reads_batch_of : (w n rs1 rs2 : ℕ) (stores : Bool) → n ≡ cond stores 1 0 → rs1 < 32 → rs2 < 32
    → w ≡ rs2 * 2 ^ 20 + rs1 * 2 ^ 15 + n * 2 ^ 7 + 0x500b → read_word w ≡ Some (Batch stores rs1 rs2)
reads_batch_of w n rs1 rs2 stores byte low1 low2 is =
    let small = byte_small stores in
    reads_batch w n rs1 rs2 (omega (arith, byte, small)) low1 low2 is
    ∙ (λ t. cond (nat_lt (byte t) 2 && eqb 0 0) (Some (Batch (eqb (byte t) 1) rs1 rs2)) None) ∙ stores_is stores rs1 rs2
