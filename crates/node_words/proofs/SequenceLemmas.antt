-- Whole sequences: what their words do one after another.
use Rattle.std.proofs.Common.{◌≡◌, ◌≢◌, ℕ, zero, suc, ◌+◌, ◌*◌, ◌/◌, ◌%◌, ◌^◌, ◌<◌, ◌≤◌, Bool, true, false, List, [], ◌∷◌, None, if◌then◌else◌, ◌==◌, refl, sym, ap, ◌∙◌, subst, arith}
use Rattle.std.proofs.lemmas.Bool.Decides.{nat_tests}
use Rattle.std.specs.Prelude.{bit_and}
use Rattle.rv32_decode.specs.declared.Cond.{Cond}
use Rattle.rv32_decode.specs.declared.Cond.TheVariants.{Eq}
use Rattle.rv32_decode.specs.declared.Cond.TheVariants as cond
use Rattle.rv32_decode.specs.declared.LoadKind.{LoadKind}
use Rattle.rv32_decode.specs.declared.LoadKind.TheVariants as load_kind
use Rattle.rv32_decode.specs.declared.Width.{Width}
use Rattle.rv32_decode.specs.declared.Width.TheVariants as width
use Rattle.rv32_decode.specs.Widths.{is_aligned, width_of}
use Rattle.rv32_ops.specs.Operations.{alu, taken}
use Rattle.node_memory.specs.rv32_step.Memory.{load_value}
use Rattle.node_memory.specs.rv32_step.Registers.{reg, put}
use Rattle.node_memory.specs.rv32_step.Demands.{branch_demand}
use Rattle.node_memory.specs.rv32_step.declared.Demand.TheVariants.{Jumps, Loads, Sets, Stores}
use Rattle.node_memory.specs.micro_op.declared.micro_op.MicroOp.{MicroOp}
use Rattle.node_memory.specs.micro_op.declared.MicroKind.{MicroKind}
use Rattle.node_memory.specs.micro_op.declared.MicroKind.TheVariants as kind
use Rattle.node_memory.specs.micro_op.Kinds.{branch_kind, kind_of_load, store_kind}
use Rattle.node_memory.specs.micro_op.Micro.{Demands, branches, loads, meaning_by, meaning_of, stores}
use Rattle.node_memory.specs.jump_map.Image.{image_base}
use Rattle.node_memory.specs.jump_map.Strides.{AreApart, IsAccess, IsJump, IsNumber, IsOver, IsPolled, IsRead, IsWrite, Keep, Scratch, StandFrom, StandsAt, TakeBack, mask, op_of, skip, state_look}
use Rattle.node_memory.specs.node_model.Node.{ProcessorState, NodeMemory, byte_at, is_readable_state, is_writable_state, lane_stored, local_stored, set_register}
use Rattle.node_words.specs.Address.{word_address}
use Rattle.node_words.specs.Strides.{left_by_check}
use Rattle.node_words.proofs.StepLemmas.{put_zero}
use Rattle.node_words.proofs.ReachLemmas.{Code, Crosses, Reaches, reaches_both}
use Rattle.node_words.proofs.RegisterLemmas.{first_back, put_here, put_other, put_over, put_twice, reg_zero, second_back}
use Rattle.node_words.proofs.OneWord.{branches_to, jumps_to, keeps, lane_at, loads_memory, loads_state, passes, sets, stores_memory, takes}

-- registers after writes of two

pub first_of : (f : ℕ → ℕ) (x : Scratch) (v w : ℕ) → AreApart x → reg (put (put f x.s v) x.t w) x.s ≡ v
first_of f x v w n = put_other (put f x.s v) x.t x.s w n.s_t ∙ put_here f x.s v n.s_kept

pub second_of : (f : ℕ → ℕ) (x : Scratch) (v w : ℕ) → AreApart x → reg (put (put f x.s v) x.t w) x.t ≡ w
second_of f x v w n = put_here (put f x.s v) x.t w n.t_kept

pub other_of : (f : ℕ → ℕ) (x : Scratch) (v w q : ℕ) → q ≢ x.s → q ≢ x.t → reg (put (put f x.s v) x.t w) q ≡ reg f q
other_of f x v w q s t = put_other (put f x.s v) x.t q w t ∙ put_other f x.s q v s

-- the word of a number is the first of some
pub begins : (micros : List MicroOp) (k : ℕ) (ops : List MicroOp) (op : MicroOp) → StandFrom micros k ops → StandsAt ops 0 op
    → StandsAt micros k op
begins micros k ops op stand first =
    let here : k + 0 ≡ k = omega arith in
    subst (λ (i : ℕ). StandsAt micros i op) here (stand 0 op first)

-- the five words that read the state byte of a line
pub look_reaches : (c : Code) (k a : ℕ) (x : Scratch) (l : ProcessorState) (m : NodeMemory) (f g : ℕ → ℕ) → AreApart x
    → StandFrom c.micros k (state_look x.s x.t x.base x.imm) → a ≡ (reg f x.base + x.imm) % 2 ^ 32
    → Reaches c k 5 (lane_at l f g k) m (lane_at l (put (put f x.s (m.state (a / 64))) x.t 0x80000000) g (k + 5)) m
unfolding alu
look_reaches c k a x l m f g n look is =
    let s = x.s in
    let t = x.t in
    let f1 = put f s a in
    let f2 = put f1 t 0x80000000 in
    let f3 = put (put f s (a / 64)) t 0x80000000 in
    let f4 = put (put f s (0x80000000 + a / 64)) t 0x80000000 in
    let f5 = put (put f s (m.state (a / 64))) t 0x80000000 in
    let small : a < 2 ^ 32 = omega (arith, is) in
    let s3 = first_of f x (a / 64) 0x80000000 n in
    let t3 = second_of f x (a / 64) 0x80000000 n in
    let s4 = first_of f x (0x80000000 + a / 64) 0x80000000 n in
    let place : (reg f3 s + reg f3 t) % 2 ^ 32 ≡ 0x80000000 + a / 64 = omega (arith, s3, t3, small) in
    let address : (reg f4 s + 0) % 2 ^ 32 ≡ 0x80000000 + a / 64 = omega (arith, s4, small) in
    let one = sets c k (k + 1) (op_of kind.AddImm s x.base 0 x.imm) s a l m f g f1 refl
    (begins c.micros k (state_look s t x.base x.imm) (op_of kind.AddImm s x.base 0 x.imm) look refl) (ap (λ (v : ℕ). Demands (Sets s v)) (sym is)) refl in
    let two = sets c (k + 1) (k + 2) (op_of kind.Constant t 0 0 0x80000000) t 0x80000000 l m f1 g f2 (omega arith)
    (look 1 _ refl) refl refl in
    let three = sets c (k + 2) (k + 3) (op_of kind.SrlImm s s 0 6) s (a / 64) l m f2 g f3 (omega arith) (look 2 _ refl)
    (ap (λ (v : ℕ). Demands (Sets s (v / 64))) (first_of f x a 0x80000000 n))
    (sym (put_over f s t a 0x80000000 (a / 64) n.s_t)) in
    let four = sets c (k + 3) (k + 4) (op_of kind.Add s s t 0) s (0x80000000 + a / 64) l m f3 g f4 (omega arith)
    (look 3 _ refl) (ap (λ (v : ℕ). Demands (Sets s v)) place)
    (sym (put_over f s t (a / 64) 0x80000000 (0x80000000 + a / 64) n.s_t)) in
    let five = loads_state c (k + 4) (k + 5) (op_of kind.LoadByteU s s 0 0) s (a / 64) l m f4 g f5 (omega arith)
    (look 4 _ refl) (ap (λ (v : ℕ). Demands (Loads load_kind.ByteU s v)) address) (omega (arith, small))
    (sym (put_over f s t (0x80000000 + a / 64) 0x80000000 (m.state (a / 64)) n.s_t)) in
    reaches_both 4 1 5 refl refl (reaches_both 3 1 4 refl refl (reaches_both 2 1 3 refl refl (reaches_both 1 1 2 refl refl one two) three) four)
    five

-- past the check, where a register is zero
pub skips : (c : Code) (k to s : ℕ) (l : ProcessorState) (m : NodeMemory) (f g : ℕ → ℕ) → StandsAt c.micros k (skip s to)
    → reg f s ≡ 0 → Reaches c k 1 (lane_at l f g k) m (lane_at l f g to) m
unfolding taken
skips c k to s l m f g stands none =
    branches_to c k to (skip s to) l m f g stands
    (λ t. Demands (branch_demand (taken Eq (none t) (reg_zero f t)) (word_address to)))

-- where the second bit of a register is clear, it is zero then
pub masked : (c : Code) (k n v : ℕ) (x : Scratch) (l : ProcessorState) (m : NodeMemory) (f g : ℕ → ℕ) → AreApart x
    → n ≡ k + 1 → StandsAt c.micros k (mask x.s) → bit_and v 2 ≡ 0
    → Reaches c k 1 (lane_at l (put (put f x.s v) x.t 0x80000000) g k) m
    (lane_at l (put (put f x.s 0) x.t 0x80000000) g n) m
unfolding alu
masked c k n v x l m f g apart behind stands clear =
    sets c k n (mask x.s) x.s 0 l m (put (put f x.s v) x.t 0x80000000) g _ behind stands
    (ap (λ (w : ℕ). Demands (Sets x.s (bit_and w 2))) (first_of f x v 0x80000000 apart)
    ∙ ap (λ (w : ℕ). Demands (Sets x.s w)) clear)
    (sym (put_over f x.s x.t v 0x80000000 0 apart.s_t))

-- what an access means
load_means : (q : LoadKind) (op : MicroOp) (f : ℕ → ℕ) → op.kind ≡ kind_of_load q
    → meaning_of image_base op f ≡ loads q op f
load_means load_kind.Byte op f is = ap (λ (k : MicroKind). meaning_by k image_base op f) is
load_means load_kind.Half op f is = ap (λ (k : MicroKind). meaning_by k image_base op f) is
load_means load_kind.Word op f is = ap (λ (k : MicroKind). meaning_by k image_base op f) is
load_means load_kind.ByteU op f is = ap (λ (k : MicroKind). meaning_by k image_base op f) is
load_means load_kind.HalfU op f is = ap (λ (k : MicroKind). meaning_by k image_base op f) is

store_means : (w : Width) (op : MicroOp) (f : ℕ → ℕ) → op.kind ≡ store_kind w
    → meaning_of image_base op f ≡ stores w op f
store_means width.Byte op f is = ap (λ (k : MicroKind). meaning_by k image_base op f) is
store_means width.Half op f is = ap (λ (k : MicroKind). meaning_by k image_base op f) is
store_means width.Word op f is = ap (λ (k : MicroKind). meaning_by k image_base op f) is

-- the address of an access is that of its look
same_address : (f f' : ℕ → ℕ) (op : MicroOp) (x : Scratch) (a : ℕ) → op.rs1 ≡ x.base → op.imm ≡ x.imm
    → reg f' x.base ≡ reg f x.base → a ≡ (reg f x.base + x.imm) % 2 ^ 32 → (reg f' op.rs1 + op.imm) % 2 ^ 32 ≡ a
same_address f f' op x a base imm kept is =
    (λ t. (reg f' (base t) + imm t) % 4294967296) ∙ (λ t. (kept t + x.imm) % 4294967296) ∙ sym is

-- a number of which a test says that it is zero
pub tests_zero : (n : ℕ) → (n == 0) ≡ true → n ≡ 0
tests_zero n is = grind (arith, nat_tests)

-- a load whose line may be read, but for the spills
checked_read : (c : Code) (k a v : ℕ) (q : LoadKind) (x : Scratch) (l : ProcessorState) (m : NodeMemory) (f g : ℕ → ℕ)
    → AreApart x → StandFrom c.micros k (state_look x.s x.t x.base x.imm)
    → StandFrom c.micros (k + 5) (mask x.s ∷ skip x.s (k + 8) ∷ [])
    → (access : IsAccess c.micros (k + 8) x (kind_of_load q)) → a ≡ (reg f x.base + x.imm) % 2 ^ 32
    → is_readable_state (m.state (a / 64)) ≡ true → is_aligned (width_of q) a ≡ true → a < 2 ^ 31
    → v ≡ load_value q (byte_at c.program l m) a → Crosses None c k 7 (k + 8) 1 (lane_at l f g k) m
    (lane_at l (put (put (put f x.s 0) x.t 0x80000000) access.access.rd v) g (k + 9)) m
checked_read c k a v q x l m f g n look test access is readable aligned low value =
    let op = access.access in
    let state = m.state (a / 64) in
    let f1 = put (put f x.s 0) x.t 0x80000000 in
    let base : reg f1 x.base ≡ reg f x.base =
    other_of f x 0 0x80000000 x.base (λ e. n.s_base (sym e)) (λ e. n.t_base (sym e)) in
    let clear : bit_and state 2 ≡ 0 = tests_zero (bit_and state 2) readable in
    let one = look_reaches c k a x l m f g n look is in
    let two = masked c (k + 5) (k + 6) state x l m f g n (omega arith) (begins c.micros (k + 5) (mask x.s ∷ skip x.s (k + 8) ∷ []) (mask x.s) test refl) clear in
    let sixth : k + 5 + 1 ≡ k + 6 = omega arith in
    let three = skips c (k + 6) (k + 8) x.s l m f1 g
    (subst (λ (i : ℕ). StandsAt c.micros i (skip x.s (k + 8))) sixth (test 1 _ refl)) (first_of f x 0 0x80000000 n) in
    let four = loads_memory c (k + 8) (k + 9) op q op.rd a v l m f1 g (omega arith) access.there
    (load_means q op f1 access.kind_is
    ∙ ap (λ (b : ℕ). Demands (Loads q op.rd b)) (same_address f f1 op x a access.base access.imm base is))
    aligned low value in
    record {
      lane = lane_at l f1 g (k + 8);
      memory = m;
      first = reaches_both 6 1 7 refl refl (reaches_both 5 1 6 refl refl one two) three;
      second = four;
    }

-- a store whose line may be written, but for the spills
checked_write : (c : Code) (k a v : ℕ) (w : Width) (x : Scratch) (l : ProcessorState) (m : NodeMemory) (f g : ℕ → ℕ)
    → AreApart x → StandFrom c.micros k (state_look x.s x.t x.base x.imm)
    → StandFrom c.micros (k + 5) (skip x.s (k + 7) ∷ [])
    → (access : IsAccess c.micros (k + 7) x (store_kind w)) → access.access.rs2 ≢ x.s → access.access.rs2 ≢ x.t
    → a ≡ (reg f x.base + x.imm) % 2 ^ 32 → v ≡ reg f access.access.rs2
    → is_writable_state (m.state (a / 64)) ≡ true → is_aligned w a ≡ true → a < 2 ^ 31
    → Crosses None c k 6 (k + 7) 1 (lane_at l f g k) m
    (lane_at (lane_stored c.program l w a v) (put (put f x.s 0) x.t 0x80000000) g (k + 8)) (local_stored c.program m w a v)
checked_write c k a v w x l m f g n look test access rs2_s rs2_t is value writable aligned low =
    let op = access.access in
    let state = m.state (a / 64) in
    let clear : state ≡ 0 = tests_zero state writable in
    let f1 = put (put f x.s 0) x.t 0x80000000 in
    let base : reg f1 x.base ≡ reg f x.base =
    other_of f x 0 0x80000000 x.base (λ e. n.s_base (sym e)) (λ e. n.t_base (sym e)) in
    let kept : reg f1 op.rs2 ≡ v = other_of f x 0 0x80000000 op.rs2 rs2_s rs2_t ∙ sym value in
    let one : Reaches c k 5 (lane_at l f g k) m (lane_at l f1 g (k + 5)) m =
    subst (λ (z : ℕ). Reaches c k 5 (lane_at l f g k) m (lane_at l (put (put f x.s z) x.t 0x80000000) g (k + 5)) m) clear
    (look_reaches c k a x l m f g n look is) in
    let two = skips c (k + 5) (k + 7) x.s l m f1 g
    (begins c.micros (k + 5) (skip x.s (k + 7) ∷ []) (skip x.s (k + 7)) test refl) (first_of f x 0 0x80000000 n) in
    let three = stores_memory c (k + 7) (k + 8) op w a v l m f1 g (omega arith) access.there
    (store_means w op f1 access.kind_is
    ∙ (λ t. Demands (Stores w (same_address f f1 op x a access.base access.imm base is t) (kept t)))) aligned low in
    record {
      lane = lane_at l f1 g (k + 7);
      memory = m;
      first = reaches_both 5 1 6 refl refl one two;
      second = three;
    }

-- spills before and reloads behind

-- a processor at the word of a number
abbrev pub placed : ProcessorState → ℕ → ProcessorState
placed l k = record l { at = word_address k }

pub stands_too : (micros : List MicroOp) (i j : ℕ) (op : MicroOp) → i ≡ j → StandsAt micros i op → StandsAt micros j op
stands_too micros i j op same stands = subst (λ (k : ℕ). StandsAt micros k op) same stands

-- words between that leave both scratch registers of a check, and another register a value
around_check : (c : Code) (k n i j e p rd v : ℕ) (x : Scratch) (l l' : ProcessorState) (m m' : NodeMemory) (f g : ℕ → ℕ)
    → n ≤ 2 → AreApart x → rd ≢ x.s → rd ≢ x.t → Keep c.micros k n (x.s ∷ x.t ∷ [])
    → TakeBack c.micros j n (x.s ∷ x.t ∷ []) → j ≡ i + 1 → e ≡ j + n
    → ((h : ℕ → ℕ) → Crosses None c (k + n) p i 1 (lane_at l f h (k + n)) m
    (lane_at l' (put (put (put f x.s 0) x.t 0x80000000) rd v) h j) m')
    → Crosses None c k (p + n) i (1 + n) (lane_at l f g k) m
    (placed (set_register (left_by_check n x.s x.t (lane_at l' f g k)) rd v) e) m'
around_check c k zero i j e p rd v x l l' m m' f g few apart rd_s rd_t keep take next end between =
    let b = between g in
    let f1 = put (put (put f x.s 0) x.t 0x80000000) rd v in
    let words : p ≡ p + 0 = omega arith in
    let start : k + 0 ≡ k = omega arith in
    let stop : j ≡ e = omega (arith, end) in
    record {
      lane = b.lane;
      memory = b.memory;
      first = subst (λ (w : ℕ). Reaches c k w (lane_at l f g k) m b.lane b.memory) words
          (subst (λ (z : ℕ). Reaches c z p (lane_at l f g z) m b.lane b.memory) start b.first);
      second = subst (λ (z : ℕ). Reaches c i 1 b.lane b.memory (lane_at l' f1 g z) m') stop b.second;
    }
around_check c k (suc zero) i j e p rd v x l l' m m' f g few apart rd_s rd_t keep take next end between =
    let s = x.s in
    let t = x.t in
    let h = λ (i : ℕ). if i == 1 then reg f t else g i in
    let b = between h in
    let kept : reg (put f s 0) t ≡ reg f t = put_other f s t 0 (λ q. apart.s_t (sym q)) in
    let one = keeps c k (k + 1) 1 t l m f g refl (omega arith)
    (stands_too c.micros (k + 0) k _ (omega arith) (keep 0 t (omega arith) refl)) in
    let two = takes c j e 1 t l' m' (put (put (put f s 0) t 0x80000000) rd v) h (put (put f s 0) rd v) end (omega arith)
    (stands_too c.micros (j + 0) j _ (omega arith) (take 0 t (omega arith) refl))
    (sym (second_back (put f s 0) t rd 0x80000000 v (reg f t) (λ q. rd_t (sym q)) (sym kept))) in
    let whole : Crosses None c k (p + 1) i 2 (lane_at l f g k) m (lane_at l' (put (put f s 0) rd v) h e) m' = record {
      lane = b.lane;
      memory = b.memory;
      first = reaches_both 1 p (p + 1) (omega arith) refl one b.first;
      second = reaches_both 1 1 2 refl next b.second two;
    } in
    subst (λ (z : ℕ). Crosses None c k (p + 1) i 2 (lane_at l f g k) m
    (lane_at l' (put (put f s 0) rd v) (λ (i : ℕ). if i == 1 then z else g i) e) m') (sym kept) whole
around_check c k (suc (suc zero)) i j e p rd v x l l' m m' f g few apart rd_s rd_t keep take next end between =
    let s = x.s in
    let t = x.t in
    let h0 = λ (i : ℕ). if i == 0 then reg f s else g i in
    let h = λ (i : ℕ). if i == 1 then reg f t else h0 i in
    let b = between h in
    let one = keeps c k (k + 1) 0 s l m f g refl (omega arith)
    (stands_too c.micros (k + 0) k _ (omega arith) (keep 0 s (omega arith) refl)) in
    let two = keeps c (k + 1) (k + 2) 1 t l m f h0 (omega arith) (omega arith) (keep 1 t (omega arith) refl) in
    let three = takes c j (j + 1) 0 s l' m' (put (put (put f s 0) t 0x80000000) rd v) h (put (put f t 0x80000000) rd v) refl
    (omega arith) (stands_too c.micros (j + 0) j _ (omega arith) (take 0 s (omega arith) refl))
    (sym (first_back f s t rd 0 0x80000000 v apart.s_t (λ q. rd_s (sym q)))) in
    let four = takes c (j + 1) e 1 t l' m' (put (put f t 0x80000000) rd v) h (put f rd v) (omega (arith, end)) (omega arith)
    (take 1 t (omega arith) refl)
    (sym (second_back f t rd 0x80000000 v (reg f t) (λ q. rd_t (sym q)) refl)) in
    record {
      lane = b.lane;
      memory = b.memory;
      first = reaches_both 2 p (p + 2) (omega arith) refl (reaches_both 1 1 2 refl refl one two) b.first;
      second = reaches_both 2 1 3 refl (omega (arith, next)) (reaches_both 1 1 2 refl next b.second three) four;
    }
around_check c k (suc (suc (suc n))) i j e p rd v x l l' m m' f g few apart rd_s rd_t keep take next end between =
    absurd (omega (arith, few))

-- a load whose line may be read
pub read_reaches : (c : Code) (k n a v : ℕ) (q : LoadKind) (l : ProcessorState) (m : NodeMemory) (f g : ℕ → ℕ) → n ≤ 2
    → (there : IsRead c.micros k n (kind_of_load q)) → a ≡ (reg f there.x.base + there.x.imm) % 2 ^ 32
    → is_readable_state (m.state (a / 64)) ≡ true → is_aligned (width_of q) a ≡ true → a < 2 ^ 31
    → v ≡ load_value q (byte_at c.program l m) a
    → Crosses None c k (7 + n) (k + n + 8) (1 + n) (lane_at l f g k) m
    (placed (set_register (left_by_check n there.x.s there.x.t (lane_at l f g k)) there.load.access.rd v) (k + (9 + 2 * n))) m
read_reaches c k n a v q l m f g few there is readable aligned low value =
    around_check c k n (k + n + 8) (k + n + 9) (k + (9 + 2 * n)) 7 there.load.access.rd v there.x l l m m f g few there.apart
    there.rd_s there.rd_t there.keep there.take (omega arith) (omega arith)
    (λ h. checked_read c (k + n) a v q there.x l m f h there.apart there.look there.test there.load is readable aligned low
    value)

-- a store whose line may be written
pub write_reaches : (c : Code) (k n a v : ℕ) (w : Width) (l : ProcessorState) (m : NodeMemory) (f g : ℕ → ℕ) → n ≤ 2
    → (there : IsWrite c.micros k n (store_kind w)) → a ≡ (reg f there.x.base + there.x.imm) % 2 ^ 32
    → v ≡ reg f there.store.access.rs2 → is_writable_state (m.state (a / 64)) ≡ true → is_aligned w a ≡ true → a < 2 ^ 31
    → Crosses None c k (6 + n) (k + n + 7) (1 + n) (lane_at l f g k) m
    (placed (left_by_check n there.x.s there.x.t (lane_at (lane_stored c.program l w a v) f g k)) (k + (8 + 2 * n)))
    (local_stored c.program m w a v)
write_reaches c k n a v w l m f g few there is value writable aligned low =
    let l' = lane_stored c.program l w a v in
    let m' = local_stored c.program m w a v in
    let x = there.x in
    let f1 = put (put f x.s 0) x.t 0x80000000 in
    let left = left_by_check n x.s x.t (lane_at l' f g k) in
    let whole = around_check c k n (k + n + 7) (k + n + 8) (k + (8 + 2 * n)) 6 0 0 x l l' m m' f g few there.apart
    (λ e. there.apart.s_kept (sym e)) (λ e. there.apart.t_kept (sym e)) there.keep there.take (omega arith) (omega arith)
    (λ h. subst (λ (r : ℕ → ℕ). Crosses None c (k + n) 6 (k + n + 7) 1 (lane_at l f h (k + n)) m (lane_at l' r h (k + n + 8)) m')
    (sym (put_zero f1 0))
    (checked_write c (k + n) a v w x l m f h there.apart there.look there.test there.store there.rs2_s there.rs2_t is value
    writable aligned low)) in
    subst (λ (r : ℕ → ℕ). Crosses None c k (6 + n) (k + n + 7) (1 + n) (lane_at l f g k) m (placed (record left { registers = r }) (k + (8 + 2 * n))) m')
    (put_zero left.registers 0) whole

-- one and two words that go to others

-- a branch past a jump, and that jump
branch_means : (q : Cond) (op : MicroOp) (f : ℕ → ℕ) → op.kind ≡ branch_kind q
    → meaning_of image_base op f ≡ branches q image_base op f
branch_means cond.Eq op f is = ap (λ (k : MicroKind). meaning_by k image_base op f) is
branch_means cond.Ne op f is = ap (λ (k : MicroKind). meaning_by k image_base op f) is
branch_means cond.Lt op f is = ap (λ (k : MicroKind). meaning_by k image_base op f) is
branch_means cond.Ge op f is = ap (λ (k : MicroKind). meaning_by k image_base op f) is
branch_means cond.Ltu op f is = ap (λ (k : MicroKind). meaning_by k image_base op f) is
branch_means cond.Geu op f is = ap (λ (k : MicroKind). meaning_by k image_base op f) is

pub jump_reaches : (c : Code) (k to : ℕ) (l : ProcessorState) (m : NodeMemory) (f g : ℕ → ℕ) (there : IsJump c.micros k)
    → to ≡ there.jump.imm → Reaches c k 1 (lane_at l f g k) m (lane_at l f g to) m
jump_reaches c k to l m f g there is =
    let op = there.jump in
    jumps_to c k to op l m f g there.there
    (ap (λ (q : MicroKind). meaning_by q image_base op f) there.is
    ∙ (λ t. Demands (Jumps (there.keeps_none t) (word_address (sym is t)))))

pub poll_reaches : (c : Code) (k n : ℕ) (l : ProcessorState) (m : NodeMemory) (f g : ℕ → ℕ) → n ≡ k + 1
    → IsPolled c.micros k → Reaches c k 1 (lane_at l f g k) m (lane_at l f g n) m
poll_reaches c k n l m f g behind there =
    passes c k n there.poll l m f g behind there.there
    (ap (λ (q : MicroKind). meaning_by q image_base there.poll f) there.is)

pub over_reaches : (c : Code) (k to : ℕ) (q : Cond) (l : ProcessorState) (m : NodeMemory) (f g : ℕ → ℕ)
    → (there : IsOver c.micros k (branch_kind q)) → taken q (reg f there.branch.rs1) (reg f there.branch.rs2) ≡ true
    → to ≡ k + 2 → Reaches c k 1 (lane_at l f g k) m (lane_at l f g to) m
over_reaches c k to q l m f g there holds is =
    let op = there.branch in
    branches_to c k to op l m f g there.there (branch_means q op f there.is
    ∙ (λ t. Demands (branch_demand (holds t) (word_address ((there.past ∙ sym is) t)))))

pub jump_behind_reaches : (c : Code) (k to : ℕ) (q : Cond) (l : ProcessorState) (m : NodeMemory) (f g : ℕ → ℕ)
    → (there : IsOver c.micros k (branch_kind q)) → taken q (reg f there.branch.rs1) (reg f there.branch.rs2) ≡ false
    → to ≡ there.jump.jump.imm → Reaches c k 2 (lane_at l f g k) m (lane_at l f g to) m
jump_behind_reaches c k to q l m f g there fails is =
    let op = there.branch in
    reaches_both 1 1 2 refl refl (passes c k (k + 1) op l m f g refl there.there
    (branch_means q op f there.is ∙ ap (λ (b : Bool). Demands (branch_demand b (word_address op.imm))) fails))
    (jump_reaches c (k + 1) to l m f g there.jump is)

-- a number that two words have
pub number_reaches : (c : Code) (k n v : ℕ) (l : ProcessorState) (m : NodeMemory) (f g : ℕ → ℕ) → n ≡ k + 2
    → (there : IsNumber c.micros k) → v ≡ (there.upper.imm + there.lower.imm) % 2 ^ 32
    → Reaches c k 2 (lane_at l f g k) m (lane_at l (put f there.upper.rd v) g n) m
unfolding alu
number_reaches c k n v l m f g behind there is =
    let upper = there.upper in
    let lower = there.lower in
    let f1 = put f upper.rd upper.imm in
    let got : reg f1 lower.rs1 ≡ upper.imm = ap (reg f1) there.same_rs1 ∙ put_here f upper.rd upper.imm there.kept in
    reaches_both 1 1 2 refl refl
    (sets c k (k + 1) upper upper.rd upper.imm l m f g f1 refl there.upper_there
    (ap (λ (q : MicroKind). meaning_by q image_base upper f) there.upper_is) refl)
    (sets c (k + 1) n lower upper.rd v l m f1 g (put f upper.rd v) (omega (arith, behind)) there.lower_there
    (ap (λ (q : MicroKind). meaning_by q image_base lower f1) there.lower_is
    ∙ (λ t. Demands (Sets (there.same_rd t) ((got t + lower.imm) % 4294967296)))
    ∙ ap (λ (z : ℕ). Demands (Sets upper.rd z)) (sym is))
    (sym (put_twice f upper.rd upper.imm v)))
