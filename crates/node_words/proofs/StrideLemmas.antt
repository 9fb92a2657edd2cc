-- One word by its micro-op, and the words of a stride.
use Rattle.std.proofs.Common.{◌≡◌, ℕ, ◌+◌, ◌-◌, ◌^◌, ◌<◌, ◌≤◌, Bool, true, false, List, Option, Some, length, inl, inr, refl, sym, ap, ◌∙◌, subst, arith}
use Rattle.std.proofs.lemmas.Option.{slice_get_cases, slice_get_past, slice_get_within}
use Rattle.rv32_decode.specs.declared.LoadKind.{LoadKind}
use Rattle.rv32_decode.specs.declared.Width.{Width}
use Rattle.rv32_decode.specs.Widths.{is_aligned, width_of}
use Rattle.node_memory.specs.exec_map.Contents.{program_of}
use Rattle.node_memory.specs.rv32_step.OneMemory.{next_pc}
use Rattle.node_memory.specs.rv32_step.Registers.{put, registers_of}
use Rattle.node_memory.specs.rv32_step.declared.Demand.{Demand}
use Rattle.node_memory.specs.rv32_step.declared.Demand.TheVariants.{Continues, Jumps, Loads, Sets, Stores}
use Rattle.node_memory.specs.micro_op.declared.micro_op.MicroOp.{MicroOp}
use Rattle.node_memory.specs.micro_op.declared.MicroKind.{MicroKind}
use Rattle.node_memory.specs.micro_op.declared.MicroKind.TheVariants.{Jump}
use Rattle.node_memory.specs.micro_op.Micro.{Demands, Meaning, meaning_by, meaning_of}
use Rattle.node_memory.specs.jump_map.Image.{Cell, image_base, most_words}
use Rattle.node_memory.specs.jump_map.Micro.{AreMicrosOf, IsMicroAnswer, IsMicroAt}
use Rattle.node_memory.specs.jump_map.Strides.{StandsAt}
use Rattle.node_memory.specs.node_model.Node.{Next, Region, To, load, only_moves, region_of, set_register, store}
use Rattle.node_words.specs.declared.exec_state.ExecState.{ExecState}
use Rattle.node_words.specs.declared.strides.Going.{Going}
use Rattle.node_words.specs.Address.{word_address}
use Rattle.node_words.specs.GoingOn.{DoesNext}
use Rattle.node_memory.specs.Shelf.{ground_of, local_of}
use Rattle.node_words.specs.Kept.{LeavesBehind, StepsTo, lane_of}
use Rattle.node_words.specs.Strides.{Gives, IsStored, IsTried, StepsBy, StridesBy, Trail, straight}
use Rattle.node_words.specs.Trails.{trail_of}
use Rattle.node_memory.specs.jump_map.declared.strides.StrideKind.{StrideKind}
use Rattle.node_memory.proofs.MemoryLemmas.{memory_region}
use Rattle.node_words.proofs.StepLemmas.{load_next, micro_step, next_follows, put_zero, store_next, to_follows}
use Rattle.node_words.proofs.OneWord.{is_place}
use Rattle.node_words.proofs.AlongLemmas.{BodyReaches, body_one, further_both, straight_reaches, strides_straight}

-- 1. What a body does

pub sets : (b b' : ExecState) (r v : ℕ) → ((at : ℕ) → lane_of b'.lane at ≡ set_register (lane_of b.lane at) r v)
    → b'.local ≡ b.local → DoesNext b (Sets r v) b'
sets b b' r v lane local = λ image at k is low place.
    next_follows image (only_moves (set_register (lane_of b.lane (word_address at)) r v) (local_of b.local) Next)
    (ground_of b.local) at k b'.lane b'.local (omega (arith, is, low)) refl refl refl (record {
      lane = lane (word_address at);
      local = ap local_of local;
      ground_same = ap ground_of local;
    })

pub continues : (b : ExecState) → DoesNext b Continues b
continues b = λ image at k is low place.
    next_follows image (only_moves (lane_of b.lane (word_address at)) (local_of b.local) Next) (ground_of b.local) at k b.lane
    b.local (omega (arith, is, low)) refl refl refl (record { lane = refl; local = refl; ground_same = refl })

-- what a load gives is what it leaves
pub load_leaves : (b b' : ExecState) (k : LoadKind) (r a v : ℕ) → Gives b k a v
    → ((at : ℕ) → lane_of b'.lane at ≡ set_register (lane_of b.lane at) r v) → b'.local ≡ b.local → (at : ℕ)
    → LeavesBehind (load (program_of b.local.program) (lane_of b.lane at) (local_of b.local) k r a (region_of a))
    (ground_of b.local) at b'.lane b'.local
load_leaves b b' k r a v gives lane local at =
    let l = lane_of b.lane at in
    subst (λ (q : Region). LeavesBehind (load (program_of b.local.program) l (local_of b.local) k r a q)
    (ground_of b.local) at b'.lane b'.local) (sym (memory_region a gives.low)) (record {
      lane = lane at ∙ ap (set_register l r) (gives.loaded at);
      local = ap local_of local;
      ground_same = ap ground_of local;
    })

pub loads : (b b' : ExecState) (k : LoadKind) (r a : ℕ) → is_aligned (width_of k) a ≡ true
    → ((at : ℕ) → LeavesBehind
    (load (program_of b.local.program) (lane_of b.lane at) (local_of b.local) k r a (region_of a))
    (ground_of b.local) at b'.lane b'.local) → DoesNext b (Loads k r a) b'
loads b b' k r a aligned leaves = λ image at index is low place.
    let l = lane_of b.lane (word_address at) in
    let n = local_of b.local in
    let program = program_of b.local.program in
    let next = load_next program l n k r a (region_of a) in
    rw aligned (next_follows image (load program l n k r a (region_of a)) (ground_of b.local) at index b'.lane b'.local
    (omega (arith, is, low)) next.0 next.1 next.2 (leaves (word_address at)))

-- what a store made is what it leaves
pub store_leaves : (b b' : ExecState) (w : Width) (a v : ℕ) → IsStored b w a v b' → (at : ℕ)
    → LeavesBehind (store (program_of b.local.program) (lane_of b.lane at) (local_of b.local) w a v (region_of a))
    (ground_of b.local) at b'.lane b'.local
store_leaves b b' w a v stored at =
    subst (λ (q : Region). LeavesBehind
    (store (program_of b.local.program) (lane_of b.lane at) (local_of b.local) w a v q)
    (ground_of b.local) at b'.lane b'.local) (sym (memory_region a stored.low)) (stored.leaves at)

pub stores : (b b' : ExecState) (w : Width) (a v : ℕ) → is_aligned w a ≡ true
    → ((at : ℕ) → LeavesBehind
    (store (program_of b.local.program) (lane_of b.lane at) (local_of b.local) w a v (region_of a))
    (ground_of b.local) at b'.lane b'.local) → DoesNext b (Stores w a v) b'
stores b b' w a v aligned leaves = λ image at index is low place.
    let l = lane_of b.lane (word_address at) in
    let n = local_of b.local in
    let program = program_of b.local.program in
    let next = store_next program l n w a v (region_of a) in
    rw aligned (next_follows image (store program l n w a v (region_of a)) (ground_of b.local) at index b'.lane b'.local
    (omega (arith, is, low)) next.0 next.1 next.2 (leaves (word_address at)))

-- 2. One word by its micro-op

pub steps_by : (image : List Cell) (m : MicroOp) (d : Demand) (from to : Going) (b b' : ExecState)
    → meaning_of image_base m (registers_of b.lane.registers) ≡ Demands d → to.left + 1 ≡ from.left → to.at < 2 ^ 32
    → StepsTo image (Demands d) from.at b.lane b.local b'.lane b'.local (Some to.at) → StepsBy image m from b to b'
steps_by image m d from to b b' means one low steps = record {
  one = one;
  low = low;
  steps = subst (λ (x : Meaning). StepsTo image x from.at b.lane b.local b'.lane b'.local (Some to.at)) (sym means) steps;
}

-- the next one follows
pub steps_next : (image : List Cell) (m : MicroOp) (d : Demand) (from to : Going) (b b' : ExecState)
    → meaning_of image_base m (registers_of b.lane.registers) ≡ Demands d → to.left + 1 ≡ from.left
    → to.at ≡ from.at + 1 → from.at ≤ most_words → DoesNext b d b' → StepsBy image m from b to b'
steps_next image m d from to b b' means one next low does =
    let below : to.at < 2 ^ 32 = omega (arith, next, low) in
    steps_by image m d from to b b' means one below (does image from.at to.at next below)

-- a jump that keeps no link
pub jumps : (image : List Cell) (m : MicroOp) (from to : Going) (b : ExecState) → m.kind ≡ Jump → m.rd ≡ 0
    → to.left + 1 ≡ from.left → to.at ≡ m.imm → to.at < 2 ^ 32 → StepsBy image m from b to b
jumps image m from to b is none one there low =
    let l = lane_of b.lane (word_address from.at) in
    let n = local_of b.local in
    let f = registers_of b.lane.registers in
    let d = Jumps 0 (word_address m.imm) in
    let means : meaning_of image_base m f ≡ Demands d =
    ap (λ (k : MicroKind). meaning_by k image_base m f) is ∙ ap (λ (r : ℕ). Demands (Jumps r (word_address m.imm))) none in
    let none_kept = put_zero l.registers (next_pc (word_address from.at)) in
    steps_by image m d from to b b means one low (λ place. rw (is_place m.imm)
    (to_follows image (only_moves (record l { registers = put l.registers 0 (next_pc l.at) }) n (To (word_address m.imm)))
    (ground_of b.local) from.at to.at b.lane b.local (ap (λ (k : ℕ). To (word_address k)) (sym there)) refl refl
    (record { lane = λ t. record l { registers = sym none_kept t }; local = refl; ground_same = refl })))

-- 3. Strides

-- one word by the micro-op of its number
pub reaches_word : (image : List Cell) (m : MicroOp) (from to : Going) (b b' : ExecState) → length image ≤ most_words
    → IsMicroAt image from.at m → StepsBy image m from b to b' → BodyReaches image 1 b from.at 1 b' to.at
reaches_word image m from to b b' few here steps =
    body_one image from.at to.at b b' few (slice_get_within image from.at here.cell here.there)
    (micro_step image m from.at b.lane b.local b'.lane b'.local (Some to.at) here.cell few here.there here.micro steps.steps)

-- a stride of one word
pub stride_of_one : (image : List Cell) (m : MicroOp) (from to : Going) (b b' : ExecState) → length image ≤ most_words
    → IsMicroAt image from.at m → StepsBy image m from b to b' → StridesBy image (straight 1) from b to b'
stride_of_one image m from to b b' few here steps =
    let within = slice_get_within image from.at here.cell here.there in
    strides_straight image 1 1 1 from to b b' steps.one (omega arith) (omega arith) (omega arith) (omega (arith, within)) steps.low
    (reaches_word image m from to b b' few here steps)

pub tried_stride : (t : Bool) (image : List Cell) (m : MicroOp) (from to : Going) (b b' : ExecState)
    → length image ≤ most_words → IsMicroAt image from.at m → IsTried t (StepsBy image m from b to b') from b to b'
    → IsTried t (StridesBy image (straight 1) from b to b') from b to b'
tried_stride true image m from to b b' few here steps = stride_of_one image m from to b b' few here steps
tried_stride false image m from to b b' few here stays = stays

-- by the micro-op that stands at its number, where its kind is one of a word

pub one_word : (kind is : StrideKind) (at : ℕ) → kind ≡ is → trail_of is at ≡ straight 1 → trail_of kind at ≡ straight 1
one_word kind is at same one = ap (λ (k : StrideKind). trail_of k at) same ∙ one

pub word_strides : (image : List Cell) (micros : List MicroOp) (op : MicroOp) (t : Bool) (from to : Going) (b b' : ExecState)
    (u : Trail) → u ≡ straight 1 → length image ≤ most_words → AreMicrosOf image micros → StandsAt micros from.at op
    → IsTried t (StepsBy image op from b to b') from b to b' → IsTried t (StridesBy image u from b to b') from b to b'
word_strides image micros op t from to b b' u is few are there tried =
    subst (λ (x : Trail). IsTried t (StridesBy image x from b to b') from b to b') (sym is)
    (tried_stride t image op from to b b' few
    (subst (λ (x : Option MicroOp). IsMicroAnswer image from.at x) there (are from.at)) tried)

-- there are as many micro-ops as words
pub as_many : (image : List Cell) (micros : List MicroOp) → AreMicrosOf image micros → length micros ≡ length image
as_many image micros are = elim (slice_get_cases micros (length image)).1 [
  | inl some ↦ (let here = subst (λ (x : Option MicroOp). IsMicroAnswer image (length image) x) some.2 (are (length image)) in
      let below = slice_get_within image (length image) here.cell here.there in absurd (omega (arith, below)))
  | inr few ↦ elim (slice_get_cases image (length micros)).1 [
    | inl some ↦ (let none = subst (λ (x : Option MicroOp). IsMicroAnswer image (length micros) x)
        (slice_get_past micros (length micros) (omega arith)) (are (length micros)) in
        let is = some.2 in absurd (cc (none, is)))
    | inr many ↦ (let less = few.0 in let more = many.0 in omega (arith, less, more))
  ]
]

-- 4. A word, and a stride behind it

pub strides_both : (image : List Cell) (reach : ℕ) (m : MicroOp) (from mid to : Going) (b b1 b' : ExecState)
    → length image ≤ most_words → IsMicroAt image from.at m → mid.at ≡ from.at + 1 → StepsBy image m from b mid b1
    → StridesBy image (straight reach) mid b1 to b' → StridesBy image (straight (1 + reach)) from b to b'
strides_both image reach m from mid to b b1 b' few here next one two =
    let first = one.one in
    let second = two.some in
    let most = two.first in
    let within = two.within in
    strides_straight image (1 + reach) (1 + reach) (1 + (mid.left - to.left)) from to b b' (omega (arith, first, second))
    (omega arith) (omega (arith, most)) (omega arith) (omega (arith, within, next)) two.low
    (further_both image 1 reach (1 + reach) from.at 1 mid.at (mid.left - to.left) to.at (1 + (mid.left - to.left)) b b1 b' refl
    next (omega arith) (omega arith) (reaches_word image m from mid b b1 few here one)
    (straight_reaches image reach mid to b1 b' two))
