-- Words of a region, one behind the other.
use Rattle.std.proofs.Common.{◌≡◌, ℕ, ◌+◌, ◌-◌, ◌%◌, ◌^◌, true, eqb, refl, sym, ap, ◌∙◌, subst, length, arith}
use Rattle.std.proofs.lemmas.Bool.Decides.{nat_tests}
use Rattle.elf32_read.specs.Elf.{Elf}
use Rattle.byte_range.specs.Window.{window_memory}
use Rattle.rv32_step.specs.OneMemory.{next_pc, with_processor}
use Rattle.rv32_step.specs.Registers.{put, registers_of}
use Rattle.rv32_step.specs.declared.Demand.{Demand}
use Rattle.rv32_step.specs.declared.Demand.TheVariants.{Branches, Continues, Jumps, Sets}
use Rattle.micro_op.specs.Micro.{Demands, Meaning, index_address, meaning_of}
use Rattle.micro_op.specs.declared.micro_op.MicroOp.{MicroOp}
use Rattle.one_memory.specs.declared.processor.OriginalState.{OriginalState}
use Rattle.one_memory.specs.declared.processor.StepTarget.{StepTarget}
use Rattle.one_memory.specs.declared.processor.StepTarget.TheVariants.{To}
use Rattle.one_memory.specs.Machine.{AreOps, Answers, IsDemandAt, Meets, MemoryParts, Serves, Serving, Steps, after_move, at_index, processor_of, state_among}
use Rattle.one_memory.specs.Turns.{Turns}
use Rattle.one_memory.specs.Going.{Extent, Goes, GoingParts, HasGone, Start, Stays, place_of}
use Rattle.one_memory.proofs.TurnLemmas.{no_turns, turn_more}

-- 1. A demand is met

-- the next word follows
pub continues : (p at at' : ℕ) (m : MemoryParts) (b : OriginalState) → at' ≡ (at + 1) % 2 ^ 32
    → Meets p Continues at m b m b (To at')
continues p at at' m b next = λ nodes all.
    let pc : index_address 0 at' ≡ next_pc (index_address 0 at) = omega (arith, next) in
    ap (with_processor (state_among all m) p) (λ t. record (processor_of (at_index at b)) { pc = sym pc t })

-- a register is set, and the next word follows
pub sets_next : (p at at' r v : ℕ) (m : MemoryParts) (b b' : OriginalState) → at' ≡ (at + 1) % 2 ^ 32
    → registers_of b'.registers ≡ put (registers_of b.registers) r v → b'.window ≡ b.window → b'.written ≡ b.written
    → Meets p (Sets r v) at m b m b' (To at')
sets_next p at at' r v m b b' next registers window written = λ nodes all.
    let pc : index_address 0 at' ≡ next_pc (index_address 0 at) = omega (arith, next) in
    ap (with_processor (state_among all m) p) (λ t. record (processor_of (at_index at b)) {
      registers = sym registers t;
      pc = sym pc t;
      private = window_memory (sym window t);
      written = sym written t;
    })

is_word : (index : ℕ) → eqb (index_address 0 index % 4) 0 ≡ true
is_word index = let rest : index_address 0 index % 4 ≡ 0 = omega arith in grind (arith, nat_tests)

-- the word with an index follows
pub branches_to : (p at index : ℕ) (m : MemoryParts) (b : OriginalState)
    → Meets p (Branches (index_address 0 index)) at m b m b (To index)
branches_to p at index m b = λ nodes all. rw (is_word index) refl

-- it follows, and a register gets the address of the next word
pub jumps_to : (p at index next r : ℕ) (m : MemoryParts) (b b' : OriginalState) → next ≡ next_pc (index_address 0 at)
    → registers_of b'.registers ≡ put (registers_of b.registers) r next → b'.window ≡ b.window → b'.written ≡ b.written
    → Meets p (Jumps r (index_address 0 index)) at m b m b' (To index)
jumps_to p at index next r m b b' is registers window written = λ nodes all. rw (is_word index)
    (ap (with_processor (state_among all m) p) (λ t. record (processor_of (at_index at b)) {
      registers = sym (registers ∙ ap (put (registers_of b.registers) r) is) t;
      pc = index_address 0 index;
      private = window_memory (sym window t);
      written = sym written t;
    }))

-- 2. One word more

-- what a micro-op demands is what the word does
pub served_steps : (p at at' : ℕ) (m m' : MemoryParts) (b b' : OriginalState) (op : MicroOp) (d : Demand)
    → Serves m.program (index_address 0 at) op → meaning_of 0 op (registers_of b.registers) ≡ Demands d
    → Meets p d at m b m' b' (To at') → Steps p at m b m' b' (To at')
served_steps p at at' m m' b b' op d serves means met =
    let q = processor_of (at_index at b) in
    let asks = subst (λ (x : Meaning). Serving x (IsDemandAt m.program (index_address 0 at) q)) means (serves.serves q) in
    subst (λ r. Answers p r m (at_index at b) m' (after_move (To at') at b')) (sym (asks refl)) met

-- a step from where nothing has changed
step_from : (p : ℕ) (s : Start) (m m' : MemoryParts) (b b' : OriginalState) (g : GoingParts) (t : StepTarget) → Stays s m b g
    → Steps p (place_of g) m b m' b' t → Steps p (place_of s.going) s.memory s.body m' b' t
step_from p s m m' b b' g t stays step =
    subst (λ (x : MemoryParts). Steps p (place_of s.going) x s.body m' b' t) stays.memory
    (subst (λ (y : OriginalState). Steps p (place_of s.going) m y m' b' t) stays.body
    (subst (λ (a : ℕ). Steps p a m b m' b' t) stays.place step))

-- where it begins
pub starts : (p : ℕ) (s : Start) → AreOps s.memory.program s.going.extent.first s.ops → s.going.extent.count ≡ length s.ops
    → HasGone p s s.memory s.body s.going
starts p s ops count =
    let at = at_index (place_of s.going) s.body in
    let zero_left : 0 ≡ s.going.left - s.going.left = omega arith in
    record {
      ops = ops;
      count = count;
      few = omega arith;
      turns = subst (λ (n : ℕ). Turns p n s.memory at s.memory at) zero_left (no_turns p s.memory at);
      none = λ same. record { place = refl; memory = refl; body = refl };
      one = λ last. absurd (omega (arith, last));
      program = refl;
      layout = refl;
    }

-- a step more
pub gone_on : (p : ℕ) (s : Start) (m m' : MemoryParts) (b b' : OriginalState) (g g' : GoingParts) → HasGone p s m b g
    → g'.extent ≡ g.extent → g'.left + 1 ≡ g.left → Steps p (place_of g) m b m' b' (To (place_of g'))
    → m'.program ≡ m.program → m'.layout ≡ m.layout → HasGone p s m' b' g'
gone_on p s m m' b b' g g' gone extent one step program layout =
    let few = gone.few in
    let more : s.going.left - g.left + 1 ≡ s.going.left - g'.left = omega (arith, one, few) in
    let begin = at_index (place_of s.going) s.body in
    let end = at_index (place_of g') b' in
    record {
      ops = subst (λ (x : Extent). AreOps m'.program x.first s.ops) (sym extent)
          (subst (λ (e : Elf). AreOps e g.extent.first s.ops) (sym program) gone.ops);
      count = ap (λ (x : Extent). x.count) extent ∙ gone.count;
      few = omega (arith, one, few);
      turns = subst (λ (n : ℕ). Turns p n s.memory begin m' end) more
          (turn_more p (s.going.left - g.left) s.memory m m' begin (at_index (place_of g) b) end
          (record { program = gone.program; layout = gone.layout }) refl gone.turns step);
      none = λ same. absurd (omega (arith, one, few, same));
      one = λ last. step_from p s m m' b b' g (To (place_of g')) (gone.none (omega (arith, one, last))) step;
      program = program ∙ gone.program;
      layout = layout ∙ gone.layout;
    }

-- a demand more
pub goes_by : (p : ℕ) (op : MicroOp) (d : Demand) (m m' : MemoryParts) (b b' : OriginalState) (g g' : GoingParts)
    → meaning_of 0 op (registers_of b.registers) ≡ Demands d → Meets p d (place_of g) m b m' b' (To (place_of g'))
    → g'.extent ≡ g.extent → g'.left + 1 ≡ g.left → m'.program ≡ m.program → m'.layout ≡ m.layout
    → Goes p op m b g m' b' g'
goes_by p op d m m' b b' g g' means met extent one program layout = λ s is gone.
    let same : index_address 0 (g.extent.first + g.at) ≡ index_address 0 (place_of g) = omega arith in
    let serves = subst (λ (a : ℕ). Serves m.program a op) same (gone.ops g.at op is) in
    gone_on p s m m' b b' g g' gone extent one
    (served_steps p (place_of g) (place_of g') m m' b b' op d serves means met) program layout

-- nothing has changed
pub goes_still : (p : ℕ) (op : MicroOp) (m m' : MemoryParts) (b b' : OriginalState) (g : GoingParts) → m' ≡ m → b' ≡ b
    → Goes p op m b g m' b' g
goes_still p op m m' b b' g memory body = λ s is gone.
    subst (λ (x : MemoryParts). HasGone p s x b' g) (sym memory) (subst (λ (y : OriginalState). HasGone p s m y g) (sym body) gone)
