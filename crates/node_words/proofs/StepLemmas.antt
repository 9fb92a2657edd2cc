-- What a micro-op does, by what its kind means.
use Rattle.std.proofs.Common.{◌≡◌, ℕ, ◌+◌, ◌*◌, ◌/◌, ◌%◌, ◌<◌, ◌≤◌, Bool, true, false, List, Option, Some, None, refl, ap, sym, ◌∙◌, subst, arith}
use Rattle.std.proofs.Math.Path.{fun_ext}
use Rattle.rv32_decode.specs.declared.AmoOp.{AmoOp}
use Rattle.rv32_decode.specs.declared.LoadKind.{LoadKind}
use Rattle.rv32_decode.specs.declared.LoadKind.TheVariants.{Word as WordLoad}
use Rattle.rv32_decode.specs.Widths.{is_aligned}
use Rattle.rv32_ops.specs.Operations.{amo}
use Rattle.node_memory.specs.rv32_step.Memory.{load_value}
use Rattle.node_memory.specs.llsc.Reservation.{holds}
use Rattle.rv32_decode.specs.declared.Width.{Width}
use Rattle.rv32_decode.specs.declared.Width.TheVariants.{Word}
use Rattle.rv32_program.specs.Program.{Program}
use Rattle.node_memory.specs.micro_op.declared.micro_op.MicroOp.{MicroOp}
use Rattle.node_memory.specs.micro_op.declared.MicroKind.{MicroKind}
use Rattle.node_memory.specs.micro_op.Micro.{Meaning, meaning_by, meaning_of}
use Rattle.node_memory.specs.jump_map.Image.{Cell, image_base}
use Rattle.node_words.specs.declared.lane.ProcessorState as kept
use Rattle.node_words.specs.declared.lane.WordOutcome as kept_outcome
use Rattle.node_memory.specs.node_model.Node.{ProcessorState, NodeMemory, WordOutcome, Next, To, Waits, SameWord, only_moves, lane_after_call, Nothing_counted, Region, Memory, StateOf, Spill, Elsewhere, native, store_if, put_byte, print_byte, byte_at, is_mapped_state, is_readable_state, execute_at, execute_read, next_outcome, place_address, indirect, load, store, phase_after, lane_after, region_of, set_register}
use Rattle.std.proofs.Common.{eqb, ◌&&◌}
use Rattle.std.specs.Prelude.{position}
use Rattle.std.specs.Option.{option_map}
use Rattle.std.proofs.lemmas.Bool.Decides.{nat_tests}
use Rattle.std.proofs.lemmas.List.Quantifiers.{position-Some}
use Rattle.std.proofs.lemmas.Option.{slice_get_within}
use Rattle.node_memory.specs.dsm_messages.declared.messages.Need.TheVariants.{Read}
use Rattle.node_memory.specs.rv32_step.Demands.{cut_short}
use Rattle.node_memory.specs.rv32_step.Registers.{put, registers_of}
use Rattle.node_memory.specs.jump_map.Image.{address_of_word}
use Rattle.node_memory.specs.jump_map.Maps.{new_of, begins_at}
use Rattle.node_memory.specs.rv32_step.OneMemory.{Exchanges, next_pc}
use Rattle.std.proofs.Common.{◌-◌, [], leb, length, zero}
use Rattle.std.specs.Prelude.{slice_get}
use Rattle.rv32_decode.specs.Fields.{unsigned}
use Rattle.node_memory.specs.rv32_step.declared.Demand.{Demand}
use Rattle.node_memory.specs.rv32_step.declared.Demand.TheVariants.{Continues, Jumps, Reserves, StoresIf, Updates}
use Rattle.node_memory.specs.rv32_step.Registers.{reg}
use Rattle.node_memory.specs.micro_op.declared.MicroKind.TheVariants.{Slow}
use Rattle.node_memory.specs.micro_op.Micro.{Unserved, Demands, Enters as EntersBy, Meets, EntersAt}
use Rattle.node_memory.specs.runtime_words.declared.RtWord.{RtWord}
use Rattle.node_memory.specs.runtime_words.declared.RtWord.TheVariants.{Native, Poll, Xjalr, Far}
use Rattle.node_memory.specs.templates.declared.places.Place.{Place}
use Rattle.node_memory.specs.runtime_words.Reading.{read_word}
use Rattle.node_memory.specs.exec_map.Contents.{program_of}
use Rattle.node_memory.specs.jump_map.declared.image.ImageWord.{ImageWord}
use Rattle.node_memory.specs.jump_map.Image.{read_cell, most_words}
use Rattle.node_memory.specs.jump_map.Maps.{fetch}
use Rattle.node_memory.specs.jump_map.Micro.{IsMicroWord}
use Rattle.node_words.specs.Kept.{StepsOr}
use Rattle.node_memory.specs.Shelf.{Shelf, Ground, ground_of, local_of}
use Rattle.node_words.specs.Kept.{LeavesBehind, Does, Follows, StepsTo, lane_of}
use Rattle.node_words.specs.Address.{word_address}
use Rattle.node_memory.specs.node_model.Turns.{wants_of}

-- an update that stores this new word
abbrev pub updated_to : Program → ProcessorState → NodeMemory → ℕ → ℕ → ℕ → ℕ → WordOutcome
updated_to program l n r a old new = record (store program l n Word a new (region_of a)) {
  lane = set_register (store program l n Word a new (region_of a)).lane r old;
  access = Exchanges a old new;
}

-- the word that follows is the next one
pub next_follows : (image : List Cell) (outcome : WordOutcome) (g : Ground) (at k : ℕ) (l : kept.ProcessorState) (s : Shelf) → k ≡ (at + 1) % 4294967296 → outcome.move ≡ Next → outcome.printed ≡ None → outcome.tally ≡ Nothing_counted → LeavesBehind outcome g (word_address at) l s → Follows image outcome g (word_address k) l s
next_follows image outcome g at k l s is move printed tally leaves =
    let next : word_address k ≡ next_pc (word_address at) = omega arith in
    record {
      lane = ap (λ x. lane_of l x) next ∙ ap (λ (x : ProcessorState). record x { at = next_pc x.at }) leaves.lane ∙ sym (ap (lane_after image outcome.lane) move);
      local = leaves.local;
      ground_same = leaves.ground_same;
      output = printed;
      tally = tally;
      phase = λ budget executed. ap (phase_after budget executed) move;
      wants = ap wants_of move;
    }

-- a word with an index follows
pub to_follows : (image : List Cell) (outcome : WordOutcome) (g : Ground) (at k : ℕ) (l : kept.ProcessorState) (s : Shelf) → outcome.move ≡ To (word_address k) → outcome.printed ≡ None → outcome.tally ≡ Nothing_counted → LeavesBehind outcome g (word_address at) l s → Follows image outcome g (word_address k) l s
to_follows image outcome g at k l s move printed tally leaves = record {
  lane = ap (λ (x : ProcessorState). record x { at = word_address k }) leaves.lane ∙ sym (ap (lane_after image outcome.lane) move);
  local = leaves.local;
  ground_same = leaves.ground_same;
  output = printed;
  tally = tally;
  phase = λ budget executed. ap (phase_after budget executed) move;
  wants = ap wants_of move;
}

pub load_next : (program : Program) (l : ProcessorState) (n : NodeMemory) (k : LoadKind) (r a : ℕ) (region : Region) → ((load program l n k r a region).move ≡ Next) × ((load program l n k r a region).printed ≡ None) × ((load program l n k r a region).tally ≡ Nothing_counted)
load_next program l n k r a Memory = (refl, refl, refl)
load_next program l n k r a (StateOf line) = (refl, refl, refl)
load_next program l n k r a (Spill j) = (refl, refl, refl)
load_next program l n k r a Elsewhere = (refl, refl, refl)

pub store_next : (program : Program) (l : ProcessorState) (n : NodeMemory) (w : Width) (a v : ℕ) (region : Region) → ((store program l n w a v region).move ≡ Next) × ((store program l n w a v region).printed ≡ None) × ((store program l n w a v region).tally ≡ Nothing_counted)
store_next program l n w a v Memory = (refl, refl, refl)
store_next program l n w a v (StateOf line) = (refl, refl, refl)
store_next program l n w a v (Spill j) = (refl, refl, refl)
store_next program l n w a v Elsewhere = (refl, refl, refl)

-- a word after which the next one follows, and which prints and counts nothing
abbrev pub GoesToNext : WordOutcome → Type 0
GoesToNext o = (o.move ≡ Next) × (o.printed ≡ None) × (o.tally ≡ Nothing_counted)

-- an access that is one step of an aligned word is such a word
pub reserves_next : (program : Program) (place at : ℕ) (l : ProcessorState) (n : NodeMemory) (r a : ℕ) → is_aligned Word a ≡ true → GoesToNext (native program place at l n (Reserves r a))
reserves_next program place at l n r a aligned = rw aligned (load_next program l n WordLoad r a (region_of a))

pub stores_if_next : (program : Program) (place at : ℕ) (l : ProcessorState) (n : NodeMemory) (r a v : ℕ) → is_aligned Word a ≡ true → GoesToNext (native program place at l n (StoresIf r a v))
stores_if_next program place at l n r a v aligned = rw aligned (by (holds n.reservation a))
  where
    by : (t : Bool) → GoesToNext (store_if program l n r a v t)
    by true = store_next program l n Word a v (region_of a)
    by false = (refl, refl, refl)

pub updates_next : (program : Program) (place at : ℕ) (l : ProcessorState) (n : NodeMemory) (o : AmoOp) (r a v : ℕ) → is_aligned Word a ≡ true → GoesToNext (native program place at l n (Updates o r a v))
updates_next program place at l n o r a v aligned =
    rw aligned (store_next program l n Word a (amo o (load_value WordLoad (byte_at program l n) a) v) (region_of a))

-- what a native word with such a demand does
pub native_next : (image : List Cell) (place at : ℕ) (l : kept.ProcessorState) (s : Shelf) (l' : kept.ProcessorState) (s' : Shelf) (d e : Demand) (done : kept_outcome.WordOutcome) → GoesToNext (native (program_of s.program) place (word_address at) (lane_of l (word_address at)) (local_of s) d) → Does (native (program_of s.program) place (word_address at) (lane_of l (word_address at)) (local_of s) d) (ground_of s) (word_address at) l' s' done → d ≡ e → Follows image (native (program_of s.program) place (word_address at) (lane_of l (word_address at)) (local_of s) e) (ground_of s) (word_address ((at + 1) % 4294967296)) l' s'
native_next image place at l s l' s' d e done next does is =
    let here = λ (x : Demand). native (program_of s.program) place (word_address at) (lane_of l (word_address at)) (local_of s) x in
    subst (λ (x : Demand). Follows image (here x) (ground_of s) (word_address ((at + 1) % 4294967296)) l' s') is
    (next_follows image (here d) (ground_of s) at _ l' s' refl next.0 next.1 next.2 does.leaves)

-- a write of x0 is lost
and_false : (b : Bool) → (b && false) ≡ false
and_false true = refl
and_false false = refl

pub put_zero : (registers : ℕ → ℕ) (value : ℕ) → put registers 0 value ≡ registers
unfolding put
put_zero registers value = fun_ext (λ q. rw (and_false (eqb q 0)) refl)

-- an address of the sequence of an original address, which is that of a word of the image
pub new_address : (image : List Cell) (a new : ℕ) → new_of image a ≡ Some new → (k : ℕ) × (new ≡ address_of_word k) × (k < length image)
new_address image a new is = by (position (begins_at a) image) refl is
  where
    by : (o : Option ℕ) → position (begins_at a) image ≡ o → option_map address_of_word o ≡ Some new
        → (k : ℕ) × (new ≡ address_of_word k) × (k < length image)
    by None at is = absurd (cc)
    by (Some k) at is = (k, cc, (position-Some (begins_at a) image k (record { word = 0; place = None }) at).0)

-- the sequence of an original address follows
pub enter_follows : (image : List Cell) (l : kept.ProcessorState) (s : Shelf) (at place original new k : ℕ) → original % 4 ≡ 0 → new_of image original ≡ Some new → word_address k ≡ new → Follows image (indirect place (lane_of l (word_address at)) (local_of s) 0 original) (ground_of s) (word_address k) l s
enter_follows image l s at place original new k aligned is same =
    let test : eqb (original % 4) 0 ≡ true = grind (arith, nat_tests) in
    let zero = put_zero (registers_of l.registers) (next_pc place) in
    rw test (record {
      lane = rw is (λ t. record (lane_of l (word_address k)) { at = same t; registers = sym zero t });
      local = refl;
      ground_same = refl;
      output = refl;
      tally = refl;
      phase = λ budget executed. refl;
      wants = refl;
    })

-- also where the link is kept
pub call_follows : (image : List Cell) (l : kept.ProcessorState) (s : Shelf) (registers : List ℕ) (at place rd original new k : ℕ) → original % 4 ≡ 0 → new_of image original ≡ Some new → word_address k ≡ new → registers_of registers ≡ put (registers_of l.registers) rd (next_pc place) → Follows image (indirect place (lane_of l (word_address at)) (local_of s) rd original) (ground_of s) (word_address k) (record l { registers = registers }) s
call_follows image l s registers at place rd original new k aligned is same link =
    let test : eqb (original % 4) 0 ≡ true = grind (arith, nat_tests) in
    rw test (record {
      lane = rw is (λ t. record (lane_of l (word_address k)) { at = same t; registers = link t });
      local = refl;
      ground_same = refl;
      output = refl;
      tally = refl;
      phase = λ budget executed. refl;
      wants = refl;
    })

-- a byte of a line that is mapped and readable is printed
pub put_mapped : (program : Program) (l : ProcessorState) (n : NodeMemory) (a x : ℕ) → is_mapped_state x ≡ true → is_readable_state x ≡ true → put_byte program l n a x ≡ print_byte l n a (byte_at program l n a)
put_mapped program l n a x mapped readable = rw (mapped, readable) refl

-- one that isn't mapped ends the call
pub put_unmapped : (program : Program) (l : ProcessorState) (n : NodeMemory) (a x : ℕ) → is_mapped_state x ≡ false → put_byte program l n a x ≡ only_moves (lane_after_call l (cut_short l.written)) n Next
put_unmapped program l n a x mapped = rw mapped refl

-- and one that can't be read is waited for
pub put_waits : (program : Program) (l : ProcessorState) (n : NodeMemory) (a x : ℕ) → is_mapped_state x ≡ true → is_readable_state x ≡ false → put_byte program l n a x ≡ only_moves l n (Waits SameWord (record { at = a; need = Read }) [])
put_waits program l n a x mapped readable = rw (mapped, readable) refl

-- a demand that a micro-op meets, or an original address that it enters
native_steps : (image : List Cell) (m : Meaning) (d : Demand) (at k place : ℕ) (l : kept.ProcessorState) (s : Shelf) (l' : kept.ProcessorState) (s' : Shelf) → Meets m d → StepsTo image m at l s l' s' (Some k) → Follows image (native (program_of s.program) place (word_address at) (lane_of l (word_address at)) (local_of s) d) (ground_of s) (word_address k) l' s'
native_steps image Unserved d at k place l s l' s' meets steps = absurd steps
native_steps image (Demands e) d at k place l s l' s' meets steps =
    subst (λ (x : Demand). Follows image (native (program_of s.program) place (word_address at) (lane_of l (word_address at)) (local_of s) x) (ground_of s) (word_address k) l' s') meets (steps place)
native_steps image (EntersBy original) d at k place l s l' s' meets steps = absurd meets

entry_steps : (image : List Cell) (m : Meaning) (rd original at k place : ℕ) (l : kept.ProcessorState) (s : Shelf) (l' : kept.ProcessorState) (s' : Shelf) → EntersAt m rd original → StepsTo image m at l s l' s' (Some k) → Follows image (indirect place (lane_of l (word_address at)) (local_of s) rd original) (ground_of s) (word_address k) l' s'
entry_steps image Unserved rd original at k place l s l' s' enters steps = absurd steps
entry_steps image (Demands e) rd original at k place l s l' s' enters steps = absurd enters
entry_steps image (EntersBy target) rd original at k place l s l' s' enters steps =
    subst (λ (x : ℕ). Follows image (indirect place (lane_of l (word_address at)) (local_of s) x original) (ground_of s) (word_address k) l' s') (sym enters.0)
    (subst (λ (x : ℕ). Follows image (indirect place (lane_of l (word_address at)) (local_of s) 0 x) (ground_of s) (word_address k) l' s') enters.1 (steps place))

pub slow_steps : (image : List Cell) (op : MicroOp) (at k : ℕ) (l : kept.ProcessorState) (s : Shelf) (l' : kept.ProcessorState) (s' : Shelf) → op.kind ≡ Slow → StepsTo image (meaning_of image_base op (registers_of l.registers)) at l s l' s' (Some k) → ⊥
slow_steps image op at k l s l' s' is steps = subst (λ (q : MicroKind). StepsTo image (meaning_by q image_base op (registers_of l.registers)) at l s l' s' (Some k)) is steps

-- a jump that keeps no link is a far jump
pub far_is : (program : Program) (place at : ℕ) (l : ProcessorState) (n : NodeMemory) (number : ℕ)
    → native program place at l n (Jumps 0 (address_of_word number)) ≡ only_moves l n (To (address_of_word number))
far_is program place at l n number =
    let rest : address_of_word number % 4 ≡ 0 = omega arith in
    let test : eqb (address_of_word number % 4) 0 ≡ true = grind (arith, nat_tests) in
    let zero = put_zero l.registers (next_pc at) in
    rw test (λ t. only_moves (record l { registers = zero t }) n (To (address_of_word number)))

-- a micro-op that was executed is the word's
micro_served : (image : List Cell) (word : Option RtWord) (place : Option Place) (op : MicroOp) (at k : ℕ) (l : kept.ProcessorState) (s : Shelf) (l' : kept.ProcessorState) (s' : Shelf) → IsMicroWord (word_address at) word op → StepsTo image (meaning_of image_base op (registers_of l.registers)) at l s l' s' (Some k) → Follows image (execute_read (program_of s.program) place word (lane_of l (word_address at)) (local_of s)) (ground_of s) (word_address k) l' s'
micro_served image None place op at k l s l' s' is steps = absurd (slow_steps image op at k l s l' s' is steps)
micro_served image (Some (Native i)) place op at k l s l' s' is steps = native_steps image _ _ at k (place_address place) l s l' s' (is.meets (registers_of l.registers)) steps
micro_served image (Some Poll) place op at k l s l' s' is steps = native_steps image _ Continues at k (place_address place) l s l' s' (is (registers_of l.registers)) steps
micro_served image (Some (Xjalr rd rs1 imm)) place op at k l s l' s' is steps = entry_steps image _ rd ((reg (registers_of l.registers) rs1 + unsigned 32 imm) % 4294967296 / 2 * 2) at k (place_address place) l s l' s' (is.enters (registers_of l.registers)) steps
micro_served image (Some (Far number)) place op at k l s l' s' is steps =
    let jumps = native_steps image _ (Jumps 0 (address_of_word number)) at k (place_address place) l s l' s'
    (is (registers_of l.registers)) steps in
    subst (λ (x : WordOutcome). Follows image x (ground_of s) (word_address k) l' s')
    (far_is (program_of s.program) (place_address place) (word_address at) (lane_of l (word_address at)) (local_of s)
    number) jumps
micro_served image (Some w) place op at k l s l' s' is steps = absurd (slow_steps image op at k l s l' s' is steps)

pub fetch_word : (image : List Cell) (at : ℕ) (c : Cell) → length image ≤ most_words → slice_get image at ≡ Some c → fetch image (word_address at) ≡ Some (read_cell c)
fetch_word image at c few is =
    let below = slice_get_within image at c is in
    let new : word_address at ≡ image_base + 4 * at = omega arith in
    let low : leb image_base (image_base + 4 * at) ≡ true = grind (arith, nat_tests) in
    let rest : (image_base + 4 * at) % 4 ≡ 0 = omega arith in
    let back : (image_base + 4 * at - image_base) / 4 ≡ at = omega arith in
    rw (new, low, rest, back, is) refl

-- a micro-op that was executed does what the next word does
pub micro_step : (image : List Cell) (op : MicroOp) (at : ℕ) (l : kept.ProcessorState) (s : Shelf) (l' : kept.ProcessorState) (s' : Shelf) (o : Option ℕ) (c : Cell) → length image ≤ most_words → slice_get image at ≡ Some c → IsMicroWord (image_base + 4 * at) (read_word c.word) op → StepsTo image (meaning_of image_base op (registers_of l.registers)) at l s l' s' o → StepsOr image (next_outcome (program_of s.program) image (lane_of l (word_address at)) (local_of s)) l s l' s' o
micro_step image op at l s l' s' None c few got is steps = steps
micro_step image op at l s l' s' (Some k) c few got is steps =
    let below = slice_get_within image at c got in
    let new : image_base + 4 * at ≡ word_address at = omega arith in
    let word = subst (λ (x : ℕ). IsMicroWord x (read_word c.word) op) new is in
    subst (λ (f : Option ImageWord). Follows image (execute_at (program_of s.program) f (lane_of l (word_address at)) (local_of s)) (ground_of s) (word_address k) l' s')
    (sym (fetch_word image at c few got))
    (micro_served image (read_word c.word) c.place op at k l s l' s' word steps)
