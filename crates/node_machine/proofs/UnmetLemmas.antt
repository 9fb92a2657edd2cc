-- A word that waits wants what its node doesn't meet.
use Rattle.std.proofs.Common.{◌≡◌, ℕ, ◌%◌, ◌*◌, ◌/◌, Bool, true, false, not, ◌&&◌, ◌||◌, eqb, cond, List, [], ◌∷◌, ◌++◌, Option, Some, None, refl, sym, subst}
use Rattle.std.specs.Prelude.{pos}
use Rattle.rv32_program.specs.Targets.{offset_address}
use Rattle.rv32_program.specs.declared.Exit.TheVariants.{Misaligned}
use Rattle.node_words.specs.rv32_step.Registers.{reg}
use Rattle.node_words.specs.rv32_step.OneMemory.{next_pc}
use Rattle.rv32_decode.specs.Widths.{is_aligned, width_of}
use Rattle.rv32_decode.specs.declared.Width.{Width}
use Rattle.rv32_decode.specs.declared.Width.TheVariants.{Word}
use Rattle.rv32_decode.specs.declared.LoadKind.TheVariants.{Word as WordLoad}
use Rattle.node_words.specs.rv32_ops.Operations.{amo}
use Rattle.rv32_program.specs.Program.{Program, line_of}
use Rattle.node_words.specs.rv32_step.declared.Demand.{Demand}
use Rattle.node_words.specs.rv32_step.declared.Demand.TheVariants.{Sets, Continues, Jumps, Branches, Loads, Stores, Calls, Traps, Reserves, StoresIf, Updates}
use Rattle.node_words.specs.rv32_step.declared.CallStep.{CallStep}
use Rattle.node_words.specs.rv32_step.declared.CallStep.TheVariants.{Ends, Returns, Puts}
use Rattle.node_words.specs.rv32_step.Demands.{demand_of, call_step}
use Rattle.node_words.specs.rv32_step.Memory.{load_value}
use Rattle.node_words.specs.runtime_words.declared.RtWord.{RtWord}
use Rattle.node_words.specs.runtime_words.declared.RtWord.TheVariants.{Native, MissR, MissW, Poll, Call, Xjalr, Batch, Prepare, Far, TrapFetch, TrapOff, TrapIllegal, TrapEbreak}
use Rattle.node_words.specs.templates.declared.places.Place.{Place}
use Rattle.node_words.specs.jump_map.declared.image.ImageWord.{ImageWord}
use Rattle.node_words.specs.jump_map.Maps.{fetch}
use Rattle.node_words.specs.llsc.Reservation.{holds}
use Rattle.node_words.specs.node_model.Node.{Node, Work, ProcessorState, NodeMemory, WordOutcome, Move, Next, Enters, Want, set_register, native, store, load, region_of, only_moves, exit_by, put_byte, make_call, miss_r, miss_r_by, miss_w, miss_w_by, prepare, prepare_by, indirect, execute, execute_read, execute_at, place_address, word_outcome, is_mapped_state, is_readable_state, is_fixed_state, is_writable_state, store_if, byte_at, batch, batch_by, fall_back, unmet, meets_need, refuses_need, need_of_run}
use Rattle.node_words.specs.node_model.Turns.{wants_of}
use Rattle.std.proofs.lemmas.List.{append-nil}
use Rattle.node_words.specs.dsm_messages.declared.messages.Need.{Need}
use Rattle.node_words.specs.dsm_messages.declared.messages.Need.TheVariants.{Read, Write}
use Rattle.node_machine.specs.ProtocolState.{AreUnmet, is_unmet}
use Rattle.node_words.proofs.StepLemmas.{load_next, store_next}

-- an outcome's wants are unmet in what words see after it
abbrev IsUnmet : WordOutcome → Type 0
IsUnmet o = AreUnmet o.local (wants_of o.move)

by_test : (t : Bool) (x y : WordOutcome) → IsUnmet x → IsUnmet y → IsUnmet (cond t x y)
by_test true x y px py = px
by_test false x y px py = py

-- where the test's result is needed
by_case : (t : Bool) (x y : WordOutcome) → (t ≡ true → IsUnmet x) → (t ≡ false → IsUnmet y) → IsUnmet (cond t x y)
by_case true x y px py = px refl
by_case false x y px py = py refl

wants_nothing : (o : WordOutcome) → o.move ≡ Next → IsUnmet o
wants_nothing o is = subst (λ (m : Move). AreUnmet o.local (wants_of m)) (sym is) tt

store_if_silent : (program : Program) (l : ProcessorState) (n : NodeMemory) (r a value : ℕ) (t : Bool) → IsUnmet (store_if program l n r a value t)
store_if_silent program l n r a value true = wants_nothing (store_if program l n r a value true) (store_next program l n Word a value (region_of a)).0
store_if_silent program l n r a value false = tt

native_silent : (program : Program) (place at : ℕ) (l : ProcessorState) (n : NodeMemory) (d : Demand) → IsUnmet (native program place at l n d)
native_silent program place at l n (Sets r value) = tt
native_silent program place at l n Continues = tt
native_silent program place at l n (Jumps r target) = by_test (eqb (target % 4) 0) _ _ tt tt
native_silent program place at l n (Branches target) = by_test (eqb (target % 4) 0) _ _ tt tt
native_silent program place at l n (Loads k r a) = by_test (is_aligned (width_of k) a) _ _
    (wants_nothing (load program l n k r a (region_of a)) (load_next program l n k r a (region_of a)).0) tt
native_silent program place at l n (Stores w a value) = by_test (is_aligned w a) _ _
    (wants_nothing (store program l n w a value (region_of a)) (store_next program l n w a value (region_of a)).0) tt
native_silent program place at l n Calls = tt
native_silent program place at l n (Traps e) = tt
native_silent program place at l n (Reserves r a) = by_test (is_aligned Word a) _ _
    (subst (λ (m : Move). AreUnmet (record (load program l n WordLoad r a (region_of a)).local { reservation = Some a }) (wants_of m))
    (sym (load_next program l n WordLoad r a (region_of a)).0) tt) tt
native_silent program place at l n (StoresIf r a value) = by_test (is_aligned Word a) _ _
    (store_if_silent program l n r a value (holds n.reservation a)) tt
native_silent program place at l n (Updates o r a value) = by_test (is_aligned Word a) _ _
    (subst (λ (m : Move). AreUnmet (store program l n Word a (amo o (load_value WordLoad (byte_at program l n) a) value) (region_of a)).local (wants_of m))
    (sym (store_next program l n Word a (amo o (load_value WordLoad (byte_at program l n) a) value) (region_of a)).0) tt) tt

unmet_read : (s : ℕ) → is_mapped_state s ≡ true → is_readable_state s ≡ false → (is_mapped_state s && not (is_readable_state s)) ≡ true
unmet_read s m r = λ t. m t && not (r t)

unmet_write : (s : ℕ) → is_fixed_state s ≡ false → is_writable_state s ≡ false → (not (is_fixed_state s) && not (is_writable_state s)) ≡ true
unmet_write s f w = λ t. not (f t) && not (w t)

put_unmet : (program : Program) (l : ProcessorState) (n : NodeMemory) (a : ℕ) → IsUnmet (put_byte program l n a (n.state (line_of a)))
put_unmet program l n a =
    let s = n.state (line_of a) in
    by_case (is_mapped_state s) _ _ (λ m. by_case (is_readable_state s) _ _ (λ r. tt) (λ r. (unmet_read s m r, tt))) (λ m. tt)

call_unmet : (program : Program) (l : ProcessorState) (n : NodeMemory) (s : CallStep) → IsUnmet (make_call program l n s)
call_unmet program l n (Ends code) = tt
call_unmet program l n (Returns value) = tt
call_unmet program l n (Puts a) = put_unmet program l n a

read_unmet : (place : ℕ) (l : ProcessorState) (n : NodeMemory) (a : ℕ) → IsUnmet (miss_r_by (n.state (line_of a)) place l n a)
read_unmet place l n a =
    let s = n.state (line_of a) in
    by_case (is_mapped_state s) _ _ (λ m. by_case (is_readable_state s) _ _ (λ r. tt) (λ r. (unmet_read s m r, tt))) (λ m. tt)

write_unmet : (place : ℕ) (l : ProcessorState) (n : NodeMemory) (a : ℕ) → IsUnmet (miss_w_by (n.state (line_of a)) place l n a)
write_unmet place l n a =
    let s = n.state (line_of a) in
    by_case (is_fixed_state s) _ _ (λ f. tt) (λ f. by_case (is_writable_state s) _ _ (λ w. tt) (λ w. (unmet_write s f w, tt)))

not_false : (a : Bool) → not a ≡ false → a ≡ true
not_false true e = refl
not_false false e = cc

or_false : (a b : Bool) → (a || b) ≡ false → (a ≡ false) × (b ≡ false)
or_false false false e = (refl, refl)
or_false false true e = absurd (cc)
or_false true b e = absurd (cc)

and_not : (a b : Bool) → (a && not b) ≡ true → b ≡ false
and_not true true e = cc
and_not true false e = refl
and_not false true e = cc
and_not false false e = refl

prepare_unmet : (place : ℕ) (l : ProcessorState) (n : NodeMemory) (a : ℕ) → IsUnmet (prepare_by (n.state (line_of a)) place l n a)
prepare_unmet place l n a =
    let s = n.state (line_of a) in
    by_case (is_fixed_state s) _ _ (λ f. tt) (λ f. by_case (holds n.reservation a && not (is_writable_state s)) _ _
    (λ w. (unmet_write s f (and_not (holds n.reservation a) (is_writable_state s) w), tt)) (λ w. tt))

miss_r_unmet : (place : ℕ) (l : ProcessorState) (n : NodeMemory) (w : Width) (a : ℕ) → IsUnmet (miss_r place l n w a)
miss_r_unmet place l n w a = by_test (is_aligned w a) (miss_r_by (n.state (line_of a)) place l n a) (exit_by l n (Misaligned place)) (read_unmet place l n a) tt

miss_w_unmet : (place : ℕ) (l : ProcessorState) (n : NodeMemory) (w : Width) (a : ℕ) → IsUnmet (miss_w place l n w a)
miss_w_unmet place l n w a = by_test (is_aligned w a) (miss_w_by (n.state (line_of a)) place l n a) (exit_by l n (Misaligned place)) (write_unmet place l n a) tt

prepared_unmet : (place : ℕ) (l : ProcessorState) (n : NodeMemory) (a : ℕ) → IsUnmet (prepare place l n a)
prepared_unmet place l n a = by_test (is_aligned Word a) (prepare_by (n.state (line_of a)) place l n a) (exit_by l n (Misaligned place)) (prepare_unmet place l n a) tt

indirect_silent : (place : ℕ) (l : ProcessorState) (n : NodeMemory) (rd target : ℕ) → IsUnmet (indirect place l n rd target)
indirect_silent place l n rd target = by_test (eqb (target % 4) 0) (only_moves (set_register l rd (next_pc place)) n (Enters target)) (exit_by l n (Misaligned place)) tt tt

need_unmet : (need : Need) (s : ℕ) → refuses_need need s ≡ false → meets_need need s ≡ false → is_unmet need s ≡ true
need_unmet Read s r m = unmet_read s (not_false (is_mapped_state s) r) m
need_unmet Write s r m = unmet_write s r m

-- what a batch wants of a line that doesn't refuse it
line_unmet : (n : NodeMemory) (need : Need) (a : ℕ) (rest : List Want) → refuses_need need (n.state (line_of a)) ≡ false
    → AreUnmet n rest → AreUnmet n (unmet n need a ++ rest)
line_unmet n need a rest r others = go (meets_need need (n.state (line_of a))) refl
  where
    go : (t : Bool) → meets_need need (n.state (line_of a)) ≡ t
        → AreUnmet n (cond t [] (record { at = a; need = need } ∷ []) ++ rest)
    go true m = others
    go false m = (need_unmet need (n.state (line_of a)) r m, others)

waits_unmet : (l : ProcessorState) (n : NodeMemory) (need : Need) (low high : ℕ) (ws : List Want) → AreUnmet n ws
    → IsUnmet (batch_by l n need low high ws)
waits_unmet l n need low high [] are = tt
waits_unmet l n need low high (w ∷ ws) are = are

batch_unmet : (l : ProcessorState) (n : NodeMemory) (need : Need) (low high : ℕ) → IsUnmet (batch l n need low high)
batch_unmet l n need low high =
    let first = refuses_need need (n.state (line_of low)) in
    let last = refuses_need need (n.state (line_of high)) in
    by_case (first || last) (fall_back l n) (batch_by l n need low high (unmet n need low ++ unmet n need high)) (λ r. tt)
    (λ r. let neither = or_false first last r in
    let behind = subst (AreUnmet n) (append-nil (unmet n need high)) (line_unmet n need high [] neither.1 tt) in
    waits_unmet l n need low high (unmet n need low ++ unmet n need high) (line_unmet n need low (unmet n need high) neither.0 behind))

execute_unmet : (program : Program) (place at : ℕ) (w : RtWord) (l : ProcessorState) (n : NodeMemory) → IsUnmet (execute program place at w l n)
execute_unmet program place at (Native i) l n = native_silent program place at l n (demand_of i l.registers at)
execute_unmet program place at (MissR w rs1 imm) l n = miss_r_unmet place l n w (offset_address (reg l.registers rs1) imm)
execute_unmet program place at (MissW w rs1 imm) l n = miss_w_unmet place l n w (offset_address (reg l.registers rs1) imm)
execute_unmet program place at Poll l n = tt
execute_unmet program place at Call l n = call_unmet program l n (call_step l.registers l.written)
execute_unmet program place at (Xjalr rd rs1 imm) l n = indirect_silent place l n rd (offset_address (reg l.registers rs1) imm / 2 * 2)
execute_unmet program place at (Batch stores low high) l n = batch_unmet l n (need_of_run stores) (reg l.registers low) (reg l.registers high)
execute_unmet program place at (Prepare rs1) l n = prepared_unmet place l n (offset_address (reg l.registers rs1) (pos 0))
execute_unmet program place at (Far k) l n = tt
execute_unmet program place at TrapFetch l n = tt
execute_unmet program place at TrapOff l n = tt
execute_unmet program place at TrapIllegal l n = tt
execute_unmet program place at TrapEbreak l n = tt

read_word_unmet : (program : Program) (place : Option Place) (w : Option RtWord) (l : ProcessorState) (n : NodeMemory) → IsUnmet (execute_read program place w l n)
read_word_unmet program place None l n = tt
read_word_unmet program place (Some w) l n = execute_unmet program (place_address place) l.at w l n

fetched_unmet : (program : Program) (w : Option ImageWord) (l : ProcessorState) (n : NodeMemory) → IsUnmet (execute_at program w l n)
fetched_unmet program None l n = tt
fetched_unmet program (Some w) l n = read_word_unmet program w.place w.what l n

pub word_unmet : (work : Work) (n : Node) (after : NodeMemory) (wants : List Want) → after ≡ (word_outcome work n).local
    → wants ≡ wants_of (word_outcome work n).move → AreUnmet after wants
word_unmet work n after wants is same =
    subst (λ (x : NodeMemory). AreUnmet x wants) (sym is)
    (subst (λ (ws : List Want). AreUnmet (word_outcome work n).local ws) (sym same)
    (fetched_unmet work.program (fetch work.image n.lane.at) n.lane n.local))
