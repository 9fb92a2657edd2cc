-- A word that isn't a native instruction stores nowhere.
use Rattle.std.proofs.Common.{◌≡◌, ◌*◌, ◌/◌, ◌%◌, ◌&&◌, ◌++◌, ℕ, pos, Bool, true, false, not, cond, eqb, List, [], ◌∷◌, None, refl}
use Rattle.llsc.specs.Reservation.{holds}
use Rattle.rv32_decode.specs.Widths.{is_aligned}
use Rattle.rv32_decode.specs.declared.Instr.{Instr}
use Rattle.rv32_decode.specs.declared.Width.TheVariants.{Word}
use Rattle.rv32_program.specs.Program.{Program, line_of}
use Rattle.rv32_program.specs.Targets.{offset_address}
use Rattle.rv32_program.specs.declared.Exit.TheVariants.{Misaligned, Access as NoAccess}
use Rattle.rv32_step.specs.OneMemory.{next_pc}
use Rattle.rv32_step.specs.Registers.{reg}
use Rattle.rv32_step.specs.Demands.{call_step, cut_short}
use Rattle.rv32_step.specs.declared.CallStep.{CallStep}
use Rattle.rv32_step.specs.declared.CallStep.TheVariants.{Ends, Returns, Puts}
use Rattle.runtime_words.specs.declared.RtWord.{RtWord}
use Rattle.runtime_words.specs.declared.RtWord.TheVariants.{Native, MissR, MissW, Poll, Call, Xjalr, Batch, Prepare, Far, TrapFetch, TrapOff, TrapIllegal, TrapEbreak}
use Rattle.home_directory.specs.dsm_messages.declared.messages.Need.{Need}
use Rattle.home_directory.specs.dsm_messages.declared.messages.Need.TheVariants.{Read, Write}
use Rattle.lane_model.specs.node_model.Node.{ProcessorState, NodeMemory, WordOutcome, Want, FalseMiss, Next, Waits, Enters, PastWord, SameWord, batch, batch_by, byte_at, execute, exit_by, fall_back, only_moves, indirect, is_fixed_state, is_mapped_state, is_readable_state, is_writable_state, lane_after_call, make_call, miss_r_by, miss_w_by, need_of_run, one_refuses, prepare_by, print_byte, set_register, unmet}
use Rattle.lane_machine.specs.Words.{stored_by}

abbrev StoresNowhere : WordOutcome → Type 0
StoresNowhere o = None ≡ stored_by o.access

either : (t : Bool) (x y : WordOutcome) → StoresNowhere x → StoresNowhere y → StoresNowhere (cond t x y)
either true x y a b = a
either false x y a b = b

module _ (l : ProcessorState) (n : NodeMemory) (a : ℕ) where
  abbrev waits_for : Need → WordOutcome
  waits_for need = only_moves l n (Waits PastWord (record { at = a; need = need }) [])

  read_stores : (s place : ℕ) → StoresNowhere (miss_r_by s place l n a)
  read_stores s place = either (is_mapped_state s)
      (cond (is_readable_state s) (record (only_moves l n Next) { tally = FalseMiss }) (waits_for Read))
      (exit_by l n (NoAccess place))
      (either (is_readable_state s) (record (only_moves l n Next) { tally = FalseMiss }) (waits_for Read) refl refl) refl

  write_stores : (s place : ℕ) → StoresNowhere (miss_w_by s place l n a)
  write_stores s place = either (is_fixed_state s) (exit_by l n (NoAccess place))
      (cond (is_writable_state s) (only_moves l n Next) (waits_for Write)) refl
      (either (is_writable_state s) (only_moves l n Next) (waits_for Write) refl refl)

  prepare_stores : (s place : ℕ) → StoresNowhere (prepare_by s place l n a)
  prepare_stores s place = either (is_fixed_state s) (exit_by l n (NoAccess place))
      (cond (holds n.reservation a && not (is_writable_state s)) (waits_for Write) (only_moves l n Next)) refl
      (either (holds n.reservation a && not (is_writable_state s)) (waits_for Write) (only_moves l n Next) refl refl)

  byte_stores : (program : Program) (s : ℕ) → StoresNowhere (cond (is_mapped_state s)
      (cond (is_readable_state s) (print_byte l n a (byte_at program l n a)) (only_moves l n (Waits SameWord (record { at = a; need = Read }) [])))
      (only_moves (lane_after_call l (cut_short l.written)) n Next))
  byte_stores program s = either (is_mapped_state s)
      (cond (is_readable_state s) (print_byte l n a (byte_at program l n a)) (only_moves l n (Waits SameWord (record { at = a; need = Read }) [])))
      (only_moves (lane_after_call l (cut_short l.written)) n Next)
      (either (is_readable_state s) (print_byte l n a (byte_at program l n a)) (only_moves l n (Waits SameWord (record { at = a; need = Read }) [])) refl refl)
      refl

call_stores : (program : Program) (l : ProcessorState) (n : NodeMemory) (s : CallStep) → StoresNowhere (make_call program l n s)
call_stores program l n (Ends code) = refl
call_stores program l n (Returns value) = refl
call_stores program l n (Puts a) = byte_stores l n a program (n.state (line_of a))

batch_stores : (l : ProcessorState) (n : NodeMemory) (need : Need) (low high : ℕ) (ws : List Want) → StoresNowhere (batch_by l n need low high ws)
batch_stores l n need low high [] = refl
batch_stores l n need low high (w ∷ ws) = refl

run_stores : (l : ProcessorState) (n : NodeMemory) (need : Need) (low high : ℕ) → StoresNowhere (batch l n need low high)
run_stores l n need low high = either (one_refuses n need low high) (fall_back l n)
    (batch_by l n need low high (unmet n need low ++ unmet n need high)) refl
    (batch_stores l n need low high (unmet n need low ++ unmet n need high))

jump_stores : (l : ProcessorState) (n : NodeMemory) (place rd target : ℕ) → StoresNowhere (indirect place l n rd target)
jump_stores l n place rd target = either (eqb (target % 4) 0) (only_moves (set_register l rd (next_pc place)) n (Enters target))
    (exit_by l n (Misaligned place)) refl refl

pub other_stores : (program : Program) (place at : ℕ) (w : RtWord) (l : ProcessorState) (n : NodeMemory)
    → ((i : Instr) → w ≡ Native i → ⊥) → None ≡ stored_by (execute program place at w l n).access
other_stores program place at (Native i) l n other = absurd (other i refl)
other_stores program place at (MissR w rs1 imm) l n other =
    let a = offset_address (reg l.registers rs1) imm in
    either (is_aligned w a) (miss_r_by (n.state (line_of a)) place l n a) (exit_by l n (Misaligned place))
    (read_stores l n a (n.state (line_of a)) place) refl
other_stores program place at (MissW w rs1 imm) l n other =
    let a = offset_address (reg l.registers rs1) imm in
    either (is_aligned w a) (miss_w_by (n.state (line_of a)) place l n a) (exit_by l n (Misaligned place))
    (write_stores l n a (n.state (line_of a)) place) refl
other_stores program place at Poll l n other = refl
other_stores program place at Call l n other = call_stores program l n (call_step l.registers l.written)
other_stores program place at (Xjalr rd rs1 imm) l n other =
    jump_stores l n place rd (offset_address (reg l.registers rs1) imm / 2 * 2)
other_stores program place at (Batch stores low high) l n other =
    run_stores l n (need_of_run stores) (reg l.registers low) (reg l.registers high)
other_stores program place at (Prepare rs1) l n other =
    let a = offset_address (reg l.registers rs1) (pos 0) in
    either (is_aligned Word a) (prepare_by (n.state (line_of a)) place l n a) (exit_by l n (Misaligned place))
    (prepare_stores l n a (n.state (line_of a)) place) refl
other_stores program place at (Far k) l n other = refl
other_stores program place at TrapFetch l n other = refl
other_stores program place at TrapOff l n other = refl
other_stores program place at TrapIllegal l n other = refl
other_stores program place at TrapEbreak l n other = refl
