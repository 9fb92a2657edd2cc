-- What a step touches, by the demand of its instruction.
use Rattle.std.proofs.Common.{◌≡◌, ℕ, Bool, true, false, Option, Some, None, refl, sym, ap, ◌∙◌, subst, arith}
use Rattle.std.specs.Prelude.{if◌then◌else◌, ◌&&◌}
use Rattle.std.proofs.lemmas.Bool.Decides.{nat_tests}
use Rattle.elf32_read.specs.Elf.{Elf}
use Rattle.exec_map.specs.Contents.{program_of}
use Rattle.llsc.specs.Reservation.{holds}
use Rattle.rv32_decode.specs.Widths.{is_aligned, size_of, width_of}
use Rattle.rv32_decode.specs.declared.AmoOp.{AmoOp}
use Rattle.rv32_decode.specs.declared.LoadKind.{LoadKind}
use Rattle.rv32_decode.specs.declared.Width.{Width}
use Rattle.rv32_decode.specs.declared.Width.TheVariants.{Byte, Word}
use Rattle.rv32_program.specs.Program.{Program, class_at, is_mapped, is_writable}
use Rattle.rv32_program.specs.declared.Exit.{Exit}
use Rattle.rv32_program.specs.declared.Exit.TheVariants.{Access, Misaligned}
use Rattle.rv32_step.specs.declared.CallStep.{CallStep}
use Rattle.rv32_step.specs.declared.CallStep.TheVariants.{Ends, Returns, Puts}
use Rattle.rv32_step.specs.declared.Demand.{Demand}
use Rattle.rv32_step.specs.declared.Demand.TheVariants.{Loads, Stores, Calls, Reserves, StoresIf, Updates}
use Rattle.rv32_decode.specs.declared.Instr.{Instr}
use Rattle.rv32_step.specs.Demands.{call_step, cut_short, demand_of}
use Rattle.rv32_step.specs.OneMemory.{Original, Processor, State, WritesIf, Request, Becomes, Prints, access_by, after_call, exit_of_access, request_at, request_by, request_for, request_of_call, request_unless, step}
use Rattle.time_machine.specs.declared.step.TouchedBytes.{TouchedBytes}
use Rattle.time_machine.specs.declared.step.TouchKind.{TouchKind}
use Rattle.time_machine.specs.declared.step.TouchKind.TheVariants as touch
use Rattle.time_machine.specs.Stops.{touch_of}

-- what the step of processor p touches that meets a demand
abbrev pub touch_met : Original → State → (p : ℕ) → Demand → Option TouchedBytes
touch_met original s p d =
    touch_of (access_by original s p (s.processors p) (request_for original.program (s.processors p) d))

abbrev pub of_width : TouchKind → Width → (address : ℕ) → TouchedBytes
of_width kind w a = record { kind = kind; address = a; size = size_of w }

-- where it may be made
abbrev pub made_if : Bool → TouchedBytes → Option TouchedBytes
made_if may t = if may then Some t else None

byte_aligned : (a : ℕ) → is_aligned Byte a ≡ true
byte_aligned a = grind (arith, nat_tests)

never : (b : Bool) → ◌≡◌ {A = Option TouchedBytes} (if b then None else None) None
never true = refl
never false = refl

-- a read, or a write of some kind, where the program's lines allow it
abbrev pub may_read : Elf → Width → (address : ℕ) → Option TouchedBytes
may_read e w a = made_if (is_aligned w a && is_mapped (class_at (program_of e) a)) (of_width touch.Reads w a)

abbrev pub may_write : Elf → TouchKind → Width → (address : ℕ) → Option TouchedBytes
may_write e kind w a = made_if (is_aligned w a && is_writable (class_at (program_of e) a)) (of_width kind w a)

module _ (o : Original) (s : State) (p : ℕ) (e : Elf) (runs : o.program ≡ program_of e) where
  abbrev of_request : Request → Option TouchedBytes
  of_request asked = touch_of (access_by o s p (s.processors p) asked)

  -- what a demand touches that is met only where its access is aligned and may be made
  unless : (d : Demand) (aligned may : Bool) (x y : Exit) (t : Option TouchedBytes) → of_request (request_by o.program (s.processors p) d) ≡ t → of_request (request_unless o.program (s.processors p) d (if aligned then (if may then None else Some x) else Some y)) ≡ (if aligned && may then t else None)
  unless d true true x y t is = is
  unless d true false x y t is = refl
  unless d false may x y t is = refl

  at : (d : Demand) (w : Width) (a : ℕ) (may : Bool) (t : Option TouchedBytes) → of_request (request_by o.program (s.processors p) d) ≡ t → of_request (request_unless o.program (s.processors p) d (exit_of_access (s.processors p).pc w a may)) ≡ (if is_aligned w a && may then t else None)
  at d w a may t is = unless d (is_aligned w a) may (Access (s.processors p).pc) (Misaligned (s.processors p).pc) t is

  read_there : (w : Width) (a : ℕ) → made_if (is_aligned w a && is_mapped (class_at o.program a)) (of_width touch.Reads w a) ≡ may_read e w a
  read_there w a = ap (λ (q : Program). made_if (is_aligned w a && is_mapped (class_at q a)) (of_width touch.Reads w a)) runs

  written_there : (kind : TouchKind) (w : Width) (a : ℕ) → made_if (is_aligned w a && is_writable (class_at o.program a)) (of_width kind w a) ≡ may_write e kind w a
  written_there kind w a = ap (λ (q : Program). made_if (is_aligned w a && is_writable (class_at q a)) (of_width kind w a)) runs

  pub loads : (d : Demand) (w : Width) {k : LoadKind} {r a : ℕ} → d ≡ Loads k r a → w ≡ width_of k → may_read e w a ≡ touch_met o s p d
  loads d w {k} {r} {a} is width =
      ap (λ (v : Width). may_read e v a) width ∙ sym (read_there (width_of k) a)
      ∙ sym (at (Loads k r a) (width_of k) a (is_mapped (class_at o.program a)) (Some (of_width touch.Reads (width_of k) a)) refl)
      ∙ ap (touch_met o s p) (sym is)

  pub reserves : (d : Demand) {r a : ℕ} → d ≡ Reserves r a → may_read e Word a ≡ touch_met o s p d
  reserves d {r} {a} is =
      sym (read_there Word a) ∙ sym (at (Reserves r a) Word a (is_mapped (class_at o.program a)) (Some (of_width touch.Reads Word a)) refl)
      ∙ ap (touch_met o s p) (sym is)

  pub stores : (d : Demand) {w : Width} {a v : ℕ} → d ≡ Stores w a v → may_write e touch.Writes w a ≡ touch_met o s p d
  stores d {w} {a} {v} is =
      sym (written_there touch.Writes w a) ∙ sym (at (Stores w a v) w a (is_writable (class_at o.program a)) (Some (of_width touch.Writes w a)) refl)
      ∙ ap (touch_met o s p) (sym is)

  pub updates : (d : Demand) {f : AmoOp} {r a v : ℕ} → d ≡ Updates f r a v → may_write e touch.Exchanges Word a ≡ touch_met o s p d
  updates d {f} {r} {a} {v} is =
      sym (written_there touch.Exchanges Word a) ∙ sym (at (Updates f r a v) Word a (is_writable (class_at o.program a)) (Some (of_width touch.Exchanges Word a)) refl)
      ∙ ap (touch_met o s p) (sym is)

  pub stores_if : (d : Demand) {r a v : ℕ} → d ≡ StoresIf r a v → holds (s.reservations p) a ≡ true → may_write e touch.Writes Word a ≡ touch_met o s p d
  stores_if d {r} {a} {v} is held =
      sym (written_there touch.Writes Word a) ∙ sym (at (StoresIf r a v) Word a (is_writable (class_at o.program a)) (Some (of_width touch.Writes Word a))
      (subst (λ (b : Bool). touch_of (WritesIf a v b) ≡ Some (of_width touch.Writes Word a)) (sym held) refl))
      ∙ ap (touch_met o s p) (sym is)

  pub stores_not : (d : Demand) {r a v : ℕ} → d ≡ StoresIf r a v → holds (s.reservations p) a ≡ false → None ≡ touch_met o s p d
  stores_not d {r} {a} {v} is held =
      sym (never (is_aligned Word a && is_writable (class_at o.program a)))
      ∙ sym (at (StoresIf r a v) Word a (is_writable (class_at o.program a)) None
      (subst (λ (b : Bool). touch_of (WritesIf a v b) ≡ None) (sym held) refl))
      ∙ ap (touch_met o s p) (sym is)

  prints : (a : ℕ) (q : Processor) (aligned may : Bool) → aligned ≡ true → of_request (if may then Prints a else Becomes q) ≡ made_if (aligned && may) (of_width touch.Reads Byte a)
  prints a q true true is = refl
  prints a q true false is = refl
  prints a q false may is = absurd (cc)

  -- one step of a call
  pub record IsCall (d : Demand) (call : CallStep) : Type 0 where
    pub calls : d ≡ Calls
    pub call_is : call ≡ call_step (s.processors p).registers (s.processors p).written

  abbrev of_call : CallStep → Option TouchedBytes
  of_call call = of_request (request_of_call o.program (s.processors p) call)

  called : (d : Demand) (call : CallStep) → IsCall d call → of_call call ≡ touch_met o s p d
  called d call is = ap of_call is.call_is ∙ ap (touch_met o s p) (sym is.calls)

  pub puts : (d : Demand) (call : CallStep) {a : ℕ} → IsCall d call → call ≡ Puts a → may_read e Byte a ≡ touch_met o s p d
  puts d call {a} is made =
      let q : Processor = s.processors p in
      sym (read_there Byte a) ∙ sym (prints a (after_call q (cut_short q.written)) (is_aligned Byte a) (is_mapped (class_at o.program a)) (byte_aligned a))
      ∙ ap of_call (sym made) ∙ called d call is

  pub ends : (d : Demand) (call : CallStep) {code : ℕ} → IsCall d call → call ≡ Ends code → None ≡ touch_met o s p d
  ends d call is made = ap of_call (sym made) ∙ called d call is

  pub returns : (d : Demand) (call : CallStep) {value : ℕ} → IsCall d call → call ≡ Returns value → None ≡ touch_met o s p d
  returns d call is made = ap of_call (sym made) ∙ called d call is

  abbrev of_code : Option Instr → Option TouchedBytes
  of_code i = of_request (request_at o.program (s.processors p) i)

  pub no_code : None ≡ o.program.code (s.processors p).pc → None ≡ touch_of (step o s p).access
  no_code is = ap of_code is

  pub by_demand : (i : Instr) → Some i ≡ o.program.code (s.processors p).pc → touch_met o s p (demand_of i (s.processors p).registers (s.processors p).pc) ≡ touch_of (step o s p).access
  by_demand i is = ap of_code is
