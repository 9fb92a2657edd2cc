-- An entry by its bytes.
use Rattle.std.proofs.Common.{◌≡◌, ◌∙◌, ℕ, zero, suc, ◌+◌, ◌<◌, ◌==◌, Bool, true, false, cond, if◌then◌else◌, List, [], ◌∷◌, get_or, take, drop, Option, Some, None, refl, sym, ap, subst, inl, inr, arith}
use Rattle.std.specs.Prelude.{Contains}
use Rattle.rv32_decode.specs.declared.Instr.{Instr}
use Rattle.templates.specs.declared.plans.Template.{Template}
use Rattle.templates.specs.declared.plans.Template.TheVariants.{Plain, Const, Branch, BranchBad, Jump, JumpBad, Indirect, Call, Trap, Stop, FlagLoad, StateLoad, Store, StoreCond}
use Rattle.templates.specs.declared.plans.Scratch.{Scratch}
use Rattle.templates.specs.declared.plans.Scratches.{Scratches}
use Rattle.templates.specs.declared.plans.PlanEntry.{PlanEntry}
use Rattle.templates.specs.Numbers.{number_of}
use Rattle.templates.specs.Plans.{Serves, HasScratchesAt, HasSoMany, scratch_count, no_scratch, no_scratches, addresses}
use Rattle.rewriter.specs.RewrittenFile.{scratch_byte, template_byte, entry_bytes, plan_bytes}
use Rattle.rewrite_verify.specs.Reading.{AreRegisters, SaysEntry}
use Rattle.rewrite_verify.proofs.ListLemmas.{in_front, behind_first}

-- ---- one byte

template_from : ℕ → Template
template_from n =
    cond (n == 0) Plain (cond (n == 1) Const (cond (n == 2) Branch (cond (n == 3) BranchBad
    (cond (n == 4) Jump (cond (n == 5) JumpBad (cond (n == 6) Indirect (cond (n == 7) Call
    (cond (n == 8) Trap (cond (n == 9) Stop (cond (n == 10) FlagLoad (cond (n == 11) StateLoad
    (cond (n == 12) Store StoreCond))))))))))))

back : (t : Template) → template_from (number_of t) ≡ t
unfolding template_from
back Plain = refl
back Const = refl
back Branch = refl
back BranchBad = refl
back Jump = refl
back JumpBad = refl
back Indirect = refl
back Call = refl
back Trap = refl
back Stop = refl
back FlagLoad = refl
back StateLoad = refl
back Store = refl
back StoreCond = refl

low_number : (t : Template) → number_of t < 14
low_number Plain = omega arith
low_number Const = omega arith
low_number Branch = omega arith
low_number BranchBad = omega arith
low_number Jump = omega arith
low_number JumpBad = omega arith
low_number Indirect = omega arith
low_number Call = omega arith
low_number Trap = omega arith
low_number Stop = omega arith
low_number FlagLoad = omega arith
low_number StateLoad = omega arith
low_number Store = omega arith
low_number StoreCond = omega arith

-- a number below the mark, with the mark or without
unmarked : (m n : ℕ) (b c : Bool) → m < 128 → n < 128
    → m + (if b then 0x80 else 0) ≡ n + (if c then 0x80 else 0) → (m ≡ n) × (b ≡ c)
unmarked m n true true low less h = (omega (arith, h), refl)
unmarked m n true false low less h = absurd (omega (arith, h, low, less))
unmarked m n false true low less h = absurd (omega (arith, h, low, less))
unmarked m n false false low less h = (omega (arith, h), refl)

same_template : (e f : PlanEntry) → template_byte e ≡ template_byte f
    → (e.template ≡ f.template) × (e.polls ≡ f.polls)
same_template e f h =
    let one = low_number e.template in
    let other = low_number f.template in
    let both = unmarked (number_of e.template) (number_of f.template) e.polls f.polls
    (omega (arith, one)) (omega (arith, other)) h in
    (sym (back e.template) ∙ ap template_from both.0 ∙ back f.template, both.1)

same_scratch : (x y : Scratch) → x.register < 32 → y.register < 32
    → scratch_byte x ≡ scratch_byte y → x ≡ y
same_scratch x y low less h =
    let both = unmarked x.register y.register x.spilled y.spilled
    (omega (arith, low)) (omega (arith, less)) h in
    λ i. record { register = both.0 i; spilled = both.1 i }

-- ---- one entry

same_scratches : (x y : Scratches) → AreRegisters x → AreRegisters y
    → scratch_byte x.s ≡ scratch_byte y.s → scratch_byte x.t ≡ scratch_byte y.t
    → scratch_byte x.u ≡ scratch_byte y.u → x ≡ y
same_scratches x y h k s t u =
    let first = same_scratch x.s y.s h.s k.s s in
    let second = same_scratch x.t y.t h.t k.t t in
    let third = same_scratch x.u y.u h.u k.u u in
    λ i. record { s = first i; t = second i; u = third i }

-- an entry is known by its address and its bytes
pub same_entry : (e f : PlanEntry) → e.address ≡ f.address → AreRegisters e.single
    → AreRegisters e.batch → AreRegisters f.single → AreRegisters f.batch
    → entry_bytes e ≡ entry_bytes f → e ≡ f
same_entry e f address single batch other_single other_batch h =
    let byte = λ (k : ℕ). ap (λ bs. get_or bs k 0) h in
    let first = same_template e f (byte 0) in
    let one = same_scratches e.single f.single single other_single (byte 1) (byte 2) (byte 3) in
    let run : e.run ≡ f.run = byte 4 in
    let two = same_scratches e.batch f.batch batch other_batch (byte 5) (byte 6) (byte 7) in
    λ i. record {
      address = address i;
      template = first.0 i;
      polls = first.1 i;
      single = one i;
      run = run i;
      batch = two i;
    }

-- ---- the registers of an entry that serves its place

none_registers : (x : Scratches) → x ≡ no_scratches → AreRegisters x
none_registers x is =
    subst AreRegisters (sym is) (record { s = omega arith; t = omega arith; u = omega arith })

none_register : (x : Scratch) → x ≡ no_scratch → x.register < 32
none_register x is = let zero = ap (λ (y : Scratch). y.register) is in omega (arith, zero)

many_registers : (n : ℕ) (code : ℕ → Option Instr) (a : ℕ) (i : Instr) (x : Scratches)
    → HasSoMany n code a i x → AreRegisters x
many_registers zero code a i x h = none_registers x h
many_registers (suc zero) code a i x h = record {
  s = h.s.small;
  t = none_register x.t h.t;
  u = none_register x.u h.u;
}
many_registers (suc (suc n)) code a i x h = record {
  s = h.s.small;
  t = h.t.small;
  u = none_register x.u h.u;
}

single_registers : (t : Template) (code : ℕ → Option Instr) (a : ℕ) (o : Option Instr)
    (x : Scratches) → HasScratchesAt t code a o x → AreRegisters x
single_registers t code a None x h = none_registers x h
single_registers t code a (Some i) x h = many_registers (scratch_count t) code a i x h

pub registers : (code : ℕ → Option Instr) (e : PlanEntry) → Serves code e
    → AreRegisters e.single × AreRegisters e.batch
registers code e h = (
  single_registers e.template code e.address (code e.address) e.single h.single,
  elim h.run [
    | inl none ↦ none_registers e.batch none.batch
    | inr some ↦ record {
      s = some.batch.s.small;
      t = some.batch.t.small;
      u = some.batch.u.small;
    }
  ],
)

-- so an entry that serves its place is known by its address and its bytes
pub same_serving : (code : ℕ → Option Instr) (e f : PlanEntry) → Serves code e → Serves code f
    → e.address ≡ f.address → entry_bytes e ≡ entry_bytes f → e ≡ f
same_serving code e f serves other address bytes =
    let one = registers code e serves in
    let two = registers code f other in
    same_entry e f address one.0 one.1 two.0 two.1 bytes

pub says_entry : (code : ℕ → Option Instr) (a : ℕ) (bytes : List ℕ) (e : PlanEntry)
    → Serves code e → e.address ≡ a → entry_bytes e ≡ bytes → SaysEntry a bytes e
says_entry code a bytes e serves address says =
    let both = registers code e serves in
    record { address = address; says = says; single = both.0; batch = both.1 }

-- ---- the whole plan

pub same_plan : (code : ℕ → Option Instr) (es fs : List PlanEntry)
    → ((e : PlanEntry) → Contains es e → Serves code e)
    → ((f : PlanEntry) → Contains fs f → Serves code f)
    → addresses es ≡ addresses fs → plan_bytes es ≡ plan_bytes fs → es ≡ fs
same_plan code [] [] serve other places bytes = refl
same_plan code [] (f ∷ fs) serve other places bytes = absurd (cc)
same_plan code (e ∷ es) [] serve other places bytes = absurd (cc)
same_plan code (e ∷ es) (f ∷ fs) serve other places bytes =
    let first = same_serving code e f (serve e (in_front e es)) (other f (in_front f fs))
    (ap (λ xs. get_or xs 0 0) places) (ap (take 8) bytes) in
    let rest = same_plan code es fs (λ x c. serve x (behind_first e x es c))
    (λ x c. other x (behind_first f x fs c)) (ap (drop 1) places) (ap (drop 8) bytes) in
    λ i. first i ∷ rest i
