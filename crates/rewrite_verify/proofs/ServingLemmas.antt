-- What the tests of an entry mean.
use Rattle.std.proofs.Common.{◌≡◌, ◌≢◌, ◌↔◌, ℕ, ◌<◌, Bool, false, Option, Some, None, refl, sym, subst}
use Rattle.std.specs.Prelude.{IsTrue, IsSome}
use Rattle.rv32_decode.specs.declared.Instr.{Instr}
use Rattle.rv32_program.specs.Liveness.{IsDeadAt}
use Rattle.templates.specs.declared.plans.Template.{Template}
use Rattle.templates.specs.declared.plans.Scratch.{Scratch}
use Rattle.templates.specs.declared.plans.Scratches.{Scratches}
use Rattle.templates.specs.Plans.{HasSoMany, HasScratchesAt, scratch_count}
use Rattle.templates.specs.Runs.{IsRunScratch}

-- a scratch register of a run that isn't spilled is dead at the first instruction
pub dead_there : (code : ℕ → Option Instr) (a base : ℕ) (x : Scratch) (b : Bool)
    → IsSome (code a) → x.register ≢ 0 → x.register < 32 → x.register ≢ base
    → x.spilled ≡ false
    → ((i : Instr) → code a ≡ Some i → (IsTrue b ↔ IsDeadAt code x.register a i))
    → (IsTrue b ↔ IsRunScratch code a base x)
dead_there code a base x b some nonzero small other kept tells = (
  λ t. record {
    nonzero = nonzero;
    small = small;
    other = other;
    dead = λ e i at. (tells i at).0 t;
  },
  λ h. go (code a) refl some h,
)
  where
    go : (o : Option Instr) → code a ≡ o → IsSome o → IsRunScratch code a base x → IsTrue b
    go None at there h = cc
    go (Some i) at there h = (tells i at).1 (h.dead kept i at)

-- those of a code word's place
pub at_word : (t : Template) (code : ℕ → Option Instr) (a count : ℕ) (i : Instr)
    (x : Scratches) (b : Bool) → code a ≡ Some i → count ≡ scratch_count t
    → (IsTrue b ↔ HasSoMany count code a i x) → (IsTrue b ↔ HasScratchesAt t code a (code a) x)
at_word t code a count i x b at is h =
    subst (λ o. IsTrue b ↔ HasScratchesAt t code a o x) (sym at)
    (subst (λ n. IsTrue b ↔ HasSoMany n code a i x) is h)
