-- The scratch registers of a run are chosen.
use Rattle.std.proofs.Common.{◌≡◌, ◌≢◌, ℕ, ◌<◌, ◌↔◌, true, ◌==◌, Option, Some, sym, ap, ◌∙◌, inl, inr}
use Rattle.std.specs.Prelude.{not, take}
use Rattle.std.proofs.lemmas.Bool.{false≢true, eq-eqb}
use Rattle.std.proofs.lemmas.Bool.Decides.{eqb_tells}
use Rattle.rv32_decode.specs.Fields.{bit}
use Rattle.rv32_decode.specs.Registers.{IsMember}
use Rattle.rv32_decode.specs.declared.Instr.{Instr}
use Rattle.rv32_program.specs.Liveness.{IsDeadAt}
use Rattle.templates.specs.declared.plans.Scratches.{Scratches}
use Rattle.templates.specs.WholePlan.{in_order, scratches_of, IsRunChoice}
use Rattle.check_plan.specs.Members.{members}
use Rattle.check_plan.proofs.MemberLemmas.{bit_of, of_bit, members_by, passing_bounds}

other : (r base : ℕ) → r ≢ base → not (r == base) ≡ true
other r base h = elim (eqb_tells r base) [
  | inl same ↦ absurd (h same.1)
  | inr apart ↦ ap not apart.0
]

is_other : (r base : ℕ) → not (r == base) ≡ true → r ≢ base
is_other r base h = λ e. false≢true (ap not (sym (eq-eqb r base e)) ∙ h)

pub run_choice : (code : ℕ → Option Instr) (a base dead set : ℕ) (x : Scratches)
    → ((i : Instr) (r : ℕ) → code a ≡ Some i → r ≢ 0 → r < 32
    → (IsMember dead r ↔ IsDeadAt code r a i))
    → ((r : ℕ) → r < 32 → (IsMember set r ↔ (r ≢ base)))
    → x ≡ scratches_of (take 3 (in_order (bit dead) (members set))) → IsRunChoice code a base x
run_choice code a base dead set x dead_is set_is is = record {
  dead = bit dead;
  dead_is = λ r i c at.
      let b = passing_bounds (λ q. not (q == base)) r c in
      let m = dead_is i r at b.0 b.1 in
      (λ t. m.0 (of_bit dead r t), λ d. bit_of dead r (m.1 d));
  chosen =
      is ∙ ap (λ rs. scratches_of (take 3 (in_order (bit dead) rs)))
      (members_by set (λ r. not (r == base)) (λ r nz lt. (
        λ m. other r base ((set_is r lt).0 m),
        λ t. (set_is r lt).1 (is_other r base t),
      )));
}
