-- A lane at the start, part by part.
use Rattle.std.proofs.Common.{◌≡◌, ℕ, List, [], ◌∷◌, Option, get_or, false, zero, suc, ap, sym, ◌∙◌, refl}
use Rattle.std.specs.Prelude.{unwrap_or, slice_index}
use Rattle.std.proofs.Math.Path.{fun_ext}
use Rattle.rv32_program.specs.Program.{Program}
use Rattle.rv32_step.specs.Registers.{registers_of, first_values}
use Rattle.lane_model.specs.node_model.jump_map.Maps.{new_of}
use Rattle.lane_model.specs.node_model.Node.{Running}
use Rattle.lane_machine.proofs.lane.Lane.new.Goals as goal

abbrev three_zeros : List ℕ
three_zeros = 0 ∷ 0 ∷ 0 ∷ []

three_zeros_get : (k : ℕ) → get_or three_zeros k 0 ≡ 0
three_zeros_get zero = refl
three_zeros_get (suc zero) = refl
three_zeros_get (suc (suc zero)) = refl
three_zeros_get (suc (suc (suc k))) = refl

three_zeros_are : slice_index three_zeros ≡ (λ _. 0)
three_zeros_are = fun_ext three_zeros_get

pub returns-clause-opening : goal.returns-clause-opening
returns-clause-opening c w program image count =
    let at = c.index_of.ensures ∙ c.unwrap_or.ensures ∙ ap (λ (o : Option ℕ). unwrap_or o 0)
    (c.new_of.ensures.value ∙ (λ t. new_of (sym image t) ((c.entry.ensures.value ∙ ap (λ (p : Program). p.entry) (sym program)) t))) in
    let registers = ap registers_of (c.first.ensures ∙ ap (first_values c.args.p) (sym count)) in
    λ t. record {
      lane = record {
        registers = registers t;
        at = at t;
        private = c.in_ok-zeros.ensures.zeros t;
        written = 0;
        off = 0;
        spills = three_zeros_are t;
      };
      executed = 0;
      phase = Running;
      awaits = [];
      again = false;
    }
