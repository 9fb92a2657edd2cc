-- The default layout is over the program's shared lines.
use Rattle.std.proofs.Common.{◌≡◌, ℕ, Bool, true, sym, ap, ◌∙◌, refl}
use Rattle.block_layout.specs.Layout.{Shape, is_in, is_shared as is_shared_line}
use Rattle.rv32_program.specs.declared.Class.{Class}
use Rattle.rv32_program.specs.declared.Class.TheVariants as class
use Rattle.exec_map.specs.Contents.{class_of_line, is_shared}
use Rattle.machine_tests.proofs.cores.layout_over.Goals as goal

shared_as : (layout : Shape) (line : ℕ) → is_shared_line layout line ≡ is_in layout.shared line
unfolding is_shared_line
shared_as layout line = refl

laid_by : (k : Class) (t : Bool) → t ≡ is_shared k
    → ((k ≡ class.Shared) → (t ≡ true)) × ((t ≡ true) → (k ≡ class.Shared))
laid_by class.Shared t e = (λ h. e, λ h. refl)
laid_by class.ReadOnly t e = (λ h. cc, λ h. (let bad = sym e ∙ h in cc))
laid_by class.Private t e = (λ h. cc, λ h. (let bad = sym e ∙ h in cc))
laid_by class.Unmapped t e = (λ h. cc, λ h. (let bad = sym e ∙ h in cc))

pub returns : goal.returns
returns c = record {
  valid = c.in_ok-layout.ensures.valid;
  laid_over = λ line. laid_by (class_of_line c.args.program.now line)
      (is_shared_line c.in_ok-layout.layout line)
      (shared_as c.in_ok-layout.layout line
      ∙ ap (λ (s : Shape). is_in s.shared line) c.in_ok-layout.ensures.value
      ∙ c.in_ok-ranges.ensures.ranges.lines line);
  nodes = ap (λ (s : Shape). s.nodes) c.in_ok-layout.ensures.value;
}
