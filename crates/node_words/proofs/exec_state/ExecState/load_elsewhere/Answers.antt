use Rattle.std.proofs.Common.{◌≡◌, ℕ, refl, ap, sym, ◌∙◌, subst}
use Rattle.rv32_decode.specs.declared.Width.{Width}
use Rattle.rv32_ops.specs.Operations.{extend}
use Rattle.node_memory.specs.rv32_step.Registers.{put, registers_of}
use Rattle.node_memory.specs.rv32_step.Memory.{load_value}
use Rattle.node_memory.specs.byte_range.Memory.{raw}
use Rattle.node_memory.specs.exec_map.Contents.{program_of}
use Rattle.node_memory.specs.node_model.Node.{Region, Memory, StateOf, Spill, Elsewhere, load, region_of, byte_at}
use Rattle.node_memory.specs.Shelf.{ground_of, local_of, region_by}
use Rattle.node_words.specs.Kept.{LeavesBehind, lane_of}
use Rattle.node_memory.specs.declared.region.Region as kept_region
use Rattle.node_words.proofs.exec_state.ExecState.load_elsewhere.Goals as goal
use Rattle.node_words.proofs.exec_state.ExecState.load_elsewhere.Goals.{in-Memory, in-StateOf, in-Spill, in-Elsewhere}

pub returns-clause-leaves : goal.returns-clause-leaves
returns-clause-leaves c at =
    let b = c.args.self.now in
    let p = b.local.program in
    let l = lane_of b.lane at in
    let n = local_of b.local in
    let a = c.args.address in
    let kind = c.args.kind in
    let registers = λ (value : ℕ) (is : c.match-region_of.value ≡ value). c.set.ensures ∙ ap (put (registers_of b.lane.registers) c.args.rd) is in
    let region = λ (r : kept_region.Region) (is : c.region_of.result ≡ r). ap region_by (sym is) ∙ c.region_of.ensures.region in
    let leaves = λ (q : Region) (is : q ≡ region_of a) (there : LeavesBehind (load (program_of p) l n kind c.args.rd a q) (ground_of b.local) at (record b.lane { registers = c.set.new.self }) b.local).
    subst (λ (r : Region). LeavesBehind (load (program_of p) l n kind c.args.rd a r) (ground_of b.local) at (record b.lane { registers = c.set.new.self }) b.local) is there in
    elim c.match-region_of.branch [
      | in-Memory w ↦
          (let loaded : c.match-region_of.value ≡ load_value kind (byte_at (program_of p) l n) a =
          w.value-is ∙ w.extend-value.ensures ∙ ap (extend kind) (w.memory.ensures.value at ∙ ap (λ (x : Width). raw x (byte_at (program_of p) l n) a) w.width.ensures.value) in
          leaves Memory (region _ w.in-Memory.is) (record {
            lane = λ t. record l { registers = registers _ loaded t };
            local = refl;
            ground_same = refl;
          }))
      | in-StateOf w ↦ leaves (StateOf w.in-StateOf.line) (region _ w.in-StateOf.is) (record {
        lane = λ t. record l { registers = registers _ (w.value-is ∙ w.from-value.ensures ∙ w.state.ensures) t };
        local = refl;
        ground_same = refl;
      })
      | in-Spill w ↦ leaves (Spill w.in-Spill.k) (region _ w.in-Spill.is) (record {
        lane = λ t. record l { registers = registers _ w.value-is t };
        local = refl;
        ground_same = refl;
      })
      | in-Elsewhere w ↦ leaves Elsewhere (region _ w.in-Elsewhere.is) (record {
        lane = λ t. record l { registers = registers _ w.value-is t };
        local = refl;
        ground_same = refl;
      })
    ]
