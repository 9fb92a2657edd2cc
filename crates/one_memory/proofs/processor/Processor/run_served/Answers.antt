use Rattle.std.proofs.Common.{◌≡◌, ℕ, ◌-◌, List, sym, subst, arith}
use Rattle.micro_op.specs.declared.micro_op.MicroOp.{MicroOp}
use Rattle.one_memory.specs.declared.processor.Processor.{Processor as ProcessorParts}
use Rattle.one_memory.specs.Going.{Extent, place_of}
use Rattle.one_memory.specs.Machine.{AreOps, at_index}
use Rattle.one_memory.specs.Turns.{Turns}
use Rattle.one_memory.proofs.processor.Processor.run_served.Goals as goal

pub run_region-going-requires-clause-ops : goal.run_region-going-requires-clause-ops
run_region-going-requires-clause-ops c =
    let e = c.args.memory.now.program in
    let are = (c.region-region.ensures.stretch e c.requires.code).serve in
    subst (λ (x : Extent). AreOps e x.first c.as_slice-ops.result.now) (sym c.from-from.ensures.extent)
    (subst (λ (ops : List MicroOp). AreOps e c.region-region.result.now.first ops) (sym c.as_slice-ops.ensures.value) are)

pub returns-clause-turns : goal.returns-clause-turns
returns-clause-turns c =
    let p = c.args.p in
    let m = c.args.memory.now in
    let k : ProcessorParts = c.args.self.now in
    let from = c.from-from.result in
    let to = c.run_region-going.result in
    let m' = c.run_region-going.new.memory in
    let b' = c.run_region-going.new.body in
    let k' : ProcessorParts = record { at = c.index-self.result; body = b'; exit = k.exit } in
    let first : at_index (place_of from) k.body ≡ k = λ t. record { at = c.from-from.ensures.place t; body = k.body; exit = sym c.requires.runs t } in
    let last : at_index (place_of to) b' ≡ k' = λ t. record { at = sym c.index-self.ensures t; body = b'; exit = sym c.requires.runs t } in
    let count : from.left - to.left ≡ c.min-most_here.result - c.left.result = omega (arith, c.from-from.ensures.left, c.left.ensures) in
    subst (λ (n : ℕ). Turns p n m k m' k') count
    (subst (λ (x : ProcessorParts). Turns p (from.left - to.left) m x m' k') first
    (subst (λ (x : ProcessorParts). Turns p (from.left - to.left) m (at_index (place_of from) k.body) m' x) last
    c.run_region-going.ensures.turns))
