use Rattle.std.proofs.Common.{◌≡◌, ◌/◌, ◌∙◌, subst}
use Rattle.node_model.specs.flag_memory.Copy.{memory}
use Rattle.exec_map.specs.byte_range.Memory.{raw}
use Rattle.node_memory.specs.Shelf.{Shelf, HasLines}
use Rattle.node_memory.proofs.ShelfLemmas.{shared_class, not_shared_class, low_address, raw_of_copy}
use Rattle.node_memory.proofs.memory.NodeMemory.load.Goals as goal

pub returns-in-Some-clause-value : goal.returns-in-Some-clause-value
returns-in-Some-clause-value c =
    let s = c.args.self.now in
    let a = c.args.address in
    let lines = subst (λ (v : Shelf). HasLines v.program v.states v.copy) c.self.view_is c.self.invariant.0 in
    let value = subst (λ (v : Shelf). c.load_at.result ≡ raw c.args.width (memory v.copy) a) c.self.view_is c.load_at.ensures.value in
    let shared = c.in-Some.ensures.0 in (
      shared_class s (a / 64) lines shared,
      low_address s a lines shared,
      value ∙ raw_of_copy c.args.width s.copy a c.requires shared,
    )

pub returns-in-None-clause-value : goal.returns-in-None-clause-value
returns-in-None-clause-value c =
    let lines = subst (λ (v : Shelf). HasLines v.program v.states v.copy) c.self.view_is c.self.invariant.0 in
    not_shared_class c.args.self.now (c.args.address / 64) lines c.in-None.ensures
