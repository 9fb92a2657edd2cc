use Rattle.std.proofs.Common.{◌≡◌, ◌/◌, ◌∙◌, Some, subst, sym}
use Rattle.block_layout.specs.Layout.{Shape, place_of}
use Rattle.node_model.specs.flag_memory.Copy.{memory}
use Rattle.exec_map.specs.byte_range.Memory.{raw}
use Rattle.node_memory.specs.Shelf.{Shelf, HasLines, IsPlace}
use Rattle.node_memory.proofs.ShelfLemmas.{shared_class, low_address, raw_of_copy, place_of_address}
use Rattle.node_memory.proofs.memory.NodeMemory.load_readable.Goals as goal

pub returns-then-is_readable-clause-value : goal.returns-then-is_readable-clause-value
returns-then-is_readable-clause-value c =
    let s = c.args.self.now in
    let a = c.args.address in
    let lines = subst (λ (v : Shelf). HasLines v.program v.states v.copy) c.self.view_is c.self.invariant.0 in
    let value = subst (λ (v : Shelf). c.load_at.result ≡ raw c.args.width (memory v.copy) a) c.self.view_is c.load_at.ensures.value in
    let shared = c.in_ok-at.ensures.place.0 in
    record {
      aligned = c.in_ok-at.ensures.aligned;
      shared = shared_class s (a / 64) lines shared;
      low = low_address s a lines shared;
      value = value ∙ raw_of_copy c.args.width s.copy a c.in_ok-at.ensures.aligned shared;
      byte = c.load_at.ensures.byte;
    }

pub byte_at-requires : goal.byte_at-requires
byte_at-requires c =
    let i = c.self.inside in
    let a = c.args.address in
    let there : IsPlace i.copy.layout a (Some c.in_ok-at.at) =
    subst (λ (v : Shelf). IsPlace v.copy.layout a (Some c.in_ok-at.at)) (sym c.self.view_is) c.in_ok-at.ensures.place in
    subst (λ (x : Shape). place_of x (a / 64) ≡ Some (c.in_ok-at.at / 64)) (sym c.self.invariant.0.one)
    (place_of_address i.copy.layout a c.in_ok-at.at there.0 there.1)
