use Rattle.std.proofs.Common.{◌≡◌, ◌/◌, Some, subst, sym}
use Rattle.block_layout.specs.Layout.{Shape, place_of}
use Rattle.node_memory.specs.Shelf.{Shelf, IsPlace}
use Rattle.node_memory.proofs.ShelfLemmas.{place_of_address}
use Rattle.node_memory.proofs.memory.NodeMemory.second_state.Goals as goal

pub byte_at-first-requires : goal.byte_at-first-requires
byte_at-first-requires c =
    let i = c.self.inside in
    let a = c.args.low in
    let at = c.in-Some.one in
    let there : IsPlace i.copy.layout a (Some at) =
    subst (λ (v : Shelf). IsPlace v.copy.layout a (Some at)) (sym c.self.view_is) c.in-Some.ensures.place in
    subst (λ (x : Shape). place_of x (a / 64) ≡ Some (at / 64)) (sym c.self.invariant.0.one)
    (place_of_address i.copy.layout a at there.0 there.1)

pub byte_at-second-requires : goal.byte_at-second-requires
byte_at-second-requires c =
    let i = c.self.inside in
    let a = c.args.high in
    let at = c.in-Some-near.other in
    let there : IsPlace i.copy.layout a (Some at) =
    subst (λ (v : Shelf). IsPlace v.copy.layout a (Some at)) (sym c.self.view_is) c.in-Some-near.ensures.place in
    subst (λ (x : Shape). place_of x (a / 64) ≡ Some (at / 64)) (sym c.self.invariant.0.one)
    (place_of_address i.copy.layout a at there.0 there.1)
