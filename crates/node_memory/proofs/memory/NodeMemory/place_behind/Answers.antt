use Rattle.std.proofs.Common.{◌+◌, ◌*◌, ◌/◌, ◌%◌, ap, sym, subst, Some, None, arith}
use Rattle.block_layout.specs.Layout.{Shape}
use Rattle.node_memory.specs.Shelf.{Shelf, IsPlace}
use Rattle.node_memory.proofs.ShelfLemmas.{PlaceLaws, place_of_is, place_none, before_low}
use Rattle.node_memory.proofs.memory.NodeMemory.place_behind.Goals as goal

pub overflow_mul-result : goal.overflow_mul-result
overflow_mul-result c =
    let law = c.layout_law.ensures in
    let laws : PlaceLaws = record { ends = law.ends; has = law.has; found = law.found; shared = law.shared; place = law.place; within = law.within; count = law.count } in
    let l = c.self.inside.layout in
    let is = place_of_is l (c.args.address / 64) c.in-Some.place (sym c.in-Some.ensures) in
    let same = is.1 in
    let low = before_low laws l c.nodes.ensures.valid (c.args.address / 64) is.0 in
    omega (arith, same, low)

pub overflow_add-result : goal.overflow_add-result
overflow_add-result c =
    let law = c.layout_law.ensures in
    let laws : PlaceLaws = record { ends = law.ends; has = law.has; found = law.found; shared = law.shared; place = law.place; within = law.within; count = law.count } in
    let l = c.self.inside.layout in
    let is = place_of_is l (c.args.address / 64) c.in-Some.place (sym c.in-Some.ensures) in
    let same = is.1 in
    let low = before_low laws l c.nodes.ensures.valid (c.args.address / 64) is.0 in
    omega (arith, same, low)

pub returns-in-Some : goal.returns-in-Some
returns-in-Some c =
    let l = c.self.inside.layout in
    let is = place_of_is l (c.args.address / 64) c.in-Some.place (sym c.in-Some.ensures) in
    let same = is.1 in
    subst (λ (v : Shelf). IsPlace v.copy.layout c.args.address (Some (64 * c.in-Some.place + c.args.address % 64))) c.self.view_is
    (subst (λ (x : Shape). IsPlace x c.args.address (Some (64 * c.in-Some.place + c.args.address % 64))) c.self.invariant.1
    (is.0, ap (λ k. 64 * k + c.args.address % 64) same))

pub returns-in-None : goal.returns-in-None
returns-in-None c =
    let l = c.self.inside.layout in
    subst (λ (v : Shelf). IsPlace v.copy.layout c.args.address None) c.self.view_is
    (subst (λ (x : Shape). IsPlace x c.args.address None) c.self.invariant.1
    (place_none l (c.args.address / 64) (sym c.in-None.ensures)))
