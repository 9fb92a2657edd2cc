use Rattle.std.proofs.Common.{◌≡◌, ◌+◌, ◌*◌, ◌/◌, ◌%◌, ◌∙◌, ap, sym, subst, true, ℕ, Some, arith}
use Rattle.block_layout.specs.Layout.{Shape, is_shared, shared_before, place_of}
use Rattle.node_memory.specs.Shelf.{Shelf, IsPlace}
use Rattle.node_memory.proofs.MemoryLemmas.{private_line}
use Rattle.node_memory.proofs.ShelfLemmas.{place_of_line, private_byte}
use Rattle.node_memory.proofs.memory.NodeMemory.state.Goals as goal

pub returns-then-is_private : goal.returns-then-is_private
returns-then-is_private c =
    let s = c.args.self.now in
    let line = c.args.line in
    private_byte s.program s.states s.copy line c.laws.ensures.lines
    (private_line s.program line (sym c.is_private.ensures ∙ c.if-is_private.true))

pub byte_at-requires : goal.byte_at-requires
byte_at-requires c =
    let i = c.self.inside in
    let l = i.copy.layout in
    let line = c.args.line in
    let there : IsPlace l (64 * line) (Some c.in-Some.at) = subst (λ (v : Shelf). IsPlace v.copy.layout (64 * line) (Some c.in-Some.at)) (sym c.self.view_is) c.in-Some.ensures in
    let back : 64 * line / 64 ≡ line = omega arith in
    let on : is_shared l line ≡ true = ap (is_shared l) (sym back) ∙ there.0 in
    let is : c.in-Some.at ≡ 64 * shared_before l (64 * line / 64) + 64 * line % 64 = there.1 in
    let at : c.in-Some.at ≡ 64 * shared_before l line =
    is ∙ ap (λ q. 64 * shared_before l q + 64 * line % 64) back ∙ whole (shared_before l line) line in
    subst (λ (x : Shape). place_of x line ≡ Some (c.in-Some.at / 64)) (sym c.self.invariant.0.one) (place_of_line l line c.in-Some.at on at)
  where
    whole : (x y : ℕ) → 64 * x + 64 * y % 64 ≡ 64 * x
    whole x y = omega arith
