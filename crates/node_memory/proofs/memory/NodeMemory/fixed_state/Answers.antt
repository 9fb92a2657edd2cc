use Rattle.std.proofs.Common.{◌≡◌, ap, sym, subst, false}
use Rattle.std.specs.Prelude.{is_some}
use Rattle.block_layout.specs.Layout.{is_shared}
use Rattle.node_memory.specs.Shelf.{Shelf, local_of}
use Rattle.node_memory.proofs.ShelfLemmas.{fixed_byte}
use Rattle.node_memory.proofs.memory.NodeMemory.fixed_state.Goals as goal

pub returns-in-Some : goal.returns-in-Some
returns-in-Some c =
    let i = c.self.inside in
    let out = subst (λ (v : Shelf). is_shared v.copy.layout c.args.line ≡ false) (sym c.self.view_is) c.requires.fixed in
    subst (λ (v : Shelf). 5 ≡ (local_of v).state c.args.line) c.self.view_is
    (fixed_byte i.program.now i.states i.copy i.fixed c.args.line c.self.invariant.0 c.self.invariant.3 out (ap is_some (sym c.in-Some.ensures.value)))
