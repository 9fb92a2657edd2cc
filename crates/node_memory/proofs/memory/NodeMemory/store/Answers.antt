use Rattle.std.proofs.Common.{◌≡◌, ◌/◌, sym, subst, refl, true}
use Rattle.block_layout.specs.Layout.{is_shared}
use Rattle.exec_map.specs.byte_range.Memory.{stored}
use Rattle.node_memory.specs.Shelf.{Shelf, HasLines, local_of}
use Rattle.node_memory.proofs.ShelfLemmas.{shared_class, not_shared_class, low_address, stored_in_copy}
use Rattle.node_memory.proofs.memory.NodeMemory.store.Goals as goal

pub returns-in-Some-clause-shared : goal.returns-in-Some-clause-shared
returns-in-Some-clause-shared c _ =
    let s = c.args.self.now in
    let a = c.args.address in
    let lines = subst (λ (v : Shelf). HasLines v.program v.states v.copy) c.self.view_is c.self.invariant.0 in
    (shared_class s (a / 64) lines c.in-Some.ensures.0, low_address s a lines c.in-Some.ensures.0)

pub returns-in-Some-clause-local : goal.returns-in-Some-clause-local
returns-in-Some-clause-local c _ =
    let i = c.self.inside in
    let a = c.args.address in
    let shared = subst (λ (v : Shelf). is_shared v.copy.layout (a / 64) ≡ true) (sym c.self.view_is) c.in-Some.ensures.0 in
    let copy = stored_in_copy c.args.width i.copy c.store_at.new.self a c.args.value c.requires shared c.store_at.ensures.layout c.store_at.ensures.memory in
    subst (λ (v : Shelf). local_of (record { program = i.program.now; states = i.states; copy = c.store_at.new.self; reservation = i.reservation })
    ≡ record (local_of v) { copy = stored c.args.width (local_of v).copy a c.args.value }) c.self.view_is
    (λ t. record (local_of (record { program = i.program.now; states = i.states; copy = i.copy; reservation = i.reservation })) { copy = copy t })

pub returns-in-None-clause-elsewhere : goal.returns-in-None-clause-elsewhere
returns-in-None-clause-elsewhere c _ =
    let lines = subst (λ (v : Shelf). HasLines v.program v.states v.copy) c.self.view_is c.self.invariant.0 in
    (refl, not_shared_class c.args.self.now (c.args.address / 64) lines c.in-None.ensures)
