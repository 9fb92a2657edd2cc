use Rattle.std.proofs.Common.{◌≡◌, ◌/◌, subst, refl, true}
use Rattle.node_memory.specs.node_model.Node.{is_writable_state}
use Rattle.node_memory.specs.Shelf.{Shelf, local_of}
use Rattle.node_words.specs.Strides.{IsStored, IsStoredOr}
use Rattle.node_words.proofs.AccessLemmas.{shared_stored}
use Rattle.node_words.proofs.exec_state.ExecState.put_checked.Goals as goal

pub returns-then-store_writable-clause-stores : goal.returns-then-store_writable-clause-stores
returns-then-store_writable-clause-stores c =
    let near = c.if-store_writable.ensures in
    shared_stored c.args.self.now c.args.width c.args.address c.args.value c.store_writable.new.self (near.aligned refl)
    (near.shared refl).0 (near.shared refl).1 (near.local refl) near.ground

pub returns-clause-stores : goal.returns-clause-stores
returns-clause-stores c =
    let b = c.args.self.now in
    let b' = c.put_far.new.self in
    subst (λ (s : Shelf). let m = record b { local = s } in
    IsStoredOr c.put_far.result (IsStored m c.args.width c.args.address c.args.value b') m b')
    (c.if-store_writable.ensures.elsewhere refl) c.put_far.ensures.stores

pub returns-clause-writable : goal.returns-clause-writable
returns-clause-writable c =
    subst (λ (s : Shelf). c.put_far.result ≡ true →
    is_writable_state ((local_of s).state (c.args.address / 64)) ≡ true) (c.if-store_writable.ensures.elsewhere refl)
    c.put_far.ensures.writable
