use Rattle.std.proofs.Common.{length, sym, ap, ◌∙◌}
use Rattle.std.proofs.lemmas.Bool.{ltb-true}
use Rattle.jump_map.specs.Heads.{start_of}
use Rattle.jump_map.proofs.HeadLemmas.{at_got, at_got_low}
use Rattle.jump_map.proofs.heads.PlaceIndex.guess.Goals as goal

pub returns-then-start-address-clause-value : goal.returns-then-start-address-clause-value
returns-then-start-address-clause-value c =
    let found = c.in_ok-start.ensures.lookup in
    at_got c.self.inside.starts.items c.deref-2.result.now _ c.args.address c.in_ok-start.start.now c.self.invariant c.deref-2.ensures.value
    (ltb-true _ (length c.deref-2.result.now) (sym found.0)) found.1 c.if-start-address.true
    ∙ ap (λ ss. start_of ss c.args.address) c.self.view_is

pub returns-then-start-address-clause-head : goal.returns-then-start-address-clause-head
returns-then-start-address-clause-head c =
    let found = c.in_ok-start.ensures.lookup in
    (at_got_low c.self.inside.starts.items c.deref-2.result.now _ c.in_ok-start.start.now c.self.invariant c.deref-2.ensures.value
    (ltb-true _ (length c.deref-2.result.now) (sym found.0)) found.1).0

pub returns-then-start-address-clause-single : goal.returns-then-start-address-clause-single
returns-then-start-address-clause-single c =
    let found = c.in_ok-start.ensures.lookup in
    (at_got_low c.self.inside.starts.items c.deref-2.result.now _ c.in_ok-start.start.now c.self.invariant c.deref-2.ensures.value
    (ltb-true _ (length c.deref-2.result.now) (sym found.0)) found.1).1
