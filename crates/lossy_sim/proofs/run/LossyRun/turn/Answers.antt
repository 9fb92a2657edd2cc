-- Where nothing is listed no event is allowed.
use Rattle.std.proofs.Common.{◌≡◌, ◌≤◌, length, map, inr, refl, sym, subst, arith}
use Rattle.std.proofs.lemmas.Bool.Decides.{nat_tests}
use Rattle.dsm_core.specs.CoreParts.{work_of, event_of}
use Rattle.dsm_core.proofs.CoreSteps.{on_ok}
use Rattle.lossy_sim.specs.WithLoss.{choices}
use Rattle.lossy_sim.specs.Runs.{state_in}
use Rattle.lossy_sim.specs.declared.run.LossyRun.{LossyRun}
use Rattle.lossy_sim.proofs.Running.{all_listed, none_listed, some_listed, network_turned, event_turned, few_there}
use Rattle.lossy_sim.proofs.run.LossyRun.turn.Goals as goal

pub returns-then-is_empty-clause-turn : goal.returns-then-is_empty-clause-turn
returns-then-is_empty-clause-turn c =
    let r = c.args.self.now in
    let work = work_of r.parts in
    let events = c.list.new.events in
    let listed = all_listed events.items c.deref.result.now c.deref-2.result.now c.self.view_is c.requires.ready
    c.deref.ensures.value c.deref-2.ensures.value c.nodes-count.ensures.nodes c.list.ensures.value in
    let none : length events.items ≡ 0 =
    grind (arith, nat_tests, c.is_empty.ensures, c.if-is_empty.true, events.ok) in
    on_ok c.network_turn-then-is_empty.result
    (λ t. network_turned c.network_turn-then-is_empty.new.self c.args.turn c.self.view_is
    (inr (none_listed events.items (choices work (state_in work r)) listed none)) t)
    c.network_turn-then-is_empty.ensures.turns

pub returns-then-is_empty-clause-few : goal.returns-then-is_empty-clause-few
returns-then-is_empty-clause-few c =
    let q = c.network_turn-then-is_empty in
    on_ok q.result (λ f. few_there q.new.self.links.items 18 c.self.view_is refl (omega arith) f) q.ensures.few

pub event-requires-clause-listed : goal.event-requires-clause-listed
event-requires-clause-listed c =
    let listed = all_listed c.list.new.events.items c.deref.result.now c.deref-2.result.now c.self.view_is
    c.requires.ready c.deref.ensures.value c.deref-2.ensures.value c.nodes-count.ensures.nodes c.list.ensures.value in
    subst (λ (x : LossyRun). map event_of c.list.new.events.items ≡ choices (work_of x.parts) (state_in (work_of x.parts) x))
    (sym c.self.view_is) listed

pub returns-clause-turn : goal.returns-clause-turn
returns-clause-turn c =
    let r = c.args.self.now in
    let work = work_of r.parts in
    let events = c.list.new.events in
    let listed = all_listed events.items c.deref.result.now c.deref-2.result.now c.self.view_is c.requires.ready
    c.deref.ensures.value c.deref-2.ensures.value c.nodes-count.ensures.nodes c.list.ensures.value in
    let some : 1 ≤ length events.items =
    grind (arith, nat_tests, c.is_empty.ensures, c.if-is_empty.false, events.ok) in
    on_ok c.event.result
    (λ h. event_turned c.event.new.self c.args.turn c.self.view_is c.if-turn-eq0.false
    (some_listed events.items (choices work (state_in work r)) listed some) h) c.event.ensures.picked

pub returns-clause-few : goal.returns-clause-few
returns-clause-few c =
    on_ok c.event.result (λ f. few_there c.event.new.self.links.items 18 c.self.view_is refl (omega arith) f)
    c.event.ensures.few
