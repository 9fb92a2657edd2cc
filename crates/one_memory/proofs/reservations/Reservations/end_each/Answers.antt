use Rattle.std.proofs.Common.{◌≡◌, ◌∙◌, ◌||◌, ◌+◌, Bool, set, refl, subst, sym}
use Rattle.std.specs.Prelude.{is_some}
use Rattle.one_memory.specs.Machine.{reserved_in}
use Rattle.one_memory.proofs.ReservedLemmas.{AreEnded, ended_first, ended_next, ended_all, none_left, or_then, or_else}
use Rattle.one_memory.proofs.reservations.Reservations.end_each.Goals as goal
use Rattle.one_memory.proofs.reservations.Reservations.end_each.Goals.{then-any, else-any}

pub loop-q-init : goal.loop-q-init
loop-q-init c = ended_first c.args.layout.now c.args.p c.args.address c.self.inside.each c.self.invariant.0

pub loop-q-preserved : goal.loop-q-preserved
loop-q-preserved c =
    let next = ended_next c.args.layout.now c.args.p c.args.address c.self.inside.each c.loop-q.self-inside.each c.loop-q.q c.loop-q.any (reserved_in c.loop-q.self-inside.each c.loop-q.q) c.after_store-reserved.result c.loop-q.invariant c.loop-q-test.true refl c.after_store-reserved.ensures in
    let found = is_some c.after_store-reserved.result in
    let any : c.if-any.any ≡ (c.loop-q.any || found) = elim c.if-any.branch [
      | then-any w ↦ or_then c.loop-q.any found c.if-any.any w.any-is w.if-any.true
      | else-any w ↦ or_else c.loop-q.any found c.if-any.any (w.any-is ∙ w.is_some-any.ensures) w.if-any.false
    ] in
    subst (λ (b : Bool). AreEnded c.args.layout.now c.args.p c.args.address c.self.inside.each (set c.loop-q.self-inside.each c.loop-q.q c.after_store-reserved.result) (c.loop-q.q + 1) b) (sym any) next

pub invariant_of-self : goal.invariant_of-self
invariant_of-self c =
    (c.loop-q.invariant.len, none_left c.args.layout.now c.args.p c.args.address c.self.inside.each c.loop-q.self-inside.each c.loop-q.any c.loop-q.q c.loop-q.invariant c.loop-q-test.false)

pub returns : goal.returns
returns c =
    rw (← c.self.view_is) (ended_all c.args.layout.now c.args.p c.args.address c.self.inside.each c.loop-q.self-inside.each c.loop-q.any c.loop-q.q c.loop-q.invariant c.self.invariant.0 c.loop-q-test.false c.loop-q.auto.q-end)
