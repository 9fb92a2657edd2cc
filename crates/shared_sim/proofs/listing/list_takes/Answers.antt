use Rattle.std.proofs.Common.{rules, ◌≡◌, ◌++◌, true, false, ap, sym, ◌∙◌, map, length, length-append, arith}
use Rattle.std.specs.Vec.{vec_capacity, vec_items}
use Rattle.std.proofs.lemmas.List.{append-nil}
use Rattle.std.proofs.lemmas.List.{map-append}
use Rattle.dsm_core.specs.CoreParts.{work_of, core_of, event_of}
use Rattle.shared_sim.proofs.Choices.{take_told, takes_none, one_take_more}
use Rattle.shared_sim.proofs.listing.list_takes.Goals as goal
use Rattle.shared_sim.proofs.listing.list_takes.Goals.{then-has_wire, else-has_wire}

pub returns-then-not-may_take-clause-listed : goal.returns-then-not-may_take-clause-listed
returns-then-not-may_take-clause-listed c =
    let core = c.args.core.now in
    let before = map event_of c.args.events.now.items in
    let never : c.may_take.result ≡ false = search rules in
    let none = takes_none (work_of core) (core_of core) c.args.node 0 core.layout.nodes
    (sym c.may_take.ensures.value ∙ never) in
    sym (ap (λ ts. before ++ ts) none ∙ append-nil before)

pub loop-from-preserved : goal.loop-from-preserved
loop-from-preserved c =
    let core = c.args.core.now in
    let i = c.args.node in
    let l = c.loop-from in
    let j = l.from in
    let old = map event_of l.events.items in
    let before = map event_of c.args.events.now.items in
    let can : c.may_take.result ≡ true = search rules in
    let is = take_told (work_of core) (core_of core) i j c.has_wire.result
    (sym c.may_take.ensures.value ∙ can) c.has_wire.ensures.value in
    let few = l.invariant.few in
    elim c.if-has_wire.branch [
      | then-has_wire w ↦
          (let items = ap vec_items w.events-is ∙ w.push_reserved.ensures.items in
          let len = ap length items ∙ length-append l.events.items _ in
          record {
            listed = ap (map event_of) items ∙ map-append event_of l.events.items _
                ∙ one_take_more (work_of core) (core_of core) i j _ before old l.invariant.listed (is ∙ w.if-has_wire.true);
            few = omega (arith, len, few);
            room = ap vec_capacity w.events-is ∙ w.push_reserved.ensures.capacity ∙ l.invariant.room;
          })
      | else-has_wire w ↦
          (let items = ap vec_items w.events-is in
          let len = ap length items in
          record {
            listed = ap (map event_of) items ∙ sym (append-nil old)
                ∙ one_take_more (work_of core) (core_of core) i j _ before old l.invariant.listed (is ∙ w.if-has_wire.false);
            few = omega (arith, len, few);
            room = ap vec_capacity w.events-is ∙ l.invariant.room;
          })
    ]
