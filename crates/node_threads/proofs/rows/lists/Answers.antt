use Rattle.std.proofs.Common.{rules, ◌<◌, ◌++◌, ap, ◌∙◌, sym, append_assoc, length, map, Global}
use Rattle.std.specs.declared.collections.VecDeque.{VecDeque}
use Rattle.dsm_messages.specs.declared.messages.Wire.{Wire}
use Rattle.dsm_protocol.specs.Queue.{Queue}
use Rattle.node_threads.specs.Crew.{flat}
use Rattle.node_threads.proofs.Flat.{flat_first}
use Rattle.node_threads.proofs.rows.lists.Goals as goal

pub loop-rows-preserved : goal.loop-rows-preserved
loop-rows-preserved c =
    let some : 0 < length c.loop-rows.rows.items = search rules in
    ap (λ l. l ++ flat c.remove-row.new.self.items) c.in_ok-add_row.ensures.wires
    ∙ append_assoc (map (λ (q : Queue). q.wires) c.loop-rows.lists.items)
    (map (λ (o : VecDeque Wire Global). o.items) c.remove-row.result.items)
    (flat c.remove-row.new.self.items)
    ∙ ap (λ l. map (λ (q : Queue). q.wires) c.loop-rows.lists.items ++ l)
    (sym (flat_first c.loop-rows.rows.items c.remove-row.new.self.items c.remove-row.result some
    c.remove-row.ensures.value c.remove-row.ensures.items)) ∙ c.loop-rows.invariant
