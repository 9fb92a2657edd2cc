-- The word of the node, and then no takes.
use Rattle.std.proofs.Common.{◌≡◌, ◌++◌, ◌∷◌, [], false, cond, ap, sym, ◌∙◌, map}
use Rattle.std.specs.Prelude.{filter}
use Rattle.std.specs.List.{range_with_len}
use Rattle.std.specs.Vec.{vec_items}
use Rattle.std.proofs.lemmas.List.{append-nil, map-append}
use Rattle.node_model.specs.Node.{standing_of}
use Rattle.node_model.specs.Core.{Exec, Take, may_execute, may_take}
use Rattle.dsm_core.specs.CoreParts.{event_of}
use Rattle.shared_sim.proofs.Choices.{one_node}
use Rattle.lossy_sim.specs.WithLoss.{is_allowed}
use Rattle.lossy_sim.proofs.Listed.{takes_none}
use Rattle.lossy_sim.proofs.listing.list_events.Goals as goal
use Rattle.lossy_sim.proofs.listing.list_events.Goals.{then-may_execute, else-may_execute}

pub returns-else-may_take-clause-listed : goal.returns-else-may_take-clause-listed
returns-else-may_take-clause-listed c = λ work s stored stands.
    let i = c.args.node in
    let allowed = is_allowed work s in
    let before = map event_of c.args.events.now.items in
    let word = before ++ cond (allowed (Exec i)) (Exec i ∷ []) [] in
    let takes = filter allowed (map (λ j. Take i j) (range_with_len 0 c.args.count)) in
    let never : may_take (standing_of work (s.nodes i)) ≡ false =
    ap may_take stands ∙ sym c.may_take.ensures ∙ c.if-may_take.false in
    let none = takes_none work s i 0 c.args.count never in
    let is : allowed (Exec i) ≡ c.may_execute.result = ap may_execute stands ∙ sym c.may_execute.ensures in
    let listed : map event_of c.if-may_execute.events.items ≡ word = elim c.if-may_execute.branch [
      | then-may_execute w ↦
          ap (map event_of) (ap vec_items w.events-is ∙ w.push_reserved.ensures.items)
          ∙ map-append event_of c.args.events.now.items _
          ∙ ap (λ t. before ++ cond t (Exec i ∷ []) []) (sym (is ∙ w.if-may_execute.true))
      | else-may_execute w ↦
          ap (λ v. map event_of (vec_items v)) w.events-is ∙ sym (append-nil before)
          ∙ ap (λ t. before ++ cond t (Exec i ∷ []) []) (sym (is ∙ w.if-may_execute.false))
    ] in
    listed ∙ sym (append-nil word) ∙ ap (λ ts. word ++ ts) (sym none)
    ∙ one_node (allowed (Exec i)) (Exec i) before takes
