use Rattle.std.proofs.Common.{◌≡◌, ◌++◌, ◌∷◌, [], cond, ap, sym, ◌∙◌, map, arith}
use Rattle.std.specs.Prelude.{filter}
use Rattle.std.specs.List.{range_with_len}
use Rattle.std.specs.Vec.{vec_items}
use Rattle.std.proofs.lemmas.List.{append-nil, map-append}
use Rattle.dsm_core.specs.node_model.Core.{Exec, Take}
use Rattle.dsm_core.specs.CoreParts.{work_of, core_of, event_of}
use Rattle.shared_sim.specs.ByOrder.{is_allowed}
use Rattle.shared_sim.proofs.Choices.{told, one_node, no_takes}
use Rattle.shared_sim.proofs.listing.list_events.Goals as goal
use Rattle.shared_sim.proofs.listing.list_events.Goals.{then-enabled, else-enabled}

pub returns-else-mail-clause-listed : goal.returns-else-mail-clause-listed
returns-else-mail-clause-listed c =
    let core = c.args.core.now in
    let work = work_of core in
    let i = c.args.node in
    let allowed = is_allowed work (core_of core) in
    let before = map event_of c.args.events.now.items in
    let word = before ++ cond (allowed (Exec i)) (Exec i ∷ []) [] in
    let takes = filter allowed (map (λ j. Take i j) (range_with_len 0 core.layout.nodes)) in
    let none = no_takes work (core_of core) i 0 core.layout.nodes (omega arith) (c.requires.mail c.if-mail.false) in
    let is = told work (core_of core) (Exec i) c.enabled.result c.requires.node c.enabled.ensures.value in
    let listed : map event_of c.if-enabled.events.items ≡ word = elim c.if-enabled.branch [
      | then-enabled w ↦
          ap (map event_of) (ap vec_items w.events-is ∙ w.push_reserved.ensures.items) ∙ map-append event_of c.args.events.now.items _
          ∙ ap (λ t. before ++ cond t (Exec i ∷ []) []) (sym (is ∙ w.if-enabled.true))
      | else-enabled w ↦
          ap (λ v. map event_of (vec_items v)) w.events-is ∙ sym (append-nil before)
          ∙ ap (λ t. before ++ cond t (Exec i ∷ []) []) (sym (is ∙ w.if-enabled.false))
    ] in
    listed ∙ sym (append-nil word) ∙ ap (λ ts. word ++ ts) (sym none)
    ∙ one_node (allowed (Exec i)) (Exec i) before takes
