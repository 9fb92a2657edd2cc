-- The event is listed where the core allows it.
use Rattle.std.proofs.Common.{◌++◌, ◌∷◌, [], cond, ap, sym, ◌∙◌, map}
use Rattle.std.proofs.lemmas.List.{append-nil, map-append}
use Rattle.smp_sim.specs.CoreParts.{core_of, event_of, work_of}
use Rattle.smp_sim.proofs.Choices.{told}
use Rattle.smp_sim.proofs.listing.list_event.Goals as goal

pub returns-then-enabled-clause-listed : goal.returns-then-enabled-clause-listed
returns-then-enabled-clause-listed c =
    let p = c.args.core.now in
    let x = event_of c.args.event in
    let before = map event_of c.args.events.now.items in
    let is = told (work_of p) (core_of p) x c.enabled.result c.requires.there c.enabled.ensures.value in
    ap (map event_of) c.push_reserved.ensures.items ∙ map-append event_of c.args.events.now.items _
    ∙ ap (λ t. before ++ cond t (x ∷ []) []) (sym (is ∙ c.if-enabled.true))

pub returns-else-enabled-clause-listed : goal.returns-else-enabled-clause-listed
returns-else-enabled-clause-listed c =
    let p = c.args.core.now in
    let x = event_of c.args.event in
    let before = map event_of c.args.events.now.items in
    let is = told (work_of p) (core_of p) x c.enabled.result c.requires.there c.enabled.ensures.value in
    sym (append-nil before) ∙ ap (λ t. before ++ cond t (x ∷ []) []) (sym (is ∙ c.if-enabled.false))
