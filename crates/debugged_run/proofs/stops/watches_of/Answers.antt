use Rattle.std.proofs.Common.{rules, ap, ◌∙◌, filter}
use Rattle.std.proofs.lemmas.Fn.{filter_same}
use Rattle.debugged_run.specs.Motions.{is_watch}
use Rattle.debugged_run.proofs.stops.watches_of.Goals as goal

pub returns : goal.returns
returns c =
    filter_same _ _ _ (λ x b f' k. search rules) _ _ c.retain.ensures.filtered
    ∙ ap (filter is_watch) c.in_ok-watches.ensures.items
