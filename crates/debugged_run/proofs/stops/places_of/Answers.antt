use Rattle.std.proofs.Common.{rules, ap, ◌∙◌, filter}
use Rattle.std.proofs.lemmas.Fn.{filter_same}
use Rattle.debugged_run.specs.Motions.{is_place}
use Rattle.debugged_run.proofs.stops.places_of.Goals as goal

pub returns : goal.returns
returns c =
    filter_same _ _ _ (λ x b f' k. search rules) _ _ c.retain.ensures.filtered
    ∙ ap (filter is_place) c.in_ok-places.ensures.items
