use Rattle.std.proofs.Common.{sym, ap}
use Rattle.std.specs.Option.{option_map, option_to_list}
use Rattle.one_memory.specs.Shown.{pick_of}
use Rattle.record_picks.proofs.Lists.{pushed}
use Rattle.record_picks.proofs.push_if.Goals as goal

pub returns-in_ok-push-in-Some : goal.returns-in_ok-push-in-Some
returns-in_ok-push-in-Some c =
    pushed _ _ c.in-Some.pick _ c.in_ok-push-in-Some.ensures.items
    (sym (ap (λ p. option_to_list (option_map pick_of p)) c.in-Some.is))
