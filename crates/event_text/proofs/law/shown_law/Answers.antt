use Rattle.event_text.proofs.Passed.{none_shown}
use Rattle.event_text.proofs.law.shown_law.Goals as goal

pub returns : goal.returns
returns c = record { none = none_shown }
