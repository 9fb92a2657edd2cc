use Rattle.rewriting_law.proofs.runs.Follows.{layout_of}
use Rattle.lane_law.proofs.LaneFollows.{interleaves, licensed, coherent, same_reservations, stops}
use Rattle.lane_law.proofs.lane_law.Goals as goal

pub returns : goal.returns
returns c =
    let law = c.layout_law.ensures in
    let laid = layout_of
    (record { ends = law.ends; has = law.has; found = law.found; shared = law.shared }) law.some
    law.few law.home in
    record {
      interleaves = λ w plan events good may.
          interleaves w plan good (laid w.work good.valid good.laid_over) events may;
      licensed = λ w plan events good may.
          licensed w plan good (laid w.work good.valid good.laid_over) events may;
      coherent = λ w plan events good may.
          coherent w plan good (laid w.work good.valid good.laid_over) events may;
      reservations = λ w plan events good may.
          same_reservations w plan good (laid w.work good.valid good.laid_over) events may;
      stopped = λ w plan events good may.
          stops w plan good (laid w.work good.valid good.laid_over) events may;
    }
