use Rattle.std.proofs.Common.{arith}
use Rattle.rewriting_law.proofs.runs.Follows.{layout_of}
use Rattle.lane_law.proofs.Names.{opening_core}
use Rattle.lane_law.proofs.LaneBudgets.{within}
use Rattle.lane_law.proofs.LaneFollows.{goes_on, all_empty, have_rows, run_short}
use Rattle.lane_law.proofs.lane_progress_law.Goals as goal

pub returns : goal.returns
returns c =
    let law = c.layout_law.ensures in
    let laid = layout_of
    (record { ends = law.ends; has = law.has; found = law.found; shared = law.shared }) law.some
    law.few law.home in
    record {
      goes_on = λ w plan events good may.
          goes_on w plan good (laid w.work good.valid good.laid_over) events may;
      over = λ w plan events good may all.
          all_empty w plan good (laid w.work good.valid good.laid_over) events may all;
      rows = λ w plan events good may.
          have_rows w plan good (laid w.work good.valid good.laid_over) events may;
      within = λ w events i k budget may.
          (within w events (opening_core w)
          (λ x y. record { most = omega arith; less = λ e. budget }) may i k).most;
      short = λ w plan events good budget may.
          run_short w plan good (laid w.work good.valid good.laid_over) events may budget;
    }
