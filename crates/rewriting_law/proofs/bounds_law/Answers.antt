use Rattle.dsm_protocol.proofs.Promises.{laid_of}
use Rattle.rewriting_law.proofs.protocol_side.MissCosts.{ends_misses}
use Rattle.rewriting_law.proofs.runs.Follows.{layout_of, frugal, steps_made, ascends}
use Rattle.rewriting_law.proofs.bounds_law.Goals as goal

pub returns : goal.returns
returns c =
    let law = c.layout_law.ensures in
    let laid = layout_of
    (record { ends = law.ends; has = law.has; found = law.found; shared = law.shared }) law.some
    law.few law.home in
    record {
      messages = λ work plan events accepted valid over rewriting may.
          frugal work plan accepted (laid work valid over) rewriting events may;
      costs = λ work core memory list valid.
          ends_misses work (laid_of work.layout valid law.home law.few) core memory list;
      work = λ work plan events i budget accepted valid over rewriting may low is.
          steps_made work plan accepted (laid work valid over) rewriting events may i budget low is;
      polls = λ work plan events i accepted valid over rewriting may low.
          ascends work plan accepted (laid work valid over) rewriting events may i low;
    }
