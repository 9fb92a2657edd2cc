-- The next event, or the end.
use Rattle.run_costs.proofs.Counted.{running_of}
use Rattle.run_costs.proofs.counting.Counting.next.Goals as goal

pub next-requires : goal.next-requires
next-requires c =
    let h = c.requires.counted in
    record { running = running_of c.args.self.now.tracer h.1 h.2.traced }

pub finish-requires-clause-running : goal.finish-requires-clause-running
finish-requires-clause-running c =
    let h = c.requires.counted in
    running_of c.args.self.now.tracer h.1 h.2.traced

pub returns-in_default-clause-next : goal.returns-in_default-clause-next
returns-in_default-clause-next c = λ symbols seen h. record {
  counted = h;
  trace = record {
    told = h.traced.before;
    whole = c.in_ok-finish.ensures.whole h.traced.before h.traced.made;
    trace_is = h.traced.seen_is;
  };
}

pub returns-clause-next : goal.returns-clause-next
returns-clause-next c = λ symbols seen h. c.in_ok-make.ensures.counted symbols seen h
