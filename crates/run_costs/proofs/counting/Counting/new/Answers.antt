use Rattle.std.proofs.Common.{length, ap, sym, ◌∙◌}
use Rattle.std.proofs.lemmas.List.{length-map}
use Rattle.check_costs.specs.elf_symbols.Given.{symbol_of}
use Rattle.check_costs.proofs.Runs.{has_runs}
use Rattle.run_trace.specs.node_model.Node.{Work}
use Rattle.run_trace.specs.replay.dsm_core.CoreParts.{work_in}
use Rattle.run_costs.proofs.Counted.{started}
use Rattle.run_costs.proofs.counting.Counting.new.Goals as goal

pub labels_of-requires-clause-ascends : goal.labels_of-requires-clause-ascends
labels_of-requires-clause-ascends c = c.requires.plan.admissible.ascends

pub labels_of-requires-clause-runs : goal.labels_of-requires-clause-runs
labels_of-requires-clause-runs c =
    let work = work_in c.args.work.now in
    has_runs work.program c.args.code.now c.args.plan.now work.image c.requires.code c.requires.plan

pub no_visits-requires : goal.no_visits-requires
no_visits-requires c =
    record { image = ap (λ (w : Work). w.image) (sym c.in_ok-tracer.ensures.work) }

pub returns-clause-start : goal.returns-clause-start
returns-clause-start c =
    let e = c.in_ok-tracer.ensures in
    let v = c.in_ok-no_visits.ensures in
    let functions = sym (length-map c.functions.result.now symbol_of) ∙ ap length c.functions.ensures in
    started c.args.symbols.now (work_in c.args.work.now) c.args.plan.now c.args.code.now _ (record {
      tracer = c.in_ok-tracer.tracer;
      labels = c.in_ok-labels_of.field-0;
      visits = c.in_ok-no_visits.field-0;
      tally = c.in_ok-new.field-0;
    })
    e.start e.work e.plan c.requires.code c.in_ok-labels_of.ensures.value v.visits v.none functions c.in_ok-new.ensures
