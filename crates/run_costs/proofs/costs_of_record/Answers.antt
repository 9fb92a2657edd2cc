-- Silent words, and the event behind them.
use Rattle.std.proofs.Common.{◌≡◌, ◌++◌, [], Err, ap, subst, sym, ◌∙◌}
use Rattle.std.proofs.lemmas.Result.{err_from_is_err_and}
use Rattle.run_trace.specs.replay.dsm_core.CoreParts.{work_in}
use Rattle.run_trace.specs.replay.declared.refused.ReplayRefused.TheVariants.{Broken}
use Rattle.run_costs.specs.Counting.{HasGoneOn}
use Rattle.run_costs.proofs.Whole.{on_way, all_counted, refused_by}
use Rattle.run_costs.proofs.costs_of_record.Goals as goal

pub loop-counting-init : goal.loop-counting-init
loop-counting-init c = record {
  seen = [];
  counted = c.in_ok-counting.ensures.start;
  work_is = c.in_ok-counting.ensures.work;
  plan_is = c.in_ok-counting.ensures.plan;
  rec_is = c.in_ok-counting.ensures.rec;
}

pub count_silent-requires : goal.count_silent-requires
count_silent-requires c =
    let way = c.loop-counting.invariant in
    record { counted = (c.args.symbols.now, way.seen, way.counted) }

pub next-requires : goal.next-requires
next-requires c =
    let way = c.loop-counting.invariant in
    let on = c.in_ok-count_silent.ensures.counted c.args.symbols.now way.seen way.counted in
    record { counted = (c.args.symbols.now, way.seen ++ on.0, on.1) }

pub costs-requires : goal.costs-requires
costs-requires c =
    let symbols = c.args.symbols.now in
    let before = c.loop-counting.invariant in
    let silent = c.in_ok-count_silent.ensures.counted symbols before.seen before.counted in
    let seen = before.seen ++ silent.0 in
    let on = subst (HasGoneOn symbols c.next.new.self seen) c.if-not-branch.true
    (c.in_ok-next.ensures.next symbols seen silent.1) in
    record { counted = (symbols, seen, on.counted) }

pub loop-counting-preserved : goal.loop-counting-preserved
loop-counting-preserved c =
    let symbols = c.args.symbols.now in
    let work = work_in c.args.work.now in
    let before = c.loop-counting.invariant in
    let silent = c.in_ok-count_silent.ensures in
    let e = c.in_ok-next.ensures in
    let way = on_way symbols work c.args.plan.now c.args.rec.now c.loop-counting.counting c.count_silent.new.self
    before silent.same (silent.counted symbols before.seen before.counted) in
    on_way symbols work c.args.plan.now c.args.rec.now c.count_silent.new.self c.next.new.self way e.same
    (subst (HasGoneOn symbols c.next.new.self way.seen) c.if-not-branch.false
    (e.next symbols way.seen way.counted))

pub returns-then-not-branch-clause-costs : goal.returns-then-not-branch-clause-costs
returns-then-not-branch-clause-costs c =
    let symbols = c.args.symbols.now in
    let work = work_in c.args.work.now in
    let before = c.loop-counting.invariant in
    let silent = c.in_ok-count_silent.ensures in
    let e = c.in_ok-next.ensures in
    let d = c.next.new.self in
    let way = on_way symbols work c.args.plan.now c.args.rec.now c.loop-counting.counting c.count_silent.new.self
    before silent.same (silent.counted symbols before.seen before.counted) in
    let on = subst (HasGoneOn symbols d way.seen) c.if-not-branch.true (e.next symbols way.seen way.counted) in
    all_counted symbols work c.args.plan.now c.args.rec.now c.count_silent.new.self d
    _ _ way e.same on c.tally_law.ensures.sums (c.in_ok-costs.ensures.counts symbols way.seen on.counted)
    (c.in_ok-costs.ensures.nodes symbols way.seen on.counted)

pub returns-in_err-next-clause-refused : goal.returns-in_err-next-clause-refused
returns-in_err-next-clause-refused c = λ rule node entry err.
    let before = c.loop-counting.invariant in
    let same = c.in_ok-count_silent.ensures.same in
    let p = err_from_is_err_and c.from_residual-in_err-next.result c.from_residual-in_err-next.ensures.1 in
    let is : p.0 ≡ Broken rule node entry = (let e = sym p.1 ∙ err in cc) in
    refused_by c.count_silent.new.self (work_in c.args.work.now) c.args.rec.now rule node entry
    (same.work ∙ before.work_is) (same.rec_is ∙ before.rec_is)
    (c.in_err-next.ensures.refused rule node entry (ap Err (sym p.2 ∙ is)))
