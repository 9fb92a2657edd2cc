-- The words that the nodes execute are those that the order picks.
use Rattle.std.proofs.Common.{◌≤◌, ap, sym, subst, ◌∙◌, slice_index_or, arith}
use Rattle.random_order.specs.Orders.{how_often}
use Rattle.dsm_core.specs.node_model.Node.{Work}
use Rattle.dsm_core.specs.node_model.Core.{Core}
use Rattle.dsm_core.specs.CoreParts.{work_of, core_of}
use Rattle.shared_sim.specs.Turns.{LeadsOn}
use Rattle.shared_sim.proofs.Places.{calm_few}
use Rattle.shared_sim.proofs.Turns.{leads_none, leads_any}
use Rattle.shared_sim.proofs.Windows.{window_leads, lists_window, lists_same, calm_same, choices_window}
use Rattle.shared_sim.proofs.by_order.OrderedRun.run_turns.Goals as goal

pub tally-tally-requires-clause-few : goal.tally-tally-requires-clause-few
tally-tally-requires-clause-few c =
    let r = c.args.self.now in
    let few = calm_few (work_of r.core) (core_of r.core) 0 r.core.layout.nodes (omega arith) c.requires.calm in
    omega (arith, few, c.requires.ready.lists.count, c.requires.ready.few)

pub returns-in_err-run_each_undoable-clause-ready : goal.returns-in_err-run_each_undoable-clause-ready
returns-in_err-run_each_undoable-clause-ready c =
    let r = c.args.self.now in
    let e = c.in_err-run_each_undoable.ensures in
    let nodes = ap (λ (w : Work). w.layout.nodes) e.work in
    record {
      lists = lists_same r.core c.run_each_undoable.new.self r.listing e.work e.kept c.requires.ready.lists;
      few = subst (λ n. n ≤ 16) (sym nodes) c.requires.ready.few;
      undo_logs = e.undo_logs ∙ c.requires.ready.undo_logs ∙ sym nodes;
    }

pub returns-in_err-run_each_undoable-clause-on : goal.returns-in_err-run_each_undoable-clause-on
returns-in_err-run_each_undoable-clause-on c =
    let r = c.args.self.now in
    subst (λ (z : Core). LeadsOn (work_of r.core) 0 r.order (core_of r.core) r.order z)
    (sym c.in_err-run_each_undoable.ensures.kept) (leads_none (work_of r.core) r.order (core_of r.core))

pub returns-in_err-run_each_undoable-clause-calm : goal.returns-in_err-run_each_undoable-clause-calm
returns-in_err-run_each_undoable-clause-calm c =
    let r = c.args.self.now in
    let e = c.in_err-run_each_undoable.ensures in
    calm_same r.core c.run_each_undoable.new.self e.work (λ j k below low. ap (λ (z : Core). z.list j k) e.kept) c.requires.calm

pub returns-clause-calm : goal.returns-clause-calm
returns-clause-calm c =
    let r = c.args.self.now in
    let e = c.in_ok-run_each_undoable.ensures in
    calm_same r.core c.run_each_undoable.new.self e.work e.passed.lists c.requires.calm

pub returns-clause-ready : goal.returns-clause-ready
returns-clause-ready c =
    let r = c.args.self.now in
    let e = c.in_ok-run_each_undoable.ensures in
    let nodes = ap (λ (w : Work). w.layout.nodes) e.work in
    record {
      lists = lists_window r.core c.run_each_undoable.new.self r.listing (λ i. slice_index_or c.words-words.result i 0)
          e.work e.passed c.requires.calm c.words-words.ensures.may c.requires.ready.lists;
      few = subst (λ n. n ≤ 16) (sym nodes) c.requires.ready.few;
      undo_logs = e.undo_logs ∙ c.requires.ready.undo_logs ∙ sym nodes;
    }

pub returns-clause-some : goal.returns-clause-some
returns-clause-some c =
    let r = c.args.self.now in
    let e = c.in_ok-run_each_undoable.ensures in
    let lists = lists_window r.core c.run_each_undoable.new.self r.listing (λ i. slice_index_or c.words-words.result i 0)
    e.work e.passed c.requires.calm c.words-words.ensures.may c.requires.ready.lists in
    subst (λ n. 1 ≤ n) (sym (choices_window r.core c.run_each_undoable.new.self r.listing c.requires.ready.lists lists)) c.requires.some

pub returns-clause-leads : goal.returns-clause-leads
returns-clause-leads c =
    let r = c.args.self.now in
    let d = core_of c.run_each_undoable.new.self in
    let turns = c.args.turns in
    subst (λ z. LeadsOn (work_of r.core) turns r.order (core_of r.core) z d) (sym c.skip.ensures.goes_on)
    (window_leads (work_of r.core) turns r.order (λ i. slice_index_or c.words-words.result i 0) (core_of r.core) d
    c.requires.calm c.requires.some
    (c.words-words.ensures.words turns r.order (λ place low. c.tally-tally.ensures.often place low
    ∙ ap (λ n. how_often place n turns r.order) c.requires.ready.lists.count))
    c.in_ok-run_each_undoable.ensures.passed)

pub returns-clause-on : goal.returns-clause-on
returns-clause-on c =
    let r = c.args.self.now in
    let d = core_of c.run_each_undoable.new.self in
    let turns = c.args.turns in
    subst (λ z. LeadsOn (work_of r.core) 0 r.order (core_of r.core) z d) (sym c.skip.ensures.goes_on)
    (leads_any (window_leads (work_of r.core) turns r.order (λ i. slice_index_or c.words-words.result i 0) (core_of r.core) d
    c.requires.calm c.requires.some
    (c.words-words.ensures.words turns r.order (λ place low. c.tally-tally.ensures.often place low
    ∙ ap (λ n. how_often place n turns r.order) c.requires.ready.lists.count))
    c.in_ok-run_each_undoable.ensures.passed))
