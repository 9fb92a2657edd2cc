-- A silent word of a node changes what that node may do, and nothing where no message is on its way.
use Rattle.std.proofs.Common.{◌<◌, ◌∙◌, ap, sym, subst}
use Rattle.dsm_core.specs.node_model.Node.{Work}
use Rattle.shared_sim.proofs.Rows.{tells_passed, shape_kept}
use Rattle.shared_sim.proofs.Turns.{lists_passed, few_kept}
use Rattle.shared_sim.proofs.Windows.{lists_same}
use Rattle.shared_sim.proofs.by_order.OrderedRun.exec_silent_word.Goals as goal

pub returns-then-not-exec_silent-clause-ready : goal.returns-then-not-exec_silent-clause-ready
returns-then-not-exec_silent-clause-ready c =
    let r = c.args.self.now in
    let q = c.exec_silent.new.self in
    let ready = c.requires.ready in
    record {
      lists = lists_same r.core q r.listing c.exec_silent.ensures.work (c.exec_silent.ensures.kept c.if-not-exec_silent.true) ready.lists;
      few = few_kept r.core q c.exec_silent.ensures.work ready.few;
      undo_logs = ready.undo_logs ∙ sym (ap (λ (w : Work). w.layout.nodes) c.exec_silent.ensures.work);
    }

pub list_again-requires : goal.list_again-requires
list_again-requires c =
    let r = c.args.self.now in
    let q = c.exec_silent.new.self in
    let ready = c.requires.ready in
    let passed = c.exec_silent.ensures.passed c.if-not-exec_silent.false in
    record {
      few = few_kept r.core q c.exec_silent.ensures.work ready.few;
      node = subst (λ (w : Work). c.args.node < w.layout.nodes) (sym c.exec_silent.ensures.work) c.requires.may.0;
      shape = shape_kept r.core q r.listing c.exec_silent.ensures.work ready.lists.shape;
      others = λ i below apart.
          let here : i < r.core.layout.nodes = subst (λ (w : Work). i < w.layout.nodes) c.exec_silent.ensures.work below in
          tells_passed r.core q r.listing c.args.node i c.exec_silent.ensures.work here passed apart (ready.lists.tells i here);
    }

pub returns-then-self-node-clause-ready : goal.returns-then-self-node-clause-ready
returns-then-self-node-clause-ready c =
    let r = c.args.self.now in
    let q = c.exec_silent.new.self in
    let ready = c.requires.ready in
    let passed = c.exec_silent.ensures.passed c.if-not-exec_silent.false in
    let none = (ready.lists.tells c.args.node c.requires.may.0).mail c.if-self-node.true in
    record {
      lists = lists_passed r.core q r.listing c.args.node c.exec_silent.ensures.work passed c.requires.may none ready.lists;
      few = few_kept r.core q c.exec_silent.ensures.work ready.few;
      undo_logs = ready.undo_logs ∙ sym (ap (λ (w : Work). w.layout.nodes) c.exec_silent.ensures.work);
    }

pub returns-clause-ready : goal.returns-clause-ready
returns-clause-ready c =
    let r = c.args.self.now in
    let q = c.exec_silent.new.self in
    record {
      lists = c.list_again.ensures.lists;
      few = few_kept r.core q c.exec_silent.ensures.work c.requires.ready.few;
      undo_logs = c.requires.ready.undo_logs ∙ sym (ap (λ (w : Work). w.layout.nodes) c.exec_silent.ensures.work);
    }
