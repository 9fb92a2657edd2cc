-- Words of a node alone.
use Rattle.std.proofs.Common.{◌<◌, ◌∙◌, ap, sym, subst}
use Rattle.dsm_core.specs.node_model.Node.{Work}
use Rattle.dsm_core.specs.CoreParts.{work_of, core_of}
use Rattle.shared_sim.specs.Turns.{LeadsOn}
use Rattle.shared_sim.proofs.Rows.{tells_executed, shape_kept}
use Rattle.shared_sim.proofs.Turns.{alone_may, leads_alone, few_kept}
use Rattle.shared_sim.proofs.by_order.OrderedRun.turns_on.Goals as goal

pub run_until_send-requires : goal.run_until_send-requires
run_until_send-requires c =
    let r = c.args.self.now in
    record { enabled = alone_may (work_of r.core) (core_of r.core) c.args.node c.requires.alone }

pub list_after-requires : goal.list_after-requires
list_after-requires c =
    let r = c.args.self.now in
    let q = c.run_until_send.new.self in
    let ready = c.requires.ready in
    let e = c.in_ok-words.ensures in
    let may = alone_may (work_of r.core) (core_of r.core) c.args.node c.requires.alone in
    record {
      few = few_kept r.core q e.work ready.few;
      node = subst (λ (w : Work). c.args.node < w.layout.nodes) (sym e.work) may.0;
      shape = shape_kept r.core q r.listing e.work ready.lists.shape;
      others = λ i below apart none.
          let here : i < r.core.layout.nodes = subst (λ (w : Work). i < w.layout.nodes) e.work below in
          tells_executed r.core q r.listing c.args.node c.in_ok-words.words i e.work here may.0 e.ran apart none
          (ready.lists.tells i here);
    }

pub returns-clause-ready : goal.returns-clause-ready
returns-clause-ready c =
    let r = c.args.self.now in
    let q = c.run_until_send.new.self in
    let e = c.in_ok-words.ensures in
    record {
      lists = c.list_after.ensures.lists;
      few = few_kept r.core q e.work c.requires.ready.few;
      undo_logs = c.requires.ready.undo_logs ∙ sym (ap (λ (w : Work). w.layout.nodes) e.work);
    }

pub returns-clause-leads : goal.returns-clause-leads
returns-clause-leads c =
    let r = c.args.self.now in
    let d = core_of c.run_until_send.new.self in
    subst (λ z. LeadsOn (work_of r.core) 1 r.order (core_of r.core) z d) (sym c.skip.ensures.goes_on)
    (leads_alone (work_of r.core) c.args.node c.in_ok-words.words r.order (core_of r.core) d c.in_ok-words.ensures.ran c.requires.alone c.requires.mail)
