-- First messages, and then words.
use Rattle.std.proofs.Common.{false, true, refl, sym, subst}
use Rattle.run_order.specs.node_model.Core.{Core, Exec, May}
use Rattle.dsm_core.specs.CoreParts.{work_of, core_of}
use Rattle.dsm_core.specs.CoreSteps.{HasGone, TakesNone, one_if}
use Rattle.dsm_core.proofs.Rounds.{gone_then, gone_still, gone_flag, gone_there, goes_there}
use Rattle.dsm_core.proofs.cores.Core.turn.Goals as goal

pub returns-in_err-execute_all-clause-leads : goal.returns-in_err-execute_all-clause-leads
returns-in_err-execute_all-clause-leads c =
    let p = c.args.self.now in
    let q = c.take_all.new.self in
    goes_there (work_of q) (work_of p) (core_of p) (core_of q) (core_of c.execute_all.new.self)
    c.take_all.ensures.work c.take_all.ensures.leads c.execute_all.ensures.leads

pub returns-then-branch-clause-leads : goal.returns-then-branch-clause-leads
returns-then-branch-clause-leads c =
    let p = c.args.self.now in
    let q = c.take_all.new.self in
    goes_there (work_of q) (work_of p) (core_of p) (core_of q) (core_of c.execute_all.new.self)
    c.take_all.ensures.work c.take_all.ensures.leads c.execute_all.ensures.leads

pub returns-then-branch-clause-gone : goal.returns-then-branch-clause-gone
returns-then-branch-clause-gone c =
    let p = c.args.self.now in
    let q = c.take_all.new.self in
    let r = c.execute_all.new.self in
    let ran = subst (λ b. HasGone (work_of q) (one_if b) (core_of q) (core_of r)) c.if-branch.true
    c.in_ok-execute_all.ensures.gone in
    gone_then (work_of p) c.in_ok-taken.taken (core_of p) (core_of q) (core_of r)
    c.in_ok-taken.ensures.gone
    (gone_there (work_of q) (work_of p) 1 (core_of q) (core_of r) c.take_all.ensures.work ran)

pub returns-clause-leads : goal.returns-clause-leads
returns-clause-leads c =
    let p = c.args.self.now in
    let q = c.take_all.new.self in
    goes_there (work_of q) (work_of p) (core_of p) (core_of q) (core_of c.execute_all.new.self)
    c.take_all.ensures.work c.take_all.ensures.leads c.execute_all.ensures.leads

pub returns-clause-gone : goal.returns-clause-gone
returns-clause-gone c =
    let p = c.args.self.now in
    let q = c.take_all.new.self in
    let r = c.execute_all.new.self in
    let ran = subst (λ b. HasGone (work_of q) (one_if b) (core_of q) (core_of r)) c.if-branch.false
    c.in_ok-execute_all.ensures.gone in
    gone_flag (work_of p) c.in_ok-taken.taken (core_of p) (core_of r)
    (gone_still (work_of p) c.in_ok-taken.taken (core_of p) (core_of q) (core_of r)
    c.in_ok-taken.ensures.gone
    (gone_there (work_of q) (work_of p) 0 (core_of q) (core_of r) c.take_all.ensures.work ran))

pub returns-clause-still : goal.returns-clause-still
returns-clause-still c = λ none.
    let p = c.args.self.now in
    let q = c.take_all.new.self in
    let r = c.execute_all.new.self in
    let ran = subst (λ b. HasGone (work_of q) (one_if b) (core_of q) (core_of r)) c.if-branch.false
    c.in_ok-execute_all.ensures.gone in
    record {
      word = λ may. c.in_ok-execute_all.ensures.still c.if-branch.false
          (subst (λ w. May w (core_of r) (Exec c.args.node)) (sym c.take_all.ensures.work) may);
      takes = subst (λ (z : Core). TakesNone (work_of p) c.args.node z) (sym (ran.same refl))
          c.in_ok-taken.ensures.none;
    }
