-- A word makes a step where it commits one; taking a message makes none.
use Rattle.std.proofs.Common.{◌≡◌, ◌<◌, Bool, cond, [], ◌∷◌, Option, sym, ap, ◌∙◌, subst, add-zero}
use Rattle.dsm_core.specs.rewriting_law.CoreRun.{commits}
use Rattle.dsm_core.specs.node_model.Node.{Work}
use Rattle.dsm_core.specs.node_model.Turns.{word_turn}
use Rattle.dsm_core.specs.node_model.Core.{AreAlike, Event, Exec, Take, event_step}
use Rattle.dsm_core.specs.run_order.OwnRun.{node_of}
use Rattle.dsm_core.specs.CoreParts.{work_of, core_of, event_of}
use Rattle.dsm_core.specs.Seen.{byte_at}
use Rattle.run_trace.specs.declared.committing.CommitSight.{CommitSight}
use Rattle.run_trace.specs.Committing.{IsCommitSight}
use Rattle.run_trace.specs.Steps.{steps_made}
use Rattle.run_trace.proofs.StepCounts.{steps_more}
use Rattle.timed_sim.specs.Counted.{IsSightAt}
use Rattle.timed_sim.proofs.Numbered.{hit}
use Rattle.timed_sim.proofs.counting.steps_of_event.Goals as goal

pub returns-in-Some : goal.returns-in-Some
returns-in-Some c = λ plan before sight printed alike.
    let i = c.in-Exec.node in
    let core = c.args.core.now in
    let work = work_of core in
    let n = before.nodes i in
    let is : event_of c.args.event ≡ Exec i = ap event_of c.in-Exec.is in
    let low = subst (λ (e : Event). node_of e < core.layout.nodes) is c.requires.node in
    let seen : IsCommitSight work plan n c.in-Some.sight =
    subst (λ (o : Option CommitSight). IsSightAt work plan before (Exec i) o) c.in-Some.is
    (subst (λ (e : Event). IsSightAt work plan before e c.args.sight) is sight) in
    let byte = printed ∙ ap (byte_at work before) is in
    let like = subst (λ (e : Event). AreAlike core.layout.nodes (core_of core) (event_step work before e))
    is alike in
    let behind = c.node.ensures.value ∙ like.nodes i low ∙ hit before.nodes i (word_turn work n).node in
    let same = c.node.ensures.work in
    let does = c.has_committed.ensures plan n
    (subst (λ (w : Work). IsCommitSight w plan n c.in-Some.sight) (sym same) seen)
    (byte ∙ ap (λ (w : Work). (word_turn w n).printed) (sym same))
    (behind ∙ ap (λ (w : Work). (word_turn w n).node) (sym same))
    ∙ ap (λ (w : Work). commits w plan n) same in
    c.steps_of_word.ensures ∙ ap (λ (b : Bool). cond b 1 0) does
    ∙ sym (steps_more work plan before (Exec i) [] ∙ add-zero _)
    ∙ ap (λ (e : Event). steps_made work plan before (e ∷ [])) (sym is)

pub returns-in-Take : goal.returns-in-Take
returns-in-Take c = λ plan before sight printed alike.
    let work = work_of c.args.core.now in
    let i = c.in-Take.node in
    let j = c.in-Take.from in
    let is : event_of c.args.event ≡ Take i j = ap event_of c.in-Take.is in
    sym (steps_more work plan before (Take i j) [])
    ∙ ap (λ (e : Event). steps_made work plan before (e ∷ [])) (sym is)
