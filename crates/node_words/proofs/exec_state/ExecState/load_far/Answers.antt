use Rattle.std.proofs.Common.{◌≡◌, true, ap, sym, subst, ◌∙◌, ℕ}
use Rattle.rv32_decode.specs.Widths.{is_aligned, width_of}
use Rattle.rv32_decode.specs.declared.Width.{Width}
use Rattle.node_memory.specs.rv32_step.declared.Demand.TheVariants.{Loads}
use Rattle.node_words.specs.GoingOn.{DoesNext}
use Rattle.node_words.proofs.StrideLemmas.{loads}
use Rattle.node_words.proofs.UndoLogLemmas.{undoable_loaded}
use Rattle.node_words.proofs.exec_state.ExecState.load_far.Goals as goal

pub returns-then-is_aligned-clause-does : goal.returns-then-is_aligned-clause-does
returns-then-is_aligned-clause-does c is =
    let b = c.args.self.now in
    let b' = c.load_apart.new.self in
    let r = c.args.op.now.rd in
    let a = c.sum_by-address.result in
    let kind = c.args.kind in
    let aligned : is_aligned (width_of kind) a ≡ true =
    sym (c.if-is_aligned.ensures.value ∙ ap (λ (w : Width). is_aligned w a) c.width.ensures.value) in
    subst (λ (x : ℕ). DoesNext b (Loads kind r x) b') c.sum_by-address.ensures
    (loads b b' kind r a aligned c.load_apart.ensures.leaves)

pub returns-then-is_aligned-clause-undoable : goal.returns-then-is_aligned-clause-undoable
returns-then-is_aligned-clause-undoable c =
    undoable_loaded c.args.self.now c.load_apart.new.self c.args.kind c.args.op.now.rd c.sum_by-address.result 0
    c.load_apart.ensures.log (c.load_apart.ensures.leaves 0)
