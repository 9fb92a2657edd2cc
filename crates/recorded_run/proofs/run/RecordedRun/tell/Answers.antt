-- Each command.
use Rattle.std.proofs.Common.{◌≡◌, refl, sym, ap, subst, ◌∙◌}
use Rattle.std.specs.Prelude.{IfOk}
use Rattle.std.proofs.lemmas.Result.{IfOk-weaker}
use Rattle.debugged_run.specs.time_machine.Stand.{Stand, state_at}
use Rattle.recorded_run.specs.Shown.{Recorded}
use Rattle.recorded_run.specs.Tells.{TellsAs, unknown_text}
use Rattle.recorded_run.specs.declared.command.Command.TheVariants.{Output, Unknown}
use Rattle.recorded_run.proofs.run.RecordedRun.tell.Goals as goal

pub returns-in-Where : goal.returns-in-Where
returns-in-Where c =
    subst (λ k. IfOk c.tell_where.result (λ told. TellsAs c.args.self.now k told.items c.tell_where.new.self))
    (sym c.in-Where.is) c.tell_where.ensures

pub returns-in-Node : goal.returns-in-Node
returns-in-Node c =
    subst (λ k. IfOk c.tell_node.result (λ told. TellsAs c.args.self.now k told.items c.tell_node.new.self))
    (sym c.in-Node.is) c.tell_node.ensures

pub returns-in-Block : goal.returns-in-Block
returns-in-Block c =
    subst (λ k. IfOk c.tell_block.result (λ told. TellsAs c.args.self.now k told.items c.tell_block.new.self))
    (sym c.in-Block.is) c.tell_block.ensures

pub returns-in-Miss : goal.returns-in-Miss
returns-in-Miss c =
    subst (λ k. IfOk c.go_to_miss.result (λ told. TellsAs c.args.self.now k told.items c.go_to_miss.new.self))
    (sym c.in-Miss.is) c.go_to_miss.ensures

pub returns-in-BackToWrite : goal.returns-in-BackToWrite
returns-in-BackToWrite c =
    subst (λ k. IfOk c.go_back_to_write.result (λ told. TellsAs c.args.self.now k told.items c.go_back_to_write.new.self))
    (sym c.in-BackToWrite.is) c.go_back_to_write.ensures

pub returns-in-Output : goal.returns-in-Output
returns-in-Output c =
    let s = c.args.self.now in
    let here = ap (λ (s : Recorded). s.stand) c.self.view_is in
    subst (λ k. IfOk c.tell.result (λ told. TellsAs s k told.items s)) (sym c.in-Output.is)
    (IfOk-weaker c.tell.result
    (λ told. told.items ≡ (state_at c.self.inside.debugged.run c.self.inside.debugged.position).output)
    (λ told. TellsAs s Output told.items s)
    (λ told is. (is ∙ ap (λ (d : Stand). (state_at d.run d.position).output) here, refl))
    c.tell.ensures)

pub returns-in-Unknown : goal.returns-in-Unknown
returns-in-Unknown c =
    let s = c.args.self.now in
    subst (λ k. IfOk c.unknown_text.result (λ told. TellsAs s k told.items s)) (sym c.in-Unknown.is)
    (IfOk-weaker c.unknown_text.result (λ told. told.items ≡ unknown_text) (λ told. TellsAs s Unknown told.items s)
    (λ told is. (is, refl)) c.unknown_text.ensures)
