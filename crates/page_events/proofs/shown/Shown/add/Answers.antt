use Rattle.std.proofs.Common.{sym, ◌∙◌, arith}
use Rattle.page_events.proofs.Adds.{added, first_behind, further_behind}
use Rattle.page_events.proofs.shown.Shown.add.Goals as goal

pub returns-in_ok-push : goal.returns-in_ok-push
returns-in_ok-push c = λ seen same.
    added c.self.inside.events.items c.push.new.self.items c.self.inside.behind seen
    c.args.event (c.self.view_is ∙ same) (omega (arith, c.if-len-lt-MOST.true, c.len.ensures))
    c.in_ok-push.ensures.items

pub returns-then-is_none : goal.returns-then-is_none
returns-then-is_none c = λ seen same. first_behind c.self.inside.events.items c.self.inside.behind seen c.args.event
    (c.self.view_is ∙ same) (omega (arith, c.if-len-lt-MOST.false, c.len.ensures)) c.if-is_none.ensures

pub returns-else-is_none : goal.returns-else-is_none
returns-else-is_none c = λ seen same. sym c.self.view_is
    ∙ further_behind c.self.inside.events.items c.self.inside.behind seen c.args.event
    (c.self.view_is ∙ same) (omega (arith, c.if-len-lt-MOST.false, c.len.ensures)) c.if-is_none.ensures
