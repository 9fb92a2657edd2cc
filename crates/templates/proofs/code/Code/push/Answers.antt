use Rattle.templates.proofs.CodeLemmas.{ascends_more}
use Rattle.templates.proofs.code.Code.push.Goals as goal

pub invariant_of-self-2 : goal.invariant_of-self-2
invariant_of-self-2 c =
    let q = c.requires in
    rw c.in_ok-push.ensures.items (ascends_more 0 c.self.inside.words.items c.args.address c.args.instruction c.self.invariant (rw c.self.view_is q.behind) q.aligned q.low)
