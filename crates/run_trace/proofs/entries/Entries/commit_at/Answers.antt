-- The plan of the entry alone says what the whole plan says.
use Rattle.std.proofs.Common.{Some, ap, sym, ◌∙◌}
use Rattle.templates.specs.Commits.{commit_at}
use Rattle.run_trace.proofs.Entering.{commit_one, set_one}
use Rattle.run_trace.proofs.entries.Entries.commit_at.Goals as goal

pub returns-in-Some-entry-clause-kind : goal.returns-in-Some-entry-clause-kind
returns-in-Some-entry-clause-kind c = λ program code.
    let place = c.in-Some.place in
    let plan = c.args.plan.now in
    let e = c.in-Some-entry.entry in
    let own = c.set.ensures.value ∙ set_one c.args.self.now.own e c.requires.entries.own in
    c.commit_at.ensures.value program code ∙ ap (λ l. commit_at program l (Some place)) own
    ∙ commit_one program plan place e (sym c.entry.ensures ∙ c.in-Some-entry.is)
    ∙ ap (commit_at program plan) (sym c.in-Some.is)
