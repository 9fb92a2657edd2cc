use Rattle.std.proofs.Common.{ap, ◌∙◌, sym}
use Rattle.run_order.specs.node_model.Node.{standing_of}
use Rattle.run_order.specs.OwnRun.{run_of}
use Rattle.replay.proofs.Whole.{one_told, not_broken, not_unfinished, again}
use Rattle.replay.proofs.law.replay_law.Goals as goal

pub returns-clause-one : goal.returns-clause-one
returns-clause-one c = λ r told other a b. one_told r told other a b

pub returns-clause-either : goal.returns-clause-either
returns-clause-either c = λ work r told rule node entry h b.
    not_broken work r told rule node entry h b

pub returns-clause-ended : goal.returns-clause-ended
returns-clause-ended c = λ work r told rule node entry h u.
    not_unfinished work r told rule node entry h u

pub returns-clause-again : goal.returns-clause-again
returns-clause-again c = λ work core own r runs stands over has.
    again work core own r stands over has
    (λ i bi. c.progress_law.ensures.over work runs.plan (run_of own) i i runs.accepted runs.valid
    runs.laid_over runs.rewriting stands.is_run
    (λ k bk. ap (λ z. standing_of work z) (sym (stands.ends.nodes k bk)) ∙ over k bk) bi bi)
    (λ i bi. c.journal_law.ensures.takes work (run_of own) i stands.is_run bi)
