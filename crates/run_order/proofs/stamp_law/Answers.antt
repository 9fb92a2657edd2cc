use Rattle.node_model.specs.Core.{opening_core, after}
use Rattle.run_order.specs.OwnRun.{events_of, stamp_in, maker}
use Rattle.run_order.proofs.Unique.{one_sorted}
use Rattle.run_order.proofs.Stamps.{opening_up, all_up}
use Rattle.run_order.proofs.Theorem.{own_run, adds, bytes, merged}
use Rattle.run_order.proofs.Apart.{apart}
use Rattle.run_order.proofs.stamp_law.Goals as goal

pub returns-clause-own_run : goal.returns-clause-own_run
returns-clause-own_run c = λ work run may. own_run work run may

pub returns-clause-one : goal.returns-clause-one
returns-clause-one c = λ work core events others a b.
    one_sorted stamp_in maker work.layout.nodes (λ i. events_of i (core.nodes i)) events others
    a.are_events b.are_events

pub returns-clause-adds : goal.returns-clause-adds
returns-clause-adds c = λ work run more may. adds work run more may

pub returns-clause-apart : goal.returns-clause-apart
returns-clause-apart c = λ work core other events history stands did.
    apart work core other events history stands did

pub returns-clause-few : goal.returns-clause-few
returns-clause-few c = λ work run i may b. (opening_up work run may).nodes i b

pub returns-clause-wires : goal.returns-clause-wires
returns-clause-wires c = λ work run j k may bj bk.
    all_up _ ((after work (opening_core work) run).list j k)
    ((opening_up work run may).lists j k bj bk)

pub returns-clause-bytes : goal.returns-clause-bytes
returns-clause-bytes c = λ work core events stands. bytes work core events stands

pub returns-clause-merged : goal.returns-clause-merged
returns-clause-merged c = λ work core events bytes stands merge.
    merged work core events bytes stands merge
