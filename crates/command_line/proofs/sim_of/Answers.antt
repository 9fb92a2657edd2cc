use Rattle.std.proofs.Common.{◌∙◌, refl, rules, sym, subst}
use Rattle.command_line.specs.declared.table.CommandWord.TheVariants as word
use Rattle.command_line.specs.declared.table.Setting.TheVariants.{Loss, PerNode}
use Rattle.command_line.specs.Tasks.{AreFew}
use Rattle.command_line.specs.Meaning.{file_name, loss_of, lanes_of}
use Rattle.command_line.specs.Reading.{given_by, SaysMaybe}
use Rattle.command_line.proofs.Rows.{as_command, one_file, placed_file, sim_alone, sim_few}
use Rattle.command_line.proofs.sim_of.Goals as goal

pub returns-in_err-file : goal.returns-in_err-file
returns-in_err-file c =
    rw c.from_residual.ensures (λ d h.
    let r = as_command word.Sim (given_by c.args.matches.now) d h in
    c.in_err-file.ensures r.0.execution.file (one_file r.0.execution.file _ r.1.of_row.places))

pub returns-in_err-nodes : goal.returns-in_err-nodes
returns-in_err-nodes c =
    rw c.from_residual-in_err-nodes.ensures (λ d h.
    let r = as_command word.Sim (given_by c.args.matches.now) d h in
    c.in_err-nodes.ensures r.0.execution.nodes r.1.of_row.options.1.1.1.0)

pub returns-in_err-budget : goal.returns-in_err-budget
returns-in_err-budget c =
    rw c.from_residual-in_err-budget.ensures (λ d h.
    let r = as_command word.Sim (given_by c.args.matches.now) d h in
    c.in_err-budget.ensures r.0.execution.budget r.1.of_row.options.1.1.1.1.0)

pub returns-in_err-code : goal.returns-in_err-code
returns-in_err-code c =
    rw c.from_residual-in_err-code.ensures (λ d h.
    let r = as_command word.Sim (given_by c.args.matches.now) d h in
    c.in_err-code.ensures r.0.execution.code r.1.of_row.options.1.1.1.1.1.0)

pub returns-in_err-verified : goal.returns-in_err-verified
returns-in_err-verified c =
    rw c.from_residual-in_err-verified.ensures (λ d h.
    let r = as_command word.Sim (given_by c.args.matches.now) d h in
    c.in_err-verified.ensures r.0.execution.verified r.1.of_row.options.1.1.1.1.1.1.0)

pub returns-in_err-layout : goal.returns-in_err-layout
returns-in_err-layout c =
    rw c.from_residual-in_err-layout.ensures (λ d h.
    let r = as_command word.Sim (given_by c.args.matches.now) d h in
    c.in_err-layout.ensures r.0.execution.layout r.1.of_row.options.1.1.1.1.1.1.1.0)

pub returns-in_err-brief : goal.returns-in_err-brief
returns-in_err-brief c =
    rw c.from_residual-in_err-brief.ensures (λ d h.
    let r = as_command word.Sim (given_by c.args.matches.now) d h in
    c.in_err-brief.ensures.there r.0.execution.brief r.1.of_row.options.1.1.1.1.1.1.1.1.0)

pub returns-in_err-no_batch : goal.returns-in_err-no_batch
returns-in_err-no_batch c =
    rw c.from_residual-in_err-no_batch.ensures (λ d h.
    let r = as_command word.Sim (given_by c.args.matches.now) d h in
    c.in_err-no_batch.ensures.there r.0.execution.no_batch r.1.of_row.options.1.1.1.1.1.1.1.1.1.0)

pub returns-in_err-order : goal.returns-in_err-order
returns-in_err-order c =
    rw c.from_residual-in_err-order.ensures (λ d h.
    let r = as_command word.Sim (given_by c.args.matches.now) d h in
    c.in_err-order.ensures r.0.order r.1.of_row.options.0)

pub returns-in_err-loss : goal.returns-in_err-loss
returns-in_err-loss c =
    rw c.from_residual-in_err-loss.ensures (λ d h.
    let r = as_command word.Sim (given_by c.args.matches.now) d h in
    c.in_err-loss.ensures r.0.loss r.1.of_row.options.1.0)

pub returns-in_err-lanes : goal.returns-in_err-lanes
returns-in_err-lanes c =
    rw c.from_residual-in_err-lanes.ensures (λ d h.
    let r = as_command word.Sim (given_by c.args.matches.now) d h in
    c.in_err-lanes.ensures r.0.lanes r.1.of_row.options.1.1.0)

pub returns-in_err-machine : goal.returns-in_err-machine
returns-in_err-machine c =
    rw c.from_residual-in_err-machine.ensures (λ d h.
    c.in_err-machine.ensures (sim_few (given_by c.args.matches.now) d c.in_ok-nodes.nodes
    c.in_ok-loss.loss c.in_ok-lanes.lanes c.in_ok-nodes.ensures c.in_ok-loss.ensures
    c.in_ok-lanes.ensures h))

pub returns-then-not-is_alone : goal.returns-then-not-is_alone
returns-then-not-is_alone c = λ d h.
    let alone = sim_alone (given_by c.args.matches.now) d (file_name c.in_ok-verified.verified)
    (file_name c.in_ok-code.code) c.in_ok-no_batch.no_batch c.in_ok-code.ensures
    c.in_ok-verified.ensures c.in_ok-no_batch.ensures.there h in
    let holds = c.is_alone.ensures ∙ alone in
    absurd (cc (holds, c.if-not-is_alone.true))

pub returns : goal.returns
returns c =
    let g = given_by c.args.matches.now in
    let machine = c.in_ok-machine.machine in
    let few = c.in_ok-machine.ensures in
    let loss : SaysMaybe g Loss (loss_of machine) =
    subst (SaysMaybe g Loss) (sym few.1) c.in_ok-loss.ensures in
    let lanes : SaysMaybe g PerNode (lanes_of machine) =
    subst (SaysMaybe g PerNode) (sym few.2) c.in_ok-lanes.ensures in
    let fits : AreFew c.in_ok-nodes.nodes (loss_of machine) (lanes_of machine) =
    subst (λ x. AreFew c.in_ok-nodes.nodes x (lanes_of machine)) (sym few.1)
    (subst (λ x. AreFew c.in_ok-nodes.nodes c.in_ok-loss.loss x) (sym few.2) few.0) in
    record {
      word_is = refl;
      fits = (search rules, fits);
      of_row = record {
        places = placed_file c.in_ok-file.file.now _ c.in_ok-file.ensures;
        options = (
          c.in_ok-order.ensures,
          (
            loss,
            (
              lanes,
              (
                c.in_ok-nodes.ensures,
                (
                  c.in_ok-budget.ensures,
                  (
                    c.in_ok-code.ensures,
                    (
                      c.in_ok-verified.ensures,
                      (c.in_ok-layout.ensures, (c.in_ok-brief.ensures.there, (c.in_ok-no_batch.ensures.there, tt))),
                    ),
                  ),
                ),
              ),
            ),
          ),
        );
      };
    }
