use Rattle.std.proofs.Common.{◌++◌, ◌∙◌, ap, subst}
use Rattle.check_costs.specs.declared.table.Counted.TheVariants.{Steps}
use Rattle.check_costs.specs.Text.{IsTable}
use Rattle.prepared_run.specs.Text.{node_lines}
use Rattle.views.proofs.run_cost.text_of.Goals as goal

pub returns : goal.returns
returns c =
    let table = c.in_ok-text.text.items in
    record {
      table = table;
      is_table = subst (λ cs. IsTable Steps c.args.symbols.now cs table) c.deref.ensures.value c.in_ok-text.ensures;
      text_is = c.in_ok-push_nodes.ensures ∙ ap (λ ns. table ++ node_lines 0 ns) c.deref-2.ensures.value;
    }
