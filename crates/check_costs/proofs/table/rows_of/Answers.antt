use Rattle.std.proofs.Common.{◌+◌, ◌++◌, ◌∷◌, [], cond, ltb, ap, subst, sym, ◌∙◌, arith}
use Rattle.std.proofs.lemmas.List.FromFn.{filter_of_map_range_with_len_more}
use Rattle.check_costs.specs.declared.table.FunctionCounts.{FunctionCounts}
use Rattle.check_costs.specs.Text.{row_at, AreUpTo}
use Rattle.check_costs.proofs.table.rows_of.Goals as goal

pub loop-function-preserved : goal.loop-function-preserved
loop-function-preserved c =
    let k = c.loop-function.function in
    let number = ap (λ (r : FunctionCounts). r.function) c.row_at.ensures in record {
      value = c.in_ok-push_row.ensures.items
          ∙ (λ t. c.loop-function.invariant.value t
          ++ cond (ltb 0 (c.row_at.ensures t).counts.words) (c.row_at.ensures t ∷ []) [])
          ∙ sym (filter_of_map_range_with_len_more (λ r. ltb 0 r.counts.words) (row_at c.args.counts.now)
          0 k k (omega arith));
      ascending = subst (λ n. AreUpTo c.push_row.new.rows.items (n + 1)) number
          (c.in_ok-push_row.ensures.ascending
          (subst (AreUpTo c.loop-function.rows.items) (sym number) c.loop-function.invariant.ascending));
    }
