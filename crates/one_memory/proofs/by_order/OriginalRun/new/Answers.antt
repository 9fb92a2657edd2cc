use Rattle.std.proofs.Common.{◌≡◌, length, ap, sym, ◌∙◌, refl, arith, subst}
use Rattle.std.proofs.lemmas.List.{length-replicate}
use Rattle.std.proofs.lemmas.Iterator.{items_from_collect, YieldsList-from_range}
use Rattle.std.specs.List.{range_with_len}
use Rattle.std.specs.Prelude.{IfOk, slice_index}
use Rattle.std.specs.Vec.{vec_items}
use Rattle.one_memory.specs.Machine.{state_of, original_of}
use Rattle.one_memory.proofs.OrderLemmas.{all_live, no_steps}
use Rattle.one_memory.proofs.by_order.OriginalRun.new.Goals as goal

pub returns-clause-running : goal.returns-clause-running
returns-clause-running c =
    let machine = c.in_ok-new.field-0 in
    let n = c.args.nodes in
    let nodes = c.in_ok-new.ensures.nodes in
    let zeros = c.in_ok-vec.ensures.items_if_clones_equal (λ y is. is) in
    let some = c.number.ensures.range.0 in
    let few = c.number-2.ensures.range.1 in
    let count = c.number-2.ensures.value in
    let count3 = c.as_u8.ensures.value in
    let all : c.in_ok-collect.field-0.items ≡ range_with_len 0 c.as_u8.result = subst (λ r. IfOk r (λ w. vec_items w ≡ range_with_len 0 c.as_u8.result)) c.in_ok-collect.was
    (items_from_collect c.collect.result c.collect.ensures.ran (YieldsList-from_range 0 c.as_u8.result c.as_u8.result refl (omega arith))) in
    record {
      few = omega (arith, few, count);
      budget = c.number.ensures.range.1;
      nodes = nodes;
      steps = ap length zeros ∙ length-replicate c.number-2.result 0 ∙ count;
      live = all ∙ ap (range_with_len 0) (count3 ∙ sym nodes)
          ∙ all_live (original_of machine) c.number.result (slice_index c.in_ok-vec.field-0.items) (state_of machine) some (no_steps c.in_ok-vec.field-0.items c.number-2.result zeros) c.in_ok-new.ensures.opening;
    }

pub returns-clause-program : goal.returns-clause-program
returns-clause-program c = c.in_ok-new.ensures.program
