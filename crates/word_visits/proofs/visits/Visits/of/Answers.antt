-- The micro-ops of the image, and strides of these.
use Rattle.std.proofs.Common.{List, subst, sym}
use Rattle.node_words.specs.micro_op.declared.micro_op.MicroOp.{MicroOp}
use Rattle.node_words.specs.jump_map.Micro.{AreMicrosOf}
use Rattle.node_words.specs.jump_map.Strides.{HasStrides}
use Rattle.word_visits.proofs.TableLemmas.{slowed_strides}
use Rattle.word_visits.proofs.visits.Visits.of.Goals as goal

pub returns-clause-table : goal.returns-clause-table
returns-clause-table c =
    let own = sym (c.in_ok-to_vec.ensures.items_if_clones_equal (λ x y is. is)) in
    let kinds = c.in_ok-short_strides.field-0.items in
    record {
      micros = subst (AreMicrosOf c.args.image.now) own c.tables.ensures.micros;
      strides = subst (λ (ms : List MicroOp). HasStrides ms kinds) own
          (slowed_strides c.tables.result.0.now c.tables.result.1.now kinds c.in_ok-short_strides.ensures.slowed
          c.tables.ensures.strides);
    }
