use Rattle.std.proofs.Common.{rules, ap, subst, ◌<◌, length, arith, ◌∙◌}
use Rattle.std.proofs.lemmas.List.Sorted.{answers_always}
use Rattle.flow_graph.specs.Edges.{number_at}
use Rattle.flow_graph.proofs.WordLemmas.{few, number_found, number_missed}
use Rattle.flow_graph.proofs.graph.Graph.number_at.Goals as goal

pub returns-in-Ok : goal.returns-in-Ok
returns-in-Ok c =
    let facts = c.in-Ok.ensures in
    record {
      value = number_found c.self.inside.code c.words.result.now c.in-Ok.k c.args.address c.self.invariant c.words.ensures.value facts.bound
          (facts.position (λ w. w.address) (answers_always _ _ _ (λ f a r g called. search rules)))
          ∙ ap (λ ws. number_at ws c.args.address) c.self.view_is;
      within = let lt = subst (λ ws. c.in-Ok.k < length ws) c.words.ensures.value facts.bound in subst (λ ws. c.in-Ok.k < length ws) c.self.view_is lt;
    }

pub overflow_cast-result : goal.overflow_cast-result
overflow_cast-result c =
    let lt : c.in-Ok.k < length c.self.inside.code = subst (λ ws. c.in-Ok.k < length ws) c.words.ensures.value c.in-Ok.ensures.bound in
    let all = few c.self.inside.code c.self.invariant in omega (arith, lt, all)

pub returns-in-Err : goal.returns-in-Err
returns-in-Err c =
    let facts = c.in-Err.ensures in
    record {
      value = number_missed c.self.inside.code c.words.result.now c.in-Err.field-0 c.args.address c.self.invariant c.words.ensures.value facts.bound
          (facts.position (λ w. w.address) (answers_always _ _ _ (λ f a r g called. search rules)))
          ∙ ap (λ ws. number_at ws c.args.address) c.self.view_is;
      within = tt;
    }
