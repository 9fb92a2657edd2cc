use Rattle.std.proofs.Common.{rules, ap, ◌∙◌}
use Rattle.std.proofs.lemmas.List.Sorted.{answers_always}
use Rattle.templates.specs.Code.{code_of}
use Rattle.templates.proofs.CodeLemmas.{at_found, at_none}
use Rattle.templates.proofs.code.Code.at.Goals as goal

pub returns-in-Ok : goal.returns-in-Ok
returns-in-Ok c =
    let facts = c.in-Ok.ensures in
    record {
      value = at_found c.self.inside.words.items _ c.in-Ok.k c.args.address c.index.result.now c.self.invariant c.deref.ensures.value facts.bound
          (facts.position (λ w. w.address) (answers_always _ _ _ (λ f a r g called. search rules))) c.index.ensures
          ∙ ap (λ ws. code_of ws c.args.address) c.self.view_is;
    }

pub returns-in-Err : goal.returns-in-Err
returns-in-Err c =
    let facts = c.in-Err.ensures in
    record {
      value = at_none c.self.inside.words.items _ c.in-Err.field-0 c.args.address c.self.invariant c.deref.ensures.value facts.bound
          (facts.position (λ w. w.address) (answers_always _ _ _ (λ f a r g called. search rules)))
          ∙ ap (λ ws. code_of ws c.args.address) c.self.view_is;
    }
