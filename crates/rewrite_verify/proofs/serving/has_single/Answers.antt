use Rattle.std.proofs.Common.{◌≡◌, ◌∙◌, Some, sym, ap}
use Rattle.templates.specs.Code.{code_of}
use Rattle.rewrite_verify.proofs.ServingLemmas.{at_word}
use Rattle.rewrite_verify.proofs.serving.has_single.Goals as goal

pub returns-in-Some : goal.returns-in-Some
returns-in-Some c =
    let a = c.args.entry.now.address in
    let at : code_of c.args.live.now a ≡ Some c.in-Some.i =
    sym (c.at.ensures.value ∙ ap (λ ws. code_of ws a) (c.code.ensures.value ∙ c.graph.ensures.value))
    ∙ c.in-Some.is in
    record {
      value =
          at_word c.args.entry.now.template (code_of c.args.live.now) a
          c.scratch_count-count.result c.in-Some.i c.args.entry.now.single c.has_so_many.result at
          c.scratch_count-count.ensures.value c.has_so_many.ensures.value;
    }
