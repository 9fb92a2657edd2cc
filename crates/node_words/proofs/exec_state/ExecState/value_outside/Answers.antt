use Rattle.std.proofs.Common.{◌∙◌, ap}
use Rattle.rv32_decode.specs.declared.Width.{Width}
use Rattle.rv32_decode.specs.Widths.{is_aligned}
use Rattle.node_words.proofs.AccessLemmas.{fixed_gives, shared_gives}
use Rattle.node_words.proofs.exec_state.ExecState.value_outside.Goals as goal

pub returns-in-Some : goal.returns-in-Some
returns-in-Some c =
    let a = c.args.address in
    let h = c.in-Some.ensures.value in
    let aligned = ap (λ (x : Width). is_aligned x a) c.width-width.ensures.value ∙ c.requires in
    record {
      value = fixed_gives c.args.self.now c.args.kind c.width-width.result a c.in-Some.raw _ c.width-width.ensures.value
          aligned h.1 h.0 h.2 c.extend.ensures;
    }

pub returns-in-Some-load : goal.returns-in-Some-load
returns-in-Some-load c =
    let a = c.args.address in
    let h = c.in-Some-load.ensures.value in
    let aligned = ap (λ (x : Width). is_aligned x a) c.width-width.ensures.value ∙ c.requires in
    record {
      value = shared_gives c.args.self.now c.args.kind c.width-width.result a c.in-Some-load.raw _
          c.width-width.ensures.value aligned h.1 h.0 h.2 c.extend-in-Some-load.ensures;
    }
