use Rattle.std.proofs.Common.{◌≡◌, List, ap, arith, length, Err, subst}
use Rattle.std.proofs.lemmas.List.{length-map}
use Rattle.jump_map.specs.declared.image.ImageRefused.TheVariants.{CodeTooLarge}
use Rattle.micro_op.specs.declared.micro_op.MicroOp.{MicroOp}
use Rattle.jump_map.specs.Strides.{HasStrides}
use Rattle.jump_map.specs.Heads.{program_with}
use Rattle.jump_map.specs.Image.{read_cell}
use Rattle.jump_map.proofs.ExpansionLemmas.{expands, image_length, too_long}
use Rattle.jump_map.proofs.StartLemmas.{items_many, starts_found}
use Rattle.jump_map.proofs.image.Image.of.Goals as goal

pub invariant_of-result : goal.invariant_of-result
invariant_of-result c =
    let h = c.in-Ok.ensures in (
      starts_found (program_with c.args.code.now) c.args.plan.now c.in-Ok.cells c.in-Ok.index h.words h.starts,
      c.in_ok-micros-in-Ok.ensures.value,
      subst (λ (ms : List MicroOp). HasStrides ms c.in_ok-strides-in-Ok.strides.items) c.as_slice.ensures.value c.in_ok-strides-in-Ok.ensures,
    )

pub returns-in_ok-strides-in-Ok-clause-ok : goal.returns-in_ok-strides-in-Ok-clause-ok
returns-in_ok-strides-in-Ok-clause-ok c =
    let h = c.in-Ok.ensures in
    expands c.args.code.now c.args.plan.now c.in-Ok.cells h.words h.few c.words_law.ensures

pub returns-in-Err-clause-too_large : goal.returns-in-Err-clause-too_large
returns-in-Err-clause-too_large c = λ w is.
    let same : c.in-Err.refused ≡ CodeTooLarge w = cc in
    too_long c.args.code.now c.args.plan.now w (c.in-Err.ensures.too_large w (ap (λ e. Err e) same))

pub returns-in_ok-strides-in-Ok-clause-entries : goal.returns-in_ok-strides-in-Ok-clause-entries
returns-in_ok-strides-in-Ok-clause-entries c =
    let p = program_with c.args.code.now in
    let plan = c.args.plan.now in
    let words = ap length c.in-Ok.ensures.words in
    let read = length-map c.in-Ok.cells read_cell in
    let total = image_length p plan in
    let many = items_many p plan in
    omega (arith, words, read, total, many)
