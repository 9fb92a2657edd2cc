-- A stride, which goes over no word that looks.
use Rattle.std.specs.Prelude.{slice_index_or}
use Rattle.std.proofs.lemmas.Option.{slice_get-get_or}
use Rattle.node_words.specs.jump_map.declared.strides.StrideKind.TheVariants.{Slow}
use Rattle.node_words.specs.Trails.{trail_of}
use Rattle.word_visits.proofs.PassLemmas.{tried_passes}
use Rattle.word_visits.proofs.visiting.pass_stride.Goals as goal

pub stride-requires-clause-is : goal.stride-requires-clause-is
stride-requires-clause-is c =
    c.requires.strides.each c.args.going.now.at _
    (slice_get-get_or c.args.strides.kinds.now c.args.going.now.at Slow c.requires.inside)

pub returns-clause-passed : goal.returns-clause-passed
returns-clause-passed c = λ looks free.
    let at = c.args.going.now.at in
    let kind = slice_index_or c.args.strides.kinds.now at Slow in
    tried_passes c.args.image.now (trail_of kind at) looks c.stride.result c.args.going.now c.stride.new.going c.args.body.now
    c.stride.new.self (free at Slow c.requires.inside).free c.stride.ensures.tried
