use Rattle.std.proofs.Common.{◌<◌, ◌∙◌, map, length, ap, rules, arith}
use Rattle.std.specs.Option.{option_map}
use Rattle.std.proofs.lemmas.List.{length-map}
use Rattle.std.proofs.lemmas.Option.{slice_get-map, slice_get-get_or, slice_get_within}
use Rattle.elf32_read.specs.Segments.{section_of}
use Rattle.rewrite_verify.proofs.SectionLemmas.{none_more}
use Rattle.rewrite_verify.proofs.sections.named_from.Goals as goal

pub returns-then-is_named_as-clause-some : goal.returns-then-is_named_as-clause-some
returns-then-is_named_as-clause-some c =
    let lt : c.loop-k.k < length c.args.sections.now = search rules in (
      _,
      search rules,
      slice_get-map section_of c.args.sections.now c.loop-k.k
          ∙ ap (option_map section_of) (slice_get-get_or c.args.sections.now c.loop-k.k _ lt),
      c.is_named_as.ensures.value.0 c.if-is_named_as.true,
    )

pub loop-k-preserved : goal.loop-k-preserved
loop-k-preserved c =
    let lt : c.loop-k.k < length c.args.sections.now = search rules in
    none_more c.args.sections.now (section_of c.args.wanted.now) c.args.from c.loop-k.k _
    c.is_named_as.result lt c.is_named_as.ensures.value c.if-is_named_as.false
    c.loop-k.invariant

pub returns-clause-none : goal.returns-clause-none
returns-clause-none c = λ j s from there named.
    let within = slice_get_within (map section_of c.args.sections.now) j s there in
    let long = length-map c.args.sections.now section_of in
    let end = c.loop-k-test.false in
    c.loop-k.invariant j s from (omega (arith, within, long, end)) there named
