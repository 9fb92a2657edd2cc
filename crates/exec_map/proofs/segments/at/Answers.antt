use Rattle.std.proofs.Common.{map, sym, ◌∙◌}
use Rattle.std.proofs.lemmas.Bool.{cond-true, cond-false}
use Rattle.elf32_read.specs.Segments.{segment_of}
use Rattle.exec_map.proofs.Looking.{holds_here, holds_nowhere}
use Rattle.exec_map.proofs.segments.at.Goals as goal

pub returns-in_err-s-clause-value : goal.returns-in_err-s-clause-value
returns-in_err-s-clause-value c =
    rw c.from_residual.ensures (sym (holds_nowhere (map segment_of c.args.sorted.now) c.args.address c.requires c.in_err-s.ensures))

pub returns-then-holds-clause-value : goal.returns-then-holds-clause-value
returns-then-holds-clause-value c =
    sym (holds_here (map segment_of c.args.sorted.now) c.args.address (segment_of c.in_ok-s.s.now) c.requires c.in_ok-s.ensures ∙ cond-true _ _ _ (sym c.holds.ensures ∙ c.if-holds.true))

pub returns-else-holds-clause-value : goal.returns-else-holds-clause-value
returns-else-holds-clause-value c =
    sym (holds_here (map segment_of c.args.sorted.now) c.args.address (segment_of c.in_ok-s.s.now) c.requires c.in_ok-s.ensures ∙ cond-false _ _ _ (sym c.holds.ensures ∙ c.if-holds.false))
