use Rattle.std.proofs.Common.{◌≡◌, ◌/◌, ◌≤◌, ◌+◌, ◌^◌, ℕ, true, sym, ◌∙◌, subst, List}
use Rattle.std.specs.Prelude.{All}
use Rattle.block_layout.specs.declared.ranges.Lines.{Lines}
use Rattle.block_layout.specs.Layout.{is_in}
use Rattle.one_memory.specs.Contained.{IsSameByte}
use Rattle.one_memory.proofs.CopyLemmas.{lines_copied, lines_there}
use Rattle.one_memory.proofs.copying.copy_of_lines.Goals as goal

pub copy_ranges-requires-clause-low : goal.copy_ranges-requires-clause-low
copy_ranges-requires-clause-low c =
    subst (λ (rs : List Lines). All (λ (r : Lines). r.first + r.lines ≤ 2 ^ 26) rs) (sym c.as_slice.ensures.value) c.as_slice.ensures.ranges.low

pub copy_ranges-requires-clause-same : goal.copy_ranges-requires-clause-same
copy_ranges-requires-clause-same c = λ line. c.in_ok-lines.ensures.lines line ∙ sym (c.requires line)

pub returns-clause-lines : goal.returns-clause-lines
returns-clause-lines c =
    lines_there c.args.program.now c.in_ok-lines.lines c.copy_ranges.new.to c.in_ok-lines.ensures.lines c.copy_ranges.ensures.ranges

pub returns-clause-bytes : goal.returns-clause-bytes
returns-clause-bytes c = λ outside.
    let from = c.args.from.now in
    let new = c.copy_ranges.new.to in
    let copied = subst (λ (rs : List Lines). (a : ℕ) → is_in rs (a / 64) ≡ true → IsSameByte new from a) c.as_slice.ensures.value c.copy_ranges.ensures.copied in
    lines_copied c.args.program.now from c.in_ok-lines.lines new c.in_ok-ranges.ranges c.requires c.in_ok-lines.ensures.lines c.copy_ranges.ensures.ranges c.in_ok-ranges.ensures.ranges copied outside
