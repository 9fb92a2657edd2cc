use Rattle.std.proofs.Common.{◌≡◌, ℕ, ◌*◌, length, List, ◌++◌, ◌∷◌, [], map, take, get_or, sym, ap, ◌∙◌, subst, arith}
use Rattle.std.proofs.lemmas.List.{take_more}
use Rattle.std.proofs.lemmas.Result.{IfOk-weaker}
use Rattle.exec_map.specs.Contents.{first_bytes}
use Rattle.block_layout.specs.declared.ranges.Lines.{Lines}
use Rattle.byte_range.specs.Lines.{line_count, Ascend}
use Rattle.byte_range.specs.declared.lines.LineRange.{LineRange}
use Rattle.exec_map.specs.Ranges.{line_range}
use Rattle.exec_map.proofs.LineLemmas.{bytes_of, bytes_push, ranges_push, bytes_len, take_whole, first_memory, if_ok_both, AreFirst}
use Rattle.exec_map.proofs.first_memory.memory_of.Goals as goal

abbrev no_lines : Lines
no_lines = record { first = 0; lines = 0 }

pub loop-lines-preserved : goal.loop-lines-preserved
loop-lines-preserved c =
    let e = c.args.program.now in
    let rs = c.args.ranges.now in
    let i = c.loop-lines.lines-index in
    let more = take_more rs i no_lines (omega (arith, c.loop-lines-test.true)) in
    let r = get_or rs i no_lines in
    record {
      ranges = rw (more, ranges_push (take i rs) r) (c.in_ok-push.ensures.items ∙ ap (λ (qs : List LineRange). qs ++ line_range r ∷ []) c.loop-lines.invariant.ranges);
      bytes = rw (more, bytes_push e (take i rs) r) (c.in_ok-bytes0.ensures.ok ∙ ap (λ (bs : List ℕ). bs ++ first_bytes e (64 * r.first) (64 * r.lines)) c.loop-lines.invariant.bytes);
    }

pub of-requires-clause-ascend : goal.of-requires-clause-ascend
of-requires-clause-ascend c =
    let rs = c.args.ranges.now in
    let whole = take_whole rs c.loop-lines.lines-index c.loop-lines-test.false in
    let ranges : c.deref.result.now ≡ map line_range rs = c.deref.ensures.value ∙ c.loop-lines.invariant.ranges ∙ ap (λ (qs : List Lines). map line_range qs) whole in
    subst (Ascend 0) (sym ranges) c.requires.ascend

pub of-requires-clause-whole : goal.of-requires-clause-whole
of-requires-clause-whole c =
    let e = c.args.program.now in
    let rs = c.args.ranges.now in
    let whole = take_whole rs c.loop-lines.lines-index c.loop-lines-test.false in
    let ranges : c.deref.result.now ≡ map line_range rs = c.deref.ensures.value ∙ c.loop-lines.invariant.ranges ∙ ap (λ (qs : List Lines). map line_range qs) whole in
    let first : AreFirst e = record { len = c.first_bytes_law.ensures.len e; each = c.first_bytes_law.ensures.each e } in
    ap length (c.loop-lines.invariant.bytes ∙ ap (bytes_of e) whole) ∙ bytes_len e first rs ∙ sym (ap (λ (qs : List LineRange). 64 * line_count qs) ranges)

pub returns-clause-bytes : goal.returns-clause-bytes
returns-clause-bytes c =
    let e = c.args.program.now in
    let rs = c.args.ranges.now in
    let whole = take_whole rs c.loop-lines.lines-index c.loop-lines-test.false in
    let ranges : c.deref.result.now ≡ map line_range rs = c.deref.ensures.value ∙ c.loop-lines.invariant.ranges ∙ ap (λ (qs : List Lines). map line_range qs) whole in
    let bytes : c.loop-lines.bytes.items ≡ bytes_of e rs = c.loop-lines.invariant.bytes ∙ ap (bytes_of e) whole in
    let first : AreFirst e = record { len = c.first_bytes_law.ensures.len e; each = c.first_bytes_law.ensures.each e } in
    if_ok_both c.of.result _ _ _ (λ m r b. first_memory e first rs m (r ∙ ranges) (b ∙ bytes)) c.of.ensures.ranges c.of.ensures.bytes

pub returns-clause-ranges : goal.returns-clause-ranges
returns-clause-ranges c =
    let rs = c.args.ranges.now in
    let whole = take_whole rs c.loop-lines.lines-index c.loop-lines-test.false in
    let ranges : c.deref.result.now ≡ map line_range rs = c.deref.ensures.value ∙ c.loop-lines.invariant.ranges ∙ ap (λ (qs : List Lines). map line_range qs) whole in
    IfOk-weaker c.of.result _ _ (λ m is. is ∙ ranges) c.of.ensures.ranges
