use Rattle.std.proofs.Common.{◌≡◌, ◌+◌, List, ◌∷◌, ◌++◌, [], length, take, get_or, refl, sym, ap, ◌∙◌, arith, rules}
use Rattle.std.proofs.lemmas.List.{take_more}
use Rattle.byte_range.specs.Range.{Range}
use Rattle.byte_range.specs.Lines.{line_count}
use Rattle.byte_range.specs.declared.lines.LineRange.{LineRange}
use Rattle.byte_range.specs.declared.lines.PlacedRange.{PlacedRange}
use Rattle.byte_range.proofs.LineLemmas.{count_fits}
use Rattle.byte_range.proofs.PieceLemmas.{map_pieces, pieces_push, count_push, count_within, first_some, first_none, first_fits, take_whole}
use Rattle.byte_range.proofs.lines.LineMemory.of.Goals as goal
use Rattle.byte_range.proofs.lines.LineMemory.of.Goals.{in-Some, in-None}

abbrev no_lines : LineRange
no_lines = record { first = 0; count = 0 }

pub overflow_add-start : goal.overflow_add-start
overflow_add-start c =
    let rs = c.args.ranges.now in
    let fits = count_fits 0 rs c.requires.ascend in
    let within = count_within rs c.loop-lines.lines-index no_lines (omega arith) in
    omega (arith, c.loop-lines.invariant.start)

pub loop-lines-preserved : goal.loop-lines-preserved
loop-lines-preserved c =
    let rs = c.args.ranges.now in
    let i = c.loop-lines.lines-index in
    let more = take_more rs i no_lines (omega arith) in
    let r = get_or rs i no_lines in
    let at : c.loop-lines.start ≡ 0 + line_count (take i rs) = omega (arith, c.loop-lines.invariant.start) in
    record {
      items = rw (more, pieces_push 0 (take i rs) r, ← at) (c.in_ok-push.ensures.items ∙ ap (λ (ps : List PlacedRange). ps ++ record { lines = r; start = c.loop-lines.start } ∷ []) c.loop-lines.invariant.items);
      start = rw (more, count_push (take i rs) r) (omega (arith, c.loop-lines.invariant.start));
    }

pub overflow_mul-base : goal.overflow_mul-base
overflow_mul-base c = let fits = first_fits c.args.ranges.now c.in-Some.lines.now c.requires.ascend c.in-Some.ensures.value in omega arith

pub overflow_mul-base-in-Some : goal.overflow_mul-base-in-Some
overflow_mul-base-in-Some c = let fits = first_fits c.args.ranges.now c.in-Some.lines.now c.requires.ascend c.in-Some.ensures.value in omega arith

pub of_bytes-requires : goal.of_bytes-requires
of_bytes-requires c =
    let fits = count_fits 0 c.args.ranges.now c.requires.ascend in
    omega (arith, c.requires.whole)

pub invariant_of-result : goal.invariant_of-result
invariant_of-result c =
    let rs = c.args.ranges.now in
    let whole = take_whole rs c.loop-lines.lines-index c.loop-lines-test.false in
    let items = rw whole at c.loop-lines.invariant.items in
    record {
      ascend = rw (items, map_pieces 0 rs) c.requires.ascend;
      starts = rw (items, map_pieces 0 rs) refl;
      first = rw items (elim c.match-first.branch [
        | in-Some w ↦ ap (λ b. b.0) w.base-is ∙ sym (first_some rs w.in-Some.lines.now w.in-Some.ensures.value).0
        | in-None w ↦ ap (λ b. b.0) w.base-is ∙ sym (first_none rs w.in-None.ensures.value).0
      ]);
      first_len = rw items (elim c.match-first.branch [
        | in-Some w ↦ ap (λ b. b.1) w.base-is ∙ sym (first_some rs w.in-Some.lines.now w.in-Some.ensures.value).1
        | in-None w ↦ ap (λ b. b.1) w.base-is ∙ sym (first_none rs w.in-None.ensures.value).1
      ]);
      flat_base = search rules;
      flat_len = rw (items, map_pieces 0 rs) (ap (λ (r : Range). length r.bytes) c.of_bytes.ensures ∙ c.requires.whole);
    }

pub returns-clause-ranges : goal.returns-clause-ranges
returns-clause-ranges c =
    let rs = c.args.ranges.now in
    let whole = take_whole rs c.loop-lines.lines-index c.loop-lines-test.false in
    let items = rw whole at c.loop-lines.invariant.items in
    rw (items, map_pieces 0 rs) refl
