use Rattle.std.proofs.Common.{◌≡◌, map, true, sym, ap, subst, ◌∙◌, arith}
use Rattle.rv32_decode.specs.declared.Width.TheVariants.{Word}
use Rattle.byte_range.specs.Memory.{raw}
use Rattle.elf32_read.specs.Segments.{segment_of}
use Rattle.exec_map.specs.Contents.{is_supported_word, word_of}
use Rattle.exec_map.proofs.Looking.{bytes_same}
use Rattle.exec_map.proofs.Accepting.{SupportedUpTo, below_next, go_on}
use Rattle.exec_map.proofs.rules.first_unsupported.Goals as goal

pub loop-next-init : goal.loop-next-init
loop-next-init c =
    let next = c.next_word-next.ensures in
    go_on c.args.e.now c.args.code.now c.requires.index.words 0 c.next_word-next.result (λ b lt. absurd (omega arith)) next.some next.least next.low next.none

pub loop-next-preserved : goal.loop-next-preserved
loop-next-preserved c =
    let e = c.args.e.now in
    let a = c.in-Some.address in
    let here = subst (SupportedUpTo e) c.in-Some.is c.loop-next.invariant in
    let reads = c.load-word.ensures ∙ ap (λ m. raw Word m a) (bytes_same e (map segment_of c.args.sorted.now) c.requires.index.placed c.requires.index.permutation c.requires.index.searchable) in
    let supported : is_supported_word (word_of e a) ≡ true = ap is_supported_word (sym reads) ∙ sym c.is_supported_word.ensures ∙ c.if-not-is_supported_word.false in
    let next = c.next_word-next-in-Some.ensures in
    go_on e c.args.code.now c.requires.index.words _ c.next_word-next-in-Some.result (below_next e a here.2 here.0 supported) next.some next.least next.low next.none

pub returns-then-not-is_supported_word-clause-some : goal.returns-then-not-is_supported_word-clause-some
returns-then-not-is_supported_word-clause-some c =
    let e = c.args.e.now in
    let a = c.in-Some.address in
    let here = subst (SupportedUpTo e) c.in-Some.is c.loop-next.invariant in
    let reads = c.load-word.ensures ∙ ap (λ m. raw Word m a) (bytes_same e (map segment_of c.args.sorted.now) c.requires.index.placed c.requires.index.permutation c.requires.index.searchable) in
    record {
      code_word = here.0;
      reads = reads;
      unsupported = sym c.is_supported_word.ensures ∙ c.if-not-is_supported_word.true;
      lowest = here.2;
    }

pub returns-clause-none : goal.returns-clause-none
returns-clause-none c = subst (SupportedUpTo c.args.e.now) c.in_default.is c.loop-next.invariant

pub overflow_add-address : goal.overflow_add-address
overflow_add-address c = let here = subst (SupportedUpTo c.args.e.now) c.in-Some.is c.loop-next.invariant in omega (arith, here.1)
