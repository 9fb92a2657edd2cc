use Rattle.std.proofs.Common.{◌≡◌, map, length, sym, ap, ◌∙◌, subst, arith}
use Rattle.std.specs.Prelude.{position}
use Rattle.std.proofs.lemmas.Bool.{eqb-true, eqb-false}
use Rattle.std.proofs.lemmas.List.{length-map}
use Rattle.elf32_read.specs.Segments.{segment_of, section_of}
use Rattle.rv32_program.specs.declared.Class.{Class}
use Rattle.exec_map.specs.declared.refused.ProgramRule.TheVariants.{NoCode, TooMuch, EntryNotCode, Unsupported, CodeAlign, TooManySegments}
use Rattle.exec_map.specs.Contents.{is_code_word}
use Rattle.exec_map.specs.Refusals.{IsTooMuch, is_broken_code}
use Rattle.exec_map.proofs.Judging.{refused, below_16, below_17, below_18, below_19, below_22, acceptable, no_code, broken_same}
use Rattle.exec_map.proofs.rules.broken_by_code.Goals as goal

pub returns-then-is_empty-clause-some : goal.returns-then-is_empty-clause-some
returns-then-is_empty-clause-some c =
    refused c.args.e.now NoCode (no_code c.args.e.now c.args.code.now c.requires.index.words (eqb-true _ _ (sym c.is_empty.ensures ∙ c.if-is_empty.true))) c.requires.before

pub returns-in-Some-clause-some : goal.returns-in-Some-clause-some
returns-in-Some-clause-some c =
    let e = c.args.e.now in
    let code = c.args.code.now in
    let words = c.requires.index.words in
    let b16 = below_16 e code c.requires.before words (eqb-false _ _ (sym c.is_empty.ensures ∙ c.if-is_empty.false)) in
    refused e (TooMuch c.in-Some.class) (subst (λ xs. IsTooMuch xs c.in-Some.class) c.segments.ensures.value c.in-Some.ensures.some) b16

pub returns-then-not-has_word-clause-some : goal.returns-then-not-has_word-clause-some
returns-then-not-has_word-clause-some c =
    let e = c.args.e.now in
    let code = c.args.code.now in
    let words = c.requires.index.words in
    let b16 = below_16 e code c.requires.before words (eqb-false _ _ (sym c.is_empty.ensures ∙ c.if-is_empty.false)) in
    let b17 = below_17 e b16 (subst (λ xs. (k : Class) → IsTooMuch xs k → ⊥) c.segments.ensures.value c.in_default.ensures.none) in
    refused e (EntryNotCode c.entry-address.result) (c.entry-address.ensures, words.words c.entry-address.result ∙ sym c.has_word.ensures ∙ c.if-not-has_word.true) b17

pub returns-in-Some-first_unsupported-clause-some : goal.returns-in-Some-first_unsupported-clause-some
returns-in-Some-first_unsupported-clause-some c =
    let e = c.args.e.now in
    let code = c.args.code.now in
    let words = c.requires.index.words in
    let b16 = below_16 e code c.requires.before words (eqb-false _ _ (sym c.is_empty.ensures ∙ c.if-is_empty.false)) in
    let b17 = below_17 e b16 (subst (λ xs. (k : Class) → IsTooMuch xs k → ⊥) c.segments.ensures.value c.in_default.ensures.none) in
    let b18 = below_18 e b17 (ap (is_code_word e) (sym c.entry-address.ensures) ∙ words.words c.entry-address.result ∙ sym c.has_word.ensures ∙ c.if-not-has_word.false) in
    refused e (Unsupported c.in-Some-first_unsupported.address c.in-Some-first_unsupported.word) c.in-Some-first_unsupported.ensures.some b18

pub returns-in-Some-first_broken_section-clause-some : goal.returns-in-Some-first_broken_section-clause-some
returns-in-Some-first_broken_section-clause-some c =
    let e = c.args.e.now in
    let code = c.args.code.now in
    let words = c.requires.index.words in
    let b16 = below_16 e code c.requires.before words (eqb-false _ _ (sym c.is_empty.ensures ∙ c.if-is_empty.false)) in
    let b17 = below_17 e b16 (subst (λ xs. (k : Class) → IsTooMuch xs k → ⊥) c.segments.ensures.value c.in_default.ensures.none) in
    let b18 = below_18 e b17 (ap (is_code_word e) (sym c.entry-address.ensures) ∙ words.words c.entry-address.result ∙ sym c.has_word.ensures ∙ c.if-not-has_word.false) in
    let b19 = below_19 e b18 c.in_default-first_unsupported.ensures.none in
    let same = broken_same e (map segment_of c.args.sorted.now) c.requires.index.placed c.requires.index.permutation in
    refused e (CodeAlign c.in-Some-first_broken_section.section)
    (sym (c.in-Some-first_broken_section.ensures ∙ ap (λ p. position p (map section_of c.sections.result.now)) same ∙ ap (position (is_broken_code e.segments)) c.sections.ensures.value)) b19

pub returns-then-count-gt-SEGMENT_LIMIT-clause-some : goal.returns-then-count-gt-SEGMENT_LIMIT-clause-some
returns-then-count-gt-SEGMENT_LIMIT-clause-some c =
    let e = c.args.e.now in
    let code = c.args.code.now in
    let words = c.requires.index.words in
    let b16 = below_16 e code c.requires.before words (eqb-false _ _ (sym c.is_empty.ensures ∙ c.if-is_empty.false)) in
    let b17 = below_17 e b16 (subst (λ xs. (k : Class) → IsTooMuch xs k → ⊥) c.segments.ensures.value c.in_default.ensures.none) in
    let b18 = below_18 e b17 (ap (is_code_word e) (sym c.entry-address.ensures) ∙ words.words c.entry-address.result ∙ sym c.has_word.ensures ∙ c.if-not-has_word.false) in
    let b19 = below_19 e b18 c.in_default-first_unsupported.ensures.none in
    let same = broken_same e (map segment_of c.args.sorted.now) c.requires.index.placed c.requires.index.permutation in
    let b22 = below_22 e b19 (c.in_default-first_broken_section.ensures ∙ ap (λ p. position p (map section_of c.sections.result.now)) same ∙ ap (position (is_broken_code e.segments)) c.sections.ensures.value) in
    let long : length c.segments-count.result.now ≡ length e.segments = sym (length-map c.segments-count.result.now segment_of) ∙ ap length c.segments-count.ensures.value in
    refused e (TooManySegments (length c.segments-count.result.now)) (long, c.if-count-gt-SEGMENT_LIMIT.true) b22

pub returns-clause-none : goal.returns-clause-none
returns-clause-none c =
    let e = c.args.e.now in
    let code = c.args.code.now in
    let words = c.requires.index.words in
    let b16 = below_16 e code c.requires.before words (eqb-false _ _ (sym c.is_empty.ensures ∙ c.if-is_empty.false)) in
    let b17 = below_17 e b16 (subst (λ xs. (k : Class) → IsTooMuch xs k → ⊥) c.segments.ensures.value c.in_default.ensures.none) in
    let b18 = below_18 e b17 (ap (is_code_word e) (sym c.entry-address.ensures) ∙ words.words c.entry-address.result ∙ sym c.has_word.ensures ∙ c.if-not-has_word.false) in
    let b19 = below_19 e b18 c.in_default-first_unsupported.ensures.none in
    let same = broken_same e (map segment_of c.args.sorted.now) c.requires.index.placed c.requires.index.permutation in
    let b22 = below_22 e b19 (c.in_default-first_broken_section.ensures ∙ ap (λ p. position p (map section_of c.sections.result.now)) same ∙ ap (position (is_broken_code e.segments)) c.sections.ensures.value) in
    let long : length c.segments-count.result.now ≡ length e.segments = sym (length-map c.segments-count.result.now segment_of) ∙ ap length c.segments-count.ensures.value in
    acceptable e b22 (omega (arith, long, c.if-count-gt-SEGMENT_LIMIT.false))

pub returns-clause-supported : goal.returns-clause-supported
returns-clause-supported c = c.in_default-first_unsupported.ensures.none
