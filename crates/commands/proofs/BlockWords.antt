-- The ranges that the text of a layout names begin at addresses of 32 bits.
use Rattle.std.proofs.Common.{ℕ, ◌^◌, ◌<◌, ◌≤◌, List, [], ◌∷◌, length, Option, None, Some, sym, subst, inl, inr, arith}
use Rattle.std.specs.Prelude.{All}
use Rattle.std.proofs.lemmas.Int.Digits.{digits_value-lt}
use Rattle.std.proofs.lemmas.List.Elements.{All-nil, All-cons}
use Rattle.std.proofs.Math.Nat.{pow-le-pow_right}
use Rattle.block_layout.specs.Layout.{Shape}
use Rattle.block_layout.specs.Text.{HasFields, IsHexadecimal, Name, text_lines}
use Rattle.block_layout.specs.declared.layout.BlockRange.{BlockRange}
use Rattle.block_layout.specs.declared.ranges.Lines.{Lines}
use Rattle.run_record.specs.Telling.{HasWords}
use Rattle.judged_files.specs.Layouts.{IsLayoutOfLines}

word_low : (word : List ℕ) (n : ℕ) → IsHexadecimal word n → n < 2 ^ 32
word_low word n h =
    let low = digits_value-lt 16 h.digits h.numeral.1 in
    let grows : 16 ^ length h.digits ≤ 16 ^ 8 = pow-le-pow_right {n = 16} (omega arith) h.few in
    let is = h.value in
    omega (arith, low, grows, is)

has_words : (line : List ℕ) (r : BlockRange) → HasFields line r → HasWords r
has_words line r h = record {
  start = word_low h.start_word r.start h.start;
  length = word_low h.length_word r.length h.length;
}

all_words : (lines : List (List ℕ)) (named : List BlockRange) → Name lines named
    → All HasWords named
all_words [] named h = subst (All HasWords) (sym h) (All-nil HasWords)
all_words (line ∷ more) named (inl h) = all_words more named h.1
all_words (line ∷ more) named (inr h) =
    let r : BlockRange = h.0 in
    let rest : List BlockRange = h.1 in
    subst (All HasWords) (sym h.2)
    (All-cons HasWords r rest (has_words line r h.3) (all_words more rest h.4))

-- so do those of a layout that a text gives, or none
pub named_words : (text : Option (List ℕ)) (shared : List Lines) (nodes : ℕ) (layout : Shape)
    → IsLayoutOfLines text shared nodes layout → All HasWords layout.named
named_words None shared nodes layout h =
    subst (λ (s : Shape). All HasWords s.named) (sym h) (All-nil HasWords)
named_words (Some text) shared nodes layout h = all_words (text_lines text) layout.named h.named
