-- The lines with which a record begins tell its nodes, its budget and its blocks.
use Rattle.std.proofs.Common.{◌≡◌, ℕ, ◌^◌, ◌<◌, List, [], ◌∷◌, ◌++◌, Option, None, Some, refl, sym, ap, ◌∙◌, arith}
use Rattle.std.specs.Prelude.{All, IfSome, codes}
use Rattle.std.specs.List.{flat_map}
use Rattle.std.proofs.lemmas.List.Elements.{All-weaker}
use Rattle.block_layout.specs.Layout.{Shape, IsRange, IsValid}
use Rattle.block_layout.specs.declared.layout.BlockRange.{BlockRange}
use Rattle.run_record.specs.Record.{IsBlockLine}
use Rattle.run_record.specs.Text.{number_line, code_line, block_line, block_lines}
use Rattle.run_record.proofs.Told.{blocks_told, line_told}
use Rattle.commands.specs.Interleaved.{BeginsRecord}
use Rattle.commands.proofs.RecordLemmas.{block_line as is_block_line}

pub blocks_are : (rs : List BlockRange) → block_lines rs ≡ flat_map block_line rs
blocks_are [] = refl
blocks_are (r ∷ rs) = ap (λ t. block_line r ++ t) (blocks_are rs)

-- the lines from the blocks on
abbrev from_blocks : List BlockRange → List ℕ → List ℕ
from_blocks rs behind = flat_map block_line rs ++ (codes "node 0\n" ++ behind)

-- a line of a block, or of a node, is none of code
no_code : (n : ℕ) (rs : List BlockRange) (us vs : List ℕ)
    → from_blocks rs us ≡ number_line (codes "code ") n ++ vs → ⊥
no_code n [] us vs e =
    let same : ◌≡◌ {A = ℕ} 110 99 = cc in absurd (omega (arith, same))
no_code n (r ∷ rs) us vs e =
    let same : ◌≡◌ {A = ℕ} 98 99 = cc in absurd (omega (arith, same))

behind_code : (a b : Option ℕ) (rs ss : List BlockRange) (us vs : List ℕ)
    → IfSome a (λ words. words < 2 ^ 32) → IfSome b (λ words. words < 2 ^ 32)
    → code_line a ++ from_blocks rs us ≡ code_line b ++ from_blocks ss vs
    → from_blocks rs us ≡ from_blocks ss vs
behind_code None None rs ss us vs p q e = e
behind_code None (Some n) rs ss us vs p q e = absurd (no_code n rs us (from_blocks ss vs) e)
behind_code (Some m) None rs ss us vs p q e = absurd (no_code m ss vs (from_blocks rs us) (sym e))
behind_code (Some m) (Some n) rs ss us vs p q e =
    (line_told (codes "code ") m n (from_blocks rs us) (from_blocks ss vs) (omega (arith, p))
    (omega (arith, q)) e).1

are_block_lines : (layout : Shape) → IsValid layout → All IsBlockLine layout.named
are_block_lines layout valid =
    All-weaker (IsRange layout.shared layout.nodes) IsBlockLine
    (is_block_line layout.shared layout.nodes valid.few_nodes) layout.named valid.named

-- the lines tell these of every layout and budget of which they may be
pub one_head : (text : List ℕ) (l m : Shape) (b c : ℕ) → BeginsRecord text l b
    → BeginsRecord text m c → (l.nodes ≡ m.nodes) × (b ≡ c) × (l.named ≡ m.named)
one_head text l m b c h k =
    let few = h.valid.few_nodes in
    let other_few = k.valid.few_nodes in
    let low = h.limit.1 in
    let other_low = k.limit.1 in
    let version = line_told (codes "shasta-record ") h.version k.version _ _
    (omega (arith, h.versions)) (omega (arith, k.versions)) (sym h.text_is ∙ k.text_is) in
    let nodes = line_told (codes "nodes ") l.nodes m.nodes _ _ (omega (arith, few))
    (omega (arith, other_few)) version.1 in
    let budget = line_told (codes "budget ") b c _ _ (omega (arith, low)) (omega (arith, other_low))
    nodes.1 in
    let batch = line_told (codes "batch ") h.batch k.batch _ _ (omega (arith, h.batches))
    (omega (arith, k.batches)) budget.1 in
    let rest = behind_code h.code k.code l.named m.named h.behind k.behind h.few_words k.few_words
    batch.1 in
    let lines = ap (λ t. t ++ (codes "node 0\n" ++ h.behind)) (blocks_are l.named) ∙ rest
    ∙ sym (ap (λ t. t ++ (codes "node 0\n" ++ k.behind)) (blocks_are m.named)) in (
      nodes.0,
      budget.0,
      (blocks_told l.named m.named (codes "ode 0\n" ++ h.behind) (codes "ode 0\n" ++ k.behind) (are_block_lines l h.valid) h.words
          (are_block_lines m k.valid) k.words lines).0,
    )
