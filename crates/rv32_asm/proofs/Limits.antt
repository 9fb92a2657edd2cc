-- Places of a text in which no line breaks a rule.
use Rattle.std.proofs.Common.{◌≡◌, ℕ, ◌+◌, ◌<◌, ◌≤◌, ◌^◌, List, [], ◌∷◌, ◌++◌, append_assoc, length, Option, None, Some, sym, ◌∙◌, subst, arith, inl, inr}
use Rattle.std.specs.Prelude.{IfSome, IsSomeAnd}
use Rattle.std.specs.Option.{option_map}
use Rattle.std.proofs.lemmas.List.{append-nil}
use Rattle.rv32_lines.specs.Statements.{Statement, Nothing, Segment, Label, Bytes, Word, Space, Zero, Entry, Instruction, Unread}
use Rattle.rv32_asm.specs.declared.refused.AsmRule.TheVariants as rule
use Rattle.rv32_asm.specs.Places.{Open, SegmentsSoFar, with_bytes, with_zeros, behind, behind_all, first_place, place_behind}
use Rattle.rv32_asm.specs.Rules.{AreSound, IsPastLimits, IsTooLong}
use Rattle.rv32_asm.specs.Standing.{IsClosable}
use Rattle.rv32_asm.proofs.Going.{place_more}

limits_by : (all before ss rest : List Statement) → all ≡ before ++ (ss ++ rest) → AreSound all
    → (IsPastLimits (place_behind before) → ⊥)
    → IsPastLimits (place_behind (before ++ ss)) → ⊥
limits_by all before [] rest e sound h past =
    h (subst (λ (x : List Statement). IsPastLimits (place_behind x)) (append-nil before) past)
limits_by all before (s ∷ ss) rest e sound h past =
    limits_by all (before ++ s ∷ []) ss rest (e ∙ sym (append_assoc before (s ∷ []) (ss ++ rest))) sound
    (λ q. sound before s (ss ++ rest) rule.Size e (subst IsPastLimits (place_more before s) q))
    (subst (λ (x : List Statement). IsPastLimits (place_behind x)) (sym (append_assoc before (s ∷ []) ss)) past)

first_limits : IsPastLimits first_place → ⊥
first_limits (inl h) = h
first_limits (inr (inl h)) = omega (arith, h)
first_limits (inr (inr h)) = omega (arith, h)

-- no place of a sound text is past the limits
pub limits : (all before rest : List Statement) → all ≡ before ++ rest → AreSound all
    → IsPastLimits (place_behind before) → ⊥
limits all before rest e sound = limits_by all [] before rest e sound first_limits

-- the last segment has no more bytes than are appended
abbrev pub HasBytes : ℕ → Option Open → Type 0
HasBytes appended last = IfSome last (λ o. o.bytes ≤ appended)

bytes_more : (n count : ℕ) (last : Option Open) → HasBytes n last
    → HasBytes (n + count) (option_map (with_bytes count) last)
bytes_more n count None h = tt
bytes_more n count (Some o) h = omega (arith, h)

zeros_more : (n count : ℕ) (last : Option Open) → HasBytes n last → HasBytes n (option_map (with_zeros count) last)
zeros_more n count None h = tt
zeros_more n count (Some o) h = h

pub has_more : (p : SegmentsSoFar) (s : Statement) → HasBytes p.appended p.last
    → HasBytes (behind p s).appended (behind p s).last
has_more p Nothing h = h
has_more p (Segment flags start) h = omega arith
has_more p (Label name) h = h
has_more p (Bytes bytes) h = bytes_more p.appended (length bytes) p.last h
has_more p (Word word) h = bytes_more p.appended 4 p.last h
has_more p (Space count) h = bytes_more p.appended count p.last h
has_more p (Zero count) h = zeros_more p.appended count p.last h
has_more p (Entry name) h = h
has_more p (Instruction w) h = bytes_more p.appended 4 p.last h
has_more p Unread h = h

has_all : (p : SegmentsSoFar) (ss : List Statement) → HasBytes p.appended p.last
    → HasBytes (behind_all p ss).appended (behind_all p ss).last
has_all p [] h = h
has_all p (s ∷ ss) h = has_all (behind p s) ss (has_more p s h)

pub has_bytes : (ss : List Statement) → HasBytes (place_behind ss).appended (place_behind ss).last
has_bytes ss = has_all first_place ss tt

closable_by : (n : ℕ) (last : Option Open) → (IsSomeAnd last IsTooLong → ⊥) → HasBytes n last
    → IfSome last (λ o. (o.bytes ≤ n) × (o.bytes + o.zeros < 2 ^ 32))
closable_by n None f h = tt
closable_by n (Some o) f h = let low : 2 ^ 32 ≤ o.bytes + o.zeros → ⊥ = λ q. f (inr q) in (h, omega (arith, low))

-- a segment of a sound text may be closed
pub closable : (all before rest : List Statement) → all ≡ before ++ rest → AreSound all
    → IsClosable (place_behind before)
closable all before rest e sound =
    let p = place_behind before in
    let f : IsPastLimits p → ⊥ = limits all before rest e sound in
    let few : 2 ^ 24 < p.appended → ⊥ = λ q. f (inr (inr q)) in
    (omega (arith, few), closable_by p.appended p.last (λ q. f (inl q)) (has_bytes before))
