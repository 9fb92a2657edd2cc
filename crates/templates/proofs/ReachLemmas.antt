-- What instructions reach, an instruction at a time.
use Rattle.std.proofs.Common.{◌≡◌, ℕ, ℤ, Bool, true, false, List, [], ◌∷◌, ◌++◌, Option, Some, None, refl, sym, ap, ◌∙◌, subst, arith, append-nil}
use Rattle.std.specs.Prelude.{◌≤ℤ◌, ◌||◌, IsTrue, filter_map, is_some, option_to_list, unwrap_or}
use Rattle.std.specs.List.{list_any, cons_option}
use Rattle.std.specs.Option.{option_map}
use Rattle.std.proofs.lemmas.Int.{ints}
use Rattle.std.proofs.lemmas.Option.{same_Some}
use Rattle.std.proofs.lemmas.List.Elements.{filter_map-append}
use Rattle.std.proofs.lemmas.List.Folds.{list_any-append}
use Rattle.rv32_decode.specs.declared.Instr.{Instr}
use Rattle.rv32_decode.specs.declared.Instr.TheVariants.{Load, Store}
use Rattle.rv32_decode.specs.declared.Width.{Width}
use Rattle.rv32_decode.specs.Widths.{width_of}
use Rattle.templates.specs.Runs.{Span, Reach, span_of, span_by, reach_by, reach_of, is_store, has_access, lesser, greater, least, greatest}
use Rattle.templates.specs.Reaches.{access_reach, join, Extends, first_reach}

or_false : (b : Bool) → (b || false) ≡ b
or_false true = refl
or_false false = refl

-- an instruction without a span stores nothing
no_store : (i : Instr) → span_of i ≡ None → is_store i ≡ false
no_store (Store w rs1 rs2 imm) h = let bad : Some (span_by rs1 imm w) ≡ None = h in cc
no_store i h = refl

least_more : (low : ℤ) (xs : List Span) (y : Span) → least low (xs ++ y ∷ []) ≡ lesser (least low xs) y.low
least_more low [] y = refl
least_more low (x ∷ xs) y = least_more (lesser low x.low) xs y

greatest_more : (high : ℤ) (xs : List Span) (y : Span)
    → greatest high (xs ++ y ∷ []) ≡ greater (greatest high xs) y.high
greatest_more high [] y = refl
greatest_more high (x ∷ xs) y = greatest_more (greater high x.high) xs y

-- one span more
reach_join : (x : Span) (xs : List Span) (y : Span) (b c : Bool)
    → join (reach_by (x ∷ xs) b) (reach_by (y ∷ []) c) ≡ reach_by (x ∷ (xs ++ y ∷ [])) (b || c)
reach_join x xs y b c = λ t. record {
  base = x.base;
  low = sym (least_more x.low xs y) t;
  high = sym (greatest_more x.high xs y) t;
  stores = b || c;
}

-- instructions that begin with an access have a first span
spans : (is : List Instr) → IsTrue (has_access is 0) → (x : Span) × (xs : List Span) × (filter_map span_of is ≡ x ∷ xs)
spans [] h = let bad : false ≡ true = h in absurd (cc)
spans (j ∷ js) h = go (span_of j) refl
  where
    go : (o : Option Span) → span_of j ≡ o → (x : Span) × (xs : List Span) × (filter_map span_of (j ∷ js) ≡ x ∷ xs)
    go None e = let access : is_some (span_of j) ≡ true = h in let none : is_some (span_of j) ≡ false = ap (λ o. is_some o) e in absurd (cc)
    go (Some x) e = (x, filter_map span_of js, ap (λ o. cons_option o (filter_map span_of js)) e)

with_access : (old : Reach) (i : Instr) (y : Span) → span_of i ≡ Some y → (is : List Instr) → IsTrue (has_access is 0)
    → old ≡ reach_of is → join old (reach_by (y ∷ []) (is_store i)) ≡ reach_of (is ++ i ∷ [])
with_access old i y e is begins is_old =
    let first = spans is begins in
    let all : first.0 ∷ (first.1 ++ y ∷ []) ≡ filter_map span_of (is ++ i ∷ []) =
    (λ t. sym first.2 t ++ y ∷ []) ∙ (λ t. filter_map span_of is ++ cons_option (sym e t) []) ∙ sym (filter_map-append span_of is (i ∷ [])) in
    let stores : (list_any is_store is || is_store i) ≡ list_any is_store (is ++ i ∷ []) =
    (λ t. list_any is_store is || sym (or_false (is_store i)) t) ∙ sym (list_any-append is_store is (i ∷ [])) in
    (λ t. join (is_old t) (reach_by (y ∷ []) (is_store i)))
    ∙ (λ t. join (reach_by (first.2 t) (list_any is_store is)) (reach_by (y ∷ []) (is_store i)))
    ∙ reach_join first.0 first.1 y (list_any is_store is) (is_store i)
    ∙ (λ t. reach_by (all t) (stores t))

-- an instruction that accesses memory
pub extends_by : (old more new : Reach) (i : Instr) → Some more ≡ access_reach i → new ≡ join old more → Extends old i new
extends_by old more new i is_more is_new = go (span_of i) refl
  where
    go : (o : Option Span) → span_of i ≡ o → Extends old i new
    go None e = let bad : Some more ≡ None = is_more ∙ ap (option_map (λ x. reach_by (x ∷ []) (is_store i))) e in absurd (cc)
    go (Some y) e =
        let both : Some more ≡ Some (reach_by (y ∷ []) (is_store i)) = is_more ∙ ap (option_map (λ x. reach_by (x ∷ []) (is_store i))) e in
        let same = same_Some more (reach_by (y ∷ []) (is_store i)) both in
        λ is begins is_old. is_new ∙ ap (join old) same ∙ with_access old i y e is begins is_old

-- and one that doesn't
pub extends_not : (old : Reach) (i : Instr) → None ≡ access_reach i → Extends old i old
extends_not old i none = go (span_of i) refl
  where
    go : (o : Option Span) → span_of i ≡ o → Extends old i old
    go (Some y) e = let bad : ◌≡◌ {A = Option Reach} None (Some (reach_by (y ∷ []) (is_store i))) = none ∙ ap (option_map (λ x. reach_by (x ∷ []) (is_store i))) e in absurd (cc)
    go None e = λ is begins is_old.
        let all : filter_map span_of is ≡ filter_map span_of (is ++ i ∷ []) =
        sym (append-nil (filter_map span_of is)) ∙ (λ t. filter_map span_of is ++ cons_option (sym e t) []) ∙ sym (filter_map-append span_of is (i ∷ [])) in
        let stores : list_any is_store is ≡ list_any is_store (is ++ i ∷ []) =
        sym (or_false (list_any is_store is)) ∙ (λ t. list_any is_store is || sym (no_store i e) t)
        ∙ (λ t. list_any is_store is || sym (or_false (is_store i)) t) ∙ sym (list_any-append is_store is (i ∷ [])) in
        is_old ∙ (λ t. reach_by (all t) (stores t))

-- the first instruction
pub first_is : (o : Option Instr) → first_reach o ≡ reach_of (option_to_list o)
first_is None = refl
first_is (Some i) = go (span_of i) refl
  where
    go : (o : Option Span) → span_of i ≡ o → first_reach (Some i) ≡ reach_of (i ∷ [])
    go None e =
        ap (λ o. unwrap_or (option_map (λ x. reach_by (x ∷ []) (is_store i)) o) (reach_of [])) e
        ∙ (λ t. reach_by [] (sym (no_store i e) t)) ∙ (λ t. reach_by (cons_option (sym e t) []) (sym (or_false (is_store i)) t))
    go (Some y) e =
        ap (λ o. unwrap_or (option_map (λ x. reach_by (x ∷ []) (is_store i)) o) (reach_of [])) e
        ∙ (λ t. reach_by (cons_option (sym e t) []) (sym (or_false (is_store i)) t))

-- no byte is below the first
lesser_le : (x y : ℤ) → lesser x y ≤ℤ x
lesser_le x y = grind (arith, ints)

greater_ge : (x y : ℤ) → x ≤ℤ greater x y
greater_ge x y = grind (arith, ints)

least_le : (low : ℤ) (xs : List Span) → least low xs ≤ℤ low
least_le low [] = omega (arith, ints)
least_le low (x ∷ xs) =
    let more = least_le (lesser low x.low) xs in let one = lesser_le low x.low in omega (arith, ints, more, one)

greatest_ge : (high : ℤ) (xs : List Span) → high ≤ℤ greatest high xs
greatest_ge high [] = omega (arith, ints)
greatest_ge high (x ∷ xs) =
    let more = greatest_ge (greater high x.high) xs in let one = greater_ge high x.high in omega (arith, ints, more, one)

by_order : (base : ℕ) (imm : ℤ) (w : Width) → (span_by base imm w).low ≤ℤ (span_by base imm w).high
by_order base imm w = omega (arith, ints)

span_order : (i : Instr) (x : Span) → span_of i ≡ Some x → x.low ≤ℤ x.high
span_order (Load k rd rs1 imm) x h = let same = same_Some (span_by rs1 imm (width_of k)) x h in subst (λ (y : Span). y.low ≤ℤ y.high) same (by_order rs1 imm (width_of k))
span_order (Store w rs1 rs2 imm) x h = let same = same_Some (span_by rs1 imm w) x h in subst (λ (y : Span). y.low ≤ℤ y.high) same (by_order rs1 imm w)
span_order i x h = let bad : ◌≡◌ {A = Option Span} None (Some x) = h in absurd (cc)

-- the first span of instructions
first_order : (is : List Instr) (x : Span) (xs : List Span) → filter_map span_of is ≡ x ∷ xs → x.low ≤ℤ x.high
first_order [] x xs h = let bad : ◌≡◌ {A = List Span} [] (x ∷ xs) = h in absurd (cc)
first_order (i ∷ is) x xs h = go (first_order is x xs) (span_of i) refl
  where
    go : (filter_map span_of is ≡ x ∷ xs → x.low ≤ℤ x.high) → (o : Option Span) → span_of i ≡ o → x.low ≤ℤ x.high
    go more None e = more (ap (λ o. cons_option o (filter_map span_of is)) (sym e) ∙ h)
    go more (Some y) e =
        let list : y ∷ filter_map span_of is ≡ x ∷ xs = ap (λ o. cons_option o (filter_map span_of is)) (sym e) ∙ h in
        let same : y ≡ x = cc in
        subst (λ (z : Span). z.low ≤ℤ z.high) same (span_order i y e)

pub reach_order : (is : List Instr) → (reach_of is).low ≤ℤ (reach_of is).high
reach_order is = go (filter_map span_of is) refl
  where
    go : (xs : List Span) → filter_map span_of is ≡ xs → (reach_of is).low ≤ℤ (reach_of is).high
    go [] e = subst (λ ys. (reach_by ys (list_any is_store is)).low ≤ℤ (reach_by ys (list_any is_store is)).high) (sym e) (omega (arith, ints))
    go (x ∷ xs) e =
        let first = first_order is x xs e in
        let down = least_le x.low xs in
        let up = greatest_ge x.high xs in
        let both : least x.low xs ≤ℤ greatest x.high xs = omega (arith, ints, first, down, up) in
        subst (λ ys. (reach_by ys (list_any is_store is)).low ≤ℤ (reach_by ys (list_any is_store is)).high) (sym e) both
