-- A text has one layout or one first fault.
use Rattle.std.proofs.Common.{◌≡◌, ℕ, ◌<◌, true, false, ◌==◌, if◌then◌else◌, List, [], ◌∷◌, ◌++◌, length, take, drop, get_or, Option, Some, None, IsSome, codes, refl, sym, ap, ◌∙◌, subst, inl, inr, arith}
use Rattle.std.specs.List.{find, position}
use Rattle.std.specs.Str.Parse.{AllDigits, digits_value}
use Rattle.std.proofs.lemmas.Bool.{cases_lt, false≢true}
use Rattle.std.proofs.lemmas.List.{length-append, get_or_append_left, get_or_at}
use Rattle.block_layout.specs.declared.ranges.Lines.{Lines}
use Rattle.block_layout.specs.declared.layout.BlockRange.{BlockRange}
use Rattle.block_layout.specs.declared.refused.LayoutRule.{LayoutRule}
use Rattle.block_layout.specs.declared.refused.LayoutRule.TheVariants.{Syntax, BlockSize, Unaligned, NotShared, Overlap, Home}
use Rattle.block_layout.specs.Layout.{Shape, IsValid, IsRange, AreApart, names}
use Rattle.block_layout.specs.Text.{text_lines, says_nothing, spaces, IsHexadecimal, IsDecimal, IsHomeWord, HasFields, Name, IsLayoutOf, Violates, Breaks, number_of, IsFirstFault, IsFirstBroken}
use Rattle.block_layout.specs.Parts.{is_mark, SplitsAtGap, AreWords}
use Rattle.block_layout.proofs.LineFields.{IsGap, is_gap}
use Rattle.block_layout.proofs.Fields.{words_of_fields}
use Rattle.block_layout.proofs.Blocks.{IsFound, find_found}

-- a text splits in one way
split_once : (text w r x y : List ℕ) → SplitsAtGap text w r → SplitsAtGap text x y → (w ≡ x) × (r ≡ y)
split_once text w r x y h k =
    let p : IsGap text w r = is_gap text w r h in
    let q : IsGap text x y = is_gap text x y k in
    let e : Some (length w) ≡ Some (length x) = sym p.end ∙ q.end in
    let n : length w ≡ length x = cc in
    let f : Some p.gap ≡ Some q.gap = sym p.mark ∙ ap (λ m. position is_mark (drop m text)) n ∙ q.mark in
    let g : p.gap ≡ q.gap = cc in (
      sym p.word_is ∙ ap (λ m. take m text) n ∙ q.word_is,
      sym p.rest_is ∙ ap (λ m. drop p.gap (drop m text)) n ∙ ap (λ m. drop m (drop (length x) text)) g ∙ q.rest_is,
    )

split_at : (text u w r x y : List ℕ) → text ≡ u → SplitsAtGap text w r → SplitsAtGap u x y → (w ≡ x) × (r ≡ y)
split_at text u w r x y e h k = let P : List ℕ → Type 0 = λ t. SplitsAtGap t x y in split_once text w r x y h (subst P (sym e) k)

record AreSame (a b c d x y z w : List ℕ) : Type 0 where
  pub first : a ≡ x
  pub second : b ≡ y
  pub third : c ≡ z
  pub fourth : d ≡ w

words_once : (line a b c d x y z w : List ℕ) → AreWords line a b c d → AreWords line x y z w → AreSame a b c d x y z w
words_once line a b c d x y z w h k =
    let p = split_once line a h.behind x k.behind h.first k.first in
    let q = split_at h.behind k.behind b h.far y k.far p.1 h.second k.second in
    let r = split_at h.far k.far c d z w q.1 h.third k.third in
    record { first = p.0; second = q.0; third = r.0; fourth = r.1 }

-- a word has one number
hexadecimal_once : (v w : List ℕ) (m n : ℕ) → v ≡ w → IsHexadecimal v m → IsHexadecimal w n → m ≡ n
hexadecimal_once v w m n e h k =
    let f : 48 ∷ 120 ∷ h.digits ≡ 48 ∷ 120 ∷ k.digits = sym h.word_is ∙ e ∙ k.word_is in
    sym h.value ∙ ap (λ ds. digits_value 16 (drop 2 ds)) f ∙ k.value

decimal_once : (most : ℕ) (v w : List ℕ) (m n : ℕ) → v ≡ w → IsDecimal most v m → IsDecimal most w n → m ≡ n
decimal_once most v w m n e h k = sym h.value ∙ ap (digits_value 10) e ∙ k.value

no_star : (v w : List ℕ) (n : ℕ) → v ≡ w → v ≡ codes "*" → IsDecimal 2 w n → ⊥
no_star v w n e star h =
    let digit : AllDigits 10 (codes "*") = subst (AllDigits 10) (sym e ∙ star) h.numeral.1 in
    absurd (omega (arith, digit.0))

home_once : (v w : List ℕ) (g h : Option ℕ) → v ≡ w → IsHomeWord v g → IsHomeWord w h → g ≡ h
home_once v w None None e p q = refl
home_once v w None (Some n) e p q = absurd (no_star v w n e p q)
home_once v w (Some m) None e p q = absurd (no_star w v m (sym e) q p)
home_once v w (Some m) (Some n) e p q = ap Some (decimal_once 2 v w m n e p q)

same_range : (r q : BlockRange) → r.start ≡ q.start → r.length ≡ q.length → r.block ≡ q.block → r.home ≡ q.home → r ≡ q
same_range r q a b c d = λ i. record { start = a i; length = b i; block = c i; home = d i }

-- a line has one range
fields_once : (line : List ℕ) (r q : BlockRange) → HasFields line r → HasFields line q → r ≡ q
fields_once line r q h k =
    let s = words_once line _ _ _ _ _ _ _ _ (words_of_fields line r h) (words_of_fields line q k) in
    same_range r q
    (hexadecimal_once _ _ r.start q.start s.first h.start k.start)
    (hexadecimal_once _ _ r.length q.length s.second h.length k.length)
    (decimal_once 5 _ _ r.block q.block s.third h.block k.block)
    (home_once _ _ r.home q.home s.fourth h.home k.home)

-- a line with fields doesn't say nothing
fields_speak : (line : List ℕ) (r : BlockRange) → HasFields line r → says_nothing line ≡ false
fields_speak line r h =
    let more = spaces h.first_gap ++ (h.length_word ++ (spaces h.second_gap ++ (h.block_word ++ (spaces h.third_gap ++ h.home_word)))) in
    let e : line ≡ (48 ∷ 120 ∷ h.start.digits) ++ more = h.line_is ∙ ap (λ w. w ++ more) h.start.word_is in
    ap says_nothing e

silent_has_none : (line : List ℕ) (r : BlockRange) → says_nothing line ≡ true → HasFields line r → ⊥
silent_has_none line r silent h = false≢true (sym (fields_speak line r h) ∙ silent)

name_once : (ls : List (List ℕ)) (rs qs : List BlockRange) → Name ls rs → Name ls qs → rs ≡ qs
name_once [] rs qs h k = h ∙ sym k
name_once (l ∷ ls) rs qs (inl (p, h)) (inl (q, k)) = name_once ls rs qs h k
name_once (l ∷ ls) rs qs (inl (p, h)) (inr (q, more, is, fields, k)) = absurd (silent_has_none l q p fields)
name_once (l ∷ ls) rs qs (inr (r, more, is, fields, h)) (inl (q, k)) = absurd (silent_has_none l r q fields)
name_once (l ∷ ls) rs qs (inr (r, more, is, fields, h)) (inr (q, rest, also, line, k)) =
    is ∙ ap (λ z. z ∷ more) (fields_once l r q fields line) ∙ ap (λ z. q ∷ z) (name_once ls more rest h k) ∙ sym also

pub layout_once : (text : List ℕ) (shared : List Lines) (n : ℕ) (s t : Shape) → IsLayoutOf text shared n s → IsLayoutOf text shared n t → s ≡ t
layout_once text shared n s t h k =
    let a : s.shared ≡ t.shared = h.shared_is ∙ sym k.shared_is in
    let b : s.named ≡ t.named = name_once (text_lines text) s.named t.named h.named k.named in
    let c : s.nodes ≡ t.nodes = h.nodes_is ∙ sym k.nodes_is in
    λ i. record { shared = a i; named = b i; nodes = c i }

-- lines that name ranges, in two parts
record AreNamed (ls more : List (List ℕ)) (rs : List BlockRange) : Type 0 where
  pub front : List BlockRange
  pub rest : List BlockRange
  pub all : rs ≡ front ++ rest
  pub first : Name ls front
  pub second : Name more rest

name_parts : (ls more : List (List ℕ)) (rs : List BlockRange) → Name (ls ++ more) rs → AreNamed ls more rs
name_parts [] more rs h = record { front = []; rest = rs; all = refl; first = refl; second = h }
name_parts (l ∷ ls) more rs (inl (p, h)) =
    let t = name_parts ls more rs h in
    record { front = t.front; rest = t.rest; all = t.all; first = inl (p, t.first); second = t.second }
name_parts (l ∷ ls) more rs (inr (r, tail, is, fields, h)) =
    let t = name_parts ls more tail h in
    record { front = r ∷ t.front; rest = t.rest; all = is ∙ ap (λ z. r ∷ z) t.all; first = inr (r, t.front, refl, fields, t.first); second = t.second }

-- a range of a valid layout violates nothing
violates_none : (shared : List Lines) (n : ℕ) (front tail : List BlockRange) (r : BlockRange) (rule : LayoutRule) → IsValid (record { shared = shared; named = front ++ r ∷ tail; nodes = n }) → Violates shared n front r rule → ⊥
violates_none shared n front tail r rule v h = go rule h
  where
    less : length front < length (front ++ r ∷ tail)
    less = omega (arith, length-append front (r ∷ tail))

    at : (d : BlockRange) → get_or (front ++ r ∷ tail) (length front) d ≡ r
    at d = get_or_at front r tail d (length front) refl

    range : IsRange shared n r
    range = let P : BlockRange → Type 0 = λ z. IsRange shared n z in subst P (at r) (v.named (length front) r less)

    go : (q : LayoutRule) → Violates shared n front r q → ⊥
    go Syntax h = h
    go BlockSize h = false≢true (sym h ∙ range.size)
    go Unaligned h = false≢true (sym h ∙ range.whole)
    go NotShared h = false≢true (sym h.2 ∙ range.lines h.0 h.1)
    go Home h = false≢true (sym h ∙ range.home)
    go Overlap h = over h.0 h.1 (find (names h.0) front) refl h.2
      where
        over : (x : ℕ) → names x r ≡ true → (o : Option BlockRange) → find (names x) front ≡ o → IsSome o → ⊥
        over x has None e some = false≢true some
        over x has (Some q) e some =
            let f : IsFound (names x) front q = find_found (names x) front q e in
            let apart : AreApart (get_or (front ++ r ∷ tail) f.place q) (get_or (front ++ r ∷ tail) (length front) q) = v.apart f.place (length front) q f.within less in
            let first : get_or (front ++ r ∷ tail) f.place q ≡ q = get_or_append_left front (r ∷ tail) q f.place f.within ∙ f.is in
            let P : BlockRange → Type 0 = λ z. AreApart z (get_or (front ++ r ∷ tail) (length front) q) in
            let Q : BlockRange → Type 0 = λ z. AreApart q z in
            false≢true (sym (subst Q (at q) (subst P first apart) x f.passes) ∙ has)

range_breaks_none : (shared : List Lines) (n : ℕ) (line : List ℕ) (earlier rest tail : List BlockRange) (r p : BlockRange) (rule : LayoutRule) → rest ≡ r ∷ tail → HasFields line r → HasFields line p → IsValid (record { shared = shared; named = earlier ++ rest; nodes = n }) → Violates shared n earlier p rule → ⊥
range_breaks_none shared n line earlier rest tail r p rule is fields same v violates =
    let W : List BlockRange → Type 0 = λ z. IsValid (record { shared = shared; named = earlier ++ z; nodes = n }) in
    let P : BlockRange → Type 0 = λ z. Violates shared n earlier z rule in
    violates_none shared n earlier tail r rule (subst W is v) (subst P (fields_once line p r same fields) violates)

line_breaks_none : (shared : List Lines) (n : ℕ) (line : List ℕ) (more : List (List ℕ)) (earlier rest : List BlockRange) → Name (line ∷ more) rest → IsValid (record { shared = shared; named = earlier ++ rest; nodes = n }) → (rule : LayoutRule) → Breaks shared n earlier line rule → ⊥
line_breaks_none shared n line more earlier rest (inl (silent, k)) v Syntax b = false≢true (sym b.0 ∙ silent)
line_breaks_none shared n line more earlier rest (inl (silent, k)) v BlockSize b = silent_has_none line b.0 silent b.1
line_breaks_none shared n line more earlier rest (inl (silent, k)) v Unaligned b = silent_has_none line b.0 silent b.1
line_breaks_none shared n line more earlier rest (inl (silent, k)) v NotShared b = silent_has_none line b.0 silent b.1
line_breaks_none shared n line more earlier rest (inl (silent, k)) v Overlap b = silent_has_none line b.0 silent b.1
line_breaks_none shared n line more earlier rest (inl (silent, k)) v Home b = silent_has_none line b.0 silent b.1
line_breaks_none shared n line more earlier rest (inr (r, tail, is, fields, k)) v Syntax b = b.1 r fields
line_breaks_none shared n line more earlier rest (inr (r, tail, is, fields, k)) v BlockSize b = range_breaks_none shared n line earlier rest tail r b.0 BlockSize is fields b.1 v b.2
line_breaks_none shared n line more earlier rest (inr (r, tail, is, fields, k)) v Unaligned b = range_breaks_none shared n line earlier rest tail r b.0 Unaligned is fields b.1 v b.2
line_breaks_none shared n line more earlier rest (inr (r, tail, is, fields, k)) v NotShared b = range_breaks_none shared n line earlier rest tail r b.0 NotShared is fields b.1 v b.2
line_breaks_none shared n line more earlier rest (inr (r, tail, is, fields, k)) v Overlap b = range_breaks_none shared n line earlier rest tail r b.0 Overlap is fields b.1 v b.2
line_breaks_none shared n line more earlier rest (inr (r, tail, is, fields, k)) v Home b = range_breaks_none shared n line earlier rest tail r b.0 Home is fields b.1 v b.2

-- a line among those of a valid layout breaks nothing
breaks_none : (shared : List Lines) (n : ℕ) (before more : List (List ℕ)) (line : List ℕ) (earlier named : List BlockRange) (rule : LayoutRule) → Name before earlier → Name (before ++ line ∷ more) named → IsValid (record { shared = shared; named = named; nodes = n }) → Breaks shared n earlier line rule → ⊥
breaks_none shared n before more line earlier named rule h all v breaks =
    let parts = name_parts before (line ∷ more) named all in
    let same : parts.front ≡ earlier = name_once before parts.front earlier parts.first h in
    let named_is : named ≡ earlier ++ parts.rest = parts.all ∙ ap (λ z. z ++ parts.rest) same in
    let V : List BlockRange → Type 0 = λ z. IsValid (record { shared = shared; named = z; nodes = n }) in
    line_breaks_none shared n line more earlier parts.rest parts.second (subst V named_is v) rule breaks

pub layout_or_fault : (text : List ℕ) (shared : List Lines) (n : ℕ) (s : Shape) (rule : LayoutRule) (line : ℕ) → IsLayoutOf text shared n s → IsFirstFault text shared n rule line → ⊥
layout_or_fault text shared n s rule number h f =
    let P : List (List ℕ) → Type 0 = λ ls. Name ls s.named in
    let same : s ≡ record { shared = shared; named = s.named; nodes = n } = λ i. record { shared = h.shared_is i; named = s.named; nodes = h.nodes_is i } in
    breaks_none shared n f.before f.behind f.line f.earlier s.named rule f.named (subst P f.text_is h.named) (subst IsValid same h.valid) f.breaks

-- where one list is cut at two places
cut_longer : {X : Type 0} (xs ys us vs : List X) (a b : X) → xs ++ a ∷ us ≡ ys ++ b ∷ vs → length xs < length ys → (more : List X) × (ys ≡ xs ++ a ∷ more)
cut_longer [] [] us vs a b e h = absurd (omega arith)
cut_longer [] (y ∷ ys) us vs a b e h = let s : y ≡ a = cc in (ys, ap (λ z. z ∷ ys) s)
cut_longer (x ∷ xs) [] us vs a b e h = absurd (omega arith)
cut_longer (x ∷ xs) (y ∷ ys) us vs a b e h =
    let s : y ≡ x = cc in
    let f : xs ++ a ∷ us ≡ ys ++ b ∷ vs = cc in
    let t = cut_longer xs ys us vs a b f (omega arith) in
    (t.0, ap (λ z. z ∷ ys) s ∙ ap (λ z. x ∷ z) t.1)

cut_same : {X : Type 0} (xs ys us vs : List X) (a b : X) → xs ++ a ∷ us ≡ ys ++ b ∷ vs → length xs ≡ length ys → (xs ≡ ys) × (a ≡ b)
cut_same [] [] us vs a b e h = let s : a ≡ b = cc in (refl, s)
cut_same [] (y ∷ ys) us vs a b e h = absurd (omega arith)
cut_same (x ∷ xs) [] us vs a b e h = absurd (omega arith)
cut_same (x ∷ xs) (y ∷ ys) us vs a b e h =
    let s : x ≡ y = cc in
    let f : xs ++ a ∷ us ≡ ys ++ b ∷ vs = cc in
    let t = cut_same xs ys us vs a b f (omega arith) in
    (ap (λ z. z ∷ xs) s ∙ ap (λ z. y ∷ z) t.0, t.1)

-- a fault isn't among the lines before another
fault_before : (text : List ℕ) (shared : List Lines) (n : ℕ) (rule other : LayoutRule) (i j : ℕ) (f : IsFirstFault text shared n rule i) (g : IsFirstFault text shared n other j) → length f.before < length g.before → ⊥
fault_before text shared n rule other i j f g less =
    let t = cut_longer f.before g.before f.behind g.behind f.line g.line (sym f.text_is ∙ g.text_is) less in
    let P : List (List ℕ) → Type 0 = λ ls. Name ls g.earlier in
    breaks_none shared n f.before t.0 f.line f.earlier g.earlier rule f.named (subst P t.1 g.named) g.valid f.breaks

numbered : ℕ → LayoutRule
numbered n = if n == 30 then Syntax else if n == 31 then BlockSize else if n == 32 then Unaligned else if n == 33 then NotShared else if n == 34 then Overlap else Home

rule_numbered : (rule : LayoutRule) → numbered (number_of rule) ≡ rule
unfolding numbered
rule_numbered Syntax = refl
rule_numbered BlockSize = refl
rule_numbered Unaligned = refl
rule_numbered NotShared = refl
rule_numbered Overlap = refl
rule_numbered Home = refl

same_rule : (rule other : LayoutRule) → number_of rule ≡ number_of other → rule ≡ other
same_rule rule other e = sym (rule_numbered rule) ∙ ap numbered e ∙ rule_numbered other

-- the rule that the first faulty line breaks
rule_once : (text : List ℕ) (shared : List Lines) (n : ℕ) (rule other : LayoutRule) (i j : ℕ) (f : IsFirstFault text shared n rule i) (g : IsFirstFault text shared n other j) → f.before ≡ g.before → f.line ≡ g.line → number_of rule < number_of other → ⊥
rule_once text shared n rule other i j f g before line less =
    let earlier : f.earlier ≡ g.earlier = name_once g.before f.earlier g.earlier (let P : List (List ℕ) → Type 0 = λ ls. Name ls f.earlier in subst P before f.named) g.named in
    let B : List BlockRange → Type 0 = λ z. Breaks shared n z f.line rule in
    let L : List ℕ → Type 0 = λ z. Breaks shared n g.earlier z rule in
    g.lowest rule less (subst L line (subst B earlier f.breaks))

pub fault_once : (text : List ℕ) (shared : List Lines) (n : ℕ) (rule other : LayoutRule) (i j : ℕ) → IsFirstFault text shared n rule i → IsFirstFault text shared n other j → (rule ≡ other) × (i ≡ j)
fault_once text shared n rule other i j f g = elim (cases_lt (length f.before) (length g.before)) [
  | inl less ↦ absurd (fault_before text shared n rule other i j f g less)
  | inr more ↦ elim (cases_lt (length g.before) (length f.before)) [
    | inl less ↦ absurd (fault_before text shared n other rule j i g f less)
    | inr same ↦
        let t = cut_same f.before g.before f.behind g.behind f.line g.line (sym f.text_is ∙ g.text_is) (omega arith) in
        let number : i ≡ j = omega (arith, f.number_is, g.number_is) in
        elim (cases_lt (number_of rule) (number_of other)) [
          | inl low ↦ absurd (rule_once text shared n rule other i j f g t.0 t.1 low)
          | inr high ↦ elim (cases_lt (number_of other) (number_of rule)) [
            | inl low ↦ absurd (rule_once text shared n other rule j i g f (sym t.0) (sym t.1) low)
            | inr equal ↦ (same_rule rule other (omega arith), number)
          ]
        ]
  ]
]

-- the empty text
pub empty_names_none : (shared : List Lines) (n : ℕ) (s : Shape) → IsLayoutOf [] shared n s → s.named ≡ []
empty_names_none shared n s h = name_once ([] ∷ []) s.named [] h.named (inl (refl, refl))

pub empty_has_no_fault : (shared : List Lines) (n : ℕ) (rule : LayoutRule) (line : ℕ) → IsFirstFault [] shared n rule line → ⊥
empty_has_no_fault shared n rule line f =
    let valid : IsValid (record { shared = shared; named = []; nodes = n }) = record {
      some_node = f.valid.some_node;
      few_nodes = f.valid.few_nodes;
      shared = f.valid.shared;
      named = λ k d less. absurd (omega arith);
      apart = λ i j d a b. absurd (omega arith);
    } in
    layout_or_fault [] shared n (record { shared = shared; named = []; nodes = n }) rule line (record { shared_is = refl; nodes_is = refl; named = inl (refl, refl); valid = valid }) f

-- ---- a list of ranges

pub ranges_or_broken : (ranges : List BlockRange) (shared : List Lines) (n : ℕ) (rule : LayoutRule) (number : ℕ) → IsFirstBroken ranges shared n rule number → IsValid (record { shared = shared; named = ranges; nodes = n }) → ⊥
ranges_or_broken ranges shared n rule number f v =
    let V : List BlockRange → Type 0 = λ z. IsValid (record { shared = shared; named = z; nodes = n }) in
    violates_none shared n f.before f.behind f.range rule (subst V f.ranges_are v) f.violates

-- a range that breaks a rule isn't among those before another
broken_before : (ranges : List BlockRange) (shared : List Lines) (n : ℕ) (rule other : LayoutRule) (i j : ℕ) (f : IsFirstBroken ranges shared n rule i) (g : IsFirstBroken ranges shared n other j) → length f.before < length g.before → ⊥
broken_before ranges shared n rule other i j f g less =
    let t = cut_longer f.before g.before f.behind g.behind f.range g.range (sym f.ranges_are ∙ g.ranges_are) less in
    let V : List BlockRange → Type 0 = λ z. IsValid (record { shared = shared; named = z; nodes = n }) in
    violates_none shared n f.before t.0 f.range rule (subst V t.1 g.valid) f.violates

-- the rule that the first of the ranges breaks
broken_rule_once : (ranges : List BlockRange) (shared : List Lines) (n : ℕ) (rule other : LayoutRule) (i j : ℕ) (f : IsFirstBroken ranges shared n rule i) (g : IsFirstBroken ranges shared n other j) → f.before ≡ g.before → f.range ≡ g.range → number_of rule < number_of other → ⊥
broken_rule_once ranges shared n rule other i j f g before range less =
    let B : List BlockRange → Type 0 = λ z. Violates shared n z f.range rule in
    let R : BlockRange → Type 0 = λ z. Violates shared n g.before z rule in
    g.lowest rule less (subst R range (subst B before f.violates))

pub broken_once : (ranges : List BlockRange) (shared : List Lines) (n : ℕ) (rule other : LayoutRule) (i j : ℕ) → IsFirstBroken ranges shared n rule i → IsFirstBroken ranges shared n other j → (rule ≡ other) × (i ≡ j)
broken_once ranges shared n rule other i j f g = elim (cases_lt (length f.before) (length g.before)) [
  | inl less ↦ absurd (broken_before ranges shared n rule other i j f g less)
  | inr more ↦ elim (cases_lt (length g.before) (length f.before)) [
    | inl less ↦ absurd (broken_before ranges shared n other rule j i g f less)
    | inr same ↦
        let t = cut_same f.before g.before f.behind g.behind f.range g.range (sym f.ranges_are ∙ g.ranges_are) (omega arith) in
        let number : i ≡ j = omega (arith, f.number_is, g.number_is) in
        elim (cases_lt (number_of rule) (number_of other)) [
          | inl low ↦ absurd (broken_rule_once ranges shared n rule other i j f g t.0 t.1 low)
          | inr high ↦ elim (cases_lt (number_of other) (number_of rule)) [
            | inl low ↦ absurd (broken_rule_once ranges shared n other rule j i g f (sym t.0) (sym t.1) low)
            | inr equal ↦ (same_rule rule other (omega arith), number)
          ]
        ]
  ]
]
