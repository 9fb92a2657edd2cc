-- The lines of a text, one after another.
use Rattle.std.proofs.Common.{◌≡◌, ℕ, zero, suc, ◌+◌, ◌-◌, ◌<◌, ◌≤◌, Bool, true, false, not, eqb, List, [], ◌∷◌, ◌++◌, length, take, drop, get_or, Option, Some, None, refl, sym, ap, ◌∙◌, subst, inl, inr, arith}
use denote.Ref.{Bor}
use Rattle.std.specs.Option.{IfSome}
use Rattle.std.specs.List.{find, position, prefix_len, All}
use Rattle.std.proofs.lemmas.Bool.{cases_Bool, cases_lt, false≢true, lt-ltb, not-true}
use Rattle.std.proofs.lemmas.List.{take-append-drop, take_rest, drop_more, append-nil, get_or-take, get_or_default, length-take-le, append_assoc, length_push}
use Rattle.std.proofs.lemmas.List.Splits.{slice_split_none, slice_split_at}
use Rattle.std.proofs.lemmas.List.Elements.{All-push}
use Rattle.std.proofs.lemmas.List.Quantifiers.{position-Some, all_pairs_push}
use Rattle.block_layout.specs.declared.ranges.Lines.{Lines}
use Rattle.block_layout.specs.declared.layout.BlockRange.{BlockRange}
use Rattle.block_layout.specs.declared.refused.LayoutRule.{LayoutRule}
use Rattle.block_layout.specs.declared.refused.LayoutRule.TheVariants.{Syntax, BlockSize, Unaligned, NotShared, Overlap, Home}
use Rattle.block_layout.specs.Layout.{IsValid, IsRange, AreApart, names}
use Rattle.block_layout.specs.Text.{text_lines, says_nothing, HasFields, Name, Violates, Breaks, number_of, IsLayoutOf, IsFirstFault, IsFirstBroken}
use Rattle.block_layout.specs.Reading.{IsSound, IsBroken, IsAdded, IsFault, IsTaken, IsReadUpTo, bytes_left}

all_prefix : {X : Type 0} (q : X → Bool) (xs : List X) → length xs ≤ prefix_len q xs → All (λ x. q x ≡ true) xs
all_prefix q [] h = λ k d less. absurd (omega arith)
all_prefix q (x ∷ xs) h = elim (cases_Bool (q x)) [
  | inl y ↦
      let e : prefix_len q (x ∷ xs) ≡ 1 + prefix_len q xs = rw y refl in
      let rest : All (λ x. q x ≡ true) xs = all_prefix q xs (omega arith) in
      each y rest
  | inr n ↦
      let e : prefix_len q (x ∷ xs) ≡ 0 = rw n refl in
      absurd (omega arith)
]
  where
    each : q x ≡ true → All (λ x. q x ≡ true) xs → All (λ x. q x ≡ true) (x ∷ xs)
    each y rest zero d less = y
    each y rest (suc k) d less = rest k d (omega arith)

none_passes : (p : ℕ → Bool) (xs : List ℕ) → position p xs ≡ None → All (λ x. p x ≡ false) xs
none_passes p xs h = elim (cases_lt (prefix_len (λ x. not (p x)) xs) (length xs)) [
  | inl less ↦
      let e : position p xs ≡ Some (prefix_len (λ x. not (p x)) xs) = rw (lt-ltb _ _ less) refl in
      let f : None ≡ Some (prefix_len (λ x. not (p x)) xs) = sym h ∙ e in
      absurd (cc)
  | inr more ↦ λ k d less. not-true (p (get_or xs k d)) (all_prefix (λ x. not (p x)) xs more k d less)
]

-- the first line of a text ends at its first line feed
pub one_line : (text : List ℕ) → None ≡ position (λ c. eqb c 10) text → text_lines text ≡ text ∷ []
one_line text h = slice_split_none (λ c. eqb c 10) text (none_passes (λ c. eqb c 10) text (sym h))

pub first_line : (text : List ℕ) (end : ℕ) → Some end ≡ position (λ c. eqb c 10) text → text_lines text ≡ take end text ∷ text_lines (take (length text - (end + 1)) (drop (end + 1) text))
first_line text end h =
    let p = position-Some (λ c. eqb c 10) text end 0 (sym h) in
    let parts : text ≡ take end text ++ get_or text end 0 ∷ drop (end + 1) text =
    sym (take-append-drop end text) ∙ ap (λ ys. take end text ++ ys) (drop_more text end 0 p.0) in
    let before : All (λ c. eqb c 10 ≡ false) (take end text) = λ k d less. before_end k d less in
    ap text_lines parts ∙ slice_split_at (λ c. eqb c 10) (take end text) (get_or text end 0) (drop (end + 1) text) before p.1 ∙ ap (λ ys. take end text ∷ text_lines ys) (sym (take_rest text (end + 1)))
  where
    before_end : (k d : ℕ) → k < length (take end text) → eqb (get_or (take end text) k d) 10 ≡ false
    before_end k d less =
        let p = position-Some (λ c. eqb c 10) text end 0 (sym h) in
        let few : length (take end text) ≡ end = length-take-le end text (omega (arith, p.0)) in
        let there : get_or (take end text) k d ≡ get_or text k 0 = get_or-take end text k d (omega arith) ∙ get_or_default text k d 0 (omega (arith, p.0)) in
        ap (λ c. eqb c 10) there ∙ p.2 k (omega arith)

find_none : {X : Type 0} (p : X → Bool) (xs : List X) (k : ℕ) (d : X) → find p xs ≡ None → k < length xs → p (get_or xs k d) ≡ false
find_none p [] k d h less = absurd (omega arith)
find_none p (x ∷ xs) zero d h less = elim (cases_Bool (p x)) [
  | inl y ↦ let t = rw y at h in absurd (cc)
  | inr n ↦ n
]
find_none p (x ∷ xs) (suc k) d h less = elim (cases_Bool (p x)) [
  | inl y ↦ let t = rw y at h in absurd (cc)
  | inr n ↦ find_none p xs k d (rw n at h) (omega arith)
]

-- a line that says nothing adds nothing
pub taken_none : (shared : List Lines) (nodes : ℕ) (earlier : List BlockRange) (line : List ℕ) → says_nothing line ≡ true → IsValid (record { shared = shared; named = earlier; nodes = nodes }) → IsTaken shared nodes earlier line earlier
taken_none shared nodes earlier line h v = record {
  added = [];
  named_is = sym (append-nil earlier);
  names_are = inl (h, refl);
  valid = v;
}

-- a sound range is added to a valid layout
pub added_one : (shared : List Lines) (nodes : ℕ) (earlier named : List BlockRange) (r : BlockRange) → named ≡ earlier ++ r ∷ [] → IsSound shared nodes earlier r → IsValid (record { shared = shared; named = earlier; nodes = nodes }) → IsAdded shared nodes earlier r named
added_one shared nodes earlier named r is sound v =
    let P : List BlockRange → Type 0 = λ rs. IsValid (record { shared = shared; named = rs; nodes = nodes }) in
    let valid : IsValid (record { shared = shared; named = earlier ++ r ∷ []; nodes = nodes }) = record {
      some_node = v.some_node;
      few_nodes = v.few_nodes;
      shared = v.shared;
      named = All-push (IsRange shared nodes) earlier r v.named sound.range;
      apart = all_pairs_push AreApart earlier r v.apart (λ k d less. λ x e. elim (cases_Bool (names x r)) [
        | inl y ↦ absurd (false≢true (sym (find_none (names x) earlier k d (sound.new x y) less) ∙ e))
        | inr n ↦ n
      ]);
    } in
    record { named_is = is; valid = subst P (sym is) valid }

number_low : (rule : LayoutRule) → 30 ≤ number_of rule
number_low Syntax = omega arith
number_low BlockSize = omega arith
number_low Unaligned = omega arith
number_low NotShared = omega arith
number_low Overlap = omega arith
number_low Home = omega arith

pub fault_syntax : (shared : List Lines) (nodes : ℕ) (earlier : List BlockRange) (line : List ℕ) → says_nothing line ≡ false → ((r : BlockRange) → HasFields line r → ⊥) → IsFault shared nodes earlier line Syntax
fault_syntax shared nodes earlier line h none = record {
  breaks = (h, none);
  lowest = λ other less b. let t : 30 ≤ number_of other = number_low other in absurd (omega arith);
}

range_breaks : (shared : List Lines) (nodes : ℕ) (earlier : List BlockRange) (line : List ℕ) (r : BlockRange) (rule : LayoutRule) → HasFields line r → Violates shared nodes earlier r rule → Breaks shared nodes earlier line rule
range_breaks shared nodes earlier line r Syntax h v = absurd v
range_breaks shared nodes earlier line r BlockSize h v = (r, h, v)
range_breaks shared nodes earlier line r Unaligned h v = (r, h, v)
range_breaks shared nodes earlier line r NotShared h v = (r, h, v)
range_breaks shared nodes earlier line r Overlap h v = (r, h, v)
range_breaks shared nodes earlier line r Home h v = (r, h, v)

-- what a line with fields breaks, its range violates
breaks_range : (shared : List Lines) (nodes : ℕ) (earlier : List BlockRange) (line : List ℕ) (r : BlockRange) (rule : LayoutRule) → HasFields line r → ((q : BlockRange) → HasFields line q → Some r ≡ Some q) → Breaks shared nodes earlier line rule → Violates shared nodes earlier r rule
breaks_range shared nodes earlier line r Syntax h only b = b.1 r h
breaks_range shared nodes earlier line r BlockSize h only b = let e : Some r ≡ Some b.0 = only b.0 b.1 in let P : BlockRange → Type 0 = λ q. Violates shared nodes earlier q BlockSize in let s : b.0 ≡ r = cc in subst P s b.2
breaks_range shared nodes earlier line r Unaligned h only b = let e : Some r ≡ Some b.0 = only b.0 b.1 in let P : BlockRange → Type 0 = λ q. Violates shared nodes earlier q Unaligned in let s : b.0 ≡ r = cc in subst P s b.2
breaks_range shared nodes earlier line r NotShared h only b = let e : Some r ≡ Some b.0 = only b.0 b.1 in let P : BlockRange → Type 0 = λ q. Violates shared nodes earlier q NotShared in let s : b.0 ≡ r = cc in subst P s b.2
breaks_range shared nodes earlier line r Overlap h only b = let e : Some r ≡ Some b.0 = only b.0 b.1 in let P : BlockRange → Type 0 = λ q. Violates shared nodes earlier q Overlap in let s : b.0 ≡ r = cc in subst P s b.2
breaks_range shared nodes earlier line r Home h only b = let e : Some r ≡ Some b.0 = only b.0 b.1 in let P : BlockRange → Type 0 = λ q. Violates shared nodes earlier q Home in let s : b.0 ≡ r = cc in subst P s b.2

pub fault_range : (shared : List Lines) (nodes : ℕ) (earlier : List BlockRange) (line : List ℕ) (r : BlockRange) (rule : LayoutRule) → HasFields line r → ((q : BlockRange) → HasFields line q → Some r ≡ Some q) → IsBroken shared nodes earlier r rule → IsFault shared nodes earlier line rule
fault_range shared nodes earlier line r rule h only broken = record {
  breaks = range_breaks shared nodes earlier line r rule h broken.violates;
  lowest = λ other less b. broken.lowest other less (breaks_range shared nodes earlier line r other h only b);
}

name_append : (xs ys : List (List ℕ)) (rs qs : List BlockRange) → Name xs rs → Name ys qs → Name (xs ++ ys) (rs ++ qs)
name_append [] ys rs qs h k = let P : List BlockRange → Type 0 = λ zs. Name ys zs in subst P (ap (λ zs. zs ++ qs) (sym h)) k
name_append (x ∷ xs) ys rs qs (inl (silent, h)) k = inl (silent, name_append xs ys rs qs h k)
name_append (x ∷ xs) ys rs qs (inr (r, rest, is, fields, h)) k = inr (r, rest ++ qs, ap (λ zs. zs ++ qs) is, fields, name_append xs ys rest qs h k)

pub read_first : (text : List ℕ) (shared : List Lines) (nodes : ℕ) → IsValid (record { shared = shared; named = []; nodes = nodes }) → IsReadUpTo text shared nodes [] (text_lines text) 0
read_first text shared nodes v = record { done = []; text_is = refl; number_is = refl; names_are = refl; valid = v }

pub read_more : (text : List ℕ) (shared : List Lines) (nodes : ℕ) (named new : List BlockRange) (left behind : List (List ℕ)) (line : List ℕ) (number : ℕ) → left ≡ line ∷ behind → IsReadUpTo text shared nodes named left number → IsTaken shared nodes named line new → IsReadUpTo text shared nodes new behind (number + 1)
read_more text shared nodes named new left behind line number left_is h t =
    let P : List BlockRange → Type 0 = λ zs. Name (h.done ++ line ∷ []) zs in
    record {
      done = h.done ++ line ∷ [];
      text_is = h.text_is ∙ ap (λ z. h.done ++ z) left_is ∙ sym (append_assoc h.done (line ∷ []) behind);
      number_is = omega (arith, h.number_is, length_push h.done line);
      names_are = subst P (sym t.named_is) (name_append h.done (line ∷ []) named t.added h.names_are t.names_are);
      valid = t.valid;
    }

pub read_fault : (text : List ℕ) (shared : List Lines) (nodes : ℕ) (named : List BlockRange) (left behind : List (List ℕ)) (line : List ℕ) (number : ℕ) (rule : LayoutRule) → left ≡ line ∷ behind → IsReadUpTo text shared nodes named left number → IsFault shared nodes named line rule → IsFirstFault text shared nodes rule (number + 1)
read_fault text shared nodes named left behind line number rule left_is h t = record {
  before = h.done;
  line = line;
  behind = behind;
  text_is = h.text_is ∙ ap (λ z. h.done ++ z) left_is;
  number_is = omega (arith, h.number_is);
  earlier = named;
  named = h.names_are;
  valid = h.valid;
  breaks = t.breaks;
  lowest = t.lowest;
}

pub read_all : (text : List ℕ) (shared : List Lines) (nodes : ℕ) (named : List BlockRange) (left : List (List ℕ)) (number : ℕ) → left ≡ [] → IsReadUpTo text shared nodes named left number → IsLayoutOf text shared nodes (record { shared = shared; named = named; nodes = nodes })
read_all text shared nodes named left number none h =
    let e : h.done ≡ text_lines text = sym (h.text_is ∙ ap (λ z. h.done ++ z) none ∙ append-nil h.done) in
    let P : List (List ℕ) → Type 0 = λ ls. Name ls named in
    record { shared_is = refl; nodes_is = refl; named = subst P e h.names_are; valid = h.valid }

pub bytes_shorter : (o : Option (Bor (List ℕ))) (n : ℕ) → IfSome o (λ b. length b.now < n) → bytes_left o ≤ n
bytes_shorter None n h = omega arith
bytes_shorter (Some b) n h = omega arith

-- ---- a list of ranges, one after another

-- ranges are taken up to a place
pub record AreTaken (ranges : List BlockRange) (shared : List Lines) (nodes : ℕ) (named : List BlockRange) (place : ℕ) : Type 0 where
  pub named_is : named ≡ take place ranges
  pub valid : IsValid (record { shared = shared; named = named; nodes = nodes })

pub ranges_broken : (ranges : List BlockRange) (shared : List Lines) (nodes : ℕ) (named : List BlockRange) (place : ℕ) (r d : BlockRange) (rule : LayoutRule) → place < length ranges → r ≡ get_or ranges place d → AreTaken ranges shared nodes named place → IsBroken shared nodes named r rule → IsFirstBroken ranges shared nodes rule (place + 1)
ranges_broken ranges shared nodes named place r d rule less is taken broken = record {
  before = named;
  range = r;
  behind = drop (place + 1) ranges;
  ranges_are =
      sym (take-append-drop place ranges) ∙ ap (λ rs. take place ranges ++ rs) (drop_more ranges place d less)
      ∙ ap (λ q. take place ranges ++ q ∷ drop (place + 1) ranges) (sym is)
      ∙ ap (λ rs. rs ++ r ∷ drop (place + 1) ranges) (sym taken.named_is);
  number_is = omega (arith, ap length taken.named_is, length-take-le place ranges (omega arith));
  valid = taken.valid;
  violates = broken.violates;
  lowest = broken.lowest;
}
