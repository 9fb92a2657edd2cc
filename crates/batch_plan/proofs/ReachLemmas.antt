-- What instructions reach with others behind them.
use Rattle.std.proofs.Common.{◌≡◌, ◌≢◌, ℕ, zero, suc, ℤ, pos, ◌+ℤ◌, ◌≤ℤ◌, Bool, true, false, List, [], ◌∷◌, ◌++◌, length, Option, Some, None, refl, sym, ap, ◌∙◌, subst, arith}
use Rattle.std.specs.Prelude.{int_le, ◌&&◌, if◌then◌else◌, is_some, filter_map}
use Rattle.std.specs.List.{cons_option, list_all, list_any}
use Rattle.std.proofs.lemmas.Bool.{and_parts, and_from}
use Rattle.std.proofs.lemmas.Int.{ints}
use Rattle.std.proofs.lemmas.List.Elements.{filter_map-append}
use Rattle.std.proofs.lemmas.List.Folds.{list_all-append}
use Rattle.rv32_decode.specs.declared.Instr.{Instr}
use Rattle.templates.specs.declared.reaches.Reach.{Reach}
use Rattle.templates.specs.Runs.{Span, span_of, is_access, is_store, lesser, greater, least, greatest, reach_by, reach_of, may_stand, has_access}
use Rattle.templates.specs.Reaches.{is_near}
use Rattle.batch_plan.specs.Stretches.{IsFront}

-- ---- order

pub le_of : (x y : ℤ) → int_le x y ≡ true → x ≤ℤ y
le_of x y h = grind (arith, ints)

pub of_le : (x y : ℤ) → x ≤ℤ y → int_le x y ≡ true
of_le x y h = grind (arith, ints)

not_le : (x y : ℤ) → int_le x y ≡ false → y ≤ℤ x
not_le x y h = grind (arith, ints)

same_le : (x : ℤ) → x ≤ℤ x
same_le x = omega (arith, ints)

le_trans : (x y z : ℤ) → x ≤ℤ y → y ≤ℤ z → x ≤ℤ z
le_trans x y z g h = omega (arith, ints)

lesser_le : (x y : ℤ) → lesser x y ≤ℤ x
lesser_le x y = go (int_le x y) refl
  where
    go : (b : Bool) → int_le x y ≡ b → (if b then x else y) ≤ℤ x
    go true h = same_le x
    go false h = not_le x y h

le_greater : (x y : ℤ) → x ≤ℤ greater x y
le_greater x y = go (int_le x y) refl
  where
    go : (b : Bool) → int_le x y ≡ b → x ≤ℤ (if b then y else x)
    go true h = le_of x y h
    go false h = same_le x

-- ---- the least and the greatest offset, of more

least_append : (low : ℤ) (xs ys : List Span) → least low (xs ++ ys) ≡ least (least low xs) ys
least_append low [] ys = refl
least_append low (x ∷ xs) ys = least_append (lesser low x.low) xs ys

greatest_append : (high : ℤ) (xs ys : List Span)
    → greatest high (xs ++ ys) ≡ greatest (greatest high xs) ys
greatest_append high [] ys = refl
greatest_append high (x ∷ xs) ys = greatest_append (greater high x.high) xs ys

least_le : (low : ℤ) (xs : List Span) → least low xs ≤ℤ low
least_le low [] = same_le low
least_le low (x ∷ xs) =
    le_trans (least (lesser low x.low) xs) (lesser low x.low) low
    (least_le (lesser low x.low) xs) (lesser_le low x.low)

le_greatest : (high : ℤ) (xs : List Span) → high ≤ℤ greatest high xs
le_greatest high [] = same_le high
le_greatest high (x ∷ xs) =
    le_trans high (greater high x.high) (greatest (greater high x.high) xs)
    (le_greater high x.high) (le_greatest (greater high x.high) xs)

-- ---- instructions that begin with an access

-- what they reach by the same base with others behind: no less
pub record IsWithin (one more : Reach) : Type 0 where
  pub base : more.base ≡ one.base
  pub low : more.low ≤ℤ one.low
  pub high : one.high ≤ℤ more.high

pub within_more : (xs ys : List Instr) → has_access xs 0 ≡ true
    → IsWithin (reach_of xs) (reach_of (xs ++ ys))
within_more [] ys h = cc
within_more (x ∷ xs) ys h = go (span_of x) refl h
  where
    go : (o : Option Span) → span_of x ≡ o → is_some o ≡ true
        → IsWithin (reach_of (x ∷ xs)) (reach_of (x ∷ xs ++ ys))
    go None is some = cc
    go (Some s) is some =
        let front = filter_map span_of xs in
        let behind = filter_map span_of ys in
        let b : Bool = list_any is_store (x ∷ xs) in
        let c : Bool = list_any is_store (x ∷ (xs ++ ys)) in
        let one : reach_of (x ∷ xs) ≡ reach_by (s ∷ front) b =
        ap (λ o. reach_by (cons_option o front) b) is in
        let more : reach_of (x ∷ (xs ++ ys)) ≡ reach_by (s ∷ (front ++ behind)) c =
        ap (λ o. reach_by (cons_option o (filter_map span_of (xs ++ ys))) c) is
        ∙ ap (λ ss. reach_by (s ∷ ss) c) (filter_map-append span_of xs ys) in
        subst (λ r. IsWithin r (reach_of (x ∷ (xs ++ ys)))) (sym one)
        (subst (IsWithin (reach_by (s ∷ front) b)) (sym more) (record {
          base = refl;
          low =
              subst (λ z. z ≤ℤ least s.low front) (sym (least_append s.low front behind))
              (least_le (least s.low front) behind);
          high =
              subst (λ z. greatest s.high front ≤ℤ z) (sym (greatest_append s.high front behind))
              (le_greatest (greatest s.high front) behind);
        }))

near_weaker : (low high lower most : ℤ) → lower ≤ℤ low → high ≤ℤ most
    → (int_le most (lower +ℤ pos 63) && int_le most (pos 2047)) ≡ true
    → (int_le high (low +ℤ pos 63) && int_le high (pos 2047)) ≡ true
near_weaker low high lower most below above h =
    let p = and_parts (int_le most (lower +ℤ pos 63)) (int_le most (pos 2047)) h in
    let near = le_of most (lower +ℤ pos 63) p.0 in
    let small = le_of most (pos 2047) p.1 in
    and_from (int_le high (low +ℤ pos 63)) (int_le high (pos 2047))
    (of_le high (low +ℤ pos 63) (omega (arith, ints, below, above, near)))
    (of_le high (pos 2047) (omega (arith, ints, above, small)))

near_front : (one more : Reach) → IsWithin one more → is_near more ≡ true → is_near one ≡ true
near_front one more h near = near_weaker one.low one.high more.low more.high h.low h.high near

-- ---- the front of instructions

begins_front : (xs ys : List Instr) → length xs ≢ 0 → has_access (xs ++ ys) 0 ≡ true
    → has_access xs 0 ≡ true
begins_front [] ys some h = absurd (some refl)
begins_front (x ∷ xs) ys some h = h

begins_more : (xs ys : List Instr) → has_access xs 0 ≡ true → has_access (xs ++ ys) 0 ≡ true
begins_more [] ys h = cc
begins_more (x ∷ xs) ys h = h

-- a front with one instruction more
pub front_more : (is : List Instr) (i : Instr) → IsFront is
    → may_stand (reach_of is).base i ≡ true → is_near (reach_of (is ++ i ∷ [])) ≡ true
    → IsFront (is ++ i ∷ [])
front_more is i h stands near =
    let within = within_more is (i ∷ []) h.begins in
    record {
      begins = begins_more is (i ∷ []) h.begins;
      nonzero = λ z. h.nonzero (sym within.base ∙ z);
      each =
          subst (λ b. list_all (may_stand b) (is ++ i ∷ []) ≡ true) (sym within.base)
          (list_all-append (may_stand (reach_of is).base) is (i ∷ [])
          ∙ and_from (list_all (may_stand (reach_of is).base) is)
          (list_all (may_stand (reach_of is).base) (i ∷ [])) h.each
          (and_from (may_stand (reach_of is).base i) true stands refl));
      near = near;
    }

-- a front, by the one with an instruction more
pub record IsLess (is : List Instr) (i : Instr) : Type 0 where
  pub front : IsFront is
  pub stands : may_stand (reach_of is).base i ≡ true
  pub near : is_near (reach_of (is ++ i ∷ [])) ≡ true

pub front_less : (is : List Instr) (i : Instr) → length is ≢ 0 → IsFront (is ++ i ∷ [])
    → IsLess is i
front_less is i some h =
    let begins = begins_front is (i ∷ []) some h.begins in
    let within = within_more is (i ∷ []) begins in
    let base = (reach_of is).base in
    let all : (list_all (may_stand base) is && list_all (may_stand base) (i ∷ [])) ≡ true =
    sym (list_all-append (may_stand base) is (i ∷ []))
    ∙ subst (λ b. list_all (may_stand b) (is ++ i ∷ []) ≡ true) within.base h.each in
    let parts = and_parts (list_all (may_stand base) is) (list_all (may_stand base) (i ∷ [])) all in
    record {
      front = record {
        begins = begins;
        nonzero = λ z. h.nonzero (within.base ∙ z);
        each = parts.0;
        near = near_front (reach_of is) (reach_of (is ++ i ∷ [])) within h.near;
      };
      stands = (and_parts (may_stand base i) true parts.1).0;
      near = h.near;
    }

-- the last one
pub last_access : (is : List Instr) (i : Instr) (n : ℕ) → length is ≡ n
    → has_access (is ++ i ∷ []) n ≡ is_access i
last_access [] i zero e = refl
last_access [] i (suc n) e = absurd (omega (arith, e))
last_access (x ∷ xs) i zero e = absurd (omega (arith, e))
last_access (x ∷ xs) i (suc n) e = last_access xs i n (omega (arith, e))
