-- The class of a line, by halving.
use Rattle.std.proofs.Common.{◌≡◌, ℕ, zero, suc, ◌+◌, ◌-◌, ◌<◌, ◌≤◌, ◌⊎◌, true, false, Bool, leb, List, [], ◌∷◌, length, get_or, refl, sym, arith, inl, inr}
use Rattle.std.specs.List.Sorted.{IsPartitionPoint, IsPartitionedBy, IsNonDecreasingBy}
use Rattle.std.proofs.lemmas.Bool.{leb-true, leb-false}
use Rattle.std.proofs.lemmas.Bool.Decides.{leb_tells, nat_tests}
use Rattle.std.proofs.lemmas.List.Sorted.{IsPartitionedBy-leb, IsPartitionPoint-from_clause}
use Rattle.std.specs.Fn.{Called, ComputesKey}
use denote.Param.Members.{Mut}
use denote.Ref.{Bor}
use Rattle.state_table.specs.declared.classes.LineClass.{LineClass}
use Rattle.state_table.specs.LineClasses.{has, AreClasses, class_byte}

pub has_not_yet : (c : LineClass) (line : ℕ) → line < c.first → has c line ≡ false
has_not_yet c line h = grind (arith, nat_tests)

pub has_no_more : (c : LineClass) (line : ℕ) → c.first + c.lines ≤ line → has c line ≡ false
has_no_more c line h = grind (arith, nat_tests)

pub has_here : (c : LineClass) (line : ℕ) → c.first ≤ line → line < c.first + c.lines → has c line ≡ true
has_here c line low high = grind (arith, nat_tests)

class_at : (cs : List LineClass) (line i : ℕ) (d : LineClass) → i < length cs → has (get_or cs i d) line ≡ true → ((j : ℕ) → j < i → has (get_or cs j d) line ≡ false) → class_byte cs line ≡ (get_or cs i d).byte
class_at [] line i d within h before = absurd (omega arith)
class_at (c ∷ cs) line zero d within h before = rw h refl
class_at (c ∷ cs) line (suc i) d within h before =
    rw (before 0 (omega arith)) (class_at cs line i d (omega arith) h (λ j below. before (suc j) (omega arith)))

class_none : (cs : List LineClass) (line : ℕ) (d : LineClass) → ((j : ℕ) → j < length cs → has (get_or cs j d) line ≡ false) → class_byte cs line ≡ 7
class_none [] line d none = refl
class_none (c ∷ cs) line d none =
    rw (none 0 (omega arith)) (class_none cs line d (λ j below. none (suc j) (omega arith)))

rises : (cs : List LineClass) → AreClasses cs → IsNonDecreasingBy (λ c. c.first) cs
rises cs h i j d order within = elim (leb_tells j i) [
  | inl e ↦ (let same : i ≡ j = omega arith in rw same (omega arith))
  | inr e ↦ omega (arith, h.ascending i j d e.1 within)
]

pub partitioned : (cs : List LineClass) (line : ℕ) → AreClasses cs → IsPartitionedBy (λ c. leb c.first line) cs
partitioned cs line h = IsPartitionedBy-leb (λ (c : LineClass). c.first) cs line (rises cs h)

-- the classes before a place begin at or below the line, and the others above it
pub record IsPlace (cs : List LineClass) (line i : ℕ) (d : LineClass) : Type 0 where
  pub bound : i ≤ length cs
  pub low : (j : ℕ) → j < i → (get_or cs j d).first ≤ line
  pub high : (j : ℕ) → i ≤ j → j < length cs → line < (get_or cs j d).first

pub place_is : (cs : List LineClass) (line i : ℕ) (d : LineClass) → i ≤ length cs → IsPartitionPoint (λ c. leb c.first line ≡ true) (λ c. leb c.first line ≡ false) cs i → IsPlace cs line i d
place_is cs line i d bound p = record {
  bound = bound;
  low = λ j below. leb-true _ _ (p.0 j d (omega arith) below);
  high = λ j from within. leb-false _ _ (p.1 j d from within);
}

before_last : (cs : List LineClass) (line i : ℕ) (d : LineClass) → AreClasses cs → IsPlace cs line i d → 0 < i → (j : ℕ) → j < i - 1 → has (get_or cs j d) line ≡ false
before_last cs line i d h p some j below =
    has_no_more (get_or cs j d) line (omega (arith, h.ascending j (i - 1) d below (omega (arith, p.bound)), p.low (i - 1) (omega arith)))

pub byte_there : (cs : List LineClass) (line i : ℕ) (d : LineClass) → AreClasses cs → IsPlace cs line i d → 0 < i → line - (get_or cs (i - 1) d).first < (get_or cs (i - 1) d).lines → (get_or cs (i - 1) d).byte ≡ class_byte cs line
byte_there cs line i d h p some within =
    let low : (get_or cs (i - 1) d).first ≤ line = p.low (i - 1) (omega arith) in
    let bound = p.bound in
    sym (class_at cs line (i - 1) d (omega arith) (has_here (get_or cs (i - 1) d) line low (omega arith)) (before_last cs line i d h p some))

pub byte_nowhere : (cs : List LineClass) (line i : ℕ) (d : LineClass) → AreClasses cs → IsPlace cs line i d → ((0 < i) × ((get_or cs (i - 1) d).lines ≤ line - (get_or cs (i - 1) d).first)) ⊎ (i ≤ 0) → 7 ≡ class_byte cs line
byte_nowhere cs line i d h p (inl e) = sym (class_none cs line d go)
  where
    last : has (get_or cs (i - 1) d) line ≡ false
    last = has_no_more (get_or cs (i - 1) d) line (omega (arith, e.1, p.low (i - 1) (omega (arith, e.0))))

    go : (j : ℕ) → j < length cs → has (get_or cs j d) line ≡ false
    go j within = elim (leb_tells i j) [
      | inl a ↦ has_not_yet (get_or cs j d) line (p.high j a.1 within)
      | inr a ↦ elim (leb_tells (i - 1) j) [
        | inl b ↦ (let same : j ≡ i - 1 = omega (arith, a.1, b.1) in rw same last)
        | inr b ↦ before_last cs line i d h p e.0 j b.1
      ]
    ]
byte_nowhere cs line i d h p (inr none) = sym (class_none cs line d (λ j within. has_not_yet (get_or cs j d) line (p.high j (omega arith) within)))

-- the place that `partition_point` gives
pub place_found : {F : Type 0} {g : Mut F (Bor LineClass × Unit {0}) Bool} {f : F} (cs : List LineClass) (line i : ℕ) (d : LineClass) → AreClasses cs → i ≤ length cs → ((q : LineClass → Bool) → ComputesKey g q f → IsPartitionedBy q cs → IsPartitionPoint (λ y. q y ≡ true) (λ y. q y ≡ false) cs i) → ((a : Bor LineClass × Unit {0}) (r : Bool) (f' : F) → Called g f a r f' → (r ≡ leb a.0.now.first line) × (f' ≡ f)) → IsPlace cs line i d
place_found cs line i d h bound clause calls =
    place_is cs line i d bound (IsPartitionPoint-from_clause (λ (c : LineClass). leb c.first line) cs i clause (partitioned cs line h) calls)
