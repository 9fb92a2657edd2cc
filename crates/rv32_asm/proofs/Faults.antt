-- A text has one first fault at most, and none where it has an executable.
use Rattle.std.proofs.Common.{◌≡◌, ℕ, ◌<◌, List, [], ◌∷◌, ◌++◌, length, refl, sym, ap, ◌∙◌, subst, arith, inl, inr, ◌⊎◌}
use Rattle.elf32_read.specs.Elf.{Elf}
use Rattle.rv32_lines.specs.Statements.{Statement, IsReading}
use Rattle.rv32_asm.specs.declared.refused.AsmRule.{AsmRule}
use Rattle.rv32_asm.specs.declared.refused.AsmRule.TheVariants as rule
use Rattle.rv32_asm.specs.Rules.{number_of, Breaks, AreSound, IsEmpty, IsFirstBroken, HasNoSegment, IsFirstFault}
use Rattle.rv32_asm.specs.Assembling.{IsAssembled}

abbrev pub ReadsOnce : Type 0
ReadsOnce = (text : List ℕ) (a b : List Statement) → IsReading text a → IsReading text b → a ≡ b

-- two cuts of a list are one, or one of them stands before the other
cuts : (a b r q : List Statement) (x y : Statement) → a ++ x ∷ r ≡ b ++ y ∷ q
    → ((a ≡ b) × (x ≡ y))
    ⊎ (((m : List Statement) × (b ≡ a ++ x ∷ m)) ⊎ ((m : List Statement) × (a ≡ b ++ y ∷ m)))
cuts [] [] r q x y e = let same : x ≡ y = cc in inl (refl, same)
cuts [] (z ∷ b) r q x y e = let same : z ≡ x = cc in inr (inl (b, ap (λ t. t ∷ b) same))
cuts (z ∷ a) [] r q x y e = let same : z ≡ y = cc in inr (inr (a, ap (λ t. t ∷ a) same))
cuts (z ∷ a) (w ∷ b) r q x y e =
    let head : z ≡ w = cc in
    let tail : a ++ x ∷ r ≡ b ++ y ∷ q = cc in
    elim (cuts a b r q x y tail) [
      | inl s ↦ (let all : z ∷ a ≡ w ∷ b = cc (s.0, head) in inl (all, s.1))
      | inr s ↦
          elim s [
            | inl m ↦ (let all : w ∷ b ≡ z ∷ (a ++ x ∷ m.0) = cc (m.1, head) in inr (inl (m.0, all)))
            | inr m ↦ (let all : z ∷ a ≡ w ∷ (b ++ y ∷ m.0) = cc (m.1, head) in inr (inr (m.0, all)))
          ]
    ]

same_number : (r q : AsmRule) → number_of r ≡ number_of q → r ≡ q
same_number rule.Syntax rule.Syntax e = refl
same_number rule.Range rule.Range e = refl
same_number rule.Name rule.Name e = refl
same_number rule.Place rule.Place e = refl
same_number rule.Size rule.Size e = refl
same_number rule.Empty rule.Empty e = refl
same_number r q e = absurd (omega (arith, e))

-- the lowest of the rules that one statement breaks
lowest_once : (all before : List Statement) (s : Statement) (r q : AsmRule) → Breaks all before s r
    → Breaks all before s q
    → ((o : AsmRule) → number_of o < number_of r → Breaks all before s o → ⊥)
    → ((o : AsmRule) → number_of o < number_of q → Breaks all before s o → ⊥) → r ≡ q
lowest_once all before s r q p h f g =
    let a : number_of q < number_of r → ⊥ = λ less. f q less h in
    let b : number_of r < number_of q → ⊥ = λ less. g r less p in
    same_number r q (omega (arith, a, b))

broken_once : (all : List Statement) (r q : AsmRule) (k l : ℕ) → IsFirstBroken all r k → IsFirstBroken all q l
    → (r ≡ q) × (k ≡ l)
broken_once all r q k l p h =
    elim (cuts p.before h.before p.rest h.rest p.statement h.statement (sym p.all_are ∙ h.all_are)) [
      | inl s ↦
          (let breaks : Breaks all p.before p.statement q =
          subst (λ (x : Statement). Breaks all p.before x q) (sym s.1)
          (subst (λ (b : List Statement). Breaks all b h.statement q) (sym s.0) h.breaks) in
          let lowest : (o : AsmRule) → number_of o < number_of q → Breaks all p.before p.statement o → ⊥ =
          λ o less x.
          h.lowest o less
          (subst (λ (y : Statement). Breaks all h.before y o) s.1
          (subst (λ (b : List Statement). Breaks all b p.statement o) s.0 x)) in
          let lines : k ≡ l = omega (arith, ap length s.0, p.line_is, h.line_is) in
          (lowest_once all p.before p.statement r q p.breaks breaks p.lowest lowest, lines))
      | inr s ↦
          elim s [
            | inl m ↦ absurd (h.sound p.before p.statement m.0 r m.1 p.breaks)
            | inr m ↦ absurd (p.sound h.before h.statement m.0 q m.1 h.breaks)
          ]
    ]

fault_once : (all : List Statement) (r q : AsmRule) (k l : ℕ)
    → IsFirstBroken all r k ⊎ HasNoSegment all r k → IsFirstBroken all q l ⊎ HasNoSegment all q l
    → (r ≡ q) × (k ≡ l)
fault_once all r q k l (inl p) (inl h) = broken_once all r q k l p h
fault_once all r q k l (inl p) (inr h) = absurd (h.sound p.before p.statement p.rest r p.all_are p.breaks)
fault_once all r q k l (inr p) (inl h) = absurd (p.sound h.before h.statement h.rest q h.all_are h.breaks)
fault_once all r q k l (inr p) (inr h) = (p.rule_is ∙ sym h.rule_is, p.line_is ∙ sym h.line_is)

pub faults_once : ReadsOnce → (text : List ℕ) (r q : AsmRule) (k l : ℕ) → IsFirstFault text r k
    → IsFirstFault text q l → (r ≡ q) × (k ≡ l)
faults_once read text r q k l p h =
    let same : h.statements ≡ p.statements = read text h.statements p.statements h.reading p.reading in
    fault_once p.statements r q k l p.fault
    (subst (λ (ss : List Statement). IsFirstBroken ss q l ⊎ HasNoSegment ss q l) same h.fault)

fault_apart : (all : List Statement) (r : AsmRule) (k : ℕ) → AreSound all → (IsEmpty all → ⊥)
    → IsFirstBroken all r k ⊎ HasNoSegment all r k → ⊥
fault_apart all r k sound some (inl p) = sound p.before p.statement p.rest r p.all_are p.breaks
fault_apart all r k sound some (inr p) = some p.empty

pub apart : ReadsOnce → (text : List ℕ) (e : Elf) (r : AsmRule) (k : ℕ) → IsAssembled text e
    → IsFirstFault text r k → ⊥
apart read text e r k p h =
    let same : h.statements ≡ p.statements = read text h.statements p.statements h.reading p.reading in
    fault_apart p.statements r k p.sound p.some
    (subst (λ (ss : List Statement). IsFirstBroken ss r k ⊎ HasNoSegment ss r k) same h.fault)
