-- A name has one first line, and so one address at most.
use Rattle.std.proofs.Common.{◌≡◌, ℕ, suc, ◌≤◌, ◌^◌, List, [], ◌∷◌, ◌++◌, length, Option, None, Some, ℤ, refl, sym, ap, ◌∙◌, subst, arith, inl, inr}
use Rattle.std.specs.Prelude.{Contains, Result, Ok, Err, IsSomeAnd}
use denote.Ref.{Bor}
use Rattle.rv32_lines.specs.Texts.{Target, Address, Name}
use Rattle.rv32_lines.specs.Statements.{Statement, Label}
use Rattle.rv32_lines.specs.Reading.{IsReadTarget}
use Rattle.rv32_lines.specs.declared.operands.Target.TheVariants as read
use Rattle.rv32_asm.specs.declared.labels.Label.{Label as Labelled}
use Rattle.rv32_asm.specs.declared.labels.Labels.{Labels}
use Rattle.rv32_asm.specs.declared.refused.AsmRule.{AsmRule}
use Rattle.rv32_asm.specs.declared.refused.AsmRule.TheVariants as rule
use Rattle.rv32_asm.specs.Places.{here, place_behind, IsLabelled, IsNamed}
use Rattle.rv32_asm.specs.Rules.{IsAddress, IsLong, IsFar, IsUnknown, IsBadTarget, target_name}
use Rattle.rv32_asm.specs.Standing.{found, IsFound, AreLabels, UsesUnknown, IsFoundTarget, IsOffset, IsFoundOffset}

cut_once : (a r b q : List Statement) (x : Statement) → a ++ x ∷ r ≡ b ++ x ∷ q → (Contains a x → ⊥)
    → (Contains b x → ⊥) → a ≡ b
cut_once [] r [] q x e f g = refl
cut_once [] r (y ∷ b) q x e f g =
    let same : x ≡ y = cc in
    absurd (g (0, omega arith, sym same))
cut_once (z ∷ a) r [] q x e f g =
    let same : z ≡ x = cc in
    absurd (f (0, omega arith, same))
cut_once (z ∷ a) r (y ∷ b) q x e f g =
    let head : z ≡ y = cc in
    let tail : a ++ x ∷ r ≡ b ++ x ∷ q = cc in
    let more = cut_once a r b q x tail (λ c. f (suc c.0, omega (arith, c.1), c.2))
    (λ c. g (suc c.0, omega (arith, c.1), c.2)) in
    cc (head, more)

pub labelled_once : (all : List Statement) (name : List ℕ) (a b : List Statement) → IsLabelled all name a
    → IsLabelled all name b → a ≡ b
labelled_once all name a b p q =
    cut_once a p.rest b q.rest (Label name) (sym p.statements_are ∙ q.statements_are) p.first q.first

stands : (a r : List Statement) (x : Statement) → Contains (a ++ x ∷ r) x
stands [] r x = (0, omega arith, refl)
stands (y ∷ a) r x = let more = stands a r x in (suc more.0, omega (arith, more.1), more.2)

pub known : (all : List Statement) (name : List ℕ) (before : List Statement) → IsLabelled all name before
    → IsUnknown all name → ⊥
known all name before l u =
    u (subst (λ (ss : List Statement). Contains ss (Label name)) (sym l.statements_are)
    (stands before l.rest (Label name)))

pub named_known : (all : List Statement) (name : List ℕ) (address : ℕ) → IsNamed all name address → IsUnknown all name
    → ⊥
named_known all name address n u = known all name n.before n.labelled u

pub named_here : (all : List Statement) (name : List ℕ) (before : List Statement) (address : ℕ)
    → IsLabelled all name before → IsNamed all name address
    → here (place_behind before) ≡ Some address
named_here all name before address l n =
    ap (λ b. here (place_behind b)) (labelled_once all name before n.before l n.labelled) ∙ n.address_is

pub named_once : (all : List Statement) (name : List ℕ) (a b : ℕ) → IsNamed all name a → IsNamed all name b → a ≡ b
named_once all name a b p q =
    let same : Some a ≡ Some b = sym p.address_is ∙ named_here all name p.before b p.labelled q in
    cc

pub address_once : (all : List Statement) (to : Target) (a b : ℕ) → IsAddress all to a → IsAddress all to b → a ≡ b
address_once all (Address digits) a b p q = p ∙ sym q
address_once all (Name name) a b p q = named_once all name a b p q

target_by : (all : List Statement) (name : List ℕ) (address : Option ℕ) (before : List Statement)
    → IsLabelled all name before
    → address ≡ here (place_behind before) → IsFoundTarget all (Name name) (Ok address)
target_by all name (Some a) before l e =
    (record { before = before; labelled = l; address_is = sym e }, (λ h. h), λ u. known all name before l u)
target_by all name None before l e = (
  (λ a n. let bad : None ≡ Some a = e ∙ named_here all name before a l n in absurd (cc)),
  (λ h. h),
  λ u. known all
      name before l u,
)

pub told_found : (all : List Statement) (labels : Labels) (name : List ℕ) (f : Option Labelled) → AreLabels all labels
    → f ≡ found labels name → IsFound all name f
told_found all labels name f l e = subst (IsFound all name) (sym e) (l name)

pub target_some : (all : List Statement) (labels : Labels) (name : Bor (List ℕ)) (label : Labelled) (t : Target)
    → AreLabels all labels
    → Some label ≡ found labels name.now → IsReadTarget (read.Name name) t → IsFoundTarget all t (Ok label.address)
target_some all labels name label (Address digits) l e h = absurd h
target_some all labels name label (Name other) l e h =
    let f = told_found all labels name.now (Some label) l e in
    subst (λ (n : List ℕ). IsFoundTarget all (Name n) (Ok label.address)) h
    (target_by all name.now label.address f.0 f.1 f.3)

pub target_none : (all : List Statement) (labels : Labels) (name : Bor (List ℕ)) (t : Target) → AreLabels all labels
    → None ≡ found labels name.now → IsReadTarget (read.Name name) t → IsFoundTarget all t (Err rule.Name)
target_none all labels name (Address digits) l e h = absurd h
target_none all labels name (Name other) l e h = subst (IsUnknown all) h (told_found all labels name.now None l e)

pub target_address : (all : List Statement) (address : ℕ) (t : Target) → IsReadTarget (read.Address address) t
    → IsFoundTarget all t (Ok (Some address))
target_address all address (Address digits) h = (h.1, (λ l. absurd (omega (arith, h.0, l))), λ u. u)
target_address all address (Name other) h = absurd h

pub target_long : (all : List Statement) (t : Target) → IsReadTarget read.Long t → IsFoundTarget all t (Err rule.Range)
target_long all (Address digits) h = h
target_long all (Name other) h = absurd h

-- offsets
far_unset : (all : List Statement) (at : Option ℕ) (reach : ℕ) (t : Target) → (IsLong t → ⊥)
    → ((address : ℕ) → IsAddress all t address → ⊥) → IsFar all at reach t → ⊥
far_unset all at reach t long none (inl l) = long l
far_unset all at reach t long none (inr b) = none b.0 b.1

pub offset_unset : (all : List Statement) (at : Option ℕ) (reach : ℕ) (t : Target) → IsFoundTarget all t (Ok None)
    → IsFoundOffset all at reach t (Ok None)
offset_unset all at reach t h = (far_unset all at reach t h.1 h.0, h.2, λ a address e even is. h.0 address is)

unknown_far : (all : List Statement) (at : Option ℕ) (reach : ℕ) (t : Target) → UsesUnknown all (target_name t)
    → IsFar all at reach t → ⊥
unknown_far all at reach (Address digits) u f = absurd u
unknown_far all at reach (Name name) u (inl l) = absurd l
unknown_far all at reach (Name name) u (inr b) = named_known all name b.0 b.1 u

pub offset_refused : (all : List Statement) (at : Option ℕ) (reach : ℕ) (t : Target) (r : AsmRule)
    → IsFoundTarget all t (Err r) → IsFoundOffset all at reach t (Err r)
offset_refused all at reach t rule.Range h = inl h
offset_refused all at reach t rule.Name h = (unknown_far all at reach t h, h)
offset_refused all at reach t rule.Syntax h = absurd h
offset_refused all at reach t rule.Place h = absurd h
offset_refused all at reach t rule.Size h = absurd h
offset_refused all at reach t rule.Empty h = absurd h

not_far : (all : List Statement) (at : Option ℕ) (reach : ℕ) (t : Target) (address : ℕ) → IsAddress all t address
    → (IsLong t → ⊥) → (IsBadTarget at reach address → ⊥)
    → IsFar all at reach t → ⊥
not_far all at reach t address is long bad (inl l) = long l
not_far all at reach t address is long bad (inr b) =
    bad (subst (IsBadTarget at reach) (address_once all t b.0 address b.1 is) b.2)

pub offset_found : (all : List Statement) (at : Option ℕ) (reach : ℕ) (t : Target) (address : ℕ)
    (r : Result (Option ℤ) AsmRule)
    → IsFoundTarget all t (Ok (Some address)) → IsOffset at reach address r → IsFoundOffset all at reach t r
offset_found all at reach t address (Ok (Some offset)) h o =
    (not_far all at reach t address h.0 h.1 o.0, h.2, o.1, address, o.2, h.1, h.0, o.3, o.4)
offset_found all at reach t address (Ok None) h o =
    (not_far all at reach t address h.0 h.1 o.0, h.2, λ a b e even is. o.1 a e even)
offset_found all at reach t address (Err rule.Range) h o = inr (address, h.0, o)
offset_found all at reach t address (Err rule.Name) h o = absurd o
offset_found all at reach t address (Err rule.Syntax) h o = absurd o
offset_found all at reach t address (Err rule.Place) h o = absurd o
offset_found all at reach t address (Err rule.Size) h o = absurd o
offset_found all at reach t address (Err rule.Empty) h o = absurd o

-- an entry line
high_by : (all : List Statement) (name : List ℕ) (address : Option ℕ) (before : List Statement)
    → IsLabelled all name before
    → address ≡ here (place_behind before) → IsSomeAnd address (λ a. 2 ^ 32 ≤ a)
    → (x : ℕ) × IsNamed all name x × (2 ^ 32 ≤ x)
high_by all name (Some a) before l e h = (a, record { before = before; labelled = l; address_is = sym e }, h)
high_by all name None before l e h = absurd h

pub entry_high : (all : List Statement) (labels : Labels) (name : List ℕ) (label : Labelled) → AreLabels all labels
    → Some label ≡ found labels name
    → IsSomeAnd label.address (λ a. 2 ^ 32 ≤ a) → (x : ℕ) × IsNamed all name x × (2 ^ 32 ≤ x)
entry_high all labels name label l e h =
    let f = told_found all labels name (Some label) l e in high_by all name label.address f.0 f.1 f.3 h

pub entry_low : (all : List Statement) (labels : Labels) (name : List ℕ) (label : Labelled) → AreLabels all labels
    → Some label ≡ found labels name
    → (IsSomeAnd label.address (λ a. 2 ^ 32 ≤ a) → ⊥) → (x : ℕ) × IsNamed all name x × (2 ^ 32 ≤ x) → ⊥
entry_low all labels name label l e h n =
    let f = told_found all labels name (Some label) l e in
    h (subst (λ (o : Option ℕ). IsSomeAnd o (λ a. 2 ^ 32 ≤ a)) (sym (f.3 ∙ named_here all name f.0 n.0 f.1 n.1)) n.2)

pub entry_known : (all : List Statement) (labels : Labels) (name : List ℕ) (label : Labelled) → AreLabels all labels
    → Some label ≡ found labels name
    → IsUnknown all name → ⊥
entry_known all labels name label l e u =
    let f = told_found all labels name (Some label) l e in known all name f.0 f.1 u

pub unnamed : (all : List Statement) (labels : Labels) (name : List ℕ) → AreLabels all labels → None ≡ found labels name
    → IsUnknown all name
unnamed all labels name l e = told_found all labels name None l e

-- a name line
earlier : (b r a q : List Statement) (x : Statement) → b ++ x ∷ r ≡ a ++ x ∷ q → (Contains b x → ⊥)
    → (length b ≡ length a → ⊥) → Contains a x
earlier [] r [] q x e f n = absurd (n refl)
earlier [] r (y ∷ a) q x e f n = let same : x ≡ y = cc in (0, omega arith, sym same)
earlier (z ∷ b) r [] q x e f n = let same : z ≡ x = cc in absurd (f (0, omega arith, same))
earlier (z ∷ b) r (y ∷ a) q x e f n =
    let tail : b ++ x ∷ r ≡ a ++ x ∷ q = cc in
    let more = earlier b r a q x tail (λ c. f (suc c.0, omega (arith, c.1), c.2)) (λ same. n (ap suc same)) in
    (suc more.0, omega (arith, more.1), more.2)

same_length : (b r a q : List Statement) (x : Statement) → b ++ x ∷ r ≡ a ++ x ∷ q → length b ≡ length a → b ≡ a
same_length [] r [] q x e n = refl
same_length [] r (y ∷ a) q x e n = absurd (omega (arith, n))
same_length (z ∷ b) r [] q x e n = absurd (omega (arith, n))
same_length (z ∷ b) r (y ∷ a) q x e n =
    let head : z ≡ y = cc in
    let tail : b ++ x ∷ r ≡ a ++ x ∷ q = cc in
    let more = same_length b r a q x tail (omega (arith, n)) in
    cc (head, more)

pub label_again : (all before rest : List Statement) (labels : Labels) (name : List ℕ) (label : Labelled) (line : ℕ)
    → all ≡ before ++ Label name ∷ rest
    → AreLabels all labels → Some label ≡ found labels name → line ≡ length before → (label.line ≡ line → ⊥)
    → Contains before (Label name)
label_again all before rest labels name label line e l is at other =
    let f = told_found all labels name (Some label) l is in
    earlier f.0 f.1.rest before rest (Label name) (sym f.1.statements_are ∙ e) f.1.first (λ n. other (f.2 ∙ n ∙ sym at))

pub label_first : (all before rest : List Statement) (labels : Labels) (name : List ℕ) (label : Labelled) (line : ℕ)
    → all ≡ before ++ Label name ∷ rest
    → AreLabels all labels → Some label ≡ found labels name → line ≡ length before → label.line ≡ line
    → Contains before (Label name) → ⊥
label_first all before rest labels name label line e l is at same c =
    let f = told_found all labels name (Some label) l is in
    f.1.first (subst (λ (ss : List Statement). Contains ss (Label name))
    (sym (same_length f.0 f.1.rest before rest (Label name) (sym f.1.statements_are ∙ e) (sym f.2 ∙ same ∙ at))) c)

pub label_known : (all before rest : List Statement) (labels : Labels) (name : List ℕ)
    → all ≡ before ++ Label name ∷ rest
    → AreLabels all labels → None ≡ found labels name → ⊥
label_known all before rest labels name e l is =
    unnamed all labels name l is
    (subst (λ (ss : List Statement). Contains ss (Label name)) (sym e) (stands before rest (Label name)))
