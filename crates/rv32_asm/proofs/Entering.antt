-- The entry of a text.
use Rattle.std.proofs.Common.{◌≡◌, ℕ, ◌+◌, ◌<◌, ◌≤◌, ◌^◌, List, [], ◌∷◌, ◌++◌, length, take, Option, None, Some, refl, sym, ap, ◌∙◌, subst, arith, inl}
use Rattle.std.specs.Prelude.{IfSome}
use Rattle.std.specs.Option.{option_or}
use Rattle.std.proofs.lemmas.List.{take_all}
use denote.Ref.{Bor}
use Rattle.rv32_lines.specs.Statements.{Statement, Nothing, Segment, Label, Bytes, Word, Space, Zero, Entry, Instruction, Unread}
use Rattle.rv32_lines.specs.Reading.{IsReadStatement}
use Rattle.rv32_lines.specs.declared.statements.Statement.{Statement as ReadStatement}
use Rattle.rv32_lines.specs.declared.statements.Statement.TheVariants as said
use Rattle.rv32_asm.specs.declared.labels.Label.{Label as Labelled}
use Rattle.rv32_asm.specs.declared.labels.Labels.{Labels}
use Rattle.rv32_asm.specs.declared.refused.AsmRule.TheVariants as rule
use Rattle.rv32_asm.specs.Places.{SegmentsSoFar, behind, behind_all, first_place, here, place_behind, IsLabelled, IsNamed}
use Rattle.rv32_asm.specs.Rules.{IsUnknown}
use Rattle.rv32_asm.specs.Assembling.{entry_name}
use Rattle.rv32_asm.specs.Standing.{AreLabels, IsFound, found, IsSoundReading, first_start, IsFoundEntry}
use Rattle.rv32_asm.proofs.Going.{Cut, lengths}
use Rattle.rv32_asm.proofs.Naming.{named_here, told_found, unnamed, named_known}
use Rattle.rv32_asm.proofs.Appending.{named_by}

-- addresses of names
pub address_some : (all : List Statement) (labels : Labels) (name : List ℕ) (label : Labelled) (a : ℕ)
    → AreLabels all labels → Some label ≡ found labels name
    → label.address ≡ Some a → (address : ℕ) → IsNamed all name address → a ≡ address
address_some all labels name label a l is at address n =
    let f = told_found all labels name (Some label) l is in
    let same : Some a ≡ Some address = sym at ∙ f.3 ∙ named_here all name f.0 address f.1 n in
    cc

pub address_none : (all : List Statement) (labels : Labels) (name : List ℕ) (label : Labelled) → AreLabels all labels
    → Some label ≡ found labels name
    → label.address ≡ None → (address : ℕ) → IsNamed all name address → ⊥
address_none all labels name label l is at address n =
    let f = told_found all labels name (Some label) l is in
    let bad : None ≡ Some address = sym at ∙ f.3 ∙ named_here all name f.0 address f.1 n in
    absurd (cc)

pub nameless : (all : List Statement) (labels : Labels) (name : List ℕ) → AreLabels all labels
    → None ≡ found labels name
    → (address : ℕ) → IsNamed all name address → ⊥
nameless all labels name l is address n = named_known all name address n (unnamed all labels name l is)

low_by : (all before : List Statement) (name : List ℕ) (address : Option ℕ) → IsLabelled all name before
    → address ≡ here (place_behind before)
    → ((address : ℕ) × IsNamed all name address × (2 ^ 32 ≤ address) → ⊥) → IfSome address (λ a. a < 2 ^ 32)
low_by all before name None l e h = tt
low_by all before name (Some a) l e h =
    let low : 2 ^ 32 ≤ a → ⊥ = λ q. h (a, record { before = before; labelled = l; address_is = sym e }, q) in
    omega (arith, low)

low_label : (all : List Statement) (name : List ℕ) (f : Option Labelled) → IsFound all name f
    → ((address : ℕ) × IsNamed all name address × (2 ^ 32 ≤ address) → ⊥)
    → IfSome f (λ label. IfSome label.address (λ a. a < 2 ^ 32))
low_label all name None f h = tt
low_label all name (Some label) f h = low_by all f.0 name label.address f.1 f.3 h

-- the address of the name of a sound text's entry line
entry_low_by : (labels : Labels) (items : List ReadStatement) (all before rest : List Statement) (s : Statement)
    (name : Bor (List ℕ)) → IsSoundReading items labels all
    → all ≡ before ++ s ∷ rest → IsReadStatement (said.Entry name) s
    → IfSome (found labels name.now) (λ label. IfSome label.address (λ a. a < 2 ^ 32))
entry_low_by labels items all before rest (Entry n) name r e h =
    low_label all name.now (found labels name.now) (r.labels_are name.now)
    (λ high. r.sound before (Entry n) rest rule.Range e
    (subst (λ (m : List ℕ). (address : ℕ) × IsNamed all m address × (2 ^ 32 ≤ address)) h high))
entry_low_by labels items all before rest s name r e h = absurd h

pub entry_low : (labels : Labels) (items : List ReadStatement) (all : List Statement) (line : ℕ) (x : ReadStatement)
    (name : Bor (List ℕ)) → IsSoundReading items labels all
    → Cut items all line x → x ≡ said.Entry name
    → IfSome (found labels name.now) (λ label. IfSome label.address (λ a. a < 2 ^ 32))
entry_low labels items all line x name r c e =
    entry_low_by labels items all (take line all) c.rest c.statement name r c.all_are
    (subst (λ (y : ReadStatement). IsReadStatement y c.statement) e c.read_so)

-- no entry line so far, and the first segment so far
pub record EntrySoFar (all : List Statement) (line : ℕ) (first : Option ℕ) : Type 0 where
  pub none : entry_name (take line all) ≡ None
  pub first_is : first ≡ first_start (take line all)

entry_behind : (before rest : List Statement) → entry_name before ≡ None → entry_name (before ++ rest) ≡ entry_name rest
entry_behind [] rest e = refl
entry_behind (Nothing ∷ ss) rest e = entry_behind ss rest e
entry_behind (Segment a b ∷ ss) rest e = entry_behind ss rest e
entry_behind (Label a ∷ ss) rest e = entry_behind ss rest e
entry_behind (Bytes a ∷ ss) rest e = entry_behind ss rest e
entry_behind (Word a ∷ ss) rest e = entry_behind ss rest e
entry_behind (Space a ∷ ss) rest e = entry_behind ss rest e
entry_behind (Zero a ∷ ss) rest e = entry_behind ss rest e
entry_behind (Entry a ∷ ss) rest e = absurd (cc)
entry_behind (Instruction a ∷ ss) rest e = entry_behind ss rest e
entry_behind (Unread ∷ ss) rest e = entry_behind ss rest e

pub or_none : (o : Option ℕ) → option_or o None ≡ o
or_none None = refl
or_none (Some a) = refl

first_behind : (before rest : List Statement)
    → first_start (before ++ rest) ≡ option_or (first_start before) (first_start rest)
first_behind [] rest = refl
first_behind (Nothing ∷ ss) rest = first_behind ss rest
first_behind (Segment a b ∷ ss) rest = refl
first_behind (Label a ∷ ss) rest = first_behind ss rest
first_behind (Bytes a ∷ ss) rest = first_behind ss rest
first_behind (Word a ∷ ss) rest = first_behind ss rest
first_behind (Space a ∷ ss) rest = first_behind ss rest
first_behind (Zero a ∷ ss) rest = first_behind ss rest
first_behind (Entry a ∷ ss) rest = first_behind ss rest
first_behind (Instruction a ∷ ss) rest = first_behind ss rest
first_behind (Unread ∷ ss) rest = first_behind ss rest

-- a line more, by what it says
pub entry_next : (items : List ReadStatement) (all : List Statement) (line : ℕ) (x : ReadStatement)
    (first next : Option ℕ) → (c : Cut items all line x)
    → EntrySoFar all line first → entry_name (c.statement ∷ []) ≡ None
    → next ≡ option_or first (first_start (c.statement ∷ [])) → EntrySoFar all (line + 1) next
entry_next items all line x first next c h none is = record {
  none = ap entry_name c.more ∙ entry_behind (take line all) (c.statement ∷ []) h.none ∙ none;
  first_is = is
      ∙ ap (λ (o : Option ℕ). option_or o (first_start (c.statement ∷ []))) h.first_is
      ∙ sym (first_behind (take line all) (c.statement ∷ []))
      ∙ ap first_start (sym c.more);
}

pub segment_entry : (flags start : ℕ) (s : Statement) → IsReadStatement (said.Segment flags start) s
    → (entry_name (s ∷ []) ≡ None) × (first_start (s ∷ []) ≡ Some start)
segment_entry flags start (Segment a b) h = (refl, ap Some (sym h.1))
segment_entry flags start s h = absurd h

pub other_entry : (x : ReadStatement) (s : Statement) → IsReadStatement x s
    → ((flags start : ℕ) → x ≡ said.Segment flags start → ⊥)
    → ((name : Bor (List ℕ)) → x ≡ said.Entry name → ⊥) → (entry_name (s ∷ []) ≡ None) × (first_start (s ∷ []) ≡ None)
other_entry (said.Segment a b) s h f g = absurd (f a b refl)
other_entry (said.Entry a) s h f g = absurd (g a refl)
other_entry said.Nothing Nothing h f g = (refl, refl)
other_entry (said.Label a) (Label b) h f g = (refl, refl)
other_entry (said.Bytes a) (Bytes b) h f g = (refl, refl)
other_entry (said.Word a) (Word b) h f g = (refl, refl)
other_entry (said.Space a) (Space b) h f g = (refl, refl)
other_entry (said.Zero a) (Zero b) h f g = (refl, refl)
other_entry (said.Instruction a) (Instruction b) h f g = (refl, refl)
other_entry said.Unread Unread h f g = (refl, refl)
other_entry x s h f g = absurd h

-- the name of an entry line has an address in a sound text
entry_found_by : (labels : Labels) (items : List ReadStatement) (all before rest : List Statement) (s : Statement)
    (name : Bor (List ℕ)) (result : ℕ) → IsSoundReading items labels all
    → all ≡ before ++ s ∷ rest → entry_name before ≡ None → IsReadStatement (said.Entry name) s
    → ((address : ℕ) → IsNamed all name.now address → result ≡ address)
    → IsFoundEntry all (entry_name all) result
entry_found_by labels items all before rest (Entry n) name result r e none h f =
    let known : IsUnknown all name.now → ⊥ =
    λ u. r.sound before (Entry n) rest rule.Name e (inl (subst (IsUnknown all) h u)) in
    let at = named_by all name.now (found labels name.now) r.sound (r.labels_are name.now) known in
    let is : entry_name all ≡ Some name.now =
    ap entry_name e ∙ entry_behind before (Entry n ∷ rest) none ∙ ap Some (sym h) in
    subst (λ (o : Option (List ℕ)). IsFoundEntry all o result) (sym is)
    (subst (IsNamed all name.now) (sym (f at.0 at.1)) at.1)
entry_found_by labels items all before rest s name result r e none h f = absurd h

pub entry_found : (labels : Labels) (items : List ReadStatement) (all : List Statement) (line : ℕ) (x : ReadStatement)
    (name : Bor (List ℕ)) (first : Option ℕ) (result : ℕ)
    → IsSoundReading items labels all → (c : Cut items all line x) → EntrySoFar all line first → x ≡ said.Entry name
    → ((address : ℕ) → IsNamed all name.now address → result ≡ address) → IsFoundEntry all (entry_name all) result
entry_found labels items all line x name first result r c h e f =
    entry_found_by labels items all (take line all) c.rest c.statement name result r c.all_are h.none
    (subst (λ (y : ReadStatement). IsReadStatement y c.statement) e c.read_so) f

-- a text that has a segment has a first one
some_first : (p : SegmentsSoFar) (ss : List Statement) → first_start ss ≡ None → (behind_all p ss).segments ≡ p.segments
some_first p [] e = refl
some_first p (Nothing ∷ ss) e = some_first p ss e
some_first p (Segment a b ∷ ss) e = absurd (cc)
some_first p (Label a ∷ ss) e = some_first p ss e
some_first p (Bytes a ∷ ss) e = some_first (behind p (Bytes a)) ss e
some_first p (Word a ∷ ss) e = some_first (behind p (Word a)) ss e
some_first p (Space a ∷ ss) e = some_first (behind p (Space a)) ss e
some_first p (Zero a ∷ ss) e = some_first (behind p (Zero a)) ss e
some_first p (Entry a ∷ ss) e = some_first p ss e
some_first p (Instruction a ∷ ss) e = some_first (behind p (Instruction a)) ss e
some_first p (Unread ∷ ss) e = some_first p ss e

pub first_found : (labels : Labels) (items : List ReadStatement) (all : List Statement) (line : ℕ) (first : Option ℕ)
    (result : ℕ) → IsSoundReading items labels all
    → length items ≤ line → EntrySoFar all line first → ((start : ℕ) → first ≡ Some start → result ≡ start)
    → IsFoundEntry all (entry_name all) result
first_found labels items all line None result r end h f =
    let whole = take_all line all (omega (arith, lengths items all r.read_so, end)) in
    absurd (r.some (some_first first_place all (sym (h.first_is ∙ ap first_start whole))))
first_found labels items all line (Some start) result r end h f =
    let whole = take_all line all (omega (arith, lengths items all r.read_so, end)) in
    subst (λ (o : Option (List ℕ)). IsFoundEntry all o result) (sym (ap entry_name (sym whole) ∙ h.none))
    (sym (h.first_is ∙ ap first_start whole) ∙ ap Some (sym (f start refl)))
