-- The bytes of a line.
use Rattle.std.proofs.Common.{append_assoc, ◌≡◌, ◌≢◌, ℕ, ◌+◌, ◌%◌, ◌^◌, ◌<◌, true, List, [], ◌∷◌, ◌++◌, Option, None, Some, refl, sym, ap, ◌∙◌, subst, arith, inl, inr}
use Rattle.std.specs.Prelude.{Result, Ok, Err, OnOk, replicate, All, IsSomeAnd}
use Rattle.std.specs.List.{list_all, flat_map}
use Rattle.std.proofs.lemmas.List.{replicate_more}
use Rattle.std.specs.Int.{bytes_low_first}
use Rattle.std.specs.Option.{option_map}
use denote.Ref.{Bor}
use Rattle.rv32_lines.specs.Texts.{Target, Address, Name, Written, Plain, NegativeShift, Jump, Conditional}
use Rattle.rv32_lines.specs.Statements.{Statement, Label, Bytes, Word, Space, Instruction, IsWritten, is_hexadecimal_digit, byte_digits}
use Rattle.rv32_lines.specs.Reading.{IsReadStatement, IsReadCommand}
use Rattle.rv32_lines.specs.declared.commands.WrittenInstruction.{WrittenInstruction}
use Rattle.rv32_lines.specs.declared.statements.Statement.TheVariants as said
use Rattle.rv32_lines.proofs.Pairs.{bytes_all}
use Rattle.std.specs.Str.Parse.{digits_value}
use Rattle.rv32_asm.specs.declared.labels.Label.{Label as Labelled}
use Rattle.rv32_asm.specs.declared.labels.Labels.{Labels}
use Rattle.rv32_asm.specs.declared.refused.AsmRule.{AsmRule}
use Rattle.rv32_asm.specs.declared.refused.AsmRule.TheVariants as rule
use Rattle.rv32_asm.specs.Places.{Open, end_of, here, place_behind, IsNamed}
use Rattle.rv32_asm.specs.Rules.{IsAddress, IsUnknown, target_name, name_in, AreSound, NeedsSegment}
use Rattle.rv32_asm.specs.Assembling.{AreBytesOf}
use Rattle.rv32_asm.specs.Standing.{AreLabels, IsFound, found, IsFoundWord, IsTargetOf, UsesUnknown, IsSoundLine}

pub bytes_read : (digits : Bor (List ℕ)) (s : Statement) → IsReadStatement (said.Bytes digits) s
    → list_all is_hexadecimal_digit digits.now ≡ true
bytes_read digits (Bytes bytes) h = ap (list_all is_hexadecimal_digit) h.0 ∙ bytes_all bytes h.1
bytes_read digits s h = absurd h

on_ok : {T E : Type 0} (r : Result T E) (P Q : Type 0) → (P → Q) → OnOk r P → OnOk r Q
on_ok (Ok x) P Q f h = f h
on_ok (Err e) P Q f h = tt

pub bytes_on : {T E : Type 0} (r : Result T E) (all before : List Statement) (digits : Bor (List ℕ)) (s : Statement)
    (old new : List ℕ) → IsReadStatement (said.Bytes digits) s
    → ((bytes : List ℕ) → digits.now ≡ flat_map byte_digits bytes → All (λ b. b < 256) bytes
    → OnOk r (new ≡ old ++ bytes))
    → OnOk r ((added : List ℕ) × (new ≡ old ++ added) × AreBytesOf all before s added)
bytes_on r all before digits (Bytes bytes) old new h f =
    on_ok r (new ≡ old ++ bytes) _ (λ e. (bytes, e, refl)) (f bytes h.0 h.1)
bytes_on r all before digits s old new h f = absurd h

pub word_on : {T E : Type 0} (r : Result T E) (all before : List Statement) (word : ℕ) (s : Statement)
    (old new : List ℕ) → IsReadStatement (said.Word word) s
    → OnOk r (new ≡ old ++ bytes_low_first 0 4 word)
    → OnOk r ((added : List ℕ) × (new ≡ old ++ added) × AreBytesOf all before s added)
word_on r all before word (Word v) old new h f =
    on_ok r (new ≡ old ++ bytes_low_first 0 4 word) _
    (λ e. (bytes_low_first 0 4 v, e ∙ ap (λ (n : ℕ). old ++ bytes_low_first 0 4 n) h, refl)) f
word_on r all before word s old new h f = absurd h

pub space_on : {T E : Type 0} (r : Result T E) (all before : List Statement) (count : ℕ) (s : Statement)
    (old new : List ℕ) → IsReadStatement (said.Space count) s
    → OnOk r (new ≡ old ++ replicate count 0)
    → OnOk r ((added : List ℕ) × (new ≡ old ++ added) × AreBytesOf all before s added)
space_on r all before count (Space n) old new h f =
    on_ok r (new ≡ old ++ replicate count 0) _ (λ e. (replicate n 0, e ∙ ap (λ (k : ℕ). old ++ replicate k 0) h, refl))
    f
space_on r all before count s old new h f = absurd h

stands_by : (all before rest : List Statement) (s : Statement) (last : Option Open) → all ≡ before ++ s ∷ rest
    → AreSound all → NeedsSegment s
    → (place_behind before).last ≡ last → (a : ℕ) × (here (place_behind before) ≡ Some a)
stands_by all before rest s (Some o) e sound needs is = (end_of o, ap (λ (l : Option Open). option_map end_of l) is)
stands_by all before rest s None e sound needs is = absurd (sound before s rest rule.Place e (inl (needs, is)))

-- a line that needs a segment has an address
pub stands : (all before rest : List Statement) (s : Statement) → all ≡ before ++ s ∷ rest → AreSound all
    → NeedsSegment s
    → (a : ℕ) × (here (place_behind before) ≡ Some a)
stands all before rest s e sound needs = stands_by all before rest s ((place_behind before).last) e sound needs refl

pub named_by : (all : List Statement) (name : List ℕ) (f : Option Labelled) → AreSound all → IsFound all name f
    → (IsUnknown all name → ⊥)
    → (address : ℕ) × IsNamed all name address
named_by all name None sound h known = absurd (known h)
named_by all name (Some label) sound h known =
    let at = stands all h.0 h.1.rest (Label name) h.1.statements_are sound tt in
    (at.0, record { before = h.0; labelled = h.1; address_is = at.1 })

-- a target that is used has an address
addressed : (all : List Statement) (labels : Labels) (to : Target) → AreSound all → AreLabels all labels
    → (UsesUnknown all (target_name to) → ⊥)
    → (address : ℕ) × IsAddress all to address
addressed all labels (Address digits) sound l known = (digits_value 16 digits, refl)
addressed all labels (Name name) sound l known = named_by all name (found labels name) sound (l name) known

targeted : (all : List Statement) (labels : Labels) (w : Written) → AreSound all → AreLabels all labels
    → (UsesUnknown all (name_in w) → ⊥)
    → (address : ℕ) × IsTargetOf all w address
targeted all labels (Plain i) sound l known = (0, tt)
targeted all labels (NegativeShift o rd r n) sound l known = (0, tt)
targeted all labels (Jump rd to) sound l known = addressed all labels to sound l known
targeted all labels (Conditional c a b to) sound l known = addressed all labels to sound l known

even_at : (all before rest : List Statement) (w : Written) (a : ℕ) → all ≡ before ++ Instruction w ∷ rest → AreSound all
    → here (place_behind before) ≡ Some a
    → a % 4 ≢ 0 → ⊥
even_at all before rest w a e sound at odd =
    sound before (Instruction w) rest rule.Place e
    (inr (inl (tt, subst (λ (o : Option ℕ). IsSomeAnd o (λ a. a % 4 ≢ 0)) (sym at) odd)))

none_left : (all before rest : List Statement) (labels : Labels) (w : Written) → all ≡ before ++ Instruction w ∷ rest
    → AreSound all → AreLabels all labels
    → IsFoundWord all (here (place_behind before)) w (Ok None) → ⊥
none_left all before rest labels w e sound l f =
    let at = stands all before rest (Instruction w) e sound refl in
    let to = targeted all labels w sound l f.1 in
    even_at all before rest w at.0 e sound at.1 (λ even. f.2 at.0 to.0 at.1 (omega (arith, even)) to.1)

pub word_none : (labels : Labels) (command : WrittenInstruction) (at : Option ℕ) (all before : List Statement) (s : Statement)
    (l : IsSoundLine labels (said.Instruction command) at all before s)
    → ((w : Written) → IsWritten w → IsReadCommand command w → IsFoundWord all at w (Ok None)) → ⊥
word_none labels command at all before (Instruction w) l f =
    none_left all before l.rest labels w l.all_are l.sound l.labels_are
    (subst (λ (a : Option ℕ). IsFoundWord all a w (Ok None)) l.at_is (f w l.read_so.0 l.read_so.1))
word_none labels command at all before s l f = absurd l.read_so

err_left : (all before rest : List Statement) (w : Written) (r : AsmRule) → all ≡ before ++ Instruction w ∷ rest
    → AreSound all
    → IsFoundWord all (here (place_behind before)) w (Err r) → ⊥
err_left all before rest w rule.Range e sound h = sound before (Instruction w) rest rule.Range e h
err_left all before rest w rule.Name e sound h = sound before (Instruction w) rest rule.Name e h.1
err_left all before rest w rule.Syntax e sound h = h
err_left all before rest w rule.Place e sound h = h
err_left all before rest w rule.Size e sound h = h
err_left all before rest w rule.Empty e sound h = h

pub word_err : (labels : Labels) (command : WrittenInstruction) (at : Option ℕ) (all before : List Statement) (s : Statement)
    (r : AsmRule)
    (l : IsSoundLine labels (said.Instruction command) at all before s)
    → ((w : Written) → IsWritten w → IsReadCommand command w → IsFoundWord all at w (Err r)) → ⊥
word_err labels command at all before (Instruction w) r l f =
    err_left all before l.rest w r l.all_are l.sound
    (subst (λ (a : Option ℕ). IsFoundWord all a w (Err r)) l.at_is (f w l.read_so.0 l.read_so.1))
word_err labels command at all before s r l f = absurd l.read_so

pub word_added : {T E : Type 0} (r : Result T E) (labels : Labels) (command : WrittenInstruction) (at : Option ℕ)
    (all before : List Statement) (s : Statement) (word : ℕ) (old new : List ℕ)
    (l : IsSoundLine labels (said.Instruction command) at all before s) → word < 2 ^ 32
    → ((w : Written) → IsWritten w → IsReadCommand command w → IsFoundWord all at w (Ok (Some word)))
    → OnOk r (new ≡ old ++ bytes_low_first 0 4 word)
    → OnOk r ((added : List ℕ) × (new ≡ old ++ added) × AreBytesOf all before s added)
word_added r labels command at all before (Instruction w) word old new l low f e =
    let a = stands all before l.rest (Instruction w) l.all_are l.sound refl in
    let t = subst (λ (o : Option ℕ). IsFoundWord all o w (Ok (Some word))) l.at_is (f w l.read_so.0 l.read_so.1) in
    on_ok r (new ≡ old ++ bytes_low_first 0 4 word) _
    (λ e. (
      bytes_low_first 0 4 word,
      e,
      (word, record { address = a.0; stands = a.1; low = low; text = t.2 a.0 a.1 }, refl),
    )) e
word_added r labels command at all before s word old new l low f e = absurd l.read_so

pub zero_more : (old : List ℕ) (n : ℕ) → (old ++ replicate n 0) ++ 0 ∷ [] ≡ old ++ replicate (n + 1) 0
zero_more old n = append_assoc old (replicate n 0) (0 ∷ []) ∙ ap (λ t. old ++ t) (replicate_more n 0)
