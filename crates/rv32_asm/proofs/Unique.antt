-- One word for an instruction, and one executable for a text.
use Rattle.std.proofs.Common.{◌≡◌, ℕ, ◌<◌, ◌^◌, List, [], ◌∷◌, ◌++◌, Option, None, Some, refl, sym, ap, ◌∙◌, subst, arith}
use Rattle.std.specs.Prelude.{IsSomeAnd}
use Rattle.std.specs.Int.{bytes_low_first}
use Rattle.rv32_decode.specs.Rows.{instruction_of}
use Rattle.rv32_decode.specs.declared.Instr.{Instr}
use Rattle.rv32_decode.specs.declared.Instr.TheVariants.{Fence, Illegal}
use Rattle.rv32_decode.specs.declared.IllegalWord.TheVariants.{Zeros}
use Rattle.rv32_text.specs.Listing.{text_of_word, text_of_decoded, word_digits}
use Rattle.rv32_text.specs.Telling.{ShowsAll}
use Rattle.elf32_read.specs.Elf.{Elf, Section, Segment as AssembledSegment}
use Rattle.rv32_lines.specs.Texts.{Target, Address, Name, Written, Plain, NegativeShift, Jump, Conditional, written_text}
use Rattle.rv32_lines.specs.Statements.{Statement, Instruction, IsTarget, IsWritten, IsRead, AreRead, IsReading, lines_of}
use Rattle.rv32_lines.proofs.EightDigits.{digits_of_word, eight_of_word}
use Rattle.rv32_lines.proofs.Once.{no_unknown, written_once}
use Rattle.rv32_asm.specs.Places.{here, place_behind}
use Rattle.rv32_asm.specs.Assembling.{IsResolved, HasText, IsWordOf, AreBytesOf, AreBytesBehind, IsEntry, IsAssembled, pieces_of, entry_name}
use Rattle.rv32_asm.proofs.Naming.{named_once}

-- different words of an instruction's text are none
abbrev pub TextsTell : Type 0
TextsTell =
    (address v w : ℕ) → v < 2 ^ 32 → w < 2 ^ 32 → IsSomeAnd (instruction_of v) ShowsAll
    → text_of_word address v ≡ text_of_word address w → v ≡ w

-- an instruction whose text is neither of those that several words have
shows_by : (a : ℕ) (o : Option Instr) (w : Written) → IsWritten w → (w ≡ Plain (Fence 0 0 255) → ⊥)
    → (w ≡ Plain (Illegal Zeros) → ⊥) → text_of_decoded a o ≡ written_text w → IsSomeAnd o ShowsAll
shows_by a None w p f g e = absurd (no_unknown w p e)
shows_by a (Some (Fence rd r bits)) w p f g e =
    absurd (f (written_once w (Plain (Fence 0 0 255)) p (refl, refl, refl) (sym e)))
shows_by a (Some (Illegal x)) w p f g e = absurd (g (written_once w (Plain (Illegal Zeros)) p tt (sym e)))
shows_by a (Some i) w p f g e = tt

same_word : TextsTell → (a v u : ℕ) (w : Written) → IsWritten w → (w ≡ Plain (Fence 0 0 255) → ⊥)
    → (w ≡ Plain (Illegal Zeros) → ⊥) → v < 2 ^ 32 → u < 2 ^ 32 → text_of_word a v ≡ written_text w
    → text_of_word a u ≡ written_text w → v ≡ u
same_word tell a v u w p f g low below e h =
    tell a v u low below (shows_by a (instruction_of v) w p f g e) (e ∙ sym h)

given_once : (all : List Statement) (to a b : Target) → IsResolved all to a → IsResolved all to b → a ≡ b
given_once all (Address digits) a b p q = p ∙ sym q
given_once all (Name name) a b p q =
    let same : p.0 ≡ q.0 = named_once all name p.0 q.0 p.1 q.1 in
    p.2 ∙ ap (λ (x : ℕ). Address (word_digits x)) same ∙ sym q.2

given_target : (all : List Statement) (to given : Target) → IsTarget to → IsResolved all to given → IsTarget given
given_target all (Address digits) given p r = subst IsTarget (sym r) p
given_target all (Name name) given p r =
    let eight = eight_of_word r.0 in
    let is : IsTarget (Address (word_digits r.0)) = (omega (arith, eight), digits_of_word r.0) in
    subst IsTarget (sym r.2) is

text_once : TextsTell → (all : List Statement) (a v u : ℕ) (w : Written) → IsWritten w → v < 2 ^ 32 → u < 2 ^ 32
    → HasText all a w v → HasText all a w u → v ≡ u
text_once tell all a v u (Plain (Fence rd r bits)) p low below h g = h ∙ sym g
text_once tell all a v u (Plain (Illegal x)) p low below h g = h ∙ sym g
text_once tell all a v u (NegativeShift o rd r n) p low below h g = absurd h
text_once tell all a v u (Plain i) p low below h g =
    same_word tell a v u (Plain i) p (λ e. absurd (cc)) (λ e. absurd (cc)) low below h g
text_once tell all a v u (Jump rd to) p low below h g =
    let same = given_once all to h.0 g.0 h.1 g.1 in
    same_word tell a v u (Jump rd h.0) (given_target all to h.0 p h.1) (λ e. absurd (cc)) (λ e. absurd (cc)) low below
    h.2
    (g.2 ∙ ap (λ (t : Target). written_text (Jump rd t)) (sym same))
text_once tell all a v u (Conditional c r q to) p low below h g =
    let same = given_once all to h.0 g.0 h.1 g.1 in
    same_word tell a v u (Conditional c r q h.0) (given_target all to h.0 p h.1) (λ e. absurd (cc)) (λ e. absurd (cc))
    low below h.2
    (g.2 ∙ ap (λ (t : Target). written_text (Conditional c r q t)) (sym same))

same_address : (at : Option ℕ) (a b : ℕ) → at ≡ Some a → at ≡ Some b → a ≡ b
same_address at a b e f = let same : Some a ≡ Some b = sym e ∙ f in cc

pub word_once : TextsTell → (all before : List Statement) (w : Written) (v u : ℕ) → IsWritten w
    → IsWordOf all before w v → IsWordOf all before w u → v ≡ u
word_once tell all before w v u p h g =
    let same = same_address (here (place_behind before)) h.address g.address h.stands g.stands in
    text_once tell all h.address v u w p h.low g.low h.text (subst (λ (a : ℕ). HasText all a w u) (sym same) g.text)

-- the instruction of a statement is written so
abbrev IsWrittenIn : Statement → Type 0
IsWrittenIn (Instruction w) = IsWritten w
IsWrittenIn s = Unit {0}

abbrev AreWrittenIn : List Statement → Type 0
AreWrittenIn [] = Unit {0}
AreWrittenIn (s ∷ ss) = IsWrittenIn s × AreWrittenIn ss

written_in : (line : List ℕ) (s : Statement) → IsRead line s → IsWrittenIn s
written_in line (Instruction w) h = h.says.written
written_in line s h = tt

all_written : (lines : List (List ℕ)) (ss : List Statement) → AreRead lines ss → AreWrittenIn ss
all_written lines [] h = tt
all_written [] (s ∷ ss) h = absurd (cc)
all_written (line ∷ lines) (s ∷ ss) h = (written_in line s h.0, all_written lines ss h.1)

bytes_once : TextsTell → (all before : List Statement) (s : Statement) (a b : List ℕ) → IsWrittenIn s
    → AreBytesOf all before s a → AreBytesOf all before s b → a ≡ b
bytes_once tell all before (Instruction w) a b p h g =
    h.2 ∙ ap (bytes_low_first 0 4) (word_once tell all before w h.0 g.0 p h.1 g.1) ∙ sym g.2
bytes_once tell all before s a b p h g = h ∙ sym g

all_bytes_once : TextsTell → (all before left : List Statement) (a b : List (List ℕ)) → AreWrittenIn left
    → AreBytesBehind all before left a → AreBytesBehind all before left b → a ≡ b
all_bytes_once tell all before [] a b p h g = h ∙ sym g
all_bytes_once tell all before (s ∷ left) [] b p h g = absurd h
all_bytes_once tell all before (s ∷ left) (x ∷ a) [] p h g = absurd g
all_bytes_once tell all before (s ∷ left) (x ∷ a) (y ∷ b) p h g =
    let head = bytes_once tell all before s x y p.0 h.0 g.0 in
    let tail = all_bytes_once tell all (before ++ s ∷ []) left a b p.1 h.1 g.1 in
    cc (head, tail)

entry_once : (all : List Statement) (segments : List AssembledSegment) (name : Option (List ℕ)) (a b : ℕ)
    → IsEntry all segments name a → IsEntry all segments name b → a ≡ b
entry_once all segments (Some name) a b p q = named_once all name a b p q
entry_once all [] None a b p q = absurd p
entry_once all (first ∷ segments) None a b p q = p ∙ sym q

abbrev made_elf : ℕ → ℕ → List AssembledSegment → List Section → Elf
made_elf entry flags segments sections =
    record { entry = entry; flags = flags; segments = segments; sections = sections }

same_elf : (e f : Elf) → e.entry ≡ f.entry → e.flags ≡ f.flags → e.segments ≡ f.segments → e.sections ≡ f.sections
    → e ≡ f
same_elf e f p q r s =
    ap (λ x. made_elf x e.flags e.segments e.sections) p
    ∙ ap (λ x. made_elf f.entry x e.segments e.sections) q
    ∙ ap (λ x. made_elf f.entry f.flags x e.sections) r
    ∙ ap (λ x. made_elf f.entry f.flags f.segments x) s

pub assembled_once : TextsTell → ((text : List ℕ) (a b : List Statement) → IsReading text a → IsReading text b → a ≡ b)
    → (text : List ℕ) (e f : Elf) → IsAssembled text e → IsAssembled text f → e ≡ f
assembled_once tell read text e f p q =
    let all = p.statements in
    let same : q.statements ≡ all = read text q.statements all q.reading p.reading in
    let appended : p.appended ≡ q.appended =
    all_bytes_once tell all [] all p.appended q.appended (all_written (lines_of text) all p.reading) p.appended_are
    (subst (λ (ss : List Statement). AreBytesBehind ss [] ss q.appended) same q.appended_are) in
    let segments : e.segments ≡ f.segments =
    p.segments_are
    ∙ ap (λ (x : List (List ℕ)). (pieces_of all x).segments) appended
    ∙ ap (λ (ss : List Statement). (pieces_of ss q.appended).segments) (sym same)
    ∙ sym q.segments_are in
    let other : IsEntry all e.segments (entry_name all) f.entry =
    subst (λ (x : List AssembledSegment). IsEntry all x (entry_name all) f.entry) (sym segments)
    (subst (λ (ss : List Statement). IsEntry ss f.segments (entry_name ss) f.entry) same q.entry_is) in
    same_elf e f (entry_once all e.segments (entry_name all) e.entry f.entry p.entry_is other)
    (p.flags_are ∙ sym q.flags_are) segments (p.no_sections ∙ sym q.no_sections)
