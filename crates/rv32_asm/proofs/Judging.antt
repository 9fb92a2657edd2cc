-- The lowest rule that a line breaks.
use Rattle.std.proofs.Common.{◌≡◌, ℕ, ◌<◌, List, ◌∷◌, ◌++◌, Option, None, Some, sym, ap, ◌∙◌, subst, arith}
use Rattle.std.specs.Prelude.{Ok, Err}
use denote.Ref.{Bor}
use Rattle.rv32_lines.specs.Texts.{Written}
use Rattle.rv32_lines.specs.Statements.{Statement, Label, Entry, Instruction, Unread, IsWritten}
use Rattle.rv32_lines.specs.Reading.{IsReadStatement, IsReadCommand}
use Rattle.rv32_lines.specs.declared.commands.WrittenInstruction.{WrittenInstruction}
use Rattle.rv32_lines.specs.declared.statements.Statement.TheVariants as said
use Rattle.rv32_asm.specs.declared.refused.AsmRule.{AsmRule}
use Rattle.rv32_asm.specs.declared.refused.AsmRule.TheVariants as rule
use Rattle.rv32_asm.specs.Places.{here, place_behind}
use Rattle.rv32_asm.specs.Rules.{number_of, Breaks}
use Rattle.rv32_asm.specs.Standing.{IsFoundWord, IsLowestOfNames}

kept_by : (all before : List Statement) (w : Written) (word : Option ℕ)
    → IsFoundWord all (here (place_behind before)) w (Ok word)
    → IsLowestOfNames all before (Instruction w) None
kept_by all before w None h = (h.0, h.1)
kept_by all before w (Some word) h = (h.0, h.1)

pub instruction_kept : (all before : List Statement) (s : Statement) (command : WrittenInstruction) (at word : Option ℕ)
    → IsReadStatement (said.Instruction command) s
    → at ≡ here (place_behind before)
    → ((w : Written) → IsWritten w → IsReadCommand command w → IsFoundWord all at w (Ok word))
    → IsLowestOfNames all before s None
instruction_kept all before (Instruction w) command at word h e f =
    kept_by all before w word (subst (λ (a : Option ℕ). IsFoundWord all a w (Ok word)) e (f w h.0 h.1))
instruction_kept all before s command at word h e f = absurd h

refused_by : (all before : List Statement) (w : Written) (r : AsmRule)
    → IsFoundWord all (here (place_behind before)) w (Err r)
    → IsLowestOfNames all before (Instruction w) (Some r)
refused_by all before w rule.Range h = h
refused_by all before w rule.Name h = h
refused_by all before w rule.Syntax h = h
refused_by all before w rule.Place h = h
refused_by all before w rule.Size h = h
refused_by all before w rule.Empty h = h

pub instruction_refused : (all before : List Statement) (s : Statement) (command : WrittenInstruction) (at : Option ℕ)
    (r : AsmRule) → IsReadStatement (said.Instruction command) s
    → at ≡ here (place_behind before)
    → ((w : Written) → IsWritten w → IsReadCommand command w → IsFoundWord all at w (Err r))
    → IsLowestOfNames all before s (Some r)
instruction_refused all before (Instruction w) command at r h e f =
    refused_by all before w r (subst (λ (a : Option ℕ). IsFoundWord all a w (Err r)) e (f w h.0 h.1))
instruction_refused all before s command at r h e f = absurd h

pub entry_lowest : (all before : List Statement) (s : Statement) (name : Bor (List ℕ)) (r : Option AsmRule)
    → IsReadStatement (said.Entry name) s
    → IsLowestOfNames all before (Entry name.now) r → IsLowestOfNames all before s r
entry_lowest all before (Entry n) name r h l = subst (λ (n : List ℕ). IsLowestOfNames all before (Entry n) r) h l
entry_lowest all before s name r h l = absurd h

pub label_lowest : (all before rest : List Statement) (s : Statement) (name : Bor (List ℕ)) (r : Option AsmRule)
    → IsReadStatement (said.Label name) s
    → all ≡ before ++ s ∷ rest → (all ≡ before ++ Label name.now ∷ rest → IsLowestOfNames all before (Label name.now) r)
    → IsLowestOfNames all before s r
label_lowest all before rest (Label n) name r h e l =
    let same : Label name.now ≡ Label n = ap Label h in
    subst (λ (s : Statement). IsLowestOfNames all before s r) same (l (e ∙ ap (λ s. before ++ s ∷ rest) (sym same)))
label_lowest all before rest s name r h e l = absurd h

below_range : (all before : List Statement) (s : Statement) → (s ≡ Unread → ⊥) → (other : AsmRule)
    → number_of other < 61 → Breaks all before s other → ⊥
below_range all before s read rule.Syntax less b = read b
below_range all before s read rule.Range less b = omega (arith, less)
below_range all before s read rule.Name less b = omega (arith, less)
below_range all before s read rule.Place less b = omega (arith, less)
below_range all before s read rule.Size less b = omega (arith, less)
below_range all before s read rule.Empty less b = omega (arith, less)

below_name : (all before : List Statement) (s : Statement) → (s ≡ Unread → ⊥) → (Breaks all before s rule.Range → ⊥)
    → (other : AsmRule) → number_of other < 62
    → Breaks all before s other → ⊥
below_name all before s read range rule.Syntax less b = read b
below_name all before s read range rule.Range less b = range b
below_name all before s read range rule.Name less b = omega (arith, less)
below_name all before s read range rule.Place less b = omega (arith, less)
below_name all before s read range rule.Size less b = omega (arith, less)
below_name all before s read range rule.Empty less b = omega (arith, less)

pub names_lowest : (all before : List Statement) (s : Statement) (r : AsmRule) → (s ≡ Unread → ⊥)
    → IsLowestOfNames all before s (Some r)
    → Breaks all before s r × ((other : AsmRule) → number_of other < number_of r → Breaks all before s other → ⊥)
names_lowest all before s rule.Range read h = (h, λ other less b. below_range all before s read other less b)
names_lowest all before s rule.Name read h = (h.1, λ other less b. below_name all before s read h.0 other less b)
names_lowest all before s rule.Syntax read h = absurd h
names_lowest all before s rule.Place read h = absurd h
names_lowest all before s rule.Size read h = absurd h
names_lowest all before s rule.Empty read h = absurd h
