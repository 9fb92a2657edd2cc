-- What the lines so far say.
use Rattle.std.proofs.Common.{◌≡◌, ℕ, List, [], ◌∷◌, ◌++◌, append_assoc, refl, sym, ap, ◌∙◌, subst}
use mathlib.Core.List.{append-nil}
use Rattle.rv32_lines.specs.declared.statements.Statement.{Statement as ReadStatement}
use Rattle.rv32_lines.specs.Statements.{Statement, IsRead, AreRead, lines_of, IsReading}
use Rattle.rv32_lines.specs.Reading.{IsReadStatement, AreReadStatements}

-- the lines before the rest of a text, and what they say
pub record SaysSoFar (text rest : List ℕ) (items : List ReadStatement) : Type 0 where
  pub lines : List (List ℕ)
  pub statements : List Statement
  pub lines_are : lines_of text ≡ lines ++ lines_of rest
  pub read : AreRead lines statements
  pub same : AreReadStatements items statements

pub no_line : (text : List ℕ) → SaysSoFar text text []
no_line text = record { lines = []; statements = []; lines_are = refl; read = refl; same = refl }

read_more : (lines : List (List ℕ)) (ss : List Statement) (line : List ℕ) (s : Statement) → AreRead lines ss
    → IsRead line s
    → AreRead (lines ++ line ∷ []) (ss ++ s ∷ [])
read_more [] [] line s h r = (r, refl)
read_more [] (x ∷ ss) line s h r = absurd (cc)
read_more (l ∷ lines) [] line s h r = absurd h
read_more (l ∷ lines) (x ∷ ss) line s h r = (h.0, read_more lines ss line s h.1 r)

same_more : (items : List ReadStatement) (ss : List Statement) (x : ReadStatement) (s : Statement)
    → AreReadStatements items ss → IsReadStatement x s
    → AreReadStatements (items ++ x ∷ []) (ss ++ s ∷ [])
same_more [] [] x s h r = (r, refl)
same_more [] (y ∷ ss) x s h r = absurd (cc)
same_more (i ∷ items) [] x s h r = absurd h
same_more (i ∷ items) (y ∷ ss) x s h r = (h.0, same_more items ss x s h.1 r)

pub more_line : (text rest line behind : List ℕ) (items pushed : List ReadStatement) (x : ReadStatement)
    → pushed ≡ items ++ x ∷ [] → SaysSoFar text rest items
    → lines_of rest ≡ line ∷ lines_of behind → (s : Statement) × IsRead line s × IsReadStatement x s
    → SaysSoFar text behind pushed
more_line text rest line behind items pushed x is h e r = record {
  lines = h.lines ++ line ∷ [];
  statements = h.statements ++ r.0 ∷ [];
  lines_are = h.lines_are ∙ ap (λ t. h.lines ++ t) e ∙ sym (append_assoc h.lines (line ∷ []) (lines_of behind));
  read = read_more h.lines h.statements line r.0 h.read r.1;
  same = subst (λ (xs : List ReadStatement). AreReadStatements xs (h.statements ++ r.0 ∷ [])) (sym is)
      (same_more items h.statements x r.0 h.same r.2);
}

pub all_lines : (text : List ℕ) (items : List ReadStatement) → SaysSoFar text [] items
    → (statements : List Statement) × IsReading text statements × AreReadStatements items statements
all_lines text items h = (
  h.statements,
  subst (λ (ls : List (List ℕ)). AreRead ls h.statements) (sym (h.lines_are ∙ append-nil h.lines))
      h.read,
  h.same,
)
