-- The text of rewritten code, which is put in pieces, an entry after another.
use Rattle.std.proofs.Common.{◌≡◌, ℕ, ◌+◌, ◌<◌, List, [], ◌++◌, length, drop, refl, sym, ap, ◌∙◌, append-nil, append_assoc}
use Rattle.exec_map.specs.Contents.{program_of}
use Rattle.templates.specs.declared.plans.PlanEntry.{PlanEntry}
use Rattle.jump_map.specs.Image.{plan_items}
use Rattle.code_view.specs.Code.{entries_text, entry_text, words_of}
use Rattle.code_view.specs.declared.view.CodeView.{CodeView}
use Rattle.code_view.proofs.Lines.{count_past, front_of, past_entry}
use Rattle.dsm_io.specs.Causes.{Appends}
use Rattle.dsm_io.specs.States.{SinkState}
use Rattle.text_output.specs.declared.failure.Failure.{Failure}
use Rattle.text_output.specs.declared.failure.Failure.TheVariants.{OutOfMemory}
use Rattle.text_output.specs.Failures.{FailsAs, IsLike, IsNever, IsPutFailure}
use Rattle.text_output.proofs.Pieces.{joins, put_fails, stops_behind}
use Rattle.views.specs.Failures.{shown_text}

-- the text of the entries from one on, of which the first word has this number
abbrev pub rest_from : CodeView → (index number : ℕ) → List ℕ
rest_from v index number = entries_text v.program.now v.image.now number (drop index v.plan.now)

-- pieces were put, and lines are gathered, up to an entry
pub record IsUnderWay (v : CodeView) (start now : SinkState) (lines : List ℕ) (index number : ℕ) : Type 0
  where
    pub pieces : List ℕ
    pub put : Appends start.taken now.taken pieces
    pub faults : now.faults ≡ start.faults
    pub reached : (pieces ++ lines) ++ rest_from v index number ≡ shown_text v
    pub count : number + length (plan_items (program_of v.program.now) (drop index v.plan.now))
        ≡ 1 + length (plan_items (program_of v.program.now) v.plan.now)

-- an entry more is gathered
pub entry_gathered : (v : CodeView) (start now : SinkState) (lines more : List ℕ) (index number next : ℕ)
    (entries : List PlanEntry) (e : PlanEntry)
    → entries ≡ v.plan.now → index < length entries → e ≡ Rattle.std.proofs.Common.get_or entries index e
    → next ≡ number + words_of (program_of v.program.now) e
    → more ≡ lines ++ entry_text v.program.now v.image.now number e
    → IsUnderWay v start now lines index number → IsUnderWay v start now more (index + 1) next
entry_gathered v start now lines more index number next entries e same lt is behind text u =
    let left = front_of v.plan.now entries index e same lt is in record {
      pieces = u.pieces;
      put = u.put;
      faults = u.faults;
      reached = past_entry v.program.now v.image.now number next v.plan.now index e (u.pieces ++ lines)
          (u.pieces ++ more) (shown_text v) left behind (ap (λ t. u.pieces ++ t) text
          ∙ sym (append_assoc u.pieces lines (entry_text v.program.now v.image.now number e)))
          u.reached;
      count = count_past (program_of v.program.now) number next
          (1 + length (plan_items (program_of v.program.now) v.plan.now)) v.plan.now index e left behind u.count;
    }

-- the lines are put
pub lines_put : (v : CodeView) (start before now : SinkState) (lines rest : List ℕ) (index number : ℕ)
    → IsUnderWay v start before lines index number → Appends before.taken now.taken lines
    → now.faults ≡ before.faults → rest ≡ [] → IsUnderWay v start now rest index number
lines_put v start before now lines rest index number u put same nil = record {
  pieces = u.pieces ++ lines;
  put = joins start.taken before.taken now.taken u.pieces lines u.put put;
  faults = same ∙ u.faults;
  reached = ap (λ t. t ++ rest_from v index number)
      (ap (λ r. (u.pieces ++ lines) ++ r) nil ∙ append-nil (u.pieces ++ lines)) ∙ u.reached;
  count = u.count;
}

-- the lines aren't put
pub lines_fail : (v : CodeView) (start before now : SinkState) (lines : List ℕ) (index number : ℕ) (f : Failure)
    → IsUnderWay v start before lines index number → IsPutFailure before now lines f
    → FailsAs (IsLike (shown_text v)) IsNever IsNever start now f
lines_fail v start before now lines index number f u h =
    put_fails (IsLike (shown_text v)) IsNever IsNever (shown_text v) 0 start before now u.pieces lines
    (rest_from v index number) f refl
    (sym u.reached ∙ append_assoc u.pieces lines (rest_from v index number)) u.put u.faults h

-- no line more is gathered
pub lines_stop : (v : CodeView) (start now : SinkState) (lines : List ℕ) (index number : ℕ) (f : Failure)
    → f ≡ OutOfMemory → IsUnderWay v start now lines index number
    → FailsAs (IsLike (shown_text v)) IsNever IsNever start now f
lines_stop v start now lines index number f out u =
    stops_behind (IsLike (shown_text v)) IsNever IsNever (shown_text v) 0 start now u.pieces
    (lines ++ rest_from v index number) f out refl
    (sym u.reached ∙ append_assoc u.pieces lines (rest_from v index number)) u.put
