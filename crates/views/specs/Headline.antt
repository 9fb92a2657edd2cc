-- What the viewer promises of each view.
use Rattle.std.specs.Prelude.{◌≡◌, ℕ, List, [], ◌++◌, Some, None, IfSome, Contains, codes}
use Rattle.dsm_io.specs.Causes.{Appends, AppendsPrefix}
use Rattle.dsm_io.specs.States.{FilesState, SinkState}
use Rattle.command_line.specs.Views.{View, Help, Code, Cost, Gdb, Trace, Blocks, reads, Page, Speedup, Time, writes}
use Rattle.judged_files.specs.Refusals.{IsBadRunLayout, IsRunRefused}
use Rattle.prepared_run.specs.Replays.{IsReplayRefused, IsBadReplayLayout, IsBadRecord}
use Rattle.views.specs.Code.{IsCodeText, IsCodeless, coded}
use Rattle.views.specs.Cost.{IsCostText}
use Rattle.views.specs.RunCost.{IsRunCostText, run_of}
use Rattle.views.specs.Trace.{recorded, IsTraceText}
use Rattle.views.specs.Blocks.{AreCostsOfRun}
use Rattle.views.specs.Debugger.{IsSessionText}
use Rattle.views.specs.Page.{IsPageText}
use Rattle.views.specs.Time.{IsTimeText, costs_of, timed}
use Rattle.views.specs.Speedup.{IsBadLayoutOf, IsSpeedupPage, counts_to}

-- how the viewer is called
unfoldable pub usage : List ℕ
usage =
    codes "usage: shasta_view code IN [--verify FILE | --no-batch]\n"
    ++ (codes "       shasta_view cost IN [RECORD] [--verify FILE | --no-batch]\n"
    ++ (codes "       shasta_view trace IN RECORD [--verify FILE] [--from S] [--to S]"
    ++ (codes " [--block 0xA] [--node I]\n"
    ++ (codes "       shasta_view blocks IN RECORD [--verify FILE]\n"
    ++ (codes "       shasta_view page IN RECORD OUT [--verify FILE] [--from S] [--to S]\n"
    ++ (codes "       shasta_view time IN [--nodes N] [--budget B] [--layout FILE]"
    ++ (codes " [--verify FILE | --no-batch] [--latency L] [--line P] [--handling H]\n"
    ++ (codes "       shasta_view speedup IN OUT [--nodes N] [--budget B] [--layout FILE]"
    ++ (codes " [--verify FILE | --no-batch] [--latency L] [--line P] [--handling H]\n"
    ++ (codes "       shasta_view gdb IN RECORD [--verify FILE] [--memory M]\n"
    ++ codes "       shasta_view --help\n"))))))))))

-- the text of a view, where files have these contents
abbrev pub IsText : View → (List ℕ → List ℕ) → List ℕ → Type 0
IsText Help contents text = text ≡ usage
IsText (Code a) contents text = IsCodeText (coded a contents) text
IsText (Cost a None) contents text = IsCostText (coded a contents) text
IsText (Cost a (Some r)) contents text = IsRunCostText (recorded (run_of a r) contents) text
IsText (Trace run from to block i) contents text =
    IsTraceText (recorded run contents)
    (record { from = from; to = to; address = block; node = i }) text
IsText (Blocks run) contents text = AreCostsOfRun (recorded run contents) text
IsText (Page run output from to) contents text = text ≡ []
IsText (Speedup a output) contents text = text ≡ []
IsText (Time a) contents text = IsTimeText (timed a contents) a.nodes a.budget (costs_of a) text
IsText (Gdb run memory) contents text = IsSessionText (recorded run contents) text

-- what a view writes into a file
abbrev pub IsWritten : View → (List ℕ → List ℕ) → List ℕ → Type 0
IsWritten (Page run output from to) contents bytes =
    IsPageText (recorded run contents)
    (record { from = from; to = to; address = None; node = None }) bytes
IsWritten (Speedup a output) contents bytes = IsSpeedupPage (timed a contents) a bytes
IsWritten view contents bytes = ⊥

-- the files that a view writes hold what it writes
abbrev pub AreWritten : View → (List ℕ → List ℕ) → FilesState → Type 0
AreWritten view contents now =
    (name : List ℕ) → Contains (writes view) name
    → IfSome (now.held name) (IsWritten view contents)

-- the executable of a view, or its verified file, is refused with this line
abbrev pub IsRefused : View → (List ℕ → List ℕ) → List ℕ → Type 0
IsRefused Help contents line = ⊥
IsRefused (Code a) contents line = IsCodeless (coded a contents) line
IsRefused (Cost a None) contents line = IsCodeless (coded a contents) line
IsRefused (Cost a (Some r)) contents line = IsReplayRefused (recorded (run_of a r) contents) line
IsRefused (Trace run from to block i) contents line = IsReplayRefused (recorded run contents) line
IsRefused (Blocks run) contents line = IsReplayRefused (recorded run contents) line
IsRefused (Page run output from to) contents line = IsReplayRefused (recorded run contents) line
IsRefused (Time a) contents line = IsRunRefused (timed a contents) line
IsRefused (Speedup a output) contents line = IsRunRefused (timed a contents) line
IsRefused (Gdb run memory) contents line = IsReplayRefused (recorded run contents) line

-- the layout of a view, or of its record, is refused with this line
abbrev pub IsLayoutRefused : View → (List ℕ → List ℕ) → List ℕ → Type 0
IsLayoutRefused (Trace run from to block i) contents line =
    IsBadReplayLayout (recorded run contents) line
IsLayoutRefused (Blocks run) contents line = IsBadReplayLayout (recorded run contents) line
IsLayoutRefused (Page run output from to) contents line =
    IsBadReplayLayout (recorded run contents) line
IsLayoutRefused (Cost a (Some r)) contents line =
    IsBadReplayLayout (recorded (run_of a r) contents) line
IsLayoutRefused (Time a) contents line = IsBadRunLayout (timed a contents) a.nodes line
IsLayoutRefused (Speedup a output) contents line =
    IsBadLayoutOf (timed a contents) (counts_to a.nodes) line
IsLayoutRefused (Gdb run memory) contents line = IsBadReplayLayout (recorded run contents) line
IsLayoutRefused view contents line = ⊥

-- a view's record is refused with this line
abbrev pub IsRecordRefused : View → (List ℕ → List ℕ) → List ℕ → Type 0
IsRecordRefused (Trace run from to block i) contents line = IsBadRecord (recorded run contents) line
IsRecordRefused (Blocks run) contents line = IsBadRecord (recorded run contents) line
IsRecordRefused (Page run output from to) contents line = IsBadRecord (recorded run contents) line
IsRecordRefused (Cost a (Some r)) contents line = IsBadRecord (recorded (run_of a r) contents) line
IsRecordRefused (Gdb run memory) contents line = IsBadRecord (recorded run contents) line
IsRecordRefused view contents line = ⊥

-- each file that a view reads is told to have its content
abbrev pub AreTold : View → FilesState → (List ℕ → List ℕ) → Type 0
AreTold view files contents =
    (name : List ℕ) → Contains (reads view) name → files.held name ≡ Some (contents name)

-- the whole text was put
pub record Prints (view : View) (contents : List ℕ → List ℕ) (before now : SinkState) : Type 0
  where
    pub text : List ℕ
    pub is : IsText view contents text
    pub put : Appends before.taken now.taken text

-- a prefix of the text was put
pub record PrintsPrefix (view : View) (contents : List ℕ → List ℕ) (before now : SinkState) : Type 0
  where
    pub text : List ℕ
    pub is : IsText view contents text
    pub put : AppendsPrefix before.taken now.taken text
