-- What is told of nodes and blocks.
use Rattle.std.specs.Prelude.{◌≡◌, ℕ, ◌<◌, zero, suc, nat_lt, true, false, if◌then◌else◌, List, [], ◌++◌, Option, Some, None, is_some, codes}
use Rattle.std.specs.Fmt.{decimal}
use Rattle.rv32_program.specs.declared.Exit.{Exit}
use Rattle.rv32_program.specs.declared.End.TheVariants as end
use Rattle.block_layout.specs.Layout.{Shape, blocks, home}
use Rattle.state_table.specs.declared.State.{State}
use Rattle.home_directory.specs.declared.directory.Busy.{Busy}
use Rattle.home_directory.specs.declared.wait.Wait.{Wait}
use Rattle.home_directory.specs.declared.wait.Answer.{Answer}
use Rattle.home_directory.specs.declared.wait.Answer.TheVariants.{ByData, ByGrant}
use Rattle.home_directory.specs.Home.{DirectoryEntry}
use Rattle.node_model.specs.declared.Standing.{Standing}
use Rattle.node_model.specs.declared.Standing.TheVariants as standing
use Rattle.node_model.specs.Node.{Node, Work, end_of, standing_of}
use Rattle.node_model.specs.Turns.{block_at}
use Rattle.node_model.specs.Core.{Core}
use Rattle.debugged_run.specs.gdb_session.declared.target.Doing.{Doing}
use Rattle.debugged_run.specs.gdb_session.declared.target.Doing.TheVariants.{Runs, Exited, Stopped, Waits}
use Rattle.event_text.specs.Names.{state_name, need_name}
use Rattle.event_text.specs.Parts.{text_if}

-- 1. A node

abbrev pub standing_name : Standing → List ℕ
standing_name standing.Running = codes "runs"
standing_name standing.AtPoll = codes "runs, and may take a message"
standing_name standing.Waiting = codes "waits"
standing_name standing.Ended = codes "has ended"
standing_name standing.Over = codes "has ended, as all nodes have"

-- how many Acks a wait is to have, once its answer has come
abbrev pub due_text : Option Answer → List ℕ
due_text None = []
due_text (Some (ByData acks buf)) = codes " of " ++ decimal acks
due_text (Some (ByGrant acks buf)) = codes " of " ++ decimal acks

-- the line of a wait for a block
abbrev pub wait_line : (b : ℕ) → State → Wait → List ℕ
wait_line b state w =
    codes "wants block " ++ (decimal b ++ (need_name w.need ++ (codes ", which is "
    ++ (state_name state ++ (codes "; acks " ++ (decimal w.counted
    ++ (due_text w.answer ++ codes "\n")))))))

abbrev pub wait_line_if : Shape → Node → (b : ℕ) → Option Wait → List ℕ
wait_line_if layout n b None = []
wait_line_if layout n b (Some w) = wait_line b (block_at layout n b).state w

-- the lines of a node's waits for the blocks below a number
abbrev pub wait_lines : Shape → Node → (end : ℕ) → List ℕ
wait_lines layout n zero = []
wait_lines layout n (suc b) = wait_lines layout n b ++ wait_line_if layout n b (n.wait b)

-- the line of a node
abbrev pub node_line : (i stamp : ℕ) → Standing → List ℕ
node_line i stamp s =
    codes "node " ++ (decimal i ++ (codes " has stamp " ++ (decimal stamp ++ (codes ", and "
    ++ (standing_name s ++ codes "\n")))))

-- a node: its stamp, what it may do, and what it waits for
abbrev pub node_text : Work → Core → (i : ℕ) → List ℕ
node_text work c i =
    node_line i (c.nodes i).stamp (standing_of work (c.nodes i))
    ++ wait_lines work.layout (c.nodes i) (blocks work.layout)

-- what is told of a number that none of so many nodes has
abbrev pub no_node_text : (i nodes : ℕ) → List ℕ
no_node_text i nodes =
    codes "there is no node " ++ (decimal i ++ (codes ": nodes have numbers below "
    ++ (decimal nodes ++ codes "\n")))

-- the node with a number, if there is one
abbrev pub node_text_if : Work → Core → (i : ℕ) → List ℕ
node_text_if work c i =
    if nat_lt i work.layout.nodes then node_text work c i else no_node_text i work.layout.nodes

-- a node waits for this block, and for none before it
pub record IsFirstWait (n : Node) (b : ℕ) : Type 0 where
  pub waits : is_some (n.wait b) ≡ true
  pub first : (a : ℕ) → a < b → is_some (n.wait a) ≡ false

-- it waits for no block
abbrev pub HasNoWait : Shape → Node → Type 0
HasNoWait layout n = (b : ℕ) → b < blocks layout → is_some (n.wait b) ≡ false

-- what a node does: it waits, which is told by the first block; or it runs, and has no end; or it
-- ended by itself, or the budget stopped it
abbrev pub NodeDoes : Work → Node → Doing → Type 0
NodeDoes work n (Waits b) = (standing_of work n ≡ standing.Waiting) × IsFirstWait n b
NodeDoes work n Runs =
    (end_of n.phase ≡ None) × (standing_of work n ≡ standing.Waiting → HasNoWait work.layout n)
NodeDoes work n Exited = (exit : Exit) × (end_of n.phase ≡ Some (end.Exited exit))
NodeDoes work n Stopped = (budget : ℕ) × (end_of n.phase ≡ Some (end.Stopped budget))

-- 2. A block

abbrev pub busy_text : Option Busy → List ℕ
busy_text None = []
busy_text (Some busy) =
    codes ", busy with node " ++ (decimal busy.node ++ need_name busy.need)

-- the line of what a block's home keeps of it
abbrev pub home_line : (b home : ℕ) → DirectoryEntry → List ℕ
home_line b home e =
    codes "block " ++ (decimal b ++ (codes " has home " ++ (decimal home ++ (codes ", owner "
    ++ (decimal e.owner ++ (busy_text e.busy ++ codes "\n"))))))

-- the line of a block's state at a node
abbrev pub state_line : DirectoryEntry → (i : ℕ) → State → List ℕ
state_line e i state =
    codes "node " ++ (decimal i ++ (codes ": " ++ (state_name state
    ++ (text_if (e.sharers i) (codes ", a sharer") ++ codes "\n"))))

-- the lines of its states at the nodes below a number
abbrev pub state_lines : Shape → Core → DirectoryEntry → (b end : ℕ) → List ℕ
state_lines layout c e b zero = []
state_lines layout c e b (suc i) =
    state_lines layout c e b i ++ state_line e i (block_at layout (c.nodes i) b).state

-- what the home of a block keeps of it
abbrev pub entry_in : Shape → Core → (b : ℕ) → DirectoryEntry
entry_in layout c b = (c.nodes (home layout b)).entry b

-- a block: its home, its owner, its sharers, and its state at each node
abbrev pub block_text : Shape → Core → (b : ℕ) → List ℕ
block_text layout c b =
    home_line b (home layout b) (entry_in layout c b)
    ++ state_lines layout c (entry_in layout c b) b layout.nodes

unfoldable pub no_block_text : List ℕ
no_block_text = codes "no block has this address: its line is not shared\n"

abbrev pub block_text_if : Shape → Core → Option ℕ → List ℕ
block_text_if layout c None = no_block_text
block_text_if layout c (Some b) = block_text layout c b
