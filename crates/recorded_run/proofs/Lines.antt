-- Lines of blocks and of nodes, one after another.
use Rattle.std.proofs.Common.{◌≡◌, ℕ, suc, ◌+◌, ◌<◌, ◌≤◌, Bool, false, List, ◌++◌, sym, ap, ◌∙◌, arith, append_assoc}
use Rattle.std.proofs.lemmas.Bool.{le-ltb, lt-ltb}
use Rattle.std.specs.Prelude.{nat_lt, if◌then◌else◌}
use Rattle.block_layout.specs.Layout.{Shape, home}
use Rattle.home_directory.specs.Home.{DirectoryEntry}
use Rattle.node_model.specs.Core.{Core}
use Rattle.node_model.specs.Node.{Node, Work}
use Rattle.node_model.specs.Turns.{block_at}
use Rattle.event_text.specs.replay.dsm_core.CoreParts.{CoreParts, core_of, work_of}
use Rattle.recorded_run.specs.Nodes.{block_text, entry_in, home_line, no_node_text, node_text, node_text_if, state_line, state_lines}

-- a piece, and what is put behind it
pub put : (a b c p q : List ℕ) → b ≡ a ++ p → c ≡ b ++ q → c ≡ a ++ (p ++ q)
put a b c p q one more = more ∙ ap (λ o. o ++ q) one ∙ append_assoc a p q

-- the state at a node more
pub next_state : (layout : Shape) (c : Core) (e : DirectoryEntry) (b i : ℕ) (first out more : List ℕ)
    → out ≡ first ++ state_lines layout c e b i → more ≡ out ++ state_line e i (block_at layout (c.nodes i) b).state
    → more ≡ first ++ state_lines layout c e b (i + 1)
next_state layout c e b i first out more here next =
    let line = state_line e i (block_at layout (c.nodes i) b).state in
    let more_is : suc i ≡ i + 1 = omega arith in
    next ∙ ap (λ o. o ++ line) here ∙ append_assoc first (state_lines layout c e b i) line
    ∙ ap (λ (k : ℕ). first ++ state_lines layout c e b k) more_is

-- what a home keeps of a block, and the block's state at a node
pub kept_at_home : (core : CoreParts) (b h : ℕ) (l : Shape) (n : Node) → n ≡ (core_of core).nodes h → h ≡ home l b
    → l ≡ core.layout → n.entry b ≡ entry_in core.layout (core_of core) b
kept_at_home core b h l n n_is h_is l_is =
    ap (λ (m : Node). m.entry b) (n_is ∙ ap (core_of core).nodes (h_is ∙ ap (λ (s : Shape). home s b) l_is))

pub state_there : (core : CoreParts) (w : Work) (n : Node) (i b : ℕ) → n ≡ (core_of core).nodes i → w ≡ work_of core
    → block_at w.layout n b ≡ block_at core.layout ((core_of core).nodes i) b
state_there core w n i b n_is w_is =
    ap (λ (x : Work). block_at x.layout n b) w_is ∙ ap (λ (m : Node). block_at core.layout m b) n_is

-- the line of a home and the states at all nodes
pub whole_block : (core : CoreParts) (b h i : ℕ) (e : DirectoryEntry) (first head out : List ℕ) → head ≡ first ++ home_line b h e
    → h ≡ home core.layout b → e ≡ entry_in core.layout (core_of core) b
    → out ≡ head ++ state_lines core.layout (core_of core) (entry_in core.layout (core_of core) b) b i → i ≡ core.layout.nodes
    → out ≡ first ++ block_text core.layout (core_of core) b
whole_block core b h i e first head out head_is h_is e_is out_is i_is =
    let kept = entry_in core.layout (core_of core) b in
    let states : ℕ → List ℕ = λ k. state_lines core.layout (core_of core) kept b k in
    out_is ∙ ap (λ o. o ++ states i) head_is ∙ append_assoc first (home_line b h e) (states i)
    ∙ ap (λ k. first ++ (home_line b h e ++ states k)) i_is
    ∙ ap (λ k. first ++ (home_line b k e ++ states core.layout.nodes)) h_is
    ∙ ap (λ (x : DirectoryEntry). first ++ (home_line b (home core.layout b) x ++ states core.layout.nodes)) e_is

-- the node with a number, or that there is none
pub no_such_node : (work : Work) (c : Core) (i n : ℕ) → n ≡ work.layout.nodes → n ≤ i → no_node_text i n ≡ node_text_if work c i
no_such_node work c i n is high =
    let test : nat_lt i work.layout.nodes ≡ false = le-ltb i work.layout.nodes (omega (arith, is, high)) in
    ap (λ (k : ℕ). no_node_text i k) is
    ∙ ap (λ (b : Bool). if b then node_text work c i else no_node_text i work.layout.nodes) (sym test)

pub such_node : (work : Work) (c : Core) (i : ℕ) → i < work.layout.nodes → node_text work c i ≡ node_text_if work c i
such_node work c i low =
    ap (λ (b : Bool). if b then node_text work c i else no_node_text i work.layout.nodes)
    (sym (lt-ltb i work.layout.nodes low))
