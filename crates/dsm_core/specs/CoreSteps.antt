-- Helps the code alone: events of nodes and lists, as they are stored.
use Rattle.std.specs.Prelude.{◌≡◌, ◌≢◌, ℕ, ◌<◌, ◌≤◌, ◌^◌, Bool, true, if◌then◌else◌, List, [], ◌∷◌, map, slice_index_or, length}
use Rattle.rewriting_law.specs.dsm_messages.declared.messages.Wire.{Wire}
use Rattle.node_machine.specs.jump_map.Image.{Cell}
use Rattle.run_order.specs.node_model.Node.{Work, Node, opening_node, can_execute}
use Rattle.run_order.specs.node_model.Core.{Core, Event, Exec, Take, May, event_step, AreAlike}
use Rattle.node_machine.specs.declared.node_state.NodeState.{NodeState}
use Rattle.node_machine.specs.NodeState.{node_of, work_of as work_at, HasRoom}
use Rattle.rewriting_law.specs.dsm_protocol.Queue.{Queue, wires_of}
use Rattle.dsm_core.specs.CoreParts.{core_with, HaveWork, GoesOnTo}
use Rattle.dsm_core.specs.CoreWords.{HasExecutedOn, HasPassed, HasPassedWords, LearnsBelow}

-- node i, where there is one
abbrev pub node_or : List NodeState → ℕ → Node → Node
node_or nodes i n = slice_index_or (map node_of nodes) i n

-- the nodes stand for the same, and run the same
pub record SameNodes (old new : List NodeState) : Type 0 where
  pub nodes : map node_of new ≡ map node_of old
  pub works : map work_at new ≡ map work_at old

-- node i has room for one event
abbrev pub HasNodeRoom : List NodeState → ℕ → Type 0
HasNodeRoom nodes i = (f : NodeState) → HasRoom (slice_index_or nodes i f)

abbrev pub MayExecute : List NodeState → ℕ → Type 0
MayExecute nodes i = (n : Node) → can_execute (node_or nodes i n).phase ≡ true

-- the stamps of node i, and of the first message from j to i, are in range
abbrev pub IsStamped : List NodeState → ℕ → Type 0
IsStamped nodes i = (n : Node) → (node_or nodes i n).stamp < 2 ^ 56

abbrev pub IsFirstStamped : List Queue → (n j i : ℕ) → Type 0
IsFirstStamped lists n j i = (w : Wire) (rest : List Wire) → wires_of lists n j i ≡ w ∷ rest
    → w.stamp < 2 ^ 56

-- node i is there and may execute a word, and its stamp is in range
abbrev pub CanExecute : (n : ℕ) → List NodeState → ℕ → Type 0
CanExecute n nodes i = (i < n) × MayExecute nodes i × IsStamped nodes i

-- the event is allowed, and its stamps are in range
abbrev pub CanMake : (n : ℕ) → List NodeState → List Queue → Event → Type 0
CanMake n nodes lists (Exec i) = CanExecute n nodes i
CanMake n nodes lists (Take i j) = (i < n) × (j < n) × (wires_of lists n j i ≢ [])
    × IsStamped nodes i × IsFirstStamped lists n j i

-- the nodes and lists have made the event, whatever they run
abbrev pub HaveMade : (n : ℕ) (old_nodes new_nodes : List NodeState)
    (old_lists new_lists : List Queue)
    → Event → Type 0
HaveMade n old_nodes new_nodes old_lists new_lists e = (work : Work) → work.layout.nodes ≡ n
    → HaveWork work old_nodes
    → AreAlike n (core_with work new_nodes new_lists)
    (event_step work (core_with work old_nodes old_lists) e)

-- the core is the same, whatever they run
abbrev pub HaveKept : (n : ℕ) (old_nodes new_nodes : List NodeState)
    (old_lists new_lists : List Queue)
    → Type 0
HaveKept n old_nodes new_nodes old_lists new_lists = (work : Work) → work.layout.nodes ≡ n
    → core_with work new_nodes new_lists ≡ core_with work old_nodes old_lists

-- node i has passed a word, whatever they run
abbrev pub HavePassed : (n i : ℕ) (old new : List NodeState) → Type 0
HavePassed n i old new = (work : Work) (lists : List Queue) → work.layout.nodes ≡ n
    → HaveWork work old → HasPassed work i (core_with work old lists) (core_with work new lists)

-- node i has passed so many words, whatever they run
abbrev pub HavePassedWords : (n i words : ℕ) (old new : List NodeState) → Type 0
HavePassedWords n i words old new = (work : Work) (lists : List Queue) → work.layout.nodes ≡ n
    → HaveWork work old
    → HasPassedWords work i words (core_with work old lists) (core_with work new lists)

-- the nodes run an image of which this holds
pub record HaveImage (nodes : List NodeState) (holds : List Cell → Type 0) : Type 0 where
  pub work : Work
  pub runs : HaveWork work nodes
  pub image : holds work.image

-- so much is learned of so many of node i's next words, whatever they run
abbrev pub HasLearned : (n i words : ℕ) → List NodeState → (Work → ℕ → Node → Type 0) → Type 0
HasLearned n i words nodes learned = (work : Work) (m : Node) → work.layout.nodes ≡ n
    → HaveWork work nodes → learned work words (node_or nodes i m)

-- and of so many next words of each node below k, by number, whatever they run
abbrev pub HaveLearnedBelow : {L : Type 0} → (Work → ℕ → Node → L → L → Type 0) → (words : ℕ → ℕ)
    → (k : ℕ) → List NodeState → (old new : L) → Type 0
HaveLearnedBelow learns words k nodes l m = (work : Work) (lists : List Queue) → HaveWork work nodes
    → LearnsBelow learns work words k (core_with work nodes lists) l m

-- node i has executed so many words, whatever they run
abbrev pub HaveExecutedOn : (n i words : ℕ) (old_nodes new_nodes : List NodeState)
    (old_lists new_lists : List Queue)
    → Type 0
HaveExecutedOn n i words old_nodes new_nodes old_lists new_lists = (work : Work)
    → work.layout.nodes ≡ n → HaveWork work old_nodes
    → HasExecutedOn work i words (core_with work old_nodes old_lists)
    (core_with work new_nodes new_lists)

-- the nodes run what they ran
abbrev pub SameWorks : (old new : List NodeState) → Type 0
SameWorks old new = map work_at new ≡ map work_at old

-- each node is that of the start, and runs this
abbrev pub AreFirst : Work → List NodeState → Type 0
AreFirst work nodes =
    (i : ℕ) → slice_index_or (map node_of nodes) i (opening_node work i) ≡ opening_node work i

-- by so many events at least
pub record GoesOnFor (work : Work) (k : ℕ) (c d : Core) : Type 0 where
  pub goes : GoesOnTo work c d
  pub count : k ≤ length goes.more

-- so many events at least, and none where nothing has changed
pub record HasGone (work : Work) (k : ℕ) (c d : Core) : Type 0 where
  pub goes : GoesOnFor work k c d
  pub same : k ≡ 0 → d ≡ c

abbrev pub one_if : Bool → ℕ
one_if moved = if moved then 1 else 0

-- node i may take no message
abbrev pub TakesNone : Work → ℕ → Core → Type 0
TakesNone work i c = (j : ℕ) → May work c (Take i j) → ⊥

-- node i may make no event
pub record IsStill (work : Work) (i : ℕ) (c : Core) : Type 0 where
  pub word : May work c (Exec i) → ⊥
  pub takes : TakesNone work i c
