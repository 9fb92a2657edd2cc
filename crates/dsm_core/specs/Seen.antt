-- What an event takes, sends and wants where a core stands.
use Rattle.std.specs.Prelude.{◌≡◌, ℕ, List, [], ◌∷◌, map, Option, None}
use Rattle.rewriting_law.specs.dsm_messages.declared.messages.Post.{Post}
use Rattle.rewriting_law.specs.dsm_messages.declared.messages.Wire.{Wire}
use Rattle.rewriting_law.specs.dsm_messages.Headers.{header_of, sent_by}
use Rattle.run_order.specs.node_model.Node.{Work, Node}
use Rattle.run_order.specs.node_model.Turns.{word_turn, take_turn}
use Rattle.run_order.specs.node_model.Core.{Core, Event, Exec, Take}
use Rattle.node_machine.specs.declared.node_state.NodeState.{NodeState}
use Rattle.node_machine.specs.Wanted.{wanted_in, wants_of_word}
use Rattle.node_machine.specs.declared.wanted.Wanted.{Wanted}
use Rattle.rewriting_law.specs.dsm_protocol.Queue.{Queue}
use Rattle.dsm_core.specs.declared.seen.Incoming.{Incoming}
use Rattle.dsm_core.specs.declared.seen.Seen.{Seen}
use Rattle.dsm_core.specs.CoreParts.{core_with, HaveWork}

-- a message on its way, without its buffer
abbrev pub incoming_of : Wire → Incoming
incoming_of wire = record { stamp = wire.stamp; header = header_of wire.message }

-- it is the first of these
abbrev pub IsFirstIn : List Wire → Incoming → Type 0
IsFirstIn wires first =
    (wire : Wire) × (rest : List Wire) × (wires ≡ wire ∷ rest) × (first ≡ incoming_of wire)

-- what a node sends that takes the first of these messages from node j
abbrev pub sends_of_take : Work → Node → (j : ℕ) → List Wire → List Post
sends_of_take work n j [] = []
sends_of_take work n j (wire ∷ rest) = (take_turn work n j wire).sends

-- what an event sends, in order
abbrev pub sends_at : Work → Core → Event → List Post
sends_at work c (Exec i) = (word_turn work (c.nodes i)).sends
sends_at work c (Take i j) = sends_of_take work (c.nodes i) j (c.list j i)

-- what its word wants of blocks
abbrev pub wants_at : Work → Core → Event → List Wanted
wants_at work c (Exec i) = wants_of_word work (c.nodes i)
wants_at work c (Take i j) = []

-- the byte that it prints
abbrev pub byte_at : Work → Core → Event → Option ℕ
byte_at work c (Exec i) = (word_turn work (c.nodes i)).printed
byte_at work c (Take i j) = None

-- this was seen of an event
pub record IsSeen (work : Work) (c : Core) (e : Event) (s : Seen) : Type 0 where
  pub sends : s.sends.items ≡ map sent_by (sends_at work c e)
  pub wants : wanted_in s.wants ≡ wants_at work c e
  pub printed : s.printed ≡ byte_at work c e

-- the same of nodes and lists as they are stored, whatever they run
abbrev pub HaveSeen : (n : ℕ) → List NodeState → List Queue → Event → Seen → Type 0
HaveSeen n nodes lists e s = (work : Work) → work.layout.nodes ≡ n → HaveWork work nodes
    → IsSeen work (core_with work nodes lists) e s
