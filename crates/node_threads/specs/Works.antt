-- What a worker has done: from the one handed in to the one given.
use Rattle.std.specs.Prelude.{◌≡◌, ℕ, ◌<◌, ◌==◌, if◌then◌else◌, List, [], ◌∷◌, ◌++◌, map, length, Option, None, Some}
use Rattle.std.specs.declared.alloc.Global.{Global}
use Rattle.std.specs.declared.collections.VecDeque.{VecDeque}
use Rattle.atomic_table.specs.Seated.{TableId}
use Rattle.dsm_messages.specs.declared.messages.Wire.{Wire}
use Rattle.dsm_protocol.specs.node_model.declared.Standing.{Standing}
use Rattle.dsm_protocol.specs.node_model.Node.{standing_of}
use Rattle.dsm_core.specs.node_machine.declared.node_state.NodeState.{NodeState}
use Rattle.dsm_core.specs.node_machine.NodeState.{node_of, work_of}
use Rattle.dsm_core.specs.run_order.Apart.{LocalEvent, LeadsBy, taken_from, sent_to}
use Rattle.fifo_link.specs.End.{End}
use Rattle.node_threads.specs.Rows.{wires_at}
use Rattle.node_threads.specs.declared.worker.Worker.{Worker}

-- what a node may do next
abbrev pub standing : NodeState → Standing
standing f = standing_of (work_of f) (node_of f)

-- the wires that went through the end for node k
abbrev pub through : List End → ℕ → List Wire
through ends k = wires_at (λ (e : End). e.wires) ends k

-- the wires in the outbox for node k
abbrev pub waiting : List (VecDeque Wire Global) → ℕ → List Wire
waiting outboxes k = wires_at (λ (o : VecDeque Wire Global). o.items) outboxes k

-- the undelivered wire, where it is from node j
abbrev pub undelivered_from : (j : ℕ) → Option (ℕ × Wire) → List Wire
undelivered_from j None = []
undelivered_from j (Some p) = if p.0 == j then p.1 ∷ [] else []

-- which links these are the ends of, and how wide they are
abbrev pub links_of : List End → List (TableId × ℕ)
links_of ends = map (λ (e : End). (e.link, e.capacity)) ends

-- an end of a link to each node and of one from each, and an outbox for each
pub record HasRows (w : Worker) : Type 0 where
  pub sends : length w.sends.items ≡ (work_of w.node).layout.nodes
  pub takes : length w.takes.items ≡ (work_of w.node).layout.nodes
  pub outboxes : length w.outboxes.items ≡ (work_of w.node).layout.nodes

-- it may begin to work
pub record IsReady (w : Worker) : Type 0 where
  pub rows : HasRows w
  pub undelivered : w.undelivered ≡ None

-- The node has made some history. What each end took is what they took from its node, and then the
-- undelivered wire where it is from that node. What was in each outbox and what they sent to its
-- node is what its end sent, and then what is in the outbox.
pub record Works (old new : Worker) : Type 0 where
  pub history : List LocalEvent
  pub work : work_of new.node ≡ work_of old.node
  pub leads : LeadsBy (work_of old.node) (node_of old.node) history (node_of new.node)
  pub takes : (j : ℕ) → through new.takes.items j
      ≡ through old.takes.items j ++ taken_from j history ++ undelivered_from j new.undelivered
  -- what each end sent
  pub pushed : ℕ → List Wire
  pub sends : (k : ℕ) → through new.sends.items k ≡ through old.sends.items k ++ pushed k
  pub outboxes : (k : ℕ) → k < (work_of old.node).layout.nodes
      → waiting old.outboxes.items k ++ sent_to (work_of old.node) k (node_of old.node) history
      ≡ pushed k ++ waiting new.outboxes.items k
  -- each end given is that handed in, of the same link
  pub same_sends : links_of new.sends.items ≡ links_of old.sends.items
  pub same_takes : links_of new.takes.items ≡ links_of old.takes.items
  pub same_outboxes : length new.outboxes.items ≡ length old.outboxes.items
