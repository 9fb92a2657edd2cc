-- Workers, one for each node.
use Rattle.std.specs.Prelude.{◌≡◌, ℕ, zero, suc, ◌<◌, List, [], ◌∷◌, ◌++◌, map, Option, None, Some, Vec, length}
use Rattle.std.specs.declared.alloc.Global.{Global}
use Rattle.std.specs.declared.collections.VecDeque.{VecDeque}
use Rattle.dsm_messages.specs.declared.messages.Wire.{Wire}
use Rattle.dsm_protocol.specs.node_model.Node.{Work}
use Rattle.dsm_core.specs.node_machine.declared.node_state.NodeState.{NodeState}
use Rattle.dsm_core.specs.node_machine.NodeState.{work_of}
use Rattle.node_threads.specs.Rows.{wires_at}
use Rattle.node_threads.specs.Works.{Works}
use Rattle.node_threads.specs.declared.worker.Worker.{Worker}

-- none has an undelivered wire
abbrev pub AllIdle : List Worker → Type 0
AllIdle [] = Unit {0}
AllIdle (w ∷ ws) = (w.undelivered ≡ None) × AllIdle ws

-- what each worker did
abbrev pub AllWork : List Worker → List Worker → Type 0
AllWork [] [] = Unit {0}
AllWork (old ∷ olds) (new ∷ news) = Works old new × AllWork olds news
AllWork olds news = ⊥

-- the undelivered wire of worker i
abbrev pub undelivered_at : List (Option (ℕ × Wire)) → (i : ℕ) → Option (ℕ × Wire)
undelivered_at [] i = None
undelivered_at (h ∷ hs) zero = h
undelivered_at (h ∷ hs) (suc i) = undelivered_at hs i

-- the list from node j to node k
abbrev pub list_of : List (Vec (VecDeque Wire Global) Global) → (j k : ℕ) → List Wire
list_of rows j k = wires_at (λ (o : VecDeque Wire Global). o.items)
    (wires_at (λ (v : Vec (VecDeque Wire Global) Global). v.items) rows j) k

-- rows of n lists each
abbrev pub RowsOf : (n : ℕ) → List (Vec (VecDeque Wire Global) Global) → Type 0
RowsOf n [] = Unit {0}
RowsOf n (r ∷ rs) = (length r.items ≡ n) × RowsOf n rs

-- the lists of rows, one after another
abbrev pub flat : List (Vec (VecDeque Wire Global) Global) → List (List Wire)
flat [] = []
flat (r ∷ rs) = map (λ (o : VecDeque Wire Global). o.items) r.items ++ flat rs

-- every node runs this
abbrev pub AreNodesOf : Work → List NodeState → Type 0
AreNodesOf work [] = Unit {0}
AreNodesOf work (f ∷ fs) = (work_of f ≡ work) × AreNodesOf work fs

-- each undelivered wire is from one of n nodes
abbrev pub UndeliveredFit : (n : ℕ) → List (Option (ℕ × Wire)) → Type 0
UndeliveredFit n [] = Unit {0}
UndeliveredFit n (None ∷ hs) = UndeliveredFit n hs
UndeliveredFit n (Some p ∷ hs) = (p.0 < n) × UndeliveredFit n hs
