-- What holds of messages with their stamps, of the messages alone.
use Rattle.std.proofs.Common.{◌≡◌, ℕ, true, false, cond, eqb, ◌&&◌, List, [], ◌∷◌, ◌++◌, map, refl, ap, ◌∙◌}
use Rattle.dsm_protocol.proofs.Names.{Post, Wire, wires_to, Queue, message_of, list_of, SameWires, IsSent, IsTaken, messages_to, SameMessages, AreSent, IsMessageTaken}
use Rattle.message_queues.specs.Queue.{wires_of}
use Rattle.message_queues.proofs.Squares.{wire_with}

pub same_messages : (a b : List Queue) (n : ℕ) → SameWires a b n → SameMessages a b n
same_messages a b n same j i bj bi = ap (map message_of) (same j i bj bi)

pub message_taken : (a b : List Queue) (n j i : ℕ) (w : Wire) → IsTaken a b n j i w
    → IsMessageTaken a b n j i w.message
message_taken a b n j i w t = record {
  first = ap (map message_of) t.first;
  others = λ x y bx by. ap (map message_of) (t.others x y bx by)
      ∙ (elim (eqb x j && eqb y i) as (λ t. map message_of (cond t (wires_of b n j i) (wires_of a n x y))
      ≡ cond t (list_of b n j i) (list_of a n x y)) [ true ↦ refl | false ↦ refl ]);
}

messages_in : (stamp y : ℕ) (ps : List Post) → map message_of (wires_to stamp y ps)
    ≡ messages_to y ps
messages_in stamp y [] = refl
messages_in stamp y (p ∷ ps) = (elim (eqb p.to y)
    as (λ t. map message_of (cond t (wire_with stamp p ∷ wires_to stamp y ps) (wires_to stamp y ps))
    ≡ cond t (p.message ∷ messages_to y ps) (messages_to y ps)) [
      | true ↦ ap (λ z. p.message ∷ z) (messages_in stamp y ps)
      | false ↦ messages_in stamp y ps
    ])

messages_behind : (ws vs : List Wire) → map message_of (ws ++ vs)
    ≡ map message_of ws ++ map message_of vs
messages_behind [] vs = refl
messages_behind (w ∷ ws) vs = ap (λ z. w.message ∷ z) (messages_behind ws vs)

pub messages_sent : (a b : List Queue) (n j stamp : ℕ) (ps : List Post) → IsSent a b n j stamp ps
    → AreSent a b n j ps
messages_sent a b n j stamp ps sent x y bx by = ap (map message_of) (sent x y bx by)
    ∙ (elim (eqb x j) as (λ t. map message_of (cond t (wires_of a n x y ++ wires_to stamp y ps)
    (wires_of a n x y)) ≡ cond t (list_of a n x y ++ messages_to y ps) (list_of a n x y)) [
      | true ↦ messages_behind (wires_of a n x y) (wires_to stamp y ps)
          ∙ ap (λ z. list_of a n x y ++ z) (messages_in stamp y ps)
      | false ↦ refl
    ])

pub no_messages : (qs : List Queue) (n : ℕ) → ((j i : ℕ) → wires_of qs n j i ≡ [])
    → (j i : ℕ) → list_of qs n j i ≡ []
no_messages qs n none j i = ap (map message_of) (none j i)
