-- What a node keeps for its lanes at the start.
use Rattle.std.proofs.Common.{◌≡◌, ℕ, zero, suc, ◌+◌, ◌++◌, List, [], ◌∷◌, length, None, refl, ap, ◌∙◌, arith}
use Rattle.buf_pool.specs.Pool.{Slots}
use Rattle.block_layout.specs.Layout.{Shape}
use Rattle.node_machine.specs.miss_handlers.Waits.{NodeWaits, wait_of}
use Rattle.lane_machine.specs.declared.lane_protocol.LaneProtocol.{LaneProtocol}
use Rattle.lane_machine.specs.Waits.{first_in, waits_for, wait_among, waits_in, AreApart}
use Rattle.lane_machine.proofs.WaitLists.{one_of_none}
use Rattle.lane_machine.specs.Places.{pools_in, reserved_in, wait_at}
use Rattle.lane_machine.specs.Stored.{AreKept}

pub record IsFirst (l : Shape) (p : LaneProtocol) : Type 0 where
  pub reservation : p.reservation ≡ None
  pub waits : p.waits ≡ record { layout = l; waits = [] }
  pub pool : p.pool ≡ record { free = 2; slots = 2; bytes = 4096 }

abbrev pub AreFirst : Shape → List LaneProtocol → Type 0
AreFirst l [] = Unit {0}
AreFirst l (p ∷ ps) = IsFirst l p × AreFirst l ps

pub first_more : (l : Shape) (ps : List LaneProtocol) (p : LaneProtocol) → IsFirst l p → AreFirst l ps → AreFirst l (ps ++ p ∷ [])
first_more l [] p is h = (is, tt)
first_more l (x ∷ ps) p is h = (h.0, first_more l ps p is h.1)

pub first_kept : (l : Shape) (ps : List LaneProtocol) → AreFirst l ps → AreKept l (waits_in ps) (pools_in ps)
first_kept l [] h = tt
first_kept l (p ∷ ps) h =
    let f = h.0 in (
      record {
        waits = ap (λ (w : NodeWaits). w.layout) f.waits;
        slots = ap (λ (q : Slots). q.slots) f.pool;
        bytes = ap (λ (q : Slots). q.bytes) f.pool;
        buffers = λ t. (f.pool t).free + length (f.waits t).waits;
      },
      first_kept l ps h.1,
    )

pub first_reserved : (l : Shape) (ps : List LaneProtocol) → AreFirst l ps → (k : ℕ) → reserved_in ps k ≡ None
first_reserved l [] h k = refl
first_reserved l (p ∷ ps) h zero = (h.0).reservation
first_reserved l (p ∷ ps) h (suc k) = first_reserved l ps h.1 k

first_wait : (l : Shape) (p : LaneProtocol) → IsFirst l p → (b : ℕ) → wait_of p.waits b ≡ None
first_wait l p is b = ap (λ w. wait_of w b) is.waits

pub first_at : (l : Shape) (ps : List LaneProtocol) → AreFirst l ps → (k b : ℕ) → wait_at ps k b ≡ None
first_at l [] h k b = refl
first_at l (p ∷ ps) h zero b = first_wait l p h.0 b
first_at l (p ∷ ps) h (suc k) b = first_at l ps h.1 k b

pub first_among : (l : Shape) (ps : List LaneProtocol) → AreFirst l ps → (b : ℕ) → wait_among (waits_in ps) b ≡ None
first_among l [] h b = refl
first_among l (p ∷ ps) h b =
    ap (λ o. first_in (o ∷ waits_for (waits_in ps) b)) (first_wait l p h.0 b) ∙ first_among l ps h.1 b

pub first_apart : (l : Shape) (ps : List LaneProtocol) → AreFirst l ps → AreApart (waits_in ps)
first_apart l ps h b = one_of_none (waits_for (waits_in ps) b) (first_among l ps h b)

pub one_longer : (ps : List LaneProtocol) (p : LaneProtocol) → length (ps ++ p ∷ []) ≡ length ps + 1
one_longer [] p = refl
one_longer (x ∷ ps) p = let r = one_longer ps p in omega (arith, r)
