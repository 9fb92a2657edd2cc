-- The events and the bytes of history, as sorted lists.
use Rattle.std.proofs.Common.{◌≡◌, ℕ, ◌<◌, Bool, cond, eqb, List, [], ◌∷◌, ◌++◌, map, Option, Some, None, sym, refl, ap, ap₂, ◌∙◌, subst, true, false, eq-eqb, arith, ⊎_elim, inl, inr}
use Rattle.node_model.specs.dsm_messages.declared.messages.Wire.{Wire}
use Rattle.node_model.specs.Node.{Work, Node}
use Rattle.node_model.specs.Core.{Core}
use Rattle.run_order.specs.Sorted.{Precedes, PrecedesAll, AreSorted, AreMadeBelow, made_by}
use Rattle.run_order.specs.OwnRun.{Stamped, node_of, stamp_in, maker, run_of}
use Rattle.run_order.specs.Merge.{Printed, stamp_of, printer}
use Rattle.run_order.proofs.History.{LocalEvent, stamped, event_by, byte_by, prints, of, Run}
use Rattle.run_order.proofs.Ordered.{Before, BeforeAll, InOrder}
use Rattle.run_order.proofs.Moving.{MovesBy, Moves}
use Rattle.run_order.proofs.Unique.{made_here, same_tail}

-- 1. Events

by_node : (i : ℕ) (o : Option (ℕ × Wire)) → node_of (event_by i o) ≡ i
by_node i None = refl
by_node i (Some p) = refl

pub by_maker : (d : LocalEvent) → maker (stamped d) ≡ d.node
by_maker d = by_node d.node d.took

pub events_by : (i : ℕ) (ds : List LocalEvent)
    → made_by stamp_in maker i (map stamped ds) ≡ map stamped (of i ds)
events_by i [] = refl
events_by i (d ∷ ds) =
    ap (λ k. cond (eqb k i) (stamped d ∷ made_by stamp_in maker i (map stamped ds))
    (made_by stamp_in maker i (map stamped ds))) (by_maker d)
    ∙ ap (λ l. cond (eqb d.node i) (stamped d ∷ l) l) (events_by i ds)
    ∙ both (eqb d.node i)
  where
    both : (b : Bool) → cond b (stamped d ∷ map stamped (of i ds)) (map stamped (of i ds))
        ≡ map stamped (cond b (d ∷ of i ds) (of i ds))
    both true = refl
    both false = refl

stamped_before : (x y : LocalEvent) → Before x y → Precedes stamp_in maker (stamped x) (stamped y)
stamped_before x y p = let a = by_maker x in let b = by_maker y in ⊎_elim
    (λ (l : x.stamp < y.stamp). inl l)
    (λ (r : (x.stamp ≡ y.stamp) × (x.node < y.node)). inr (r.0, omega arith)) p

stamped_all : (x : LocalEvent) (ys : List LocalEvent) → BeforeAll x ys
    → PrecedesAll stamp_in maker (stamped x) (map stamped ys)
stamped_all x [] p = tt
stamped_all x (y ∷ ys) p = (stamped_before x y p.0, stamped_all x ys p.1)

pub stamped_sorted : (xs : List LocalEvent) → InOrder xs → AreSorted stamp_in maker (map stamped xs)
stamped_sorted [] s = tt
stamped_sorted (x ∷ xs) s = (stamped_all x xs s.0, stamped_sorted xs s.1)

below_by : (work : Work) (s : Node) (d : LocalEvent) (t : Node) (o : Option (ℕ × Wire))
    → MovesBy work s d t o → d.node < work.layout.nodes
below_by work s d t None m = m.below
below_by work s d t (Some p) m = m.below

pub run_below : (work : Work) (ds : List LocalEvent) (s t : Core) → Run (Moves work) s ds t
    → AreMadeBelow stamp_in maker work.layout.nodes (map stamped ds)
run_below work [] s t r = tt
run_below work (d ∷ ds) s t r = (
  subst (λ k. k < work.layout.nodes) (sym (by_maker d))
      (below_by work (s.nodes d.node) d (r.0.nodes d.node) d.took r.1.0),
  run_below work ds r.0 t r.2,
)

-- two lists of the same events, which are the same at each node, are one
pub same_events : (n : ℕ) (xs ys : List Stamped) → AreMadeBelow stamp_in maker n xs
    → run_of xs ≡ run_of ys
    → ((i : ℕ) → i < n → made_by stamp_in maker i xs ≡ made_by stamp_in maker i ys) → xs ≡ ys
same_events n [] [] u e same = refl
same_events n [] (y ∷ ys) u e same = absurd cc
same_events n (x ∷ xs) [] u e same = absurd cc
same_events n (x ∷ xs) (y ∷ ys) u e same =
    let event : x.event ≡ y.event = cc in
    let i = maker x in
    let heads : x ∷ made_by stamp_in maker i xs ≡ y ∷ made_by stamp_in maker i ys =
    sym (made_here stamp_in maker x xs) ∙ same i u.0
    ∙ ap (λ k. cond (eqb k i) (y ∷ made_by stamp_in maker i ys) (made_by stamp_in maker i ys))
    (ap (λ v. node_of v) (sym event))
    ∙ ap (λ b. cond b (y ∷ made_by stamp_in maker i ys) (made_by stamp_in maker i ys))
    (eq-eqb i i refl) in
    let head : x ≡ y = cc in
    let tails : run_of xs ≡ run_of ys = cc in
    ap₂ (λ z zs. z ∷ zs) head (same_events n xs ys u.1 tails (λ k h.
    same_tail stamp_in maker x k xs ys
    (same k h ∙ ap (λ z. made_by stamp_in maker k (z ∷ ys)) (sym head))))

-- 2. Bytes

bytes_of : (i : ℕ) (d : LocalEvent) (o : Option ℕ) (rest : List Printed)
    → made_by stamp_of printer i (byte_by d.node d.stamp o ++ rest)
    ≡ cond (eqb d.node i) (byte_by d.node d.stamp o ++ made_by stamp_of printer i rest)
    (made_by stamp_of printer i rest)
bytes_of i d None rest = either (eqb d.node i) (made_by stamp_of printer i rest)
  where
    either : (b : Bool) (l : List Printed) → l ≡ cond b l l
    either true l = refl
    either false l = refl
bytes_of i d (Some b) rest = refl

pub bytes_by : (i : ℕ) (ds : List LocalEvent) → made_by stamp_of printer i (prints ds) ≡ prints (of i ds)
bytes_by i [] = refl
bytes_by i (d ∷ ds) = bytes_of i d d.byte (prints ds)
    ∙ ap (λ l. cond (eqb d.node i) (byte_by d.node d.stamp d.byte ++ l) l) (bytes_by i ds)
    ∙ both (eqb d.node i)
  where
    both : (b : Bool)
        → cond b (byte_by d.node d.stamp d.byte ++ prints (of i ds)) (prints (of i ds))
        ≡ prints (cond b (d ∷ of i ds) (of i ds))
    both true = refl
    both false = refl

pub bytes_below : (n : ℕ) (ds : List LocalEvent) → AreMadeBelow stamp_in maker n (map stamped ds)
    → AreMadeBelow stamp_of printer n (prints ds)
bytes_below n [] u = tt
bytes_below n (d ∷ ds) u = more d.byte (bytes_below n ds u.1)
  where
    more : (o : Option ℕ) → AreMadeBelow stamp_of printer n (prints ds)
        → AreMadeBelow stamp_of printer n (byte_by d.node d.stamp o ++ prints ds)
    more None h = h
    more (Some b) h = (subst (λ k. k < n) (by_maker d) u.0, h)

abbrev byte_of : LocalEvent → ℕ → Printed
byte_of d b = record { stamp = d.stamp; node = d.node; byte = b }

byte_all : (d : LocalEvent) (b : ℕ) (ds : List LocalEvent)
    → PrecedesAll stamp_in maker (stamped d) (map stamped ds)
    → PrecedesAll stamp_of printer (byte_of d b) (prints ds)
byte_all d b [] p = tt
byte_all d b (x ∷ xs) p = more x.byte (byte_all d b xs p.1)
  where
    more : (o : Option ℕ)
        → PrecedesAll stamp_of printer (byte_of d b) (prints xs)
        → PrecedesAll stamp_of printer (byte_of d b) (byte_by x.node x.stamp o ++ prints xs)
    more None h = h
    more (Some c) h = (
      (let a = by_maker d in let b = by_maker x in ⊎_elim
          (λ (l : d.stamp < x.stamp). inl l)
          (λ (r : (d.stamp ≡ x.stamp) × (maker (stamped d) < maker (stamped x))).
          inr (r.0, omega arith)) p.0),
      h,
    )

pub bytes_sorted : (ds : List LocalEvent) → AreSorted stamp_in maker (map stamped ds)
    → AreSorted stamp_of printer (prints ds)
bytes_sorted [] s = tt
bytes_sorted (d ∷ ds) s = more d.byte (bytes_sorted ds s.1)
  where
    more : (o : Option ℕ) → AreSorted stamp_of printer (prints ds)
        → AreSorted stamp_of printer (byte_by d.node d.stamp o ++ prints ds)
    more None h = h
    more (Some b) h = (byte_all d b ds s.0, h)
