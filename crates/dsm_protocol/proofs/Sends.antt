-- A row sends no more messages than the core's, where to each node the same is sent.
use Rattle.std.proofs.Common.{◌≡◌, ℕ, zero, suc, ◌+◌, ◌<◌, ◌≤◌, ◌⊎◌, Bool, true, false, cond, eqb, List, [], ◌∷◌, length, refl, ap, inl, inr, arith}
use Rattle.std.proofs.lemmas.Bool.Decides.{nat_tests}
use Rattle.dsm_protocol.proofs.Names.{Shape, Message, Read, Write, FwdRead, FwdWrite, Inval, Data, Grant, Ack, Done, Bye, Post, is_bye, those_to, wires, messages_to, Contents, wires_of}
use Rattle.coherence.specs.Messages as m
use Rattle.dsm_protocol.proofs.Fits.{SameSends}
use Rattle.dsm_protocol.proofs.SoundRows.{SoundPosts}

-- over the first n nodes
abbrev across : (ℕ → ℕ) → ℕ → ℕ
across f zero = 0
across f (suc n) = across f n + f n

across_same : (f g : ℕ → ℕ) (n : ℕ) → ((y : ℕ) → f y ≡ g y) → across f n ≡ across g n
across_same f g zero h = refl
across_same f g (suc n) h =
    let rest = across_same f g n h in
    let here = h n in omega (arith, rest, here)

across_plus : (f g : ℕ → ℕ) (n : ℕ) → across (λ y. f y + g y) n ≡ across f n + across g n
across_plus f g zero = refl
across_plus f g (suc n) = let rest = across_plus f g n in omega (arith, rest)

none_across : (n : ℕ) → across (λ y. 0) n ≡ 0
none_across zero = refl
none_across (suc n) = let rest = none_across n in omega (arith, rest)

abbrev bit : Bool → ℕ
bit true = 1
bit false = 0

-- one node
one_across : (k n : ℕ) → ((n ≤ k) × (across (λ y. bit (eqb k y)) n ≡ 0))
    ⊎ ((k < n) × (across (λ y. bit (eqb k y)) n ≡ 1))
one_across k zero = inl (omega arith, refl)
one_across k (suc n) = go (eqb k n) refl (one_across k n)
  where
    go : (t : Bool) → eqb k n ≡ t → ((n ≤ k) × (across (λ y. bit (eqb k y)) n ≡ 0))
        ⊎ ((k < n) × (across (λ y. bit (eqb k y)) n ≡ 1))
        → ((suc n ≤ k) × (across (λ y. bit (eqb k y)) n + bit (eqb k n) ≡ 0))
        ⊎ ((k < suc n) × (across (λ y. bit (eqb k y)) n + bit (eqb k n) ≡ 1))
    go true e (inl h) =
        let same : k ≡ n = grind (arith, nat_tests) in
        let none = h.1 in
        let one : bit (eqb k n) ≡ 1 = ap bit e in
        inr (omega (arith, same), omega (arith, none, one))
    go false e (inl h) =
        let other : suc n ≤ k = (let low = h.0 in grind (arith, nat_tests)) in
        let none = h.1 in
        let zero_there : bit (eqb k n) ≡ 0 = ap bit e in
        inl (other, omega (arith, none, zero_there))
    go true e (inr h) =
        let same : k ≡ n = grind (arith, nat_tests) in
        let low = h.0 in absurd (omega (arith, same, low))
    go false e (inr h) =
        let low = h.0 in
        let one = h.1 in
        let zero_there : bit (eqb k n) ≡ 0 = ap bit e in
        inr (omega (arith, low), omega (arith, one, zero_there))

-- what is sent
few_across : {M : Type 0} (ps : List (ℕ × M)) (n : ℕ)
    → across (λ y. length (those_to y ps)) n ≤ length ps
few_across [] n = let none = none_across n in omega (arith, none)
few_across {M} (p ∷ ps) n =
    let same = across_same (λ y. length (those_to y (p ∷ ps)))
    (λ y. bit (eqb p.0 y) + length (those_to y ps)) n (λ y. one y (eqb p.0 y)) in
    let both = across_plus (λ y. bit (eqb p.0 y)) (λ y. length (those_to y ps)) n in
    let rest = few_across ps n in
    elim (one_across p.0 n) [
      | inl h ↦ (let e = h.1 in omega (arith, same, both, rest, e))
      | inr h ↦ (let e = h.1 in omega (arith, same, both, rest, e))
    ]
  where
    one : (y : ℕ) (t : Bool) → length (cond t (p.1 ∷ those_to y ps) (those_to y ps))
        ≡ bit t + length (those_to y ps)
    one y true = omega arith
    one y false = omega arith

wires_many : (b : ℕ) (ps : List (ℕ × m.Message Contents)) → length (wires b ps) ≡ length ps
wires_many b [] = refl
wires_many b (p ∷ ps) = let rest = wires_many b ps in omega (arith, rest)

-- a message that isn't a Bye is one wire
one_wire : (x : Message) (xs : List Message) → is_bye x ≡ false
    → length (wires_of (x ∷ xs)) ≡ 1 + length (wires_of xs)
one_wire (Read b buf) xs e = omega arith
one_wire (Write b buf) xs e = omega arith
one_wire (FwdRead b r buf) xs e = omega arith
one_wire (FwdWrite b r k buf) xs e = omega arith
one_wire (Inval b r) xs e = omega arith
one_wire (Data b k buf) xs e = omega arith
one_wire (Grant b k buf) xs e = omega arith
one_wire (Ack b) xs e = omega arith
one_wire (Done b) xs e = omega arith
one_wire Bye xs e = let bad : true ≡ false = e in cc

-- a number above all receivers
abbrev reach : List Post → ℕ
reach [] = 0
reach (p ∷ ps) = suc p.to + reach ps

all_across : (l : Shape) (ps : List Post) → SoundPosts l ps → (n : ℕ) → reach ps ≤ n
    → length ps ≤ across (λ y. length (wires_of (messages_to y ps))) n
all_across l [] sound n low = omega arith
all_across l (p ∷ ps) sound n low =
    let same = across_same (λ y. length (wires_of (messages_to y (p ∷ ps))))
    (λ y. bit (eqb p.to y) + length (wires_of (messages_to y ps))) n (λ y. one y (eqb p.to y)) in
    let both = across_plus (λ y. bit (eqb p.to y)) (λ y. length (wires_of (messages_to y ps))) n in
    let rest = all_across l ps sound.1 n (omega (arith, low)) in
    elim (one_across p.to n) [
      | inl h ↦ (let above = h.0 in absurd (omega (arith, above, low)))
      | inr h ↦ (let e = h.1 in omega (arith, same, both, rest, e))
    ]
  where
    one : (y : ℕ) (t : Bool)
        → length (wires_of (cond t (p.message ∷ messages_to y ps) (messages_to y ps)))
        ≡ bit t + length (wires_of (messages_to y ps))
    one y true = one_wire p.message (messages_to y ps) sound.0.1
    one y false = omega arith

pub few_sends : (l : Shape) (b : ℕ) (posts : List Post) (sends : List (ℕ × m.Message Contents))
    → SameSends b posts sends → SoundPosts l posts → length posts ≤ length sends
few_sends l b posts sends same sound =
    let n = reach posts in
    let all = all_across l posts sound n (omega arith) in
    let each = across_same (λ y. length (wires_of (messages_to y posts)))
    (λ y. length (those_to y (wires b sends))) n (λ y. ap length (same y)) in
    let few = few_across (wires b sends) n in
    let many = wires_many b sends in
    omega (arith, all, each, few, many)
