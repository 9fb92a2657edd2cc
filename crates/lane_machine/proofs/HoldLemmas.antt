-- Waits of one lane, of several, and the blocks that lanes wait for.
use Rattle.std.proofs.Common.{◌≡◌, ℕ, zero, suc, ◌++◌, ◌⊎◌, Bool, true, false, cond, List, [], ◌∷◌, get_or, Option, Some, None, refl, sym, ap, ◌∙◌, subst, inl, inr}
use Rattle.std.specs.Prelude.{is_some}
use Rattle.std.specs.Option.{option_to_list}
use Rattle.block_layout.specs.Layout.{Shape}
use Rattle.home_directory.specs.declared.wait.Wait.{Wait}
use Rattle.node_machine.specs.declared.protocol_state.ProtocolState.{ProtocolState}
use Rattle.lane_model.specs.Turns.{still}
use Rattle.lane_machine.specs.declared.lane_protocol.LaneProtocol.{LaneProtocol}
use Rattle.lane_machine.specs.Waits.{first_in, waits_for, wait_among, waits_in, AreApart}
use Rattle.lane_machine.specs.Places.{pools_in, wait_at}
use Rattle.lane_machine.specs.Stored.{AreKept, IsAtRest}
use Rattle.lane_machine.proofs.HandleLemmas.{wait_at_is}

-- a wait of one lane is one of the node's
at_some : (os : List (Option Wait)) (k : ℕ) → is_some (get_or os k None) ≡ true → is_some (first_in os) ≡ true
at_some [] k e = absurd (let f : false ≡ true = e in cc)
at_some (None ∷ os) zero e = absurd (let f : false ≡ true = e in cc)
at_some (Some w ∷ os) zero e = refl
at_some (None ∷ os) (suc k) e = at_some os k e
at_some (Some w ∷ os) (suc k) e = refl

pub wait_at_some : (ps : List LaneProtocol) (k b : ℕ) → is_some (wait_at ps k b) ≡ true → is_some (wait_among (waits_in ps) b) ≡ true
wait_at_some ps k b e = at_some (waits_for (waits_in ps) b) k (sym (ap is_some (wait_at_is ps k b)) ∙ e)

-- places with the same waits
pub wait_at_same : (ps qs : List LaneProtocol) (k b : ℕ) → waits_in qs ≡ waits_in ps → wait_at qs k b ≡ wait_at ps k b
wait_at_same ps qs k b e = wait_at_is qs k b ∙ ap (λ z. get_or (waits_for z b) k None) e ∙ sym (wait_at_is ps k b)

-- blocks that are waited for
abbrev AreHeld : (ℕ → Option Wait) → List ℕ → Type 0
AreHeld f [] = Unit {0}
AreHeld f (b ∷ bs) = (is_some (f b) ≡ true) × AreHeld f bs

still_held : (f : ℕ → Option Wait) (bs : List ℕ) → AreHeld f (still f bs)
still_held f [] = tt
still_held f (b ∷ bs) = go (is_some (f b)) refl (still_held f bs)
  where
    go : (t : Bool) → is_some (f b) ≡ t → AreHeld f (still f bs) → AreHeld f (cond t (b ∷ still f bs) (still f bs))
    go true e h = (e, h)
    go false e h = h

two_held : (f : ℕ → Option Wait) (o p : Option ℕ) (b : ℕ) → AreHeld f (option_to_list o ++ option_to_list p)
    → (o ≡ Some b) ⊎ (p ≡ Some b) → is_some (f b) ≡ true
two_held f o p b h (inl e) = (subst (λ z. AreHeld f (option_to_list z ++ option_to_list p)) e h).0
two_held f None p b h (inr e) = (subst (λ z. AreHeld f (option_to_list z)) e h).0
two_held f (Some x) p b h (inr e) = (subst (λ z. AreHeld f (option_to_list z)) e h.1).0

pub awaited_held : (f : ℕ → Option Wait) (o p : Option ℕ) (bs : List ℕ) → option_to_list o ++ option_to_list p ≡ still f bs
    → (b : ℕ) → (o ≡ Some b) ⊎ (p ≡ Some b) → is_some (f b) ≡ true
awaited_held f o p bs e b one = two_held f o p b (subst (AreHeld f) (sym e) (still_held f bs)) one

-- a node at rest, where the reservations are others
pub rest_same : (l : Shape) (d : ProtocolState) (ps qs : List LaneProtocol) → waits_in qs ≡ waits_in ps → pools_in qs ≡ pools_in ps
    → IsAtRest l d ps → IsAtRest l d qs
rest_same l d ps qs w q r = record {
  protocol = r.protocol;
  empty = r.empty;
  kept = subst (λ z. AreKept l z (pools_in qs)) (sym w) (subst (λ z. AreKept l (waits_in ps) z) (sym q) r.kept);
  apart = subst AreApart (sym w) r.apart;
}
