-- The waits, the buffers and the reservations of a node's lanes, where one place is in use.
use Rattle.std.proofs.Common.{◌≡◌, ℕ, zero, suc, ◌<◌, Bool, true, false, cond, List, [], ◌∷◌, length, set, get_or, Option, Some, None, refl, sym, ap, ◌∙◌, subst, arith}
use Rattle.std.specs.Prelude.{is_some}
use Rattle.std.proofs.lemmas.List.{map-set, get_or-map, length-map}
use Rattle.buf_pool.specs.Pool.{Slots}
use Rattle.block_layout.specs.Layout.{Shape}
use Rattle.home_directory.specs.declared.wait.Wait.{Wait}
use Rattle.node_machine.specs.miss_handlers.Waits.{NodeWaits, wait_of}
use Rattle.lane_machine.specs.Waits.{first_in, AtMostOne, waits_for, wait_among, place_among, held_in, AreApart}
use Rattle.lane_machine.specs.Stored.{IsKept, AreKept}
use Rattle.lane_machine.proofs.WaitPlaces.{first_of, first_cons}
use Rattle.lane_machine.proofs.WaitPlaces.{get_none, first_out, one_out, first_put, one_put, place_has}

-- 1. The waits for a block, where a place has others

pub waits_set : (ws : List NodeWaits) (k : ℕ) (w : NodeWaits) (b : ℕ)
    → waits_for (set ws k w) b ≡ set (waits_for ws b) k (wait_of w b)
waits_set ws k w b = map-set (λ x. wait_of x b) ws k w

pub waits_get : (ws : List NodeWaits) (k b : ℕ) (d : NodeWaits) → k < length ws
    → get_or (waits_for ws b) k None ≡ wait_of (get_or ws k d) b
waits_get ws k b d l = get_or-map (λ x. wait_of x b) ws k d None l

pub waits_len : (ws : List NodeWaits) (b : ℕ) → length (waits_for ws b) ≡ length ws
waits_len ws b = length-map ws (λ x. wait_of x b)

module _ (ws : List NodeWaits) (k : ℕ) (d e : NodeWaits) (low : k < length ws) (apart : AreApart ws)
    (none : (b : ℕ) → wait_of e b ≡ None) where
  out_is : (b : ℕ) → waits_for (set ws k e) b ≡ set (waits_for ws b) k None
  out_is b = waits_set ws k e b ∙ ap (set (waits_for ws b) k) (none b)

  -- a place's waits are put in use
  pub used_among : (b : ℕ) → wait_among ws b ≡ wait_among (get_or ws k d ∷ set ws k e) b
  used_among b =
      first_out (waits_for ws b) k (apart b)
      ∙ (λ t. first_of (waits_get ws k b d low t) (first_in (sym (out_is b) t)))
      ∙ sym (first_cons (wait_of (get_or ws k d) b) (waits_for (set ws k e) b))

  pub used_apart : AreApart (get_or ws k d ∷ set ws k e)
  used_apart b =
      subst (λ o. AtMostOne (o ∷ waits_for (set ws k e) b)) (waits_get ws k b d low)
      (subst (λ os. AtMostOne (get_or (waits_for ws b) k None ∷ os)) (sym (out_is b)) (one_out (waits_for ws b) k (apart b)))

-- those in use are put into an empty place
module _ (ws : List NodeWaits) (k : ℕ) (d w : NodeWaits) (low : k < length ws)
    (none : (b : ℕ) → wait_of (get_or ws k d) b ≡ None) (apart : AreApart (w ∷ ws)) where
  here : (b : ℕ) → get_or (waits_for ws b) k None ≡ None
  here b = waits_get ws k b d low ∙ none b

  within : (b : ℕ) → k < length (waits_for ws b)
  within b = let e = waits_len ws b in omega (arith, e, low)

  pub put_among : (b : ℕ) → wait_among (set ws k w) b ≡ wait_among (w ∷ ws) b
  put_among b = ap first_in (waits_set ws k w b)
      ∙ first_put (wait_of w b) (waits_for ws b) k (within b) (here b) (apart b)
      ∙ sym (first_cons (wait_of w b) (waits_for ws b))

  pub put_apart : AreApart (set ws k w)
  put_apart b = subst AtMostOne (sym (waits_set ws k w b))
      (one_put (wait_of w b) (waits_for ws b) k (within b) (here b) (apart b))

-- 2. The holder of a wait

pub held_wait : (ws : List NodeWaits) (b : ℕ) (d : NodeWaits) → held_in ws b < length ws
    → wait_of (get_or ws (held_in ws b) d) b ≡ wait_among ws b
held_wait ws b d low = sym (waits_get ws (held_in ws b) b d low) ∙ go (is_some (wait_among ws b)) refl
  where
    none : (o : Option Wait) → is_some o ≡ false → o ≡ None
    none None e = refl
    none (Some w) e = absurd (cc)

    go : (t : Bool) → is_some (wait_among ws b) ≡ t
        → get_or (waits_for ws b) (cond t (place_among ws b) 0) None ≡ wait_among ws b
    go true e = (place_has (waits_for ws b) e).1
    go false e = get_none (waits_for ws b) 0 (none (wait_among ws b) e) ∙ sym (none (wait_among ws b) e)

-- 3. What a node keeps

pub kept_at : (l : Shape) (ws : List NodeWaits) (qs : List Slots) (k : ℕ) (w : NodeWaits) (q : Slots)
    → k < length ws → AreKept l ws qs → IsKept l (get_or ws k w) (get_or qs k q)
kept_at l [] qs k w q low h = absurd (omega (arith, low))
kept_at l (x ∷ ws) [] k w q low h = absurd h
kept_at l (x ∷ ws) (y ∷ qs) zero w q low h = h.0
kept_at l (x ∷ ws) (y ∷ qs) (suc k) w q low h = kept_at l ws qs k w q (omega (arith, low)) h.1

pub kept_set : (l : Shape) (ws : List NodeWaits) (qs : List Slots) (k : ℕ) (w : NodeWaits) (q : Slots)
    → IsKept l w q → AreKept l ws qs → AreKept l (set ws k w) (set qs k q)
kept_set l [] qs k w q is h = tt
kept_set l (x ∷ ws) [] k w q is h = absurd h
kept_set l (x ∷ ws) (y ∷ qs) zero w q is h = (is, h.1)
kept_set l (x ∷ ws) (y ∷ qs) (suc k) w q is h = (h.0, kept_set l ws qs k w q is h.1)
