-- The reservations of a node's lanes in a block end, one after another.
use Rattle.std.proofs.Common.{◌≡◌, ◌≢◌, ℕ, ◌+◌, ◌<◌, ◌&&◌, not, Bool, true, false, cond, ltb, List, length, map, set, get_or, Option, None, refl, sym, ap, ◌∙◌, inl, inr, arith}
use Rattle.std.proofs.Math.Seq.{map-set_same}
use Rattle.std.proofs.lemmas.List.{map-set, get_or-map, length-map, get_or-set_same, get_or-set_other}
use Rattle.std.proofs.lemmas.Bool.Decides.{eqb_tells, nat_tests}
use Rattle.block_layout.specs.Layout.{Shape}
use Rattle.llsc.specs.Reservation.{cleared}
use Rattle.lane_machine.specs.declared.lane_protocol.LaneProtocol.{LaneProtocol}
use Rattle.lane_machine.specs.Waits.{waits_in}
use Rattle.lane_machine.specs.Places.{pools_in, reserved_in}

-- 1. One place has another reservation

abbrev pub with_reserved : LaneProtocol → Option ℕ → LaneProtocol
with_reserved p r = record p { reservation = r }

module _ (ps : List LaneProtocol) (k : ℕ) (p : LaneProtocol) (at : p ≡ get_or ps k p) (low : k < length ps) (r : Option ℕ) where
  pub reserved_at : reserved_in ps k ≡ p.reservation
  reserved_at = get_or-map (λ (x : LaneProtocol). x.reservation) ps k p None low ∙ ap (λ (x : LaneProtocol). x.reservation) (sym at)

  pub reserved_here : reserved_in (set ps k (with_reserved p r)) k ≡ r
  reserved_here = ap (λ z. get_or z k None) (map-set (λ (x : LaneProtocol). x.reservation) ps k (with_reserved p r))
      ∙ get_or-set_same (map (λ (x : LaneProtocol). x.reservation) ps) k r None
      (let e = length-map ps (λ (x : LaneProtocol). x.reservation) in omega (arith, e, low))

  pub reserved_there : (j : ℕ) → (j ≡ k → ⊥) → reserved_in (set ps k (with_reserved p r)) j ≡ reserved_in ps j
  reserved_there j apart = ap (λ z. get_or z j None) (map-set (λ (x : LaneProtocol). x.reservation) ps k (with_reserved p r))
      ∙ get_or-set_other (map (λ (x : LaneProtocol). x.reservation) ps) k j r None apart

  pub same_waits : waits_in (set ps k (with_reserved p r)) ≡ waits_in ps
  same_waits = map-set_same (λ (x : LaneProtocol). x.waits) ps k (with_reserved p r) p (ap (λ (x : LaneProtocol). x.waits) at)

  pub same_pools : pools_in (set ps k (with_reserved p r)) ≡ pools_in ps
  same_pools = map-set_same (λ (x : LaneProtocol). x.pool) ps k (with_reserved p r) p (ap (λ (x : LaneProtocol). x.pool) at)

-- 2. So many of them

module _ (l : Shape) (b : ℕ) (s : ℕ → Bool) (old : ℕ → Option ℕ) where
  abbrev pub so_far : ℕ → ℕ → Option ℕ
  so_far k j = cond (ltb j k && not (s j)) (cleared l b (old j)) (old j)

  by_tests : (t u : Bool) (k j : ℕ) → ltb j k ≡ t → s j ≡ u → so_far k j ≡ cond (t && not u) (cleared l b (old j)) (old j)
  by_tests t u k j e f = λ i. cond (e i && not (f i)) (cleared l b (old j)) (old j)

  one_spared : (k j : ℕ) → s j ≡ true → so_far k j ≡ old j
  one_spared k j e = by_tests (ltb j k) true k j refl e ∙ go (ltb j k)
    where
      go : (t : Bool) → cond (t && false) (cleared l b (old j)) (old j) ≡ old j
      go true = refl
      go false = refl

  pub spared_step : (k : ℕ) (r : ℕ → Option ℕ) → s k ≡ true → ((j : ℕ) → r j ≡ so_far k j) → (j : ℕ) → r j ≡ so_far (k + 1) j
  spared_step k r e h j = elim (eqb_tells j k) [
    | inl q ↦ h j ∙ one_spared k j (ap s q.1 ∙ e) ∙ sym (one_spared (k + 1) j (ap s q.1 ∙ e))
    | inr q ↦ h j ∙ (let f = q.1 in let t : ltb j k ≡ ltb j (k + 1) = past j k f in
        by_tests (ltb j (k + 1)) (s j) k j t refl)
  ]
    where
      past : (j k : ℕ) → j ≢ k → ltb j k ≡ ltb j (k + 1)
      past j k f = grind (arith, nat_tests)

  pub cleared_step : (k : ℕ) (r r' : ℕ → Option ℕ) → s k ≡ false → ((j : ℕ) → r j ≡ so_far k j) → r' k ≡ cleared l b (r k)
      → ((j : ℕ) → (j ≡ k → ⊥) → r' j ≡ r j) → (j : ℕ) → r' j ≡ so_far (k + 1) j
  cleared_step k r r' e h here there j = elim (eqb_tells j k) [
    | inl q ↦ ap r' q.1 ∙ here ∙ ap (cleared l b) (h k ∙ by_tests false (s k) k k (not_yet k) refl)
        ∙ sym (by_tests true false (k + 1) k (one_more k) e) ∙ ap (so_far (k + 1)) (sym q.1)
    | inr q ↦ there j q.1 ∙ h j ∙ (let f = q.1 in by_tests (ltb j (k + 1)) (s j) k j (past j k f) refl)
  ]
    where
      past : (j k : ℕ) → j ≢ k → ltb j k ≡ ltb j (k + 1)
      past j k f = grind (arith, nat_tests)

      not_yet : (k : ℕ) → ltb k k ≡ false
      not_yet k = grind (arith, nat_tests)

      one_more : (k : ℕ) → ltb k (k + 1) ≡ true
      one_more k = grind (arith, nat_tests)
