-- Processors by node and lane.
use Rattle.std.proofs.Common.{◌≡◌, ℕ, zero, suc, ◌+◌, ◌-◌, ◌*◌, ◌/◌, ◌<◌, ◌≤◌, cond, ltb, Bool, true, false, refl, sym, ap, ◌∙◌, arith}
use Rattle.std.specs.Prelude.{◌==◌}
use Rattle.std.proofs.Math.Nat.{div-lt_iff_lt-mul, mod-lt, mod-add-div', mul-add-div_right, mul-add-mod_self_right, div-eq_of_lt, mod-eq_of_lt, lt-div-mul-add, div-mul-le_self, mul-le-mul_right}
use Rattle.std.proofs.lemmas.Bool.Decides.{nat_tests}
use Rattle.lane_law.proofs.Names.{count_of, most_waits, LaneWork, processors, node_of, lane_of, processor_of}
use Rattle.rewriting_law.proofs.one_memory.Sharing.{is_same}

-- a set of numbers that lie within m of one another has m at most
module _ (set : ℕ → Bool) (a m : ℕ) (within : (j : ℕ) → set j ≡ true → (a ≤ j) × (j < a + m))
  where
    few_from : (n : ℕ) → count_of set n ≤ n - a
    few_from zero = omega arith
    few_from (suc n) = go (set n) refl (few_from n)
      where
        go : (t : Bool) → set n ≡ t → count_of set n ≤ n - a
            → cond t (count_of set n + 1) (count_of set n) ≤ suc n - a
        go true e h = let low = (within n e).0 in omega (arith, low, h)
        go false e h = omega (arith, h)

    pub few_within : (n : ℕ) → count_of set n ≤ m
    few_within zero = omega arith
    few_within (suc n) = go (set n) refl (few_within n) (few_from n)
      where
        go : (t : Bool) → set n ≡ t → count_of set n ≤ m → count_of set n ≤ n - a
            → cond t (count_of set n + 1) (count_of set n) ≤ m
        go true e h g =
            let low = (within n e).0 in
            let high = (within n e).1 in
            omega (arith, low, high, g)
        go false e h g = h

module _ (w : LaneWork) (some : 0 < w.lanes) where
  pub placed : (p : ℕ) → p < processors w → node_of w p < w.work.layout.nodes
  placed p low = (div-lt_iff_lt-mul some).1 low

  pub lane_low : (p : ℕ) → lane_of w p < w.lanes
  lane_low p = mod-lt p some

  pub numbered : (p : ℕ) → processor_of w (node_of w p) (lane_of w p) ≡ p
  numbered p =
      let sum = mod-add-div' p w.lanes in
      let order : processor_of w (node_of w p) (lane_of w p)
      ≡ lane_of w p + node_of w p * w.lanes = omega arith in
      order ∙ sum

  pub node_numbered : (i k : ℕ) → k < w.lanes → node_of w (processor_of w i k) ≡ i
  node_numbered i k low =
      let none = div-eq_of_lt low in
      let all = mul-add-div_right some i k in
      let z : i + k / w.lanes ≡ i = omega (arith, none) in
      all ∙ z

  pub lane_numbered : (i k : ℕ) → k < w.lanes → lane_of w (processor_of w i k) ≡ k
  lane_numbered i k low = mul-add-mod_self_right i w.lanes k ∙ mod-eq_of_lt low

  pub numbered_low : (i k : ℕ) → i < w.work.layout.nodes → k < w.lanes
      → processor_of w i k < processors w
  numbered_low i k below low =
      let there : node_of w (processor_of w i k) < w.work.layout.nodes =
      rw (node_numbered i k low) below in
      (div-lt_iff_lt-mul some).0 there

  -- at most so many processors are at a node
  pub crowd : (i : ℕ) → count_of (λ j. node_of w j == i) (processors w) ≤ w.lanes
  crowd i = few_within (λ j. node_of w j == i) (i * w.lanes) w.lanes (λ j e.
      let same : node_of w j ≡ i = is_same (node_of w j) i e in
      let low : node_of w j * w.lanes ≤ j = div-mul-le_self j w.lanes in
      let high : j < node_of w j * w.lanes + w.lanes = lt-div-mul-add some in
      let of : node_of w j * w.lanes ≡ i * w.lanes = ap (λ x. x * w.lanes) same in
      (omega (arith, low, of), omega (arith, high, of))) (processors w)

  -- a node may wait for two blocks for each of its processors
  pub room : w.lanes ≤ 4 → processors w ≤ 16 → 2 * w.lanes ≤ most_waits w.work.layout.nodes
  room four few = go (ltb n 5) (ltb n 6) (ltb n 9) refl refl refl
    where
      n : ℕ
      n = w.work.layout.nodes

      go : (a b c : Bool) → ltb n 5 ≡ a → ltb n 6 ≡ b → ltb n 9 ≡ c
          → 2 * w.lanes ≤ cond a 8 (cond b 6 (cond c 4 2))
      go true b c e f g = omega (arith, four)
      go false true c e f g =
          let more : 5 ≤ n = grind (arith, nat_tests) in
          let times = mul-le-mul_right w.lanes more in omega (arith, times, few)
      go false false true e f g =
          let more : 6 ≤ n = grind (arith, nat_tests) in
          let times = mul-le-mul_right w.lanes more in omega (arith, times, few)
      go false false false e f g =
          let more : 9 ≤ n = grind (arith, nat_tests) in
          let times = mul-le-mul_right w.lanes more in omega (arith, times, few)

  -- two processors of a node have two lanes
  pub same_processor : (p q : ℕ) → node_of w p ≡ node_of w q → lane_of w p ≡ lane_of w q → p ≡ q
  same_processor p q at k =
      sym (numbered p) ∙ ap (λ i. processor_of w i (lane_of w p)) at
      ∙ ap (processor_of w (node_of w q)) k ∙ numbered q
