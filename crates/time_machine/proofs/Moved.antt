-- Moves, pick by pick.
use Rattle.std.proofs.Common.{◌≡◌, ℕ, ◌+◌, ◌<◌, ◌≤◌, List, Option, Some, None, sym, ap, ◌∙◌, subst, arith}
use Rattle.std.specs.Prelude.{position}
use borrow.Author.Count.{below_more}
use Rattle.time_machine.specs.declared.run.Hit.{Hit}
use Rattle.time_machine.specs.declared.step.NextStep.{NextStep}
use Rattle.time_machine.specs.declared.stops.StopPoint.{StopPoint}
use Rattle.time_machine.specs.Stand.{Run, Stand}
use Rattle.time_machine.specs.Stops.{came_at, step_at, is_met, hit_at, met_behind}
use Rattle.time_machine.specs.Moves.{EndsForward}
use Rattle.time_machine.specs.Hits.{IsLatest, later}

-- a pick more may hit a stop
pub latest_more : (r : Run) (stops : List StopPoint) (from k : ℕ) (latest : Option Hit) (hit : Option ℕ) → IsLatest r stops from k latest → hit ≡ hit_at r stops k → IsLatest r stops from (k + 1) (later latest k hit)
latest_more r stops from k None None are here = λ j low high.
    below_more (λ j. from ≤ j → hit_at r stops j ≡ None) k (λ j high low. are j low high) (λ _. sym here) j high low
latest_more r stops from k (Some h) None is here = record {
  earlier = let below = is.earlier in omega (arith, below);
  hits = is.hits;
  last = λ j behind below. below_more (λ j. h.pick < j → hit_at r stops j ≡ None) k (λ j low after. is.last j after low) (λ _. sym here) j below behind;
}
latest_more r stops from k latest (Some i) are here = record {
  earlier = omega arith;
  hits = sym here;
  last = λ j behind below. absurd (omega (arith, behind, below));
}

-- no stop was met from a position on, up to where a run stands
pub record IsOnWay (r : Run) (stops : List StopPoint) (from to : ℕ) (made : Option NextStep) (s : Stand)
    : Type 0
  where
    pub run_is : s.run ≡ r
    pub from_there : from ≤ s.position
    pub within : s.position ≤ to
    pub none : (k : ℕ) → k < s.position → from ≤ k → met_behind r stops k ≡ None
    pub made_is : made ≡ step_at r s.position

-- a pick more was made
pub record IsOneMore (s t : Stand) (next : Option NextStep) (came : Option ℕ) : Type 0 where
  pub run_is : t.run ≡ s.run
  pub position_is : t.position ≡ s.position + 1
  pub next_is : next ≡ step_at t.run t.position
  pub came_is : came ≡ came_at s.run s.position

module _ (r : Run) (stops : List StopPoint) (from to : ℕ) (made next : Option NextStep) (came : Option ℕ) (s t : Stand)
    (way : IsOnWay r stops from to made s) (more : IsOneMore s t next came) (below : s.position < to) where
  came_there : came ≡ came_at r s.position
  came_there = more.came_is ∙ ap (λ (x : Run). came_at x s.position) way.run_is

  next_there : next ≡ step_at r (s.position + 1)
  next_there =
      more.next_is ∙ ap (λ (x : Run). step_at x t.position) (more.run_is ∙ way.run_is)
      ∙ ap (step_at r) more.position_is

  pub met_there : (met : Option ℕ) → met ≡ position (is_met made next came) stops → met ≡ met_behind r stops s.position
  met_there met is =
      is ∙ ap (λ (m : Option NextStep). position (is_met m next came) stops) way.made_is
      ∙ ap (λ (n : Option NextStep). position (is_met (step_at r s.position) n came) stops) next_there
      ∙ ap (λ (o : Option ℕ). position (is_met (step_at r s.position) (step_at r (s.position + 1)) o) stops) came_there

  pub goes_on : None ≡ position (is_met made next came) stops → IsOnWay r stops from to next t
  goes_on is =
      let one = more.position_is in
      let low = way.from_there in
      record {
        run_is = more.run_is ∙ way.run_is;
        from_there = omega (arith, one, low);
        within = omega (arith, one, below);
        none = subst (λ n. (k : ℕ) → k < n → from ≤ k → met_behind r stops k ≡ None) (sym one)
            (below_more (λ k. from ≤ k → met_behind r stops k ≡ None) s.position way.none (λ _. sym (met_there None is)));
        made_is = next_there ∙ ap (step_at r) (sym one);
      }

  pub stops_there : (i : ℕ) → Some i ≡ position (is_met made next came) stops → EndsForward r stops from to (Some i) t.position
  stops_there i is = record {
    last = s.position;
    behind = more.position_is;
    from_there = way.from_there;
    within = below;
    meets = sym (met_there (Some i) is);
    first = λ k low high. way.none k high low;
  }

-- none was met at all
pub goes_through : (r : Run) (stops : List StopPoint) (from to : ℕ) (made : Option NextStep) (s : Stand) → IsOnWay r stops from to made s → to ≤ s.position → EndsForward r stops from to None s.position
goes_through r stops from to made s way end =
    let high = way.within in
    let all : s.position ≡ to = omega (arith, high, end) in
    (all, λ k low below. way.none k (omega (arith, all, below)) low)
