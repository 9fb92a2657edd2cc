-- A run of picks, one after another.
use Rattle.std.proofs.Common.{◌≡◌, ℕ, zero, suc, ◌+◌, List, [], ◌∷◌, take, Some, sym, ap, ◌∙◌, subst, add-one}
use Rattle.std.specs.Prelude.{option_and_then, slice_get}
use Rattle.std.specs.Option.{option_map}
use Rattle.std.proofs.lemmas.Option.{slice_get-map}
use Rattle.rv32_step.specs.OneMemory.{Original, State, Pick as ModelPick, Allowed, IsRun, Step, Break, after_pick, opening, run}
use Rattle.one_memory.specs.declared.Pick.{Pick}
use Rattle.one_memory.specs.Shown.{pick_of}
use Rattle.time_machine.specs.Stand.{Run, IsInterleaved, original_in, picks_in, state_at}
use Rattle.time_machine.specs.Hits.{IsOfOne}
use Rattle.time_machine.specs.Stops.{came_at, came_by, step_at, step_by}

run_one : (o : Original) (s : State) (ks : List ModelPick) (n : ℕ) (k : ModelPick) → slice_get ks n ≡ Some k → run o s (take (suc n) ks) ≡ after_pick o (run o s (take n ks)) k
run_one o s [] n k there = absurd (cc)
run_one o s (x ∷ ks) zero k there = let same : x ≡ k = cc in ap (after_pick o s) same
run_one o s (x ∷ ks) (suc n) k there = run_one o (after_pick o s x) ks n k there

allowed_one : (o : Original) (s : State) (ks : List ModelPick) (n : ℕ) (k : ModelPick) → IsRun o s ks → slice_get ks n ≡ Some k → Allowed o (run o s (take n ks)) k
allowed_one o s [] n k is there = absurd (cc)
allowed_one o s (x ∷ ks) zero k is there = let same : x ≡ k = cc in subst (Allowed o s) same is.0
allowed_one o s (x ∷ ks) (suc n) k is there = allowed_one o (after_pick o s x) ks n k is.1 there

-- the pick with a number, as the run has it
pick_there : (r : Run) (k : ℕ) (pick : Pick) → slice_get r.picks k ≡ Some pick → slice_get (picks_in r) k ≡ Some (pick_of pick)
pick_there r k pick there = slice_get-map pick_of r.picks k ∙ ap (option_map pick_of) there

state_more : (r : Run) (k : ℕ) (pick : Pick) → slice_get r.picks k ≡ Some pick → state_at r (k + 1) ≡ after_pick (original_in r) (state_at r k) (pick_of pick)
state_more r k pick there =
    let o : Original = original_in r in
    ap (λ n. run o (opening o) (take n (picks_in r))) (add-one k)
    ∙ run_one o (opening o) (picks_in r) k (pick_of pick) (pick_there r k pick there)

allowed_there : (r : Run) (k : ℕ) (pick : Pick) → IsInterleaved r → slice_get r.picks k ≡ Some pick → Allowed (original_in r) (state_at r k) (pick_of pick)
allowed_there r k pick is there =
    let o : Original = original_in r in
    allowed_one o (opening o) (picks_in r) k (pick_of pick) is (pick_there r k pick there)

module _ (r : Run) (k : ℕ) (pick : Pick) (o : Original) (s : State) (original : o ≡ original_in r)
    (state : s ≡ state_at r k) (there : slice_get r.picks k ≡ Some pick) where
  pub allowed_here : IsInterleaved r → Allowed o s (pick_of pick)
  allowed_here is =
      subst (λ (o : Original). Allowed o s (pick_of pick)) (sym original)
      (subst (λ (s : State). Allowed (original_in r) s (pick_of pick)) (sym state) (allowed_there r k pick is there))

  pub made_here : after_pick o s (pick_of pick) ≡ state_at r (k + 1)
  made_here =
      ap (λ (o : Original). after_pick o s (pick_of pick)) original
      ∙ ap (λ (s : State). after_pick (original_in r) s (pick_of pick)) state ∙ sym (state_more r k pick there)

  pub step_here : step_by o s (pick_of pick) ≡ step_at r k
  step_here =
      ap (λ (o : Original). step_by o s (pick_of pick)) original
      ∙ ap (λ (s : State). step_by (original_in r) s (pick_of pick)) state
      ∙ ap (option_and_then (step_by (original_in r) (state_at r k))) (sym (pick_there r k pick there))

of_one : (o : Original) (s : State) (pick : ModelPick) → Allowed o s pick → IsOfOne o.nodes pick
of_one o s (Step p) is = is.0
of_one o s (Break p q) is = tt

-- behind a pick
module _ (r : Run) (k : ℕ) (pick : Pick) (o : Original) (s : State) (original : o ≡ original_in r)
    (state : s ≡ state_at r (k + 1)) (there : slice_get r.picks k ≡ Some pick) where
  pub of_one_here : IsInterleaved r → IsOfOne o.nodes (pick_of pick)
  of_one_here is =
      subst (λ (o : Original). IsOfOne o.nodes (pick_of pick)) (sym original)
      (of_one (original_in r) (state_at r k) (pick_of pick) (allowed_there r k pick is there))

  pub came_here : came_by o s (pick_of pick) ≡ came_at r k
  came_here =
      ap (λ (o : Original). came_by o s (pick_of pick)) original
      ∙ ap (λ (s : State). came_by (original_in r) s (pick_of pick)) state
      ∙ ap (option_and_then (came_by (original_in r) (state_at r (k + 1)))) (sym (pick_there r k pick there))
