-- The checkpoints that are kept.
use Rattle.std.proofs.Common.{◌≡◌, ℕ, zero, suc, ◌+◌, ◌<◌, ◌≤◌, List, [], ◌∷◌, ◌++◌, length, take, drop, Some, None, refl, sym, ap, ◌∙◌, subst, arith, inl, inr}
use Rattle.std.specs.Prelude.{slice_get, remove}
use Rattle.std.proofs.lemmas.Bool.{cases_lt}
use Rattle.std.proofs.lemmas.Bool.Decides.{eqb_tells}
use Rattle.std.proofs.lemmas.List.{length-append}
use Rattle.std.proofs.lemmas.Option.{slice_get_past}
use Rattle.time_machine.specs.declared.checkpoints.Checkpoint.{Checkpoint}
use Rattle.time_machine.specs.declared.run.Hit.{Hit}
use Rattle.time_machine.specs.declared.stops.StopPoint.{StopPoint}
use Rattle.time_machine.specs.Checkpoints.{AreBehind, AreOfRun, IsOfRun}
use Rattle.time_machine.specs.Hits.{IsLatest}
use Rattle.time_machine.specs.Stand.{Run}
use Rattle.time_machine.specs.Stops.{hit_at}

get_before : {X : Type 0} (xs : List X) (y : X) (k : ℕ) → k < length xs → slice_get (xs ++ y ∷ []) k ≡ slice_get xs k
get_before [] y k h = absurd (omega arith)
get_before (x ∷ xs) y zero h = refl
get_before (x ∷ xs) y (suc k) h = get_before xs y k (omega arith)

get_last : {X : Type 0} (xs : List X) (y : X) → slice_get (xs ++ y ∷ []) (length xs) ≡ Some y
get_last [] y = refl
get_last (x ∷ xs) y = get_last xs y

-- another one
pub one_pushed : (r : Run) (each : List Checkpoint) (c : Checkpoint) → AreOfRun r each → IsOfRun r c → AreOfRun r (each ++ c ∷ [])
one_pushed r each c are one = λ k x is. elim (cases_lt k (length each)) [
  | inl below ↦ are k x (sym (get_before each c k below) ∙ is)
  | inr above ↦ elim (eqb_tells k (length each)) [
    | inl e ↦
        let same : Some c ≡ Some x = sym (get_last each c) ∙ (let at : length each ≡ k = sym e.1 in ap (slice_get (each ++ c ∷ [])) at) ∙ is in
        let value : c ≡ x = cc in
        subst (IsOfRun r) value one
    | inr e ↦
        let ne = e.1 in
        let past = slice_get_past (each ++ c ∷ []) k (omega (arith, above, ne, length-append each (c ∷ []))) in
        absurd (cc)
  ]
]

-- what is left was there
was_there : {X : Type 0} (xs : List X) (i j : ℕ) (x : X) → slice_get (take i xs ++ drop (suc i) xs) j ≡ Some x → (k : ℕ) × (slice_get xs k ≡ Some x)
was_there [] zero j x is = absurd (cc)
was_there [] (suc i) j x is = absurd (cc)
was_there (y ∷ xs) zero j x is = (suc j, is)
was_there (y ∷ xs) (suc i) zero x is = (zero, is)
was_there (y ∷ xs) (suc i) (suc j) x is = let r = was_there xs i j x is in (suc r.0, r.1)

pub one_gone : (r : Run) (each : List Checkpoint) (i : ℕ) → AreOfRun r each → AreOfRun r (remove each i)
one_gone r each i are = λ j c is. let k = was_there each i j c is in are k.0 c k.1

-- one more lies behind
pub one_behind : (each : List Checkpoint) (n m position : ℕ) (c : Checkpoint) → n ≡ m + 1 → slice_get each m ≡ Some c → position < c.position → AreBehind each n position → AreBehind each m position
one_behind each n m position c next here behind are = λ j x low is. elim (eqb_tells j m) [
  | inl e ↦
      let same : Some c ≡ Some x = sym here ∙ ap (slice_get each) (sym e.1) ∙ is in
      let value : c ≡ x = cc in
      subst (λ (y : Checkpoint). position < y.position) value behind
  | inr e ↦ (let ne = e.1 in are j x (omega (arith, low, ne, next)) is)
]

pub none_behind : (each : List Checkpoint) (n position : ℕ) → length each ≤ n → AreBehind each n position
none_behind each n position all = λ j c low is. let past = slice_get_past each j (omega (arith, all, low)) in absurd (cc)

-- a hit in one stretch, and none in the next
pub hit_joined : (r : Run) (stops : List StopPoint) (from end before : ℕ) (h : Hit) → end ≤ before → IsLatest r stops from end (Some h) → ((k : ℕ) → end ≤ k → k < before → hit_at r stops k ≡ None) → IsLatest r stops 0 before (Some h)
hit_joined r stops from end before h within is none = record {
  earlier = let below = is.earlier in omega (arith, below, within);
  hits = is.hits;
  last = λ j behind below. elim (cases_lt j end) [
    | inl early ↦ is.last j behind early
    | inr late ↦ none j (omega (arith, late)) below
  ];
}

-- none in either
pub none_joined : (r : Run) (stops : List StopPoint) (from end before : ℕ) → IsLatest r stops from end None → ((k : ℕ) → end ≤ k → k < before → hit_at r stops k ≡ None) → (k : ℕ) → from ≤ k → k < before → hit_at r stops k ≡ None
none_joined r stops from end before is none k low high = elim (cases_lt k end) [
  | inl early ↦ is k low early
  | inr late ↦ none k (omega (arith, late)) high
]
