-- Rounds of events until every node is over.
use Rattle.std.proofs.Common.{◌≡◌, ◌≢◌, ℕ, ◌+◌, ◌<◌, ltb, true, false, refl, sym, ◌∙◌, subst, inl, inr, arith}
use Rattle.std.proofs.lemmas.Bool.Decides.{leb_tells, nat_tests}
use Rattle.run_order.specs.node_model.declared.Standing.{Standing}
use Rattle.run_order.specs.node_model.declared.Standing.TheVariants.{Running, AtPoll, Waiting, Ended, Over}
use Rattle.run_order.specs.node_model.Node.{Work, standing_of}
use Rattle.run_order.specs.node_model.Core.{Core, Event, Exec, Take, May, IsOver}
use Rattle.dsm_core.specs.CoreParts.{GoesOnTo}
use Rattle.dsm_core.specs.CoreSteps.{GoesOnFor, HasGone, IsStill, one_if}
use Rattle.dsm_core.proofs.CoreRuns.{goes_also, for_none, for_also, for_fewer}

-- 1. What was done so far

pub gone_none : (work : Work) (c : Core) → HasGone work 0 c c
gone_none work c = record { goes = for_none work c; same = λ _. refl }

pub gone_also : (work : Work) (j k : ℕ) (c d e : Core) → HasGone work j c d → HasGone work k d e
    → HasGone work (j + k) c e
gone_also work j k c d e p q = record {
  goes = for_also work j k c d e p.goes q.goes;
  same = λ none. q.same (omega (arith, none)) ∙ p.same (omega (arith, none));
}

pub gone_for : (work : Work) (k : ℕ) (c d : Core) → 0 < k → GoesOnFor work k c d
    → HasGone work k c d
gone_for work k c d some goes = record { goes = goes; same = λ none. absurd (omega (arith, none, some)) }

pub gone_one : (work : Work) (k : ℕ) (c d : Core) → 0 < k → HasGone work k c d → HasGone work 1 c d
gone_one work k c d some p = gone_for work 1 c d (omega arith) (for_fewer work 1 k c d some p.goes)

-- after nothing or something, something
pub gone_then : (work : Work) (k : ℕ) (c d e : Core) → HasGone work k c d → HasGone work 1 d e
    → HasGone work 1 c e
gone_then work k c d e p q = gone_one work (k + 1) c e (omega arith)
    (gone_also work k 1 c d e p q)

-- then nothing
pub gone_still : (work : Work) (k : ℕ) (c d e : Core) → HasGone work k c d → HasGone work 0 d e
    → HasGone work k c e
gone_still work k c d e p q = subst (λ (z : Core). HasGone work k c z) (sym (q.same refl)) p

pub gone_flag : (work : Work) (k : ℕ) (c d : Core) → HasGone work k c d
    → HasGone work (one_if (ltb 0 k)) c d
gone_flag work k c d p = elim (leb_tells 1 k) [
  | inl some ↦ (let t : ltb 0 k ≡ true = (let z = some.1 in grind (arith, nat_tests)) in
      subst (λ b. HasGone work (one_if b) c d) (sym t) (gone_one work k c d some.1 p))
  | inr none ↦ (let t : ltb 0 k ≡ false = (let z = none.1 in grind (arith, nat_tests)) in
      let e : k ≡ 0 = (let z = none.1 in omega (arith, z)) in
      subst (λ b. HasGone work (one_if b) c d) (sym t) (subst (λ j. HasGone work j c d) e p))
]

-- events of other work that is the same
pub goes_there : (v work : Work) (c d e : Core) → v ≡ work → GoesOnTo work c d → GoesOnTo v d e
    → GoesOnTo work c e
goes_there v work c d e is p q = goes_also work c d e p (subst (λ (w : Work). GoesOnTo w d e) is q)

pub kept_there : (work : Work) (c d e : Core) → e ≡ d → GoesOnTo work c d → GoesOnTo work c e
kept_there work c d e same p = subst (λ (z : Core). GoesOnTo work c z) (sym same) p

pub for_there : (v work : Work) (k : ℕ) (c d e : Core) → v ≡ work → GoesOnFor work k c d
    → GoesOnFor v 1 d e → GoesOnFor work (k + 1) c e
for_there v work k c d e is p q =
    for_also work k 1 c d e p (subst (λ (w : Work). GoesOnFor w 1 d e) is q)

pub gone_there : (v work : Work) (k : ℕ) (c d : Core) → v ≡ work → HasGone v k c d
    → HasGone work k c d
gone_there v work k c d is p = subst (λ (w : Work). HasGone w k c d) is p

pub still_there : (v work : Work) (i : ℕ) (c : Core) → v ≡ work → IsStill v i c → IsStill work i c
still_there v work i c is p = subst (λ (w : Work). IsStill w i c) is p

-- 2. The end

is_over : (s : Standing) → (s ≢ Over → ⊥) → s ≡ Over
is_over Running not = absurd (not (λ e. absurd (cc)))
is_over AtPoll not = absurd (not (λ e. absurd (cc)))
is_over Waiting not = absurd (not (λ e. absurd (cc)))
is_over Ended not = absurd (not (λ e. absurd (cc)))
is_over Over not = refl

no_event : (work : Work) (c : Core) (e : Event)
    → ((i : ℕ) → i < work.layout.nodes → IsStill work i c) → May work c e → ⊥
no_event work c (Exec i) still may = (still i may.0).word may
no_event work c (Take i j) still may = (still i may.0).takes j may

-- where no event is allowed every node is over
pub over_where_still : (work : Work) (c : Core)
    → ((i : ℕ) → i < work.layout.nodes → standing_of work (c.nodes i) ≢ Over
    → (event : Event) × May work c event)
    → ((i : ℕ) → i < work.layout.nodes → IsStill work i c) → IsOver work c
over_where_still work c goes_on still i bi =
    is_over (standing_of work (c.nodes i)) (λ other.
    let next = goes_on i bi other in no_event work c next.0 still next.1)
