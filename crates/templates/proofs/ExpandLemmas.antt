-- The parts of a batch while they are written.
use Rattle.std.proofs.Common.{◌≡◌, ℕ, zero, suc, ◌+◌, ◌*◌, ◌<◌, ◌≤◌, List, [], ◌++◌, length, Option, Some, None, refl, sym, ap, ◌∙◌, subst, arith}
use Rattle.std.specs.Prelude.{option_to_list}
use Rattle.rv32_decode.specs.declared.Instr.{Instr}
use Rattle.templates.specs.declared.places.Part.TheVariants.{Fast}
use Rattle.templates.specs.declared.plans.PlanEntry.{PlanEntry}
use Rattle.templates.specs.declared.words.Item.{Item}
use Rattle.templates.specs.Runs.{Reach, IsRun, code_from, reach_of, reach_at}
use Rattle.templates.specs.Reaches.{Extends}
use Rattle.templates.specs.Sequences.{SequenceItem, to_head, reloads_of_run, run_items, fast_items, items_in}
use Rattle.templates.specs.Writing.{IsLonger}
use Rattle.templates.proofs.RunLemmas.{from_step, all_there, begins_still}
use Rattle.templates.proofs.BatchLemmas.{longer, before_reloads, before_run, fast_is}

pub some_words : (code : ℕ → Option Instr) (a n : ℕ) → IsRun code a n → 0 < length (code_from code a n)
some_words code a n run = let some = run.some in let coded = run.coded in omega (arith, some, coded)

pub fast_longer : (s0 s1 s2 s3 : List Item) (code : ℕ → Option Instr) (e : PlanEntry) (behind : ℕ)
    → IsRun code e.address e.run → behind ≡ e.address + 4 * e.run
    → IsLonger s0 s1 (reloads_of_run e.batch []) → IsLonger s1 s2 (run_items (code_from code e.address e.run) [])
    → IsLonger s2 s3 (to_head behind) → IsLonger s0 s3 (items_in code e Fast)
fast_longer s0 s1 s2 s3 code e behind run is reloads words jump =
    let ws = code_from code e.address e.run in
    let all = longer s0 s1 s3 (reloads_of_run e.batch) (run_items ws (to_head behind)) (before_reloads e.batch) reloads
    (longer s1 s2 s3 (run_items ws) (to_head behind) (before_run ws) words jump) in
    subst (λ (xs : List SequenceItem). IsLonger s0 s3 xs)
    (ap (fast_items e.batch ws) (is ∙ ap (λ n. e.address + 4 * n) (sym run.coded))
    ∙ sym (fast_is e.address e.batch ws (some_words code e.address e.run run))) all

-- what a run reaches, with one word more
pub reach_step : (code : ℕ → Option Instr) (a n k : ℕ) (old new : Reach) (i : Instr) → IsRun code a n → 1 ≤ k → k < n
    → code (a + 4 * k) ≡ Some i → old ≡ reach_at code a k → Extends old i new → new ≡ reach_at code a (k + 1)
reach_step code a n zero old new i run some lt there is extends = absurd (omega (arith, some))
reach_step code a n (suc j) old new i run some lt there is extends =
    let begins = begins_still code a n j run.coded (omega (arith, lt)) run.begins in
    let more = from_step code a (suc j) (suc j + 1) refl ∙ ap (λ o. code_from code a (suc j) ++ option_to_list o) there in
    extends (code_from code a (suc j)) begins is ∙ ap (λ xs. reach_of xs) (sym more)

-- none of a run's words is missing
pub never_missing : (code : ℕ → Option Instr) (a n k : ℕ) → IsRun code a n → k < n → code (a + 4 * k) ≡ None → ⊥
never_missing code a n k run lt none =
    let there = all_there code a n k run.coded lt in
    let bad : ◌≡◌ {A = Option Instr} None (Some there.0) = sym none ∙ there.1 in cc
