-- The label of a word.
use Rattle.std.proofs.Common.{◌≡◌, ℕ, ◌+◌, ◌<◌, ◌≤◌, List, [], ◌∷◌, length, get_or, sym, ap, ◌∙◌, subst, arith, inl, inr}
use Rattle.std.specs.Prelude.{All}
use Rattle.std.proofs.lemmas.Bool.Decides.{leb_tells}
use Rattle.std.proofs.lemmas.List.{get_or_past}
use Rattle.std.proofs.lemmas.List.Elements.{All-nil, All-cons}
use Rattle.std.proofs.lemmas.List.FromFn.{length-map-range_with_len}
use Rattle.check_costs.specs.elf_symbols.Symbols.{Symbol}
use Rattle.check_costs.specs.declared.labels.Label.{Label}
use Rattle.check_costs.specs.declared.counts.WordCounts.{WordCounts}
use Rattle.check_costs.specs.Tally.{AreWithin, Executed, first_label, labels_of, tally_in, tally_of}
use Rattle.check_costs.proofs.Labelling.{labels_within}
use Rattle.run_trace.specs.node_model.jump_map.Image.{number_of_word}
use Rattle.run_trace.specs.node_model.jump_map.templates.declared.plans.PlanEntry.{PlanEntry}
use Rattle.run_trace.specs.node_model.Node.{Work}
use Rattle.run_trace.specs.node_model.Core.{Core, Event, Exec, Take, event_step}
use Rattle.run_costs.specs.Costs.{label_at, next_word, words_from}

-- 1. One label

pub label_is : (symbols : List Symbol) (work : Work) (plan : List PlanEntry) (labels shown : List Label)
    (label : Label) (at a : ℕ) → shown ≡ labels → labels ≡ labels_of symbols work.program.code plan → at ≡ a
    → ((first : Label) → get_or shown 0 first ≡ first → label ≡ get_or shown (number_of_word at) first)
    → label ≡ label_at symbols work plan a
label_is symbols work plan labels shown label at a here are there is =
    is (first_label symbols) (ap (λ ls. get_or ls 0 (first_label symbols)) (here ∙ are))
    ∙ (λ j. get_or ((here ∙ are) j) (number_of_word (there j)) (first_label symbols))

pub some_labels : (symbols : List Symbol) (work : Work) (plan : List PlanEntry) (labels : List Label)
    → labels ≡ labels_of symbols work.program.code plan → 0 < length labels
some_labels symbols work plan labels are = subst (λ ls. 0 < length ls) (sym are) (omega arith)

-- 2. Their functions

-- the one that stands for a missing one is there, so all that are found are within
pub found_within : (labels : List Label) (m k : ℕ) (first : Label) → All (λ (l : Label). l.function ≤ m) labels
    → 0 < length labels → get_or labels 0 first ≡ first → (get_or labels k first).function ≤ m
found_within labels m k first within some head = elim (leb_tells (length labels) k) [
  | inl past ↦
      subst (λ (l : Label). l.function ≤ m) (sym (get_or_past labels k first past.1))
      (subst (λ (l : Label). l.function ≤ m) head (within 0 first some))
  | inr low ↦ within k first (let other = low.1 in omega (arith, other))
]

pub labels_fit : (symbols : List Symbol) (work : Work) (plan : List PlanEntry) (labels : List Label)
    → labels ≡ labels_of symbols work.program.code plan → All (λ (l : Label). l.function ≤ length symbols) labels
labels_fit symbols work plan labels are =
    subst (λ ls. All (λ (l : Label). l.function ≤ length symbols) ls) (sym are)
    (labels_within symbols work.program.code plan)

label_within : (symbols : List Symbol) (work : Work) (plan : List PlanEntry) (a : ℕ)
    → (label_at symbols work plan a).function ≤ length symbols
label_within symbols work plan a =
    let k = number_of_word a in
    let labels = labels_of symbols work.program.code plan in
    let first = first_label symbols in
    elim (leb_tells (length labels) k) [
      | inl past ↦ subst (λ (l : Label). l.function ≤ length symbols) (sym (get_or_past labels k first past.1)) (omega arith)
      | inr within ↦
          let low : k < length labels = let other = within.1 in omega (arith, other) in
          labels_within symbols work.program.code plan k first low
    ]

pub label_fits : (symbols : List Symbol) (work : Work) (plan : List PlanEntry) (a : ℕ) (label : Label)
    (words : List Executed) (counts : List WordCounts) → label ≡ label_at symbols work plan a
    → counts ≡ tally_of (length symbols) words → label.function < length counts
label_fits symbols work plan a label words counts is are =
    let within = label_within symbols work plan a in
    let same = ap (λ (l : Label). l.function) is in
    let long = ap length are ∙ length-map-range_with_len (tally_in words) 0 (length symbols + 1) in
    omega (arith, within, same, long)

pub all_within : (symbols : List Symbol) (work : Work) (plan : List PlanEntry) (c : Core) (es : List Event)
    → AreWithin (length symbols) (words_from symbols work plan c es)
all_within symbols work plan c [] = All-nil (λ (w : Executed). w.label.function ≤ length symbols)
all_within symbols work plan c (Exec i ∷ es) =
    All-cons (λ (w : Executed). w.label.function ≤ length symbols) (next_word symbols work plan (c.nodes i))
    (words_from symbols work plan (event_step work c (Exec i)) es) (label_within symbols work plan (c.nodes i).lane.at)
    (all_within symbols work plan (event_step work c (Exec i)) es)
all_within symbols work plan c (Take i j ∷ es) = all_within symbols work plan (event_step work c (Take i j)) es
