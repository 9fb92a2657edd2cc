-- The labels of the words of rewritten code.
use Rattle.std.proofs.Common.{◌≡◌, ℕ, ◌≤◌, List, [], ◌∷◌, ◌++◌, length, take, Option, refl, sym, ap, ◌∙◌, subst, arith, append-nil}
use Rattle.std.specs.Prelude.{All}
use Rattle.std.specs.List.{sum_by, flat_map}
use Rattle.std.proofs.lemmas.List.{length-append, length-map, take_all}
use Rattle.std.proofs.lemmas.List.Concat.{flat_map-append}
use Rattle.std.proofs.lemmas.List.Elements.{All-nil, All-cons, All-append, All-map}
use Rattle.std.proofs.lemmas.List.Sums.{sum_by-cons}
use Rattle.rv32_decode.specs.declared.Instr.{Instr}
use Rattle.rv32_program.specs.Program.{Program}
use Rattle.templates.specs.declared.plans.PlanEntry.{PlanEntry}
use Rattle.templates.specs.declared.code.CodeWord.{CodeWord}
use Rattle.templates.specs.Code.{HasCode, code_of}
use Rattle.jump_map.specs.Image.{Cell, IsRewriting}
use Rattle.elf_symbols.specs.Symbols.{Symbol}
use Rattle.check_costs.specs.declared.labels.Label.{Label}
use Rattle.check_costs.specs.Kinds.{kinds_of}
use Rattle.check_costs.specs.Counts.{function_of}
use Rattle.check_costs.specs.Tally.{label_in, labels_at, first_label, labels_of}
use Rattle.check_costs.proofs.Numbering.{function_below}
use Rattle.check_costs.proofs.Totals.{image_length}

-- those of an entry more
pub one_labelled : (symbols : List Symbol) (code : ℕ → Option Instr) (es : List PlanEntry) (e : PlanEntry)
    → first_label symbols ∷ (flat_map (labels_at symbols code) es ++ labels_at symbols code e)
    ≡ first_label symbols ∷ flat_map (labels_at symbols code) (es ++ e ∷ [])
one_labelled symbols code es e =
    let l = labels_at symbols code in
    ap (λ ls. first_label symbols ∷ ls)
    (sym (flat_map-append l es (e ∷ []) ∙ ap (λ ls. flat_map l es ++ ls) (append-nil (l e))))

-- of all entries
pub all_labelled : (symbols : List Symbol) (code : ℕ → Option Instr) (plan ys : List PlanEntry)
    (labels : List Label) (i : ℕ) → ys ≡ plan → length ys ≤ i
    → labels ≡ first_label symbols ∷ flat_map (labels_at symbols code) (take i plan)
    → labels ≡ labels_of symbols code plan
all_labelled symbols code plan ys labels i same all is =
    is ∙ ap (λ es. first_label symbols ∷ flat_map (labels_at symbols code) es)
    (take_all i plan (subst (λ zs. length zs ≤ i) same all))

abbrev IsWithin : List Symbol → Label → Type 0
IsWithin symbols l = l.function ≤ length symbols

pub labels_within : (symbols : List Symbol) (code : ℕ → Option Instr) (plan : List PlanEntry)
    → All (λ l. l.function ≤ length symbols) (labels_of symbols code plan)
labels_within symbols code plan =
    All-cons (IsWithin symbols) (first_label symbols) (flat_map (labels_at symbols code) plan) (omega arith) (each plan)
  where
    each : (es : List PlanEntry) → All (IsWithin symbols) (flat_map (labels_at symbols code) es)
    each [] = All-nil (IsWithin symbols)
    each (e ∷ es) =
        let f = function_of symbols e.address in
        let below = function_below symbols e.address f refl in
        All-append (IsWithin symbols) (labels_at symbols code e) (flat_map (labels_at symbols code) es)
        (All-map (IsWithin symbols) (label_in f) (kinds_of code e) (λ k d low. omega (arith, below))) (each es)

labels_count : (symbols : List Symbol) (code : ℕ → Option Instr) (es : List PlanEntry)
    → length (flat_map (labels_at symbols code) es) ≡ sum_by (λ e. length (kinds_of code e)) es
labels_count symbols code [] = refl
labels_count symbols code (e ∷ es) =
    let both = length-append (labels_at symbols code e) (flat_map (labels_at symbols code) es) in
    let one = length-map (kinds_of code e) (label_in (function_of symbols e.address)) in
    let rest = labels_count symbols code es in
    let whole = sum_by-cons (λ x. length (kinds_of code x)) e es in
    omega (arith, both, one, rest, whole)

pub labels_length : (program : Program) (symbols : List Symbol) (plan : List PlanEntry) (words : List CodeWord)
    (image : List Cell) → HasCode program words → IsRewriting program plan image
    → length (labels_of symbols (code_of words) plan) ≡ length image
labels_length program symbols plan words image same rewriting =
    let mine = labels_count symbols (code_of words) plan in
    let theirs = image_length program plan image rewriting.expansion in
    let equal = ap (λ (c : ℕ → Option Instr). sum_by (λ e. length (kinds_of c e)) plan) same in
    omega (arith, mine, theirs, equal)
