-- A whole run of nodes is an interleaved run of the original.
use Rattle.std.proofs.Common.{◌≡◌, ◌≢◌, ℕ, zero, suc, ◌+◌, ◌<◌, ◌≤◌, Bool, true, false, List, [], ◌∷◌, ◌++◌, length, map, Option, Some, None, refl, sym, ap, ◌∙◌, subst, inl, inr, arith}
use Rattle.std.specs.List.{range_with_len}
use Rattle.std.proofs.lemmas.Bool.Decides.{eqb_tells}
use Rattle.elf32_read.specs.Elf.{Elf}
use Rattle.exec_map.specs.Contents.{program_of, AreSharedRanges}
use Rattle.block_layout.specs.Layout.{Shape}
use Rattle.rv32_program.specs.Program.{Program}
use Rattle.rv32_program.specs.declared.Exit.{Exit}
use Rattle.rv32_program.specs.declared.End.{End}
use Rattle.rv32_program.specs.declared.End.TheVariants.{Exited, Stopped}
use Rattle.one_memory.specs.ByOrder.{end_by}
use Rattle.templates.specs.declared.plans.PlanEntry.{PlanEntry}
use Rattle.replay.specs.node_model.Node.{Work, Phase, Running, Resumed, Waiting, Ended, end_of}
use Rattle.replay.specs.node_model.Core.{Event, opening_core, after}
use Rattle.replay.specs.node_model.Outcome.{Outcome}
use Rattle.replay.specs.run_order.OwnRun.{Stamped, run_of}
use Rattle.replay.specs.rewriting_law.CoreRun.{picks_of}
use Rattle.replay.specs.rewriting_law.Interleaving.{EndsAs, original_by_node, original_after}
use Rattle.judged_files.specs.Code.{Choice, choice_of}
use Rattle.judged_files.specs.Inputs.{Inputs}
use Rattle.judged_files.specs.Layouts.{IsLayoutOfExecutable}
use Rattle.prepared_run.specs.WholeRuns.{IsRunOf, IsRunOfCode, IsWholeRun}
use Rattle.prepared_run.specs.Interleaved.{IsInterleaved, IsLaidOutBy, TellsOfOriginal, least_steps}
use Rattle.prepared_run.specs.Outcomes.{told, outcome_tail, text_of}
use Rattle.prepared_run.specs.Processors.{outcome_head}

-- ---- how processors ended

end_is : (budget : ℕ) (exit : Option Exit) (phase : Phase) (e : End) → EndsAs budget exit phase
    → end_of phase ≡ Some e → e ≡ end_by budget exit
end_is budget exit Running e h is = absurd (cc)
end_is budget exit Resumed e h is = absurd (cc)
end_is budget exit (Waiting resume) e h is = absurd (cc)
end_is budget exit (Ended (Exited x)) e h is =
    let same : Exited x ≡ e = cc in sym same ∙ sym (ap (end_by budget) h)
end_is budget exit (Ended (Stopped b)) e h is =
    let same : Stopped b ≡ e = cc in
    sym same ∙ ap (λ n. Stopped n) h.1 ∙ sym (ap (end_by budget) h.0)

heads : {A : Type 0} (x y : A) (xs ys : List A) → x ∷ xs ≡ y ∷ ys → (x ≡ y) × (xs ≡ ys)
heads x y xs ys e = (cc, cc)

-- the ends of the processors from one number on
pub ends_from : (budget : ℕ) (exit : ℕ → Option Exit) (phase : ℕ → Phase) (a n : ℕ) (es : List End)
    → ((p : ℕ) → a ≤ p → p < a + n → EndsAs budget (exit p) (phase p))
    → map (λ i. end_of (phase i)) (range_with_len a n) ≡ map (λ e. Some e) es
    → es ≡ map (λ p. end_by budget (exit p)) (range_with_len a n)
ends_from budget exit phase a zero [] h is = refl
ends_from budget exit phase a zero (e ∷ es) h is = absurd (cc)
ends_from budget exit phase a (suc n) [] h is = absurd (cc)
ends_from budget exit phase a (suc n) (e ∷ es) h is =
    let parts = heads {A = Option End} (end_of (phase a)) (Some e)
    (map (λ i. end_of (phase i)) (range_with_len (a + 1) n)) (map (λ x. Some x) es) is in
    let first = end_is budget (exit a) (phase a) e (h a (omega arith) (omega arith)) parts.0 in
    let rest = ends_from budget exit phase (a + 1) n es
    (λ p low high. h p (omega (arith, low)) (omega (arith, high))) parts.1 in
    ap (λ x. x ∷ es) first ∙ ap (λ xs. end_by budget (exit a) ∷ xs) rest

-- each of them has an end
has_end : (phase : ℕ → Phase) (a n : ℕ) (es : List End)
    → map (λ i. end_of (phase i)) (range_with_len a n) ≡ map (λ e. Some e) es
    → (p : ℕ) → a ≤ p → p < a + n → end_of (phase p) ≢ None
has_end phase a zero es is p low high = absurd (omega (arith, low, high))
has_end phase a (suc n) [] is p low high = absurd (cc)
has_end phase a (suc n) (e ∷ es) is p low high =
    let parts = heads {A = Option End} (end_of (phase a)) (Some e)
    (map (λ i. end_of (phase i)) (range_with_len (a + 1) n)) (map (λ x. Some x) es) is in
    elim (eqb_tells p a) [
      | inl h ↦ λ none. (let here : end_of (phase a) ≡ None = sym (ap (λ i. end_of (phase i)) h.1) ∙ none in
          let first = parts.0 in cc)
      | inr h ↦
          let other = h.1 in
          has_end phase (a + 1) n es parts.1 p (omega (arith, low, other)) (omega (arith, high))
    ]

-- and one without an exit was stopped
stopped_by : (budget : ℕ) (exit : Option Exit) (phase : Phase) → EndsAs budget exit phase
    → end_of phase ≢ None → exit ≡ None → phase ≡ Ended (Stopped budget)
stopped_by budget exit Running h has none = absurd (has refl)
stopped_by budget exit Resumed h has none = absurd (has refl)
stopped_by budget exit (Waiting resume) h has none = absurd (has refl)
stopped_by budget exit (Ended (Exited x)) h has none =
    let same : Some x ≡ None = sym h ∙ none in absurd (cc)
stopped_by budget exit (Ended (Stopped b)) h has none = ap (λ n. Ended (Stopped n)) h.1

-- ---- runs

-- a whole run of nodes is, by its picks, an interleaved run
of_whole : (work : Work) (plan : List PlanEntry) (events : List Event) (o : Outcome)
    → IsWholeRun work plan events o
    → IsInterleaved (original_by_node work) work.budget (least_steps None work.budget) o.output o.ends
of_whole work plan events o whole = record {
  picks = picks_of work plan (opening_core work) events;
  allowed = whole.original.allowed;
  output_is = whole.output;
  ends_are = ends_from work.budget
      (λ p. ((original_after work plan events).processors p).exit)
      (λ p. ((after work (opening_core work) events).nodes p).phase) 0 work.layout.nodes o.ends
      (λ p low high. whole.original.ends p (omega (arith, high))) whole.ends;
  worked = λ p low none.
      let phase : ℕ → Phase = λ i. ((after work (opening_core work) events).nodes i).phase in
      whole.steps p work.budget low
      (stopped_by work.budget ((original_after work plan events).processors p).exit (phase p)
      (whole.original.ends p low)
      (has_end phase 0 work.layout.nodes o.ends whole.ends p (omega arith) (omega (arith, low))) none);
}

pub original_as : (program : Program) (layout : Shape) (nodes budget : ℕ) (fewest_steps : ℕ → ℕ)
    (program' : Program) (nodes' budget' : ℕ) (output : List ℕ) (ends : List End)
    → program ≡ program' → nodes ≡ nodes' → budget ≡ budget'
    → IsInterleaved (record { program = program; layout = layout; nodes = nodes }) budget
    (fewest_steps budget) output ends
    → IsInterleaved (record { program = program'; layout = layout; nodes = nodes' }) budget'
    (fewest_steps budget') output ends
original_as program layout nodes budget fewest_steps program' nodes' budget' output ends p n b h =
    subst (λ x. IsInterleaved (record { program = program'; layout = layout; nodes = nodes' }) x (fewest_steps x) output ends) b
    (subst (λ x. IsInterleaved (record { program = program'; layout = layout; nodes = x }) budget (fewest_steps budget) output ends) n
    (subst (λ x. IsInterleaved (record { program = x; layout = layout; nodes = nodes }) budget (fewest_steps budget) output ends) p h))

-- ---- texts

pub text_as : (brief : Bool) (o : Outcome) → text_of (told brief o) ≡ outcome_head (length o.output)
    ++ (o.output ++ outcome_tail o.ends (told brief o).counts)
text_as true o = refl
text_as false o = refl

-- the layout that a text gives, or none, is over the executable's shared lines
pub layout_given : (elf : Elf) (text : Option (List ℕ)) (nodes : ℕ) (layout : Shape)
    → IsLayoutOfExecutable elf text nodes layout
    → AreSharedRanges elf layout.shared × IsLaidOutBy text nodes layout
layout_given elf None nodes layout h = (
  subst (λ (s : Shape). AreSharedRanges elf s.shared) (sym h.reads) h.lines,
  (ap (λ (s : Shape). s.nodes) h.reads, ap (λ (s : Shape). s.named) h.reads),
)
layout_given elf (Some text) nodes layout h = (
  subst (AreSharedRanges elf) (sym h.reads.shared_is) h.lines,
  (h.reads.nodes_is, h.reads.named, h.reads.valid),
)

pub of_code : (choice : Choice) (file : List ℕ) (elf : Elf) (plan : List PlanEntry) (work : Work)
    (own : List Stamped) (o : Outcome) (IsLaidOut : Shape → Type 0) (nodes budget : ℕ)
    (brief : Bool) (text : List ℕ) → IsRunOfCode choice file elf plan work own o
    → AreSharedRanges elf work.layout.shared → IsLaidOut work.layout → work.layout.nodes ≡ nodes
    → work.budget ≡ budget → text ≡ text_of (told brief o)
    → TellsOfOriginal file IsLaidOut nodes budget (least_steps None budget) text
of_code choice file elf plan work own o IsLaidOut nodes budget brief text code lines laid n b is = record {
  elf = elf;
  executable = code.rewritten.executable;
  layout = work.layout;
  lines = lines;
  laid_out = laid;
  output = o.output;
  ends = o.ends;
  counts = (told brief o).counts;
  interleaved = original_as work.program work.layout work.layout.nodes work.budget
      (least_steps None) (program_of elf) nodes budget o.output o.ends code.program n b (of_whole work plan (run_of own) o code.whole);
  text_is = is ∙ text_as brief o;
}

pub of_run : (inputs : Inputs) (nodes budget : ℕ) (work : Work) (own : List Stamped) (o : Outcome)
    (brief : Bool) (text : List ℕ) → IsRunOf inputs nodes budget work own o
    → text ≡ text_of (told brief o)
    → TellsOfOriginal inputs.executable (IsLaidOutBy inputs.layout nodes) nodes budget
    (least_steps None budget) text
of_run inputs nodes budget work own o brief text h is =
    let given = layout_given h.elf inputs.layout nodes work.layout h.laid_out in
    of_code (choice_of inputs.batches inputs.verified) inputs.executable h.elf h.plan work own o
    (IsLaidOutBy inputs.layout nodes) nodes budget brief text h.of_code given.0 given.1 h.count h.limit
    is
