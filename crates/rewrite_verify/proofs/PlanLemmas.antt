-- A plan while it is read, place by place.
use Rattle.std.proofs.Common.{◌≡◌, ◌≢◌, ◌∙◌, ℕ, ◌+◌, ◌-◌, ◌*◌, ◌<◌, ◌≤◌, ◌⊎◌, ◌==◌, cond, List, [], ◌∷◌, ◌++◌, length, take, drop, get_or, Option, Some, sym, ap, subst, inl, inr, arith}
use Rattle.std.specs.Prelude.{Contains, slice_get}
use Rattle.std.specs.List.Sorted.{IsStrictlyIncreasing}
use Rattle.std.proofs.Math.Seq.{take-add}
use Rattle.std.proofs.lemmas.Bool.Decides.{eqb_tells}
use Rattle.std.proofs.lemmas.Grind.{flat_map-append}
use Rattle.std.proofs.lemmas.List.{take_more, length-append, map-append, get_or-map, get_or-take}
use Rattle.std.proofs.lemmas.List.Elements.{Contains-push_cases, Contains-append_left, Contains-push}
use Rattle.std.proofs.lemmas.Option.{slice_get-get_or}
use Rattle.rv32_decode.specs.declared.Instr.{Instr}
use Rattle.rv32_program.specs.Program.{Program}
use Rattle.elf32_read.specs.Elf.{Elf}
use Rattle.templates.specs.declared.code.CodeWord.{CodeWord}
use Rattle.templates.specs.declared.plans.PlanEntry.{PlanEntry}
use Rattle.templates.specs.Code.{HasCode, code_of}
use Rattle.templates.specs.Plans.{Serves, RunsApart, AscendsFrom, IsAdmissible, addresses}
use Rattle.templates.specs.Runs.{IsInRun}
use Rattle.rewriter.specs.batch_plan.Batches.{behind}
use Rattle.exec_map.specs.Contents.{program_of}
use Rattle.rewriter.specs.jump_map.Image.{Cell, Expands, HasRunsOf, IsTooLong}
use Rattle.rewriter.specs.RewrittenFile.{entry_bytes}
use Rattle.rewrite_verify.specs.Refusals.{IsByPlan, IsTooLarge}
use Rattle.rewrite_verify.specs.FilePlan.{IsGoodFront, IsFirstBadPlace, place_bytes}
use Rattle.rewrite_verify.specs.Reading.{IsNextEntry, HasNoEntry, IsGoodPlan}
use Rattle.rewrite_verify.proofs.ListLemmas.{rises, rise_between, Rises}

-- ---- where the next run may start

behind_none : (e : PlanEntry) (free : ℕ) → e.run ≡ 0 → behind e free ≡ free
behind_none e free none = ap (λ n. cond (n == 0) free (e.address + 4 * e.run)) none

behind_run : (e : PlanEntry) (free : ℕ) → e.run ≢ 0 → behind e free ≡ e.address + 4 * e.run
behind_run e free some = elim (eqb_tells e.run 0) [
  | inl none ↦ absurd (some none.1)
  | inr tells ↦ ap (λ b. cond b free (e.address + 4 * e.run)) tells.0
]

behind_rises : (e : PlanEntry) (free : ℕ) → (e.run ≢ 0 → free ≤ e.address) → free ≤ behind e free
behind_rises e free low = elim (eqb_tells e.run 0) [
  | inl none ↦ (let is = behind_none e free none.1 in omega (arith, is))
  | inr some ↦ (
      let is = behind_run e free some.1 in
      let le = low some.1 in
      omega (arith, is, le))
]

-- ---- the entries so far

-- each is good, and no run of theirs goes on from this address on
pub record IsSoFar (code : ℕ → Option Instr) (places bytes : List ℕ) (k free : ℕ)
    (plan : List PlanEntry) : Type 0
  where
    pub count : length plan ≡ k
    pub good : IsGoodFront code places bytes plan
    pub ends : (e : PlanEntry) → Contains plan e → e.run ≢ 0 → e.address + 4 * e.run ≤ free
    pub last : (free ≡ 0)
        ⊎ ((e : PlanEntry) × Contains plan e × (e.address + 4 * e.run ≡ free))

-- the runs share no address with one that starts behind them
still_apart : (plan : List PlanEntry) (e : PlanEntry) (free : ℕ) → RunsApart plan
    → ((f : PlanEntry) → Contains plan f → f.run ≢ 0 → f.address + 4 * f.run ≤ free)
    → (e.run ≢ 0 → free ≤ e.address) → RunsApart (plan ++ e ∷ [])
still_apart plan e free apart ends low f g a c d i j = elim (Contains-push_cases plan e f c) [
  | inl first ↦ elim (Contains-push_cases plan e g d) [
    | inl second ↦ apart f g a first second i j
    | inr last ↦ absurd (meets f a first i (subst (λ (x : PlanEntry). IsInRun x a) (sym last) j))
  ]
  | inr last ↦ elim (Contains-push_cases plan e g d) [
    | inl second ↦
        absurd (meets g a second j (subst (λ (x : PlanEntry). IsInRun x a) (sym last) i))
    | inr other ↦ sym last ∙ other
  ]
]
  where
    some : (f : PlanEntry) (a : ℕ) → IsInRun f a → f.run ≢ 0
    some f a i none =
        let from = i.from in
        let below = i.below in
        omega (arith, none, from, below)

    meets : (f : PlanEntry) (a : ℕ) → Contains plan f → IsInRun f a → IsInRun e a → ⊥
    meets f a c i j =
        let end = ends f c (some f a i) in
        let start = low (some e a j) in
        let below = i.below in
        let from = j.from in
        omega (arith, end, start, below, from)

-- one entry more
pub one_read : (code : ℕ → Option Instr) (places bytes : List ℕ) (k free next a : ℕ)
    (here : List ℕ) (old new : List PlanEntry) (e : PlanEntry) → k < length places
    → a ≡ get_or places k 0 → here ≡ place_bytes bytes k → IsNextEntry code free a here e
    → next ≡ behind e free → new ≡ old ++ e ∷ [] → IsSoFar code places bytes k free old
    → IsSoFar code places bytes (k + 1) next new
one_read code places bytes k free next a here old new e lt at is found after added h =
    subst (IsSoFar code places bytes (k + 1) next) (sym added) (record {
      count = long ∙ ap (λ n. n + 1) h.count;
      good = record {
        of_places =
            map-append (λ (x : PlanEntry). x.address) old (e ∷ [])
            ∙ ap (λ xs. xs ++ e.address ∷ []) (h.good.of_places ∙ ap (λ n. take n places) h.count)
            ∙ ap (λ x. take k places ++ x ∷ []) (found.says.address ∙ at)
            ∙ sym (take_more places k 0 lt) ∙ ap (λ n. take n places) (sym all);
        says =
            flat_map-append entry_bytes old (e ∷ [])
            ∙ ap (λ xs. xs ++ entry_bytes e) (h.good.says ∙ ap (λ n. take (8 * n) bytes) h.count)
            ∙ ap (λ xs. take (8 * k) bytes ++ xs) (found.says.says ∙ is)
            ∙ sym (take-add (8 * k) 8 bytes) ∙ ap (λ n. take n bytes) (sym eight);
        serves = λ f c. elim (Contains-push_cases old e f c) [
          | inl there ↦ h.good.serves f there
          | inr same ↦ subst (Serves code) same found.serves
        ];
        apart = still_apart old e free h.good.apart h.ends found.behind;
      };
      ends = λ f c some. elim (Contains-push_cases old e f c) [
        | inl there ↦ (
            let end = h.ends f there some in
            let more = behind_rises e free found.behind in
            omega (arith, end, more, after))
        | inr same ↦
            subst (λ (z : PlanEntry). z.address + 4 * z.run ≤ next) same
            (own_end (λ none. some (sym (ap (λ (z : PlanEntry). z.run) same) ∙ none)))
      ];
      last = elim (eqb_tells e.run 0) [
        | inl none ↦ elim h.last [
          | inl start ↦ inl (after ∙ behind_none e free none.1 ∙ start)
          | inr last ↦ inr (
            last.0,
            Contains-append_left old (e ∷ []) last.0 last.1,
            last.2 ∙ sym (after ∙ behind_none e free none.1),
          )
        ]
        | inr some ↦ inr (e, Contains-push old e, sym (after ∙ behind_run e free some.1))
      ];
    })
  where
    long : length (old ++ e ∷ []) ≡ length old + 1
    long = length-append old (e ∷ [])

    all : length (old ++ e ∷ []) ≡ k + 1
    all = long ∙ ap (λ n. n + 1) h.count

    eight : 8 * length (old ++ e ∷ []) ≡ 8 * k + 8
    eight = let len = all in omega (arith, len)

    own_end : e.run ≢ 0 → e.address + 4 * e.run ≤ next
    own_end some = let is_next = behind_run e free some in omega (arith, is_next, after)

-- the entries of places lie below the next place
pub lies_below : (places : List ℕ) (plan : List PlanEntry) (k : ℕ) (f : PlanEntry)
    → IsStrictlyIncreasing places → addresses plan ≡ take (length plan) places → length plan ≡ k
    → k < length places → Contains plan f → f.address < get_or places k 0
lies_below places plan k f up of_places count lt c =
    let j = c.0 in
    let low : j < length plan = c.1 in
    let address : get_or places j 0 ≡ f.address =
    sym (get_or-take (length plan) places j 0 low) ∙ ap (λ xs. get_or xs j 0) (sym of_places)
    ∙ get_or-map (λ (x : PlanEntry). x.address) plan j f 0 low
    ∙ ap (λ (x : PlanEntry). x.address) c.2 in
    let less = rise_between places j k up (omega (arith, low, count)) lt in
    omega (arith, address, less)

-- eight bytes from an address on are those of a place
pub place_range : (bytes : List ℕ) (k : ℕ)
    → take (8 * k + 8 - 8 * k) (drop (8 * k) bytes) ≡ place_bytes bytes k
place_range bytes k =
    let eight : 8 * k + 8 - 8 * k ≡ 8 = omega arith in
    ap (λ n. take n (drop (8 * k) bytes)) eight

-- the first place whose bytes are bad
pub first_bad : (code : ℕ → Option Instr) (places bytes : List ℕ) (k free a : ℕ) (here : List ℕ)
    (plan : List PlanEntry) → k < length places → a ≡ get_or places k 0
    → here ≡ place_bytes bytes k → IsStrictlyIncreasing places → HasNoEntry code free a here
    → IsSoFar code places bytes k free plan → IsFirstBadPlace code places bytes a
first_bad code places bytes k free a here plan lt at is up none h = record {
  front = plan;
  good = h.good;
  there =
      ap (slice_get places) h.count ∙ slice_get-get_or places k 0 lt ∙ ap (λ x. Some x) (sym at);
  bad = λ e address says serves.
      let out = none.each e address
      (says ∙ ap (place_bytes bytes) h.count ∙ sym is) serves in
      elim h.last [
        | inl start ↦ absurd (let low = out.1 in omega (arith, start, low))
        | inr last ↦
            let before = lies_below places plan k last.0 up h.good.of_places h.count lt last.1 in
            let low = out.1 in
            let end = last.2 in
            record {
              earlier = last.0;
              member = last.1;
              shared = a;
              in_earlier = record {
                from = omega (arith, before, at);
                below = omega (arith, end, low, address);
              };
              in_this = record {
                from = omega (arith, address);
                below = below_end e a address out.0;
              };
            }
      ];
}
  where
    below_end : (e : PlanEntry) (a : ℕ) → e.address ≡ a → e.run ≢ 0 → a < e.address + 4 * e.run
    below_end e a address some = omega (arith, address, some)

-- ---- all entries

ascends_too : (low : ℕ) (plan : List PlanEntry) → Rises low (addresses plan)
    → AscendsFrom low plan
ascends_too low [] h = tt
ascends_too low (e ∷ es) h = (h.0, ascends_too (e.address + 1) es h.1)

pub ascends : (code : ℕ → Option Instr) (e : Elf) (plan : List PlanEntry)
    → IsGoodPlan code e plan → AscendsFrom 0 plan
ascends code e plan h = ascends_too 0 plan (rises (addresses plan) h.says.places.ascends)

pub runs_of : (words : List CodeWord) (e : Elf) (plan : List PlanEntry)
    → IsGoodPlan (code_of words) e plan → HasRunsOf words plan
runs_of words e plan h = record {
  each = λ f c some. elim (h.serves f c).run [
    | inl none ↦ absurd (some none.run)
    | inr starts ↦ starts.run
  ];
}

pub admissible : (program : Program) (e : Elf) (plan : List PlanEntry)
    → IsGoodPlan program.code e plan → IsAdmissible program plan
admissible program e plan h = record {
  ascends = ascends program.code e plan h;
  complete = h.says.places.each.complete;
  sound = h.says.places.each.sound;
  serves = h.serves;
  apart = h.apart;
}

-- ---- the rewriting by a good plan

here : (original e : Elf) (words : List CodeWord) (plan : List PlanEntry)
    → HasCode (program_of original) words → IsGoodPlan (code_of words) e plan
    → IsGoodPlan (program_of original).code e plan
here original e words plan code good = subst (λ f. IsGoodPlan f e plan) (sym code) good

pub is_by_plan : (original e : Elf) (words : List CodeWord) (plan given : List PlanEntry)
    (image : List Cell) → HasCode (program_of original) words
    → IsGoodPlan (code_of words) e plan → given ≡ plan → Expands words plan image
    → IsByPlan original e given image
is_by_plan original e words plan given image code good same expands =
    let program = program_of original in
    let h = here original e words plan code good in
    subst (λ p. IsByPlan original e p image) (sym same) (record {
      says = h.says;
      rewriting = record {
        admissible = admissible program e plan h;
        expansion = expands program code;
      };
    })

pub is_too_large : (original e : Elf) (words : List CodeWord) (plan : List PlanEntry) (count : ℕ)
    → HasCode (program_of original) words → IsGoodPlan (code_of words) e plan
    → IsTooLong words plan count → IsTooLarge original e count
is_too_large original e words plan count code good long =
    let program = program_of original in
    let h = here original e words plan code good in
    record {
      plan = plan;
      says = h.says;
      admissible = admissible program e plan h;
      many = long program code;
    }
