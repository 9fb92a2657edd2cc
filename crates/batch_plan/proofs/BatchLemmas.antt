-- The runs of a plan, entry by entry.
use Rattle.std.proofs.Common.{◌≡◌, ◌≢◌, ℕ, zero, suc, ◌+◌, ◌*◌, ◌<◌, ◌≤◌, ◌⊎◌, Bool, true, false, ◌==◌, cond, List, [], ◌∷◌, ◌++◌, length, map, take, Option, Some, refl, sym, ap, ◌∙◌, subst, inl, inr, arith}
use Rattle.std.specs.Prelude.{Contains, slice_get, slice_set, slice_index_or}
use Rattle.std.proofs.lemmas.Bool.{cases_lt}
use Rattle.std.proofs.lemmas.Bool.Decides.{eqb_tells}
use Rattle.std.proofs.lemmas.Grind.{take-set_at}
use Rattle.std.proofs.lemmas.List.{length-map}
use Rattle.std.proofs.lemmas.List.Elements.{Contains-push_cases, Contains-append_left, Contains-push}
use Rattle.std.proofs.lemmas.Option.{slice_get_within}
use Rattle.rv32_decode.specs.declared.Instr.{Instr}
use Rattle.templates.specs.declared.plans.PlanEntry.{PlanEntry}
use Rattle.templates.specs.Places.{HasPlaces}
use Rattle.templates.specs.Plans.{AscendsFrom, addresses, closes_loop_at}
use Rattle.templates.specs.WholePlan.{IsEntry, HasEntries, IsInEarlierRun, IsRunEntry, IsPlanOf}
use Rattle.batch_plan.specs.Batches.{without_run, behind, HasRunFrom}

-- ---- elements

no_element : {X : Type 0} (b : X) → Contains [] b → ⊥
no_element b h = let lt = h.1 in omega arith

first_or : {X : Type 0} (y b : X) (ys : List X) → Contains (y ∷ ys) b → (b ≡ y) ⊎ Contains ys b
first_or {X} y b ys h = go h.0 h.1 h.2
  where
    go : (k : ℕ) → k < length (y ∷ ys) → slice_index_or (y ∷ ys) k b ≡ b
        → (b ≡ y) ⊎ Contains ys b
    go zero lt is = inl (sym is)
    go (suc k) lt is = inr (k, omega (arith, lt), is)

behind_first : {X : Type 0} (y b : X) (ys : List X) → Contains ys b → Contains (y ∷ ys) b
behind_first y b ys h = let lt = h.1 in (suc h.0, omega arith, h.2)

in_front : {X : Type 0} (y : X) (ys : List X) → Contains (y ∷ ys) y
in_front y ys = (0, omega arith, refl)

-- an element of a list that was mapped
mapped : (xs : List PlanEntry) (y : PlanEntry) → Contains (map without_run xs) y
    → (x : PlanEntry) × Contains xs x × (without_run x ≡ y)
mapped [] y h = absurd (no_element y h)
mapped (x ∷ xs) y h = elim (first_or (without_run x) y (map without_run xs) h) [
  | inl is ↦ (x, in_front x xs, sym is)
  | inr rest ↦ (let r = mapped xs y rest in (r.0, behind_first x r.0 xs r.1, r.2))
]

maps : (xs : List PlanEntry) (x : PlanEntry) → Contains xs x
    → Contains (map without_run xs) (without_run x)
maps [] x h = absurd (no_element x h)
maps (y ∷ ys) x h = elim (first_or y x ys h) [
  | inl is ↦
      subst (λ z. Contains (map without_run (y ∷ ys)) (without_run z)) (sym is)
      (in_front (without_run y) (map without_run ys))
  | inr rest ↦ behind_first (without_run y) (without_run x) (map without_run ys) (maps ys x rest)
]

-- ---- what stays the same

same_length : (old now : List PlanEntry) → map without_run now ≡ map without_run old
    → length now ≡ length old
same_length old now kept =
    sym (length-map now without_run) ∙ ap (λ xs. length xs) kept ∙ length-map old without_run

pub within : (old now : List PlanEntry) (k end : ℕ) → map without_run now ≡ map without_run old
    → end ≡ length old → k < end → k < length now
within old now k end kept len lt =
    let same = same_length old now kept in omega (arith, same, len, lt)

pub kept_more : (xs : List PlanEntry) (k : ℕ) (x y : PlanEntry) → slice_get xs k ≡ Some x
    → without_run y ≡ without_run x → map without_run (slice_set xs k y) ≡ map without_run xs
kept_more [] k x y at is = cc
kept_more (z ∷ zs) zero x y at is =
    let same : z ≡ x = cc in
    ap (λ w. w ∷ map without_run zs) (is ∙ ap without_run (sym same))
kept_more (z ∷ zs) (suc k) x y at is =
    ap (λ ws. without_run z ∷ ws) (kept_more zs k x y at is)

same_addresses : (es : List PlanEntry) → addresses (map without_run es) ≡ addresses es
same_addresses [] = refl
same_addresses (e ∷ es) = ap (λ xs. e.address ∷ xs) (same_addresses es)

ascends_without : (low : ℕ) (es : List PlanEntry) → AscendsFrom low es
    → AscendsFrom low (map without_run es)
ascends_without low [] h = h
ascends_without low (e ∷ es) h = (h.0, ascends_without (e.address + 1) es h.1)

ascends_with : (low : ℕ) (es : List PlanEntry) → AscendsFrom low (map without_run es)
    → AscendsFrom low es
ascends_with low [] h = h
ascends_with low (e ∷ es) h = (h.0, ascends_with (e.address + 1) es h.1)

ascends_too : (old now : List PlanEntry) → map without_run now ≡ map without_run old
    → AscendsFrom 0 old → AscendsFrom 0 now
ascends_too old now kept up =
    ascends_with 0 now (subst (AscendsFrom 0) (sym kept) (ascends_without 0 old up))

entry_without : (code : ℕ → Option Instr) (polling : Bool) (e : PlanEntry) → IsEntry code polling e
    → IsEntry code polling (without_run e)
entry_without code polling e h =
    record { template = h.template; single = h.single; polls = h.polls }

entry_with : (code : ℕ → Option Instr) (polling : Bool) (e : PlanEntry)
    → IsEntry code polling (without_run e) → IsEntry code polling e
entry_with code polling e h =
    record { template = h.template; single = h.single; polls = h.polls }

has_entries : (code : ℕ → Option Instr) (polling : ℕ → Bool) (old now : List PlanEntry)
    → map without_run now ≡ map without_run old → HasEntries code polling old
    → HasEntries code polling now
has_entries code polling old now kept h = record {
  ascends = ascends_too old now kept h.ascends;
  places =
      subst (HasPlaces code)
      (sym (same_addresses old) ∙ ap addresses (sym kept) ∙ same_addresses now) h.places;
  each = λ e c.
      let r = mapped old (without_run e)
      (subst (λ xs. Contains xs (without_run e)) kept (maps now e c)) in
      entry_with code (polling e.address) e
      (subst (λ x. IsEntry code (polling x.address) x) r.2
      (entry_without code (polling r.0.address) r.0 (h.each r.0 r.1)));
}

-- ---- ascending entries

above_at : (low : ℕ) (es : List PlanEntry) (k : ℕ) (x : PlanEntry) → AscendsFrom low es
    → slice_get es k ≡ Some x → low ≤ x.address
above_at low [] k x up at = cc
above_at low (e ∷ es) zero x up at =
    let same : e ≡ x = cc in
    subst (λ (z : PlanEntry). low ≤ z.address) same up.0
above_at low (e ∷ es) (suc k) x up at =
    let more = above_at (e.address + 1) es k x up.1 at in
    let le = up.0 in
    omega (arith, more, le)

before_at : (low : ℕ) (es : List PlanEntry) (k : ℕ) (x e : PlanEntry) → AscendsFrom low es
    → slice_get es k ≡ Some x → Contains (take k es) e → e.address < x.address
before_at low [] k x e up at c = cc
before_at low (y ∷ ys) zero x e up at c = absurd (no_element e c)
before_at low (y ∷ ys) (suc k) x e up at c = elim (first_or y e (take k ys) c) [
  | inl is ↦
      let more = above_at (y.address + 1) ys k x up.1 at in
      subst (λ (z : PlanEntry). z.address < x.address) (sym is) (omega (arith, more))
  | inr rest ↦ before_at (y.address + 1) ys k x e up.1 at rest
]

-- ---- the entries so far

-- they have their runs, and no run of theirs goes on from this address on
pub record IsDone (code : ℕ → Option Instr) (done : List PlanEntry) (free : ℕ) : Type 0 where
  pub each : (e : PlanEntry) → Contains done e → IsRunEntry code done e
  pub ends : (e : PlanEntry) → Contains done e → e.run ≢ 0 → e.address + 4 * e.run ≤ free
  pub last : (free ≡ 0) ⊎ ((e : PlanEntry) × Contains done e × (e.address + 4 * e.run ≡ free))

none_done : (code : ℕ → Option Instr) → IsDone code [] 0
none_done code = record {
  each = λ e c. absurd (no_element e c);
  ends = λ e c. absurd (no_element e c);
  last = inl refl;
}

-- an address in a run of those so far lies below, and one that lies below is in one
inside_below : (code : ℕ → Option Instr) (done : List PlanEntry) (free a : ℕ) → IsDone code done free
    → IsInEarlierRun done a → a < free
inside_below code done free a h inside =
    let lt = inside.earlier in
    let low = inside.inside.below in
    let end = h.ends inside.entry inside.member (λ z. omega (arith, z, lt, low)) in
    omega (arith, end, low)

below_inside : (code : ℕ → Option Instr) (done : List PlanEntry) (free a : ℕ) → IsDone code done free
    → ((e : PlanEntry) → Contains done e → e.address < a) → a < free → IsInEarlierRun done a
below_inside code done free a h before lt = elim h.last [
  | inl none ↦ absurd (omega (arith, none, lt))
  | inr last ↦
      let low = before last.0 last.1 in
      let end = last.2 in
      record {
        entry = last.0;
        member = last.1;
        earlier = low;
        inside = record { from = omega (arith, low); below = omega (arith, end, lt) };
      }
]

-- an entry behind doesn't count for an address before it
earlier_same : (done : List PlanEntry) (f : PlanEntry) (a : ℕ) → a ≤ f.address
    → IsInEarlierRun (done ++ f ∷ []) a → IsInEarlierRun done a
earlier_same done f a le h = elim (Contains-push_cases done f h.entry h.member) [
  | inl there ↦
      record { entry = h.entry; member = there; earlier = h.earlier; inside = h.inside }
  | inr same ↦ absurd (
      let lt = h.earlier in
      let is = ap (λ (z : PlanEntry). z.address) same in
      omega (arith, le, lt, is))
]

earlier_more : (done : List PlanEntry) (f : PlanEntry) (a : ℕ) → IsInEarlierRun done a
    → IsInEarlierRun (done ++ f ∷ []) a
earlier_more done f a h = record {
  entry = h.entry;
  member = Contains-append_left done (f ∷ []) h.entry h.member;
  earlier = h.earlier;
  inside = h.inside;
}

entry_before : (code : ℕ → Option Instr) (done : List PlanEntry) (e f : PlanEntry)
    → e.address ≤ f.address → IsRunEntry code done e → IsRunEntry code (done ++ f ∷ []) e
entry_before code done e f le h = record {
  later = λ inside. h.later (earlier_same done f e.address le inside);
  longest = λ out. h.longest (λ inside. out (earlier_more done f e.address inside));
  none = h.none;
  scratches = h.scratches;
}

new_entry : (code : ℕ → Option Instr) (done : List PlanEntry) (free : ℕ) (f : PlanEntry)
    → IsDone code done free → ((e : PlanEntry) → Contains done e → e.address < f.address)
    → HasRunFrom code free f → IsRunEntry code (done ++ f ∷ []) f
new_entry code done free f h before run = record {
  later = λ inside.
      run.later (inside_below code done free f.address h
      (earlier_same done f f.address (omega arith) inside));
  longest = λ out. elim (cases_lt f.address free) [
    | inl lt ↦
        absurd (out (earlier_more done f f.address
        (below_inside code done free f.address h before lt)))
    | inr le ↦ run.longest le
  ];
  none = run.none;
  scratches = run.scratches;
}

-- where the next run may start
behind_none : (f : PlanEntry) (free : ℕ) → f.run ≡ 0 → behind f free ≡ free
behind_none f free none =
    ap (λ n. cond (n == 0) free (f.address + 4 * f.run)) none

behind_run : (f : PlanEntry) (free : ℕ) → f.run ≢ 0 → behind f free ≡ f.address + 4 * f.run
behind_run f free some = elim (eqb_tells f.run 0) [
  | inl none ↦ absurd (some none.1)
  | inr tells ↦ ap (λ b. cond b free (f.address + 4 * f.run)) tells.0
]

-- one entry more
done_more : (code : ℕ → Option Instr) (done : List PlanEntry) (free : ℕ) (f : PlanEntry)
    → IsDone code done free → ((e : PlanEntry) → Contains done e → e.address < f.address)
    → HasRunFrom code free f → IsDone code (done ++ f ∷ []) (behind f free)
done_more code done free f h before run = record {
  each = λ e c. elim (Contains-push_cases done f e c) [
    | inl there ↦
        let lt = before e there in
        entry_before code done e f (omega (arith, lt)) (h.each e there)
    | inr same ↦
        subst (IsRunEntry code (done ++ f ∷ [])) same (new_entry code done free f h before run)
  ];
  ends = λ e c some. elim (Contains-push_cases done f e c) [
    | inl there ↦
        let old = h.ends e there some in
        let more = free_rises in
        omega (arith, old, more)
    | inr same ↦
        subst (λ (z : PlanEntry). z.address + 4 * z.run ≤ behind f free) same
        (own_end (λ none. some (sym (ap (λ (z : PlanEntry). z.run) same) ∙ none)))
  ];
  last = elim (eqb_tells f.run 0) [
    | inl none ↦ elim h.last [
      | inl start ↦ inl (behind_none f free none.1 ∙ start)
      | inr last ↦ inr (
        last.0,
        Contains-append_left done (f ∷ []) last.0 last.1,
        last.2 ∙ sym (behind_none f free none.1),
      )
    ]
    | inr some ↦ inr (f, Contains-push done f, sym (behind_run f free some.1))
  ];
}
  where
    own_end : f.run ≢ 0 → f.address + 4 * f.run ≤ behind f free
    own_end some = let e = behind_run f free some in omega (arith, e)

    free_rises : free ≤ behind f free
    free_rises = elim (eqb_tells f.run 0) [
      | inl none ↦ (let e = behind_none f free none.1 in omega (arith, e))
      | inr some ↦ (let e = behind_run f free some.1 in elim (cases_lt f.address free) [
        | inl lt ↦ absurd (some.1 (run.later lt))
        | inr le ↦ omega (arith, e, le)
      ])
    ]

-- ---- the plan so far

pub record IsBatched (code : ℕ → Option Instr) (old now : List PlanEntry) (k free : ℕ) : Type 0
  where
    pub kept : map without_run now ≡ map without_run old
    pub done : AscendsFrom 0 old → IsDone code (take k now) free

pub batched_none : (code : ℕ → Option Instr) (plan : List PlanEntry) → IsBatched code plan plan 0 0
batched_none code plan = record { kept = refl; done = λ up. none_done code }

pub batched_more : (code : ℕ → Option Instr) (old now new : List PlanEntry) (k free next : ℕ)
    (x f : PlanEntry) → IsBatched code old now k free → slice_get now k ≡ Some x
    → without_run f ≡ without_run x → HasRunFrom code free f → new ≡ slice_set now k f
    → next ≡ behind f free → IsBatched code old new (k + 1) next
batched_more code old now new k free next x f h at same run set is = record {
  kept = ap (map without_run) set ∙ kept_more now k x f at same ∙ h.kept;
  done = λ up.
      let rises = ascends_too old now h.kept up in
      let here : x.address ≡ f.address = ap (λ (z : PlanEntry). z.address) (sym same) in
      let more = done_more code (take k now) free f (h.done up)
      (λ e c. let lt = before_at 0 now k x e rises at c in omega (arith, lt, here)) run in
      subst (λ es. IsDone code es next)
      (sym (ap (take (k + 1)) set
      ∙ take-set_at now k (k + 1) f refl (slice_get_within now k x at)))
      (subst (IsDone code (take k now ++ f ∷ [])) (sym is) more);
}

take_all : (es : List PlanEntry) (k : ℕ) → length es ≤ k → take k es ≡ es
take_all [] zero le = refl
take_all [] (suc k) le = refl
take_all (e ∷ es) zero le = absurd (omega (arith, le))
take_all (e ∷ es) (suc k) le = ap (λ xs. e ∷ xs) (take_all es k (omega (arith, le)))

-- the plan with its batches
pub batched_all : (code : ℕ → Option Instr) (old now : List PlanEntry) (k free end : ℕ)
    → IsBatched code old now k free → end ≡ length old → end ≤ k → IsPlanOf false code old
    → IsPlanOf true code now
batched_all code old now k free end h len le is = record {
  entries = has_entries code (λ a. closes_loop_at a (code a)) old now h.kept is.entries;
  runs = λ e c. subst (λ es. IsRunEntry code es e) whole ((h.done is.entries.ascends).each e
      (subst (λ es. Contains es e) (sym whole) c));
}
  where
    whole : take k now ≡ now
    whole =
        let same = same_length old now h.kept in
        take_all now k (omega (arith, same, len, le))
