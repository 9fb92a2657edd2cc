-- A walk along the run of a record that tells of a whole run.
use Rattle.std.proofs.Common.{◌≡◌, ◌⊎◌, ℕ, ◌≤◌, ◌<◌, ◌+◌, Bool, true, false, List, [], ◌∷◌, ◌++◌, All, length, map, Option, Some, None, refl, sym, ap, ◌∙◌, subst, inl, inr, arith, append-nil, append_assoc}
use mir.Val.{bool_byte}
use Rattle.std.proofs.lemmas.List.{length-map}
use Rattle.std.proofs.lemmas.List.Elements.{All-nil, All-push}
use Rattle.std.proofs.lemmas.Bool.Decides.{nat_tests}
use Rattle.std.specs.Prelude.{◌==◌, ◌&&◌, ◌||◌, is_some, nat_lt}
use Rattle.std.specs.Option.{option_map, option_to_list}
use Rattle.event_text.specs.run_trace.node_model.Node.{Work}
use Rattle.event_text.specs.replay.dsm_core.CoreParts.{core_of}
use Rattle.event_text.specs.replay.Told.{what_told}
use Rattle.event_text.specs.replay.Way.{core_in}
use Rattle.event_text.specs.replay.run_record.declared.Record.{Record}
use Rattle.event_text.specs.run_trace.declared.traced.Traced.{Traced as Stored}
use Rattle.event_text.specs.run_trace.declared.tracer.Tracer.{Tracer}
use Rattle.event_text.specs.run_trace.Given.{traced_of}
use Rattle.event_text.specs.run_trace.Traced.{Traced}
use Rattle.event_text.specs.run_trace.Trace.{IsTraceOf, trace_of}
use Rattle.event_text.specs.run_trace.Tracing.{HasTraced, IsSame, plan_traced, record_traced, replayer_in, work_traced}
use Rattle.run_trace.proofs.Wholes.{HasOne, goes_on, so_far}
use Rattle.templates.specs.declared.plans.PlanEntry.{PlanEntry}
use Rattle.debugged_run.specs.one_memory.declared.Pick.{Pick}
use Rattle.debugged_run.specs.one_memory.Shown.{pick_of}
use Rattle.record_picks.specs.Seen.{picks_seen}
use Rattle.record_picks.proofs.Traces.{AllReserve, of_trace}
use Rattle.record_picks.proofs.Ways.{AllRuns, HaveReservations}
use Rattle.recorded_run.specs.Shown.{AreFewest, AreFirst, StandsFor, name_of, picks_made}
use Rattle.recorded_run.specs.declared.walk.Walk.{Walk}
use Rattle.recorded_run.specs.Tells.{IsNoMiss, is_miss}
use Rattle.recorded_run.specs.Walks.{CountsPicks, GoesOn, GoesToNext, HasCounted, HasWalked, IsCounting, IsOfPicks, IsWalking, MakesOne, StaysAlong, comes_to}
use Rattle.recorded_run.proofs.Walking.{fewest_more, fewest_none, last_more, pick_count, picks_both, picks_more}

-- the nodes of a tracer are those behind the events that were made
pub first_of : (t : Tracer) (seen : List Traced) → HasTraced t seen
    → AreFirst (work_traced t) (plan_traced t) (record_traced t) seen (core_of (core_in (replayer_in t)))
first_of t seen h = record {
  so_far = record {
    before = h.before;
    rest = h.made.way.rest;
    are_told = h.made.way.are_told;
    made = h.made.way.made;
    trace_is = h.seen_is;
  };
  alike = h.made.way.alike;
}

-- each core run of rewritten code has the reservations of its run on one memory
abbrev pub AllRunsReserve : Type 0
AllRunsReserve = AllRuns HaveReservations

module _ (work : Work) (plan : List PlanEntry) (r : Record) (picks : List Pick)
    (stands : StandsFor work plan r picks) (law : AllRunsReserve) (one : HasOne r) where
  reserve : AllReserve work plan
  reserve events is =
      law work plan events stands.runs.accepted stands.runs.valid stands.runs.laid_over stands.rewriting is

  -- the trace of the whole run
  whole_trace : IsTraceOf work plan r (trace_of work plan stands.are.told)
  whole_trace = record { told = stands.are.told; whole = stands.are.whole; trace_is = refl }

  -- it makes the picks for which the run stands
  told_picks : picks_made (trace_of work plan stands.are.told) ≡ length picks
  told_picks =
      ap length (of_trace work plan reserve (map what_told stands.are.told) stands.are.whole.made
      ∙ sym stands.are.picks_are) ∙ length-map picks pick_of

  pub whole_picks : (trace : List Traced) → IsTraceOf work plan r trace → picks_made trace ≡ length picks
  whole_picks trace whole =
      ap picks_made (whole.trace_is
      ∙ ap (trace_of work plan) (one whole.told stands.are.told whole.whole.are_told stands.are.whole.are_told))
      ∙ told_picks

-- some events of it make no more
pub part_picks : (t : Tracer) (seen : List Traced) (picks : List Pick)
    → (stands : StandsFor (work_traced t) (plan_traced t) (record_traced t) picks) → AllRunsReserve
    → HasOne (record_traced t) → HasTraced t seen → picks_made seen ≤ length picks
part_picks t seen picks stands law one h =
    let trace = trace_of (work_traced t) (plan_traced t) stands.are.told in
    let whole = whole_trace (work_traced t) (plan_traced t) (record_traced t) picks stands law one in
    let on = goes_on (work_traced t) (plan_traced t) (record_traced t) seen trace one (so_far t seen h) whole in
    let all : picks_made trace ≡ length picks =
    whole_picks (work_traced t) (plan_traced t) (record_traced t) picks stands law one trace whole in
    let both : picks_made trace ≡ picks_made seen + picks_made on.0 = ap picks_made on.1 ∙ picks_both seen on.0 in
    omega (arith, all, both)

-- the same run stands for the same picks
pub same_picks : (t u : Tracer) (picks : List Pick) → work_traced u ≡ work_traced t → plan_traced u ≡ plan_traced t
    → record_traced u ≡ record_traced t → StandsFor (work_traced t) (plan_traced t) (record_traced t) picks
    → StandsFor (work_traced u) (plan_traced u) (record_traced u) picks
same_picks t u picks work plan rec_is h =
    subst (λ r. StandsFor (work_traced u) (plan_traced u) r picks) (sym rec_is)
    (subst (λ p. StandsFor (work_traced u) p (record_traced t) picks) (sym plan)
    (subst (λ x. StandsFor x (plan_traced t) (record_traced t) picks) (sym work) h))

pub stays : (u v w : Walk) → StaysAlong u v → StaysAlong v w → StaysAlong u w
stays u v w one two = record {
  work_is = two.work_is ∙ one.work_is;
  plan_is = two.plan_is ∙ one.plan_is;
  rec_is = two.rec_is ∙ one.rec_is;
}

pub stays_self : (w : Walk) → StaysAlong w w
stays_self w = record { work_is = refl; plan_is = refl; rec_is = refl }

pub stays_by : (w u : Walk) → IsSame w.tracer u.tracer → StaysAlong w u
stays_by w u same = record { work_is = same.work; plan_is = same.plan; rec_is = same.rec_is }

-- a walk has made an event more
pub walked_on : (w u : Walk) (seen : List Traced) (x : Traced) (o : Option Pick) → HasCounted w seen
    → HasTraced u.tracer (seen ++ x ∷ []) → option_to_list (option_map pick_of o) ≡ picks_seen x
    → u.picks ≡ w.picks + bool_byte (is_some o) → u.last ≡ Some (name_of x) → u.fewest ≡ is_some o
    → HasWalked u (seen ++ x ∷ [])
walked_on w u seen x o h traced are count last fewest =
    let one : length (picks_seen x) ≡ bool_byte (is_some o) = pick_count o (picks_seen x) are in
    let here : u.picks ≡ picks_made seen + length (picks_seen x) =
    count ∙ ap (λ (n : ℕ). n + bool_byte (is_some o)) h.picks_are ∙ ap (λ (n : ℕ). picks_made seen + n) (sym one) in
    record {
      counted = record { traced = traced; picks_are = here ∙ sym (picks_more seen x) };
      last_is = last ∙ sym (last_more seen x);
      fewest = λ is.
          let made : bool_byte (is_some o) ≡ 1 = ap bool_byte (sym fewest ∙ is) in
          subst (λ (n : ℕ). AreFewest n (seen ++ x ∷ []))
          (sym (count ∙ ap (λ (n : ℕ). w.picks + n) made))
          (fewest_more seen x w.picks (sym h.picks_are) (one ∙ made));
    }

pub makes_one : (before now : ℕ) (b fewest : Bool) → now ≡ before + bool_byte b → fewest ≡ b
    → (now ≡ before) ⊎ ((now ≡ before + 1) × (fewest ≡ true))
makes_one before now false fewest count is = inl (omega (arith, count))
makes_one before now true fewest count is = inr (count, is)

-- a walk that comes to so many picks and has no more to make stands there
pub stands_there : (w : Walk) (seen : List Traced) (k : ℕ) → HasWalked w seen → comes_to w k ≡ true
    → (w.picks < k → ⊥) → AreFewest k seen
stands_there w seen k h comes none =
    let t : (w.picks ≡ k) × (w.fewest ≡ true) = grind (arith, nat_tests) in
    subst (λ n. AreFewest n seen) t.0 (h.fewest t.1)

-- a walk at the start
pub walks_at_start : (w : Walk) → HasTraced w.tracer [] → w.picks ≡ 0 → w.last ≡ None → HasWalked w []
walks_at_start w traced picks last = record {
  counted = record { traced = traced; picks_are = picks };
  last_is = last;
  fewest = λ is. subst (λ n. AreFewest n []) (sym picks) fewest_none;
}

comes_by : (picks k : ℕ) (fewest : Bool) → picks ≡ 0 → fewest ≡ true
    → (nat_lt picks k || (picks == k && fewest)) ≡ true
comes_by picks k fewest none is = grind (arith, nat_tests)

pub comes_at_start : (k : ℕ) → (nat_lt 0 k || (0 == k && true)) ≡ true
comes_at_start k = comes_by 0 k true refl refl

-- where all events were made, it counts them all
pub counts_all : (w u : Walk) (picks : List Pick) → IsOfPicks u picks → AllRunsReserve → HasOne (record_traced u.tracer)
    → (counting : IsCounting w) → GoesOn u counting.0 None → w.picks ≡ length picks
counts_all w u picks stands law one counting whole =
    counting.1.picks_are
    ∙ whole_picks (work_traced u.tracer) (plan_traced u.tracer) (record_traced u.tracer) picks stands law one counting.0 whole

-- a pick more has room
pub more_fits : (w : Walk) (t : Tracer) (x : Traced) (o : Option Pick) (picks : List Pick)
    → StandsFor (work_traced t) (plan_traced t) (record_traced t) picks → AllRunsReserve → HasOne (record_traced t)
    → (counting : IsCounting w) → HasTraced t (counting.0 ++ x ∷ []) → option_to_list (option_map pick_of o) ≡ picks_seen x
    → w.picks + bool_byte (is_some o) ≤ length picks
more_fits w t x o picks stands law one counting traced are =
    let most = part_picks t (counting.0 ++ x ∷ []) picks stands law one traced in
    let more = picks_more counting.0 x in
    let single = pick_count o (picks_seen x) are in
    let here = counting.1.picks_are in
    omega (arith, most, more, single, here)

-- a walk goes on to the fewest events that make so many picks
pub record IsComing (first : Walk) (picks : List Pick) (k : ℕ) (w : Walk) : Type 0 where
  pub walking : IsWalking w
  pub of_picks : IsOfPicks w picks
  pub comes : comes_to w k ≡ true
  pub same : StaysAlong first w

pub is_coming : (w : Walk) (picks : List Pick) (k : ℕ) → IsWalking w → IsOfPicks w picks → comes_to w k ≡ true → IsComing w picks k w
is_coming w picks k walking stands comes = record {
  walking = walking;
  of_picks = stands;
  comes = comes;
  same = stays_self w;
}

comes_on : (w u : Walk) (k : ℕ) (x : Stored) → w.picks < k → MakesOne w u (Some x) → comes_to u k ≡ true
comes_on w u k x below (inl same) = grind (arith, nat_tests)
comes_on w u k x below (inr more) = let p = more.0 in let f = more.1 in grind (arith, nat_tests)

pub coming_on : (first w s u : Walk) (picks : List Pick) (k : ℕ) (x : Stored) (seen : List Traced)
    → IsComing first picks k w → StaysAlong w s → s.picks < k → GoesOn u seen (Some x) → MakesOne s u (Some x)
    → StaysAlong s u → IsComing first picks k u
coming_on first w s u picks k x seen way silent below goes makes same =
    let on = stays w s u silent same in
    record {
      walking = (seen ++ traced_of x ∷ [], goes);
      of_picks = same_picks w.tracer u.tracer picks on.work_is on.plan_is on.rec_is way.of_picks;
      comes = comes_on s u k x below makes;
      same = stays first w u way.same on;
    }

-- it never comes to the end of the run before
pub comes_before_end : (w u : Walk) (picks : List Pick) (k : ℕ) → w.picks < k → k ≤ length picks → MakesOne w u None
    → CountsPicks u picks None → ⊥
comes_before_end w u picks k below within makes counts = absurd (omega (arith, below, within, makes, counts))

-- a walk goes on to the next miss
pub record IsSeeking (first : Walk) (picks : List Pick) (w : Walk) : Type 0 where
  pub on : (seen : List Traced) → HasWalked first seen → (more : List Traced) × All IsNoMiss more × HasWalked w (seen ++ more)
  pub of_picks : IsOfPicks w picks
  pub same : StaysAlong first w

pub is_seeking : (w : Walk) (picks : List Pick) → IsOfPicks w picks → IsSeeking w picks w
is_seeking w picks stands = record {
  on = λ seen h. ([], All-nil IsNoMiss, subst (HasWalked w) (sym (append-nil seen)) h);
  of_picks = stands;
  same = stays_self w;
}

-- some events that it has counted
pub counted_there : (first w : Walk) (picks : List Pick) → IsSeeking first picks w → IsWalking first → IsCounting w
counted_there first w picks way walking =
    let on = way.on walking.0 walking.1 in (walking.0 ++ on.0, on.2.counted)

pub seeking_on : (first w u : Walk) (picks : List Pick) (x : Stored) → IsSeeking first picks w
    → ((seen : List Traced) → HasCounted w seen → GoesOn u seen (Some x)) → StaysAlong w u → is_miss (traced_of x) ≡ false
    → IsSeeking first picks u
seeking_on first w u picks x way goes same none = record {
  on = λ seen h.
      let on = way.on seen h in (
        on.0 ++ traced_of x ∷ [],
        All-push IsNoMiss on.0 (traced_of x) on.1 none,
        subst (HasWalked u) (append_assoc seen on.0 (traced_of x ∷ [])) (goes (seen ++ on.0) on.2.counted),
      );
  of_picks = same_picks w.tracer u.tracer picks same.work_is same.plan_is same.rec_is way.of_picks;
  same = stays first w u way.same same;
}

pub seeks_there : (first w u : Walk) (picks : List Pick) (x : Stored) → IsSeeking first picks w
    → ((seen : List Traced) → HasCounted w seen → GoesOn u seen (Some x)) → is_miss (traced_of x) ≡ true
    → (seen : List Traced) → HasWalked first seen → GoesToNext u seen (Some x)
seeks_there first w u picks x way goes is seen h =
    let on = way.on seen h in (
      on.0,
      on.1,
      subst (HasWalked u) (append_assoc seen on.0 (traced_of x ∷ [])) (goes (seen ++ on.0) on.2.counted),
      is,
    )

pub seeks_to_end : (first w u : Walk) (picks : List Pick) → IsSeeking first picks w
    → ((seen : List Traced) → HasCounted w seen → GoesOn u seen None) → (seen : List Traced) → HasWalked first seen
    → GoesToNext u seen None
seeks_to_end first w u picks way goes seen h =
    let on = way.on seen h in (on.0, on.1, goes (seen ++ on.0) on.2.counted)
