-- A step of one of the processors that go on.
use Rattle.std.proofs.Common.{◌≡◌, ◌≢◌, ℕ, zero, suc, ◌+◌, ◌-◌, ◌<◌, ◌≤◌, ◌&&◌, not, Bool, true, false, List, [], ◌∷◌, ◌++◌, length, get_or, set, replicate, map, Option, Some, None, refl, sym, ap, ◌∙◌, subst, arith, inl, inr, Result, Ok, Err, IfOk}
use Rattle.std.specs.Prelude.{is_some, nat_lt, slice_index, if◌then◌else◌}
use Rattle.std.specs.List.{range_with_len, remove}
use Rattle.std.proofs.Math.Path.{fun_ext}
use Rattle.std.proofs.lemmas.Bool.{ltb-true, lt-ltb}
use Rattle.std.proofs.lemmas.Bool.Decides.{eqb_tells}
use Rattle.std.proofs.lemmas.List.{get_or-set_same, get_or-set_other, get_or_read}
use Rattle.std.proofs.lemmas.List.FromFn.{map-range_with_len_more}
use Rattle.rv32_program.specs.declared.End.{End}
use Rattle.rv32_program.specs.declared.Exit.{Exit}
use Rattle.rv32_step.specs.OneMemory.{Original, Processor, State, Step, run, Request, Becomes, Prints, LoadsFrom, StoresTo, ReservesAt, StoresWhere, UpdatesAt, opening, answer, request, step, with_processor, with_store, after_conditional}
use Rattle.rv32_decode.specs.declared.Width.TheVariants.{Word}
use Rattle.llsc.specs.Reservation.{holds}
use Rattle.random_order.specs.Orders.{following, choice}
use Rattle.one_memory.specs.ByOrder.{one_more, goes_on, live, FollowsOrder, state_after, end_by, ends_by, IsRunByOrder}
use Rattle.one_memory.specs.Machine.{state_of, original_of}
use Rattle.one_memory.specs.declared.by_order.OriginalRun.{OriginalRun}
use Rattle.one_memory.specs.Running.{IsRunning, HasRun, steps_of}
use Rattle.one_memory.proofs.ListLemmas.{found, length_filtered, filter_same, filter_all, filter_removed, total, total_less}

-- a step of processor p from these to those
pub record IsStep (o : Original) (p : ℕ) (steps : ℕ → ℕ) (s : State) (steps' : ℕ → ℕ) (s' : State) : Type 0 where
  pub steps_are : steps' ≡ one_more steps p
  pub state_is : s' ≡ (step o s p).state

other_unless : (s : State) (p : ℕ) (x : Processor) (q : ℕ) → q ≢ p → (with_processor s p x).processors q ≡ s.processors q
other_unless s p x q ne = elim (eqb_tells q p) [ inl e ↦ absurd (ne e.1) | inr e ↦ rw e.0 refl ]

other_conditional : (o : Original) (s : State) (p : ℕ) (x : Processor) (a v : ℕ) (reserved : Bool) (q : ℕ) → q ≢ p → (if reserved then with_store o s p x Word a v else s).processors q ≡ s.processors q
other_conditional o s p x a v true q ne = other_unless s p x q ne
other_conditional o s p x a v false q ne = refl

other_answered : (o : Original) (s : State) (p : ℕ) (x : Processor) (a : Request) (q : ℕ) → q ≢ p → (answer o s p x a).state.processors q ≡ s.processors q
other_answered o s p x (Becomes y) q ne = other_unless s p y q ne
other_answered o s p x (Prints a) q ne = other_unless s p _ q ne
other_answered o s p x (LoadsFrom k r a) q ne = other_unless s p _ q ne
other_answered o s p x (StoresTo w a v) q ne = other_unless s p _ q ne
other_answered o s p x (ReservesAt r a) q ne = other_unless s p _ q ne
other_answered o s p x (StoresWhere r a v) q ne =
    let reserved = holds (s.reservations p) a in
    let y = after_conditional o.program x r a v reserved in
    other_unless (if reserved then with_store o s p y Word a v else s) p y q ne ∙ other_conditional o s p y a v reserved q ne
other_answered o s p x (UpdatesAt f r a v) q ne = other_unless s p _ q ne

other_steps : (steps : ℕ → ℕ) (p q : ℕ) → q ≢ p → one_more steps p q ≡ steps q
other_steps steps p q ne = elim (eqb_tells q p) [ inl e ↦ absurd (ne e.1) | inr e ↦ rw e.0 refl ]

pub same_steps : (steps : ℕ → ℕ) (p : ℕ) → one_more steps p p ≡ steps p + 1
same_steps steps p = elim (eqb_tells p p) [ inl e ↦ rw e.0 refl | inr e ↦ absurd (e.1 refl) ]

-- another processor goes on as before
pub others : (budget : ℕ) (o : Original) (p : ℕ) (steps : ℕ → ℕ) (s : State) (steps' : ℕ → ℕ) (s' : State) → IsStep o p steps s steps' s' → (q : ℕ) → q ≢ p → goes_on budget steps' s' q ≡ goes_on budget steps s q
others budget o p steps s steps' s' h q ne =
    let state : s'.processors q ≡ s.processors q = ap (λ (t : State). t.processors q) h.state_is ∙ other_answered o s p (s.processors p) (request o.program (s.processors p)) q ne in
    let count : steps' q ≡ steps q = ap (λ (m : ℕ → ℕ). m q) h.steps_are ∙ other_steps steps p q ne in
    ap (λ (x : Processor). not (is_some x.exit) && nat_lt (steps' q) budget) state ∙ ap (λ m. not (is_some (s.processors q).exit) && nat_lt m budget) count

-- what is known of the processor that is stepped
pub record IsLive (n budget : ℕ) (steps : ℕ → ℕ) (s : State) (p : ℕ) : Type 0 where
  pub goes : goes_on budget steps s p ≡ true
  pub among : p < n
  pub runs : (s.processors p).exit ≡ None
  pub below : steps p < budget

no_exit : (o : Option Exit) (b : Bool) → (not (is_some o) && b) ≡ true → (o ≡ None) × (b ≡ true)
no_exit None b h = (refl, h)
no_exit (Some e) b h = absurd (cc)

pub is_live : (o : Original) (budget : ℕ) (steps : ℕ → ℕ) (s : State) (ls : List ℕ) (k p : ℕ) → ls ≡ live o budget steps s → k < length ls → p ≡ get_or ls k 0 → IsLive o.nodes budget steps s p
is_live o budget steps s ls k p all within at =
    let f = found (goes_on budget steps s) 0 o.nodes k (subst (λ (xs : List ℕ). k < length xs) all within) in
    let here = at ∙ ap (λ (xs : List ℕ). get_or xs k 0) all in
    let goes : goes_on budget steps s p ≡ true = ap (goes_on budget steps s) here ∙ f.passes in
    let parts = no_exit (s.processors p).exit (nat_lt (steps p) budget) goes in
    record {
      goes = goes;
      among = let high = f.high in omega (arith, high, here);
      runs = parts.0;
      below = ltb-true (steps p) budget parts.1;
    }

pub few_live : (o : Original) (budget : ℕ) (steps : ℕ → ℕ) (s : State) (ls : List ℕ) → ls ≡ live o budget steps s → length ls ≤ o.nodes
few_live o budget steps s ls all = subst (λ (xs : List ℕ). length xs ≤ o.nodes) (sym all) (length_filtered (goes_on budget steps s) 0 o.nodes)

-- the processor still goes on
pub stays : (o : Original) (budget p : ℕ) (steps : ℕ → ℕ) (s : State) (steps' : ℕ → ℕ) (s' : State) (ls : List ℕ) (k : ℕ) → IsStep o p steps s steps' s' → ls ≡ live o budget steps s → k < length ls → p ≡ get_or ls k 0 → goes_on budget steps' s' p ≡ true → ls ≡ live o budget steps' s'
stays o budget p steps s steps' s' ls k h all within at on =
    let l = is_live o budget steps s ls k p all within at in
    all ∙ sym (filter_same (goes_on budget steps s) (goes_on budget steps' s') 0 o.nodes (λ q low. elim (eqb_tells q p) [
      | inl e ↦ ap (goes_on budget steps' s') e.1 ∙ on ∙ sym l.goes ∙ sym (ap (goes_on budget steps s) e.1)
      | inr e ↦ others budget o p steps s steps' s' h q e.1
    ]))

-- the processor goes on no more
pub goes : (o : Original) (budget p : ℕ) (steps : ℕ → ℕ) (s : State) (steps' : ℕ → ℕ) (s' : State) (ls : List ℕ) (k : ℕ) → IsStep o p steps s steps' s' → ls ≡ live o budget steps s → k < length ls → p ≡ get_or ls k 0 → goes_on budget steps' s' p ≡ false → remove ls k ≡ live o budget steps' s'
goes o budget p steps s steps' s' ls k h all within at off =
    let l = is_live o budget steps s ls k p all within at in
    ap (λ (xs : List ℕ). remove xs k) all
    ∙ filter_removed (goes_on budget steps s) (goes_on budget steps' s') 0 o.nodes k p (others budget o p steps s steps' s' h) l.goes off
    (subst (λ (xs : List ℕ). k < length xs) all within) (at ∙ ap (λ (xs : List ℕ). get_or xs k 0) all)

-- the list with one count more
pub counted : (counts : List ℕ) (p v : ℕ) → p < length counts → v ≡ get_or counts p 0 + 1 → slice_index (set counts p v) ≡ one_more (slice_index counts) p
counted counts p v within is = fun_ext (λ q. elim (eqb_tells q p) [
  | inl e ↦ rw (e.0, e.1) (get_or-set_same counts p v 0 within ∙ is)
  | inr e ↦ rw e.0 (get_or-set_other counts p q v 0 e.1)
])

-- the steps that are left
abbrev pub steps_left : ℕ → ℕ → (ℕ → ℕ) → ℕ
steps_left n budget steps = total (λ p. budget - steps p) 0 n

pub fewer_left : (n budget p : ℕ) (steps : ℕ → ℕ) (s : State) (steps' : ℕ → ℕ) → IsLive n budget steps s p → steps' ≡ one_more steps p → steps_left n budget steps' < steps_left n budget steps
fewer_left n budget p steps s steps' l is =
    let more : steps' p ≡ steps p + 1 = ap (λ (m : ℕ → ℕ). m p) is ∙ same_steps steps p in
    let below = l.below in
    total_less (λ q. budget - steps q) (λ q. budget - steps' q) 0 n p (λ q ne. ap (λ m. budget - m) (ap (λ (m : ℕ → ℕ). m q) is ∙ other_steps steps p q ne))
    (omega (arith, more, below)) (omega arith) (let among = l.among in omega (arith, among))

zero_at : (n q : ℕ) → get_or (replicate {A = ℕ} n 0) q 0 ≡ 0
zero_at zero q = refl
zero_at (suc n) zero = refl
zero_at (suc n) (suc q) = zero_at n q

-- at the start none has made a step
pub no_steps : (counts : List ℕ) (n : ℕ) → counts ≡ replicate {A = ℕ} n 0 → slice_index counts ≡ (λ p. 0)
no_steps counts n zeros = fun_ext (λ q. ap (λ (xs : List ℕ). get_or xs q 0) zeros ∙ zero_at n q)

-- at the start all go on
pub all_live : (o : Original) (budget : ℕ) (steps : ℕ → ℕ) (s : State) → 1 ≤ budget → steps ≡ (λ p. 0) → s ≡ opening o → range_with_len 0 o.nodes ≡ live o budget steps s
all_live o budget steps s some none start =
    sym (filter_all (goes_on budget steps s) 0 o.nodes (λ q. ap (λ (t : State). goes_on budget steps t q) start ∙ ap (λ (f : ℕ → ℕ). nat_lt (f q) budget) none ∙ lt-ltb 0 budget some))

-- what follows the order after the step, follows it with the step in front
pub in_front : (o : Original) (budget number number' p k : ℕ) (steps : ℕ → ℕ) (s : State) (steps' : ℕ → ℕ) (s' : State) (ls : List ℕ) → IsStep o p steps s steps' s' → ls ≡ live o budget steps s → 0 < length ls → k ≡ choice (length ls) (following number) → p ≡ get_or ls k 0 → number' ≡ following number → (ps : List ℕ) → FollowsOrder o budget number' steps' s' ps → FollowsOrder o budget number steps s (p ∷ ps)
in_front o budget number number' p k steps s steps' s' ls h all some chosen at next ps follows = (
  subst (λ (xs : List ℕ). 0 < length xs) all some,
  at ∙ ap (get_index ls) chosen ∙ ap (λ (xs : List ℕ). get_or xs (choice (length xs) (following number)) 0) all,
  subst (λ t. FollowsOrder o budget (following number) (one_more steps p) t ps) h.state_is
      (subst (λ (m : ℕ → ℕ). FollowsOrder o budget (following number) m s' ps) h.steps_are
      (subst (λ i. FollowsOrder o budget i steps' s' ps) next follows)),
)
  where
    get_index : List ℕ → ℕ → ℕ
    get_index xs i = get_or xs i 0

-- the processor that is picked from those that go on
pub pick_step : (r : OriginalRun) (k p : ℕ) → IsRunning r → k < length r.live.items → p ≡ get_or r.live.items k 0 → IsLive (original_of r.machine).nodes r.budget (steps_of r) (state_of r.machine) p
pick_step r k p running within at = is_live (original_of r.machine) r.budget (steps_of r) (state_of r.machine) r.live.items k p running.live within at

pub few_picked : (r : OriginalRun) → IsRunning r → length r.live.items ≤ 16
few_picked r running =
    let few = few_live (original_of r.machine) r.budget (steps_of r) (state_of r.machine) r.live.items running.live in
    let most = running.few in
    let nodes = running.nodes in
    omega (arith, few, most, nodes)

-- what is known of a processor's count of steps
pub record IsCounted (r : OriginalRun) (p v : ℕ) : Type 0 where
  pub inside : p < length r.steps.items
  pub known : p < (original_of r.machine).nodes
  pub runs : ((state_of r.machine).processors p).exit ≡ None
  pub most : v < r.budget
  pub more : slice_index (set r.steps.items p (v + 1)) ≡ one_more (steps_of r) p

pub is_counted : (r : OriginalRun) (k p v : ℕ) → IsRunning r → k < length r.live.items → p ≡ get_or r.live.items k p → v ≡ get_or r.steps.items p v → IsCounted r p v
is_counted r k p v running within at read =
    let l = pick_step r k p running within (get_or_read r.live.items k p within at 0) in
    let among = l.among in
    let len = running.steps in
    let nodes = running.nodes in
    let inside : p < length r.steps.items = omega (arith, among, len, nodes) in
    let value = get_or_read r.steps.items p v inside read 0 in
    let below = l.below in
    record {
      inside = inside;
      known = among;
      runs = l.runs;
      most = omega (arith, value, below);
      more = counted r.steps.items p (v + 1) inside (ap (λ i. i + 1) value);
    }

-- a step from one run to the next, of the processor in a place of those that go on
pub record IsTurn (r : OriginalRun) (k : ℕ) (r' : OriginalRun) : Type 0 where
  pub running : IsRunning r
  pub within : k < length r.live.items
  pub state : state_of r'.machine ≡ (step (original_of r.machine) (state_of r.machine) (get_or r.live.items k 0)).state
  pub steps : steps_of r' ≡ one_more (steps_of r) (get_or r.live.items k 0)
  pub original : original_of r'.machine ≡ original_of r.machine
  pub budget : r'.budget ≡ r.budget

-- the steps left are fewer behind it
pub falls : (r : OriginalRun) (k : ℕ) (r' : OriginalRun) → IsTurn r k r' → steps_left (original_of r'.machine).nodes r'.budget (steps_of r') < steps_left (original_of r.machine).nodes r.budget (steps_of r)
falls r k r' turn =
    let l = pick_step r k _ turn.running turn.within refl in
    let nodes : (original_of r'.machine).nodes ≡ (original_of r.machine).nodes = ap (λ (o : Original). o.nodes) turn.original in
    rw (nodes, turn.budget) (fewer_left (original_of r.machine).nodes r.budget _ (steps_of r) (state_of r.machine) (steps_of r') l turn.steps)

-- what may follow a run, gives a run from the start on
abbrev pub Leads : OriginalRun → ℕ → OriginalRun → ℕ → Type 0
Leads first number r number' = (end : State) → HasRun r number' end → HasRun first number end

pub leads_on : (from : OriginalRun) (first : ℕ) (r : OriginalRun) (number k : ℕ) (r' : OriginalRun) (number' : ℕ) → IsTurn r k r' → k ≡ choice (length r.live.items) (following number) → number' ≡ following number → Leads from first r number → Leads from first r' number'
leads_on from first r number k r' number' turn chosen next so_far = λ end has.
    let o = original_of r.machine in
    let p = get_or r.live.items k 0 in
    let within = turn.within in
    let same_original = subst (λ (w : Original). FollowsOrder w r'.budget number' (steps_of r') (state_of r'.machine) has.picks) turn.original has.ordered in
    let same_budget = subst (λ b. FollowsOrder o b number' (steps_of r') (state_of r'.machine) has.picks) turn.budget same_original in
    let front = in_front o r.budget number number' p k (steps_of r) (state_of r.machine) (steps_of r') (state_of r'.machine) r.live.items
    (record { steps_are = turn.steps; state_is = turn.state }) turn.running.live (omega (arith, within)) chosen refl next has.picks same_budget in
    so_far end (record {
      picks = p ∷ has.picks;
      ordered = front;
      end_is = has.end_is ∙ ap (λ (w : Original). run w (state_of r'.machine) (map (λ q. Step q) has.picks)) turn.original
          ∙ ap (λ t. run o t (map (λ q. Step q) has.picks)) turn.state;
    })

pub one_end : (budget : ℕ) (s : State) (ends more : List End) (p : ℕ) (exit : Option Exit) (e : End) → ends ≡ ends_by budget s p → exit ≡ (s.processors p).exit → e ≡ end_by budget exit → more ≡ ends ++ e ∷ [] → more ≡ ends_by budget s (p + 1)
one_end budget s ends more p exit e so_far is end pushed =
    pushed ∙ ap (λ (xs : List End). xs ++ e ∷ []) so_far ∙ ap (λ (x : End). ends_by budget s p ++ x ∷ []) (end ∙ ap (end_by budget) is)
    ∙ sym (map-range_with_len_more (λ q. end_by budget (s.processors q).exit) 0 p p (omega arith))

-- a run at the start
pub record IsStart (o : Original) (b : ℕ) (r : OriginalRun) : Type 0 where
  pub state : state_of r.machine ≡ opening o
  pub steps : steps_of r ≡ (λ p. 0)
  pub original : original_of r.machine ≡ o
  pub budget : r.budget ≡ b

-- a whole run from the start is one by the order
pub by_order : (o : Original) (budget number : ℕ) (r : OriginalRun) (end : State) (output : List ℕ) (ends : List End) → IsStart o budget r → HasRun r number end → output ≡ end.output → ends ≡ ends_by budget end o.nodes → IsRunByOrder o budget number output ends
by_order o budget number r end output ends start whole output_is ends_are =
    let picks = whole.picks in
    let same_original = subst (λ (w : Original). FollowsOrder w r.budget number (steps_of r) (state_of r.machine) picks) start.original whole.ordered in
    let same_budget = subst (λ b. FollowsOrder o b number (steps_of r) (state_of r.machine) picks) start.budget same_original in
    let same_steps = subst (λ (m : ℕ → ℕ). FollowsOrder o budget number m (state_of r.machine) picks) start.steps same_budget in
    let follows = subst (λ t. FollowsOrder o budget number (λ p. 0) t picks) start.state same_steps in
    let is : end ≡ state_after o picks =
    whole.end_is ∙ ap (λ (w : Original). run w (state_of r.machine) (map (λ p. Step p) picks)) start.original ∙ ap (λ t. run o t (map (λ p. Step p) picks)) start.state in
    record {
      picks = picks;
      ordered = follows;
      output_is = output_is ∙ ap (λ (t : State). t.output) is;
      ends_are = ends_are ∙ ap (λ t. ends_by budget t o.nodes) is;
    }

pub same_live : (budget : ℕ) (steps : ℕ → ℕ) (s : State) (o o' : Original) → o ≡ o' → live o budget steps s ≡ live o' budget steps s
same_live budget steps s o o' same = ap (λ (w : Original). live w budget steps s) same

-- what is known of the processor in a place of those that go on
pub record IsKnown (r : OriginalRun) (p : ℕ) : Type 0 where
  pub inside : p < length r.steps.items
  pub known : p < (original_of r.machine).nodes
  pub runs : ((state_of r.machine).processors p).exit ≡ None

pub known_of : (r : OriginalRun) (k p : ℕ) → IsRunning r → k < length r.live.items → p ≡ get_or r.live.items k p → IsKnown r p
known_of r k p running within at =
    let l = pick_step r k p running within (get_or_read r.live.items k p within at 0) in
    let among = l.among in
    let len = running.steps in
    let nodes = running.nodes in
    record { inside = omega (arith, among, len, nodes); known = among; runs = l.runs }

-- two facts of a result give a third
pub if_ok_both : {A E : Type 0} (result : Result A E) (P Q R : A → Type 0)
    → ((x : A) → P x → Q x → R x) → IfOk result P → IfOk result Q → IfOk result R
if_ok_both (Ok x) P Q R give p q = give x p q
if_ok_both (Err e) P Q R give p q = tt
