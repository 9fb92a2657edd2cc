-- What becomes of reservations.
use Rattle.std.proofs.Common.{◌≡◌, ◌≢◌, ℕ, ◌/◌, Bool, true, false, Option, Some, None, refl, sym, ap, ◌∙◌, subst, inl, inr}
use Rattle.std.specs.Prelude.{◌⊎◌, if◌then◌else◌}
use Rattle.std.specs.Option.{option_map_or}
use Rattle.std.proofs.lemmas.Bool.{cases_Bool}
use Rattle.std.proofs.lemmas.Bool.Decides.{eqb_tells}
use Rattle.rv32_decode.specs.declared.Width.TheVariants.{Word}
use Rattle.block_layout.specs.Layout.{Shape, block_of, has_line}
use Rattle.llsc.specs.Reservation.{holds, cleared}
use Rattle.rv32_program.specs.Program.{line_of}
use Rattle.rv32_step.specs.Registers.{put}
use Rattle.rv32_step.specs.Reservations.{after_store_by, after_other, with_reservation}
use Rattle.rv32_step.specs.declared.Demand.TheVariants.{StoresIf}
use Rattle.rv32_step.specs.OneMemory.{Original, State, Processor, StepResult, Request, Becomes, Prints, LoadsFrom, StoresTo, ReservesAt, StoresWhere, UpdatesAt, Pick, Step, Break, WritesIf, request, request_at, request_for, answer, step, after_pick, shared_stored, with_store, after_conditional, with_conditional}
use Rattle.one_memory.specs.Reserving.{IsAtConditional, StoresExactly, IsInBlockOf, Replaces, ReplacesBy}

-- a reservation after another's store
after_block : (layout : Shape) (a : ℕ) (held : Option ℕ) (block : Option ℕ) → block_of layout (line_of a) ≡ block → (option_map_or (λ b. cleared layout b held) block held ≡ held) ⊎ IsInBlockOf layout a held
after_block layout a held None is = inl refl
after_block layout a None (Some b) is = inl refl
after_block layout a (Some x) (Some b) is = elim (cases_Bool (has_line layout b (x / 64))) [
  | inl e ↦ inr (record { reserved = x; has = refl; block = b; lies = is; line = e })
  | inr e ↦ inl (ap (λ (t : Bool). if t then None else Some x) e)
]

after_stored : (layout : Shape) (a p q : ℕ) (held : ℕ → Option ℕ) → (after_store_by layout q a held p ≡ held p) ⊎ ((p ≢ q) × IsInBlockOf layout a (held p))
after_stored layout a p q held = elim (eqb_tells p q) [
  | inl e ↦ inl (ap (λ (t : Bool). if t then held p else after_other layout a (held p)) e.0)
  | inr e ↦ elim (after_block layout a (held p) (block_of layout (line_of a)) refl) [
    | inl same ↦ inl (ap (λ (t : Bool). if t then held p else after_other layout a (held p)) e.0 ∙ same)
    | inr in_block ↦ inr (e.1, in_block)
  ]
]

replaced : (held : ℕ → Option ℕ) (p q : ℕ) (new : Option ℕ) → (with_reservation held q new p ≡ held p) ⊎ (p ≡ q)
replaced held p q new = elim (eqb_tells p q) [
  | inl e ↦ inr e.1
  | inr e ↦ inl (ap (λ (t : Bool). if t then new else held p) e.0)
]

conditional : (o : Original) (s : State) (p q a v : ℕ) (x : Processor) (reserved : Bool) → (with_reservation (if reserved then with_store o s q x Word a v else s).reservations q None p ≡ s.reservations p) ⊎ ((p ≡ q) ⊎ ((reserved ≡ true) × IsInBlockOf o.layout a (s.reservations p)))
conditional o s p q a v x false = elim (replaced s.reservations p q None) [ inl e ↦ inl e | inr e ↦ inr (inl e) ]
conditional o s p q a v x true = elim (replaced (after_store_by o.layout q a s.reservations) p q None) [
  | inr e ↦ inr (inl e)
  | inl e ↦ elim (after_stored o.layout a p q s.reservations) [
    | inl same ↦ inl (e ∙ same)
    | inr other ↦ inr (inr (refl, other.1))
  ]
]

answered : (o : Original) (s : State) (p q : ℕ) (x : Processor) (a : Request) → ((answer o s q x a).state.reservations p ≡ s.reservations p) ⊎ Replaces o.layout s.reservations p q a
answered o s p q x (Becomes y) = inl refl
answered o s p q x (Prints a) = inl refl
answered o s p q x (LoadsFrom k r a) = inl refl
answered o s p q x (StoresTo w a v) = after_stored o.layout a p q s.reservations
answered o s p q x (ReservesAt r a) = replaced s.reservations p q (Some a)
answered o s p q x (StoresWhere r a v) = conditional o s p q a v _ (holds (s.reservations q) a)
answered o s p q x (UpdatesAt f r a v) = after_stored o.layout a p q s.reservations

pub stays : (o : Original) (s : State) (k : Pick) (p : ℕ) → ((after_pick o s k).reservations p ≡ s.reservations p) ⊎ ReplacesBy o s p k
stays o s (Step q) p = answered o s p q (s.processors q) (request o.program (s.processors q))
stays o s (Break r q) p = replaced s.reservations p r None

-- a conditional store
abbrev Exactly : Original → State → ℕ → ℕ → ℕ → ℕ → StepResult → Bool → Type 0
Exactly o s p r a v result reserved =
    (result.access ≡ WritesIf a v reserved)
    × (result.state.shared ≡ (if reserved then shared_stored o.program s Word a v else s.shared))
    × ((result.state.processors p).registers ≡ put (s.processors p).registers r (if reserved then 0 else 1))

abbrev result_by : Original → State → ℕ → ℕ → ℕ → ℕ → Bool → StepResult
result_by o s p r a v reserved = record (answer o s p (s.processors p) (StoresWhere r a v)) {
  state = with_conditional o s p (after_conditional o.program (s.processors p) r a v reserved) a v reserved;
  access = WritesIf a v reserved;
}

by_case : (o : Original) (s : State) (p r a v : ℕ) (reserved : Bool) → Exactly o s p r a v (result_by o s p r a v reserved) reserved
by_case o s p r a v true = (refl, refl, elim (eqb_tells p p) [ inl e ↦ rw e.0 refl | inr e ↦ absurd (e.1 refl) ])
by_case o s p r a v false = (refl, refl, elim (eqb_tells p p) [ inl e ↦ rw e.0 refl | inr e ↦ absurd (e.1 refl) ])

asked : (o : Original) (s : State) (p r a v : ℕ) → IsAtConditional o s p r a v → request o.program (s.processors p) ≡ StoresWhere r a v
asked o s p r a v h =
    let q = s.processors p in
    ap (request_at o.program q) h.here ∙ ap (request_for o.program q) h.demands ∙ judged
  where
    judged : request_for o.program (s.processors p) (StoresIf r a v) ≡ StoresWhere r a v
    judged = rw (h.aligned, h.writable) refl

pub stores_exactly : (o : Original) (s : State) (p r a v : ℕ) → IsAtConditional o s p r a v → StoresExactly o s p r a v (holds (s.reservations p) a)
stores_exactly o s p r a v h =
    let is = by_case o s p r a v (holds (s.reservations p) a) in
    let moved : Exactly o s p r a v (step o s p) (holds (s.reservations p) a) =
    subst (λ (x : Request). Exactly o s p r a v (answer o s p (s.processors p) x) (holds (s.reservations p) a)) (sym (asked o s p r a v h)) is in
    record { access = moved.0; shared = moved.1; result = moved.2 }
