-- A take that is traced makes the law's break: before it and after it the node's reservation is
-- the processor's on one memory.
use Rattle.std.proofs.Common.{◌≡◌, ℕ, Bool, true, false, List, [], ◌∷◌, Option, Some, None, refl, sym, ap, ◌∙◌, subst, inl, inr}
use Rattle.std.specs.Prelude.{is_some, if◌then◌else◌}
use Rattle.std.specs.Option.{option_map}
use Rattle.std.proofs.lemmas.Bool.{cases_Bool}
use Rattle.std.proofs.lemmas.Bool.Decides.{eqb_tells}
use Rattle.block_layout.specs.Layout.{Shape, has_line}
use Rattle.block_layout.specs.Update.{changed}
use Rattle.rv32_program.specs.Program.{line_of}
use Rattle.rv32_step.specs.OneMemory.{Original, State, Pick, Break, run}
use Rattle.rv32_step.specs.Reservations.{with_reservation}
use Rattle.home_directory.specs.dsm_messages.declared.messages.Message.{Message}
use Rattle.home_directory.specs.dsm_messages.declared.messages.Message.TheVariants.{Read, Write, FwdRead, FwdWrite, Inval, Data, Grant, Ack, Done, Bye}
use Rattle.home_directory.specs.dsm_messages.Headers.{header_of}
use Rattle.run_trace.specs.node_model.miss_handlers.Rows.{Row, taker_in, clears}
use Rattle.run_trace.specs.node_model.Turns.{Turn, with_byes}
use Rattle.run_trace.specs.replay.rewriting_law.CoreRun.{Order, order_by, break_by}
use Rattle.run_trace.specs.Traced.{stops}
use Rattle.record_picks.specs.Seen.{break_for}

-- the message of an order names the node for which it is
order_names : (taker : Option ℕ) (row : Option Row) (order : Order) → order_by taker row ≡ Some order → taker ≡ Some order.requester
order_names None row order is = absurd (cc)
order_names (Some r) None order is = absurd (cc)
order_names (Some r) (Some row) order is = elim (cases_Bool (clears row)) [
  | inl e ↦ ap (option_map (λ (x : Order). x.requester)) (rw e at is)
  | inr e ↦ absurd (let x = rw e at is in cc)
]

taker_named : (m : Message) (r : ℕ) → taker_in m ≡ Some r → (header_of m).requester ≡ Some r
taker_named (Read b buf) r is = absurd (cc)
taker_named (Write b buf) r is = absurd (cc)
taker_named (FwdRead b q buf) r is = absurd (cc)
taker_named (FwdWrite b q k buf) r is = is
taker_named (Inval b q) r is = is
taker_named (Data b k buf) r is = absurd (cc)
taker_named (Grant b k buf) r is = absurd (cc)
taker_named (Ack b) r is = absurd (cc)
taker_named (Done b) r is = absurd (cc)
taker_named Bye r is = absurd (cc)

pub named : (m : Message) (row : Option Row) (order : Order) → order_by (taker_in m) row ≡ Some order → (header_of m).requester ≡ Some order.requester
named m row order is = taker_named m order.requester (order_names (taker_in m) row order is)

-- what is seen of a take: of the node's reservation before and after it, and of the message
abbrev pub seen : (i : ℕ) → (before after : Option ℕ) → (requester : Option ℕ) → List Pick
seen i before after requester = if stops (is_some before) (is_some after) then break_for i requester else []

none_seen : (i : ℕ) (before after requester : Option ℕ) → after ≡ before → seen i before after requester ≡ []
none_seen i None after requester same = refl
none_seen i (Some a) after requester same = rw same refl

no_reservation : (held : ℕ → Option ℕ) (i : ℕ) → with_reservation held i None i ≡ None
no_reservation held i = elim (eqb_tells i i) [ inl e ↦ rw e.0 refl | inr e ↦ absurd (e.1 refl) ]

gone_seen : (i a r : ℕ) (after requester : Option ℕ) → after ≡ None → requester ≡ Some r → seen i (Some a) after requester ≡ Break i r ∷ []
gone_seen i a r after requester gone names =
    subst (λ (now : Option ℕ). seen i (Some a) now requester ≡ Break i r ∷ []) (sym gone)
    (subst (λ (named : Option ℕ). break_for i named ≡ Break i r ∷ []) (sym names) refl)

-- the reserved address is in the block that is taken away, or isn't
lies_seen : (o : Original) (s : State) (i a r : ℕ) (after requester : Option ℕ) (lies : Bool) → Some a ≡ s.reservations i → after ≡ (run o s (if lies then Break i r ∷ [] else [])).reservations i → requester ≡ Some r → seen i (Some a) after requester ≡ (if lies then Break i r ∷ [] else [])
lies_seen o s i a r after requester true here there names =
    gone_seen i a r after requester (there ∙ no_reservation s.reservations i) names
lies_seen o s i a r after requester false here there names =
    none_seen i (Some a) after requester (there ∙ sym here)

pub break_made : (o : Original) (s : State) (layout : Shape) (i : ℕ) (order : Option Order) (before after requester : Option ℕ) → before ≡ s.reservations i → after ≡ (run o s (break_by layout i order before)).reservations i → ((x : Order) → order ≡ Some x → requester ≡ Some x.requester) → seen i before after requester ≡ break_by layout i order before
break_made o s layout i None before after requester here there names =
    none_seen i before after requester (there ∙ sym here)
break_made o s layout i (Some order) None after requester here there names = refl
break_made o s layout i (Some order) (Some a) after requester here there names =
    lies_seen o s i a order.requester after requester (has_line layout order.block (line_of a)) here there (names order refl)

pub same_turn : (n : ℕ) (t : Turn) (b : Bool) → (with_byes n t b).node ≡ t.node
same_turn n t true = refl
same_turn n t false = refl

pub changed_there : {A : Type 0} (f : ℕ → A) (i : ℕ) (x : A) → changed f i x i ≡ x
changed_there f i x = elim (eqb_tells i i) [ inl e ↦ rw e.0 refl | inr e ↦ absurd (e.1 refl) ]
