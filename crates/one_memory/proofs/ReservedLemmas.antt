-- Reservations as a list, one after another.
use Rattle.std.proofs.Common.{◌≡◌, ◌≢◌, ℕ, ◌+◌, ◌<◌, ◌≤◌, ◌||◌, Bool, true, false, List, length, set, Option, Some, None, refl, sym, ap, ◌∙◌, arith, inl, inr}
use Rattle.std.specs.Prelude.{is_some, if◌then◌else◌, ◌==◌}
use Rattle.std.specs.Option.{option_map_or}
use Rattle.std.proofs.Math.Path.{fun_ext}
use Rattle.std.proofs.lemmas.Bool.{cases_lt}
use Rattle.std.proofs.lemmas.Bool.Decides.{eqb_tells}
use Rattle.std.proofs.lemmas.List.{length-set, get_or-set_same, get_or-set_other, get_or_past}
use Rattle.block_layout.specs.Layout.{Shape, block_of}
use Rattle.llsc.specs.Reservation.{cleared}
use Rattle.rv32_program.specs.Program.{line_of}
use Rattle.rv32_step.specs.Reservations.{after_other, after_store_by}
use Rattle.one_memory.specs.Machine.{reserved_in}

reserved_same : (xs : List (Option ℕ)) (i : ℕ) (y : Option ℕ) → i < length xs → reserved_in (set xs i y) i ≡ y
reserved_same xs i y h = get_or-set_same xs i y None h

reserved_other : (xs : List (Option ℕ)) (i j : ℕ) (y : Option ℕ) → j ≢ i → reserved_in (set xs i y) j ≡ reserved_in xs j
reserved_other xs i j y h = get_or-set_other xs i j y None h

-- those before q have been judged, and the rest stand as they stood
pub record AreEnded (layout : Shape) (p a : ℕ) (old now : List (Option ℕ)) (q : ℕ) (any : Bool) : Type 0 where
  pub len : length now ≡ 16
  pub done : (r : ℕ) → r < q → reserved_in now r ≡ after_store_by layout p a (reserved_in old) r
  pub left : (r : ℕ) → q ≤ r → reserved_in now r ≡ reserved_in old r
  pub none : any ≡ false → (r : ℕ) → r < q → reserved_in now r ≡ None

pub ended_first : (layout : Shape) (p a : ℕ) (old : List (Option ℕ)) → length old ≡ 16 → AreEnded layout p a old old 0 false
ended_first layout p a old len = record {
  len = len;
  done = λ r lt. absurd (omega (arith, lt));
  left = λ r le. refl;
  none = λ is r lt. absurd (omega (arith, lt));
}

neither : (a b : Bool) → (a || b) ≡ false → (a ≡ false) × (b ≡ false)
neither true b h = absurd (cc)
neither false b h = (refl, h)

not_some : (o : Option ℕ) → is_some o ≡ false → o ≡ None
not_some None h = refl
not_some (Some x) h = absurd (cc)

pub ended_next : (layout : Shape) (p a : ℕ) (old now : List (Option ℕ)) (q : ℕ) (any : Bool) (was new : Option ℕ) → AreEnded layout p a old now q any → q < 16 → was ≡ reserved_in now q → new ≡ (if q == p then was else after_other layout a was) → AreEnded layout p a old (set now q new) (q + 1) (any || is_some new)
ended_next layout p a old now q any was new h within is new_is =
    let before : was ≡ reserved_in old q = is ∙ h.left q (omega arith) in
    let here : new ≡ after_store_by layout p a (reserved_in old) q = new_is ∙ ap (λ o. if q == p then o else after_other layout a o) before in
    record {
      len = length-set now q new ∙ h.len;
      done = λ r lt. elim (eqb_tells r q) [
        | inl e ↦ ap (reserved_in (set now q new)) e.1 ∙ reserved_same now q new (let len = h.len in omega (arith, within, len)) ∙ here ∙ ap (after_store_by layout p a (reserved_in old)) (sym e.1)
        | inr e ↦ reserved_other now q r new e.1 ∙ h.done r (let ne = e.1 in omega (arith, lt, ne))
      ];
      left = λ r le. reserved_other now q r new (λ e. omega (arith, le, e)) ∙ h.left r (omega (arith, le));
      none = λ off r lt. let two = neither any (is_some new) off in elim (eqb_tells r q) [
        | inl e ↦ ap (reserved_in (set now q new)) e.1 ∙ reserved_same now q new (let len = h.len in omega (arith, within, len)) ∙ not_some new two.1
        | inr e ↦ reserved_other now q r new e.1 ∙ h.none two.0 r (let ne = e.1 in omega (arith, lt, ne))
      ];
    }

past_none : (xs : List (Option ℕ)) (r : ℕ) → length xs ≤ r → reserved_in xs r ≡ None
past_none xs r past = get_or_past xs r None past

other_none : (layout : Shape) (a : ℕ) (b : Option ℕ) → option_map_or (λ c. cleared layout c None) b None ≡ None
other_none layout a None = refl
other_none layout a (Some b) = refl

after_none : (layout : Shape) (p a : ℕ) (held : ℕ → Option ℕ) (r : ℕ) → held r ≡ None → after_store_by layout p a held r ≡ None
after_none layout p a held r is = elim (eqb_tells r p) [
  | inl e ↦ rw e.0 is
  | inr e ↦ rw (e.0, is) (other_none layout a (block_of layout (line_of a)))
]

pub ended_all : (layout : Shape) (p a : ℕ) (old now : List (Option ℕ)) (any : Bool) (q : ℕ) → AreEnded layout p a old now q any → length old ≡ 16 → 16 ≤ q → q ≤ 16 → reserved_in now ≡ after_store_by layout p a (reserved_in old)
ended_all layout p a old now any q h len from to = fun_ext (λ r. elim (cases_lt r q) [
  | inl lt ↦ h.done r lt
  | inr ge ↦ past_none now r (let same = h.len in omega (arith, ge, from, same)) ∙ sym (after_none layout p a (reserved_in old) r (past_none old r (omega (arith, ge, from, len))))
])

pub none_left : (layout : Shape) (p a : ℕ) (old now : List (Option ℕ)) (any : Bool) (q : ℕ) → AreEnded layout p a old now q any → 16 ≤ q → any ≡ false → reserved_in now ≡ (λ r. None)
none_left layout p a old now any q h from off = fun_ext (λ r. elim (cases_lt r q) [
  | inl lt ↦ h.none off r lt
  | inr ge ↦ past_none now r (let same = h.len in omega (arith, ge, from, same))
])

pub or_then : (a b any : Bool) → any ≡ a → a ≡ true → any ≡ (a || b)
or_then true b any is on = is
or_then false b any is on = absurd (cc)

pub or_else : (a b any : Bool) → any ≡ b → a ≡ false → any ≡ (a || b)
or_else true b any is on = absurd (cc)
or_else false b any is on = is

-- where nobody has a reservation, none ends
pub none_ends : (layout : Shape) (p a : ℕ) (old : ℕ → Option ℕ) → old ≡ (λ r. None) → old ≡ after_store_by layout p a old
none_ends layout p a old none = fun_ext (λ r. let is = ap (λ (f : ℕ → Option ℕ). f r) none in is ∙ sym (after_none layout p a old r is))
