-- A walk, one event after another.
use Rattle.std.proofs.Common.{◌≡◌, ℕ, ◌+◌, ◌≤◌, List, [], ◌∷◌, ◌++◌, Option, Some, None, length, take, refl, sym, ap, ◌∙◌, arith, append-nil}
use mir.Val.{bool_byte}
use Rattle.std.proofs.lemmas.Grind.{flat_map-append}
use Rattle.std.proofs.lemmas.List.{length-append, take-append-le, take-append-drop}
use Rattle.std.specs.Prelude.{drop, is_some}
use Rattle.std.specs.Option.{option_map, option_to_list}
use Rattle.rv32_step.specs.OneMemory.{Pick}
use Rattle.debugged_run.specs.one_memory.declared.Pick.{Pick as Pushed}
use Rattle.debugged_run.specs.one_memory.Shown.{pick_of}
use Rattle.event_text.specs.run_trace.Traced.{Traced}
use Rattle.record_picks.specs.Seen.{picks_seen, all_seen}
use Rattle.recorded_run.specs.declared.walk.LastEvent.{LastEvent}
use Rattle.recorded_run.specs.Shown.{AreFewest, last_of, last_or, name_of, picks_made}

-- picks of some events and of more
pub picks_both : (xs ys : List Traced) → picks_made (xs ++ ys) ≡ picks_made xs + picks_made ys
picks_both xs ys = ap length (flat_map-append picks_seen xs ys) ∙ length-append (all_seen xs) (all_seen ys)

pub picks_more : (seen : List Traced) (x : Traced) → picks_made (seen ++ x ∷ []) ≡ picks_made seen + length (picks_seen x)
picks_more seen x =
    picks_both seen (x ∷ []) ∙ ap (λ (l : List Pick). picks_made seen + length l) (append-nil (picks_seen x))

-- of one event
pub pick_count : (o : Option Pushed) (l : List Pick) → option_to_list (option_map pick_of o) ≡ l → length l ≡ bool_byte (is_some o)
pick_count None l is = ap length (sym is)
pick_count (Some p) l is = ap length (sym is)

-- the last event
last_behind : (last : Option LastEvent) (seen : List Traced) (x : Traced) → last_or last (seen ++ x ∷ []) ≡ Some (name_of x)
last_behind last [] x = refl
last_behind last (y ∷ seen) x = last_behind (Some (name_of y)) seen x

pub last_more : (seen : List Traced) (x : Traced) → last_of (seen ++ x ∷ []) ≡ Some (name_of x)
last_more seen x = last_behind None seen x

-- a part of the events makes no more picks
pub part_makes : (m : ℕ) (xs : List Traced) → picks_made (take m xs) ≤ picks_made xs
part_makes m xs =
    let both : picks_made xs ≡ picks_made (take m xs) + picks_made (drop m xs) =
    ap picks_made (sym (take-append-drop m xs)) ∙ picks_both (take m xs) (drop m xs) in
    omega (arith, both)

-- no event
pub fewest_none : AreFewest 0 []
fewest_none = record { makes = refl; fewest = λ m low. absurd (omega (arith, low)) }

-- an event that makes a pick is the last of the fewest
pub fewest_more : (seen : List Traced) (x : Traced) (k : ℕ) → picks_made seen ≡ k → length (picks_seen x) ≡ 1 → AreFewest (k + 1) (seen ++ x ∷ [])
fewest_more seen x k makes one = record {
  makes = picks_more seen x ∙ ap (λ (n : ℕ). picks_made seen + n) one ∙ ap (λ (n : ℕ). n + 1) makes;
  fewest = λ m low.
      let long : length (seen ++ x ∷ []) ≡ length seen + 1 = length-append seen (x ∷ []) in
      let few : m ≤ length seen = omega (arith, low, long) in
      let same : picks_made (take m (seen ++ x ∷ [])) ≡ picks_made (take m seen) =
      ap picks_made (take-append-le m seen (x ∷ []) few) in
      let part = part_makes m seen in
      omega (arith, same, part, makes);
}
