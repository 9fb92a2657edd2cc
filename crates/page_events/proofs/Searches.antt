-- The searches among the events of a page.
use Rattle.std.proofs.Common.{◌≡◌, ℕ, suc, ◌+◌, List, [], ◌∷◌, Bool, true, false, cond, Some, None, length, drop, filter, sym, ap, ◌∙◌, arith, ◌≤◌}
use Rattle.std.specs.List.{position_from}
use Rattle.std.proofs.lemmas.Iterator.Adapters.{position_from-zero}
use Rattle.event_text.specs.run_trace.Traced.{Traced}
use Rattle.page_events.specs.declared.sought.Sought.{Sought}
use Rattle.page_events.specs.Sought.{is_sought, row_of, count_of}

-- where rows are counted from the first
pub found_from : (events : List Traced) (s : Sought) → position_from (is_sought s) 0 events ≡ row_of events s
found_from events s = sym (position_from-zero (is_sought s) events)

-- the first event that is left is sought
pub found_here : (events rest : List Traced) (i row : ℕ) (x : Traced) (s : Sought) → drop i events ≡ x ∷ rest
    → is_sought s x ≡ true → position_from (is_sought s) row (drop i events) ≡ row_of events s
    → Some row ≡ row_of events s
found_here events rest i row x s left is found =
    sym (ap (position_from (is_sought s) row) left
    ∙ ap (λ b. cond b (Some row) (position_from (is_sought s) (row + 1) rest)) is) ∙ found

-- it isn't
pub found_later : (events rest : List Traced) (i row : ℕ) (x : Traced) (s : Sought) → drop i events ≡ x ∷ rest
    → is_sought s x ≡ false → position_from (is_sought s) row (drop i events) ≡ row_of events s
    → position_from (is_sought s) (row + 1) rest ≡ row_of events s
found_later events rest i row x s left other found =
    sym (ap (position_from (is_sought s) row) left
    ∙ ap (λ b. cond b (Some row) (position_from (is_sought s) (row + 1) rest)) other) ∙ found

-- none is left
pub found_none : (events : List Traced) (i row : ℕ) (s : Sought) → drop i events ≡ []
    → position_from (is_sought s) row (drop i events) ≡ row_of events s → None ≡ row_of events s
found_none events i row s none found = sym (ap (position_from (is_sought s) row) none) ∙ found

-- one more is counted, or none
pub counted : (events rest : List Traced) (i n : ℕ) (x : Traced) (s : Sought) → drop i events ≡ x ∷ rest
    → is_sought s x ≡ true → n + count_of (drop i events) s ≡ count_of events s
    → (n + 1) + count_of rest s ≡ count_of events s
counted events rest i n x s left is count =
    let all : count_of (drop i events) s ≡ suc (count_of rest s) =
    ap (λ l. count_of l s) left
    ∙ ap (λ b. length (cond b (x ∷ filter (is_sought s) rest) (filter (is_sought s) rest))) is in
    omega (arith, all, count)

pub not_counted : (events rest : List Traced) (i n : ℕ) (x : Traced) (s : Sought) → drop i events ≡ x ∷ rest
    → is_sought s x ≡ false → n + count_of (drop i events) s ≡ count_of events s
    → n + count_of rest s ≡ count_of events s
not_counted events rest i n x s left other count =
    let all : count_of (drop i events) s ≡ count_of rest s =
    ap (λ l. count_of l s) left
    ∙ ap (λ b. length (cond b (x ∷ filter (is_sought s) rest) (filter (is_sought s) rest))) other in
    omega (arith, all, count)

pub all_counted : (events : List Traced) (i n : ℕ) (s : Sought) → drop i events ≡ []
    → n + count_of (drop i events) s ≡ count_of events s → n ≡ count_of events s
all_counted events i n s none count =
    let all : count_of (drop i events) s ≡ 0 = ap (λ l. count_of l s) none in
    omega (arith, all, count)

-- by what was seen of the event
pub counts_on : (events rest : List Traced) (i n next : ℕ) (x : Traced) (s : Sought) (b : Bool)
    → drop i events ≡ x ∷ rest → b ≡ is_sought s x → next ≡ cond b (n + 1) n
    → n + count_of (drop i events) s ≡ count_of events s → next + count_of rest s ≡ count_of events s
counts_on events rest i n next x s true left is e count =
    let more = counted events rest i n x s left (sym is) count in omega (arith, more, e)
counts_on events rest i n next x s false left is e count =
    let same = not_counted events rest i n x s left (sym is) count in omega (arith, same, e)

pub grows : (b : Bool) (n next i : ℕ) → next ≡ cond b (n + 1) n → n ≤ i → next ≤ i + 1
grows true n next i e le = omega (arith, e, le)
grows false n next i e le = omega (arith, e, le)
