-- The events that a page shows.
use Rattle.std.specs.Prelude.{ℕ, List, [], ◌∷◌, take, drop, Option, Some, None}
use Rattle.event_text.specs.run_trace.Traced.{Traced}

-- events, and the stamp of the one after them, if there is one
pub record Kept : Type 0 where
  pub events : List Traced
  pub behind : Option ℕ

abbrev pub first_stamp : List Traced → Option ℕ
first_stamp [] = None
first_stamp (x ∷ xs) = Some x.stamp

-- of these a page shows the first 400
abbrev pub kept : List Traced → Kept
kept seen = record { events = take 400 seen; behind = first_stamp (drop 400 seen) }
