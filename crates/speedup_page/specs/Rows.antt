-- What a run on so many nodes took, and what is computed of it.
use Rattle.std.specs.Prelude.{ℕ, ◌+◌, ◌*◌, ◌/◌, ◌%◌, ◌^◌, ◌≤◌, max, List, ◌++◌, Option, None, Some, codes}
use Rattle.std.specs.Fmt.{decimal}
use Rattle.speedup_page.specs.declared.row.Trap.{Trap}
use Rattle.speedup_page.specs.declared.row.Trap.TheVariants as trap
use Rattle.speedup_page.specs.declared.row.Ended.{Ended}
use Rattle.speedup_page.specs.declared.row.Ended.TheVariants.{Whole, Trapped, Stopped}
use Rattle.speedup_page.specs.declared.row.Base.{Base}
use Rattle.speedup_page.specs.declared.row.Base.TheVariants as base
use Rattle.speedup_page.specs.declared.row.Row.{Row}
use Rattle.speedup_page.specs.declared.row.Shares.{Shares}

-- all that the nodes spent together
abbrev pub whole_of : Shares → ℕ
whole_of s = s.words + s.to_read + s.to_write + s.handling + s.idle

-- it isn't so much that a drawing has no room for it
abbrev pub IsFit : Row → Type 0
IsFit r = whole_of r.spent + r.steps ≤ 2 ^ 110

abbrev pub trap_name : Trap → List ℕ
trap_name trap.Ebreak = codes "ebreak"
trap_name trap.Illegal = codes "illegal"
trap_name trap.Misaligned = codes "misaligned"
trap_name trap.Access = codes "access"
trap_name trap.Fetch = codes "fetch"

-- how many steps the original makes, where it ends by its exit call
abbrev pub steps_of : Base → Option ℕ
steps_of (base.Steps steps) = Some steps
steps_of (base.Trapped t) = None
steps_of base.Stopped = None

-- of a run that ended whole
abbrev pub if_whole : Ended → ℕ → Option ℕ
if_whole Whole n = Some n
if_whole (Trapped t) n = None
if_whole Stopped n = None

-- THE SPEED-UP over the original on one processor, in hundredths: its steps for each unit of the
-- run's time, rounded down. There is one where all processors of both ended by the exit call.
abbrev pub speedup_of : (base : Option ℕ) → Row → Option ℕ
speedup_of None r = None
speedup_of (Some steps) r = if_whole r.ended (100 * steps / max r.time 1)

-- so many parts of the whole, where that has so many in all
abbrev pub share_of : (parts whole part : ℕ) → ℕ
share_of parts whole part = parts * part / max whole 1

-- a text, and a number after it
unfoldable pub numbered : List ℕ → ℕ → List ℕ
numbered text n = text ++ decimal n

-- hundredths as a number with two decimals
unfoldable pub hundredths_text : ℕ → List ℕ
hundredths_text n = decimal (n / 100) ++ (numbered (codes ".") (n / 10 % 10) ++ decimal (n % 10))
