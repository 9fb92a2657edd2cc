-- What the commands of `monitor` tell.
use Rattle.std.specs.Prelude.{◌≡◌, ℕ, ◌-◌, ◌==◌, if◌then◌else◌, List, ◌++◌, length, Option, None, bytes_eq, codes}
use Rattle.std.specs.Fmt.{decimal}
use Rattle.gdb_session.specs.declared.target.Stop.{Stop}
use Rattle.one_memory.specs.declared.Pick.{Pick}
use Rattle.time_machine.specs.Stand.{Stand, state_at}
use Rattle.debugged_run.specs.Motions.{mover_at}

-- whose pick was the last that was made, if one was
abbrev pub last_text : List Pick → (position : ℕ) → List ℕ
last_text picks position =
    if position == 0 then codes "\n"
    else codes ", the last of processor " ++ (decimal (mover_at picks (position - 1)) ++ codes "\n")

-- how many of the run's picks have been made
abbrev pub where_text : List Pick → (position : ℕ) → List ℕ
where_text picks position =
    codes "after " ++ (decimal position ++ (codes " of " ++ (decimal (length picks)
    ++ (codes " picks" ++ last_text picks position))))

unfoldable pub unknown_text : List ℕ
unknown_text = codes "no such command; there are where and output\n"

-- where the run stands, or what it has printed up to there
abbrev pub told_of : Stand → (command : List ℕ) → List ℕ
told_of s command =
    if bytes_eq command (codes "where") then where_text s.run.picks s.position
    else if bytes_eq command (codes "output") then (state_at s.run s.position).output
    else unknown_text

-- a command leaves the run where it stands
abbrev pub Tells : Stand → (command told : List ℕ) → Option Stop → Stand → Type 0
Tells s command told stop t = (told ≡ told_of s command) × (stop ≡ None) × (t ≡ s)
