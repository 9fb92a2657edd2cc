-- What `err` is told.
use Rattle.std.specs.Prelude.{◌≡◌, ℕ, ◌⊎◌, List}
use Rattle.dsm_io.specs.Causes.{Rose, Appends, AppendsPrefix}
use Rattle.dsm_io.specs.States.{SinkState}

-- the sink took the line; or a prefix of it, where it failed; or nothing, where it was out of
-- memory
abbrev pub Tells : SinkState → SinkState → List ℕ → Type 0
Tells before now line =
    Appends before.taken now.taken line
    ⊎ ((AppendsPrefix before.taken now.taken line × Rose before.faults now.faults)
    ⊎ ((now.taken ≡ before.taken) × Rose before.refusals now.refusals))
