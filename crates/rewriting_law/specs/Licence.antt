-- What a node may access, by the state bytes of its lines.
use Rattle.std.specs.Prelude.{◌≡◌, true, List, [], ◌∷◌}
use Rattle.rv32_program.specs.Program.{line_of}
use Rattle.rv32_step.specs.OneMemory.{Access, Nothing, Reads, Writes, WritesIf, Exchanges}
use Rattle.templates.specs.declared.plans.PlanEntry.{PlanEntry}
use Rattle.dsm_protocol.specs.node_model.Node.{Work, NodeMemory, is_readable_state, is_writable_state, word_outcome}
use Rattle.dsm_protocol.specs.node_model.Core.{Core, Event, Exec, Take, event_step}
use Rattle.rewriting_law.specs.CoreRun.{commits}

-- the access is licensed: its line is readable, or, where a store is done, writable
abbrev pub Licensed : NodeMemory → Access → Type 0
Licensed n Nothing = Unit {0}
Licensed n (Reads kind a value) = is_readable_state (n.state (line_of a)) ≡ true
Licensed n (Writes width a value) = is_writable_state (n.state (line_of a)) ≡ true
Licensed n (WritesIf a value reserved) =
    reserved ≡ true → is_writable_state (n.state (line_of a)) ≡ true
Licensed n (Exchanges a old new) = is_writable_state (n.state (line_of a)) ≡ true

-- a word that commits makes a licensed access, by the node as it stands before the word
abbrev pub IsLicensed : Work → List PlanEntry → Core → Event → Type 0
IsLicensed work plan c (Exec i) =
    commits work plan (c.nodes i) ≡ true
    → Licensed (c.nodes i).local (word_outcome work (c.nodes i)).access
IsLicensed work plan c (Take i j) = Unit {0}

-- so does each word of a core run that commits
abbrev pub AllLicensed : Work → List PlanEntry → Core → List Event → Type 0
AllLicensed work plan c [] = Unit {0}
AllLicensed work plan c (e ∷ es) =
    IsLicensed work plan c e × AllLicensed work plan (event_step work c e) es
