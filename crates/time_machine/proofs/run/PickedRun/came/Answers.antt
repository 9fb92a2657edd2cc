use Rattle.std.proofs.Common.{◌<◌, length, refl, ◌∙◌}
use Rattle.std.proofs.lemmas.Option.{slice_get_read}
use Rattle.one_memory.specs.Machine.{state_of, original_of}
use Rattle.time_machine.specs.Stand.{Run}
use Rattle.time_machine.proofs.Picks.{came_here, of_one_here}
use Rattle.time_machine.proofs.run.PickedRun.came.Goals as goal

pub came_by-requires : goal.came_by-requires
came_by-requires c =
    let i = c.self.inside in
    let k = c.args.k in
    let m = c.args.machine.now in
    let r : Run = record { program = i.program.now; layout = i.layout.now; nodes = i.nodes; picks = i.picks.items } in
    let there : k < length r.picks = rw (← c.self.view_is) at c.requires.there in
    let get = slice_get_read r.picks (length r.picks) k c.index.result.now refl there c.index.ensures in
    let original = rw (← c.self.view_is) at c.requires.original in
    let state = rw (← c.self.view_is) at c.requires.state in
    of_one_here r k c.index.result.now (original_of m) (state_of m) original state get c.self.invariant

pub returns : goal.returns
returns c =
    let i = c.self.inside in
    let k = c.args.k in
    let m = c.args.machine.now in
    let r : Run = record { program = i.program.now; layout = i.layout.now; nodes = i.nodes; picks = i.picks.items } in
    let there : k < length r.picks = rw (← c.self.view_is) at c.requires.there in
    let get = slice_get_read r.picks (length r.picks) k c.index.result.now refl there c.index.ensures in
    let original = rw (← c.self.view_is) at c.requires.original in
    let state = rw (← c.self.view_is) at c.requires.state in
    rw (← c.self.view_is) (c.came_by.ensures ∙ came_here r k c.index.result.now (original_of m) (state_of m) original state get)
