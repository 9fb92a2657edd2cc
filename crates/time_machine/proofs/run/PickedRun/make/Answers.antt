use Rattle.std.proofs.Common.{◌<◌, length, refl, ◌∙◌}
use Rattle.std.proofs.lemmas.Option.{slice_get_read}
use Rattle.std.proofs.lemmas.Result.{on_ok_weaker, on_err_weaker}
use Rattle.one_memory.specs.Machine.{state_of, original_of}
use Rattle.time_machine.specs.Stand.{Run}
use Rattle.time_machine.proofs.Picks.{allowed_here, made_here}
use Rattle.time_machine.proofs.run.PickedRun.make.Goals as goal

pub make_pick-requires : goal.make_pick-requires
make_pick-requires c =
    let i = c.self.inside in
    let k = c.args.k in
    let m = c.args.machine.now in
    let r : Run = record { program = i.program.now; layout = i.layout.now; nodes = i.nodes; picks = i.picks.items } in
    let there : k < length r.picks = rw (← c.self.view_is) at c.requires.there in
    let get = slice_get_read r.picks (length r.picks) k c.index.result.now refl there c.index.ensures in
    let original = rw (← c.self.view_is) at c.requires.original in
    let state = rw (← c.self.view_is) at c.requires.state in
    allowed_here r k c.index.result.now (original_of m) (state_of m) original state get c.self.invariant

pub returns-clause-original : goal.returns-clause-original
returns-clause-original c = c.make_pick.ensures.original ∙ c.requires.original

pub returns-clause-ok : goal.returns-clause-ok
returns-clause-ok c =
    let i = c.self.inside in
    let k = c.args.k in
    let m = c.args.machine.now in
    let r : Run = record { program = i.program.now; layout = i.layout.now; nodes = i.nodes; picks = i.picks.items } in
    let there : k < length r.picks = rw (← c.self.view_is) at c.requires.there in
    let get = slice_get_read r.picks (length r.picks) k c.index.result.now refl there c.index.ensures in
    let original = rw (← c.self.view_is) at c.requires.original in
    let state = rw (← c.self.view_is) at c.requires.state in
    let made = made_here r k c.index.result.now (original_of m) (state_of m) original state get in
    rw (← c.self.view_is) (on_ok_weaker c.make_pick.result (λ is. is ∙ made) c.make_pick.ensures.ok)

pub returns-clause-err : goal.returns-clause-err
returns-clause-err c = on_err_weaker c.make_pick.result (λ is. is ∙ c.requires.state) c.make_pick.ensures.err
