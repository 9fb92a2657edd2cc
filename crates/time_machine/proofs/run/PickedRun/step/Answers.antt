use Rattle.std.proofs.Common.{◌≡◌, length, refl, sym, ◌∙◌, subst, List}
use Rattle.std.specs.Prelude.{Some, slice_get}
use Rattle.std.proofs.lemmas.Bool.{ltb-true}
use Rattle.std.proofs.lemmas.Option.{slice_get_read}
use Rattle.one_memory.specs.Machine.{state_of, original_of}
use Rattle.one_memory.specs.declared.Pick.{Pick}
use Rattle.time_machine.specs.Stand.{Run}
use Rattle.time_machine.proofs.Picks.{allowed_here, step_here}
use Rattle.time_machine.proofs.run.PickedRun.step.Goals as goal

pub step_of-requires-clause-allowed : goal.step_of-requires-clause-allowed
step_of-requires-clause-allowed c =
    let i = c.self.inside in
    let k = c.args.k in
    let m = c.args.machine.now in
    let pick = c.in_ok-pick.field-0.now in
    let xs = c.deref.result.now in
    let r : Run = record { program = i.program.now; layout = i.layout.now; nodes = i.nodes; picks = i.picks.items } in
    let lookup = c.in_ok-pick.ensures.lookup in
    let get = slice_get_read xs (length xs) k pick refl (ltb-true k (length xs) (sym lookup.0)) lookup.1 in
    let there = subst (λ (ps : List Pick). slice_get ps k ≡ Some pick) c.deref.ensures.value get in
    let original = rw (← c.self.view_is) at c.requires.original in
    let state = rw (← c.self.view_is) at c.requires.state in
    allowed_here r k pick (original_of m) (state_of m) original state there c.self.invariant

pub returns : goal.returns
returns c =
    let i = c.self.inside in
    let k = c.args.k in
    let m = c.args.machine.now in
    let pick = c.in_ok-pick.field-0.now in
    let xs = c.deref.result.now in
    let r : Run = record { program = i.program.now; layout = i.layout.now; nodes = i.nodes; picks = i.picks.items } in
    let lookup = c.in_ok-pick.ensures.lookup in
    let get = slice_get_read xs (length xs) k pick refl (ltb-true k (length xs) (sym lookup.0)) lookup.1 in
    let there = subst (λ (ps : List Pick). slice_get ps k ≡ Some pick) c.deref.ensures.value get in
    let original = rw (← c.self.view_is) at c.requires.original in
    let state = rw (← c.self.view_is) at c.requires.state in
    rw (← c.self.view_is) (c.step_of.ensures ∙ step_here r k pick (original_of m) (state_of m) original state there)
