use Rattle.std.proofs.Common.{sym, ◌∙◌, arith}
use Rattle.lossy_link.proofs.Places.{first_held, sound_moved}
use Rattle.lossy_link.proofs.receiver.Receiver.deliver.Goals as goal

pub overflow_add-self : goal.overflow_add-self
overflow_add-self g c =
    let first = first_held _ _ _ c.self.invariant.window.0 c.index_mut.ensures.value
    (sym c.take.ensures.value ∙ c.in_ok-item.was) in
    let small = c.self.invariant.counted 0 _ first in omega arith

pub invariant_of-self-2 : goal.invariant_of-self-2
invariant_of-self-2 g c =
    sound_moved _ _ _ _ c.self.invariant c.take.ensures.after c.rotate_left.ensures.items
