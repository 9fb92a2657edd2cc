use Rattle.std.proofs.Common.{◌≡◌, ℕ, ◌+◌, ◌*◌, ◌^◌, ◌<◌, List, subst}
use Rattle.std.specs.Prelude.{slice_index}
use Rattle.block_layout.specs.Layout.{blocks, lines, first_line}
use Rattle.flag_memory.specs.Copy.{Copy, memory, bytes_of}
use Rattle.flag_memory.proofs.Places.{Laws, laws, memory_small}
use Rattle.flag_memory.proofs.Blocks.{block_byte}
use Rattle.flag_memory.proofs.copy.copy_law.Goals as goal

abbrev AreThose : Copy → Type 0
AreThose h = (b k : ℕ) → b < blocks h.layout → k < 64 * lines h.layout b
    → slice_index (bytes_of h b) k ≡ memory h (64 * first_line h.layout b + k)

pub returns-clause-bytes : goal.returns-clause-bytes
returns-clause-bytes c =
    let s = c.copy.inside.layout in
    let law = c.layout_law.ensures in
    let l : Laws s = laws s c.copy.invariant.valid law.within law.apart law.found law.has law.ends law.shared law.place law.count in
    subst AreThose c.copy.view_is (λ b k below within. block_byte s c.copy.inside.bytes.items b k l c.copy.invariant.len below within)

pub returns-clause-small : goal.returns-clause-small
returns-clause-small c a =
    let bytes = c.copy.inside.bytes.items in
    let each : (k : ℕ) → slice_index bytes k < 2 ^ 8 =
    subst (λ (xs : List ℕ). (k : ℕ) → slice_index xs k < 2 ^ 8) c.deref.ensures.value c.bytes_law.ensures.small in
    subst (λ (x : Copy). memory x a < 2 ^ 8) c.copy.view_is
    (memory_small (record { layout = c.copy.inside.layout; bytes = bytes }) a each)
