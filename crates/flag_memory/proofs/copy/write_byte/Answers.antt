use Rattle.std.proofs.Common.{◌≡◌, ℕ, ◌+◌, ◌*◌, ◌/◌, ◌%◌, ◌<◌, ◌∙◌, sym, ap, true, arith, length}
use Rattle.block_layout.specs.Layout.{is_shared, shared_before}
use Rattle.flag_memory.specs.Copy.{place}
use Rattle.flag_memory.proofs.Places.{Laws, laws, place_some, place_none, place_low}
use Rattle.flag_memory.proofs.Contents.{byte_on, byte_off}
use Rattle.flag_memory.proofs.copy.write_byte.Goals as goal

pub bounds-bytes-place : goal.bounds-bytes-place
bounds-bytes-place c =
    let s = c.args.layout.now in
    let law = c.layout_law.ensures in
    let l : Laws s = laws s c.blocks-blocks.ensures.valid law.within law.apart law.found law.has law.ends law.shared law.place law.count in
    let there : (is_shared s (c.args.address / 64) ≡ true) × (c.in-Some.place ≡ shared_before s (c.args.address / 64)) = place_some s (c.args.address / 64) c.in-Some.place (sym c.place_of.ensures ∙ c.in-Some.is) in
    let shared = there.0 in
    omega (arith, place_low s c.args.address l shared, there.1, c.requires)

pub returns-in-Some : goal.returns-in-Some
returns-in-Some c =
    let s = c.args.layout.now in
    let law = c.layout_law.ensures in
    let l : Laws s = laws s c.blocks-blocks.ensures.valid law.within law.apart law.found law.has law.ends law.shared law.place law.count in
    let there : (is_shared s (c.args.address / 64) ≡ true) × (c.in-Some.place ≡ shared_before s (c.args.address / 64)) = place_some s (c.args.address / 64) c.in-Some.place (sym c.place_of.ensures ∙ c.in-Some.is) in
    let shared = there.0 in
    let at : ℕ = 64 * c.in-Some.place + c.args.address % 64 in
    let is : 64 * c.in-Some.place + c.args.address % 64 ≡ place s c.args.address = ap (λ n. 64 * n + c.args.address % 64) there.1 in
    let within : 64 * c.in-Some.place + c.args.address % 64 < length c.args.bytes.now = omega (arith, place_low s c.args.address l shared, there.1, c.requires) in
    byte_on s c.args.bytes.now c.args.address (64 * c.in-Some.place + c.args.address % 64) c.args.byte l shared is within

pub returns-in-None : goal.returns-in-None
returns-in-None c = byte_off c.args.layout.now c.args.bytes.now c.args.address c.args.byte (place_none c.args.layout.now (c.args.address / 64) (sym c.place_of.ensures ∙ c.in-None.is))
