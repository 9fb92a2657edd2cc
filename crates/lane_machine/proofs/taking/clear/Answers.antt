-- One lane's reservation more.
use Rattle.std.proofs.Common.{◌≡◌, ◌<◌, ◌∙◌, ap, sym, length, false, true, set, arith, length-set}
use Rattle.llsc.specs.Reservation.{cleared}
use Rattle.lane_machine.specs.Places.{reserved_in, is_spared}
use Rattle.lane_machine.proofs.ClearLemmas.{reserved_at, reserved_here, reserved_there, same_waits, same_pools, spared_step, cleared_step}
use Rattle.lane_machine.proofs.taking.clear.Goals as goal
use Rattle.lane_machine.proofs.taking.clear.Goals.{then-not-is_spared, else-not-is_spared}

pub loop-k-preserved : goal.loop-k-preserved
loop-k-preserved c =
    let l = c.args.layout.now in
    let b = c.args.block in
    let old = reserved_in c.args.places.now.items in
    let s = is_spared c.args.spared in
    let ps = c.loop-k.places.items in
    let k = c.loop-k.k in
    let h = c.loop-k.invariant in
    let low : k < length ps =
    let test = c.loop-k-test.true in
    let len = c.len-k-end.ensures in
    let count = h.count in
    omega (arith, test, len, count) in
    elim c.if-not-is_spared.branch [
      | then-not-is_spared w ↦ (
          let p = w.index_mut.result.now in
          let at = w.index_mut.ensures.value in
          let r = w.clear_block.new.self in
          let spared : s k ≡ false = sym c.is_spared.ensures ∙ w.if-not-is_spared.true in
          let here = reserved_here ps k p at low r ∙ w.clear_block.ensures ∙ ap (cleared l b) (sym (reserved_at ps k p at low r)) in
          rw w.places-is (record {
            reserved = cleared_step l b s old k (reserved_in ps) (reserved_in (set ps k (record p { reservation = r }))) spared h.reserved here
                (reserved_there ps k p at low r);
            count = length-set ps k (record p { reservation = r }) ∙ h.count;
            waits = same_waits ps k p at low r ∙ h.waits;
            pools = same_pools ps k p at low r ∙ h.pools;
          }))
      | else-not-is_spared w ↦ (
          let spared : s k ≡ true = sym c.is_spared.ensures ∙ w.if-not-is_spared.false in
          rw w.places-is (record {
            reserved = spared_step l b s old k (reserved_in ps) spared h.reserved;
            count = h.count;
            waits = h.waits;
            pools = h.pools;
          }))
    ]
