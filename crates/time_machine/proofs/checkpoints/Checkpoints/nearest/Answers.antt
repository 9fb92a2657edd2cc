use Rattle.std.proofs.Common.{◌-◌, length, refl, arith}
use Rattle.std.proofs.lemmas.Option.{slice_get_read}
use Rattle.time_machine.proofs.Kept.{none_behind, one_behind}
use Rattle.time_machine.proofs.checkpoints.Checkpoints.nearest.Goals as goal

pub loop-place-init : goal.loop-place-init
loop-place-init c = record {
  within = omega (arith, c.len-place.ensures);
  behind = none_behind c.self.inside.kept.items c.len-place.result c.args.position (omega (arith, c.len-place.ensures));
}

pub loop-place-preserved : goal.loop-place-preserved
loop-place-preserved c =
    let kept = c.self.inside.kept.items in
    let n = c.loop-place.place in
    let some = c.loop-place-test.true in
    let within = c.loop-place.invariant.within in
    let get = slice_get_read kept (length kept) (n - 1) _ refl (omega (arith, some, within)) c.index.ensures in
    record {
      within = omega (arith, within);
      behind = one_behind kept n (n - 1) c.args.position _ (omega (arith, some)) get (omega (arith, c.if-at-position.false)) c.loop-place.invariant.behind;
    }
