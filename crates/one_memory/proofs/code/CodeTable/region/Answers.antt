use Rattle.std.proofs.Common.{◌<◌, length, refl, arith}
use Rattle.std.proofs.lemmas.Option.{slice_get_read}
use Rattle.one_memory.proofs.code.CodeTable.region.Goals as goal

pub returns-in-Some : goal.returns-in-Some
returns-in-Some c = record {
  stretch = λ e of.
      let far = c.args.self.now.far.items in
      let within : c.in-Some.last < length far = omega (arith, c.partition_point-behind.ensures.bound, c.in-Some.ensures.0, c.in-Some.ensures.1, c.deref.ensures.len) in
      of.far c.in-Some.last c.index.result.now (slice_get_read far (length far) c.in-Some.last _ refl within c.index.ensures);
}
