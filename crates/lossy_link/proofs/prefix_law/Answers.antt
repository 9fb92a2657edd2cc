use Rattle.std.proofs.Common.{arith}
use Rattle.lossy_link.specs.Runs.{offered, delivered}
use Rattle.lossy_link.proofs.Prefix.{every_run, counts, comes}
use Rattle.lossy_link.proofs.prefix_law.Goals as goal

pub returns : goal.returns
returns g c = record {
  prefix = λ window events link run. (every_run window events link run).prefix;
  acknowledged = λ window events link run.
      let h = every_run window events link run in omega (arith, h.next, h.acknowledged);
  counts_offered = λ window events link run.
      counts link (offered events) (delivered events) (every_run window events link run);
  counts_delivered = λ window events link run. (every_run window events link run).next;
  goes_on = λ window events link k packet run.
      comes link (offered events) (delivered events) k packet (every_run window events link run);
}
