-- The processor is there.
use Rattle.smp_sim.proofs.by_order.exec.Goals as goal

pub has_mail-requires : goal.has_mail-requires
has_mail-requires c = record { processor = c.requires.enabled.0 }
