use Rattle.dsm_protocol.proofs.Promises.{laid_of}
use Rattle.dsm_protocol.proofs.Buffers.{holding_in_one_place}
use Rattle.dsm_protocol.proofs.law.buffer_law.Goals as goal

pub returns : goal.returns
returns c = λ l w memory valid held.
    let law = c.layout_law.ensures in
    holding_in_one_place l w memory (laid_of l valid law.home law.few) held
