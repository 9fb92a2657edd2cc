use Rattle.one_memory.proofs.ReservingLemmas.{stays, stores_exactly}
use Rattle.one_memory.proofs.law.reservation_law.Goals as goal

pub returns-clause-stores : goal.returns-clause-stores
returns-clause-stores c = λ original s p r a value at. stores_exactly original s p r a value at

pub returns-clause-stays : goal.returns-clause-stays
returns-clause-stays c = λ original s k p. stays original s k p
