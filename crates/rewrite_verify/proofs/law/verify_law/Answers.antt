use Rattle.rewrite_verify.proofs.FileLemmas.{none_fits, one_rewriting}
use Rattle.rewrite_verify.proofs.law.verify_law.Goals as goal

pub returns-clause-one : goal.returns-clause-one
returns-clause-one c = λ original plan other image again here there same.
    one_rewriting original plan other image again c.image_law.ensures.one here there same

pub returns-clause-accepted : goal.returns-clause-accepted
returns-clause-accepted c = λ original e plan image r rewriting is fits.
    none_fits original e plan image c.image_law.ensures.one rewriting is r fits
