use Rattle.judged_files.proofs.code.rewriting_of.Goals as goal

pub returns-in-Some-clause-chosen : goal.returns-in-Some-clause-chosen
returns-in-Some-clause-chosen c =
    rw (c.in-Some.is, c.requires.accepted) c.verified_rewriting.ensures.chosen
