use Rattle.check_plan.proofs.MemberLemmas.{candidate_dead, candidate_other}
use Rattle.check_plan.proofs.scratches.candidate.Goals as goal

pub returns-in-Ok : goal.returns-in-Ok
returns-in-Ok c = record { value = candidate_dead c.args.dead c.args.others c.args.k c.in-Ok.register c.in-Ok.ensures.ok }

pub returns-in-Ok-member : goal.returns-in-Ok-member
returns-in-Ok-member c = record {
  value = candidate_other c.args.dead c.args.others c.args.k c.in-Err.left c.in-Ok-member.register c.in-Err.ensures.err c.in-Ok-member.ensures.ok;
}
