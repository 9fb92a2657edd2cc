use Rattle.commands.proofs.AgainLemmas.{HaveRecordLaws}
use Rattle.commands.proofs.NotRefused.{HaveFaultLaws}
use Rattle.commands.proofs.Replaying.{prints_again, taken_again, whole_again}
use Rattle.commands.proofs.law.run_and_replay_law.Goals as goal

pub returns-clause-prints : goal.returns-clause-prints
returns-clause-prints c =
    let laws : HaveRecordLaws = record {
      short = c.progress_law.ensures.short;
      takes = c.journal_law.ensures.takes;
      one_record = c.record_law.ensures.one;
      one_rewriting = c.rewrite_law.ensures.one;
      one_verified = c.verify_law.ensures.one;
      one_telling = c.replay_law.ensures.one;
      again = c.replay_law.ensures.again;
    } in
    λ ran replay contents later left found before now before_again now_again status other is h k.
    prints_again contents later left laws ran replay found before now before_again now_again status
    other is h k

pub returns-clause-whole : goal.returns-clause-whole
returns-clause-whole c =
    let laws : HaveRecordLaws = record {
      short = c.progress_law.ensures.short;
      takes = c.journal_law.ensures.takes;
      one_record = c.record_law.ensures.one;
      one_rewriting = c.rewrite_law.ensures.one;
      one_verified = c.verify_law.ensures.one;
      one_telling = c.replay_law.ensures.one;
      again = c.replay_law.ensures.again;
    } in
    λ ran replay contents later left found before now before_again now_again status is h k.
    whole_again contents later left laws ran replay found before now before_again now_again status
    is h k

pub returns-clause-taken : goal.returns-clause-taken
returns-clause-taken c =
    let laws : HaveRecordLaws = record {
      short = c.progress_law.ensures.short;
      takes = c.journal_law.ensures.takes;
      one_record = c.record_law.ensures.one;
      one_rewriting = c.rewrite_law.ensures.one;
      one_verified = c.verify_law.ensures.one;
      one_telling = c.replay_law.ensures.one;
      again = c.replay_law.ensures.again;
    } in
    let faults : HaveFaultLaws = record {
      plans = λ batches program. c.plan_law.ensures.one batches program.code;
      verified = c.verify_law.ensures.accepted;
      texts = c.record_law.ensures.either;
      ranges = c.range_list_law.ensures.either;
      broken = c.replay_law.ensures.either;
      ended = c.replay_law.ensures.ended;
    } in
    λ ran replay contents later left text line status is h k.
    taken_again contents later left laws faults ran replay text line status is h k
