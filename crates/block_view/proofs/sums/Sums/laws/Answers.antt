use Rattle.block_view.proofs.Passing.{all_passed}
use Rattle.block_view.proofs.sums.Sums.laws.Goals as goal

pub returns : goal.returns
returns c = record { passed = λ seen more h passed. all_passed c.args.self.now seen more h passed }
