use Rattle.speedup_page.proofs.Chains.{ok_behind}
use Rattle.speedup_page.proofs.bars.push_pieces.Goals as goal

pub returns : goal.returns
returns c =
    let old = c.args.out.now.items in
    let one = c.push_words.new.out.items in
    let two = c.push_waits.new.out.items in
    let r = c.push_rest.result in
    ok_behind r old one _ _ _ c.in_ok-push_words.ensures
    (ok_behind r one two _ _ _ c.in_ok-push_waits.ensures c.push_rest.ensures)
