use Rattle.command_line.proofs.Addresses.{at_unread}
use Rattle.command_line.proofs.view.address_in.Goals as goal

pub returns-in_err-address-in-One : goal.returns-in_err-address-in-One
returns-in_err-address-in-One c =
    rw c.from_residual.ensures (λ a h. at_unread _ c.in-One.word.now a c.in-One.ensures c.in_err-address-in-One.ensures h)
