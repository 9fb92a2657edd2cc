use Rattle.rv32_asm.proofs.Listing.{listed}
use Rattle.rv32_asm.proofs.law.listing_law.Goals as goal

pub returns : goal.returns
returns c = record { words = λ address word low known. listed c.ranges_law.ensures address word low known }
