use Rattle.std.proofs.Common.{◌≡◌, replicate, set, None, true, false, arith}
use Rattle.std.proofs.lemmas.Grind.{common_steps}
use Rattle.block_layout.specs.Layout.{blocks}
use Rattle.home_directory.specs.declared.directory.DirectoryEntry as stored
use Rattle.home_directory.proofs.Members.{first_at, first_is}
use Rattle.home_directory.proofs.directory.Directory.new.Goals as goal

pub returns-clause-entries : goal.returns-clause-entries
returns-clause-entries c =
    let first : stored.DirectoryEntry = record { owner = c.args.me; sharers = set (replicate 16 false) c.args.me true; busy = None } in
    let items : c.resize.new.self.items ≡ replicate (blocks c.args.layout.now) first = grind (arith, common_steps, c.in_ok-resize.ensures.items, c.new-entries.ensures.items, c.blocks-2.ensures) in
    λ b below. first_at c.resize.new.self.items (blocks c.args.layout.now) b c.args.me first items (first_is c.args.me (omega arith)) below
