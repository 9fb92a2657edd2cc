use Rattle.home_directory.specs.Effects.{entry_of}
use Rattle.home_directory.proofs.Members.{done_is}
use Rattle.home_directory.proofs.directory.end_request.Goals as goal

pub returns-in-Write : goal.returns-in-Write
returns-in-Write c = done_is c.args.need c.args.node (entry_of c.args.entry.now) c.requires c.in-Write.is
