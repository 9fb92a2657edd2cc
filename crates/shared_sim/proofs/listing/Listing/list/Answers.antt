-- The rows of the others stand.
use Rattle.std.proofs.Common.{false, not, ap, sym, ◌∙◌, map}
use Rattle.std.specs.Vec.{vec_items}
use Rattle.std.proofs.lemmas.List.{get_or-set_other}
use Rattle.dsm_core.specs.CoreParts.{event_of}
use Rattle.shared_sim.proofs.listing.Listing.list.Goals as goal

pub returns-clause-kept : goal.returns-clause-kept
returns-clause-kept c = λ i apart old. record {
  row = λ r. ap (λ v. map event_of (vec_items v))
      (get_or-set_other c.args.self.now.nodes.items c.args.node i c.list_events.new.events r apart) ∙ old.row r;
  mail = λ none. old.mail (sym (get_or-set_other c.args.self.now.no_mail c.args.node i (not c.has_mail-mail.result) false apart) ∙ none);
}
