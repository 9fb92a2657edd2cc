-- What lanes share at the start, part by part.
use Rattle.std.proofs.Common.{◌≡◌, Option, None, length, cond, ap}
use Rattle.std.specs.Prelude.{is_some}
use Rattle.std.proofs.Math.Path.{fun_ext}
use Rattle.home_directory.specs.declared.wait.Wait.{Wait}
use Rattle.home_directory.specs.Effects.{requests_for}
use Rattle.node_machine.proofs.OpeningLemmas.{none_of}
use Rattle.lane_model.specs.Turns.{held_by}
use Rattle.lane_machine.specs.Waits.{wait_among, place_among, waits_in}
use Rattle.lane_machine.specs.Places.{reserved_in}
use Rattle.lane_machine.proofs.shared.Shared.new.Goals as goal

pub returns-clause-opening : goal.returns-clause-opening
returns-clause-opening c work program layout =
    let body = c.in_ok-first_body.ensures in
    let protocol = c.in_ok-first_protocol.ensures in
    let places = c.in_ok-first_places.field-0.items in
    let kept = c.in_ok-first_places.ensures in
    let local = body.local work program layout in
    let none : wait_among (waits_in places) ≡ (λ b. None) = fun_ext kept.empty in
    let hold : held_by (wait_among (waits_in places)) (place_among (waits_in places)) ≡ (λ b. 0) =
    fun_ext (λ b. ap (λ (o : Option Wait). cond (is_some o) (place_among (waits_in places) b) 0) (kept.empty b)) in
    let reserved : reserved_in places ≡ (λ k. None) = fun_ext kept.reserved in
    λ t. record {
      me = protocol.me t;
      copy = (local t).copy;
      state = (local t).state;
      reservation = reserved t;
      entry = protocol.entries t;
      waiting = λ b. requests_for b (protocol.waiting t);
      occupancy = length (protocol.waiting t);
      wait = none t;
      holder = hold t;
      byes = fun_ext (none_of 256) t;
      stamp = 0;
      journal = c.new.ensures.items t;
      output = c.new-2.ensures.items t;
      counts = body.counts t;
    }
