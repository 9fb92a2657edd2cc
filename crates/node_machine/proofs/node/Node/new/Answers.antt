use Rattle.std.proofs.Common.{◌≡◌, ℕ, List, [], ◌∷◌, Option, length, get_or, replicate, false, zero, suc, ap, sym, ◌∙◌, subst, refl}
use Rattle.std.specs.Prelude.{unwrap_or, slice_index}
use Rattle.std.proofs.Math.Path.{fun_ext}
use Rattle.elf32_read.specs.Elf.{Elf}
use Rattle.block_layout.specs.Layout.{Shape}
use Rattle.node_words.specs.rv32_step.Registers.{registers_of, first_values}
use Rattle.node_words.specs.exec_map.Contents.{program_of}
use Rattle.node_words.specs.jump_map.Maps.{new_of}
use Rattle.node_words.specs.home_directory.Effects.{entry_at, entries_of, requests_for, members}
use Rattle.node_words.specs.miss_handlers.Waits.{wait_of}
use Rattle.node_words.specs.declared.exec_state.ExecState.{ExecState}
use Rattle.node_words.specs.node_model.Node.{Node, Work, Running, opening_node}
use Rattle.node_words.specs.node_memory.Shelf.{local_of}
use Rattle.node_words.specs.Kept.{lane_of}
use Rattle.node_machine.specs.NodeState.{layout_of, entries_in}
use Rattle.node_words.specs.Address.{word_address}
use Rattle.node_machine.proofs.OpeningLemmas.{opening_entries, none_of}
use Rattle.node_machine.proofs.node.Node.new.Goals as goal

abbrev three_zeros : List ℕ
three_zeros = 0 ∷ 0 ∷ 0 ∷ []

three_zeros_get : (k : ℕ) → get_or three_zeros k 0 ≡ 0
three_zeros_get zero = refl
three_zeros_get (suc zero) = refl
three_zeros_get (suc (suc zero)) = refl
three_zeros_get (suc (suc (suc k))) = refl

three_zeros_are : slice_index three_zeros ≡ (λ _. 0)
three_zeros_are = fun_ext three_zeros_get

pub returns-clause-opening : goal.returns-clause-opening
returns-clause-opening c =
    let image = c.args.image.now in
    let l = c.args.layout.now in
    let me = c.args.me in
    let first = c.in_ok-first_local.ensures in
    let d = c.in_ok-new.field-0 in
    let entry = c.entry.ensures.value ∙ ap (λ (e : Elf). (program_of e).entry) (sym first.program) in
    let at = c.index_of.ensures ∙ c.unwrap_or.ensures ∙ ap (λ (o : Option ℕ). unwrap_or o 0) (c.new_of.ensures.value ∙ ap (new_of image) entry) in
    let registers = ap registers_of (c.first.ensures ∙ ap (first_values me) (c.nodes.ensures.nodes ∙ sym (ap (λ (z : Shape). z.nodes) first.layout))) in
    let work : Work = record { program = program_of c.in_ok-first_local.field-0.program; image = image; layout = c.in_ok-first_local.field-0.copy.layout; budget = c.args.budget } in
    let local = first.local work (ap program_of first.program) first.layout in
    let work_by : ExecState → Work = λ b. record { program = program_of b.local.program; image = image; layout = layout_of b; budget = c.args.budget } in
    let node_by : ExecState → Node = λ b. record {
      me = d.me;
      lane = lane_of b.lane (word_address c.index_of.result);
      local = local_of b.local;
      executed = 0;
      phase = Running;
      entry = entries_in d.layout d.me (entry_at d.entries);
      waiting = (entries_of d).waiting;
      occupancy = (entries_of d).occupancy;
      wait = wait_of c.in_ok-new-2.field-0;
      byes = members (replicate 256 false);
      stamp = 0;
      journal = c.new-5.result.items;
      output = c.new-6.result.items;
      counts = b.counts;
    } in
    subst (λ (b : ExecState). node_by b ≡ opening_node (work_by b) me) (sym c.in_ok-new-4.ensures.ok)
    (λ t. record {
      me = c.in_ok-new.ensures.me t;
      lane = record {
        registers = registers t;
        at = at t;
        private = c.in_ok-zeros.ensures.zeros t;
        written = 0;
        off = 0;
        spills = three_zeros_are t;
      };
      local = local t;
      executed = 0;
      phase = Running;
      entry = opening_entries d l me c.in_ok-new.ensures.layout c.in_ok-new.ensures.me c.in_ok-new.ensures.entries t;
      waiting = λ b. requests_for b (c.in_ok-new.ensures.waiting t);
      occupancy = length (c.in_ok-new.ensures.waiting t);
      wait = ap wait_of c.in_ok-new-2.ensures t;
      byes = fun_ext (none_of 256) t;
      stamp = 0;
      journal = c.new-5.ensures.items t;
      output = c.new-6.ensures.items t;
      counts = (opening_node work me).counts;
    })
