use Rattle.std.proofs.Common.{◌∙◌, None, ap, sym, subst}
use Rattle.std.proofs.Math.Path.{fun_ext}
use Rattle.node_words.specs.flag_memory.Copy.{CopyLaws}
use Rattle.node_words.specs.node_model.Node.{first_local}
use Rattle.node_words.specs.node_memory.Shelf.{HasSharedLines, local_of}
use Rattle.node_machine.specs.Opening.{AreFixedClasses}
use Rattle.node_machine.proofs.BlockLemmas.{LineLaws}
use Rattle.node_machine.proofs.OpeningLemmas.{shared_lines, shared_low, others_fixed, first_states, first_copy}
use Rattle.node_machine.proofs.opening.first_local.Goals as goal

pub new-requires-5-clause-lines : goal.new-requires-5-clause-lines
new-requires-5-clause-lines c =
    let e = c.args.program.now in
    let st = c.open_blocks.new.states in
    let cp = c.open_blocks.new.copy in
    let sl = c.open_blocks.ensures.states_layout ∙ c.in_ok-states.ensures.layout in
    let cl = c.open_blocks.ensures.copy_layout ∙ c.in_ok-copy.ensures.layout in
    let fixed : AreFixedClasses e st.program = subst (AreFixedClasses e) (sym (c.open_blocks.ensures.classes ∙ c.in_ok-states.ensures.program)) c.in_ok-classes.ensures in
    let laid : HasSharedLines e cp.layout = subst (HasSharedLines e) (sym cl) (shared_lines e _ c.requires.layout) in
    record {
      one = sl ∙ sym cl;
      shared = laid;
      others = others_fixed e cp.layout st.program laid fixed;
      low = shared_low e cp.layout laid c.entry.ensures.accepted;
    }

pub returns-clause-local : goal.returns-clause-local
returns-clause-local c work pe le =
    let e = c.args.program.now in
    let l = c.args.layout.now in
    let me = c.args.me in
    let law = c.layout_law.ensures in
    let laws : LineLaws = record { ends = law.ends; has = law.has; found = law.found; shared = law.shared; some = law.some } in
    let st = c.open_blocks.new.states in
    let cp = c.open_blocks.new.copy in
    let sl = c.open_blocks.ensures.states_layout ∙ c.in_ok-states.ensures.layout in
    let cl = c.open_blocks.ensures.copy_layout ∙ c.in_ok-copy.ensures.layout in
    let fixed : AreFixedClasses e st.program = subst (AreFixedClasses e) (sym (c.open_blocks.ensures.classes ∙ c.in_ok-states.ensures.program)) c.in_ok-classes.ensures in
    let copies : CopyLaws cp = record { len = c.copy_law.ensures.len; get = c.copy_law.ensures.bytes } in
    let copy = fun_ext (first_copy laws l c.nodes.ensures.valid e me cp cl copies (c.first_bytes_law.ensures.each e) c.in_ok-open_blocks.ensures.bytes) in
    let state = fun_ext (first_states laws l c.nodes.ensures.valid e me st sl (shared_lines e l c.requires.layout) fixed c.in_ok-open_blocks.ensures.state) in
    ap local_of c.new-6.ensures.parts
    ∙ (λ t. record { copy = copy t; state = state t; reservation = None })
    ∙ (λ t. first_local (record work { program = sym pe t; layout = sym le t }) me)
