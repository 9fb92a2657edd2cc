use Rattle.std.proofs.Common.{◌≡◌, ℕ, ◌<◌, true, subst, sym, ap, ◌∙◌, arith, length, set, Option}
use Rattle.block_layout.specs.Layout.{blocks}
use Rattle.home_directory.specs.Home.{Home}
use Rattle.home_directory.specs.Table.{HomeRow, done_row}
use Rattle.home_directory.specs.Effects.{Directory, entries_of, done_effect, is_home}
use Rattle.home_directory.proofs.Members.{row_at, home_within}
use Rattle.home_directory.proofs.directory.Directory.done_into.Goals as goal

pub returns-clause-entries : goal.returns-clause-entries
returns-clause-entries c =
    let inside = c.self.inside in
    let block = c.args.block in
    let d : Directory = record { layout = inside.layout; me = inside.me; entries = inside.entries.items; waiting = inside.waiting.requests } in
    let made : Directory = record { layout = inside.layout; me = inside.me; entries = set inside.entries.items block c.done_at.new.entry; waiting = c.done_at.new.waiting.requests } in
    let view : d ≡ c.args.self.now = c.self.view_is in
    let here : is_home d block ≡ true = ap (λ (h : Directory). is_home h block) view ∙ sym c.is_home.ensures ∙ c.if-not-is_home.false in
    let some : block < blocks inside.layout = home_within d block here in
    let within : block < length inside.entries.items = omega arith in
    let row : ℕ → Home → Option HomeRow = λ n h. done_row n h block c.args.from in
    subst (λ (h : Directory). entries_of made ≡ (done_effect h c.args.from block).entries) view
    (row_at d row c.nodes-nodes.result block c.index_mut-entry.result.now c.done_at.new.entry c.done_at.new.waiting.requests here within c.nodes-nodes.ensures.nodes c.index_mut-entry.ensures.value c.done_at.ensures.entry c.done_at.ensures.waiting)
