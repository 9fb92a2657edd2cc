use Rattle.std.proofs.Common.{◌≡◌, ◌∙◌, sym, subst, length}
use Rattle.block_layout.specs.Layout.{Shape}
use Rattle.dsm_core.specs.CoreParts.{CoreParts, AreParts, work_of}
use Rattle.node_threads.specs.Crew.{RowsOf}
use Rattle.node_threads.specs.Races.{HaveGoneApart}
use Rattle.node_threads.proofs.Squares.{nodes_of_work}
use Rattle.node_threads.proofs.Parting.{are_nodes, parts_after, gone_apart}
use Rattle.node_threads.proofs.racing.go_apart.Goals as goal

pub race_nodes-requires-clause-count : goal.race_nodes-requires-clause-count
race_nodes-requires-clause-count g c κs within =
    let i = c.parts.inside in
    let p : CoreParts = record {
      program = i.program.now;
      image = i.image.now;
      layout = i.layout;
      budget = i.budget;
      nodes = i.nodes.items;
      lists = i.lists.items;
    } in
    let are : AreParts p = subst AreParts (sym c.parts.view_is) c.requires.parts in
    let n : c.nodes.result ≡ length p.nodes = c.nodes.ensures.nodes ∙ sym are.count in
    c.in_ok-rows.ensures.count ∙ n

pub race_nodes-requires-clause-rows : goal.race_nodes-requires-clause-rows
race_nodes-requires-clause-rows g c κs within =
    let i = c.parts.inside in
    let p : CoreParts = record {
      program = i.program.now;
      image = i.image.now;
      layout = i.layout;
      budget = i.budget;
      nodes = i.nodes.items;
      lists = i.lists.items;
    } in
    let are : AreParts p = subst AreParts (sym c.parts.view_is) c.requires.parts in
    let n : c.nodes.result ≡ length p.nodes = c.nodes.ensures.nodes ∙ sym are.count in
    subst (λ m. RowsOf m c.in_ok-rows.rows.items) n c.in_ok-rows.ensures.rows

pub race_nodes-requires-clause-works : goal.race_nodes-requires-clause-works
race_nodes-requires-clause-works g c κs within =
    let i = c.parts.inside in
    let p : CoreParts = record {
      program = i.program.now;
      image = i.image.now;
      layout = i.layout;
      budget = i.budget;
      nodes = i.nodes.items;
      lists = i.lists.items;
    } in
    let are : AreParts p = subst AreParts (sym c.parts.view_is) c.requires.parts in
    let n : c.nodes.result ≡ length p.nodes = c.nodes.ensures.nodes ∙ sym are.count in
    are_nodes p are

pub returns-clause-parts : goal.returns-clause-parts
returns-clause-parts g c =
    let i = c.parts.inside in
    let p : CoreParts = record {
      program = i.program.now;
      image = i.image.now;
      layout = i.layout;
      budget = i.budget;
      nodes = i.nodes.items;
      lists = i.lists.items;
    } in
    let are : AreParts p = subst AreParts (sym c.parts.view_is) c.requires.parts in
    let n : c.nodes.result ≡ length p.nodes = c.nodes.ensures.nodes ∙ sym are.count in
    let old = c.in_ok-rows in
    let r = c.in_ok-nodes in
    let news = r.nodes.items in
    let rs = c.in_ok-lists.field-0.items in
    let square = subst (λ m. RowsOf m old.rows.items) n old.ensures.rows in
    let raced = r.ensures.raced (work_of p) (sym are.count)
    (nodes_of_work (work_of p) p.nodes are.works) in
    subst (λ (l : Shape). AreParts (record p { layout = l; nodes = news; lists = rs }))
    (sym c.layout.view_is)
    (parts_after p news rs old.rows.items r.rows.items are square (old.ensures.count ∙ n)
    old.ensures.wires c.in_ok-lists.ensures.wires raced)

pub returns-clause-apart : goal.returns-clause-apart
returns-clause-apart g c =
    let i = c.parts.inside in
    let p : CoreParts = record {
      program = i.program.now;
      image = i.image.now;
      layout = i.layout;
      budget = i.budget;
      nodes = i.nodes.items;
      lists = i.lists.items;
    } in
    let are : AreParts p = subst AreParts (sym c.parts.view_is) c.requires.parts in
    let n : c.nodes.result ≡ length p.nodes = c.nodes.ensures.nodes ∙ sym are.count in
    let old = c.in_ok-rows in
    let r = c.in_ok-nodes in
    let news = r.nodes.items in
    let rs = c.in_ok-lists.field-0.items in
    let square = subst (λ m. RowsOf m old.rows.items) n old.ensures.rows in
    let raced = r.ensures.raced (work_of p) (sym are.count)
    (nodes_of_work (work_of p) p.nodes are.works) in
    subst (λ (l : Shape). HaveGoneApart c.args.parts
    (record p { layout = l; nodes = news; lists = rs })) (sym c.layout.view_is)
    (subst (λ (q : CoreParts). HaveGoneApart q (record p { nodes = news; lists = rs }))
    c.parts.view_is
    (gone_apart p news rs old.rows.items r.rows.items are square (old.ensures.count ∙ n)
    old.ensures.wires c.in_ok-lists.ensures.wires raced))
