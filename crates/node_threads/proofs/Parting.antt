-- Cores taken apart, and put together again.
use Rattle.std.proofs.Common.{◌≡◌, ℕ, ◌*◌, List, ◌++◌, map, length, refl, ap, ◌∙◌, sym, subst, append_assoc, Vec, Global}
use Rattle.std.specs.declared.collections.VecDeque.{VecDeque}
use Rattle.dsm_messages.specs.declared.messages.Wire.{Wire}
use Rattle.dsm_protocol.specs.node_model.Node.{Work}
use Rattle.dsm_protocol.specs.node_model.Core.{Core}
use Rattle.dsm_core.specs.node_machine.declared.node_state.NodeState.{NodeState}
use Rattle.dsm_core.specs.run_order.OwnRun.{Stamped, StandsForOwnRun, OnlyAdds}
use Rattle.dsm_core.specs.run_order.Apart.{LocalEvent, HaveDone}
use Rattle.dsm_protocol.specs.Queue.{Queue}
use Rattle.dsm_core.specs.CoreParts.{CoreParts, AreParts, work_of, core_of}
use Rattle.node_threads.specs.Crew.{RowsOf, AreNodesOf, flat}
use Rattle.node_threads.specs.Races.{HaveRaced, HaveGoneApart}
use Rattle.node_threads.proofs.Squares.{square_len, nodes_of_work, have_work, have_done}

pub adds_trans : (n : ℕ) (c d e : Core) → OnlyAdds n c d → OnlyAdds n d e → OnlyAdds n c e
adds_trans n c d e a b i lt =
    let x = a i lt in
    let y = b i lt in
    (x.0 ++ y.0, y.1 ∙ ap (λ l. l ++ y.0) x.1 ∙ append_assoc _ x.0 y.0)

-- what a race needs of the parts of a core
pub are_nodes : (p : CoreParts) → AreParts p
    → (work : Work) × (work.layout.nodes ≡ length p.nodes) × AreNodesOf work p.nodes
are_nodes p are = (work_of p, sym are.count, nodes_of_work (work_of p) p.nodes are.works)

module _ (p : CoreParts) (news : List NodeState) (rs : List Queue)
    (old new : List (Vec (VecDeque Wire Global) Global)) (are : AreParts p)
    (square : RowsOf (length p.nodes) old) (many : length old ≡ length p.nodes)
    (was : flat old ≡ map (λ (q : Queue). q.wires) p.lists)
    (now : map (λ (q : Queue). q.wires) rs ≡ flat new)
    (raced : HaveRaced (work_of p) p.nodes old news new) where
  lists_len : length rs ≡ length p.nodes * length p.nodes
  lists_len = square_len (length p.nodes) rs new raced.rows raced.square now

  pub parts_after : AreParts (record p { nodes = news; lists = rs })
  parts_after = record {
    count = raced.count ∙ are.count;
    lists = record {
      few = are.lists.few;
      len = subst (λ n. length rs ≡ n * n) are.count lists_len;
    };
    works = have_work (work_of p) news raced.works;
    rewritten = are.rewritten;
  }

  pub gone_apart : HaveGoneApart p (record p { nodes = news; lists = rs })
  gone_apart = record {
    work = refl;
    history = raced.history;
    done = have_done (work_of p) p.nodes news p.lists rs old new (sym are.count)
        (subst (λ n. length p.lists ≡ n * n) (sym are.count) are.lists.len)
        lists_len many square was now raced;
  }

-- the law of nodes apart
abbrev pub ApartLaw : Type 0
ApartLaw = (work : Work) (c d : Core) (events : List Stamped) (history : ℕ → List LocalEvent)
    → StandsForOwnRun work c events → HaveDone work c d history
    → (own : List Stamped) × StandsForOwnRun work d own × OnlyAdds work.layout.nodes c d

abbrev pub HasOwnRun : CoreParts → Type 0
HasOwnRun p = (events : List Stamped) × StandsForOwnRun (work_of p) (core_of p) events

pub own_after : (p q : CoreParts) → ApartLaw → HasOwnRun p → HaveGoneApart p q
    → HasOwnRun q × OnlyAdds p.layout.nodes (core_of p) (core_of q)
own_after p q law own gone =
    let r = law (work_of p) (core_of p) (core_of q) own.0 gone.history own.1 gone.done in
    ((r.0, subst (λ v. StandsForOwnRun v (core_of q) r.0) (sym gone.work) r.1), r.2)
