use Rattle.std.proofs.Common.{◌<◌, length, ap, ◌∙◌, subst, sym, arith}
use Rattle.std.specs.Prelude.{option_and_then, slice_index_or}
use Rattle.std.proofs.lemmas.Option.{get_or_from_slice_get}
use Rattle.templates.specs.Code.{Ascends}
use Rattle.flow_graph.specs.Edges.{next_of, number_at}
use Rattle.flow_graph.proofs.WordLemmas.{low_there, goes_on}
use Rattle.flow_graph.proofs.graph.Graph.edges.Goals as goal

pub next_of-next-requires : goal.next_of-next-requires
next_of-next-requires c =
    let word = c.index-words-k.result in
    let words = c.words-words.result.now in
    let up : Ascends 0 words = subst (Ascends 0) (sym c.words-words.ensures.value) c.words-words.ensures.ascends in
    let lt : c.args.k < length words = subst (λ ws. c.args.k < length ws) (sym (c.words-words.ensures.value ∙ c.code.ensures.value)) c.requires.within in
    let low = low_there 0 words c.args.k word up lt in
    let is = ap (λ w. w.address) c.index-words-k.is in record { low = omega (arith, low, is) }

pub follower-first-requires-clause-after : goal.follower-first-requires-clause-after
follower-first-requires-clause-after c w a at first =
    let word = c.index-words-k.result in
    let same = c.index-words-k.is ∙ get_or_from_slice_get c.words-words.result.now c.args.k w word at in
    let address = ap (λ v. v.address) same in
    let next = goes_on word.instruction word.address a (sym (ap (λ n. n.first) c.next_of-next.ensures.value) ∙ first) in
    omega (arith, address, next)

pub returns : goal.returns
returns c =
    let word = c.index-words-k.result in
    let words = c.args.self.now in
    let whole = c.words-words.ensures.value ∙ c.code.ensures.value in
    record {
      value = λ w at.
          let same = c.index-words-k.is ∙ ap (λ ws. slice_index_or ws c.args.k word) whole ∙ get_or_from_slice_get words c.args.k w word at in
          let next = c.next_of-next.ensures.value ∙ ap (λ v. next_of v.instruction v.address) same in
          λ t. record {
            first = (c.follower-first.ensures.value ∙ ap (λ ws. option_and_then (number_at ws) c.next_of-next.result.first) whole ∙ ap (λ n. option_and_then (number_at words) n.first) next) t;
            second = (c.number_of-second.ensures.value ∙ ap (λ n. option_and_then (number_at words) n.second) next) t;
          };
    }
