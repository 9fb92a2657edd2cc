-- One more entry.
use Rattle.std.proofs.Common.{◌≡◌, ℕ, ◌∙◌, true, List, [], ◌∷◌, ◌++◌, drop, length, refl, sym, ap, subst, arith}
use Rattle.std.proofs.lemmas.Grind.{common_steps}
use Rattle.node_words.specs.jump_map.declared.strides.StrideKind.{StrideKind}
use Rattle.node_words.specs.jump_map.Strides.{HasStrides}
use Rattle.word_visits.specs.declared.visit.Visit.{Visit}
use Rattle.word_visits.specs.Entries.{AreFree, ArePartedAt, AreShort, AreSlowedTo, begun_in, is_ordered, looks_in, visits_in}
use Rattle.word_visits.specs.Visits.{WordVisits}
use Rattle.word_visits.proofs.TableLemmas.{begun_push, free_push, free_short, is_of_ordered, ordered_is, ordered_push, put_back, slowed_strides, visits_push}
use Rattle.word_visits.proofs.visits.Visits.push.Goals as goal

pub part_strides-requires : goal.part_strides-requires
part_strides-requires c =
    let v = c.args.self.now in
    record { short = subst AreShort (sym c.deref_mut.ensures.value) (free_short (looks_in v.entries.items) v.kinds.items v.free) }

pub returns-clause-more : goal.returns-clause-more
returns-clause-more c =
    let v = c.args.self.now in
    let word : WordVisits = record { times = 0; looks = c.args.looks } in
    let visit : Visit = record { looks = c.args.looks; begun = 0; ended = v.behind } in
    ap (visits_in 0 0) c.in_ok-push.ensures.items
    ∙ visits_push 0 0 v.behind v.entries.items visit word (ordered_is 0 0 v.behind v.entries.items v.ordered) refl refl refl

pub returns-clause-table : goal.returns-clause-table
returns-clause-table c =
    let v = c.args.self.now in
    let old = v.kinds.items in
    let new = c.part_strides.new.kinds in
    let value = c.deref_mut.ensures.value in
    let count = c.part_strides.auto.kinds ∙ c.deref_mut.ensures.len in
    let same = sym (put_back new (drop (length new) old) v.kinds.len count) in
    let slowed = subst (λ (ks : List StrideKind). AreSlowedTo ks new) value c.part_strides.ensures.slowed in
    λ image are. record {
      micros = are.micros;
      strides = subst (HasStrides v.micros.items) same (slowed_strides v.micros.items old new slowed are.strides);
    }

pub invariant_of-self-2 : goal.invariant_of-self-2
invariant_of-self-2 c =
    let v = c.args.self.now in
    let es = v.entries.items in
    let old = v.kinds.items in
    let new = c.part_strides.new.kinds in
    let value = c.deref_mut.ensures.value in
    let count = c.part_strides.auto.kinds ∙ c.deref_mut.ensures.len in
    let same = sym (put_back new (drop (length new) old) v.kinds.len count) in
    let slowed = subst (λ (ks : List StrideKind). AreSlowedTo ks new) value c.part_strides.ensures.slowed in
    let visit : Visit = record { looks = c.args.looks; begun = 0; ended = v.behind } in
    let all = c.in_ok-push.ensures.items in
    let sum = ap begun_in all ∙ begun_push es visit refl in
    let few = v.few in
    let number : c.len-number.result ≡ length es = grind (arith, common_steps) in
    record {
      few = omega (arith, sum, few);
      ordered = subst (λ (xs : List Visit). is_ordered 0 0 0 xs ≡ true) (sym all)
          (is_of_ordered 0 0 0 (es ++ visit ∷ []) (ordered_push 0 0 v.behind es visit (ordered_is 0 0 v.behind es v.ordered) refl refl));
      free = subst (AreFree (looks_in c.push.new.self.items)) same
          (subst (λ (xs : List Visit). AreFree (looks_in xs) new) (sym all)
          (free_push es visit old new v.free slowed
          (λ is. subst (λ (n : ℕ). ArePartedAt n new) number (c.part_strides.ensures.parted is))));
    }
