use Rattle.std.proofs.Common.{◌≡◌, ◌∙◌, eqb, sym, ap, subst, length, arith}
use Rattle.std.specs.Prelude.{Contains}
use Rattle.std.specs.List.{dedup}
use Rattle.std.specs.List.Sorted.{IsStrictlyIncreasing}
use Rattle.std.proofs.lemmas.List.Filters.{dedup_is}
use Rattle.std.proofs.lemmas.List.Kept.{Contains-dedup_nat, Contains-from_dedup}
use Rattle.std.proofs.lemmas.List.Sorted.{Contains-permutation, IsPermutation-sym, length_permutation}
use Rattle.std.proofs.lemmas.Map.Keys.{IsStrictlyIncreasing-dedup}
use Rattle.templates.specs.Code.{code_of}
use Rattle.templates.specs.Places.{HasPlaces}
use Rattle.templates.specs.Candidates.{candidates}
use Rattle.templates.proofs.PlaceLemmas.{whole, few}
use Rattle.templates.proofs.places.list_places.Goals as goal

pub returns-clause-ascending : goal.returns-clause-ascending
returns-clause-ascending c =
    let sorted = c.sort.new.self.items in
    subst IsStrictlyIncreasing (sym (dedup_is eqb sorted c.dedup.new.self.items c.dedup.ensures.filtered)) (IsStrictlyIncreasing-dedup sorted c.in_ok-sort.ensures.sorted)

pub returns-clause-places : goal.returns-clause-places
returns-clause-places c =
    let old = c.in_ok-places.places.items in
    let sorted = c.sort.new.self.items in
    let new = c.dedup.new.self.items in
    let is : new ≡ dedup eqb sorted = dedup_is eqb sorted new c.dedup.ensures.filtered in
    let words = c.args.code.now in
    let same : old ≡ candidates words = c.in_ok-places.ensures.value ∙ ap candidates c.words.ensures.value in
    let places : HasPlaces (code_of words) old = subst (HasPlaces (code_of words)) (sym same) (whole words c.words.ensures.ascends) in
    record {
      complete = λ a h. subst (λ xs. Contains xs a) (sym is) (Contains-dedup_nat sorted a (Contains-permutation old sorted a c.in_ok-sort.ensures.permutation (places.complete a h)));
      sound = λ a h. places.sound a (Contains-permutation sorted old a (IsPermutation-sym old sorted c.in_ok-sort.ensures.permutation) (Contains-from_dedup eqb sorted a (subst (λ xs. Contains xs a) is h)));
    }

pub returns-clause-few : goal.returns-clause-few
returns-clause-few c =
    let old = c.in_ok-places.places.items in
    let sorted = c.sort.new.self.items in
    let words = c.args.code.now in
    let same : old ≡ candidates words = c.in_ok-places.ensures.value ∙ ap candidates c.words.ensures.value in
    let all = few words c.words.ensures.ascends in
    let long = length_permutation old sorted c.in_ok-sort.ensures.permutation in
    let bound = c.dedup.ensures.bound in
    let count = ap (λ xs. length xs) same in
    omega arith
