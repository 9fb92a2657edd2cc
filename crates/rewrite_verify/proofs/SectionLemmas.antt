-- The one section of a name and a type.
use Rattle.std.proofs.Common.{◌≡◌, ◌≢◌, ◌∙◌, ◌↔◌, ℕ, zero, suc, ◌+◌, ◌<◌, ◌≤◌, Bool, false, List, [], ◌∷◌, Some, length, map, get_or, refl, sym, ap, subst, inl, inr, arith}
use Rattle.std.specs.Prelude.{IsTrue, slice_get, unwrap_or}
use Rattle.std.specs.Option.{option_map}
use Rattle.std.proofs.lemmas.Bool.{cases_lt, false≢true}
use Rattle.std.proofs.lemmas.Option.{slice_get-map, slice_get-get_or}
use Rattle.elf32_read.specs.Elf.{Section}
use Rattle.elf32_read.specs.Segments.{section_of}
use Rattle.elf32_read.specs.declared.Section.{Section as OfCode}
use Rattle.rewriter.specs.RewrittenFile.{plan_section, map_section}
use Rattle.rewrite_verify.specs.Sections.{HasOnly, IsNamedAs}

-- it has one list of bytes
pub one_content : (ss : List Section) (v w : Section) → HasOnly ss v → HasOnly ss w
    → v.name ≡ w.name → v.kind ≡ w.kind → v.bytes ≡ w.bytes
one_content ss v w h g name kind =
    let at : h.number ≡ g.number =
    g.alone h.number h.section h.there (h.named.0 ∙ name, h.named.1 ∙ kind) in
    let same : Some h.section ≡ Some g.section = sym h.there ∙ ap (slice_get ss) at ∙ g.there in
    sym h.bytes ∙ ap (λ o. (unwrap_or o h.section).bytes) same ∙ g.bytes

-- only the name, the type and the bytes of the wanted one count
pub only_as : (ss : List Section) (v w : Section) → HasOnly ss v → v.name ≡ w.name
    → v.kind ≡ w.kind → v.bytes ≡ w.bytes → HasOnly ss w
only_as ss v w h name kind bytes = record {
  number = h.number;
  section = h.section;
  there = h.there;
  named = (h.named.0 ∙ name, h.named.1 ∙ kind);
  bytes = h.bytes ∙ bytes;
  alone = λ k s there named.
      h.alone k s there (named.0 ∙ sym name, named.1 ∙ sym kind);
}

-- as it is found by the name and the type of a section of a plan
pub as_found : (ss mine : List Section) (found : Section) (bytes : List ℕ) → mine ≡ ss
    → found ≡ plan_section [] → HasOnly ss (plan_section bytes)
    → HasOnly mine (record found { bytes = bytes })
as_found ss mine found bytes same is h =
    subst (λ xs. HasOnly xs (record found { bytes = bytes })) (sym same)
    (only_as ss (plan_section bytes) (record found { bytes = bytes }) h
    (sym (ap (λ (s : Section). s.name) is)) (sym (ap (λ (s : Section). s.kind) is)) refl)

-- none of the sections so far has the name and the type, nor has the next one
pub none_more : (xs : List OfCode) (wanted : Section) (from k : ℕ) (d : OfCode) (b : Bool)
    → k < length xs → (IsTrue b ↔ IsNamedAs wanted (section_of (get_or xs k d))) → b ≡ false
    → ((j : ℕ) (s : Section) → from ≤ j → j < k → slice_get (map section_of xs) j ≡ Some s
    → IsNamedAs wanted s → ⊥)
    → (j : ℕ) (s : Section) → from ≤ j → j < k + 1 → slice_get (map section_of xs) j ≡ Some s
    → IsNamedAs wanted s → ⊥
none_more xs wanted from k d b lt tells other before j s low below there named =
    elim (cases_lt j k) [
      | inl less ↦ before j s low less there named
      | inr to ↦
          let at : k ≡ j = omega (arith, to, below) in
          let here = slice_get-map section_of xs k
          ∙ ap (option_map section_of) (slice_get-get_or xs k d lt) in
          let same : Some (section_of (get_or xs k d)) ≡ Some s =
          sym here ∙ ap (slice_get (map section_of xs)) at ∙ there in
          let is : section_of (get_or xs k d) ≡ s = cc in
          false≢true (sym other ∙ tells.1 (subst (IsNamedAs wanted) (sym is) named))
    ]

-- ---- the two sections of a rewritten file

third : (a b : Section) (k : ℕ) (s : Section)
    → slice_get (a ∷ b ∷ []) (suc (suc k)) ≡ Some s → ⊥
third a b k s there = cc

pub has_plan : (plan addresses : List ℕ)
    → HasOnly (plan_section plan ∷ map_section addresses ∷ []) (plan_section plan)
has_plan plan addresses = record {
  number = 0;
  section = plan_section plan;
  there = refl;
  named = (refl, refl);
  bytes = refl;
  alone = go;
}
  where
    go : (k : ℕ) (s : Section)
        → slice_get (plan_section plan ∷ map_section addresses ∷ []) k ≡ Some s
        → IsNamedAs (plan_section plan) s → k ≡ 0
    go zero s there named = refl
    go (suc zero) s there named =
        absurd (let kind = ap (λ o. (unwrap_or o s).kind) there ∙ named.1 in omega (arith, kind))
    go (suc (suc k)) s there named = absurd (third (plan_section plan) (map_section addresses) k s there)

pub has_map : (plan addresses : List ℕ)
    → HasOnly (plan_section plan ∷ map_section addresses ∷ []) (map_section addresses)
has_map plan addresses = record {
  number = 1;
  section = map_section addresses;
  there = refl;
  named = (refl, refl);
  bytes = refl;
  alone = go;
}
  where
    go : (k : ℕ) (s : Section)
        → slice_get (plan_section plan ∷ map_section addresses ∷ []) k ≡ Some s
        → IsNamedAs (map_section addresses) s → k ≡ 1
    go zero s there named =
        absurd (let kind = ap (λ o. (unwrap_or o s).kind) there ∙ named.1 in omega (arith, kind))
    go (suc zero) s there named = refl
    go (suc (suc k)) s there named = absurd (third (plan_section plan) (map_section addresses) k s there)
