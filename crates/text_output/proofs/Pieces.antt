-- Texts that are put in pieces.
use Rattle.std.proofs.Common.{◌≡◌, ℕ, List, [], ◌++◌, length, take, drop, Option, Some, None, refl, sym, ap, ◌∙◌, subst, inl, inr, append-nil, append_assoc}
use Rattle.std.proofs.Math.Seq.{take-append_seam}
use Rattle.std.proofs.lemmas.List.{take-append-drop}
use Rattle.dsm_io.specs.Causes.{Rose, Appends, AppendsPrefix}
use Rattle.text_output.specs.declared.failure.Failure.{Failure}
use Rattle.text_output.specs.declared.failure.Failure.TheVariants.{Input, NotWritten, Refused, Layout, Record, Text, Output, OutOfMemory}
use Rattle.dsm_io.specs.States.{SinkState}
use Rattle.text_output.specs.Failures.{IsPutFailure, IsRefusal, FailsAs, IsNever}

pub joins : (before middle now : Option (List ℕ)) (p q : List ℕ) → Appends before middle p
    → Appends middle now q → Appends before now (p ++ q)
joins None None now p q one two = two
joins None (Some m) now p q one two = cc
joins (Some b) None now p q one two = cc
joins (Some b) (Some m) now p q one two =
    two ∙ ap Some (ap (λ t. t ++ q) (some_is m (b ++ p) one) ∙ append_assoc b p q)
  where
    some_is : (x y : List ℕ) → Some x ≡ Some y → x ≡ y
    some_is x y same = cc

pub nothing_put : (state : Option (List ℕ)) → Appends state state []
nothing_put None = refl
nothing_put (Some taken) = ap Some (sym (append-nil taken))

-- what was put is a prefix of the text
pub prefix_of : (before now : Option (List ℕ)) (part rest text : List ℕ) → text ≡ part ++ rest
    → Appends before now part → AppendsPrefix before now text
prefix_of before now part rest text is put = (
  length part,
  subst (Appends before now)
      (sym (take-append_seam part rest) ∙ ap (take (length part)) (sym is)) put,
)

-- a prefix of a piece was put, behind those before it
pub prefix_then : (before middle now : Option (List ℕ)) (p q rest text : List ℕ)
    → text ≡ p ++ (q ++ rest) → Appends before middle p → AppendsPrefix middle now q
    → AppendsPrefix before now text
prefix_then before middle now p q rest text is one two =
    let cut : take two.0 q ++ drop two.0 q ≡ q = take-append-drop two.0 q in
    let whole : text ≡ (p ++ take two.0 q) ++ (drop two.0 q ++ rest) =
    is ∙ ap (λ x. p ++ (x ++ rest)) (sym cut)
    ∙ ap (λ x. p ++ x) (append_assoc (take two.0 q) (drop two.0 q) rest)
    ∙ sym (append_assoc p (take two.0 q) (drop two.0 q ++ rest)) in
    prefix_of before now (p ++ take two.0 q) (drop two.0 q ++ rest) text whole
    (joins before middle now p (take two.0 q) one two.1)

-- a piece of a text wasn't put, behind those before it
pub put_fails : (IsTextFor : List ℕ → ℕ → Type 0) (Reason OfLayout : List ℕ → Type 0) (text : List ℕ)
    (status : ℕ) (start before now : SinkState) (p q rest : List ℕ) (f : Failure)
    → IsTextFor text status → text ≡ p ++ (q ++ rest) → Appends start.taken before.taken p
    → before.faults ≡ start.faults → IsPutFailure before now q f
    → FailsAs IsTextFor Reason OfLayout start now f
put_fails IsTextFor Reason OfLayout text status start before now p q rest (Input line) is text_is one same h = h
put_fails IsTextFor Reason OfLayout text status start before now p q rest (NotWritten line) is text_is one same h = h
put_fails IsTextFor Reason OfLayout text status start before now p q rest (Refused line) is text_is one same h =
    absurd h
put_fails IsTextFor Reason OfLayout text status start before now p q rest (Layout line) is text_is one same h =
    absurd h
put_fails IsTextFor Reason OfLayout text status start before now p q rest (Record line) is text_is one same h =
    absurd h
put_fails IsTextFor Reason OfLayout text status start before now p q rest (Text line) is text_is one same h =
    absurd h
put_fails IsTextFor Reason OfLayout text status start before now p q rest Output is text_is one same h = (
  subst (λ n. Rose n now.faults) same h.0,
  (text, status, is, prefix_then start.taken before.taken now.taken p q rest text text_is one h.1),
)
put_fails IsTextFor Reason OfLayout text status start before now p q rest OutOfMemory is text_is one same h =
    inr (
      text,
      status,
      is,
      prefix_of start.taken now.taken p (q ++ rest) text text_is
          (subst (λ t. Appends start.taken t p) (sym h) one),
    )

-- it is out of memory, with a prefix of a text put
pub stops_behind : (IsTextFor : List ℕ → ℕ → Type 0) (Reason OfLayout : List ℕ → Type 0) (text : List ℕ)
    (status : ℕ) (start now : SinkState) (p rest : List ℕ) (f : Failure) → f ≡ OutOfMemory
    → IsTextFor text status → text ≡ p ++ rest → Appends start.taken now.taken p
    → FailsAs IsTextFor Reason OfLayout start now f
stops_behind IsTextFor Reason OfLayout text status start now p rest f out is text_is put =
    subst (FailsAs IsTextFor Reason OfLayout start now) (sym out)
    (inr (text, status, is, prefix_of start.taken now.taken p rest text text_is put))

-- a failure of the texts of one meaning is a failure of those of another that has all of them
pub fails_too : (IsOne IsOther : List ℕ → ℕ → Type 0) (Reason OfLayout Why WhyLayout : List ℕ → Type 0)
    (before now : SinkState) (f : Failure)
    → ((text : List ℕ) (status : ℕ) → IsOne text status → (s : ℕ) × IsOther text s)
    → ((line : List ℕ) → Reason line → Why line)
    → ((line : List ℕ) → OfLayout line → WhyLayout line)
    → FailsAs IsOne Reason OfLayout before now f → FailsAs IsOther Why WhyLayout before now f
fails_too IsOne IsOther Reason OfLayout Why WhyLayout before now (Input line) texts reasons layouts h = h
fails_too IsOne IsOther Reason OfLayout Why WhyLayout before now (NotWritten line) texts reasons layouts h = h
fails_too IsOne IsOther Reason OfLayout Why WhyLayout before now (Refused line) texts reasons layouts h =
    (reasons line.items h.0, h.1)
fails_too IsOne IsOther Reason OfLayout Why WhyLayout before now (Layout line) texts reasons layouts h =
    (layouts line.items h.0, h.1)
fails_too IsOne IsOther Reason OfLayout Why WhyLayout before now (Record line) texts reasons layouts h = h
fails_too IsOne IsOther Reason OfLayout Why WhyLayout before now (Text line) texts reasons layouts h = h
fails_too IsOne IsOther Reason OfLayout Why WhyLayout before now Output texts reasons layouts h =
    let t = texts h.1.0 h.1.1 h.1.2 in (h.0, (h.1.0, t.0, t.1, h.1.3))
fails_too IsOne IsOther Reason OfLayout Why WhyLayout before now OutOfMemory texts reasons layouts h =
    elim h [
      | inl same ↦ inl same
      | inr part ↦ let t = texts part.0 part.1 part.2 in inr (part.0, t.0, t.1, part.3)
    ]

-- a refusal that comes before anything is put
pub refused_first : (IsTextFor : List ℕ → ℕ → Type 0) (Reason OfLayout Why WhyLayout : List ℕ → Type 0)
    (state : SinkState) (f : Failure) → ((line : List ℕ) → Reason line → Why line)
    → ((line : List ℕ) → OfLayout line → WhyLayout line)
    → IsRefusal Reason OfLayout f → FailsAs IsTextFor Why WhyLayout state state f
refused_first IsTextFor Reason OfLayout Why WhyLayout state (Input line) reasons layouts h = h
refused_first IsTextFor Reason OfLayout Why WhyLayout state (NotWritten line) reasons layouts h = h
refused_first IsTextFor Reason OfLayout Why WhyLayout state (Refused line) reasons layouts h =
    (reasons line.items h, refl)
refused_first IsTextFor Reason OfLayout Why WhyLayout state (Layout line) reasons layouts h =
    (layouts line.items h, refl)
refused_first IsTextFor Reason OfLayout Why WhyLayout state (Record line) reasons layouts h = h
refused_first IsTextFor Reason OfLayout Why WhyLayout state (Text line) reasons layouts h = h
refused_first IsTextFor Reason OfLayout Why WhyLayout state Output reasons layouts h = absurd h
refused_first IsTextFor Reason OfLayout Why WhyLayout state OutOfMemory reasons layouts h = inl refl

-- a refusal for one reason is one for another that follows from it
pub refused_too : (Reason OfLayout Why WhyLayout : List ℕ → Type 0) (f : Failure)
    → ((line : List ℕ) → Reason line → Why line)
    → ((line : List ℕ) → OfLayout line → WhyLayout line)
    → IsRefusal Reason OfLayout f → IsRefusal Why WhyLayout f
refused_too Reason OfLayout Why WhyLayout (Input line) reasons layouts h = h
refused_too Reason OfLayout Why WhyLayout (NotWritten line) reasons layouts h = h
refused_too Reason OfLayout Why WhyLayout (Refused line) reasons layouts h = reasons line.items h
refused_too Reason OfLayout Why WhyLayout (Layout line) reasons layouts h = layouts line.items h
refused_too Reason OfLayout Why WhyLayout other reasons layouts h = h

-- what never is says anything
pub never : (Why : List ℕ → Type 0) (line : List ℕ) → IsNever line → Why line
never Why line h = absurd h
