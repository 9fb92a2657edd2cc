-- The buffers of nodes and lists are those of the core for which they stand.
use Rattle.std.proofs.Common.{◌≡◌, ℕ, zero, suc, ◌+◌, ◌<◌, Bool, true, false, not, eqb, ltb, ◌&&◌, List, [], ◌∷◌, refl, sym, ap, ◌∙◌, Option, Some, None, arith}
use Rattle.std.specs.Prelude.{is_some}
use Rattle.std.proofs.lemmas.Bool.Decides.{nat_tests}
use Rattle.dsm_protocol.proofs.Names.{Shape, blocks, home, Message, Read, Write, FwdRead, FwdWrite, Inval, Data, Grant, Ack, Done, Bye, Request, Answer, ByData, ByGrant, sum_below, World, Contents, home_in, wires_of, requests_of, answer_of, wait_of, setting_of, IsLaid, Leads, Holds, carrying, asked_by, is_answered, AreInOnePlace}
use Rattle.home_directory.specs.declared.wait.Wait as wait
use Rattle.coherence.specs.Messages as m
use Rattle.coherence.specs.Machine as k
use Rattle.coherence.specs.Claims as claims
use Rattle.coherence.proofs.Theorem.{all_buffers}
use Rattle.dsm_protocol.proofs.Promised.{proper}

without : (r b j i d : ℕ) (ms : List Message)
    → claims.carrying r b j i (wires_of ms) ≡ carrying r b j i ms
    → claims.one_if (eqb d b && false) + claims.carrying r b j i (wires_of ms) ≡ 0 + carrying r b j i ms
without r b j i d ms e = ap (λ z. claims.one_if z + claims.carrying r b j i (wires_of ms)) (never (eqb d b))
    ∙ ap (λ z. 0 + z) e
  where
    never : (t : Bool) → (t && false) ≡ false
    never true = refl
    never false = refl

carried_same : (r b j i : ℕ) (ms : List Message)
    → claims.carrying r b j i (wires_of ms) ≡ carrying r b j i ms
carried_same r b j i [] = refl
carried_same r b j i (Read d buf ∷ ms) = ap (λ z. claims.one_if (eqb d b && eqb j r) + z) (carried_same r b j i ms)
carried_same r b j i (Write d buf ∷ ms) = ap (λ z. claims.one_if (eqb d b && eqb j r) + z) (carried_same r b j i ms)
carried_same r b j i (FwdRead d q buf ∷ ms) = ap (λ z. claims.one_if (eqb d b && eqb q r) + z)
    (carried_same r b j i ms)
carried_same r b j i (FwdWrite d q n buf ∷ ms) = ap (λ z. claims.one_if (eqb d b && eqb q r) + z)
    (carried_same r b j i ms)
carried_same r b j i (Inval d q ∷ ms) = without r b j i d ms (carried_same r b j i ms)
carried_same r b j i (Data d n buf ∷ ms) = ap (λ z. claims.one_if (eqb d b && eqb i r) + z) (carried_same r b j i ms)
carried_same r b j i (Grant d n buf ∷ ms) = ap (λ z. claims.one_if (eqb d b && eqb i r) + z) (carried_same r b j i ms)
carried_same r b j i (Ack d ∷ ms) = without r b j i d ms (carried_same r b j i ms)
carried_same r b j i (Done d ∷ ms) = without r b j i d ms (carried_same r b j i ms)
carried_same r b j i (Bye ∷ ms) = (let e = carried_same r b j i ms in omega (arith, e))

asked_same : (r : ℕ) (qs : List Request) → claims.asked_by r (requests_of qs) ≡ asked_by r qs
asked_same r [] = refl
asked_same r (q ∷ qs) = ap (λ z. claims.one_if (eqb q.from r) + z) (asked_same r qs)

answered_same : (o : Option wait.Wait) → claims.is_answered (wait_of o) ≡ is_answered o
answered_same None = refl
answered_same (Some w) = by_answer w.answer
  where
    by_answer : (a : Option Answer) → not (m.is_unanswered (answer_of a)) ≡ is_some a
    by_answer None = refl
    by_answer (Some (ByData n buf)) = refl
    by_answer (Some (ByGrant n buf)) = refl

waits_same : (o : Option wait.Wait) → not (m.is_none (wait_of o)) ≡ is_some o
waits_same None = refl
waits_same (Some w) = refl

sums_same : (f g : ℕ → ℕ) (n : ℕ) → ((x : ℕ) → x < n → f x ≡ g x) → sum_below f n ≡ sum_below g n
sums_same f g zero h = refl
sums_same f g (suc n) h =
    let a = h n (omega arith) in
    let b = sums_same f g n (λ x low. h x (omega (arith, low))) in
    omega (arith, a, b)

home_is : (l : Shape) (b : ℕ) → b < blocks l → home_in l b ≡ home l b
home_is l b low = (let t : ltb b (blocks l) ≡ true = grind (arith, nat_tests) in rw t refl)

module _ (l : Shape) (laid : IsLaid l) (first : ℕ → Contents) (es : List (k.Event Contents))
    (w : World) (st : Leads l first es w) where
  abbrev c : k.Core Contents
  c = k.after (setting_of l first) es

  pub in_one_place : claims.InOnePlace (setting_of l first) c → AreInOnePlace l w
  in_one_place law r b node low =
      let lists : sum_below (λ j. sum_below (λ i. carrying r b j i (w.list j i)) l.nodes) l.nodes
      ≡ sum_below (λ j. sum_below (λ i. claims.carrying r b j i (c.list j i)) l.nodes) l.nodes =
      sums_same (λ j. sum_below (λ i. carrying r b j i (w.list j i)) l.nodes)
      (λ j. sum_below (λ i. claims.carrying r b j i (c.list j i)) l.nodes) l.nodes
      (λ j lj. sums_same (λ i. carrying r b j i (w.list j i))
      (λ i. claims.carrying r b j i (c.list j i)) l.nodes
      (λ i li. sym (ap (claims.carrying r b j i) (st.list j i lj li) ∙ carried_same r b j i (w.list j i)))) in
      let waiting : asked_by r (w.waiting (home l b) b) ≡ claims.asked_by r (c.waiting b) =
      sym (ap (claims.asked_by r) (st.waiting b low ∙ ap (λ z. requests_of (w.waiting z b)) (home_is l b low))
      ∙ asked_same r (w.waiting (home l b) b)) in
      let answered : claims.is_answered (c.wait r b) ≡ is_answered (w.wait r b) =
      ap claims.is_answered (st.wait r b node low) ∙ answered_same (w.wait r b) in
      let waits : not (m.is_none (c.wait r b)) ≡ is_some (w.wait r b) =
      ap (λ z. not (m.is_none z)) (st.wait r b node low) ∙ waits_same (w.wait r b) in
      let all = law r b node in
      let one = ap claims.one_if answered in
      let whole = ap claims.one_if waits in
      omega (arith, lists, waiting, one, whole, all)

-- whatever some protocol list leads to
pub holding_in_one_place : (l : Shape) (w : World) (memory : ℕ → ℕ) → IsLaid l → Holds l w memory
    → AreInOnePlace l w
holding_in_one_place l w memory laid h =
    in_one_place l laid h.first h.events w h.by.leads
    (all_buffers Contents (setting_of l h.first) (proper l laid h.first) h.events)
