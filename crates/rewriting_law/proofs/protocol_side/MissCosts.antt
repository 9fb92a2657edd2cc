-- What a miss has cost in messages where it ends.
use Rattle.std.proofs.Common.{◌≡◌, ℕ, ◌+◌, ◌*◌, ◌<◌, ◌≤◌, ◌⊎◌, Bool, true, false, cond, eqb, ltb, ◌∷◌, Option, Some, None, refl, sym, ap, ◌∙◌, inl, inr, arith}
use Rattle.std.specs.Prelude.{◌&&◌}
use Rattle.std.proofs.lemmas.Bool.Decides.{nat_tests}
use Rattle.rewriting_law.proofs.Names.{Shape, blocks, Effect, row, Setting, local, Need, Done, Busy, Contents, need_of, busy_of, wires_of, home_in, setting_of, IsLaid, Work, Core, messages_of, HasProtocolList, EndsMisses}
use Rattle.coherence.specs.Messages as m
use Rattle.coherence.specs.Machine.{Wire as BlockWire, Core as BlockCore, row_of, after}
use Rattle.coherence.proofs.Theorem.{all_costs, all_rows}
use Rattle.home_directory.specs.dsm_messages.declared.messages.Need.TheVariants as need
use Rattle.dsm_protocol.proofs.Taking.{home_is}
use Rattle.dsm_protocol.proofs.Promised.{proper}

some_if : {A : Type 0} (u : Bool) (o : Option A) (a : A) → cond u o None ≡ Some a → (u ≡ true)
    × (o ≡ Some a)
some_if true o a e = (refl, e)
some_if false o a e = absurd cc

-- a home that is busy in the protocol without code is busy with the same
to_read : (n : Need) → need_of n ≡ m.Read → n ≡ need.Read
to_read need.Read e = refl
to_read need.Write e = let bad : m.Write ≡ m.Read = e in cc

to_write : (n : Need) → need_of n ≡ m.Write → n ≡ need.Write
to_write need.Read e = let bad : m.Read ≡ m.Write = e in cc
to_write need.Write e = refl

busy_with : (o : Option Busy) (for : m.Need) (j : ℕ) → busy_of o ≡ Some (for, j)
    → (n : Need) × (need_of n ≡ for) × (o ≡ Some (record { need = n; node = j }))
busy_with None for j e = let bad : None ≡ Some (for, j) = e in cc
busy_with (Some b) for j e =
    let same : (need_of b.need, b.node) ≡ (for, j) = cc in (
      b.need,
      ap (λ (p : m.Need × ℕ). p.0) same,
      ap (λ x. Some (record { need = b.need; node = x })) (ap (λ (p : m.Need × ℕ). p.1) same),
    )

module _ (work : Work) (laid : IsLaid work.layout) (c : Core) (memory : ℕ → ℕ)
    (list : HasProtocolList work c memory) where
  abbrev l : Shape
  l = work.layout

  abbrev s : Setting Contents
  s = setting_of l list.holds.first

  abbrev k : BlockCore Contents
  k = after s list.holds.events

  pub ends_misses : EndsMisses list
  ends_misses i j b wire rest li lj front is = (
    sym (home_is l b below) ∙ at_home,
    elim costs [
      | inl h ↦ inl (by_need m.Read need.Read to_read h.0, h.1)
      | inr h ↦ inr (by_need m.Write need.Write to_write h.0, h.1)
    ],
  )
    where
      done : BlockWire Contents
      done = record { block = b; body = m.ToHome m.Done }

      first : k.list j i ≡ done ∷ wires_of (messages_of rest)
      first = list.holds.by.leads.list j i lj li ∙ ap (λ ws. wires_of (messages_of ws)) front
          ∙ ap (λ x. wires_of (x ∷ messages_of rest)) is

      costs : ((k.busy b ≡ Some (m.Read, j)) × ((k.tally b).cost ≡ 4))
          ⊎ ((k.busy b ≡ Some (m.Write, j)) × ((k.tally b).cost ≤ 2 * l.nodes + 1))
      costs = all_costs Contents s (proper l laid list.holds.first) list.holds.events i j b
          (wires_of (messages_of rest)) first

      there : (e : Effect Contents) × (row_of s k i j done ≡ Some e)
      there = all_rows Contents s (proper l laid list.holds.first) list.holds.events i j done
          (wires_of (messages_of rest)) first

      found : (ltb b (blocks l) ≡ true)
          × (row s.flag l.nodes (home_in l b) i j (ltb (k.occupancy i) 32) (k.waiting b)
          (local k i b) (m.ToHome m.Done) ≡ Some there.0)
      found = some_if (ltb b (blocks l)) _ there.0 there.1

      below : b < blocks l
      below = let u = found.0 in grind (arith, nat_tests)

      at_home : home_in l b ≡ i
      at_home =
          let u = (some_if (eqb i (home_in l b) && ltb j l.nodes) _ there.0 found.1).0 in
          let v : eqb i (home_in l b) ≡ true = grind (arith, nat_tests) in
          grind (arith, nat_tests)

      by_need : (for : m.Need) (n : Need) → ((x : Need) → need_of x ≡ for → x ≡ n)
          → k.busy b ≡ Some (for, j)
          → ((c.nodes i).entry b).busy ≡ Some (record { need = n; node = j })
      by_need for n same e =
          let busy = busy_with ((c.nodes i).entry b).busy for j
          (sym (list.holds.by.leads.busy b below
          ∙ ap (λ x. busy_of ((c.nodes x).entry b).busy) at_home) ∙ e) in
          busy.2 ∙ ap (λ x. Some (record { need = x; node = j })) (same busy.0 busy.1)
