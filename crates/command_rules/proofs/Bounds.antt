-- How far a walk goes and how many rows it has. Assumes nothing.
use mathlib.Core.Path.{◌≡◌, refl}
use mathlib.Core.Bool.{Bool, true, false, cond}
use mathlib.Core.List.{List, [], ◌∷◌, ◌++◌}
use Prim.Native.Nat.{ℕ, zero, suc, ◌+◌, ◌-◌, ◌*◌, ◌^◌, ◌≤◌, ◌<◌}
use native.Mathlib.Omega.{arith}
use lib.Dec.{eqb, ltb}
use lib.ListN.{length, get_or, length-append}
use borrow.Author.Tests.{ltb-true}
use Rattle.command_class.specs.Definition.{Parameter, Entry, single, repeated}
use Rattle.command_rules.specs.Lengths.{repeats}
use Rattle.command_rules.specs.declared.Earlier.{Earlier}
use Rattle.command_rules.specs.declared.Length.{Length}
use Rattle.command_rules.proofs.Lengths.{size-within, size_some}
use Rattle.command_rules.specs.Field.{Field, field_of}
use Rattle.command_rules.specs.Limits.{Small, SmallAll, SmallEntries}
use Rattle.command_rules.specs.Param.{in_payload, bit_rows, bytes_at, size_at, param_rows, param_entry}
use Rattle.command_rules.proofs.Children.{bits_count}
use Rattle.command_rules.specs.Walk.{Walked, ended, after, once, on_size, members, turn, repetition_row, repetitions, group_at, outer, walk, unvalued}
use Rattle.command_rules.specs.declared.Offsets.{Offsets}
use Rattle.std.specs.Prelude.{Option, Some, None}

-- a walk from a place goes forward, within the body, and has at most so many rows a byte
pub record Bound (b size at : ℕ) (w : Walked) : Type 0 where
  pub forward : at ≤ w.end
  pub inside : w.end - at ≤ size - at
  pub few : length w.rows ≤ b * (w.end - at)

stays : (b size at : ℕ) → Bound b size at (ended at)
stays b size at = record { forward = omega arith; inside = omega arith; few = omega arith }

-- what a Q takes, and how many rows it has
pub size_facts : (body : List ℕ) (q : Field) (es : List Earlier) (at : ℕ) (l : Length) → size_at body q es at ≡ Some l
    → (0 < l.taken) × (l.taken ≤ length body - at)
size_facts body q es at l e =
    (size_some q.offset q.mask q.rule es (length body - at) l e, size-within q.offset q.mask q.rule es (length body - at) l e)

params_few : (body : List ℕ) (q : Parameter) (at : ℕ) (size : Length) (n parent : ℕ) → Small q
    → length (param_rows body (field_of q) at size n parent) ≤ 33
unfolding param_rows
params_few body q at size n parent small = go (eqb (length (bytes_at body at size.taken)) 1)
  where
    go : (x : Bool) → suc (length (cond x (bit_rows (get_or (bytes_at body at size.taken) 0 0) (n + 1) (in_payload at) q.items) [])) ≤ 33
    go true = omega (arith, bits_count (get_or (bytes_at body at size.taken) 0 0) (n + 1) (in_payload at) q.items)
    go false = omega arith

pub members_bound : (body : List ℕ) (qs : List Parameter) (at : ℕ) (es : List Earlier) (n parent : ℕ) → SmallAll qs
    → Bound 33 (length body) at (members body qs at es n parent)
unfolding members SmallAll
members_bound body [] at es n parent small = stays 33 (length body) at
members_bound body (q ∷ qs) at es n parent small =
    go (size_at body (field_of q) es at) refl (λ size. members_bound body qs (at + size.taken) (es ++ (param_entry body at size.taken ∷ []))
    (n + length (param_rows body (field_of q) at size n parent)) parent small.1)
  where
    go : (s : Option Length) → size_at body (field_of q) es at ≡ s
        → ((size : Length) → Bound 33 (length body) (at + size.taken)
        (members body qs (at + size.taken) (es ++ (param_entry body at size.taken ∷ []))
        (n + length (param_rows body (field_of q) at size n parent)) parent))
        → Bound 33 (length body) at
        (on_size s
        (λ size.
        after (param_rows body (field_of q) at size n parent)
        (members body qs (at + size.taken) (es ++ (param_entry body at size.taken ∷ []))
        (n + length (param_rows body (field_of q) at size n parent)) parent))
        (ended at))
    go (Some size) e more =
        let f = size_facts body (field_of q) es at size e in
        let f0 = f.0 in
        let f1 = f.1 in
        let p = params_few body q at size n parent small.0 in
        let g = more size in
        let g0 = g.forward in
        let g1 = g.inside in
        let g2 = g.few in
        record { forward = omega arith; inside = omega arith; few = rw length-append (omega arith) }
    go None e more = stays 33 (length body) at

pub turn_bound : (body : List ℕ) (qs : List Parameter) (at n : ℕ) → SmallAll qs → Bound 33 (length body) at (turn body qs at n)
unfolding turn
turn_bound body qs at n small = members_bound body qs at [] (n + 1) (n + 1) small

pub repetitions_bound : (body : List ℕ) (line : ℕ) (qs : List Parameter) (most k at n : ℕ) → SmallAll qs
    → Bound 34 (length body) at (repetitions body line qs most k at n)
unfolding repetitions
repetitions_bound body line qs zero k at n small = stays 34 (length body) at
repetitions_bound body line qs (suc most) k at n small =
    go (turn body qs at n) (turn_bound body qs at n small) (λ m. repetitions_bound body line qs most (k + 1) m.end (n + 1 + length m.rows) small)
  where
    go : (m : Walked) → Bound 33 (length body) at m
        → ((m : Walked) → Bound 34 (length body) m.end (repetitions body line qs most (k + 1) m.end (n + 1 + length m.rows)))
        → Bound 34 (length body) at
        (cond (ltb at m.end) (after (repetition_row line at m.end k ∷ m.rows)
        (once (repetitions body line qs most (k + 1) m.end (n + 1 + length m.rows)))) (ended at))
    go m b more = by (ltb at m.end) refl
      where
        by : (t : Bool) → ltb at m.end ≡ t
            → Bound 34 (length body) at (cond t (after (repetition_row line at m.end k ∷ m.rows)
            (once (repetitions body line qs most (k + 1) m.end (n + 1 + length m.rows)))) (ended at))
        by true e =
            let l = ltb-true at m.end e in
            let b1 = b.inside in
            let b2 = b.few in
            let g = more m in
            let g0 = g.forward in
            let g1 = g.inside in
            let g2 = g.few in
            record { forward = omega arith; inside = omega arith; few = rw length-append (omega arith) }
        by false e = stays 34 (length body) at

pub outer_bound : (offsets : Offsets) (body : List ℕ) (ds : List Entry) (at : ℕ) (es : List Earlier) (n : ℕ) → SmallEntries ds
    → Bound 34 (length body) at (outer offsets body ds at es n)
unfolding outer group_at SmallEntries
outer_bound offsets body [] at es n small = stays 34 (length body) at
outer_bound offsets body (single q ∷ ds) at es n small =
    go (size_at body (field_of q) es at) refl (λ at' es' n'. outer_bound offsets body ds at' es' n' small.1)
  where
    go : (s : Option Length) → size_at body (field_of q) es at ≡ s
        → ((at' : ℕ) (es' : List Earlier) (n' : ℕ) → Bound 34 (length body) at' (outer offsets body ds at' es' n'))
        → Bound 34 (length body) at
        (on_size s
        (λ size.
        after (param_rows body (field_of q) at size n 0)
        (outer offsets body ds (at + size.taken) (es ++ (param_entry body at size.taken ∷ [])) (n + length (param_rows body (field_of q) at size n 0))))
        (outer offsets body ds at (es ++ unvalued offsets 0) n))
    go (Some size) e more =
        let f = size_facts body (field_of q) es at size e in
        let f0 = f.0 in
        let f1 = f.1 in
        let p = params_few body q at size n 0 small.0 in
        let r = more (at + size.taken) (es ++ (param_entry body at size.taken ∷ [])) (n + length (param_rows body (field_of q) at size n 0)) in
        let g0 = r.forward in
        let g1 = r.inside in
        let g2 = r.few in
        record { forward = omega arith; inside = omega arith; few = rw length-append (omega arith) }
    go None e more = more at (es ++ unvalued offsets 0) n
outer_bound offsets body (repeated line g qs ∷ ds) at es n small =
    go (repetitions body line qs (repeats g.offset g.mask (record { 0 = g.shift }) es (length body - at)) 0 at n)
    (repetitions_bound body line qs (repeats g.offset g.mask (record { 0 = g.shift }) es (length body - at)) 0 at n small.0)
    (λ at' es' n'. outer_bound offsets body ds at' es' n' small.1)
  where
    go : (w : Walked) → Bound 34 (length body) at w → ((at' : ℕ) (es' : List Earlier) (n' : ℕ)
        → Bound 34 (length body) at' (outer offsets body ds at' es' n'))
        → Bound 34 (length body) at (after w.rows (outer offsets body ds w.end (es ++ unvalued offsets w.times) (n + length w.rows)))
    go w b more =
        let b0 = b.forward in
        let b1 = b.inside in
        let b2 = b.few in
        let r = more w.end (es ++ unvalued offsets w.times) (n + length w.rows) in
        let g0 = r.forward in
        let g1 = r.inside in
        let g2 = r.few in
        record { forward = omega arith; inside = omega arith; few = rw length-append (omega arith) }

module _ (offsets : Offsets) (body : List ℕ) (ds : List Entry) (small : SmallEntries ds) where
  pub walk_few : length body < 65536 → length (walk offsets body ds).rows < 2 ^ 40
  unfolding walk
  walk_few h = let b = outer_bound offsets body ds 0 [] 0 small in let b1 = b.inside in let b2 = b.few in omega arith

  -- a repetition, a member and its children: at most 34 rows a byte
  pub walk-most : length (walk offsets body ds).rows ≤ 34 * length body
  unfolding walk
  walk-most = let b = outer_bound offsets body ds 0 [] 0 small in let b1 = b.inside in let b2 = b.few in omega arith

  -- the walk ends within the body
  pub walk_inside : (walk offsets body ds).end ≤ length body
  unfolding walk
  walk_inside = let b = outer_bound offsets body ds 0 [] 0 small in let b1 = b.inside in omega arith
