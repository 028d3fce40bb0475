-- Laws of a repetition and of a group: one for each way through the code. Assumes nothing.
use mathlib.Core.Path.{◌≡◌, refl, sym, ◌∙◌}
use mathlib.Core.List.{List, [], ◌∷◌, ◌++◌}
use Prim.Native.Nat.{ℕ, suc, ◌+◌, ◌-◌, ◌^◌, ◌≤◌, ◌<◌}
use native.Mathlib.Nat.{add-zero, zero-add}
use native.Mathlib.Omega.{arith}
use mir.Syntax.{w64}
use mir.Val.{Fits}
use lib.ListN.{length, take, drop, length-append}
use borrow.Author.Tests.{lt-ltb, le-ltb}
use Rattle.records.specs.declared.BodyOffset.{BodyOffset}
use Rattle.command_class.specs.Definition.{Parameter}
use Rattle.command_lengths.specs.Entries.{entries}
use Rattle.command_rules.specs.Lengths.{repeats}
use Rattle.command_rules.specs.declared.BitShift.{BitShift}
use Rattle.command_schema.specs.Heads.{heads_of, members_of}
use Rattle.command_schema.specs.Loaded.{IsLoaded}
use Rattle.command_schema.proofs.Told.{members_small}
use Rattle.command_rows.specs.Rows.{written, row_at}
use Rattle.command_rules.specs.declared.Row.{Row}
use Rattle.command_rows.proofs.Laws.{written_none, length-written, written-more, written-first, part_back}
use Rattle.command_rules.specs.Param.{in_payload}
use Rattle.command_rules.specs.Walk.{ended, after, once, members, turn, repetition_row, repetitions}
use Rattle.command_groups.specs.Steps.{Gives, GivesGroup, IsTook, IsNothing, Repeats}
use Rattle.command_groups.specs.declared.Taken.{Taken}
use Rattle.std.specs.Prelude.{Option, Some, None}
use Rattle.command_rules.proofs.Bounds.{Bound, turn_bound, repetitions_bound}

pub row_is : (line at end k f t : ℕ) → f ≡ in_payload at → t ≡ in_payload end
    → ◌≡◌ {A = Row} (record { kind = 2; line = line; parent = 0; start = f; end = t; valued = 0; value = 0; named = 0; number = k; lacking = 0 })
    (repetition_row line at end k)
unfolding repetition_row
row_is line at end k f t ef et = rw (ef, et) refl

none_of : (rs : List Row) → length rs ≤ 0 → rs ≡ []
none_of [] h = refl
none_of (r ∷ rs) h = absurd (omega arith)

-- ---- one repetition: its members from row 1 on
pub turn-part : (x body : List ℕ) (i at n s left : ℕ) (t ys : List ℕ) (rest : ℕ) (m : Taken)
    → Gives (members body (members_of (drop i (heads_of x))) at [] (n + 1) (n + 1)) left (take (length t - rest) (drop rest t)) 0 ys m
    → rest ≡ row_at s 1 (length t) → left ≡ s - 1
    → Gives (turn body (members_of (drop i (heads_of x))) at n) s t 1 (take rest t ++ (ys ++ drop (length t - rest) (drop rest t))) m
unfolding turn
turn-part x body i at n s left t ys rest m w is behind =
    record {
      rows = part_back s t ys 1 rest left (members body (members_of (drop i (heads_of x))) at [] (n + 1) (n + 1)).rows is behind w.rows;
      count = w.count;
      end =
          w.end;
    }

module _ (x l body : List ℕ) (count i at n : ℕ) (loaded : IsLoaded x l count) (s : ℕ) (t t₁ : List ℕ) (m : Taken)
    (given : Gives (turn body (members_of (drop i (heads_of x))) at n) s t 1 t₁ m) where
  bound : Bound 33 (length body) at (turn body (members_of (drop i (heads_of x))) at n)
  bound = turn_bound body (members_of (drop i (heads_of x))) at n (members_small x l count loaded i)

  pub repetition_inside : at < m.end.0 → length body < 65536 → m.end.0 < 65536
  repetition_inside h b = let b1 = bound.inside in let z = given.end in omega arith

  pub repetition_starts : at < m.end.0 → length body < 65536 → at < 65536
  repetition_starts h b = omega (arith, repetition_inside h b)

  pub repetition_fits : length body < 65536 → Fits w64 (m.count + 1)
  repetition_fits b = let b1 = bound.inside in let b2 = bound.few in let z = given.count in omega arith

  pub repetition_nothing : (line k : ℕ) → m.end.0 ≤ at → Repeats body line (members_of (drop i (heads_of x))) k at n s t 0 t₁ None
  repetition_nothing line k h =
      let b0 = bound.forward in
      let b2 = bound.few in
      let z = given.end in
      let nothing : (turn body (members_of (drop i (heads_of x))) at n).rows ≡ [] =
      none_of (turn body (members_of (drop i (heads_of x))) at n).rows (omega arith) in
      record { took = le-ltb at (turn body (members_of (drop i (heads_of x))) at n).end (omega arith); rows = given.rows ∙ rw nothing (written_none s t 1) }

  pub repetition_took : (line k : ℕ) (row : Row) (t' : List ℕ) → row ≡ repetition_row line at m.end.0 k → t' ≡ written s t₁ 0 (row ∷ [])
      → at < m.end.0
      → Repeats body line (members_of (drop i (heads_of x))) k at n s t 0 t' (Some (record { end = m.end; count = m.count + 1 }))
  repetition_took line k row t' er et h =
      let z = given.end in
      let own : row ≡ repetition_row line at (turn body (members_of (drop i (heads_of x))) at n).end k = rw z at er in
      let c = given.count in
      record {
        took = lt-ltb at (turn body (members_of (drop i (heads_of x))) at n).end (omega arith);
        end = z;
        count = omega arith;
        rows = et ∙ rw (given.rows, own) (written-first s t (repetition_row line at (turn body (members_of (drop i (heads_of x))) at n).end k)
            (turn body (members_of (drop i (heads_of x))) at n).rows);
      }

-- in a part of the table: from row k on
repeats-from : (body : List ℕ) (line : ℕ) (qs : List Parameter) (number at n s left : ℕ) (t ys : List ℕ) (k rest : ℕ) (r : Option Taken)
    → rest ≡ row_at s k (length t) → left ≡ s - k
    → Repeats body line qs number at n left (take (length t - rest) (drop rest t)) 0 ys r
    → Repeats body line qs number at n s t k (take rest t ++ (ys ++ drop (length t - rest) (drop rest t))) r
repeats-from body line qs number at n s left t ys k rest (Some r) is behind w =
    record {
      took = w.took;
      end = w.end;
      count = w.count;
      rows =
          part_back s t ys k rest left (repetition_row line at (turn body qs at n).end number ∷ (turn body qs at n).rows) is behind w.rows;
    }
repeats-from body line qs number at n s left t ys k rest None is behind w =
    record {
      took = w.took;
      rows = part_back s t ys k rest left [] is behind (w.rows ∙ sym (written_none left (take (length t - rest) (drop rest t)) 0)) ∙ written_none s t k;
    }

pub repetition_part : (x body : List ℕ) (line i number at n s left : ℕ) (t ys : List ℕ) (k rest : ℕ) (r : Option Taken)
    → Repeats body line (members_of (drop i (heads_of x))) number at n left (take (length t - rest) (drop rest t)) 0 ys r
    → rest ≡ row_at s k (length t) → left ≡ s - k
    → Repeats body line (members_of (drop i (heads_of x))) number at n s t k (take rest t ++ (ys ++ drop (length t - rest) (drop rest t))) r
repetition_part x body line i number at n s left t ys k rest r w is behind =
    repeats-from body line (members_of (drop i (heads_of x))) number at n s left t ys k rest r is behind w

pub ruleset repetition_laws = (row_is, turn-part, repetition_inside, repetition_starts, repetition_fits, repetition_nothing, repetition_took, repetition_part)

-- ---- the group: what is left of the repetitions, after k of them
pub record Turns (body : List ℕ) (qs : List Parameter) (line most start n s : ℕ) (t₀ t : List ℕ) (at next k : ℕ) : Type 0 where
  pub rows : written s t (n + next) (repetitions body line qs (most - k) k at (n + next)).rows
      ≡ written s t₀ n (repetitions body line qs most 0 start n).rows
  pub count : next + length (repetitions body line qs (most - k) k at (n + next)).rows ≡ length (repetitions body line qs most 0 start n).rows
  pub end : (repetitions body line qs (most - k) k at (n + next)).end ≡ (repetitions body line qs most 0 start n).end
  pub times : k + (repetitions body line qs (most - k) k at (n + next)).times ≡ (repetitions body line qs most 0 start n).times
  pub few : length (repetitions body line qs most 0 start n).rows < 2 ^ 40
  pub within : k ≤ most
  pub same : length t ≡ length t₀

pub turns-start : (x l body : List ℕ) (count i line most start n s : ℕ) (t₀ : List ℕ) → IsLoaded x l count → length body < 65536
    → Turns body (members_of (drop i (heads_of x))) line most start n s t₀ t₀ start 0 0
turns-start x l body count i line most start n s t₀ loaded v =
    let b = repetitions_bound body line (members_of (drop i (heads_of x))) most 0 start n (members_small x l count loaded i) in
    let b1 = b.inside in
    let b2 = b.few in
    let z : most - 0 ≡ most = omega arith in
    record {
      rows = rw (z, add-zero) refl;
      count = rw (z, add-zero, zero-add) refl;
      end = rw (z, add-zero) refl;
      times = rw (z, add-zero, zero-add) refl;
      few = omega arith;
      within = omega arith;
      same = refl;
    }

module _ (body : List ℕ) (qs : List Parameter) (line most start n s : ℕ) (t₀ t : List ℕ) (o : BodyOffset) (next k : ℕ)
    (g : Turns body qs line most start n s t₀ t o.0 next k) where
  none_left : (t' : List ℕ) → t' ≡ t → repetitions body line qs (most - k) k o.0 (n + next) ≡ ended o.0
      → GivesGroup (repetitions body line qs most 0 start n) s t₀ n t' (record { end = o; count = next; times = k })
  none_left t' et e =
      record {
        rows = et ∙ sym (written_none s t (n + next)) ∙ (rw e at g.rows);
        count = let q = rw e at g.count in omega arith;
        end = rw e at g.end;
        times = let q = rw e at g.times in omega arith;
      }

  pub turns_end : most ≤ k → GivesGroup (repetitions body line qs most 0 start n) s t₀ n t (record { end = o; count = next; times = most })
  unfolding repetitions
  turns_end h =
      let z : most - k ≡ 0 = omega arith in
      let w = none_left t refl (rw z refl) in
      let u = w.times in
      let v = g.within in
      record { rows = w.rows; count = w.count; end = w.end; times = omega arith }

  pub turns-low : n < 2 ^ 47 → n + next < 2 ^ 48
  turns-low h = let a = g.few in let b = g.count in omega arith

  pub turns_next_low : next < 2 ^ 50
  turns_next_low = let a = g.few in let b = g.count in omega arith

  module _ (h : k < most) where
    left_over : most - k ≡ suc (most - (k + 1))
    left_over = omega arith

    module _ (t' : List ℕ) (q : BodyOffset) (c : ℕ) (w : IsTook body line qs k o.0 (n + next) s t (n + next) t' q c) where
      one_more : repetitions body line qs (most - k) k o.0 (n + next)
          ≡ after (repetition_row line o.0 (turn body qs o.0 (n + next)).end k ∷ (turn body qs o.0 (n + next)).rows)
          (once (repetitions body line qs (most - (k + 1)) (k + 1) q.0 (n + (next + c))))
      unfolding repetitions
      one_more =
          let z : n + (next + c) ≡ n + next + 1 + length (turn body qs o.0 (n + next)).rows = let b = w.count in omega arith in
          rw (left_over, w.took, z, w.end) refl

      all-count : next + (suc (length (turn body qs o.0 (n + next)).rows) + length
          (repetitions body line qs (most - (k + 1)) (k + 1) q.0 (n + (next + c))).rows) ≡ length (repetitions body line qs most 0 start n).rows
      all-count = rw (one_more, length-append) at g.count

      small : Fits w64 (next + c)
      small = let a = g.few in let b = w.count in omega (arith, all-count)

      taken : Turns body qs line most start n s t₀ t' q.0 (next + c) (k + 1)
      taken =
          let b = w.count in
          let p : written s t (n + next) ((repetition_row line o.0 (turn body qs o.0 (n + next)).end k ∷ (turn body qs o.0 (n + next)).rows)
          ++ (repetitions body line qs (most - (k + 1)) (k + 1) q.0 (n + (next + c))).rows)
          ≡ written s t₀ n (repetitions body line qs most 0 start n).rows = rw one_more at g.rows in
          let z : n + (next + c) ≡ n + next + suc (length (turn body qs o.0 (n + next)).rows) = omega arith in
          let u : k + ((repetitions body line qs (most - (k + 1)) (k + 1) q.0 (n + (next + c))).times + 1)
          ≡ (repetitions body line qs most 0 start n).times = rw one_more at g.times in
          record {
            rows = rw w.rows (written-more s t (n + next) (repetition_row line o.0 (turn body qs o.0 (n + next)).end k ∷ (turn body qs o.0
                (n + next)).rows) (repetitions body line qs (most - (k + 1)) (k + 1) q.0 (n + (next + c))).rows (n + (next + c)) z ∙ p);
            count = omega (arith, all-count);
            end = rw one_more at g.end;
            times = omega arith;
            few = g.few;
            within = omega arith;
            same = rw (w.rows, length-written) g.same;
          }

    module _ (t' : List ℕ) (r : Option Taken) (given : Repeats body line qs k o.0 (n + next) s t (n + next) t' r) where
      pub turns-nothing : r ≡ None → GivesGroup (repetitions body line qs most 0 start n) s t₀ n t' (record { end = o; count = next; times = k })
      unfolding repetitions
      turns-nothing f =
          let v : IsNothing body line qs k o.0 (n + next) s t (n + next) t' = rw f at given in
          none_left t' v.rows (rw (left_over, v.took) refl)

      module _ (m : Taken) (f : r ≡ Some m) where
        pub turns-fits : Fits w64 (next + m.count)
        turns-fits = small t' m.end m.count (rw f at given)

        pub turns-take : Turns body qs line most start n s t₀ t' m.end.0 (next + m.count) (k + 1)
        turns-take = taken t' m.end m.count (rw f at given)

pub ruleset turns_laws = (turns-start, turns_end, turns-low, turns_next_low, turns-nothing, turns-fits, turns-take)

-- how often at most
pub often_is : (body ns : List ℕ) (offset mask : ℕ) (shift : BitShift) (at left most : ℕ) → most ≡ repeats offset mask shift (entries ns) left
    → left ≡ length body - at → most ≡ repeats offset mask shift (entries ns) (length body - at)
often_is body ns offset mask shift at left most e f = rw f at e

pub ruleset often_laws = (often_is)
