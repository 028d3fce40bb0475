-- Laws of the outer list: one for each way through the code. Assumes nothing.
use mathlib.Core.Path.{◌≡◌, refl, sym, ap, ◌∙◌}
use mathlib.Core.Bool.{Bool, true, false}
use mathlib.Core.List.{List, [], ◌∷◌, ◌++◌}
use Prim.Native.Nat.{ℕ, ◌+◌, ◌-◌, ◌^◌, ◌≤◌, ◌<◌}
use native.Mathlib.Nat.{zero-add}
use native.Mathlib.Omega.{arith}
use mir.Syntax.{w64}
use mir.Val.{Fits}
use lib.ListN.{length, take, drop, set, replicate, length-append, length-replicate}
use Rattle.records.specs.declared.BodyOffset.{BodyOffset}
use Rattle.command_text.specs.Form.{Group}
use Rattle.command_class.specs.Definition.{Parameter, Entry, single, repeated}
use Rattle.command_lengths.specs.Entries.{entries}
use Rattle.command_rules.specs.Lengths.{least, repeats}
use Rattle.command_rules.specs.declared.Earlier.{Earlier}
use Rattle.command_lengths.proofs.Laws.{repeats-first}
use Rattle.command_rules.specs.Field.{field_of}
use Rattle.command_schema.specs.Heads.{heads_of, members_of, entries_of}
use Rattle.command_schema.specs.Loaded.{loaded_at, field_in, is_outer, Stands, TellsG, IsLoaded}
use Rattle.command_schema.specs.declared.Loaded.{Loaded}
use Rattle.command_schema.proofs.Told.{OuterAt, GroupAt, outer_at, group_at_lem, no_entry_at, none_at, members_small, entries_small}
use Rattle.command_rows.specs.Rows.{written}
use Rattle.command_rows.proofs.Laws.{written_none, length-written, written-more}
use Rattle.command_rules.specs.Param.{size_at, param_rows, param_entry}
use Rattle.command_param.specs.Steps.{IsRead, ReadsParam}
use Rattle.command_param.specs.declared.Param.{Param}
use Rattle.command_rules.specs.Walk.{after, repetitions, group_at, unvalued, outer, walk}
use Rattle.command_rules.specs.declared.Offsets.{Offsets}
use Rattle.command_groups.specs.Steps.{Gives, GivesGroup, unvalued_kept, unvalued_have}
use Rattle.command_groups.specs.declared.Repeated.{Repeated}
use Rattle.command_groups.proofs.Entries.{KeptFree, kept-part, kept-start, free_start, kept_push, free_push, kept-unvalued}
use Rattle.command_rules.proofs.Bounds.{size_facts, repetitions_bound, walk_few}
use Rattle.command_groups.proofs.Answers.{is_read, is_absent_lem}
use Rattle.std.specs.Prelude.{Option, Some, None}

-- what is left of the outer list, from loaded row j on
pub record Outer (offsets : Offsets) (t body : List ℕ) (s : ℕ) (d₀ d kept : List ℕ) (have at next j : ℕ) : Type 0 where
  pub es : List Earlier
  pub entries_are : KeptFree kept have es
  pub rows : written s d next (outer offsets body (entries_of (drop j (heads_of t))) at es next).rows
      ≡ written s d₀ 0 (walk offsets body (entries_of (heads_of t))).rows
  pub count_is : next + length (outer offsets body (entries_of (drop j (heads_of t))) at es next).rows
      ≡ length (walk offsets body (entries_of (heads_of t))).rows
  pub end : (outer offsets body (entries_of (drop j (heads_of t))) at es next).end ≡ (walk offsets body (entries_of (heads_of t))).end
  pub few : length (walk offsets body (entries_of (heads_of t))).rows < 2 ^ 40
  pub inside : at ≤ length body
  pub same : length d ≡ length d₀

module _ (offsets : Offsets) (t l body : List ℕ) (count : ℕ) (loaded : IsLoaded t l count) (s : ℕ) where
  pub outer_start : (d₀ : List ℕ) → length body < 65536 → Outer offsets t body s d₀ d₀ (replicate 256 256) 0 0 0 0
  unfolding walk
  outer_start d₀ u =
      record {
        es = [];
        entries_are = record { kept_are = kept-start (replicate 256 256) (length-replicate {A = ℕ} 256 256); free = free_start };
        rows = refl;
        count_is = rw zero-add refl;
        end = refl;
        few = walk_few offsets body (entries_of (heads_of t)) (entries_small t l count loaded) u;
        inside = omega arith;
        same = refl;
      }

  module _ (d₀ d kept : List ℕ) (have : ℕ) (o : BodyOffset) (next j : ℕ) (g : Outer offsets t body s d₀ d kept have o.0 next j) where
    pub outer-part : have ≡ length (take have kept)
    outer-part = kept-part kept g.es have g.entries_are.kept_are

    pub outer-size : length kept ≡ 256
    outer-size = g.entries_are.kept_are.size

    pub outer-most : have ≤ 256
    outer-most = g.entries_are.kept_are.most

    pub outer-low : next < 2 ^ 47
    outer-low = let a = g.few in let b = g.count_is in omega arith

    pub outer_next_low : next < 2 ^ 50
    outer_next_low = let a = g.few in let b = g.count_is in omega arith

    pub outer_end : count ≤ j → Gives (walk offsets body (entries_of (heads_of t))) s d₀ 0 d (record { end = o; count = next })
    unfolding outer entries_of
    outer_end h =
        let e : entries_of (drop j (heads_of t)) ≡ [] = ap entries_of (none_at t l count loaded j h) in
        record {
          rows = sym (written_none s d next) ∙ (rw e at g.rows);
          count = let q = rw e at g.count_is in omega arith;
          end = rw e at g.end;
        }

    -- nothing is taken
    passed : (d' : List ℕ) → d' ≡ d → (kept' : List ℕ) (have' : ℕ) (es : List Earlier) → KeptFree kept' have' es
        → outer offsets body (entries_of (drop j (heads_of t))) o.0 g.es next ≡ outer offsets body (entries_of (drop (j + 1) (heads_of t))) o.0 es next
        → Outer offsets t body s d₀ d' kept' have' o.0 next (j + 1)
    passed d' ed kept' have' es are e =
        rw ed (record {
          es = es;
          entries_are = are;
          rows = rw e at g.rows;
          count_is = rw e at g.count_is;
          end = rw e at g.end;
          few = g.few;
          inside = g.inside;
          same = g.same;
        })

    -- a Q
    module _ (p : Parameter) (rest : entries_of (drop j (heads_of t)) ≡ single p ∷ entries_of (drop (j + 1) (heads_of t))) where
      absent : size_at body (field_of p) g.es o.0 ≡ None → (d' : List ℕ) → d' ≡ d → (kept' : List ℕ) (have' : ℕ)
          → kept' ≡ unvalued_kept offsets kept have
          → have' ≡ unvalued_have offsets have 0 → Outer offsets t body s d₀ d' kept' have' o.0 next (j + 1)
      unfolding outer
      absent e d' ed kept' have' ek eh =
          passed d' ed kept' have' (g.es ++ unvalued offsets 0) (rw (ek, eh) (kept-unvalued offsets kept g.es have 0 g.entries_are))
          (rw (rest, e) refl)

      module _ (d' : List ℕ) (e : BodyOffset) (y c : ℕ) (w : IsRead body (field_of p) g.es o.0 next 0 s d next d' e y c) where
        one_more : outer offsets body (entries_of (drop j (heads_of t))) o.0 g.es next
            ≡ after (param_rows body (field_of p) o.0 w.size next 0)
            (outer offsets body (entries_of (drop (j + 1) (heads_of t))) e.0 (g.es ++ (param_entry body o.0 w.size.taken ∷ [])) (next + c))
        unfolding outer
        one_more = rw (rest, w.there, w.count, w.end) refl

        all-count : next + (length (param_rows body (field_of p) o.0 w.size next 0) + length
            (outer offsets body (entries_of (drop (j + 1) (heads_of t))) e.0 (g.es ++ (param_entry body o.0 w.size.taken ∷ [])) (next + c)).rows)
            ≡ length (walk offsets body (entries_of (heads_of t))).rows
        all-count = rw (one_more, length-append) at g.count_is

        small : Fits w64 (next + c)
        small = let a = g.few in let b = w.count in omega (arith, all-count)

        taken : (kept' : List ℕ) (have' : ℕ) → kept' ≡ set kept have y → have' ≡ least (have + 1) 256
            → Outer offsets t body s d₀ d' kept' have' e.0 (next + c) (j + 1)
        taken kept' have' ek eh =
            let b = w.count in
            let r : written s d next (param_rows body (field_of p) o.0 w.size next 0
            ++ (outer offsets body (entries_of (drop (j + 1) (heads_of t))) e.0 (g.es ++ (param_entry body o.0 w.size.taken ∷ [])) (next + c)).rows)
            ≡ written s d₀ 0 (walk offsets body (entries_of (heads_of t))).rows = rw one_more at g.rows in
            let z' : next + c ≡ next + length (param_rows body (field_of p) o.0 w.size next 0) = omega arith in
            let f = size_facts body (field_of p) g.es o.0 w.size w.there in
            let f1 = f.1 in
            let z = w.end in
            let i = g.inside in
            let k = g.entries_are.kept_are in
            record {
              es = g.es ++ (param_entry body o.0 w.size.taken ∷ []);
              entries_are = rw (ek, eh) (record {
                kept_are = kept_push kept g.es have y (param_entry body o.0 w.size.taken) w.entry k;
                free =
                    free_push kept g.es have y k g.entries_are.free;
              });
              rows = rw w.rows
                  (written-more s d next (param_rows body (field_of p) o.0 w.size next 0)
                  (outer offsets body (entries_of (drop (j + 1) (heads_of t))) e.0 (g.es ++ (param_entry body o.0 w.size.taken ∷ []))
                  (next + c)).rows
                  (next + c) z' ∙ r);
              count_is = omega (arith, all-count);
              end = rw one_more at g.end;
              few = g.few;
              inside = omega arith;
              same = rw (w.rows, length-written) g.same;
            }

    -- a group
    module _ (h : Group) (line : ℕ) (rest : entries_of (drop j (heads_of t))
        ≡ repeated line h (members_of (drop (j + 1) (heads_of t))) ∷ entries_of (drop (j + 1) (heads_of t))) (d' : List ℕ) (r : Repeated)
        (w : GivesGroup (group_at body line h (members_of (drop (j + 1) (heads_of t))) g.es o.0 next) s d next d' r) where
      group_more : outer offsets body (entries_of (drop j (heads_of t))) o.0 g.es next
          ≡ after (group_at body line h (members_of (drop (j + 1) (heads_of t))) g.es o.0 next).rows
          (outer offsets body (entries_of (drop (j + 1) (heads_of t))) r.end.0 (g.es ++ unvalued offsets r.times) (next + r.count))
      unfolding outer
      group_more = rw (rest, w.end, w.times, w.count) refl

      group_count : next + (length (group_at body line h (members_of (drop (j + 1) (heads_of t))) g.es o.0 next).rows
          + length (outer offsets body (entries_of (drop (j + 1) (heads_of t))) r.end.0 (g.es ++ unvalued offsets r.times) (next + r.count)).rows)
          ≡ length (walk offsets body (entries_of (heads_of t))).rows
      group_count = rw (group_more, length-append) at g.count_is

      group_fits : Fits w64 (next + r.count)
      group_fits = let a = g.few in let b = w.count in omega (arith, group_count)

      group_inside : r.end.0 ≤ length body
      unfolding group_at
      group_inside =
          let b = repetitions_bound body line (members_of (drop (j + 1) (heads_of t)))
          (repeats h.offset h.mask (record { 0 = h.shift }) g.es (length body - o.0)) 0 o.0 next (members_small t l count loaded (j + 1)) in
          let b0 = b.forward in
          let b1 = b.inside in
          let i = g.inside in
          let z = w.end in
          omega arith

      group_taken : (kept' : List ℕ) (have' : ℕ) → kept' ≡ unvalued_kept offsets kept have → have' ≡ unvalued_have offsets have r.times
          → Outer offsets t body s d₀ d' kept' have' r.end.0 (next + r.count) (j + 1)
      group_taken kept' have' ek eh =
          let b = w.count in
          let p : written s d next ((group_at body line h (members_of (drop (j + 1) (heads_of t))) g.es o.0 next).rows
          ++ (outer offsets body (entries_of (drop (j + 1) (heads_of t))) r.end.0 (g.es ++ unvalued offsets r.times) (next + r.count)).rows)
          ≡ written s d₀ 0 (walk offsets body (entries_of (heads_of t))).rows = rw group_more at g.rows in
          let z' : next + r.count ≡ next + length (group_at body line h (members_of (drop (j + 1) (heads_of t))) g.es o.0 next).rows = omega arith in
          record {
            es = g.es ++ unvalued offsets r.times;
            entries_are = rw (ek, eh) (kept-unvalued offsets kept g.es have r.times g.entries_are);
            rows = rw w.rows
                (written-more s d next (group_at body line h (members_of (drop (j + 1) (heads_of t))) g.es o.0 next).rows
                (outer offsets body (entries_of (drop (j + 1) (heads_of t))) r.end.0 (g.es ++ unvalued offsets r.times) (next + r.count)).rows
                (next + r.count) z' ∙ p);
            count_is = omega (arith, group_count);
            end = rw group_more at g.end;
            few = g.few;
            inside = group_inside;
            same = rw (w.rows, length-written) g.same;
          }

    -- what the group's function answers, over the definition
    module _ (q : Loaded) (h : Group) (is : TellsG q q.line h) (d' : List ℕ) (r : Repeated)
        (most : ℕ) (is-most : most ≡ repeats q.paramoffs q.sizemask (record { 0 = q.sizeoffs }) (entries (take have kept)) (length body - o.0))
        (given : GivesGroup (repetitions body q.line (members_of (drop (j + 1) (heads_of t))) most 0 o.0 next) s d next d' r) where
      the_group : GivesGroup (group_at body q.line h (members_of (drop (j + 1) (heads_of t))) g.es o.0 next) s d next d' r
      unfolding group_at
      the_group =
          let often : repeats q.paramoffs q.sizemask (record { 0 = q.sizeoffs }) (entries (take have kept)) (length body - o.0)
          ≡ repeats h.offset h.mask (record { 0 = h.shift }) g.es (length body - o.0) =
          ap (λ (xs : List Earlier). repeats q.paramoffs q.sizemask (record { 0 = q.sizeoffs }) xs (length body - o.0))
          g.entries_are.kept_are.firsts
          ∙ repeats-first q.paramoffs q.sizemask (record { 0 = q.sizeoffs }) g.es (length body - o.0)
          ∙ rw (is.offset, is.mask, is.shift) refl in
          rw (is-most ∙ often) at given

    module _ (q : Loaded) (is-q : q ≡ loaded_at l j) (h : j < count) (x : Bool) (is_x : x ≡ is_outer q) where
      pub outer-stands : x ≡ true → Stands t q
      outer-stands f = (outer_at t l count loaded j q is-q h (sym is_x ∙ f)).is.stands

      -- another row
      pub outer_pass : x ≡ false → (q.kind ≡ 71 → ⊥) → Outer offsets t body s d₀ d kept have o.0 next (j + 1)
      outer_pass f k =
          passed d refl kept have g.es g.entries_are
          (ap (λ (ds : List Entry). outer offsets body ds o.0 g.es next) (no_entry_at t l count loaded j q is-q h (sym is_x ∙ f) k))

      module _ (d' : List ℕ) (r : Option Param) (given : ReadsParam body (field_in t q) (entries (take have kept)) o.0 next 0 s d next d' r)
          (single-q : x ≡ true) where
        m : OuterAt t l count loaded j q is-q h
        m = outer_at t l count loaded j q is-q h (sym is_x ∙ single-q)

        pub outer-missing : r ≡ None → (kept' : List ℕ) (have' : ℕ) → kept' ≡ unvalued_kept offsets kept have
            → have' ≡ unvalued_have offsets have 0
            → Outer offsets t body s d₀ d' kept' have' o.0 next (j + 1)
        outer-missing f =
            let v = is_absent_lem t q m.param m.is body kept g.es have g.entries_are.kept_are o.0 next 0 s d next d' r given f in
            absent m.param m.rest v.there d' v.rows

        module _ (v : Param) (f : r ≡ Some v) where
          pub outer-fits : Fits w64 (next + v.count)
          outer-fits = small m.param m.rest d' v.end v.entry v.count
              (is_read t q m.param m.is body kept g.es have g.entries_are.kept_are o.0 next 0 s d next d' r given v f)

          pub outer-take : (kept' : List ℕ) (have' : ℕ) → kept' ≡ set kept have v.entry → have' ≡ least (have + 1) 256
              → Outer offsets t body s d₀ d' kept' have' v.end.0 (next + v.count) (j + 1)
          outer-take = taken m.param m.rest d' v.end v.entry v.count
              (is_read t q m.param m.is body kept g.es have g.entries_are.kept_are o.0 next 0 s d next d' r given v f)

      module _ (d' : List ℕ) (r : Repeated) (most : ℕ)
          (is-most : most ≡ repeats q.paramoffs q.sizemask (record { 0 = q.sizeoffs }) (entries (take have kept)) (length body - o.0))
          (given : GivesGroup (repetitions body q.line (members_of (drop (j + 1) (heads_of t))) most 0 o.0 next) s d next d' r)
          (kind : q.kind ≡ 71) where
        a : GroupAt t l count loaded j q is-q h
        a = group_at_lem t l count loaded j q is-q h kind

        pub outer_group_fits : Fits w64 (next + r.count)
        outer_group_fits = group_fits a.group q.line a.rest d' r (the_group q a.group a.is d' r most is-most given)

        pub outer_group : (kept' : List ℕ) (have' : ℕ) → kept' ≡ unvalued_kept offsets kept have
            → have' ≡ unvalued_have offsets have r.times
            → Outer offsets t body s d₀ d' kept' have' r.end.0 (next + r.count) (j + 1)
        outer_group = group_taken a.group q.line a.rest d' r (the_group q a.group a.is d' r most is-most given)

pub ruleset outer_laws = (
  outer_start,
  outer-part,
  outer-size,
  outer-most,
  outer-low,
  outer_next_low,
  outer_end,
  outer-stands,
  outer_pass,
  outer-missing,
  outer-fits,
  outer-take,
  outer_group_fits,
  outer_group,
)
