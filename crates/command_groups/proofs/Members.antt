-- Laws of the members of a repetition: one for each way through the code. Assumes nothing.
use mathlib.Core.Path.{◌≡◌, refl, sym, ap, ◌∙◌}
use mathlib.Core.Bool.{Bool, true, false}
use mathlib.Core.List.{List, [], ◌∷◌, ◌++◌}
use Prim.Native.Nat.{ℕ, ◌+◌, ◌^◌, ◌≤◌, ◌<◌}
use native.Mathlib.Nat.{add-zero, zero-add}
use native.Mathlib.Omega.{arith}
use mir.Syntax.{w64}
use mir.Val.{Fits}
use lib.ListN.{length, take, drop, set, length-append, length-set}
use Rattle.records.specs.declared.BodyOffset.{BodyOffset}
use Rattle.command_class.specs.Definition.{Parameter}
use Rattle.command_lengths.specs.Entries.{entries}
use Rattle.command_rules.specs.Lengths.{least}
use Rattle.command_rules.specs.declared.Earlier.{Earlier}
use Rattle.command_rules.specs.Field.{field_of}
use Rattle.command_schema.specs.Heads.{heads_of, members_of}
use Rattle.command_schema.specs.Loaded.{loaded_at, field_in, is_member, Stands, IsLoaded}
use Rattle.command_schema.specs.declared.Loaded.{Loaded}
use Rattle.command_schema.proofs.Told.{MemberAt, member_at, no-member_at, none_at, members_small}
use Rattle.command_rows.specs.Rows.{written}
use Rattle.command_rows.proofs.Laws.{written_none, length-written, written-more}
use Rattle.command_rules.specs.Param.{size_at, param_rows, param_entry}
use Rattle.command_param.specs.Steps.{IsRead, ReadsParam}
use Rattle.command_param.specs.declared.Param.{Param}
use Rattle.command_rules.specs.Walk.{ended, after, members}
use Rattle.command_groups.specs.Steps.{Gives}
use Rattle.command_groups.proofs.Entries.{Kept, kept-part, kept-start, kept_push}
use Rattle.command_rules.proofs.Bounds.{members_bound}
use Rattle.command_groups.proofs.Answers.{is_read, is_absent_lem}
use Rattle.std.specs.Prelude.{Option, Some, None}

-- what is left of the members, from loaded row j on
pub record Members (t body : List ℕ) (count i start n parent s : ℕ) (d₀ d kept : List ℕ) (have at next j : ℕ) : Type 0 where
  pub es : List Earlier
  pub kept_are : Kept kept have es
  pub rows : written s d next (members body (members_of (drop j (heads_of t))) at es (n + next) parent).rows
      ≡ written s d₀ 0 (members body (members_of (drop i (heads_of t))) start [] n parent).rows
  pub count_is : next + length (members body (members_of (drop j (heads_of t))) at es (n + next) parent).rows
      ≡ length (members body (members_of (drop i (heads_of t))) start [] n parent).rows
  pub end : (members body (members_of (drop j (heads_of t))) at es (n + next) parent).end ≡ (members body (members_of (drop i (heads_of t))) start [] n parent).end
  pub few : length (members body (members_of (drop i (heads_of t))) start [] n parent).rows < 2 ^ 40
  pub within : j ≤ count
  pub same : length d ≡ length d₀
  pub same_kept : length kept ≡ 256

module _ (t l body : List ℕ) (count i n parent s : ℕ) (loaded : IsLoaded t l count) where
  pub members-start : (start : ℕ) (d₀ kept : List ℕ) → i ≤ count → length body < 65536 → length kept ≡ 256
      → Members t body count i start n parent s d₀ d₀ kept 0 start 0 i
  members-start start d₀ kept h u size =
      let b = members_bound body (members_of (drop i (heads_of t))) start [] n parent (members_small t l count loaded i) in
      let b1 = b.inside in
      let b2 = b.few in
      record {
        es = [];
        kept_are = kept-start kept size;
        rows = rw add-zero refl;
        count_is = rw (add-zero, zero-add) refl;
        end = rw add-zero refl;
        few = omega arith;
        within = h;
        same = refl;
        same_kept = size;
      }

  module _ (start : ℕ) (d₀ d kept : List ℕ) (have : ℕ) (o : BodyOffset) (next j : ℕ)
      (g : Members t body count i start n parent s d₀ d kept have o.0 next j) where
    none_left : members_of (drop j (heads_of t)) ≡ [] → Gives (members body (members_of (drop i (heads_of t))) start [] n parent) s d₀ 0 d
        (record { end = o; count = next })
    unfolding members
    none_left e =
        record {
          rows = sym (written_none s d next) ∙ (rw e at g.rows);
          count = let q = rw e at g.count_is in omega arith;
          end = rw e at g.end;
        }

    pub members-part : have ≡ length (take have kept)
    members-part = kept-part kept g.es have g.kept_are

    pub members_end : count ≤ j → Gives (members body (members_of (drop i (heads_of t))) start [] n parent) s d₀ 0 d (record { end = o; count = next })
    unfolding members_of
    members_end h = none_left (ap members_of (none_at t l count loaded j h))

    pub members-low : n < 2 ^ 49 → n + next < 2 ^ 50
    members-low h = let a = g.few in let b = g.count_is in omega arith

    pub members_next_low : next < 2 ^ 50
    members_next_low = let a = g.few in let b = g.count_is in omega arith

    module _ (q : Loaded) (is-q : q ≡ loaded_at l j) (h : j < count) (x : Bool) (is_x : x ≡ is_member q) where
      pub members_stop : x ≡ false → Gives (members body (members_of (drop i (heads_of t))) start [] n parent) s d₀ 0 d (record { end = o; count = next })
      members_stop f = none_left (no-member_at t l count loaded j q is-q h (sym is_x ∙ f))

      pub members-stands : x ≡ true → Stands t q
      members-stands f = (member_at t l count loaded j q is-q h (sym is_x ∙ f)).is.stands

    -- a member
    module _ (p : Parameter) (rest : members_of (drop j (heads_of t)) ≡ p ∷ members_of (drop (j + 1) (heads_of t))) (h : j < count) where
      absent : size_at body (field_of p) g.es o.0 ≡ None → (d' : List ℕ) → d' ≡ d
          → Gives (members body (members_of (drop i (heads_of t))) start [] n parent) s d₀ 0 d' (record { end = o; count = next })
      unfolding members
      absent e d' ed =
          let nothing : members body (members_of (drop j (heads_of t))) o.0 g.es (n + next) parent ≡ ended o.0 = rw (rest, e) refl in
          record {
            rows = ed ∙ sym (written_none s d next) ∙ (rw nothing at g.rows);
            count = let q = rw nothing at g.count_is in omega arith;
            end = rw nothing at g.end;
          }

      module _ (d' : List ℕ) (e : BodyOffset) (y c : ℕ) (w : IsRead body (field_of p) g.es o.0 (n + next) parent s d next d' e y c) where
        one_more : members body (members_of (drop j (heads_of t))) o.0 g.es (n + next) parent
            ≡ after (param_rows body (field_of p) o.0 w.size (n + next) parent)
            (members body (members_of (drop (j + 1) (heads_of t))) e.0 (g.es ++ (param_entry body o.0 w.size.taken ∷ [])) (n + (next + c)) parent)
        unfolding members
        one_more =
            let z : n + (next + c) ≡ n + next + length (param_rows body (field_of p) o.0 w.size (n + next) parent) = let b = w.count in omega arith in
            rw (rest, w.there, z, w.end) refl

        all-count : next + (length (param_rows body (field_of p) o.0 w.size (n + next) parent) + length
            (members body (members_of (drop (j + 1) (heads_of t))) e.0 (g.es ++ (param_entry body o.0 w.size.taken ∷ []))
            (n + (next + c)) parent).rows)
            ≡ length (members body (members_of (drop i (heads_of t))) start [] n parent).rows
        all-count = rw (one_more, length-append) at g.count_is

        small : Fits w64 (next + c)
        small = let a = g.few in let b = w.count in omega (arith, all-count)

        taken : (kept' : List ℕ) (have' : ℕ) → kept' ≡ set kept have y → have' ≡ least (have + 1) 256
            → Members t body count i start n parent s d₀ d' kept' have' e.0 (next + c) (j + 1)
        taken kept' have' ek eh =
            let b = w.count in
            let r : written s d next (param_rows body (field_of p) o.0 w.size (n + next) parent
            ++ (members body (members_of (drop (j + 1) (heads_of t))) e.0 (g.es ++ (param_entry body o.0 w.size.taken ∷ []))
            (n + (next + c)) parent).rows)
            ≡ written s d₀ 0 (members body (members_of (drop i (heads_of t))) start [] n parent).rows = rw one_more at g.rows in
            let z : next + c ≡ next + length (param_rows body (field_of p) o.0 w.size (n + next) parent) = omega arith in
            record {
              es = g.es ++ (param_entry body o.0 w.size.taken ∷ []);
              kept_are = rw (ek, eh) (kept_push kept g.es have y (param_entry body o.0 w.size.taken) w.entry g.kept_are);
              rows = rw w.rows
                  (written-more s d next (param_rows body (field_of p) o.0 w.size (n + next) parent)
                  (members body (members_of (drop (j + 1) (heads_of t))) e.0 (g.es ++ (param_entry body o.0 w.size.taken ∷ []))
                  (n + (next + c)) parent).rows
                  (next + c) z ∙ r);
              count_is = omega (arith, all-count);
              end = rw one_more at g.end;
              few = g.few;
              within = omega arith;
              same = rw (w.rows, length-written) g.same;
              same_kept = rw (ek, length-set) g.same_kept;
            }

    module _ (q : Loaded) (is-q : q ≡ loaded_at l j) (h : j < count) (x : Bool) (is_x : x ≡ is_member q) (d' : List ℕ) (r : Option Param)
        (given : ReadsParam body (field_in t q) (entries (take have kept)) o.0 (n + next) parent s d next d' r) (member : x ≡ true) where
      m : MemberAt t l count loaded j q is-q h
      m = member_at t l count loaded j q is-q h (sym is_x ∙ member)

      pub members-missing : r ≡ None → Gives (members body (members_of (drop i (heads_of t))) start [] n parent) s d₀ 0 d'
          (record { end = o; count = next })
      members-missing f =
          let v = is_absent_lem t q m.param m.is body kept g.es have g.kept_are o.0 (n + next) parent s d next d' r given f in
          absent m.param m.rest h v.there d' v.rows

      module _ (v : Param) (f : r ≡ Some v) where
        pub members-fits : Fits w64 (next + v.count)
        members-fits = small m.param m.rest h d' v.end v.entry v.count
            (is_read t q m.param m.is body kept g.es have g.kept_are o.0 (n + next) parent s d next d' r given v f)

        pub members-take : (kept' : List ℕ) (have' : ℕ) → kept' ≡ set kept have v.entry → have' ≡ least (have + 1) 256
            → Members t body count i start n parent s d₀ d' kept' have' v.end.0 (next + v.count) (j + 1)
        members-take = taken m.param m.rest h d' v.end v.entry v.count
            (is_read t q m.param m.is body kept g.es have g.kept_are o.0 (n + next) parent s d next d' r given v f)

pub ruleset members_laws =
    (members-start, members-part, members_end, members-low, members_next_low, members_stop, members-stands, members-missing, members-fits, members-take)
