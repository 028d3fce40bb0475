-- What reading a Q answers, over the definition and all entries so far. Assumes nothing.
use mathlib.Core.Path.{◌≡◌, sym, ap, ◌∙◌, subst}
use mathlib.Core.List.{List, ◌++◌}
use Prim.Native.Nat.{ℕ, ◌-◌}
use lib.ListN.{length, take, drop}
use Rattle.command_class.specs.Definition.{Parameter}
use Rattle.command_lengths.specs.Entries.{entries}
use Rattle.command_rules.specs.declared.Earlier.{Earlier}
use Rattle.command_rules.proofs.Lengths.{size_agrees}
use Rattle.command_lengths.proofs.Laws.{size-first}
use Rattle.command_rules.specs.Field.{Field, field_of}
use Rattle.command_schema.specs.Loaded.{field_in}
use Rattle.command_schema.specs.declared.Loaded.{Loaded}
use Rattle.command_schema.proofs.Told.{IsParam}
use Rattle.command_rows.specs.Rows.{row_at}
use Rattle.command_rows.proofs.Laws.{part_back, written_none}
use Rattle.command_rules.specs.Param.{size_at, param_rows}
use Rattle.command_param.specs.Steps.{IsRead, IsAbsent, ReadsParam}
use Rattle.command_param.specs.declared.Param.{Param}
use Rattle.command_groups.proofs.Entries.{Kept}
use Rattle.std.specs.Prelude.{Option, Some, None}

-- a part of the table: from row k on
param-from : (body : List ℕ) (q : Field) (es : List Earlier) (at n parent s left : ℕ) (d ys : List ℕ) (k rest : ℕ) (r : Option Param)
    → rest ≡ row_at s k (length d) → left ≡ s - k
    → ReadsParam body q es at n parent left (take (length d - rest) (drop rest d)) 0 ys r
    → ReadsParam body q es at n parent s d k (take rest d ++ (ys ++ drop (length d - rest) (drop rest d))) r
param-from body q es at n parent s left d ys k rest (Some v) is behind w =
    record {
      size = w.size;
      there = w.there;
      end = w.end;
      agrees = w.agrees;
      entry = w.entry;
      count = w.count;
      rows =
          part_back s d ys k rest left (param_rows body q at w.size n parent) is behind w.rows;
    }
param-from body q es at n parent s left d ys k rest None is behind w =
    record {
      there = w.there;
      rows = part_back s d ys k rest left _ is behind (w.rows ∙ sym (written_none left (take (length d - rest) (drop rest d)) 0))
          ∙ written_none s d k;
    }

pub param-part : (t : List ℕ) (l : Loaded) (body ns : List ℕ) (at n parent s left : ℕ) (d ys : List ℕ) (k rest : ℕ) (r : Option Param)
    → ReadsParam body (field_in t l) (entries ns) at n parent left (take (length d - rest) (drop rest d)) 0 ys r → rest ≡ row_at s k (length d)
    → left ≡ s - k
    → ReadsParam body (field_in t l) (entries ns) at n parent s d k (take rest d ++ (ys ++ drop (length d - rest) (drop rest d))) r
param-part t l body ns at n parent s left d ys k rest r w is behind = param-from body (field_in t l) (entries ns) at n parent s left d ys k rest r is behind w

pub ruleset param_laws = (param-part)

module _ (t : List ℕ) (l : Loaded) (p : Parameter) (is : IsParam t l p) (body kept : List ℕ) (es : List Earlier) (have : ℕ) (k : Kept kept have es)
    (at n parent s : ℕ) (d : List ℕ) (m : ℕ) (d' : List ℕ) (r : Option Param)
    (given : ReadsParam body (field_in t l) (entries (take have kept)) at n parent s d m d' r) where
  by_all : (q : Field) → size_at body q (entries (take have kept)) at ≡ size_at body q es at
  by_all q = ap (λ (xs : List Earlier). size_at body q xs at) k.firsts ∙ size-first q.offset q.mask q.rule es (length body - at)

  pub is_read : (x : Param) → r ≡ Some x → IsRead body (field_of p) es at n parent s d m d' x.end x.entry x.count
  is_read x q =
      let w : IsRead body (field_in t l) (entries (take have kept)) at n parent s d m d' x.end x.entry x.count = rw q at given in
      let v : IsRead body (field_of p) (entries (take have kept)) at n parent s d m d' x.end x.entry x.count =
      subst (λ (f : Field). IsRead body f (entries (take have kept)) at n parent s d m d' x.end x.entry x.count) is.field w in
      let there : size_at body (field_of p) es at ≡ Some v.size = sym (by_all (field_of p)) ∙ v.there in
      record {
        size = v.size;
        there = there;
        end = v.end;
        agrees = size_agrees (field_of p).offset (field_of p).mask (field_of p).rule es (length body - at) v.size there;
        entry = v.entry;
        count = v.count;
        rows = v.rows;
      }

  pub is_absent_lem : r ≡ None → IsAbsent body (field_of p) es at n parent s d m d'
  is_absent_lem q =
      let w : IsAbsent body (field_in t l) (entries (take have kept)) at n parent s d m d' = rw q at given in
      let v : IsAbsent body (field_of p) (entries (take have kept)) at n parent s d m d' =
      subst (λ (f : Field). IsAbsent body f (entries (take have kept)) at n parent s d m d') is.field w in
      record { there = sym (by_all (field_of p)) ∙ v.there; rows = v.rows }
