-- Laws of writing the tidied text. Assumes nothing.
use mathlib.Core.Path.{◌≡◌, refl, sym, ◌∙◌}
use mathlib.Core.Bool.{Bool, true, false, cond, ◌&&◌}
use mathlib.Core.List.{List}
use Prim.Native.Nat.{ℕ, suc, ◌+◌, ◌≤◌, ◌<◌}
use native.Mathlib.Omega.{arith}
use native.Mathlib.Numerals.{add-one}
use lib.Dec.{eqb}
use lib.ListN.{length, get_or, set, drop, length-set}
use lib.Seq.{sets}
use borrow.Author.Tests.{eq-eqb, ne_eqb}
use Rattle.laws.proofs.Lists.{next, done}
use Rattle.refusal.specs.declared.Refusal.{Refusal}
use Rattle.text.specs.Judge.{Checks}
use Rattle.buffer.specs.Buffer.{Writes}
use Rattle.buffer.proofs.Laws.{writes_short, writes_room, length_by}
use Rattle.command_text.specs.Rules.{rules, verdict}
use Rattle.tidy.specs.Tidy.{tidy_byte, tidy_from, tidied, Tidies}
use Rattle.tidy.proofs.TidiedText.{tidied-length}
use Rattle.std.specs.Prelude.{Result, Ok, Err}

-- ---- a byte
module _ (first : Bool) (x : ℕ) where
  pub byte_enum : x ≡ 85 → first ≡ true → 83 ≡ tidy_byte first x
  byte_enum e f = rw (f, eq-eqb x 85 e)

  pub byte_other : (x ≡ 85 → ⊥) → x ≡ tidy_byte first x
  byte_other h = rw (ne_eqb x 85 h) (go first)
    where
      go : (f : Bool) → x ≡ cond (f && false) 83 x
      go true = refl
      go false = refl

  pub byte_inner : first ≡ false → x ≡ tidy_byte first x
  byte_inner f = rw f

pub ruleset byte_laws = (byte_enum, byte_other, byte_inner)

-- ---- byte by byte: with what is left of the tidied text written, the buffer is the one that is asked for
pub record Tidying (t b₀ b : List ℕ) (i : ℕ) (first : Bool) : Type 0 where
  pub rest : sets b i (tidy_from first (drop i t)) ≡ sets b₀ 0 (tidied t)
  pub room : length t ≤ length b₀
  pub same : length b ≡ length b₀
  pub within : i ≤ length t

pub tidying_starts : (t b : List ℕ) → length t ≤ length b → Tidying t b b 0 true
unfolding tidied
tidying_starts t b room = record { rest = refl; room = room; same = refl; within = omega arith }

module _ (t b₀ b : List ℕ) (i : ℕ) (first : Bool) (p : Tidying t b₀ b i first) where
  pub tidying_more : (v : ℕ) → i < length t → v ≡ tidy_byte first (get_or t i 0) → Tidying t b₀ (set b i v) (i + 1) (eqb (get_or t i 0) 10)
  tidying_more v h e =
      let s : i + 1 ≡ suc i = add-one i in
      record {
        rest = rw (e, s) (rw (next t i h, s) at p.rest);
        room = p.room;
        same = rw length-set p.same;
        within = omega arith;
      }

  pub tidying_inside : i < length t → i < length b
  tidying_inside h = omega (arith, p.same, p.room)

  pub tidying_done : length t ≤ i → b ≡ sets b₀ 0 (tidied t)
  tidying_done h = rw (done t i h) at p.rest

pub ruleset write_laws = (tidying_starts, tidying_more, tidying_inside, tidying_done)

-- ---- the answer
pub as_long : (t : List ℕ) → length t ≡ length (tidied t)
as_long t = sym (tidied-length t)

module _ (t b : List ℕ) (v : Result (Unit {0}) Refusal) (is : Checks rules t v) where
  pub tidies_accepted : (r : Result ℕ Refusal) (b' : List ℕ) → v ≡ Ok tt → Writes (tidied t) b r b' → Tidies t b r b'
  tidies_accepted r b' e w = record { answer = w.answer ∙ rw (← is.is, e); buffer = w.buffer }

  pub tidies_refused : (x : Refusal) → v ≡ Err x → Tidies t b (Err x) b
  tidies_refused x e = record { answer = rw (← is.is, e); buffer = refl }

-- for callers: so many bytes stand in the buffer
pub length-within : (t b : List ℕ) (r : Result ℕ Refusal) (b' : List ℕ) (n : ℕ) → Tidies t b r b' → r ≡ Ok n → n ≤ length b'
length-within t b r b' n so e = length_by (verdict t) (tidied t) b (length (tidied t)) r b' n (λ z. refl) so.answer so.buffer e

pub ruleset laws = (byte_laws, write_laws, as_long, writes_short, writes_room, tidies_accepted, tidies_refused)
