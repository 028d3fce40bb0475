-- Laws of the benchmark's calls. Assumes nothing.
use mathlib.Core.Path.{◌≡◌, refl, sym, ap, ◌∙◌}
use mathlib.Core.List.{List}
use Prim.Native.Nat.{ℕ, ◌+◌, ◌/◌, ◌≤◌}
use native.Mathlib.Numerals.{add-one}
use native.Mathlib.Omega.{arith}
use lib.ListN.{length}
use mir.Syntax.{w64}
use mir.Val.{Fits}
use Rattle.refusal.specs.declared.Refusal.{Refusal}
use Rattle.refusal.specs.Refusal.{number_of}
use Rattle.text.specs.declared.Place.{Place}
use Rattle.frame_text.specs.Rules.{verdict}
use Rattle.frame_definition.specs.Find.{Counted, FindsBase, IsCandidate, FindsCandidate}
use Rattle.frame_definition.proofs.Candidates.{counted_starts}
use Rattle.frame_definition.specs.declared.Candidate.{Candidate}
use Rattle.header_fields.specs.Fields.{line_width}
use Rattle.header_walk.specs.Walk.{Shaped}
use Rattle.header.specs.Decode.{decoded, Decodes}
use Rattle.header.specs.declared.DecodedHeader.{DecodedHeader}
use Rattle.header.proofs.Laws.{base_readable, base_number, base_few, accepted-text}
use Rattle.bench_walks.specs.Told.{told}
use Rattle.std.specs.Prelude.{Option, Some, Result, Ok, Err}

-- ---- answers
pub tells-header : (x : Result DecodedHeader Refusal) (h : DecodedHeader) → x ≡ Ok h → h.rows ≡ told x
tells-header x h e = rw e refl

pub tells_refusal : (x : Result DecodedHeader Refusal) (y : Refusal) (n : ℕ) → x ≡ Err y → n ≡ number_of y → 1000 + n ≡ told x
tells_refusal x y n e is = rw (e, is) refl

pub tells-decoded : (t d : List ℕ) (region speed : ℕ) (table : List ℕ) (x : Result DecodedHeader Refusal) (table' : List ℕ) (r n : ℕ)
    → Decodes t d region speed table x table' → r ≡ told x → length table ≡ n
    → r ≡ told (decoded t d region speed n)
tells-decoded t d region speed table x table' r n decodes is size = rw (← size) (is ∙ ap told decodes.answer)

pub tells_decoded' : (t d : List ℕ) (region speed : ℕ) (table : List ℕ) (x : Result DecodedHeader Refusal) (table' : List ℕ) (r n : ℕ)
    → Decodes t d region speed table x table' → r ≡ told x → n ≡ length table
    → r ≡ told (decoded t d region speed n)
tells_decoded' t d region speed table x table' r n decodes is size = rw size (is ∙ ap told decodes.answer)

pub tells_first : (t d : List ℕ) (region speed : ℕ) (table : List ℕ) (x : Result DecodedHeader Refusal) (table' : List ℕ) (r : ℕ)
    → Decodes t d region speed table x table' → r ≡ told x → r ≡ told (decoded t d region speed (length table))
tells_first t d region speed table x table' r decodes is = is ∙ ap told decodes.answer

pub tells_unfit : (t d : List ℕ) (region speed n : ℕ) (v : Result (Unit {0}) Refusal) (x : Refusal) (r : ℕ) → v ≡ verdict t → v ≡ Err x
    → r ≡ told (Err x) → r ≡ told (decoded t d region speed n)
tells_unfit t d region speed n v x r e q is = rw (sym e ∙ q) is

-- ---- candidates
module _ (t : List ℕ) (p : Place) (key h n : ℕ) (r : Option Candidate) (finds : FindsCandidate t p key h n r) (c : Candidate) (e : r ≡ Some c) where
  is : IsCandidate t p key h n c
  is = rw e at finds

  pub count-more : Counted t c.place (c.number + 1) c.params
  count-more = rw (add-one c.number) is.counted

  pub count_fits : Fits w64 (c.number + 1)
  count_fits = omega (arith, is.counted.headers_few, is.counted.readable.inn.at_in, is.counted.short)

-- ---- the base
pub base_at : (t : List ℕ) (key : ℕ) (r : Option (Place × ℕ)) (p : Place) (n : ℕ) → FindsBase t key r → r ≡ Some (p, n) → FindsBase t key (Some (p, n))
base_at t key r p n finds e = rw e at finds

-- ---- the walk
pub walk_shaped : (d fields : List ℕ) (count : ℕ) → count ≡ length fields / line_width → length d ≤ 2048 → count ≤ 128 → Shaped d fields count
walk_shaped d fields count e s f = record { short = s; few = f; loaded = omega arith }

pub ruleset laws = (
  tells-header,
  tells_refusal,
  tells-decoded,
  tells_decoded',
  tells_first,
  tells_unfit,
  counted_starts,
  count-more,
  count_fits,
  base_readable,
  base_number,
  base_few,
  accepted-text,
  base_at,
  walk_shaped,
)
