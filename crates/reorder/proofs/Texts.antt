-- Two texts that differ in the order of their H blocks: their numbers, and what they define. Assumes nothing.
use mathlib.Core.Path.{◌≡◌, sym, ap, ◌∙◌, subst}
use mathlib.Core.List.{List, ◌++◌, map}
use Prim.Native.Nat.{ℕ, ◌≤◌}
use native.Mathlib.Omega.{arith}
use lib.ListN.{length}
use Rattle.text.specs.Text.{lines}
use Rattle.text.specs.Print.{Every}
use Rattle.frame_definition.specs.Definition.{Frame, frequencies, bases, frames, sets, definition}
use Rattle.reorder.specs.Moved.{Moved}
use Rattle.reorder.specs.Blocks.{from, Section, tally, until_next, sections, blocks, lines_of, header_numbers, param_numbers, ended, Line, says_of}
use Rattle.reorder.specs.Blocks.{sections_of}
use Rattle.reorder.specs.Reorder.{Reordered, new_header, new_param, Follows}
use Rattle.reorder.proofs.Moved.{collect, sum, moved_sum}
use Rattle.reorder.proofs.Parts.{frequency_at, frame_at, set_at, in_section, frequencies_in, bases_in, frames_in, sets_in, records_of_lem}
use Rattle.reorder.proofs.Places.{every_moved, sum_moved, frequencies_stay, bases_stay, sets_stay, frames_move}
use Rattle.reorder.proofs.Numbers.{occurs, occurs_append, occurs_from, from-length, places}
use Rattle.reorder.proofs.Sections.{Proper, sections_proper, bare, none_before, sections_again, headers-from, params-from, params-all, header_once}
use Rattle.reorder.proofs.Sections.{headers_occur, param_once, params_occur, headers_many, params_many}
use Rattle.reorder.proofs.Whole.{has_ended}
use Rattle.reorder.proofs.Follow.{rebase, reframe, AllGo, all_go, frames_go, bases_go, collect_same, frequency_free, set_free}

-- numbers that rise by one from 0 are as many as they are
counted : (xs : List ℕ) (m : ℕ) → xs ≡ from 0 m → from 0 (length xs) ≡ xs
counted xs m e = ap (λ (k : ℕ). from 0 k) (ap (λ (z : List ℕ). length z) e ∙ from-length 0 m) ∙ sym e

module _ (t t' : List ℕ) (w : Reordered t t') where
  abbrev X : List (Section Line)
  X = sections_of t

  abbrev Y : List (Section Line)
  Y = w.order

  abbrev Z : List (Section Line)
  Z = sections_of t'

  proper : Every (Proper says_of) Y
  proper = every_moved says_of (Proper says_of) X Y w.others w.moved (sections_proper says_of (ended (lines t)) 0 0)

  ended_are : ended (lines t') ≡ lines_of says_of Y
  ended_are = has_ended t' (lines_of says_of Y) w.has

  pub same_lines : map (bare says_of) Y ≡ map (bare says_of) Z
  same_lines = sym (sections_again says_of Y proper 0 0) ∙ ap (λ (ls : List Line). map (bare says_of) (sections says_of 0 0 ls)) (sym ended_are)

  -- ---- the numbers
  headers-once : (k : ℕ) → occurs k (header_numbers says_of Y) ≤ 1
  headers-once k =
      let a : occurs k (header_numbers says_of Y) ≡ sum (header_once says_of k) (blocks says_of Y) = headers_occur says_of k (blocks says_of Y) in
      let b : sum (header_once says_of k) (blocks says_of X) ≡ sum (header_once says_of k) (blocks says_of Y) =
      moved_sum (header_once says_of k) (blocks says_of X) (blocks says_of Y) w.moved in
      let c : occurs k (header_numbers says_of X) ≡ sum (header_once says_of k) (blocks says_of X) = headers_occur says_of k (blocks says_of X) in
      subst (λ (m : ℕ). m ≤ 1) (sym (a ∙ sym b ∙ sym c ∙ ap (occurs k) (headers-from says_of (ended (lines t)) 0 0)))
      (occurs_from k 0 (tally says_of 0x48 (ended (lines t))))

  params-once : (k : ℕ) → occurs k (param_numbers says_of Y) ≤ 1
  params-once k =
      let a : occurs k (param_numbers says_of Y) ≡ sum (param_once says_of k) Y = params_occur says_of k Y in
      let b : sum (param_once says_of k) X ≡ sum (param_once says_of k) Y = sum_moved says_of (param_once says_of k) X Y w.others w.moved in
      let c : occurs k (param_numbers says_of X) ≡ sum (param_once says_of k) X = params_occur says_of k X in
      subst (λ (m : ℕ). m ≤ 1) (sym (a ∙ sym b ∙ sym c)) (go (params-from says_of (ended (lines t)) 0 0))
    where
      front : List ℕ
      front = from 0 (tally says_of 0x50 (until_next says_of (ended (lines t))))

      go : front ++ param_numbers says_of X ≡ from 0 (tally says_of 0x50 (ended (lines t))) → occurs k (param_numbers says_of X) ≤ 1
      go e =
          let p = occurs_append k front (param_numbers says_of X) in
          let q = ap (occurs k) e in
          let r = occurs_from k 0 (tally says_of 0x50 (ended (lines t))) in
          omega (arith, p, q, r)

  -- the numbers follow their lines
  pub follows : Follows (new_header Y) (new_param Y) Y Z
  follows =
      record {
        headers =
            places (header_numbers says_of Y) headers-once
            ∙ ap (λ (k : ℕ). from 0 k) (headers_many says_of Y Z same_lines)
            ∙ counted (header_numbers says_of Z) (tally says_of 0x48 (ended (lines t'))) (headers-from says_of (ended (lines t')) 0 0);
        params =
            places (param_numbers says_of Y) params-once
            ∙ ap (λ (k : ℕ). from 0 k) (params_many says_of Y Z same_lines)
            ∙ counted (param_numbers says_of Z) (tally says_of 0x50 (ended (lines t')))
            (params-all says_of (ended (lines t')) 0 0 (ap (until_next says_of) ended_are ∙ none_before says_of Y proper));
      }

  -- ---- the definition, for any numbers that follow their lines
  module _ (h g : ℕ → ℕ) (f : Follows h g Y Z) where
    go : AllGo says_of h g Y Z
    go = all_go says_of h g Y Z same_lines f.headers f.params

    pub frequencies-same : (definition t').frequencies ≡ (definition t).frequencies
    frequencies-same =
        ap frequencies (records_of_lem (lines t'))
        ∙ frequencies_in says_of (ended (lines t'))
        ∙ collect_same says_of frequency_at frequency_free Y Z same_lines
        ∙ sym (frequencies_stay says_of X Y w.others)
        ∙ sym (frequencies_in says_of (ended (lines t)))
        ∙ sym (ap frequencies (records_of_lem (lines t)))

    pub sets_same : (definition t').sets ≡ (definition t).sets
    sets_same =
        ap sets (records_of_lem (lines t'))
        ∙ sets_in says_of (ended (lines t'))
        ∙ collect_same says_of set_at set_free Y Z same_lines
        ∙ sym (sets_stay says_of X Y w.others)
        ∙ sym (sets_in says_of (ended (lines t)))
        ∙ sym (ap sets (records_of_lem (lines t)))

    pub bases-same : (definition t').bases ≡ map (rebase h g) (definition t).bases
    bases-same =
        ap (bases 0) (records_of_lem (lines t'))
        ∙ bases_in says_of (ended (lines t'))
        ∙ bases_go says_of h g Y Z go
        ∙ ap (map (rebase h g)) (sym (bases_stay says_of X Y w.others) ∙ sym (bases_in says_of (ended (lines t)))
        ∙ sym (ap (bases 0) (records_of_lem (lines t))))

    -- the H lines of t as they stand in t'
    abbrev pub standing_frames : List Frame
    standing_frames = collect (in_section says_of frame_at) Y

    pub frames-moved : Moved (definition t).frames standing_frames
    frames-moved =
        subst (λ (z : List Frame). Moved z standing_frames) (sym (ap (frames 0 0) (records_of_lem (lines t)) ∙ frames_in says_of (ended (lines t))))
        (frames_move says_of X Y w.moved)

    pub frames-same : (definition t').frames ≡ map (reframe h g) standing_frames
    frames-same = ap (frames 0 0) (records_of_lem (lines t')) ∙ frames_in says_of (ended (lines t')) ∙ frames_go says_of h g Y Z go
