-- F14, F15 and BF3 (docs/RULES.md): how often a beam stands in the middle bytes of a record, and whom it wakes.
use Rattle.std.specs.Prelude.{Bool, true, false, cond, ◌&&◌, List, [], ◌∷◌, ℕ, zero, suc, ◌+◌, ◌-◌, ◌*◌, ◌/◌, ◌%◌, eqb, leb, ltb, length, get_or, take, drop}
use Rattle.radio.specs.declared.beam.BeamTarget.{BeamTarget}

-- a list starts with the bytes of another
abbrev pub starts_with : List ℕ → List ℕ → Bool
starts_with [] l = true
starts_with (x ∷ xs) [] = false
starts_with (x ∷ xs) (y ∷ ys) = eqb x y && starts_with xs ys

-- F14: the width of a beam among m middle bytes
abbrev pub width_of : ℕ → ℕ → ℕ
width_of rate m = cond (leb (cond (eqb rate 3) 4 3) m) (cond (eqb rate 3) 4 3) m

-- F15: how often `first` is counted in the rest, of which so many bytes belong to what is already counted
abbrev pub again : List ℕ → ℕ → List ℕ → ℕ
again first k [] = 0
again first (suc k) (x ∷ xs) = again first k xs
again first zero (x ∷ xs) = cond (eqb x 0x55 && starts_with first (x ∷ xs)) (again first (length first - 1) xs + 1) (again first 0 xs)

-- F15: the first bytes count 1, and then those that repeat them
unfoldable pub beams_of : ℕ → List ℕ → ℕ
beams_of rate middle = 1 + again (take (width_of rate (length middle)) middle) 0 (drop (width_of rate (length middle)) middle)

-- BF3: a number of a beam as it is told, by the middle byte that ends it: one more than it, or 0 where that byte isn't there
abbrev pub told_by : ℕ → List ℕ → ℕ → ℕ
told_by last middle n = cond (ltb last (length middle)) (n + 1) 0

-- BF3: whom a beam of an ordinary rate wakes: its node and the hash of its home id, a byte each
abbrev pub ordinary_target : List ℕ → BeamTarget
ordinary_target middle = record { node = told_by 1 middle (get_or middle 1 0); hash = told_by 2 middle (get_or middle 2 0); power = 0 }

-- BF3: the two bytes behind a marker as one number, the high byte first
abbrev pub joined_of : List ℕ → ℕ
joined_of middle = get_or middle 1 0 * 256 + get_or middle 2 0

-- BF3: and at Long Range: that number's top four bits are the power and its low twelve the node, the byte behind it is the hash
abbrev pub long_target : List ℕ → BeamTarget
long_target middle =
    record {
      node = told_by 2 middle (joined_of middle % 4096);
      hash = told_by 3 middle (get_or middle 3 0);
      power = told_by 2 middle (joined_of middle / 4096);
    }

-- BF3: whom a beam wakes, by its rate
unfoldable pub target_of : ℕ → List ℕ → BeamTarget
target_of rate middle = cond (eqb rate 3) (long_target middle) (ordinary_target middle)

-- what is told of no target
abbrev pub no_target : BeamTarget
no_target = record { node = 0; hash = 0; power = 0 }
