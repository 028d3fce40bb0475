-- What rows of a table say, and a part of bytes.
use Rattle.std.specs.Prelude.{ℕ, ◌+◌, ◌*◌, ◌/◌, cond, ◌&&◌, List, [], leb, ltb, length, get_or, take, drop}

-- number k of row i, of rows so wide, or 0 where there is none
abbrev pub cell_of : List ℕ → ℕ → ℕ → ℕ → ℕ
cell_of rows width i k = cond (ltb k width && ltb i (length rows / width)) (get_or rows (i * width + k) 0) 0

-- so many bytes from a place on, or none where not all of them are there
abbrev pub part_from : List ℕ → ℕ → ℕ → List ℕ
part_from s start count = cond (leb (start + count) (length s)) (take count (drop start s)) []
