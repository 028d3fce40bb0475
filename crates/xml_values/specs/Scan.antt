-- X4 (docs/RULES.md): white space, and the letters of which names are made.
use Rattle.std.specs.Prelude.{ℕ, suc, Bool, cond, ◌&&◌, ◌||◌, List, [], ◌∷◌, leb, eqb, length, take, drop}

-- X4: a space, a tab, a line end or a carriage return
abbrev pub is_white : ℕ → Bool
is_white x = eqb x 0x20 || (eqb x 0x09 || (eqb x 0x0a || eqb x 0x0d))

-- how many white bytes stand at the front of l
abbrev pub lead : List ℕ → ℕ
lead [] = 0
lead (x ∷ xs) = cond (is_white x) (suc (lead xs)) 0

-- l behind its white space
abbrev pub skip : List ℕ → List ℕ
skip l = drop (lead l) l

-- is every byte of l white
abbrev pub white : List ℕ → Bool
white l = eqb (lead l) (length l)

abbrev pub is_letter : ℕ → Bool
is_letter x = leb 0x41 x && (leb x 0x5a || (leb 0x61 x && leb x 0x7a))

-- how many letters stand at the front of l
abbrev pub word_len : List ℕ → ℕ
word_len [] = 0
word_len (x ∷ xs) = cond (is_letter x) (suc (word_len xs)) 0

-- X4: the name at the front of l, and what stands behind it
abbrev pub word : List ℕ → List ℕ
word l = take (word_len l) l

abbrev pub after : List ℕ → List ℕ
after l = drop (word_len l) l
