-- TO1 to TO5 (docs/RULES.md): the totals of a capture, and what one payload adds to them.
use Rattle.std.specs.Prelude.{◌≡◌, Bool, true, cond, ◌&&◌, List, [], ◌∷◌, ℕ, suc, ◌+◌, ◌*◌, eqb, leb, length, get_or, take, drop, Result, Ok, Err}
use Rattle.refusal.specs.declared.Refusal.TheVariants.{TooLong, PastLimit, Firmware}
use Rattle.refusal.specs.Refusal.{most_payload, number_of, carried_by}
use Rattle.frame_text.specs.Rules.{verdict}
use Rattle.frame.specs.declared.Reading.{Reading}
use Rattle.frame.specs.declared.Rules.{Rules}
use Rattle.frame.specs.Frame.{region_bits, rules_of}
use Rattle.pti.specs.Payload.{rows_of}
use Rattle.header_rules.specs.Table.{most_numbers}
use Rattle.header.specs.Decode.{decoded}
use Rattle.header.specs.declared.DecodedHeader.{DecodedHeader}
use Rattle.refusal.specs.declared.Refusal.{Refusal}

-- ---- TO1: the totals, by their places: the first are counts by key and rate

abbrev pub key_at : ℕ → ℕ → ℕ
key_at key rate = key * 4 + rate

abbrev pub wrong_at : ℕ
wrong_at = 1024

abbrev pub beams_at : ℕ
beams_at = 1025

abbrev pub repeats_at : ℕ
repeats_at = 1026

abbrev pub bytes_at : ℕ
bytes_at = 1027

-- the place of refusal n: 5, 6 or 7
abbrev pub refused_at : ℕ → ℕ
refused_at n = 1023 + n

-- how many totals there are
abbrev pub size : ℕ
size = 1031

-- ---- TO2, TO3: what one frame counts: places of totals, each with how much it adds there

-- TO3: refused by 5, 6 or 7
abbrev pub refused_counts : ℕ → List (ℕ × ℕ)
refused_counts n = cond (leb 5 n && leb n 7) ((refused_at n, 1) ∷ []) []

-- TO3: by what `decode_header` answers at this rate
abbrev pub header_counts : ℕ → Result DecodedHeader Refusal → List (ℕ × ℕ)
header_counts rate (Ok h) = (key_at h.key rate, 1) ∷ (wrong_at, cond h.right 0 1) ∷ []
header_counts rate (Err x) = refused_counts (number_of x)

-- TO2: a beam that stands there so often
abbrev pub beam_counts : ℕ → List (ℕ × ℕ)
beam_counts repeats = (beams_at, 1) ∷ (repeats_at, repeats) ∷ []

-- F17: the columns of a frame's row that are read
abbrev pub rate_in : List ℕ → ℕ
rate_in row = get_or row 3 0

abbrev pub beams_in : List ℕ → ℕ
beams_in row = get_or row 5 0

abbrev pub mpdu_in : List ℕ → List ℕ → List ℕ
mpdu_in s row = take (get_or row 7 0) (drop (get_or row 6 0) s)

-- TO2: the frame of a row of the payload s, by the text t at a region: a beam, or what its header counts at its own rate, in a table of 128 rows
abbrev pub kind_counts : List ℕ → ℕ → List ℕ → List ℕ → List (ℕ × ℕ)
kind_counts t region s row =
    cond (eqb (beams_in row) 0) (header_counts (rate_in row) (decoded t (mpdu_in s row) region (rate_in row) most_numbers))
    (beam_counts (beams_in row))

-- TO2: and its bytes
unfoldable pub frame_counts : List ℕ → ℕ → List ℕ → List ℕ → List (ℕ × ℕ)
frame_counts t region s row = (bytes_at, get_or row 7 0) ∷ kind_counts t region s row

-- ---- TO4: the sums over frames

-- how much these counts add at a place
abbrev pub amount_at : ℕ → List (ℕ × ℕ) → ℕ
amount_at i [] = 0
amount_at i (p ∷ ps) = cond (eqb p.0 i) p.1 0 + amount_at i ps

-- TO4: how much the frames of these rows add there, each by itself
abbrev pub grown_at : (List ℕ → List (ℕ × ℕ)) → List (List ℕ) → ℕ → ℕ
grown_at f [] i = 0
grown_at f (r ∷ rs) i = amount_at i (f r) + grown_at f rs i

-- TO4: what the total at a place grows by, for a payload s by the rules w
abbrev pub growth : Rules → List ℕ → ℕ → List ℕ → ℕ → ℕ
growth w t region s = grown_at (frame_counts t region s) (rows_of w s)

-- totals, from place i on, each with what it grows by
abbrev pub raised : (ℕ → ℕ) → ℕ → List ℕ → List ℕ
raised g i [] = []
raised g i (x ∷ xs) = (x + g i) ∷ raised g (suc i) xs

-- TO4: the totals with a payload added
abbrev pub raised_by : Rules → List ℕ → ℕ → List ℕ → List ℕ → List ℕ
raised_by w t region s totals = raised (growth w t region s) 0 totals

-- ---- TO5: the answer

-- TO5: the greatest total, 2^63 - 1
abbrev pub most : ℕ
most = 9223372036854775807

-- TO5: are all totals within the limit
abbrev pub within : List ℕ → Bool
within [] = true
within (x ∷ xs) = leb x most && within xs

-- TO5, R10: by an accepted text: 4, then 10
abbrev pub added_in : Rules → List ℕ → ℕ → List ℕ → List ℕ → Result (Unit {0}) Refusal
added_in w t region s totals =
    cond (leb (length s) most_payload) (cond (within (raised_by w t region s totals)) (Ok tt) (Err PastLimit)) (Err (TooLong (length s)))

-- R1 to R3
abbrev pub judged : Result (Unit {0}) Refusal → Result (Unit {0}) Refusal → Result (Unit {0}) Refusal
judged (Ok tt) r = r
judged (Err x) r = Err x

-- TO5, R10: the text, then the payload
abbrev pub added_by : Rules → List ℕ → ℕ → List ℕ → List ℕ → Result (Unit {0}) Refusal
added_by w t region s totals = judged (verdict t) (added_in w t region s totals)

-- TO5, FV2: 13 first
abbrev pub added_of : ℕ → Reading → List ℕ → ℕ → List ℕ → List ℕ → Result (Unit {0}) Refusal
added_of firmware reading t region s totals =
    cond (eqb (region_bits firmware) 0) (Err (Firmware firmware)) (added_by (rules_of firmware reading) t region s totals)

-- TO5: an answer in numbers: 0, or the number of the refusal, and what it carries
abbrev pub said : Result (Unit {0}) Refusal → ℕ × ℕ
said (Ok tt) = (0, 0)
said (Err x) = (number_of x, carried_by x)

-- TO4, R12: the totals after an answer or a refusal
abbrev pub totals_after : Rules → List ℕ → ℕ → List ℕ → List ℕ → Result (Unit {0}) Refusal → List ℕ
totals_after w t region s totals (Ok tt) = raised_by w t region s totals
totals_after w t region s totals (Err x) = totals

-- TO4, TO5: what a call of `add_payload` answers and leaves
pub record Adds (firmware : ℕ) (reading : Reading) (t : List ℕ) (region : ℕ) (s totals : List ℕ) (r : Result (Unit {0}) Refusal) (totals' : List ℕ) : Type 0 where
  pub answer : r ≡ added_of firmware reading t region s totals
  pub after : totals' ≡ totals_after (rules_of firmware reading) t region s totals r
