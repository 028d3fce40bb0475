-- Laws of loading an accepted text. Assumes nothing.
use mathlib.Core.Path.{◌≡◌, refl, sym, ap, ◌∙◌, subst}
use mathlib.Core.Bool.{Bool, true, false, cond}
use mathlib.Core.List.{List, [], ◌∷◌, ◌++◌, append_assoc, append-nil}
use Prim.Native.Nat.{ℕ, suc, ◌+◌, ◌-◌, ◌*◌, ◌≤◌, ◌<◌}
use native.Mathlib.Nat.{add-zero}
use native.Mathlib.Omega.{arith}
use lib.Dec.{eqb}
use lib.ListN.{length, get_or, take, drop, length-append, get_or-append}
use lib.Seq.{sets-eq, length-take-le, get_or-take, get_or-append-add}
use Rattle.rows.specs.Rows.{put}
use Rattle.rows.proofs.Laws.{put-room}
use Rattle.rows.proofs.Parts.{length-put}
use Rattle.text.specs.Text.{lines}
use Rattle.text.specs.Records.{records, Readable}
use Rattle.text.specs.declared.Place.{Place}
use Rattle.text.proofs.Reading.{readable-start, rest_end}
use Rattle.command_text.specs.Form.{Param, Group, Record, param, group, item, variant, array, bit_flag, bit_field, const, bitmask, form}
use Rattle.command_text.specs.Rules.{rules, verdict}
use Rattle.command_class.specs.Definition.{Item, numbered, under, letter}
use Rattle.command_class.specs.Find.{from, Says, IsRead}
use Rattle.command_class.specs.Print.{Fits}
use Rattle.command_class.specs.declared.Row.{Row}
use Rattle.command_class.specs.declared.Read.{Read}
use Rattle.command_class.proofs.Limits.{accepted-within}
use Rattle.command_lengths.specs.Entries.{given}
use Rattle.command_rules.specs.Field.{first, as_variant, as_array, as_bitmask, rule_of, is_named}
use Rattle.command_schema.specs.Heads.{Head, is_q, is_g, onto, heads, heads_of}
use Rattle.command_schema.specs.Gathered.{gathered_none, gathered, Gathers, bitmask_in, array_in, variant_in, length_number}
use Rattle.command_schema.specs.Loaded.{loaded_width, SmallHeads, numbers, loaded_at, TellsQ, Tells, Told, IsLoaded, loaded_param, loaded_group, Stores}
use Rattle.command_rules.specs.Limits.{count_bits}
use Rattle.command_schema.specs.declared.Loaded.{Loaded}
use Rattle.command_schema.specs.declared.items.Under.{Under}
use Rattle.command_schema.proofs.Heads.{heads-count, heads_small}
use Rattle.command_schema.proofs.Resolving.{AllFit, from_fit, under-from_fit, given_back, gathered_bitmask, gathered_array, gathered_variant}
use Rattle.command_schema.proofs.Resolving.{gathered_bits, rule_by, rule_back, bitmask_small, array_small, variant_agrees}
use Rattle.std.specs.Prelude.{Ok}

-- ---- rows of the table

module _ (d : List ℕ) (at : ℕ) (vs : List ℕ) (room : at + length vs ≤ length d) where
  written : put d at vs ≡ take at d ++ (vs ++ drop (at + length vs) d)
  written = put-room d vs at room ∙ sets-eq vs d at room ∙ append_assoc (take at d) vs (drop (at + length vs) d)

  front : length (take at d) ≡ at
  front = length-take-le at d (omega arith)

  -- what is written there
  got : (j : ℕ) → j < length vs → get_or (put d at vs) (at + j) 0 ≡ get_or vs j 0
  got j h =
      let e : get_or (take at d ++ (vs ++ drop (at + length vs) d)) (length (take at d) + j) 0 ≡ get_or (vs ++ drop (at + length vs) d) j 0 =
      get_or-append-add (take at d) (vs ++ drop (at + length vs) d) j 0 in
      rw written (rw front at e) ∙ get_or-append vs (drop (at + length vs) d) 0 j h

  -- what stands before it
  kept : (k : ℕ) → k < at → get_or (put d at vs) k 0 ≡ get_or d k 0
  kept k h = rw written (get_or-append (take at d) (vs ++ drop (at + length vs) d) 0 k (rw front h)) ∙ get_or-take at d k 0 h

module _ (d : List ℕ) (n : ℕ) (l : Loaded) (room : n * loaded_width + loaded_width ≤ length d) where
  -- the row that was written
  loaded_new : loaded_at (put d (n * loaded_width) (numbers l)) n ≡ l
  unfolding loaded_at
  loaded_new =
      rw (
        at_0,
        got d (n * loaded_width) (numbers l) room 1 (omega arith),
        got d (n * loaded_width) (numbers l) room 2 (omega arith),
        got d (n * loaded_width) (numbers l) room 3 (omega arith),
        got d (n * loaded_width) (numbers l) room 4 (omega arith),
        got d (n * loaded_width) (numbers l) room 5 (omega arith),
        got d (n * loaded_width) (numbers l) room 6 (omega arith),
        got d (n * loaded_width) (numbers l) room 7 (omega arith),
        got d (n * loaded_width) (numbers l) room 8 (omega arith),
        got d (n * loaded_width) (numbers l) room 9 (omega arith),
        got d (n * loaded_width) (numbers l) room 10 (omega arith),
        got d (n * loaded_width) (numbers l) room 11 (omega arith),
      ) refl
    where
      at_0 : get_or (put d (n * loaded_width) (numbers l)) (n * loaded_width) 0 ≡ l.kind
      at_0 = rw add-zero at (got d (n * loaded_width) (numbers l) room 0 (omega arith))

  -- the rows before it
  loaded_old : (k : ℕ) → k < n → loaded_at (put d (n * loaded_width) (numbers l)) k ≡ loaded_at d k
  unfolding loaded_at
  loaded_old k h =
      rw (
        kept d (n * loaded_width) (numbers l) room (k * loaded_width) (omega arith),
        kept d (n * loaded_width) (numbers l) room (k * loaded_width + 1) (omega arith),
        kept d (n * loaded_width) (numbers l) room (k * loaded_width + 2) (omega arith),
        kept d (n * loaded_width) (numbers l) room (k * loaded_width + 3) (omega arith),
        kept d (n * loaded_width) (numbers l) room (k * loaded_width + 4) (omega arith),
        kept d (n * loaded_width) (numbers l) room (k * loaded_width + 5) (omega arith),
        kept d (n * loaded_width) (numbers l) room (k * loaded_width + 6) (omega arith),
        kept d (n * loaded_width) (numbers l) room (k * loaded_width + 7) (omega arith),
        kept d (n * loaded_width) (numbers l) room (k * loaded_width + 8) (omega arith),
        kept d (n * loaded_width) (numbers l) room (k * loaded_width + 9) (omega arith),
        kept d (n * loaded_width) (numbers l) room (k * loaded_width + 10) (omega arith),
        kept d (n * loaded_width) (numbers l) room (k * loaded_width + 11) (omega arith),
      ) refl

-- one row more tells one head more
told_more : (t d d' : List ℕ) (i : ℕ) (hs : List Head) (h : Head) → Told t d i hs
    → ((k : ℕ) → k < i + length hs → loaded_at d' k ≡ loaded_at d k) → Tells t (loaded_at d' (i + length hs)) h
    → Told t d' i (hs ++ (h ∷ []))
told_more t d d' i [] h told same new = (rw add-zero at new, tt)
told_more t d d' i (x ∷ xs) h told same new =
    let e : i + 1 + length xs ≡ i + length (x ∷ xs) = omega arith in
    let s : loaded_at d' i ≡ loaded_at d i = same i (omega arith) in
    (rw s told.0, told_more t d d' (i + 1) xs h told.1 (λ k l. same k (omega arith)) (rw e new))

-- ---- the row of a Q

-- a line of the kind Q or G
q_said : (x : Record) → letter x ≡ 81 → (q : Param) × (x ≡ param q)
q_said (param q) e = (q, refl)
q_said (group g) e = absurd (let z : ◌≡◌ {A = ℕ} 71 81 = e in omega arith)
q_said (item (variant v)) e = absurd (let z : ◌≡◌ {A = ℕ} 82 81 = e in omega arith)
q_said (item (array n a)) e = absurd (let z : ◌≡◌ {A = ℕ} 65 81 = e in omega arith)
q_said (item (bit_flag m n)) e = absurd (let z : ◌≡◌ {A = ℕ} 84 81 = e in omega arith)
q_said (item (bit_field b)) e = absurd (let z : ◌≡◌ {A = ℕ} 83 81 = e in omega arith)
q_said (item (const v n)) e = absurd (let z : ◌≡◌ {A = ℕ} 75 81 = e in omega arith)
q_said (item (bitmask l)) e = absurd (let z : ◌≡◌ {A = ℕ} 77 81 = e in omega arith)

g_said : (x : Record) → letter x ≡ 71 → (g : Group) × (x ≡ group g)
g_said (param q) e = absurd (let z : ◌≡◌ {A = ℕ} 81 71 = e in omega arith)
g_said (group g) e = (g, refl)
g_said (item (variant v)) e = absurd (let z : ◌≡◌ {A = ℕ} 82 71 = e in omega arith)
g_said (item (array n a)) e = absurd (let z : ◌≡◌ {A = ℕ} 65 71 = e in omega arith)
g_said (item (bit_flag m n)) e = absurd (let z : ◌≡◌ {A = ℕ} 84 71 = e in omega arith)
g_said (item (bit_field b)) e = absurd (let z : ◌≡◌ {A = ℕ} 83 71 = e in omega arith)
g_said (item (const v n)) e = absurd (let z : ◌≡◌ {A = ℕ} 75 71 = e in omega arith)
g_said (item (bitmask l)) e = absurd (let z : ◌≡◌ {A = ℕ} 77 71 = e in omega arith)

no-head : (x : Record) → (letter x ≡ 81 → ⊥) → (letter x ≡ 71 → ⊥) → (n : ℕ) (is : List Item) (hs : List Head) → onto n x is hs ≡ hs
no-head (param q) a b n is hs = absurd (a refl)
no-head (group g) a b n is hs = absurd (b refl)
no-head (item d) a b n is hs = refl

named_back : (b : Bool) → eqb (cond b 1 0) 1 ≡ b
named_back true = refl
named_back false = refl

-- a Q's row tells it
module _ (t : List ℕ) (p : Place) (r : Row) (next : Place) (u : Under) (q : Param) (says : Says (param q) r) (count : next.line ≡ p.line + 1)
    (fit : Fits (param q)) (readable : Readable rules t next) (short : length t ≤ 60000) (all : Gathers t next u) where
  fit_items : AllFit (under (from t next))
  fit_items = under-from_fit t next

  m_is : bitmask_in u.gathered ≡ first as_bitmask (under (from t next))
  m_is = rw all.all (gathered_bitmask gathered_none (under (from t next)) fit_items)

  a_is : array_in u.gathered ≡ first as_array (under (from t next))
  a_is = rw all.all (gathered_array gathered_none (under (from t next)) fit_items)

  r_is : variant_in u.gathered ≡ first as_variant (under (from t next))
  r_is = rw all.all (gathered_variant gathered_none (under (from t next)) fit_items)

  offset_is : given r.offset ≡ q.offset
  offset_is = rw says.2 (given_back q.offset fit.offset)

  mask_is : given r.mask ≡ q.mask
  mask_is = rw says.3 (given_back q.mask fit.mask)

  rule_is : rule_by (length_number (rule_of r.typed (bitmask_in u.gathered) (array_in u.gathered) (variant_in u.gathered)))
      u.gathered.variant.paramoffs u.gathered.variant.sizemask u.gathered.variant.sizeoffs
      ≡ rule_of q.type (first as_bitmask (under (from t next))) (first as_array (under (from t next))) (first as_variant (under (from t next)))
  rule_is =
      rule_back u.gathered.variant.paramoffs u.gathered.variant.sizemask u.gathered.variant.sizeoffs r.typed (bitmask_in u.gathered)
      (array_in u.gathered) (variant_in u.gathered)
      (rw m_is (bitmask_small (under (from t next)) fit_items)) (rw a_is (array_small (under (from t next)) fit_items)) (variant_agrees u.gathered)
      ∙ rw (says.1, m_is, a_is, r_is) refl

  named_is : eqb (cond (is_named r.typed (array_in u.gathered) (variant_in u.gathered)) 1 0) 1
      ≡ is_named q.type (first as_array (under (from t next))) (first as_variant (under (from t next)))
  named_is = named_back (is_named r.typed (array_in u.gathered) (variant_in u.gathered)) ∙ rw (says.1, a_is, r_is) refl

  bits_is : u.gathered.bits ≡ count_bits (under (from t next))
  bits_is = rw all.all (gathered_bits gathered_none (under (from t next)) ∙ omega arith)

  tells_q : TellsQ t (loaded_param r p next u.gathered) (record { line = p.line; says = q; items = under (from t next) })
  tells_q =
      record {
        kind = refl;
        level = says.0;
        field = rw (← count, offset_is, mask_is, rule_is, named_is) refl;
        stands = record {
          readable = rw (← count) readable;
          bits = rw (← count) bits_is;
          few = let a = all.few in let b =
              all.readable.inn.at_in in omega arith;
        };
      }

-- ---- the loop: the rows so far tell the heads so far, and those of what is left at the place follow
pub record Loading (t d₀ d : List ℕ) (p : Place) (n : ℕ) : Type 0 where
  pub done : List Head
  pub count : n ≡ length done
  pub all : heads_of t ≡ done ++ heads (from t p)
  pub told : Told t d 0 done
  pub size : length (heads_of t) * loaded_width ≤ length d
  pub small : SmallHeads (heads_of t)
  pub same : length d ≡ length d₀
  pub readable : Readable rules t p
  pub few : length (heads_of t) ≤ 256
  pub most : n ≤ 256
  pub short : length t ≤ 60000

pub loading_start : (t d : List ℕ) (p : Place) → verdict t ≡ Ok tt → length (heads_of t) * loaded_width ≤ length d
    → p ≡ record { at = 0; line = 1 } → Loading t d d p 0
loading_start t d p e size q =
    let w = accepted-within t e in
    record {
      done = [];
      count = refl;
      all = rw q refl;
      told = tt;
      size = size;
      small = heads_small 1 (records form (lines t)) w.1.under;
      same = refl;
      readable = readable-start rules t p e q;
      most = omega arith;
      few = rw (heads-count 1 (records form (lines t))) w.1.lines;
      short = w.0;
    }

module _ (t d₀ d : List ℕ) (p : Place) (n : ℕ) (k : Loading t d₀ d p n) where
  pub loading_end : length t ≤ p.at → IsLoaded t d n
  unfolding heads
  loading_end h =
      let none : from t p ≡ [] = ap (numbered p.line) (rest_end rules t p h) in
      let all : heads_of t ≡ k.done = k.all ∙ ap (λ (is : List Item). k.done ++ heads is) none ∙ append-nil k.done in
      let count : n ≡ length (heads_of t) = k.count ∙ ap length (sym all) in
      record { count = count; few = k.most; size = let s = k.size in omega arith; small = k.small; told = rw all k.told }

  pub loading_line : p.line < 65536
  loading_line = let a = k.readable.inn.line_in in let b = k.readable.inn.at_in in let s = k.short in omega arith

  module _ (read : Read) (is_read : IsRead t p read) where
    pub loading_at : read.next.at < 65536
    loading_at = let b = is_read.next.inn.at_in in let s = k.short in omega arith

    pub loading_next_less : length t - read.next.at < length t - p.at
    loading_next_less = let a = is_read.on in let b = is_read.next.inn.at_in in omega arith

    -- another line
    pub loading_pass : (read.row.kind ≡ 81 → ⊥) → (read.row.kind ≡ 71 → ⊥) → Loading t d₀ d read.next n
    unfolding heads
    loading_pass a b =
        let same : heads (from t p) ≡ heads (from t read.next) =
        ap heads is_read.lines ∙ no-head is_read.said (λ z. a (is_read.kind ∙ z)) (λ z. b (is_read.kind ∙ z)) p.line (from t read.next)
        (heads (from t read.next)) in
        record {
          done = k.done;
          count = k.count;
          all = k.all ∙ ap (λ (hs : List Head). k.done ++ hs) same;
          told = k.told;
          size = k.size;
          small = k.small;
          same = k.same;
          readable = is_read.next;
          few = k.few;
          most = k.most;
          short = k.short;
        }

    -- one head more
    module _ (h : Head) (next : Place) (left : heads (from t p) ≡ h ∷ heads (from t next)) where
      room : n < length (heads_of t)
      room =
          let c = k.count in
          let all : length (heads_of t) ≡ length k.done + suc (length (heads (from t next))) =
          ap length (k.all ∙ ap (λ (hs : List Head). k.done ++ hs) left) ∙ length-append k.done (h ∷ heads (from t next)) in
          omega arith

      one_more : (l : Loaded) (d' : List ℕ) → Tells t l h → d' ≡ put d (n * loaded_width) (numbers l) → Readable rules t next
          → Loading t d₀ d' next (n + 1)
      one_more l d' tells e readable =
          let c = k.count in
          let s = k.size in
          let f = k.few in
          let r = room in
          let rows : n * loaded_width + loaded_width ≤ length d = omega arith in
          let new : loaded_at d' n ≡ l = rw e (loaded_new d n l rows) in
          let place : 0 + length k.done ≡ n = omega arith in
          record {
            done = k.done ++ (h ∷ []);
            count = rw length-append (omega arith);
            all = k.all ∙ rw left (sym (append_assoc k.done (h ∷ []) (heads (from t next))));
            told = told_more t d d' 0 k.done h k.told (λ i l'. rw e (loaded_old d n l rows i (omega arith))) (rw (place, new) tells);
            size = rw (e, length-put) s;
            small = k.small;
            same = rw (e, length-put) k.same;
            readable = readable;
            few = k.few;
            most = omega arith;
            short = k.short;
          }

    -- a Q
    module _ (q : Param) (said : is_read.said ≡ param q) where
      q_left : heads (from t p) ≡ is_q (record { line = p.line; says = q; items = under (from t read.next) }) ∷ heads (from t read.next)
      unfolding heads
      q_left = rw (is_read.lines, said) refl

      q_more : (u : Under) (l : Loaded) (d' : List ℕ) → Gathers t read.next u → l ≡ loaded_param read.row p read.next u.gathered
          → d' ≡ put d (n * loaded_width) (numbers l) → Loading t d₀ d' u.next (n + 1)
      q_more u l d' gathers el ed =
          let all_fit : AllFit (record { line = p.line; says = is_read.said } ∷ from t read.next) = rw is_read.lines at (from_fit t p) in
          let says : Says (param q) read.row = subst (λ (x : Record). Says x read.row) said is_read.says in
          one_more _ u.next (q_left ∙ ap (λ (hs : List Head). is_q (record { line = p.line; says = q; items = under (from t read.next) }) ∷ hs)
          gathers.heads-left) l d'
          (rw el (tells_q t p read.row read.next u q says is_read.count (subst Fits said all_fit.0) is_read.next k.short gathers)) ed
          gathers.readable

    module _ (is-q : read.row.kind ≡ 81) where
      the_q : (q : Param) × (is_read.said ≡ param q)
      the_q = q_said is_read.said (sym is_read.kind ∙ is-q)

      pub loading_q_room : n < 256
      loading_q_room = let f = k.few in omega (arith, room _ read.next (q_left the_q.0 the_q.1))

      module _ (q : Place) (d' : List ℕ) (stores : Stores t p read.row read.next n d q d') where
        pub loading_q_less : length t - q.at < length t - p.at
        loading_q_less =
            let a = is_read.on in
            let b = stores.gathers.on in
            let c = stores.gathers.readable.inn.at_in in
            rw stores.place (omega arith)

        pub loading_q : Loading t d₀ d' q (n + 1)
        loading_q = rw stores.place (q_more the_q.0 the_q.1 stores.under_it _ d' stores.gathers refl stores.table)

    -- a G
    module _ (g : Group) (said : is_read.said ≡ group g) where
      g_left : heads (from t p) ≡ is_g p.line g ∷ heads (from t read.next)
      unfolding heads
      g_left = rw (is_read.lines, said) refl

      g_more : (l : Loaded) (d' : List ℕ) → l ≡ loaded_group read.row p → d' ≡ put d (n * loaded_width) (numbers l)
          → Loading t d₀ d' read.next (n + 1)
      g_more l d' el ed =
          let says : Says (group g) read.row = subst (λ (x : Record). Says x read.row) said is_read.says in
          one_more _ read.next g_left l d' (rw el (record { kind = refl; line_is = refl; offset = says.0; mask = says.1; shift = says.2 })) ed
          is_read.next

    module _ (is-g : read.row.kind ≡ 71) where
      the_g : (g : Group) × (is_read.said ≡ group g)
      the_g = g_said is_read.said (sym is_read.kind ∙ is-g)

      pub loading_g_room : n < 256
      loading_g_room = let f = k.few in omega (arith, room _ read.next (g_left the_g.0 the_g.1))

      pub loading_g : (l : Loaded) (d' : List ℕ) → l ≡ loaded_group read.row p → d' ≡ put d (n * loaded_width) (numbers l)
          → Loading t d₀ d' read.next (n + 1)
      loading_g l d' el ed = g_more the_g.0 the_g.1 l d' el ed

-- a Q is stored
pub stored : (t : List ℕ) (p : Place) (row : Row) (next : Place) (i : ℕ) (d : List ℕ) (u : Under) (l : Loaded) (d' : List ℕ) → Gathers t next u
    → l ≡ loaded_param row p next u.gathered → d' ≡ put d (i * loaded_width) (numbers l)
    → Stores t p row next i d u.next d'
stored t p row next i d u l d' gathers el ed = record { under_it = u; gathers = gathers; place = refl; table = rw el at ed }

pub stored_at : (t : List ℕ) (next : Place) → Readable rules t next → length t ≤ 60000 → next.at < 65536
stored_at t next r short = let b = r.inn.at_in in omega arith

pub ruleset load_laws = (
  stored,
  stored_at,
  loading_start,
  loading_end,
  loading_line,
  loading_at,
  loading_next_less,
  loading_pass,
  loading_q_room,
  loading_q_less,
  loading_q,
  loading_g_room,
  loading_g,
)
