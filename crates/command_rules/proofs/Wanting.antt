-- L4 of every walk: the bytes of a parameter's row and those that it lacks are what its Q wants; and with it demand 3 of a command. Assumes nothing.
use mathlib.Core.Path.{◌≡◌, refl, sym, ap, ◌∙◌, subst}
use mathlib.Core.Bool.{Bool, true, false, cond}
use mathlib.Core.List.Memᴰ
use mathlib.Core.List.{List, [], ◌∷◌, ◌++◌, append_assoc, append-nil, map, map-append, Memᴰ}
use Prim.Native.Nat.{ℕ, zero, suc, ◌+◌, ◌-◌, ◌%◌, ◌≤◌, ◌<◌}
use native.Mathlib.Numerals.{add-one}
use native.Mathlib.Omega.{arith}
use lib.Dec.{eqb, ltb}
use lib.ListN.{length, get_or, drop, replicate, length-append, length-drop}
use lib.Seq.{length-take-le}
use borrow.Author.Tests.{ne_eqb, ltb-true}
use Rattle.command_text.specs.Form.{Group}
use Rattle.command_class.specs.Definition.{Parameter, Entry, single, repeated}
use Rattle.command_rules.specs.Lengths.{repeats, wanted, Agrees}
use Rattle.command_rules.specs.declared.Rule.{Rule}
use Rattle.command_rules.specs.declared.Wanted.{Wanted}
use Rattle.command_rules.specs.declared.Earlier.{Earlier}
use Rattle.command_rules.specs.declared.Earlier.TheVariants.{Value, NoValue}
use Rattle.command_rules.specs.declared.Length.{Length}
use Rattle.command_rules.specs.declared.Row.{Row}
use Rattle.command_rules.specs.Field.{Field, field_of}
use Rattle.command_rules.specs.Param.{in_payload, value_of, valued, or_zero, entry_of, bit_rows, row_of, bytes_at, size_at, param_rows, param_entry}
use Rattle.command_rules.specs.Walk.{Walked, ended, after, once, on_size, members, turn, repetition_row, repetitions, group_at, unvalued, outer, walk}
use Rattle.command_rules.specs.declared.Offsets.{Offsets}
use Rattle.command_rules.specs.declared.Offsets.TheVariants.{Answered, Position}
use Rattle.command_rules.specs.Sum.{children_of, Follow, Placed, entry_in, entries_behind, params_of, slots, Meets, AllMeet, Adds}
use Rattle.command_rules.specs.Limits.{SmallEntries, Lined}
use Rattle.command_rules.proofs.Lengths.{size_agrees}
use Rattle.command_rules.proofs.Bounds.{size_facts, walk_inside}
use Rattle.command_rules.proofs.Sums.{children_append, neither, Leaves, bits_leaves, Shape, shape, param-none, param_one, Inner, inner_members}
use Rattle.command_rules.proofs.Sums.{repetition_one}
use Rattle.command_rules.proofs.Slots.{OnLine, Under, Passed, under_later, on-under, passed_later, Kept, kept_own, kept-none, kept_group, kept-found}
use Rattle.command_rules.proofs.Sums.{outermost, follow_sum, cut-outer}
use Rattle.std.specs.Prelude.{Option, Some, None}

abbrev Among : Parameter → List Parameter → Type 0
Among q qs = Memᴰ q qs

-- ---- the entry that a row is
entry_own : (u : Option ℕ) → cond (eqb (valued u) 1) (Value (or_zero u % 256)) NoValue ≡ entry_of u
entry_own (Some v) = refl
entry_own None = refl

first-row : (a b : Row) (xs ys : List Row) → a ∷ xs ≡ b ∷ ys → a ≡ b
first-row a b xs ys e = cc

module _ (body : List ℕ) (q : Field) (es : List Earlier) (at : ℕ) (size : Length) (n parent : ℕ) (there : size_at body q es at ≡ Some size) where
  abbrev own : Row
  own = row_of q parent (in_payload at) (bytes_at body at size.taken) size.lacking

  abbrev formed : Shape (param_rows body q at size n parent) at size.taken n parent
  formed = shape body q es at size n parent there

  own_child : parent ≤ n → children_of parent (param_rows body q at size n parent) ≡ own ∷ []
  unfolding param_rows
  own_child h =
      param_one (param_rows body q at size n parent) at size.taken n parent formed h
      ∙ ap (λ (r : Row). r ∷ []) (sym (first-row own formed.row _ formed.kids formed.is))

  own_entry : entry_in own ≡ param_entry body at size.taken
  unfolding param_entry
  own_entry = entry_own (value_of (bytes_at body at size.taken))

  -- the entries of its list, with it
  with_own : (before : List Row) → parent ≤ n → es ≡ map entry_in (children_of parent before)
      → es ++ (param_entry body at size.taken ∷ []) ≡ map entry_in (children_of parent (before ++ param_rows body q at size n parent))
  with_own before h known =
      sym
      (ap (map entry_in) (children_append parent before (param_rows body q at size n parent)
      ∙ ap (λ (l : List Row). children_of parent before ++ l) (own_child h))
      ∙ map-append entry_in (children_of parent before) (own ∷ [])
      ∙ ap (λ (l : List Earlier). l ++ (entry_in own ∷ [])) (sym known)
      ∙ ap (λ (e : Earlier). es ++ (e ∷ [])) own_entry)

  own_rows : 1 ≤ length (param_rows body q at size n parent)
  own_rows = omega (arith, ap length formed.is)

  -- no later row's children are among its rows
  own_fresh : (c : ℕ) → parent ≤ n → n + length (param_rows body q at size n parent) < c → children_of c (param_rows body q at size n parent) ≡ []
  own_fresh c h u =
      param-none (param_rows body q at size n parent) at size.taken n parent formed c (λ z. omega (arith, own_rows)) (λ z. omega (arith, own_rows))

  -- L4
  own_agrees : Agrees (wanted q.rule es) (record { taken = own.end - own.start; lacking = size.lacking })
  own_agrees =
      let f = size_facts body q es at size there in
      let f1 = f.1 in
      let long : length (bytes_at body at size.taken) ≡ size.taken = length-take-le size.taken (drop at body) (rw length-drop f1) in
      let taken : size.taken ≡ in_payload at + length (bytes_at body at size.taken) - in_payload at = omega arith in
      subst (λ (k : ℕ). Agrees (wanted q.rule es) (record { taken = k; lacking = size.lacking })) taken
      (size_agrees q.offset q.mask q.rule es (length body - at) size there)

-- ---- rows that stand together
module _ (offsets : Offsets) (all : List Entry) where
  -- an offset finds among these entries what it finds behind these rows
  abbrev Finds : List Earlier → ℕ → List Row → Type 0
  Finds es parent before = (rule : Rule) → wanted rule es ≡ wanted rule (entries_behind offsets all parent before)

  met-none : (before : List Row) → AllMeet offsets all before []
  unfolding AllMeet
  met-none before = tt

  met-append : (before a b : List Row) → AllMeet offsets all before a → AllMeet offsets all (before ++ a) b → AllMeet offsets all before (a ++ b)
  unfolding AllMeet
  met-append before [] b h k = rw append-nil at k
  met-append before (r ∷ a) b h k =
      (h.0, met-append (before ++ (r ∷ [])) a b h.1 (subst (λ (l : List Row). AllMeet offsets all l b) (sym (append_assoc before (r ∷ []) a)) k))

  met_leaves : (before : List Row) (p s : ℕ) (ks : List Row) → Leaves p s ks → AllMeet offsets all before ks
  unfolding AllMeet Leaves
  met_leaves before p s [] h = tt
  met_leaves before p s (k ∷ ks) h = (λ z. absurd (omega (arith, h.0)), met_leaves (before ++ (k ∷ [])) p s ks h.4)

  met-param : (body : List ℕ) (q : Parameter) (es : List Earlier) (at : ℕ) (size : Length) (n parent : ℕ) (before : List Row)
      → size_at body (field_of q) es at ≡ Some size → Among q (params_of all) → Finds es parent before
      → AllMeet offsets all before (param_rows body (field_of q) at size n parent)
  unfolding AllMeet param_rows
  met-param body q es at size n parent before there stands finds = (λ z. mine, kids (eqb (length (bytes_at body at size.taken)) 1))
    where
      mine : Meets offsets all before (row_of (field_of q) parent (in_payload at) (bytes_at body at size.taken) size.lacking)
      mine = record {
        param = q;
        stands = stands;
        line = refl;
        agrees = subst (λ (w : Wanted). Agrees w
            (record { taken = in_payload at + length (bytes_at body at size.taken) - in_payload at; lacking = size.lacking })) (finds (field_of q).rule)
            (own_agrees body (field_of q) es at size n parent there);
      }

      kids : (x : Bool) → AllMeet offsets all (before ++ (row_of (field_of q) parent (in_payload at) (bytes_at body at size.taken) size.lacking ∷ []))
          (cond x (bit_rows (get_or (bytes_at body at size.taken) 0 0) (n + 1) (in_payload at) q.items) [])
      kids true =
          met_leaves (before ++ (row_of (field_of q) parent (in_payload at) (bytes_at body at size.taken) size.lacking ∷ [])) (n + 1) (in_payload at)
          (bit_rows (get_or (bytes_at body at size.taken) 0 0) (n + 1) (in_payload at) q.items)
          (bits_leaves (get_or (bytes_at body at size.taken) 0 0) (n + 1) (in_payload at) q.items)
      kids false = met-none (before ++ (row_of (field_of q) parent (in_payload at) (bytes_at body at size.taken) size.lacking ∷ []))

  -- ---- what a walk gives behind the rows before, of which the next is row n
  record Met (before : List Row) (n : ℕ) (rows : List Row) : Type 0 where
    met : AllMeet offsets all before rows
    fresh : (c : ℕ) → n + length rows < c → children_of c rows ≡ []

  met_end : (before : List Row) (n : ℕ) → Met before n []
  unfolding children_of
  met_end before n = record { met = met-none before; fresh = λ c h. refl }

  met-more : (body : List ℕ) (q : Parameter) (es : List Earlier) (at : ℕ) (size : Length) (n parent : ℕ) (before rows : List Row)
      → size_at body (field_of q) es at ≡ Some size → Among q (params_of all) → parent ≤ n → Finds es parent before
      → Met (before ++ param_rows body (field_of q) at size n parent) (n + length (param_rows body (field_of q) at size n parent)) rows
      → Met before n (param_rows body (field_of q) at size n parent ++ rows)
  met-more body q es at size n parent before rows there stands low finds rest =
      let rs : List Row = param_rows body (field_of q) at size n parent in
      record {
        met = met-append before rs rows (met-param body q es at size n parent before there stands finds) rest.met;
        fresh = λ c h.
            let whole : n + length (rs ++ rows) ≡ n + length rs + length rows = rw length-append (omega arith) in
            neither c rs rows (own_fresh body (field_of q) es at size n parent there c low (omega (arith, whole))) (rest.fresh c (omega (arith, whole)));
      }

  inner_entries : (o : Offsets) (p : ℕ) (before : List Row) → 0 < p → entries_behind o all p before ≡ map entry_in (children_of p before)
  inner_entries Answered p before some = refl
  inner_entries Position zero before some = absurd (omega (arith, some))
  inner_entries Position (suc p) before some = refl

  finds_inner : (es : List Earlier) (p : ℕ) (before : List Row) → 0 < p → es ≡ map entry_in (children_of p before) → Finds es p before
  finds_inner es p before some known rule = ap (wanted rule) (known ∙ sym (inner_entries offsets p before some))

  met-members : (body : List ℕ) (qs : List Parameter) (at : ℕ) (es : List Earlier) (n parent : ℕ) (before : List Row)
      → ((q : Parameter) → Among q qs → Among q (params_of all)) → 0 < parent → parent ≤ n → es ≡ map entry_in (children_of parent before)
      → Met before n (members body qs at es n parent).rows
  unfolding members
  met-members body [] at es n parent before stand inner low known = met_end before n
  met-members body (q ∷ qs) at es n parent before stand inner low known =
      go (size_at body (field_of q) es at) refl
      (λ at' es' n' before'. met-members body qs at' es' n' parent before' (λ p i. stand p (Memᴰ.tail i)) inner)
    where
      go : (s : Option Length) → size_at body (field_of q) es at ≡ s
          → ((at' : ℕ) (es' : List Earlier) (n' : ℕ) (before' : List Row) → parent ≤ n'
          → es' ≡ map entry_in (children_of parent before')
          → Met before' n' (members body qs at' es' n' parent).rows)
          → Met before n
          (on_size s
          (λ size.
          after (param_rows body (field_of q) at size n parent)
          (members body qs (at + size.taken) (es ++ (param_entry body at size.taken ∷ []))
          (n + length (param_rows body (field_of q) at size n parent)) parent))
          (ended at)).rows
      go (Some size) e more =
          met-more body q es at size n parent before _ e (stand q (Memᴰ.head refl)) low (finds_inner es parent before inner known)
          (more (at + size.taken) (es ++ (param_entry body at size.taken ∷ [])) (n + length (param_rows body (field_of q) at size n parent))
          (before ++ param_rows body (field_of q) at size n parent) (omega arith) (with_own body (field_of q) es at size n parent e before low known))
      go None e more = met_end before n

  -- ---- a repetition: its row is the entry, without value
  record Turned (line : ℕ) (before : List Row) (n : ℕ) (w : Walked) : Type 0 where
    given : Met before n w.rows
    entries : map entry_in (children_of 0 w.rows) ≡ replicate w.times NoValue
    lines : OnLine line (children_of 0 w.rows)

  turned_end : (line : ℕ) (before : List Row) (n at : ℕ) → Turned line before n (ended at)
  unfolding children_of
  turned_end line before n at = record { given = met_end before n; entries = refl; lines = tt }

  module _ (before : List Row) (line k at n : ℕ) (m : Walked) (clear : (c : ℕ) → n < c → children_of c before ≡ []) where
    abbrev head : Row
    head = repetition_row line at m.end k

    -- its members begin a list
    turned_new : [] ≡ map entry_in (children_of (n + 1) (before ++ (head ∷ [])))
    unfolding children_of repetition_row
    turned_new = sym (ap (map entry_in) (neither (n + 1) before (head ∷ []) (clear (n + 1) (omega arith)) (rw (ne_eqb 0 (n + 1) (λ z. omega arith)) refl)))

    module _ (given : Met (before ++ (head ∷ [])) (n + 1) m.rows) where
      turned_fresh : (c : ℕ) → n + 1 + length m.rows < c → children_of c (head ∷ m.rows) ≡ []
      unfolding children_of repetition_row
      turned_fresh c h = rw (ne_eqb 0 c (λ z. omega arith)) (given.fresh c h)

      turned_clear : (c : ℕ) → n + 1 + length m.rows < c → children_of c (before ++ (head ∷ m.rows)) ≡ []
      turned_clear c h = neither c before (head ∷ m.rows) (clear c (omega arith)) (turned_fresh c h)

      turned_met : AllMeet offsets all before (head ∷ m.rows)
      unfolding AllMeet repetition_row
      turned_met = (λ z. absurd (omega arith), given.met)

      turned_more : Inner m at (n + 1) (n + 1) → at < m.end → (w : Walked) → Turned line (before ++ (head ∷ m.rows)) (n + 1 + length m.rows) w
          → Turned line before n (after (head ∷ m.rows) (once w))
      unfolding repetition_row
      turned_more inside took w rest =
          record {
            given = record {
              met = met-append before (head ∷ m.rows) w.rows turned_met rest.given.met;
              fresh = λ c h.
                  let whole : n + length ((head ∷ m.rows) ++ w.rows) ≡ n + 1 + length m.rows + length w.rows =
                  let z = length-append m.rows w.rows in omega arith in
                  neither c (head ∷ m.rows) w.rows (turned_fresh c (omega (arith, whole))) (rest.given.fresh c (omega (arith, whole)));
            };
            entries =
                ap (map entry_in) (children_append 0 (head ∷ m.rows) w.rows ∙ ap (λ (l : List Row). l ++ children_of 0 w.rows)
                (repetition_one line k at n m inside took))
                ∙ ap (λ (l : List Earlier). NoValue ∷ l) rest.entries ∙ ap (λ (x : ℕ). replicate x NoValue) (sym (add-one w.times));
            lines =
                subst (OnLine line) (sym (children_append 0 (head ∷ m.rows) w.rows ∙ ap (λ (l : List Row). l ++ children_of 0 w.rows)
                (repetition_one line k at n m inside took))) (refl, rest.lines);
          }

  met-repetitions : (body : List ℕ) (line : ℕ) (qs : List Parameter) (most k at n : ℕ) (before : List Row)
      → ((q : Parameter) → Among q qs → Among q (params_of all)) → ((c : ℕ) → n < c → children_of c before ≡ [])
      → Turned line before n (repetitions body line qs most k at n)
  unfolding repetitions turn
  met-repetitions body line qs zero k at n before stand clear = turned_end line before n at
  met-repetitions body line qs (suc most) k at n before stand clear =
      go (members body qs at [] (n + 1) (n + 1)) (inner_members body qs at [] (n + 1) (n + 1))
      (λ m is. subst (λ (w : Walked). Met (before ++ (repetition_row line at m.end k ∷ [])) (n + 1) w.rows) is
      (met-members body qs at [] (n + 1) (n + 1) (before ++ (repetition_row line at m.end k ∷ [])) stand (omega arith) (omega arith)
      (turned_new before line k at n m clear)))
      refl
      (λ m before' clear'. met-repetitions body line qs most (k + 1) m.end (n + 1 + length m.rows) before' stand clear')
    where
      go : (m : Walked) → Inner m at (n + 1) (n + 1)
          → ((m : Walked) → members body qs at [] (n + 1) (n + 1) ≡ m → Met (before ++ (repetition_row line at m.end k ∷ [])) (n + 1) m.rows)
          → members body qs at [] (n + 1) (n + 1) ≡ m
          → ((m : Walked) (before' : List Row) → ((c : ℕ) → n + 1 + length m.rows < c → children_of c before' ≡ [])
          → Turned line before' (n + 1 + length m.rows) (repetitions body line qs most (k + 1) m.end (n + 1 + length m.rows)))
          → Turned line before n (cond (ltb at m.end) (after (repetition_row line at m.end k ∷ m.rows)
          (once (repetitions body line qs most (k + 1) m.end (n + 1 + length m.rows)))) (ended at))
      go m inside given is more = by (ltb at m.end) refl
        where
          by : (x : Bool) → ltb at m.end ≡ x
              → Turned line before n (cond x (after (repetition_row line at m.end k ∷ m.rows)
              (once (repetitions body line qs most (k + 1) m.end (n + 1 + length m.rows)))) (ended at))
          by true e =
              turned_more before line k at n m clear (given m is) inside (ltb-true at m.end e) _
              (more m (before ++ (repetition_row line at m.end k ∷ m.rows)) (turned_clear before line k at n m clear (given m is)))
          by false e = turned_end line before n at

  -- ---- the outer list: what the walk has passed of the definition, the entries, and the outer rows so far
  record Knows (done ds : List Entry) (low : ℕ) (es : List Earlier) (tops : List Row) : Type 0 where
    whole : all ≡ done ++ ds
    lined : Lined low ds
    under : Under low tops
    passed : Passed low done
    kept : Kept offsets done es tops

  knows_found : (done ds : List Entry) (low : ℕ) (es : List Earlier) (before : List Row) → Knows done ds low es (children_of 0 before) → Finds es 0 before
  knows_found done ds low es before k rule = go offsets k.kept
    where
      go : (o : Offsets) → Kept o done es (children_of 0 before) → wanted rule es ≡ wanted rule (entries_behind o all 0 before)
      go Answered kept = ap (wanted rule) kept
      go Position kept =
          kept-found low done es (children_of 0 before) k.passed ds rule kept k.lined k.under
          ∙ ap (λ (l : List Entry). wanted rule (slots l (children_of 0 before))) (sym k.whole)

  module _ (done ds : List Entry) (low : ℕ) (es : List Earlier) (tops : List Row) where
    further : (d : Entry) → all ≡ done ++ (d ∷ ds) → all ≡ (done ++ (d ∷ [])) ++ ds
    further d e = e ∙ sym (append_assoc done (d ∷ []) ds)

    knows_own : (q : Parameter) (own : Row) (e : Earlier) → Knows done (single q ∷ ds) low es tops → own.line ≡ q.line → entry_in own ≡ e
        → Knows (done ++ (single q ∷ [])) ds (suc q.line) (es ++ (e ∷ [])) (tops ++ (own ∷ []))
    knows_own q own e k on is =
        let h : low ≤ q.line = k.lined.0 in
        record {
          whole = further (single q) k.whole;
          lined = k.lined.1;
          under = under_later low (suc q.line) tops (own ∷ []) (omega (arith, h)) k.under (omega (arith, on), tt);
          passed = passed_later low (suc q.line) done (single q ∷ []) (omega (arith, h)) k.passed (omega arith, tt);
          kept = kept_own low done es tops k.passed offsets q own e k.kept k.under h on is;
        }

    knows_none : (q : Parameter) → Knows done (single q ∷ ds) low es tops
        → Knows (done ++ (single q ∷ [])) ds (suc q.line) (es ++ unvalued offsets 0) tops
    knows_none q k =
        let h : low ≤ q.line = k.lined.0 in
        record {
          whole = further (single q) k.whole;
          lined = k.lined.1;
          under = rw append-nil at (under_later low (suc q.line) tops [] (omega (arith, h)) k.under tt);
          passed = passed_later low (suc q.line) done (single q ∷ []) (omega (arith, h)) k.passed (omega arith, tt);
          kept = kept-none low done es tops k.passed offsets q k.kept k.under h;
        }

    knows_group : (line : ℕ) (g : Group) (qs : List Parameter) (times : ℕ) (reps : List Row) → Knows done (repeated line g qs ∷ ds) low es tops
        → map entry_in reps ≡ replicate times NoValue → OnLine line reps
        → Knows (done ++ (repeated line g qs ∷ [])) ds (suc line) (es ++ unvalued offsets times) (tops ++ reps)
    knows_group line g qs times reps k are on =
        let h : low ≤ line = k.lined.0 in
        record {
          whole = further (repeated line g qs) k.whole;
          lined = k.lined.1;
          under = under_later low (suc line) tops reps (omega (arith, h)) k.under (on-under line reps on);
          passed = passed_later low (suc line) done (repeated line g qs ∷ []) (omega (arith, h)) k.passed tt;
          kept = kept_group low done es tops k.passed offsets line g qs times reps k.kept h are on;
        }

  -- the rest of the outer list meets what it wants
  abbrev Goes : List ℕ → List Entry → Type 0
  Goes body ds = (done : List Entry) (low at : ℕ) (es : List Earlier) (n : ℕ) (before : List Row) → Knows done ds low es (children_of 0 before)
      → ((c : ℕ) → n < c → children_of c before ≡ []) → AllMeet offsets all before (outer offsets body ds at es n).rows

  met-outer : (body : List ℕ) (ds : List Entry) → ((q : Parameter) → Among q (params_of ds) → Among q (params_of all)) → Goes body ds
  unfolding outer group_at params_of
  met-outer body [] stand done low at es n before k clear = met-none before
  met-outer body (single q ∷ ds) stand done low at es n before k clear =
      go (size_at body (field_of q) es at) refl (met-outer body ds (λ p i. stand p (Memᴰ.tail i)))
    where
      go : (s : Option Length) → size_at body (field_of q) es at ≡ s → Goes body ds
          → AllMeet offsets all before
          (on_size s
          (λ size.
          after (param_rows body (field_of q) at size n 0)
          (outer offsets body ds (at + size.taken) (es ++ (param_entry body at size.taken ∷ [])) (n + length (param_rows body (field_of q) at size n 0))))
          (outer offsets body ds at (es ++ unvalued offsets 0) n)).rows
      go (Some size) e more =
          let rs : List Row = param_rows body (field_of q) at size n 0 in
          let tops : children_of 0 (before ++ rs) ≡ children_of 0 before ++ (own body (field_of q) es at size n 0 e ∷ []) =
          children_append 0 before rs ∙ ap (λ (l : List Row). children_of 0 before ++ l) (own_child body (field_of q) es at size n 0 e (omega arith)) in
          met-append before rs _
          (met-param body q es at size n 0 before e (stand q (Memᴰ.head refl)) (knows_found done (single q ∷ ds) low es before k))
          (more (done ++ (single q ∷ [])) (suc q.line) (at + size.taken) (es ++ (param_entry body at size.taken ∷ [])) (n + length rs) (before ++ rs)
          (subst (Knows (done ++ (single q ∷ [])) ds (suc q.line) (es ++ (param_entry body at size.taken ∷ []))) (sym tops)
          (knows_own done ds low es (children_of 0 before) q (own body (field_of q) es at size n 0 e) (param_entry body at size.taken) k refl
          (own_entry body (field_of q) es at size n 0 e)))
          (λ c h. neither c before rs (clear c (omega arith)) (own_fresh body (field_of q) es at size n 0 e c (omega arith) h)))
      go None e more =
          more (done ++ (single q ∷ [])) (suc q.line) at (es ++ unvalued offsets 0) n before (knows_none done ds low es (children_of 0 before) q k) clear
  met-outer body (repeated line g qs ∷ ds) stand done low at es n before k clear =
      go (repetitions body line qs (repeats g.offset g.mask (record { 0 = g.shift }) es (length body - at)) 0 at n)
      (met-repetitions body line qs (repeats g.offset g.mask (record { 0 = g.shift }) es (length body - at)) 0 at n before
      (λ p i. stand p (Memᴰ.append_left (params_of ds) i)) clear)
      (met-outer body ds (λ p i. stand p (Memᴰ.append_right qs i)))
    where
      go : (w : Walked) → Turned line before n w → Goes body ds
          → AllMeet offsets all before (after w.rows (outer offsets body ds w.end (es ++ unvalued offsets w.times) (n + length w.rows))).rows
      go w turned more =
          met-append before w.rows _ turned.given.met
          (more (done ++ (repeated line g qs ∷ [])) (suc line) w.end (es ++ unvalued offsets w.times) (n + length w.rows) (before ++ w.rows)
          (subst (Knows (done ++ (repeated line g qs ∷ [])) ds (suc line) (es ++ unvalued offsets w.times)) (sym (children_append 0 before w.rows))
          (knows_group done ds low es (children_of 0 before) line g qs w.times (children_of 0 w.rows) k turned.entries turned.lines))
          (λ c h. neither c before w.rows (clear c (omega arith)) (turned.given.fresh c h)))

  pub met_all : (body : List ℕ) (low : ℕ) → Lined low all → AllMeet offsets all [] (outer offsets body all 0 [] 0).rows
  unfolding children_of
  met_all body low lined =
      met-outer body all (λ q i. i) [] low 0 [] 0 []
      (record { whole = refl; lined = lined; under = tt; passed = tt; kept = start offsets })
      (λ c h. refl)
    where
      start : (o : Offsets) → Kept o [] [] []
      start Answered = refl
      start Position = refl

-- ---- the whole command
pub walk_adds : (offsets : Offsets) (body : List ℕ) (ds : List Entry) (size : ℕ) → SmallEntries ds → Lined 1 ds → size ≡ 2 + length body
    → Adds offsets ds size (walk offsets body ds).rows (in_payload (walk offsets body ds).end)
unfolding walk Placed children_of
walk_adds offsets body ds size small lined is =
    let o = outermost offsets body ds 0 [] 0 in
    let inside = walk_inside offsets body ds small in
    let f : Follow 2 (children_of 0 (outer offsets body ds 0 [] 0).rows) (in_payload (outer offsets body ds 0 [] 0).end) = o.follow in
    let s = follow_sum 2 (in_payload (outer offsets body ds 0 [] 0).end) (children_of 0 (outer offsets body ds 0 [] 0).rows) f in
    record {
      follow = f;
      sum = omega arith;
      placed = rw append-nil at (o.placed [] (λ c u v. refl) tt);
      cut = rw is (cut-outer offsets body ds 0 [] 0);
      met = met_all offsets ds body 1 lined;
    }
