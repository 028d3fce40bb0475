-- Laws of judging and writing a listing. Assumes nothing.
use mathlib.Core.Path.{◌≡◌, refl, sym, ap, ◌∙◌, subst}
use mathlib.Core.List.{List}
use Prim.Native.Nat.{ℕ, ◌*◌, ◌≤◌, ◌<◌}
use native.Mathlib.Omega.{arith}
use lib.ListN.{length, drop}
use lib.Seq.{sets}
use Rattle.refusal.specs.declared.Refusal.{Refusal}
use Rattle.refusal.specs.declared.Refusal.TheVariants.{MoreBytes, Listing}
use Rattle.rows.specs.Rows.{flat}
use Rattle.buffer.proofs.Laws.{writes_short, writes_room}
use Rattle.text.specs.Text.{lines}
use Rattle.frame_text.specs.Rules.{verdict}
use Rattle.frame_definition.specs.Definition.{Base, definition, first_base}
use Rattle.header_rules.specs.Data.{Field, Candidate}
use Rattle.header_rules.specs.Lawful.{Reading}
use Rattle.header_rules.specs.Demand.{First}
use Rattle.header_rules.specs.Walk.{reading}
use Rattle.header_rules.specs.Table.{most_numbers, table_of}
use Rattle.header_rules.specs.Trees.{trees}
use Rattle.header_rules.specs.Told.{candidates_of}
use Rattle.header_rules.proofs.Reading.{reading-only}
use Rattle.header.specs.declared.DecodedHeader.{DecodedHeader}
use Rattle.header.specs.Decode.{key_of, decoded, Decodes}
use Rattle.header_named.specs.Named.{named, rows_of, GivesNamed, ReadsNamed}
use Rattle.listing_text.specs.Listing.{closed, text_of, listing_of, names, form_of, differs}
use Rattle.listing_text.specs.Steps.{rows_in, PutsAll}
use Rattle.listing_text.specs.declared.form.Named.{Named}
use Rattle.listing_text.proofs.Written.{rows-laid, puts-all, names-written, form-written, differs_none, differs-same}
use Rattle.listing.specs.declared.Judgement.{Judgement}
use Rattle.listing.specs.declared.Judgement.TheVariants.{Yes, Differs, Refused}
use Rattle.listing.specs.Judge.{or_yes, or_last, Against, Judges}
use Rattle.listing.specs.Write.{Writes}
use Rattle.listing.specs.Steps.{Own, Other, ByForm, WritesRows}
use Rattle.listing.proofs.Naming.{named_at, named-number, one_first, one_reading, first-reading, table_wide}
use Rattle.listing.proofs.Owning.{laid-long, header_own}
use Rattle.std.specs.Prelude.{Option, Some, None, Result, Ok, Err, unwrap_or}

-- ---- yes or the line
pub yes-none : (x : Option ℕ) → x ≡ None → Yes ≡ or_yes x
yes-none x e = rw e refl

pub yes_line : (x : Option ℕ) (k : ℕ) → x ≡ Some k → Differs k ≡ or_yes x
yes_line x k e = rw e refl

unwrapped : (x : Option ℕ) (last : ℕ) → unwrap_or x last ≡ or_last last x
unwrapped None last = refl
unwrapped (Some k) last = refl

same-yes : (x : Option ℕ) → or_yes x ≡ Yes → x ≡ None
same-yes None e = refl
same-yes (Some k) e = absurd (let z : ◌≡◌ {A = ℕ} 0 1 = cc in omega arith)

same_base : (key : ℕ) (t : List ℕ) (a b : Base) → first_base key (definition t).bases ≡ Some a → first_base key (definition t).bases ≡ Some b
    → a ≡ b
same_base key t a b p q = let e : Some a ≡ Some b = sym p ∙ q in cc

some_none : {A : Type 0} (o : Option A) (a : A) → o ≡ Some a → o ≡ None → ⊥
some_none o a p q = let z : ◌≡◌ {A = ℕ} 0 1 = cc in omega arith

-- ---- an H that is not the first that holds
module _ (t d : List ℕ) (key number : ℕ) (table : List ℕ) (x : Option ℕ) (table' : List ℕ) (Named-by : ReadsNamed t d key number table x table') where
  pub other_none : (region speed : ℕ) (l : List ℕ) (last : ℕ) → key ≡ key_of t region speed → x ≡ None
      → Other t d (key_of t region speed) l number last (Differs last)
  other_none region speed l last is_key e =
      let gone : (b : Base) → first_base key (definition t).bases ≡ Some b → named number (candidates_of key (definition t)) ≡ None = rw e at Named-by in
      rw (← is_key)
      (record {
        no_candidate = λ b q n. refl;
        one = λ b q c n. absurd (some_none (named number (candidates_of key (definition t))) c n (gone b q));
      })

  module _ (count : ℕ) (e : x ≡ Some count) where
    abbrev gives : GivesNamed t d key number table count table'
    gives = rw e at Named-by

    pub other_few : count ≤ 128
    other_few = gives.gives.few

    abbrev own : List (List ℕ)
    own = rows_of t d (trees gives.base.params) gives.one.params

    rows_here : rows_in count table' ≡ own
    rows_here =
        ap (λ (k : ℕ). rows_in k table') gives.gives.count ∙ ap (rows_in (length own)) gives.gives.rows_are
        ∙ rows-laid own (drop (length (flat own)) table) (table_wide d (definition t).sets (reading 7 d (trees gives.base.params) gives.one.params))

    pub other-room : length table ≡ most_numbers → count * 7 ≤ length table'
    other-room size =
        let n : length table' ≡ most_numbers =
        ap length gives.gives.rows_are
        ∙ laid-long own table (table_wide d (definition t).sets (reading 7 d (trees gives.base.params) gives.one.params))
        (omega (arith, gives.gives.few, gives.gives.count)) size in
        omega (arith, gives.gives.few)

    pub other_line : (region speed : ℕ) (l : List ℕ) (last : ℕ) (k : Option ℕ) (line : ℕ) → key ≡ key_of t region speed
        → k ≡ differs 1 (closed (rows_in count table') number) l → line ≡ unwrap_or k last
        → Other t d (key_of t region speed) l number last (Differs line)
    other_line region speed l last k line is_key is-k is-line =
        let line_is : line ≡ or_last last (differs 1 (closed own number) l) =
        is-line ∙ unwrapped k last ∙ ap (or_last last) (is-k ∙ ap (λ (rs : List (List ℕ)). differs 1 (closed rs number) l) rows_here) in
        rw (← is_key)
        (record {
          no_candidate = λ b q n. absurd (some_none (named number (candidates_of key (definition t))) gives.one gives.one_is n);
          one = λ b q c n.
              let same-c : gives.one ≡ c = (let z : Some gives.one ≡ Some c = sym gives.one_is ∙ n in cc) in
              let same-b : gives.base ≡ b = same_base key t gives.base b gives.base_is q in
              ap Differs (line_is
              ∙ ap (λ (a : Base). or_last last (differs 1 (closed (rows_of t d (trees a.params) gives.one.params) number) l)) same-b
              ∙ ap (λ (a : Candidate 7). or_last last (differs 1 (closed (rows_of t d (trees b.params) a.params) number) l)) same-c);
        })

-- ---- beside the first that holds
module _ (t d : List ℕ) (key own-number count : ℕ) (table : List ℕ) (own : Own t d key own-number count table) where
  pub own_few : count ≤ 128
  own_few = own.few

  pub own_room : count * 7 ≤ length table
  own_room = omega (arith, own.few, own.long)

  pub own_accepted : verdict t ≡ Ok tt
  own_accepted = own.accepted

  pub own_short : length d ≤ 2048
  own_short = own.short

  pub own_long : length table ≡ most_numbers
  own_long = own.long

  abbrev cs : List (Candidate 7)
  cs = candidates_of key (definition t)

  named_own : named own.one.number cs ≡ Some own.one
  named_own = named_at t key own.first.front own.one own.first.back own.first.place

  pub beside_wrong : (l : List ℕ) (x : Result Named ℕ) (k : ℕ) → x ≡ form_of 1 (lines l) → x ≡ Err k
      → ByForm t d key l (form_of 1 (lines l)) (Refused (Listing k))
  beside_wrong l x k e q = rw (sym e ∙ q) refl

  module _ (l : List ℕ) (x : Result Named ℕ) (n : Named) (is-form : x ≡ form_of 1 (lines l)) (is_named : x ≡ Ok n) where
    abbrev number : ℕ
    number = n.number

    abbrev last : ℕ
    last = n.line

    form_is : form_of 1 (lines l) ≡ names number last
    form_is = sym is-form ∙ is_named

    -- for the base header that was found
    by_base : (r : Judgement) → Against (definition t) d key own.base l number last r → ByForm t d key l (form_of 1 (lines l)) r
    by_base r a =
        rw form_is (λ b q. subst (λ (z : Base). Against (definition t) d key z l number last r) (same_base key t own.base b own.base_is q) a)

    -- the last line names it
    pub beside_own : (k : Option ℕ) (r : Judgement) → number ≡ own-number → k ≡ differs 1 (closed (rows_in count table) number) l → r ≡ or_yes k
        → ByForm t d key l (form_of 1 (lines l)) r
    beside_own k r e is-k is-r =
        let is : number ≡ own.one.number = e ∙ own.number_is in
        let one-named : named number cs ≡ Some own.one = rw is named_own in
        let r_is : r ≡ or_yes (differs 1 (closed (table_of 7 d (definition t).sets own.fields) number) l) =
        is-r ∙ ap or_yes (is-k ∙ ap (λ (rs : List (List ℕ)). differs 1 (closed rs number) l) own.rows_are) in
        by_base r
        (record {
          first = λ c fs n f. r_is
              ∙ ap (λ (gs : List (Field 7)). or_yes (differs 1 (closed (table_of 7 d (definition t).sets gs) number) l))
              (one_reading d (trees own.base.params) cs own.one own.fields own.first c fs f);
          other = λ c fs n g no.
              let same-c : c ≡ own.one = (let z : Some c ≡ Some own.one = sym n ∙ one-named in cc) in
              let gs-are : fs ≡ own.fields =
              first-reading d (trees own.base.params) cs own.one own.fields own.first fs
              (subst (λ (z : Candidate 7). Reading 7 d (trees own.base.params) z.params fs) same-c g) in
              absurd (no (subst (λ (z : Candidate 7). First 7 d (trees own.base.params) cs z fs) (sym same-c)
              (subst (λ (gs : List (Field 7)). First 7 d (trees own.base.params) cs own.one gs) (sym gs-are) own.first)));
          no_candidate = λ n. absurd (some_none (named number cs) own.one one-named n);
          exactly = (
            λ y. (
              own.one,
              own.fields,
              own.first,
              differs-same 1 (closed (table_of 7 d (definition t).sets own.fields) number) l (same-yes _ (sym r_is ∙ y))
                  ∙ ap (listing_of (table_of 7 d (definition t).sets own.fields)) is,
            ),
            λ w.
                let gs-are : own.fields ≡ w.1 =
                one_reading d (trees own.base.params) cs own.one own.fields own.first w.0 w.1 w.2 in
                let c-is : own.one ≡ w.0 = one_first d (trees own.base.params) cs own.one own.fields own.first w.0 w.1 w.2 in
                let l-is : l ≡ listing_of (table_of 7 d (definition t).sets own.fields) number =
                w.3 ∙ ap (λ (gs : List (Field 7)). listing_of (table_of 7 d (definition t).sets gs) w.0.number) (sym gs-are)
                ∙ ap (λ (z : Candidate 7). listing_of (table_of 7 d (definition t).sets own.fields) z.number) (sym c-is)
                ∙ ap (listing_of (table_of 7 d (definition t).sets own.fields)) (sym is) in
                r_is ∙ ap (λ (z : List ℕ). or_yes (differs 1 (closed (table_of 7 d (definition t).sets own.fields) number) z)) l-is
                ∙ ap or_yes (differs_none 1 (closed (table_of 7 d (definition t).sets own.fields) number)),
          );
        })

    -- the last line names another
    pub beside_other : (r : Judgement) → (number ≡ own-number → ⊥) → Other t d key l number last r → ByForm t d key l (form_of 1 (lines l)) r
    beside_other r e o =
        by_base r
        (record {
          first = λ c fs n f.
              let c-is : own.one ≡ c = one_first d (trees own.base.params) cs own.one own.fields own.first c fs f in
              absurd (e (sym (named-number number cs c n) ∙ ap (λ (z : Candidate 7). z.number) (sym c-is) ∙ sym own.number_is));
          other = λ c fs n g no. o.one own.base own.base_is c n
              ∙ ap (λ (gs : List (Field 7)). Differs (or_last last (differs 1 (closed (table_of 7 d (definition t).sets gs) number) l)))
              (sym (reading-only 7 d (trees own.base.params) c.params fs g));
          no_candidate = λ n. o.no_candidate own.base own.base_is n;
          exactly = (
            λ y. absurd (never-yes (named number cs) refl y),
            λ w.
                let c-is : own.one ≡ w.0 = one_first d (trees own.base.params) cs own.one own.fields own.first w.0 w.1 w.2 in
                let named_is : number ≡ w.0.number =
                names-written 1 w.0.number number last (table_of 7 d (definition t).sets w.1) (table_wide d (definition t).sets w.1)
                (subst (λ (z : List ℕ). form_of 1 (lines z) ≡ names number last) w.3 form_is) in
                absurd (e (named_is ∙ ap (λ (z : Candidate 7). z.number) (sym c-is) ∙ sym own.number_is)),
          );
        })
      where
        no_differ : (k : ℕ) → r ≡ Differs k → r ≡ Yes → ⊥
        no_differ k p q = let z : ◌≡◌ {A = ℕ} 0 1 = cc in omega arith

        never-yes : (x : Option (Candidate 7)) → named number cs ≡ x → r ≡ Yes → ⊥
        never-yes None n y = no_differ _ (o.no_candidate own.base own.base_is n) y
        never-yes (Some c) n y = no_differ _ (o.one own.base own.base_is c n) y

-- ---- the call
pub judges_refused : (t d : List ℕ) (region speed : ℕ) (l table : List ℕ) (r : Result DecodedHeader Refusal) (table' : List ℕ) (x : Refusal)
    → Decodes t d region speed table r table' → length table ≡ most_numbers → r ≡ Err x
    → Judges t d region speed l (Refused x)
judges_refused t d region speed l table r table' x c size q =
    let is : decoded t d region speed most_numbers ≡ Err x = ap (decoded t d region speed) (sym size) ∙ sym c.answer ∙ q in
    record {
      refused = λ y e. (let z : Err x ≡ Err y = sym is ∙ e in cc);
      wrong = λ h k e f. absurd (let z : Err x ≡ Ok h = sym is ∙ e in let w : ◌≡◌ {A = ℕ} 0 1 = cc in omega arith);
      judged = λ h number last e f b q. absurd
          (let z : Err x ≡ Ok h = sym is ∙ e in let w : ◌≡◌ {A = ℕ} 0 1 = cc in omega arith);
    }

pub judges_form : (t d : List ℕ) (region speed : ℕ) (l table : List ℕ) (r : Result DecodedHeader Refusal) (table' : List ℕ) (h : DecodedHeader) (j : Judgement)
    → Decodes t d region speed table r table' → length table ≡ most_numbers → r ≡ Ok h
    → ByForm t d (key_of t region speed) l (form_of 1 (lines l)) j → Judges t d region speed l j
judges_form t d region speed l table r table' h j c size q by =
    let is : decoded t d region speed most_numbers ≡ Ok h = ap (decoded t d region speed) (sym size) ∙ sym c.answer ∙ q in
    record {
      refused = λ y e. absurd (let z : Ok h ≡ Err y = sym is ∙ e in let w : ◌≡◌ {A = ℕ} 0 1 = cc in omega arith);
      wrong = λ g k e f. rw f at by;
      judged = λ g number last e f. rw f at by;
    }

-- ---- written
module _ (rows : List (List ℕ)) (b : List ℕ) (size : ℕ) (none₀ none' : List ℕ) (counts : PutsAll rows none₀ size none') where
  pub rows_short : length b < size → WritesRows rows b (Err (MoreBytes size)) b
  rows_short h = record { gives = writes_short (text_of rows) b size counts.count h; small = counts.small }

  pub rows-room : (n : ℕ) (b' : List ℕ) → size ≤ length b → PutsAll rows b n b' → WritesRows rows b (Ok size) b'
  rows-room n b' h p =
      let all : b' ≡ sets b 0 (text_of rows) = p.says ∙ puts-all b 0 rows (omega (arith, counts.count)) in
      record { gives = writes_room (text_of rows) b size counts.count b' all h; small = counts.small }

pub writes_refused : (t d : List ℕ) (region speed : ℕ) (b table : List ℕ) (r : Result DecodedHeader Refusal) (table' : List ℕ) (x : Refusal)
    → Decodes t d region speed table r table' → length table ≡ most_numbers → r ≡ Err x
    → Writes t d region speed b (Err x) b
writes_refused t d region speed b table r table' x c size q =
    let is : decoded t d region speed most_numbers ≡ Err x = ap (decoded t d region speed) (sym size) ∙ sym c.answer ∙ q in
    record {
      refused = λ y e. ((let z : Err x ≡ Err y = sym is ∙ e in cc), refl);
      written = λ h e a f o fs g. absurd
          (let z : Err x ≡ Ok h = sym is ∙ e in let w : ◌≡◌ {A = ℕ} 0 1 = cc in omega arith);
    }

pub writes_own : (t d : List ℕ) (region speed : ℕ) (b table : List ℕ) (r : Result DecodedHeader Refusal) (table' : List ℕ) (h : DecodedHeader) (x : Result ℕ Refusal)
    (b' : List ℕ)
    → Decodes t d region speed table r table' → length table ≡ most_numbers → r ≡ Ok h
    → WritesRows (closed (rows_in h.rows table') h.number) b x b'
    → Writes t d region speed b x b'
writes_own t d region speed b table r table' h x b' c size q w =
    let is : decoded t d region speed most_numbers ≡ Ok h = ap (decoded t d region speed) (sym size) ∙ sym c.answer ∙ q in
    let own = header_own t d region speed h table r table' c q size in
    record {
      refused = λ y e. absurd (let z : Ok h ≡ Err y = sym is ∙ e in let w : ◌≡◌ {A = ℕ} 0 1 = cc in omega arith);
      written = λ g e a f o fs first.
          let same-b : own.base ≡ a = same_base (key_of t region speed) t own.base a own.base_is f in
          let first' : First 7 d (trees own.base.params) (candidates_of (key_of t region speed) (definition t)) o fs =
          subst (λ (z : Base). First 7 d (trees z.params) (candidates_of (key_of t region speed) (definition t)) o fs) (sym same-b) first in
          let c-is : own.one ≡ o =
          one_first d (trees own.base.params) (candidates_of (key_of t region speed) (definition t)) own.one own.fields own.first o fs first' in
          let gs-are : own.fields ≡ fs =
          one_reading d (trees own.base.params) (candidates_of (key_of t region speed) (definition t)) own.one own.fields own.first o fs first' in
          let rows_are : rows_in h.rows table' ≡ table_of 7 d (definition t).sets fs =
          own.rows_are ∙ ap (table_of 7 d (definition t).sets) gs-are in
          let number_is : h.number ≡ o.number = own.number_is ∙ ap (λ (z : Candidate 7). z.number) c-is in
          let u : WritesRows (closed (table_of 7 d (definition t).sets fs) o.number) b x b' =
          subst (λ (n : ℕ). WritesRows (closed (table_of 7 d (definition t).sets fs) n) b x b') number_is
          (subst (λ (rs : List (List ℕ)). WritesRows (closed rs h.number) b x b') rows_are w) in
          record {
            gives = u.gives;
            form_is = form-written 1 o.number (table_of 7 d (definition t).sets fs) (table_wide d (definition t).sets fs) u.small;
          };
    }

pub header_few : (t d : List ℕ) (region speed : ℕ) (table : List ℕ) (r : Result DecodedHeader Refusal) (table' : List ℕ) (h : DecodedHeader)
    → Decodes t d region speed table r table' → length table ≡ most_numbers → r ≡ Ok h → h.rows ≤ 128
header_few t d region speed table r table' h c size q = (header_own t d region speed h table r table' c q size).few

pub header-room : (t d : List ℕ) (region speed : ℕ) (table : List ℕ) (r : Result DecodedHeader Refusal) (table' : List ℕ) (h : DecodedHeader)
    → Decodes t d region speed table r table' → length table ≡ most_numbers → r ≡ Ok h → h.rows * 7 ≤ length table'
header-room t d region speed table r table' h c size q =
    let own = header_own t d region speed h table r table' c q size in
    omega (arith, own.few, own.long)

pub decoded_own : (t d : List ℕ) (region speed : ℕ) (table : List ℕ) (r : Result DecodedHeader Refusal) (table' : List ℕ) (h : DecodedHeader)
    → Decodes t d region speed table r table' → length table ≡ most_numbers → r ≡ Ok h
    → Own t d (key_of t region speed) h.number h.rows table'
decoded_own t d region speed table r table' h c size q = header_own t d region speed h table r table' c q size

pub ruleset laws = (
  yes-none,
  yes_line,
  other_none,
  other_few,
  other-room,
  other_line,
  own_few,
  own_room,
  own_accepted,
  own_short,
  own_long,
  beside_wrong,
  beside_own,
  beside_other,
  judges_refused,
  judges_form,
  rows_short,
  rows-room,
  writes_refused,
  writes_own,
  header_few,
  header-room,
  decoded_own,
)
