-- One law for each way through the code. Assumes nothing.
use mathlib.Core.Path.{◌≡◌, refl, sym, subst}
use mathlib.Core.Bool.{Bool, true, false, cond}
use mathlib.Core.List.{List}
use Prim.Native.Nat.{ℕ, ◌+◌, ◌-◌, ◌≤◌, ◌<◌}
use native.Mathlib.Omega.{arith}
use lib.Dec.{leb}
use lib.ListN.{length, take, drop}
use denote.Ref.{Bor}
use borrow.Author.Tests.{leb-true, lt-ltb, le-ltb, le-leb, lt-leb}
use Rattle.records.specs.Records.{PartOf}
use Rattle.command_part.specs.declared.Part.{Part}
use Rattle.command_part.specs.Part.{sum_bytes, command_part, span}

-- ---- sum_bytes
pub one_byte : (speed : ℕ) → speed < 2 → 1 ≡ sum_bytes speed
one_byte speed h = rw (lt-ltb speed 2 h)

pub two_bytes : (speed : ℕ) → 2 ≤ speed → 2 ≡ sum_bytes speed
two_bytes speed h = rw (le-ltb speed 2 h)

-- ---- find_command
module _ (n offset speed sum : ℕ) (is : sum ≡ sum_bytes speed) where
  pub no-checksum : n < sum → record { start = 0; length = 0 } ≡ command_part n offset speed
  unfolding command_part
  no-checksum h = rw (lt-leb (offset + sum_bytes speed) n (omega (arith, is)))

  pub no_room : sum ≤ n → n - sum < offset → record { start = 0; length = 0 } ≡ command_part n offset speed
  unfolding command_part
  no_room h l = rw (lt-leb (offset + sum_bytes speed) n (omega (arith, is)))

  pub between : sum ≤ n → offset ≤ n - sum → record { start = offset; length = n - sum - offset } ≡ command_part n offset speed
  unfolding command_part
  between h l = rw (le-leb (offset + sum_bytes speed) n (omega (arith, is)), ← is)

-- ---- command_part
abbrev Ends : ℕ → Part → Type 0
Ends n p = p.start + p.length ≤ n

inside : (n offset speed : ℕ) → Ends n (command_part n offset speed)
unfolding command_part
inside n offset speed = go (leb (offset + sum_bytes speed) n) refl
  where
    go : (b : Bool) → leb (offset + sum_bytes speed) n ≡ b
        → Ends n (cond b (record { start = offset; length = n - sum_bytes speed - offset }) (record { start = 0; length = 0 }))
    go true e = let l = leb-true (offset + sum_bytes speed) n e in omega (arith, l)
    go false e = omega arith

-- it ends within the MPDU
pub part-inside : (n offset speed : ℕ) (p : Part) → p ≡ command_part n offset speed → p.start + p.length ≤ n
part-inside n offset speed p is = subst (Ends n) (sym is) (inside n offset speed)

pub part-shown : (s r : Bor (List ℕ)) (offset speed : ℕ) (p : Part) → p ≡ command_part (length s.now) offset speed → r.ref_ptr.0 ≡ s.ref_ptr.0
    → r.ref_ptr.1 ≡ s.ref_ptr.1 + p.start → r.now ≡ take (p.start + p.length - p.start) (drop p.start s.now)
    → PartOf s r (span (command_part (length s.now) offset speed))
part-shown s r offset speed p is block place bytes =
    let e : p.start + p.length - p.start ≡ p.length = omega arith in
    subst (λ (q : Part). PartOf s r (span q)) is (record { block = block; place = place; bytes = rw (← e) bytes })

pub ruleset laws = (one_byte, two_bytes, no-checksum, no_room, between, part-inside, part-shown)
