-- As many records as are filled are there, and as many rows; the record that a turn stores is the next.
use Rattle.std.proofs.Common.{ℕ, ◌≡◌, ◌≤◌, ◌*◌, arith}
use Rattle.screen.specs.Screen.{fillable_of}
use Rattle.pti.specs.Payload.{row_width}
use Rattle.screen.proofs.Laws.{fillable_bounds, filled_more}
use Rattle.screen.proofs.fill_frames.Goals as goal

few : (n records numbers m : ℕ) → m ≡ fillable_of n records numbers → m ≤ records
few n records numbers m e = rw e (fillable_bounds n records numbers).0

many : (n records numbers m : ℕ) → m ≡ fillable_of n records numbers → m * row_width ≤ numbers
many n records numbers m e = rw e (fillable_bounds n records numbers).1

pub record_at-requires : goal.record_at-requires
record_at-requires c = omega (arith, many _ _ _ _ c.fillable-m.ensures)

pub bounds-frames-i : goal.bounds-frames-i
bounds-frames-i c = omega (arith, few _ _ _ _ c.fillable-m.ensures)

pub offset_bounds-frames-i : goal.offset_bounds-frames-i
offset_bounds-frames-i c = record { fits = omega (arith, few _ _ _ _ c.fillable-m.ensures) }

pub loop-i-preserved : goal.loop-i-preserved
loop-i-preserved c =
    let there = few _ _ _ _ c.fillable-m.ensures in
    rw (c.record_at.ensures, c.loop-i.invariant) (filled_more c.args.rows.now c.loop-i.i c.args.frames.now (omega arith))
