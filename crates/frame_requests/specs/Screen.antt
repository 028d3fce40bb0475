-- The table of frame records of the replay program, once `fill_frames` was lent its first cap records.
use Rattle.std.specs.Prelude.{◌≡◌, ℕ, List, length}
use Rattle.screen.specs.declared.FrameRecord.{FrameRecord}
use Rattle.screen.specs.Screen.{filled, fillable_of}
use Rattle.frame_requests.specs.declared.frame_table.FrameTable.{FrameTable}

-- What `fill_frames` answered, and the table then: of its other records none has changed.
pub record FilledFirst (records : List FrameRecord) (rows : List ℕ) (n cap : ℕ) (t : FrameTable) : Type 0 where
  pub count : t.filled ≡ fillable_of n cap (length rows)
  pub table : t.records ≡ filled t.filled rows records
