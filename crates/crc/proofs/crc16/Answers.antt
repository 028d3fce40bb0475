use Rattle.crc.specs.Poly.{plus, times}
use Rattle.crc.specs.Register.{turn}
use Rattle.crc.proofs.TableLaws.{turned, turned_right}
use Rattle.crc.proofs.crc16.Goals as goal

pub crc_by-requires : goal.crc_by-requires
unfolding turned turn plus times
crc_by-requires c = turned_right
