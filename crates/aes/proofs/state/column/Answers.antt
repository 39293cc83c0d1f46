-- A column by its four words of products.
use Rattle.aes.proofs.WordLaws.{by_direction}
use Rattle.aes.proofs.state.column.Goals as goal

pub returns : goal.returns
returns g c = rw c.from_le_bytes.ensures (by_direction c.args.key.now c.fits-key g.D.Direction.inverse c.rows-rows.result.now c.args.bytes.now c.fits-bytes c.rows-rows.ensures)
