-- Sums of blocks.
use Rattle.std.specs.Prelude.{bit_xor, slice_index}
use Rattle.byte_strings.specs.Bytes.{Bytes}
use Rattle.aes.specs.State.{block}

unfoldable pub xor_blocks : Bytes → Bytes → Bytes
xor_blocks a b = block (λ i. bit_xor (slice_index a i) (slice_index b i))
