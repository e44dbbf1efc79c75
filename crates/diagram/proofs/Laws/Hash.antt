-- Laws of places in scratch.
use Prim.Native.Nat.{ℕ, ◌*◌, ◌%◌, ◌<◌}
use native.Mathlib.Nat.{mul-lt-mul_of_pos_right, div-lt_iff_lt-mul}
use native.Mathlib.Omega.{arith}
use Rattle.diagram.specs.Hash.{spread, place_of}

pub spread_lt : (sum size : ℕ) → 0 < size → spread (sum % 4294967296) size < size
spread_lt sum size some =
    let below : sum % 4294967296 < 4294967296 = omega arith in
    let product : sum % 4294967296 * size < 4294967296 * size = mul-lt-mul_of_pos_right below some in
    (div-lt_iff_lt-mul {k = 4294967296} {x = sum % 4294967296 * size} {y = size} (omega arith)).1 (omega arith)

pub place_lt : (size a b c d : ℕ) → 0 < size → place_of size a b c d < size
unfolding place_of
place_lt size a b c d some = spread_lt _ size some
