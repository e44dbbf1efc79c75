-- Places in scratch: some numbers are mixed into one below 2^32, which is then spread over as many places as there are.
use Rattle.std.specs.Prelude.{ℕ, ◌+◌, ◌*◌, ◌/◌, ◌%◌}

abbrev pub mixed : ℕ → ℕ → ℕ → ℕ → ℕ
mixed a b c d = (a * 1540483477 + b * 1013904223 + c * 668265263 + d * 374761393) % 4294967296

abbrev pub spread : ℕ → ℕ → ℕ
spread h size = h * size / 4294967296

-- the place of four numbers among `size`
unfoldable pub place_of : ℕ → ℕ → ℕ → ℕ → ℕ → ℕ
place_of size a b c d = spread (mixed a b c d) size
