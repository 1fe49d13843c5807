-- The trail's rule of the stores of this repository: 16,777,619 times the trail, plus the mark, modulo 2^64.
use Rattle.std.specs.Prelude.{ℕ, ◌+◌, ◌*◌, ◌%◌, ◌^◌}

abbrev pub multiplied : ℕ → ℕ → ℕ
multiplied r e = (16777619 * r + e) % 2 ^ 64
