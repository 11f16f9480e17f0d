-- The version of the library as a number: 1000000 for each major one, 1000 for each minor one.
use Rattle.std.specs.Prelude.{ℕ}

abbrev pub version_number : ℕ
version_number = 1000
