-- The longest text that the report program prints: a C line of 156 bytes for each currency, S of 134, M of 68, V of 9.
use Rattle.std.specs.Prelude.{ℕ, ◌+◌, ◌*◌}
use Rattle.paper.specs.Records.{currencies}

abbrev pub longest_text : ℕ
longest_text = 156 * currencies + 211
