-- A period's share of 65,536, rounded up.
use Prim.Native.Nat.{ℕ, ◌+◌, ◌/◌}

abbrev pub share : ℕ → ℕ
share period = (65535 + period) / period
