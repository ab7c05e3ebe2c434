-- What a list has for a code.
use Rattle.std.specs.Prelude.{ℕ, List, length, Option, Some, None, if◌then◌else◌}
use Rattle.laws.specs.Tests.{◌below◌}
use Rattle.paper.specs.declared.Shocks.{Shocks}
use Rattle.paper.specs.Published.{Entry, line_of, shocks_for}

-- the shocks of its line, or none
unfoldable pub listed_in : List Entry → ℕ → Option Shocks
listed_in list code = if line_of list code below length list then Some (shocks_for list code) else None
