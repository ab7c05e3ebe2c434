-- `short_shares` meets its contract: the rule computed, each of the nineteen values by the series.
use mathlib.Core.Path.{refl}
use Rattle.laws.specs.Sums.{sum}
use Rattle.laws.specs.Nearest.{nearest}
use Rattle.laws.specs.Lists.{tabulate_from}
use Rattle.laws.specs.Series.{factorial}
use Rattle.paper.specs.Ladder.{midpoints}
use Rattle.paper.specs.Series.{denominator, series_term, numerator, billion_over_e}
use Rattle.paper.specs.Curve.{short_share}
use Rattle.curve.specs.Shocked.{short_shares}
use Rattle.curve.proofs.short_shares.Goals as goal

pub returns : goal.returns
unfolding short_shares tabulate_from short_share midpoints nearest denominator numerator billion_over_e series_term factorial sum
returns c = refl
