-- The working arrays as the paper's theorems read them.
use Rattle.arrays.specs.Arrays.{Arrays, arrays_as}
use Rattle.lending.specs.declared.Working.{Working}

abbrev pub arrays_in : Working → Arrays
arrays_in w = arrays_as w.ledger.now w.rates w.addons w.sizes w.options
