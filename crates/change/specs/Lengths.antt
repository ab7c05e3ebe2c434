-- How long the arrays are that figures are made of: those of all currencies, and one currency's own parts of them.
use Rattle.std.specs.Prelude.{◌*◌, List, ◌≡◌, ℤ, length}
use Rattle.paper.specs.Records.{currencies}
use Rattle.paper.specs.Flow.{shocked}
use Rattle.paper.specs.Ledger.{section_size, cells}

-- ledger, rates and add-ons of a book, and the lists of changes and tolerances
pub record FiguresLengths (ledger rates add_ons changes tolerances : List ℤ) : Type 0 where
  pub ledger-long : length ledger ≡ cells currencies
  pub rates-long : length rates ≡ cells currencies
  pub add_ons-long : length add_ons ≡ shocked * currencies
  pub changes-long : length changes ≡ shocked * currencies
  pub tolerances-long : length tolerances ≡ shocked * currencies

-- a currency's own parts
pub record CurrencyLengths (section rates add_ons changes : List ℤ) : Type 0 where
  pub cells-long : length section ≡ section_size
  pub rates-long : length rates ≡ section_size
  pub add_ons-long : length add_ons ≡ shocked
  pub changes-long : length changes ≡ shocked
