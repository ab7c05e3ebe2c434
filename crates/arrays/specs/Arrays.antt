-- What the working arrays hold of the records kept, and of one record more.
use Rattle.std.specs.Prelude.{ℕ, suc, ◌*◌, ◌-◌, ◌/◌, ◌%◌, ◌^◌, ◌≤◌, ◌<◌, Bool, false, List, ◌≡◌, ℤ, pos, nat_abs, length, get_or, replicate}
use Rattle.laws.specs.Lists.{tabulate, section, splice}
use Rattle.paper.specs.Scales.{billion}
use Rattle.paper.specs.Records.{Record, currencies, currency_of}
use Rattle.paper.specs.Flow.{scenarios, shocked}
use Rattle.paper.specs.Ledger.{section_size, totals, so_far, ledger_of}
use Rattle.arrays.specs.declared.masks.Masks.{Masks}
use Rattle.arrays.specs.Masks.{curved_by}
use Rattle.arrays.specs.Slots.{with_flows, with_rates, with_sizes, with_add_ons, with_option_sizes}

pub record Arrays : Type 0 where
  pub ledger : List ℤ
  pub rates : List ℤ
  pub add_ons : List ℤ
  pub sizes : List ℕ
  pub option_sizes : List ℕ

abbrev pub arrays_as : (ledger rates add_ons : List ℤ) → (sizes option_sizes : List ℕ) → Arrays
arrays_as ledger rates add_ons sizes option_sizes =
    record { ledger = ledger; rates = rates; add_ons = add_ons; sizes = sizes; option_sizes = option_sizes }

-- a part of so many places for each currency in turn
unfoldable pub by_currency : {A : Type 0} → ℕ → (ℕ → ℕ → A) → List A
by_currency width f = tabulate (λ j. f (suc (j / width)) (j % width)) (width * currencies)

unfoldable pub arrays_of : List Record → Arrays
arrays_of kept = record {
  ledger = ledger_of currencies (totals kept).cell;
  rates = ledger_of currencies (totals kept).rate;
  add_ons = by_currency shocked (λ c j. (totals kept).add_on c (suc j));
  sizes = by_currency scenarios (so_far kept).size;
  option_sizes = by_currency shocked (λ c j. (so_far kept).option_size c (suc j));
}

-- ---- one record more, in its currency's parts

abbrev pub part_of : {A : Type 0} → ℕ → ℕ → List A → List A
part_of width c l = section (width * (c - 1)) width l

abbrev pub parts_of : ℕ → Arrays → Arrays
parts_of c a = record {
  ledger = part_of section_size c a.ledger;
  rates = part_of section_size c a.rates;
  add_ons = part_of shocked c a.add_ons;
  sizes = part_of scenarios c a.sizes;
  option_sizes = part_of shocked c a.option_sizes;
}

unfoldable pub in_parts : Record → Arrays → Arrays
in_parts r p = record {
  ledger = with_flows r p.ledger;
  rates = with_rates r p.rates;
  add_ons = with_add_ons r p.add_ons;
  sizes = with_sizes r p.sizes;
  option_sizes = with_option_sizes r p.option_sizes;
}

-- the parts of the currency c put back
abbrev pub put_back : {A : Type 0} → ℕ → ℕ → List A → List A → List A
put_back width c l part = splice (width * (c - 1)) width l part

abbrev pub with_parts : ℕ → Arrays → Arrays → Arrays
with_parts c a p = record {
  ledger = put_back section_size c a.ledger p.ledger;
  rates = put_back section_size c a.rates p.rates;
  add_ons = put_back shocked c a.add_ons p.add_ons;
  sizes = put_back scenarios c a.sizes p.sizes;
  option_sizes = put_back shocked c a.option_sizes p.option_sizes;
}

unfoldable pub with_record : Record → Arrays → Arrays
with_record r a = with_parts (currency_of r) a (in_parts r (parts_of (currency_of r) a))

-- ---- what a step may rely on

-- of n currencies: lengths, and sums and cells at or below a billion
pub record Sized (n : ℕ) (a : Arrays) : Type 0 where
  pub ledger-long : length a.ledger ≡ section_size * n
  pub rates-long : length a.rates ≡ section_size * n
  pub add_ons-long : length a.add_ons ≡ shocked * n
  pub sizes-long : length a.sizes ≡ scenarios * n
  pub option_sizes-long : length a.option_sizes ≡ shocked * n
  pub ledger-small : (j : ℕ) → nat_abs (get_or a.ledger j (pos 0)) ≤ billion
  pub add_ons-small : (j : ℕ) → nat_abs (get_or a.add_ons j (pos 0)) ≤ billion
  pub sizes-small : (j : ℕ) → get_or a.sizes j 0 ≤ billion
  pub option_sizes-small : (j : ℕ) → get_or a.option_sizes j 0 ≤ billion

-- of one currency: its rates are nil where it has no curve
pub record PartsHold (curved : Bool) (p : Arrays) : Type 0 where
  pub sized : Sized 1 p
  pub bare : curved ≡ false → p.rates ≡ replicate section_size (pos 0)

-- of all currencies
pub record Holding (m : Masks) (a : Arrays) : Type 0 where
  pub sized : Sized currencies a
  pub used-small : m.used < 2 ^ currencies
  pub curved-small : m.curved < 2 ^ currencies
  pub bare : (c : ℕ) → 1 ≤ c → c ≤ currencies → curved_by m.curved c ≡ false → part_of section_size c a.rates ≡ replicate section_size (pos 0)
