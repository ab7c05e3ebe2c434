-- Turned down: the circumstance of each number, given exactly when it holds. Their order is in Fields, Decode and Book.
use Rattle.std.specs.Prelude.{ℕ, suc, ◌+◌, ◌*◌, Bool, not, ◌&&◌, ◌||◌, List, ℤ, pos, neg_ℤ, nat_abs, length, get_or}
use Rattle.std.specs.Int.Signed.{lt_z}
use Rattle.laws.specs.Tests.{◌is◌, ◌up_to◌, ◌below◌, any}
use Rattle.laws.specs.Sums.{sum_of}
use Rattle.paper.specs.Scales.{billion}
use Rattle.paper.specs.Curve.{Curve, shocked_rate}
use Rattle.paper.specs.Published.{list_of, line_of}
use Rattle.paper.specs.Records.{Record, currency_of, body_length}
use Rattle.paper.specs.Behaviour.{core_cap, average_cap, weighed_core, scheduled_at}
use Rattle.paper.specs.Flow.{adds, magnitude}
use Rattle.paper.specs.Ledger.{SoFar, used, curved, cells, figures}

-- 1: unknown kind
unfoldable pub unknown_kind : ℕ → Bool
unknown_kind kind = body_length kind is 0

-- 2: body cut short, of the record at a place of a book of so many bytes
unfoldable pub cut_short : ℕ → ℕ → ℕ → Bool
cut_short kind at bytes = bytes below suc at + body_length kind

-- 3: bad currency
unfoldable pub bad_currency : ℕ → ℕ → Bool
bad_currency top c = not (1 up_to c && c up_to top)

-- 4: bad side
unfoldable pub bad_side : ℕ → Bool
bad_side side = not (1 up_to side && side up_to 2)

-- 5: bad months, days, period or count; the last month, counted from a start, is tested with the count
unfoldable pub bad_months : ℕ → Bool
bad_months months = 600 below months

unfoldable pub bad_days : ℕ → Bool
bad_days days = 30 below days

unfoldable pub bad_period : ℕ → Bool
bad_period period = not (period is 1 || period is 3 || period is 6 || period is 12)

unfoldable pub bad_count : ℕ → ℕ → ℕ → Bool
bad_count start period count = count below 1 || 600 below start + period * count

-- 6: amount or option magnitude above 1,000,000,000
unfoldable pub bad_amount : ℕ → Bool
bad_amount amount = billion below amount

unfoldable pub bad_option : ℤ → Bool
bad_option value = billion below nat_abs value

-- 7: share above 10,000
unfoldable pub bad_share : ℕ → Bool
bad_share share = 10000 below share

-- 8: bad category
unfoldable pub bad_category : ℕ → Bool
bad_category category = not (1 up_to category && category up_to 3)

-- 9: core above its cap
unfoldable pub core_above_cap : ℕ → ℕ → List ℕ → Bool
core_above_cap category total core = core_cap category * total below 100 * sum_of core

-- 10: core average above its cap; a core of nil passes
unfoldable pub core_too_long : ℕ → List ℕ → Bool
core_too_long category core = average_cap category * sum_of core below weighed_core core

-- 11: interest in bucket k + 1 with no scheduled principal in it or after
unfoldable pub interest_alone : List ℕ → List ℕ → ℕ → Bool
interest_alone principals interests k = 0 below get_or interests k 0 && scheduled_at principals k is 0

-- 12: second curve for a currency
unfoldable pub second_curve : (ℕ → Bool) → ℕ → Bool
second_curve curved c = curved c

-- 13: rate, shock or shocked rate out of range
unfoldable pub bad_rate : ℤ → Bool
bad_rate rate = lt_z rate (neg_ℤ (pos 50000)) || lt_z (pos 300000) rate

unfoldable pub bad_shock : ℕ → Bool
bad_shock shock = 1000 below shock

-- in some scenario in bucket k + 1
unfoldable pub bad_shocked : Curve → ℕ → Bool
bad_shocked z k = any (λ i. bad_rate (shocked_rate z i k)) 1 6

-- 14: magnitudes of one currency in one scenario above 1,000,000,000 over all records so far, this one too: flows, and likewise options
unfoldable pub flows_over : SoFar → Record → ℕ → Bool
flows_over before r i = billion below before.size (currency_of r) i + magnitude r i

unfoldable pub options_over : SoFar → Record → ℕ → Bool
options_over before r i = billion below before.option_size (currency_of r) i + nat_abs (adds r i)

unfoldable pub over_limit : SoFar → Record → Bool
over_limit before r = any (flows_over before r) 0 7 || any (options_over before r) 1 6

-- 14: likewise all scheduled amounts of one kind 5 record
unfoldable pub schedule_over : List ℕ → List ℕ → Bool
schedule_over principals interests = billion below sum_of principals + sum_of interests

-- 15: a currency in a position lacks a curve
unfoldable pub lacks_curve : List Record → ℕ → Bool
lacks_curve kept c = used kept c && not (curved kept c)

-- 16: T outside 1 to 1,000,000,000,000
unfoldable pub bad_capital : ℕ → Bool
bad_capital T = not (1 up_to T && T up_to 1000000000000)

-- 17: book above 65,528 bytes
abbrev pub longest_book : ℕ
longest_book = 65528

unfoldable pub book_too_long : ℕ → Bool
book_too_long bytes = longest_book below bytes

-- 18: report room below 202 or ledger room below 4,256
unfoldable pub room_too_small : ℕ → ℕ → ℕ → Bool
room_too_small top report_room ledger_room = report_room below figures top || ledger_room below cells top

-- 19: unknown edition
unfoldable pub unknown_edition : ℕ → Bool
unknown_edition edition = not (1 up_to edition && edition up_to 2)

-- 20: code not in that edition
unfoldable pub code_not_listed : ℕ → ℕ → Bool
code_not_listed edition code = not (line_of (list_of edition) code below length (list_of edition))
