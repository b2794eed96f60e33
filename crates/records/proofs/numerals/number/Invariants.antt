use Rattle.std.proofs.Common.{◌≡◌, ℕ, ◌^◌, ◌<◌, get_or, take}
use Rattle.std.specs.Int.{IsInRange}
use Rattle.std.specs.Str.Parse.{digits_value}
use Rattle.records.proofs.numerals.number.Given as goal

abbrev pub invariant-loop-digit : goal.invariant-loop-digit
invariant-loop-digit l =
    (l.n ≡ digits_value 10 (take l.digit-index l.word)) × (l.n < 10 ^ l.digit-index) × ((i : ℕ) → i < l.digit-index → IsInRange 48 57 (get_or l.word i 0))
