use Rattle.std.proofs.Common.{◌≡◌, ◌<◌, ◌^◌, drop, map}
use Rattle.std.specs.Int.Digits.{number_from_digits_after}
use Rattle.ttl_tokens.specs.Escapes.{hex_number, hex_value}
use Rattle.ttl_tokens.proofs.escapes.hex_number.Given as goal

abbrev pub invariant-loop-digit : goal.invariant-loop-digit
invariant-loop-digit l =
    (number_from_digits_after 16 l.number (map hex_value (drop l.digit-index l.digits)) ≡ hex_number l.digits) × (l.number < 16 ^ l.digit-index)
