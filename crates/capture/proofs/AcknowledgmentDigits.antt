-- The digits of the octet that an acknowledgment carries.
use Rattle.std.proofs.Common.{◌≡◌, ◌-◌, ◌^◌, false, [], arith}
use Rattle.std.specs.Fmt.{padded_integral, format_spec, digits}
use Rattle.std.proofs.lemmas.Fmt.{hex_byte}
use Rattle.frame.specs.declared.acknowledgment.Acknowledged.{Acknowledged}
use Rattle.frame.specs.declared.acknowledgment.Acknowledged.TheVariants as acknowledged
use Rattle.frame.specs.Messages.{type_code}
use Rattle.hexadecimal.specs.Grammar.{octet_digits}

pub type_digits : (a : Acknowledged) →
    padded_integral (format_spec 32 0 4 2 (2 ^ 64 - 1)) false [] (digits 16 false (type_code a)) ≡
    octet_digits (type_code a)
type_digits acknowledged.Data = hex_byte false 1 (omega arith)
type_digits acknowledged.DiscoverResponse = hex_byte false 13 (omega arith)
type_digits acknowledged.ConfigurationRequest = hex_byte false 15 (omega arith)
