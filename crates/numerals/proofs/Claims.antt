-- The claims of `specs/Claims.antt`. Assumes nothing.
use mathlib.Core.Path.{◌∙◌, ap}
use Rattle.numerals.specs.Numerals.{number_of}
use Rattle.numerals.specs.Claims.{NumberIsDecimal}
use Rattle.numerals.proofs.Numerals.{number_of_decimal, number_of_is}

pub number_is_decimal : NumberIsDecimal
number_is_decimal word n = (number_of_is word n, λ is. ap number_of is ∙ number_of_decimal n)
