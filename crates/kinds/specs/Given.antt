-- "Each value is judged where it lies": by its kind's own checker.
use Rattle.std.specs.Prelude.{ℕ, List}
use Rattle.answers.specs.Given.{Given}
use Rattle.words.specs.declared.Field.TheVariants.{Nm, Ustrd}
use Rattle.words.specs.Reference.{reference_given}
use Rattle.words.specs.EndToEnd.{end_to_end_given}
use Rattle.words.specs.Text.{text_given}
use Rattle.codes.specs.Listed.{code_given}
use Rattle.calendar.specs.Date.{date_given}
use Rattle.calendar.specs.Time.{time_given}
use Rattle.money.specs.declared.Range as range
use Rattle.money.specs.Count.{count_given}
use Rattle.money.specs.Amount.{amount_given}
use Rattle.accounts.specs.Bic.{bic_given, bicfi_given}
use Rattle.accounts.specs.Iban.{iban_given}
use Rattle.accounts.specs.Identifier.{identifier_given}
use Rattle.profile.specs.declared.Kind.{Kind}
use Rattle.profile.specs.declared.Kind.TheVariants.{Plain, Count, Total, Amount, Code}
use Rattle.profile.specs.declared.Simple.{Simple}
use Rattle.profile.specs.declared.Simple.TheVariants.{Reference, EndToEnd, Text70, Text140, Date, Time, Bic, Bicfi, Iban, Identifier}

unfoldable pub simple_given : Simple → List ℕ → Given
simple_given Reference v = reference_given v
simple_given EndToEnd v = end_to_end_given v
simple_given Text70 v = text_given Nm v
simple_given Text140 v = text_given Ustrd v
simple_given Date v = date_given v
simple_given Time v = time_given v
simple_given Bic v = bic_given v
simple_given Bicfi v = bicfi_given v
simple_given Iban v = iban_given v
simple_given Identifier v = identifier_given v

abbrev pub kind_given : Kind → List ℕ → Given
kind_given (Plain s) v = simple_given s v
kind_given Count v = count_given v
kind_given Total v = amount_given range.TheVariants.Total v
kind_given Amount v = amount_given range.TheVariants.Item v
kind_given (Code e) v = code_given e v
