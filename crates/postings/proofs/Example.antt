-- The paper's whole example is accepted, and has the record that the paper gives it.
use Rattle.std.specs.Prelude.{◌≡◌, refl, List, ◌++◌, ℕ, ◌≤◌, length, drop}
use Rattle.std.proofs.Common.{le-ltb}
use Rattle.text.specs.Truth.{all_of}
use Rattle.text.specs.Quoted.{among, decimal}
use Rattle.text.specs.Classes.{digit, capital, small, capital_or_digit, letter_or_digit, reference_set, text_set}
use Rattle.words.specs.Collapsed.{as_space, collapsed}
use Rattle.words.specs.Reference.{slash_rule, reference_form, reference_given}
use Rattle.words.specs.EndToEnd.{end_to_end_form, end_to_end_given}
use Rattle.words.specs.Text.{text_form, text_given}
use Rattle.codes.specs.Listed.{code_given}
use Rattle.calendar.specs.Date.{leap, days_in, real_day, date_form, date_given}
use Rattle.calendar.specs.Pattern.{letter, stands, written}
use Rattle.calendar.specs.Time.{clock_form, offset_form, zone_form, end_form, time_form, time_given}
use Rattle.check97.specs.Check.{spell, leaves_one, in_range, iban_checked, identifier_checked}
use Rattle.money.specs.Count.{count_form, count_given}
use Rattle.money.specs.Amount.{point_form, amount_form, cents, amount_given}
use Rattle.accounts.specs.Head.{head}
use Rattle.accounts.specs.Bic.{bic_form, bic_given}
use Rattle.accounts.specs.Lengths.{lengths, length_of}
use Rattle.accounts.specs.Iban.{iban_form, iban_length, iban_given}
use Rattle.accounts.specs.Identifier.{identifier_form, identifier_given}
use Rattle.tags.specs.Tags.{white, currency_place, in_euro, starts_question}
use Rattle.profile.specs.Profile.{is_type, profile}
use Rattle.kinds.specs.Given.{simple_given}
use Rattle.reading.specs.Trace.{closed, valued, opened, behind_all, message}
use Rattle.reading.specs.Verdict.{accepted}
use Rattle.reading.specs.Judged.{compared, judged}
use Rattle.reading.specs.Items.{the_header, the_items}
use Rattle.postings.specs.Record.{record_length, padded, digits, record_for}
use Rattle.postings.specs.Area.{records_for, recorded}
use Rattle.postings.specs.Example.{example, example_record}

-- it is accepted, and its one item has this record: computed
computed : (judged example ≡ accepted 1 1234) × (records_for (the_header example) (the_items example) ≡ example_record)
unfolding
    all_of among decimal digit capital small capital_or_digit letter_or_digit reference_set text_set as_space collapsed slash_rule reference_form reference_given end_to_end_form end_to_end_given text_form text_given code_given leap days_in real_day date_form
    date_given letter stands written clock_form offset_form zone_form end_form time_form time_given spell leaves_one in_range iban_checked identifier_checked count_form count_given point_form amount_form
    cents amount_given head bic_form bic_given lengths length_of iban_form iban_length iban_given identifier_form identifier_given white currency_place in_euro starts_question is_type profile simple_given closed valued opened behind_all
    message compared judged padded digits record_for
computed = (refl, refl)

-- The example is accepted with one item and 1,234 cents; and an area with room for one record begins with the example's record afterwards, and goes on as lent.
pub whole_example : (a : List ℕ) → record_length ≤ length a → recorded example a ≡ record { verdict = accepted 1 1234; area = example_record ++ drop record_length a }
unfolding recorded
whole_example a room = rw (computed.0, le-ltb (length a) record_length room, computed.1)
