-- `text::mask_of` meets its contract.
use Rattle.text.specs.Classes.{digit, capital, small, capital_or_digit, letter_or_digit, reference_set, text_set, in_class, holds}
use Rattle.text.specs.Quoted.{among}
use Rattle.text.proofs.Sets.{names, among_high, text_high}
use mathlib.Core.Path.{refl}
use Rattle.text.proofs.mask_of.Goals as goal

pub returns-in-Digit : goal.returns-in-Digit
unfolding in_class digit among holds
returns-in-Digit c = λ x. rw c.in-Digit.is (names _ digit tt (among_high "0-9" refl) x)

pub returns-in-Capital : goal.returns-in-Capital
unfolding in_class capital among holds
returns-in-Capital c = λ x. rw c.in-Capital.is (names _ capital tt (among_high "A-Z" refl) x)

pub returns-in-Small : goal.returns-in-Small
unfolding in_class small among holds
returns-in-Small c = λ x. rw c.in-Small.is (names _ small tt (among_high "a-z" refl) x)

pub returns-in-CapitalOrDigit : goal.returns-in-CapitalOrDigit
unfolding in_class capital_or_digit among holds
returns-in-CapitalOrDigit c = λ x. rw c.in-CapitalOrDigit.is (names _ capital_or_digit tt (among_high "A-Z 0-9" refl) x)

pub returns-in-LetterOrDigit : goal.returns-in-LetterOrDigit
unfolding in_class letter_or_digit among holds
returns-in-LetterOrDigit c = λ x. rw c.in-LetterOrDigit.is (names _ letter_or_digit tt (among_high "A-Z a-z 0-9" refl) x)

pub returns-in-Reference : goal.returns-in-Reference
unfolding in_class reference_set among holds
returns-in-Reference c = λ x. rw c.in-Reference.is (names _ reference_set tt (among_high "A-Z a-z 0-9 / - ? : ( ) . , ' +" refl) x)

pub returns-in-Text : goal.returns-in-Text
unfolding in_class text_set reference_set among holds
returns-in-Text c = λ x. rw c.in-Text.is (names _ text_set tt text_high x)
