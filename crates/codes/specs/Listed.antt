-- "Codes: SttlmMtd `CLRG`; SvcLvl `SEPA`; LclInstrm `CORE` or `B2B`; SeqTp `FRST RCUR FNAL OOFF`; ChrgBr `SLEV`; Prtry `SEPA`."
-- "10: code not listed." "An empty value is 7, for a code 10."
use Rattle.std.specs.Prelude.{ℕ, suc, Bool, true, false, List, [], ◌∷◌}
use Prim.Native.String.{String}
use Rattle.text.specs.Quoted.{is}
use Rattle.answers.specs.Given.{Given, worth, refused}
use Rattle.codes.specs.declared.Element.{Element}
use Rattle.codes.specs.declared.Element.TheVariants.{SttlmMtd, SvcLvl, LclInstrm, SeqTp, ChrgBr, Prtry}

abbrev pub codes_of : Element → List String
codes_of SttlmMtd = "CLRG" ∷ []
codes_of SvcLvl = "SEPA" ∷ []
codes_of LclInstrm = "CORE" ∷ "B2B" ∷ []
codes_of SeqTp = "FRST" ∷ "RCUR" ∷ "FNAL" ∷ "OOFF" ∷ []
codes_of ChrgBr = "SLEV" ∷ []
codes_of Prtry = "SEPA" ∷ []

-- what is given: a code's worth is its place in its list, counted from 0
abbrev pub or_else : Bool → ℕ → Given → Given
or_else true i g = worth i
or_else false i g = g

-- the first code of the list that s is, counted from i
abbrev pub place : ℕ → List String → List ℕ → Given
place i [] s = refused 10
place i (t ∷ l) s = or_else (is t s) i (place (suc i) l s)

unfoldable pub code_given : Element → List ℕ → Given
code_given e s = place 0 (codes_of e) s
