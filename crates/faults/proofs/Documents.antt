-- A refusal of form is deserved: no document goes on from the message's bytes.
use mathlib.Core.Path.{◌≡◌, refl, sym, ap, ◌∙◌}
use mathlib.Core.List.{List, [], ◌++◌}
use Prim.Native.Nat.{ℕ, ◌+◌}
use lib.ListN.{length}
use lib.Seq.{drop-append_seam}
use Rattle.profile.specs.declared.Version.{Version}
use Rattle.profile.specs.Profile.{profile}
use Rattle.reading.specs.Trace.{Trace, trace}
use Rattle.reading.specs.Noted.{stop, noted}
use Rattle.reading.specs.Verdict.{refused}
use Rattle.reading.specs.Judged.{listed, judged}
use Rattle.documents.specs.Document.{text}
use Rattle.documents.specs.Said.{said as the_said}
use Rattle.documents.specs.Holds.{TypeStands}
use Rattle.documents.specs.Message.{Message, head, whole, Lawful}
use Rattle.documents.proofs.Told.{Told}
use Rattle.documents.proofs.Lists.{stands_unlike}
use Rattle.documents.proofs.Sure.{profile_sure}
use Rattle.documents.proofs.Complete.{trace_tells}
use Rattle.documents.proofs.Messages.{opens}
use Rattle.faults.specs.Refusals.{◌among◌, of_form, of_what_is_said, in_document}
use Rattle.faults.proofs.Numbers.{among_left, none_common}
use Rattle.faults.proofs.Causes.{document_read, said, broken, untyped, noted_stops, unlike_misses, whole_unbroken}
use Rattle.faults.proofs.Faults.{same_read}

-- For 2, 4 and 6 no document's text begins with the message's bytes, of whatever length it is and whatever its values say, that has the payment type in its header or in
-- every item.
pub no_document_begins : (m : List ℕ) (n p : ℕ) → judged m ≡ refused n p → n among of_form → (n ≡ 3 → ⊥)
    → {v : Version} (d : Message v (profile v)) → Lawful d → TypeStands (the_said (profile v) d.inside) → (x : List ℕ) → whole d ≡ m ++ x → ⊥
no_document_begins m n p e f o {v} d law type x is =
    elim (noted_stops inner [] n p reads) [
      | said a ↦ none_common of_form of_what_is_said refl n f a
      | broken b ↦ whole_unbroken inner (at + length (text (profile v) d.inside)) n told.whole b
      | untyped z h ↦ unlike_misses inner [] (rw told.says (stands_unlike (the_said (profile v) d.inside) type)) h
    ]
  where
    at : ℕ
    at = length (head d)

    inner : Trace
    inner = trace (profile v) (whole d) at

    reads : noted listed inner [] ≡ stop n p
    reads =
        ap (λ o. noted listed (in_document (whole d) o) []) (sym (opens d law (text (profile v) d.inside ++ d.behind)))
        ∙ (ap document_read is ∙ same_read m n p e (among_left n of_form of_what_is_said f) o x)

    told : Told inner (at + length (text (profile v) d.inside)) (the_said (profile v) d.inside)
    told =
        trace_tells (whole d) (profile v) (profile_sure v) d.inside law.inside at d.behind (drop-append_seam (head d) (text (profile v) d.inside ++ d.behind))
