-- A message is accepted exactly when the profile holds of it.
use mathlib.Core.Path.{◌≡◌, sym, ap, ◌∙◌}
use mathlib.Core.List.{List, []}
use Prim.Native.Nat.{ℕ, ◌≤◌}
use lib.ListN.{length}
use Rattle.profile.specs.declared.Version.{Version}
use Rattle.profile.specs.Limits.{most_bytes}
use Rattle.profile.specs.Profile.{profile}
use Rattle.reading.specs.Trace.{message}
use Rattle.reading.specs.Verdict.{accepted}
use Rattle.reading.specs.Judged.{judged}
use Rattle.reading.proofs.Flat.{flat}
use Rattle.documents.specs.Said.{said}
use Rattle.documents.specs.Message.{Message, whole, Lawful}
use Rattle.documents.specs.Holds.{Holds, Profiled}
use Rattle.documents.proofs.Messages.{message_told, message_found}
use Rattle.documents.proofs.Standing.{one_header}
use Rattle.documents.proofs.Lists.{decided, listed_all, holds_decided, decided_holds, judged_listed, accepted_through}

-- a document's message is judged by the list of what it says
pub judged_told : {v : Version} (d : Message v (profile v)) → Lawful d → length (whole d) ≤ most_bytes → judged (whole d) ≡ decided (listed_all (flat (message (whole d))) [])
judged_told d law h = judged_listed (whole d) (length (whole d)) (message_told d law h).whole

module _ {v : Version} (d : Message v (profile v)) (law : Lawful d) (n c : ℕ) where
  -- Whatever its values say: a document's message is accepted only where the profile holds of that very document,
  pub document_accepted : judged (whole d) ≡ accepted n c → Holds (said (profile v) d.inside) n c
  document_accepted e =
      let r = accepted_through (whole d) n c e in
      let f = message_found (whole d) r.to r.whole in
      let t = message_told d law f.short in
      let o = one_header v d.inside law.inside in
      rw t.says at (decided_holds (flat (message (whole d))) n c (rw t.says o) (sym (judged_told d law f.short) ∙ e))

  -- and there it is
  pub accepted_document : length (whole d) ≤ most_bytes → Holds (said (profile v) d.inside) n c → judged (whole d) ≡ accepted n c
  accepted_document h k = judged_told d law h ∙ holds_decided (flat (message (whole d))) n c (rw (message_told d law h).says k)

-- Accepted with a count and a sum of cents: exactly the messages that are the text of a document of the profile, in which every value is of its kind,
-- the codes are listed, LclInstrm is the same in all items and no TxId stands twice, with as many items and as many cents as the header says, within the limits.
pub accepted_exactly : (m : List ℕ) (n c : ℕ) → (judged m ≡ accepted n c → Profiled m n c) × (Profiled m n c → judged m ≡ accepted n c)
accepted_exactly m n c = (profiled, allowed)
  where
    profiled : judged m ≡ accepted n c → Profiled m n c
    profiled e =
        let r = accepted_through m n c e in
        let d = message_found m r.to r.whole in
        record {
          version = d.version;
          message = d.document;
          lawful = d.lawful;
          is = d.is;
          short = d.short;
          holds = document_accepted d.document d.lawful n c (rw d.is at e);
        }

    allowed : Profiled m n c → judged m ≡ accepted n c
    allowed p = ap judged p.is ∙ accepted_document p.message p.lawful n c (rw p.is at p.short) p.holds
