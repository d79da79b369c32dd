-- In every accepted message there stand exactly one count and one total, and in each of its items exactly one TxId, one amount, one debtor's IBAN, one creditor's and one
-- identifier: so what is said of a slip in one of these, or of two TxIds, is about something.
use mathlib.Core.Path.{◌≡◌, ap, ◌∙◌}
use mathlib.Core.List.{List, [], ◌∷◌}
use Prim.Native.Nat.{ℕ, ◌+◌}
use lib.ListN.{length}
use Rattle.profile.specs.declared.Version.{Version}
use Rattle.profile.specs.Profile.{in_item}
use Rattle.reading.specs.Trace.{Entry, message}
use Rattle.reading.specs.Noted.{Ended, noted}
use Rattle.reading.specs.Verdict.{accepted}
use Rattle.reading.specs.Judged.{whats, listed, judged}
use Rattle.reading.specs.Items.{notes_of, the_items}
use Rattle.reading.proofs.Flat.{goes_flat, goes_whole}
use Rattle.documents.specs.Document.{Each, LedBy, Proper}
use Rattle.documents.specs.Standing.{OneHeader, OneItem}
use Rattle.documents.proofs.Messages.{message_found}
use Rattle.documents.proofs.Standing.{one_header, one_item}
use Rattle.items.proofs.Accepted.{accepted_chained}
use Rattle.bulks.specs.Bulk.{DocItem, item_text, front, items_from}
use Rattle.bulks.proofs.Trees.{accepted_bulk}
use Rattle.bulks.proofs.Items.{items_proper, accepted_items}

each_one : (v : Version) (p : ℕ) (l : List (DocItem v)) → Each (LedBy (Proper (in_item v))) l → Each (λ x. OneItem x.holds) (items_from v p l)
each_one v p [] h = tt
each_one v p (x ∷ l) h = (one_item v x.held h.0.1, each_one v (p + length (item_text v x)) l h.1)

module _ (m : List ℕ) (n c : ℕ) (e : judged m ≡ accepted n c) where
  -- In an accepted message there stand one count and one total,
  pub header_present : OneHeader (whats (notes_of (noted listed (message m) [])))
  header_present =
      let x = accepted_chained m n c e in
      let r : Ended (List Entry) = record { at = x.last; notes = x.ended.notes } in
      let d = message_found m x.last (goes_whole (message m) [] r x.goes) in
      rw (ap (λ q. whats (notes_of q)) x.goes ∙ ap whats (goes_flat (message m) [] r x.goes) ∙ d.says) (one_header d.version d.document.inside d.lawful.inside)

  -- and in each of its items one TxId, one amount, the debtor's IBAN and the creditor's, and one creditor identifier.
  pub items_present : Each (λ x. OneItem x.holds) (the_items m)
  items_present =
      let k = accepted_bulk m n c e in
      rw (accepted_items m n c e k) (each_one k.version (length (front k.bulk)) k.bulk.items (items_proper k.bulk k.lawful))
