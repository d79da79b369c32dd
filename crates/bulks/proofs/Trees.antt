-- The profile's tree, as a header and items; and an accepted message as a bulk.
use mathlib.Core.Path.{◌≡◌, refl, sym, ap, subst, ◌∙◌}
use mathlib.Core.Bool.{Bool, true}
use mathlib.Core.List.{List, [], ◌∷◌, ◌++◌}
use Prim.Native.Nat.{ℕ}
use native.Mathlib.Omega.{arith}
use lib.ListN.{length}
use Rattle.text.proofs.Truths.{never}
use Rattle.profile.specs.declared.Version.{Version}
use Rattle.profile.specs.declared.Version.TheVariants.{V02, V08}
use Rattle.profile.specs.Tree.{once, many, more, Shape, end, group}
use Rattle.profile.specs.Profile.{bulk_name, header_name, item_name, in_header, in_item, profile}
use Rattle.reading.specs.Trace.{from, opened}
use Rattle.reading.specs.Verdict.{accepted}
use Rattle.reading.specs.Judged.{judged}
use Rattle.documents.specs.Document.{Led, Doc, text}
use Rattle.documents.specs.Said.{said}
use Rattle.documents.specs.Message.{Message, head, whole, Lawful}
use Rattle.documents.specs.Holds.{Holds}
use Rattle.documents.proofs.Sure.{sure}
use Rattle.documents.proofs.Messages.{opens}
use Rattle.documents.proofs.Exactly.{accepted_exactly}
use Rattle.bulks.specs.Bulk.{tree, profile_tree, DocItem, Bulk, message}
use Rattle.bulks.specs.Accepted.{Bulked}

pub more_sure : (v : Version) → sure (tree more v) ≡ true
unfolding in_header in_item
more_sure V02 = refl
more_sure V08 = refl

-- ---- an accepted message is a document's
pub record Of (v : Version) (sh : Shape) (m : List ℕ) (n c : ℕ) : Type 0 where
  pub message : Message v sh
  pub lawful : Lawful message
  pub is : m ≡ whole message
  pub holds : Holds (said sh message.inside) n c

pub accepted_of : (m : List ℕ) (n c : ℕ) → judged m ≡ accepted n c → (v : Version) (q : ℕ) → opened m ≡ from v q → Of v (tree many v) m n c
accepted_of m n c e v q o =
    let p = (accepted_exactly m n c).0 e in
    let d = p.message in
    let z : from v q ≡ from p.version (length (head d)) = sym o ∙ ap opened p.is ∙ opens d p.lawful (text (profile p.version) d.inside ++ d.behind) in
    let y : p.version ≡ v = cc in
    subst (λ (sh : Shape). Of v sh m n c) (profile_tree v)
    (subst (λ (u : Version). Of u (profile u) m n c) y (record { message = d; lawful = p.lawful; is = p.is; holds = p.holds }))

-- ---- each document is a bulk's: of what comes once there is one
pub record Put {v : Version} (d : Message v (tree many v)) : Type 0 where
  pub bulk : Bulk v
  pub is : d ≡ message many bulk

module _ (v : Version) (declared : Bool) (before last behind : List ℕ) where
  abbrev Content : Type 0
  Content = Doc (group once header_name (in_header v) (group many item_name (in_item v) (end bulk_name)))

  abbrev around : List (Led Content) → Message v (tree many v)
  around l = record { declared = declared; before = before; inside = record { all = l; others = last }; behind = behind }

  module _ (blank close : List ℕ) (items : List (DocItem v)) where
    abbrev with_header : List (Led (Doc (in_header v))) → Message v (tree many v)
    with_header h = around (record { blank = blank; held = record { all = h; others = record { all = items; others = close } } } ∷ [])

    one_header : (h : List (Led (Doc (in_header v)))) → Lawful (with_header h) → Put (with_header h)
    one_header [] law = never (let h = law.inside.1.0.1.0 in omega (arith, h))
    one_header (x ∷ []) law =
        record { bulk = record { declared = declared; before = before; blank = blank; header = x; items = items; close = close; last = last; behind = behind }; is = refl }
    one_header (x ∷ y ∷ l) law = never (let h = law.inside.1.0.1.0 in omega (arith, h))

  one-content : (l : List (Led Content)) → Lawful (around l) → Put (around l)
  one-content [] law = never (let h = law.inside.0 in omega (arith, h))
  one-content (x ∷ []) law = one_header x.blank x.held.others.others x.held.others.all x.held.all law
  one-content (x ∷ y ∷ l) law = never (let h = law.inside.0 in omega (arith, h))

pub document_bulk : {v : Version} (d : Message v (tree many v)) → Lawful d → Put d
document_bulk {v} d law = one-content v d.declared d.before d.inside.others d.behind d.inside.all law

-- An accepted message is the text of a bulk.
pub accepted_bulk : (m : List ℕ) (n c : ℕ) → judged m ≡ accepted n c → Bulked m
accepted_bulk m n c e =
    let p = (accepted_exactly m n c).0 e in
    let x = p.message in
    let o = accepted_of m n c e p.version (length (head x)) (ap opened p.is ∙ opens x p.lawful (text (profile p.version) x.inside ++ x.behind)) in
    let b = document_bulk o.message o.lawful in
    record { version = p.version; bulk = b.bulk; lawful = subst (λ (d : Message p.version (tree many p.version)). Lawful d) b.is o.lawful; is = o.is ∙ ap whole b.is }
