-- The plain form of an accepted message: there is one and only one, it is accepted with the same count and cents, it is its own plain form, and it is shared exactly by
-- the messages that agree.
use mathlib.Core.Path.{◌≡◌, refl, sym, ap, ◌∙◌, subst}
use mathlib.Core.Bool.{true}
use mathlib.Core.List.{List, []}
use Prim.Native.Nat.{ℕ, ◌≤◌}
use native.Mathlib.Omega.{arith}
use lib.ListN.{length}
use Rattle.profile.specs.declared.Field.TheVariants.{TxId}
use Rattle.profile.specs.declared.Version.{Version}
use Rattle.profile.specs.declared.Version.TheVariants.{V02, V08}
use Rattle.profile.specs.Limits.{most_bytes}
use Rattle.profile.specs.Tree.{Shape}
use Rattle.profile.specs.Profile.{profile}
use Rattle.reading.specs.Trace.{What}
use Rattle.reading.specs.Rules.{own_kind}
use Rattle.reading.specs.Verdict.{accepted}
use Rattle.reading.specs.Judged.{judged}
use Rattle.documents.specs.Document.{Doc, Each}
use Rattle.documents.specs.Said.{said}
use Rattle.documents.specs.Message.{Message, whole, Lawful}
use Rattle.documents.specs.Holds.{Passes, Holds, Profiled}
use Rattle.documents.proofs.Sure.{profile_sure}
use Rattle.documents.proofs.One.{message_one, one_document}
use Rattle.documents.proofs.Exactly.{accepted_exactly}
use Rattle.forms.specs.Plain.{plain, plain_message, PlainForm}
use Rattle.forms.specs.Agree.{Agreeing, agreeing}
use Rattle.forms.proofs.Said.{meant_all, plain_said, plain_proper, plain_twice}
use Rattle.forms.proofs.Holds.{meant_holds}
use Rattle.forms.proofs.Fields.{is_read, read_meant, held, read_same}
use Rattle.forms.proofs.Bounded.{Few, form_long}
use Rattle.forms.proofs.Same.{plain_agree, agree_plain}

pub plain_lawful : {v : Version} {sh : Shape} (d : Message v sh) → Lawful d → Lawful (plain_message d)
plain_lawful {sh = sh} d law = record { before = refl; inside = plain_proper sh d.inside law.inside; behind = refl }

-- TxId is as read
ids_read : (v : Version) → held (λ v. v) is_read read_meant TxId (profile v) ≡ true
unfolding profile
ids_read V02 = refl
ids_read V08 = refl

module _ {m : List ℕ} {n c : ℕ} (k : Profiled m n c) where
  abbrev form : List ℕ
  form = whole (plain_message k.message)

  few : Few (said (profile k.version) k.message.inside)
  few = record { kinds = k.holds.kinds; items = omega (arith, k.holds.items, k.holds.few) }

  plain-profiled : Profiled form n c
  plain-profiled = record {
    version = k.version;
    message = plain_message k.message;
    lawful = plain_lawful k.message k.lawful;
    is = refl;
    short = form_long k.message k.lawful few;
    holds =
        subst (λ (ws : List What). Holds ws n c) (sym (plain_said (profile k.version) k.message.inside))
        (meant_holds (said (profile k.version) k.message.inside) n c (read_same TxId (profile k.version) (ids_read k.version) k.message.inside) k.holds);
  }

-- Every accepted message has a plain form.
pub form_of : (m : List ℕ) (n c : ℕ) → judged m ≡ accepted n c → (f : List ℕ) × PlainForm m f
form_of m n c e =
    let p = (accepted_exactly m n c).0 e in
    (form p, record { count = n; cents = c; accepted = p; is = refl })

-- It has only one.
pub one_form : (m f g : List ℕ) → PlainForm m f → PlainForm m g → f ≡ g
one_form m f g k l =
    let a = k.accepted in
    let b = l.accepted in
    k.is
    ∙ ap (λ (p : (u : Version) × Message u (profile u)). whole (plain_message p.1)) (one_document a.message b.message a.lawful b.lawful (sym a.is ∙ b.is))
    ∙ sym l.is

module _ (m f : List ℕ) (k : PlainForm m f) where
  form-profiled : Profiled f k.count k.cents
  form-profiled = subst (λ (x : List ℕ). Profiled x k.count k.cents) (sym k.is) (plain-profiled k.accepted)

  -- "The plain form is accepted, gives the same [..] count and total".
  pub form_accepted : (judged m ≡ accepted k.count k.cents) × (judged f ≡ accepted k.count k.cents)
  form_accepted = ((accepted_exactly m k.count k.cents).1 k.accepted, (accepted_exactly f k.count k.cents).1 form-profiled)

  -- 1 can never come.
  pub form_short : length f ≤ most_bytes
  form_short = form-profiled.short

-- "and its own plain form is itself."
abbrev plain_of : (v : Version) → Doc (profile v) → Message v (profile v)
plain_of v d = record { declared = true; before = []; inside = d; behind = [] }

pub own_form : (m f : List ℕ) → PlainForm m f → PlainForm f f
unfolding plain-profiled
own_form m f k =
    let a = k.accepted in
    let p = plain-profiled a in
    record {
      count = k.count;
      cents = k.cents;
      accepted = record { version = a.version; message = plain_message a.message; lawful = p.lawful; is = k.is; short = form_short m f k; holds = p.holds };
      is = k.is ∙ ap (λ (d : Doc (profile a.version)). whole (plain_of a.version d)) (sym (plain_twice (profile a.version) a.message.inside));
    }

-- "Two messages that have one have the same plain form exactly when they have equally many items, the optional elements agree, and all values in order mean the same".
plain_same : {v w : Version} (d : Message v (profile v)) (e : Message w (profile w)) → Lawful d → Lawful e → whole (plain_message d) ≡ whole (plain_message e) → Agreeing d e
plain_same {v} {w} d e law law' q = subst P (ap (λ (p : (u : Version) × Message u (profile u)). p.0) z) here e law' q
  where
    P : Version → Type 0
    P u = (e : Message u (profile u)) → Lawful e → whole (plain_message d) ≡ whole (plain_message e) → Agreeing d e

    z : ◌≡◌ {A = (u : Version) × Message u (profile u)} (v, plain_message d) (w, plain_message e)
    z = one_document (plain_message d) (plain_message e) (plain_lawful d law) (plain_lawful e law') q

    here : P v
    here e law' q =
        let s : plain_message d ≡ plain_message e = message_one (profile_sure v) (plain_message d) (plain_message e) (plain_lawful d law) (plain_lawful e law') q in
        agreeing (plain_agree (profile v) d.inside e.inside (ap (λ (x : Message v (profile v)). x.inside) s))

same_plain : {m₁ m₂ : List ℕ} {n₁ n₂ c₁ c₂ : ℕ} (k : Profiled m₁ n₁ c₁) (l : Profiled m₂ n₂ c₂) → Agreeing k.message l.message → form k ≡ form l
same_plain k l a = go l.version l.message l.holds.kinds a
  where
    go : (w : Version) (e : Message w (profile w)) → Each (λ x. Passes (own_kind x)) (said (profile w) e.inside) → Agreeing k.message e → form k ≡ whole (plain_message e)
    go w e h (agreeing b) =
        ap (λ (x : Doc (profile k.version)). whole (plain_of k.version x)) (agree_plain (profile k.version) k.message.inside e.inside k.holds.kinds h b)

pub same_form : (m₁ m₂ f₁ f₂ : List ℕ) (k : PlainForm m₁ f₁) (l : PlainForm m₂ f₂)
    → (f₁ ≡ f₂ → Agreeing k.accepted.message l.accepted.message) × (Agreeing k.accepted.message l.accepted.message → f₁ ≡ f₂)
same_form m₁ m₂ f₁ f₂ k l =
    let a = k.accepted in
    let b = l.accepted in
    (λ q. plain_same a.message b.message a.lawful b.lawful (sym k.is ∙ q ∙ l.is), λ g. k.is ∙ same_plain a b g ∙ sym l.is)
