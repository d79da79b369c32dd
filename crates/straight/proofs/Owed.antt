-- What the pieces of an item owe beside their values: that their runs are runs of tags, by the side and the version; and elements that may be absent.
use mathlib.Core.Bool.{Bool, true, false, beq}
use Rattle.std.specs.Prelude.{Option, None, Some}
use Rattle.std.specs.Option.{option_eq}
use Rattle.text.proofs.Truths.{never}
use Rattle.std.proofs.Common.{◌≡◌, ℕ, zero, suc, ◌<◌, true, List, [], ◌∷◌, refl, arith}
use Rattle.profile.specs.declared.Kind.TheVariants.{Plain}
use Rattle.profile.specs.declared.Simple.TheVariants.{Reference, Text140}
use Rattle.profile.specs.declared.Field.TheVariants as field
use Rattle.profile.specs.declared.Version.{Version}
use Rattle.profile.specs.declared.Version.TheVariants.{V02, V08}
use Rattle.profile.specs.Profile.{bic_kind}
use Rattle.swift_values.specs.Stands.{Stands}
use Rattle.straight.specs.declared.between.Side.{Side}
use Rattle.straight.specs.declared.between.Side.TheVariants.{Creditor, Debtor}
use Rattle.notes.specs.Notes.{may_follow, unsaid}
use Rattle.straight.specs.Spelled.{tagged, Spelled}
use Rattle.straight.specs.Runs.{tags_at, text_at}
use Rattle.straight.specs.Ways.{tags, holds, WorthNoted, Gone}
use Rattle.straight.specs.Legs.{stood, Follows, begun_legs, typed_legs, type_legs, to_iban, to_bic, to_debtor, to_text, to_end, last_legs}
use Rattle.straight.proofs.Ways.{gone_here, gone_value, gone_held}

pub iban_tags : (s : Side) → tagged (tags_at (to_iban s)) ≡ true
iban_tags Creditor = refl
iban_tags Debtor = refl

pub bic_tags : (s : Side) (v : Version) → tagged (tags_at (to_bic s v)) ≡ true
bic_tags Creditor V02 = refl
bic_tags Creditor V08 = refl
bic_tags Debtor V02 = refl
bic_tags Debtor V08 = refl

pub debtor_tags : (v : Version) → tagged (tags_at (to_debtor v)) ≡ true
debtor_tags V02 = refl
debtor_tags V08 = refl

pub text_tags : (v : Version) → tagged (tags_at (to_text v)) ≡ true
text_tags V02 = refl
text_tags V08 = refl

pub end_tags : (v : Version) → tagged (tags_at (to_end v)) ≡ true
end_tags V02 = refl
end_tags V08 = refl

pub bic_noted : (v : Version) → WorthNoted (bic_kind v) 0 0
bic_noted V02 = tt
bic_noted V08 = tt

-- an InstrId that is there, and a remittance text
pub begun_with : (m : List ℕ) (at p r : ℕ) → 0 < p → Gone m at (tags (tags_at 0) ∷ holds (Plain Reference) field.InstrId p 0 ∷ tags (tags_at 2) ∷ []) r → Gone m at (begun_legs p) r
begun_with m at zero r h f = absurd (let z : ⊥ = omega arith in z)
begun_with m at (suc p) r h f = f

pub last_with : (m : List ℕ) (v : Version) (at p r : ℕ) → 0 < p
    → Gone m at (holds (bic_kind v) field.DbtrBic at 0 ∷ tags (tags_at (to_text v)) ∷ holds (Plain Text140) field.Ustrd p 0 ∷ tags (tags_at 28) ∷ []) r → Gone m at (last_legs v at p) r
last_with m v at zero r h f = absurd (let z : ⊥ = omega arith in z)
last_with m v at (suc p) r h f = f

-- TxId with no payment type behind it, and with one
pub type_none : (m : List ℕ) (at q a b c i r : ℕ) → a ≡ 0 → Stands Reference m at q → Spelled m q (text_at 5) r → Gone m at (type_legs at a b c i) r
unfolding text_at
type_none m at q a b c i r e f g = rw e (gone_value m (Plain Reference) field.TxId 0 0 at q (tags_at 5) r [] r refl tt f g (gone_here m r (omega (arith, g.from)) g.within))

typed_level : (m : List ℕ) (p a b c i r : ℕ) → Gone m p (typed_legs a b c i) r → 0 < a
typed_level m p a b c i r g = omega (arith, g.some, g.way.first.spelled.from, g.way.rest.0)

pub type_with : (m : List ℕ) (at q a b c i r : ℕ) → Stands Reference m at q → Gone m q (typed_legs a b c i) r → Gone m at (type_legs at a b c i) r
type_with m at q zero b c i r f h = absurd (let z : ⊥ = omega (arith, typed_level m q 0 b c i r h) in z)
type_with m at q (suc a) b c i r f h = gone_held m (Plain Reference) field.TxId 0 0 at q (typed_legs (suc a) b c i) r tt f h

-- of it the same is not said again, as the code tests it
pub said_there : (s : Option Bool) → option_eq beq s (Some true) ≡ true → unsaid s false ≡ true
said_there None h = refl
said_there (Some true) h = refl
said_there (Some false) h = h

pub not_said : (s : Option Bool) (b : Bool) → option_eq beq s (Some b) ≡ false → unsaid s b ≡ true
not_said None b h = refl
not_said (Some true) true h = never (cc)
not_said (Some true) false h = refl
not_said (Some false) true h = refl
not_said (Some false) false h = never (cc)

-- and it may follow
pub follows_absent : (s : Option Bool) (w : Option ℕ) (a i : ℕ) → a ≡ 0 → unsaid s false ≡ true → Follows s w a i
follows_absent s w a i e h = record { new = rw e h; fits = λ g. absurd (let z : ⊥ = omega arith in z) }

pub follows_there : (m : List ℕ) (s : Option Bool) (w : Option ℕ) (p a b c i r : ℕ) → unsaid s true ≡ true → Gone m p (typed_legs a b c i) r → may_follow w i ≡ true → Follows s w a i
follows_there m s w p a b c i r h f k = record { new = go a (typed_level m p a b c i r f); fits = λ e. k }
  where
    go : (a : ℕ) → 0 < a → unsaid s (stood a) ≡ true
    go zero e = absurd (let z : ⊥ = omega arith in z)
    go (suc a) e = h
