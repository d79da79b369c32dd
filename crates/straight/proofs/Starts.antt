-- Where a value begins that may be absent, and the payment type's codes, as the code notes them.
use Rattle.std.proofs.Common.{◌≡◌, ℕ, zero, suc, ◌+◌, ◌<◌, List, refl, ap, ◌∙◌, arith}
use Rattle.profile.specs.declared.Field.{Field}
use Rattle.profile.specs.declared.Field.TheVariants.{SvcLvl, LclInstrm, SeqTp}
use Rattle.reading.specs.Noted.{Ended}
use Rattle.notes.specs.declared.Notes.{Notes}
use Rattle.straight.specs.declared.pieces.Front.{Front}
use Rattle.straight.specs.declared.pieces.Item.{Item}
use Rattle.std.specs.Prelude.{Option, Some, Bool}
use Rattle.notes.specs.Notes.{started, said_by}
use Rattle.straight.specs.Legs.{stood, maybe_from, type_from, service_from, front_from, back_from, item_noted}

pub maybe_none : (f : Field) (p : ℕ) (l : List ℕ) → p ≡ 0 → l ≡ maybe_from f p l
maybe_none f zero l h = refl
maybe_none f (suc p) l h = absurd (let z : ⊥ = omega arith in z)

pub maybe_some : (f : Field) (p : ℕ) (l : List ℕ) → 0 < p → started f p l ≡ maybe_from f p l
maybe_some f zero l h = absurd (let z : ⊥ = omega arith in z)
maybe_some f (suc p) l h = refl

pub type_none : (a : ℕ) (r : Front) (l : List ℕ) → a ≡ 0 → l ≡ type_from a r l
type_none zero r l h = refl
type_none (suc a) r l h = absurd (let z : ⊥ = omega arith in z)

pub type_some : (a : ℕ) (r : Front) (l : List ℕ) → 0 < a → started SeqTp r.sequence (started LclInstrm r.service (started SvcLvl a l)) ≡ type_from a r l
type_some zero r l h = absurd (let z : ⊥ = omega arith in z)
type_some (suc a) r l h = refl

pub service_kept_lem : (a i : ℕ) (b : Option ℕ) → a ≡ 0 → b ≡ service_from a i b
service_kept_lem zero i b h = refl
service_kept_lem (suc a) i b h = absurd (let z : ⊥ = omega arith in z)

pub service_new : (a i : ℕ) (b : Option ℕ) → 0 < a → Some i ≡ service_from a i b
service_new zero i b h = absurd (let z : ⊥ = omega arith in z)
service_new (suc a) i b h = refl

-- the state behind an item
abbrev behind : Item → Notes → Option Bool → Option ℕ → List ℕ → Ended Notes
behind r n s w l = record {
  at = r.back.at;
  notes = record {
    count = n.count;
    first = n.first;
    sum = n.sum + r.front.cents;
    cents = r.front.cents;
    number = n.number;
    numberat = n.numberat;
    total = n.total;
    totalat = n.totalat;
    typed = s;
    service = w;
    starts = l;
  };
}

pub noted_behind : (r : Item) (n : Notes) (s : Option Bool) (w : Option ℕ) (k l : List ℕ) → s ≡ said_by n.typed (stood r.front.level) → w ≡ service_from r.front.level r.front.listed n.service
    → k ≡ front_from r.front.first r.front.level r.front n.starts → l ≡ back_from r.front.at r.back.text r.back k
    → behind r n s w l ≡ record { at = r.back.at; notes = item_noted n.typed r.front.first r.back.text r n }
noted_behind r n s w k l d e f g =
    ap (λ (x : Option Bool). behind r n x w l) d ∙ ap (λ (x : Option ℕ). behind r n (said_by n.typed (stood r.front.level)) x l) e
    ∙ ap (behind r n (said_by n.typed (stood r.front.level)) (service_from r.front.level r.front.listed n.service)) (g ∙ ap (back_from r.front.at r.back.text r.back) f)
