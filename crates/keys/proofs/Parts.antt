-- A key from what was noted: the values at their places.
use mathlib.Core.Path.{◌≡◌, ◌∙◌}
use mathlib.Core.List.{List}
use Prim.Native.Nat.{ℕ}
use lib.ListN.{get_or}
use Rattle.tags.specs.Values.{value_at}
use Rattle.profile.specs.declared.Field.TheVariants.{MsgId, InstgBic, IntrBkSttlmDt}
use Rattle.profile.specs.Fields.{field_number}
use Rattle.naming.specs.Key.{key_with}
use Rattle.keys.specs.Engine.{service_text, key_from}

pub key_is : (m : List ℕ) (service : ℕ) (starts : List ℕ) {c p b t k : List ℕ} {i j l : ℕ}
    → c ≡ service_text service
    → i ≡ get_or starts (field_number MsgId) 0 → j ≡ get_or starts (field_number InstgBic) 0 → l ≡ get_or starts (field_number IntrBkSttlmDt) 0
    → p ≡ value_at m i → b ≡ value_at m j → t ≡ value_at m l
    → k ≡ key_with c p b t → k ≡ key_from m service starts
unfolding key_from
key_is m service starts d a f g x y z e = e ∙ rw (d, x, y, z, a, f, g)
