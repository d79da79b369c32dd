-- What is keyed, with the lent index: 25 before all others of the judge.
use Rattle.std.specs.Prelude.{ℕ, List, replicate}
use Rattle.text.specs.Quoted.{byte}
use Rattle.reading.specs.Verdict.{refused}
use Rattle.naming.specs.Key.{key_length, Keyed, keyed}
use Rattle.judge.specs.Index.{or_short}

-- of a message that is refused there is no key
abbrev pub unkeyed : ℕ → ℕ → Keyed
unkeyed n p = record { verdict = refused n p; key = replicate key_length (byte " ") }

abbrev pub keyed_with : List ℕ → List ℕ → Keyed
keyed_with index m = or_short index (unkeyed 25 0) (keyed m)
