-- "Empty message: 3, place 0. `<`: 3, place 1. `<?xml>`: 2, place 0."
use Rattle.std.specs.Prelude.{◌≡◌, refl}
use Rattle.text.specs.Quoted.{bytes}
use Rattle.tags.specs.Tags.{starts_question, white}
use Rattle.reading.specs.Trace.{opened, message}
use Rattle.reading.specs.Verdict.{refused}
use Rattle.reading.specs.Judged.{judged}

pub empty_message : judged (bytes "") ≡ refused 3 0
unfolding judged message opened starts_question white
empty_message = refl

pub one_bracket : judged (bytes "<") ≡ refused 3 1
unfolding judged message opened starts_question white
one_bracket = refl

pub no_declaration : judged (bytes "<?xml>") ≡ refused 2 0
unfolding judged message opened starts_question white
no_declaration = refl
