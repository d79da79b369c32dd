-- A whole message as a document, of a version and any tree.
use Rattle.std.specs.Prelude.{ℕ, Bool, List, [], ◌++◌}
use Rattle.text.specs.Truth.{pick}
use Rattle.tags.specs.Tags.{declaration}
use Rattle.profile.specs.declared.Version.{Version}
use Rattle.profile.specs.Version.{root}
use Rattle.profile.specs.Tree.{Shape}
use Rattle.documents.specs.Document.{Doc, text, White, Proper}

-- "A message may start with exactly [the declaration]. Then comes [the root tag]. White space [..] may stand after the declaration [..] and after `</Document>`.
-- [..] Without a declaration it may stand before the root."
pub record Message (v : Version) (sh : Shape) : Type 0 where
  pub declared : Bool
  pub before : List ℕ
  pub inside : Doc sh
  pub behind : List ℕ

abbrev pub head : {v : Version} {sh : Shape} → Message v sh → List ℕ
head {v = v} d = pick d.declared declaration [] ++ (d.before ++ root v)

abbrev pub whole : {v : Version} {sh : Shape} → Message v sh → List ℕ
whole {sh = sh} d = head d ++ (text sh d.inside ++ d.behind)

-- white space is white space, values hold no `<`, and each element stands as often as the profile says
pub record Lawful {v : Version} {sh : Shape} (d : Message v sh) : Type 0 where
  pub before : White d.before
  pub inside : Proper sh d.inside
  pub behind : White d.behind
