-- `profile::root_at` meets its contract.
use mathlib.Core.Path.{◌≡◌, sym, ap, ◌∙◌}
use mathlib.Core.List.{List}
use Prim.Native.Nat.{ℕ}
use denote.Bor.{Bor}
use Rattle.tags.specs.Tags.{look, exactly}
use Rattle.profile.specs.Version.{root}
use Rattle.profile.proofs.root_at.Goals.{in-V02, in-V08}
use Rattle.profile.proofs.root_at.Goals as goal

pub returns : goal.returns
returns c =
    let t : c.match-v.text.now ≡ root c.args.v =
    elim c.match-v.branch [
      | in-V02 w ↦ ap (λ (b : Bor (List ℕ)). b.now) w.text-is ∙ ap root (sym w.in-V02.is)
      | in-V08 w ↦ ap (λ (b : Bor (List ℕ)). b.now) w.text-is ∙ ap root (sym w.in-V08.is)
    ] in
    c.text_at.ensures ∙ ap (λ (x : List ℕ). look (exactly x) c.args.s.now) t
