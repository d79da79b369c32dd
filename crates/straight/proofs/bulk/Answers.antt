-- `straight::bulk` meets its contract.
use Rattle.straight.proofs.Groups.{opened, ended, next, refused, handed_on}
use Rattle.tags.specs.Tags.{plain_tag}
use Rattle.profile.specs.Profile.{bulk_name}
use Rattle.straight.specs.Exact.{open_of}
use Rattle.straight.proofs.Groups.{same_is}
use Rattle.straight.proofs.Wholes.{keeps, open_keeps}
use Rattle.straight.proofs.Frame.{profile_is}
use Rattle.straight.proofs.bulk.Goals as goal

pub in_bulk-requires : goal.in_bulk-requires
in_bulk-requires c =
    let m = c.args.source.m.now in
    (c.in_ok-st.ensures.1.0, keeps 0 (open_of (plain_tag bulk_name) m) (open_keeps m 0 (plain_tag bulk_name)) _ _ c.requires.1 c.in_ok-st.ensures.0, c.requires.2)

pub returns-in_err-st : goal.returns-in_err-st
returns-in_err-st c = handed_on _ _ c.from_residual.ensures.1 (same_is (profile_is _ _ _) (refused _ (refused _ (opened _ _ c.in_err-st.ensures))))

pub returns-in_err-st-2 : goal.returns-in_err-st-2
returns-in_err-st-2 c = handed_on _ _ c.from_residual-in_err-st-2.ensures.1 (same_is (profile_is _ _ _) (refused _ (next _ (opened _ _ c.in_ok-st.ensures) c.in_err-st-2.ensures)))

pub returns : goal.returns
returns c = same_is (profile_is _ _ _) ((next _ (next _ (opened _ _ c.in_ok-st.ensures) c.in_ok-st-2.ensures) (ended _ _ c.end_tag.ensures)))
