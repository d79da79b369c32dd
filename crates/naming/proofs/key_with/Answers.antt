-- `naming::key_with` meets its contract: the four values are written one behind the other, over spaces.
use native.Mathlib.Omega.{arith}
use Rattle.naming.proofs.Parts.{so_long}
use Rattle.naming.proofs.Written.{with_service_lem, with_id, with_bic, with_date}
use Rattle.naming.proofs.key_with.Goals as goal

pub slice_bounds-key-end-2 : goal.slice_bounds-key-end-2
slice_bounds-key-end-2 c = omega (arith, so_long (with_service_lem _ _ c.put.ensures))

pub slice_bounds-key-end-3 : goal.slice_bounds-key-end-3
slice_bounds-key-end-3 c = omega (arith, so_long (with_id _ _ c.put.ensures _ _ c.put-2.ensures))

pub slice_bounds-key-end-4 : goal.slice_bounds-key-end-4
slice_bounds-key-end-4 c =
    omega (arith, so_long (with_bic _ _ c.put.ensures _ _ c.put-2.ensures _ _ c.put-3.ensures))

pub returns : goal.returns
returns c =
    with_date _ _ c.put.ensures _ _ c.put-2.ensures _ _ c.put-3.ensures _ _ c.put-4.ensures
