-- `swift_values::quick_ibans::length_of` meets its contract.
use native.Mathlib.Omega.{arith}
use Rattle.swift_values.proofs.Lengths.{long_of, ad_long, at_long, be_long, bg_long, ch_long, cy_long, cz_long, de_long, dk_long, ee_long, es_long, fi_long, fr_long, gb_long, gi_long, gr_long, hr_long, hu_long, ie_long, is_long, it_long, li_long, lt_long, lu_long, lv_long, mc_long, mt_long, nl_long, no_long, pl_long, pt_long, ro_long, se_long, si_long, sk_long, sm_long, va_long}
use Rattle.swift_values.proofs.quick_ibans.length_of.Goals as goal

pub returns-in-NO : goal.returns-in-NO
returns-in-NO c = long_of 78 79 15 c.args.a c.args.b (omega arith) (omega arith) (omega arith) (omega arith) no_long

pub returns-in-BE : goal.returns-in-BE
returns-in-BE c = long_of 66 69 16 c.args.a c.args.b (omega arith) (omega arith) (omega arith) (omega arith) be_long

pub returns-in-SI : goal.returns-in-SI
returns-in-SI c = long_of 83 73 19 c.args.a c.args.b (omega arith) (omega arith) (omega arith) (omega arith) si_long

pub returns-in-GI : goal.returns-in-GI
returns-in-GI c = long_of 71 73 23 c.args.a c.args.b (omega arith) (omega arith) (omega arith) (omega arith) gi_long

pub returns-in-IS : goal.returns-in-IS
returns-in-IS c = long_of 73 83 26 c.args.a c.args.b (omega arith) (omega arith) (omega arith) (omega arith) is_long

pub returns-in-PT : goal.returns-in-PT
returns-in-PT c = long_of 80 84 25 c.args.a c.args.b (omega arith) (omega arith) (omega arith) (omega arith) pt_long

pub returns-in-MT : goal.returns-in-MT
returns-in-MT c = long_of 77 84 31 c.args.a c.args.b (omega arith) (omega arith) (omega arith) (omega arith) mt_long

pub returns-in-FR : goal.returns-in-FR
returns-in-FR c = long_of 70 82 27 c.args.a c.args.b (omega arith) (omega arith) (omega arith) (omega arith) fr_long

pub returns-in-FR-2 : goal.returns-in-FR-2
returns-in-FR-2 c = long_of 83 77 27 c.args.a c.args.b (omega arith) (omega arith) (omega arith) (omega arith) sm_long

pub returns-in-FR-3 : goal.returns-in-FR-3
returns-in-FR-3 c = long_of 71 82 27 c.args.a c.args.b (omega arith) (omega arith) (omega arith) (omega arith) gr_long

pub returns-in-FR-4 : goal.returns-in-FR-4
returns-in-FR-4 c = long_of 73 84 27 c.args.a c.args.b (omega arith) (omega arith) (omega arith) (omega arith) it_long

pub returns-in-FR-5 : goal.returns-in-FR-5
returns-in-FR-5 c = long_of 77 67 27 c.args.a c.args.b (omega arith) (omega arith) (omega arith) (omega arith) mc_long

pub returns-in-DK : goal.returns-in-DK
returns-in-DK c = long_of 78 76 18 c.args.a c.args.b (omega arith) (omega arith) (omega arith) (omega arith) nl_long

pub returns-in-DK-2 : goal.returns-in-DK-2
returns-in-DK-2 c = long_of 68 75 18 c.args.a c.args.b (omega arith) (omega arith) (omega arith) (omega arith) dk_long

pub returns-in-DK-3 : goal.returns-in-DK-3
returns-in-DK-3 c = long_of 70 73 18 c.args.a c.args.b (omega arith) (omega arith) (omega arith) (omega arith) fi_long

pub returns-in-CY : goal.returns-in-CY
returns-in-CY c = long_of 67 89 28 c.args.a c.args.b (omega arith) (omega arith) (omega arith) (omega arith) cy_long

pub returns-in-CY-2 : goal.returns-in-CY-2
returns-in-CY-2 c = long_of 72 85 28 c.args.a c.args.b (omega arith) (omega arith) (omega arith) (omega arith) hu_long

pub returns-in-CY-3 : goal.returns-in-CY-3
returns-in-CY-3 c = long_of 80 76 28 c.args.a c.args.b (omega arith) (omega arith) (omega arith) (omega arith) pl_long

pub returns-in-CH : goal.returns-in-CH
returns-in-CH c = long_of 76 73 21 c.args.a c.args.b (omega arith) (omega arith) (omega arith) (omega arith) li_long

pub returns-in-CH-3 : goal.returns-in-CH-3
returns-in-CH-3 c = long_of 67 72 21 c.args.a c.args.b (omega arith) (omega arith) (omega arith) (omega arith) ch_long

pub returns-in-CH-4 : goal.returns-in-CH-4
returns-in-CH-4 c = long_of 72 82 21 c.args.a c.args.b (omega arith) (omega arith) (omega arith) (omega arith) hr_long

pub returns-in-BG : goal.returns-in-BG
returns-in-BG c = long_of 66 71 22 c.args.a c.args.b (omega arith) (omega arith) (omega arith) (omega arith) bg_long

pub returns-in-BG-2 : goal.returns-in-BG-2
returns-in-BG-2 c = long_of 68 69 22 c.args.a c.args.b (omega arith) (omega arith) (omega arith) (omega arith) de_long

pub returns-in-BG-3 : goal.returns-in-BG-3
returns-in-BG-3 c = long_of 71 66 22 c.args.a c.args.b (omega arith) (omega arith) (omega arith) (omega arith) gb_long

pub returns-in-BG-4 : goal.returns-in-BG-4
returns-in-BG-4 c = long_of 73 69 22 c.args.a c.args.b (omega arith) (omega arith) (omega arith) (omega arith) ie_long

pub returns-in-BG-5 : goal.returns-in-BG-5
returns-in-BG-5 c = long_of 86 65 22 c.args.a c.args.b (omega arith) (omega arith) (omega arith) (omega arith) va_long

pub returns-in-AT : goal.returns-in-AT
returns-in-AT c = long_of 65 84 20 c.args.a c.args.b (omega arith) (omega arith) (omega arith) (omega arith) at_long

pub returns-in-AT-2 : goal.returns-in-AT-2
returns-in-AT-2 c = long_of 69 69 20 c.args.a c.args.b (omega arith) (omega arith) (omega arith) (omega arith) ee_long

pub returns-in-AT-3 : goal.returns-in-AT-3
returns-in-AT-3 c = long_of 76 84 20 c.args.a c.args.b (omega arith) (omega arith) (omega arith) (omega arith) lt_long

pub returns-in-AD : goal.returns-in-AD
returns-in-AD c = long_of 83 69 24 c.args.a c.args.b (omega arith) (omega arith) (omega arith) (omega arith) se_long

pub returns-in-AD-3 : goal.returns-in-AD-3
returns-in-AD-3 c = long_of 65 68 24 c.args.a c.args.b (omega arith) (omega arith) (omega arith) (omega arith) ad_long

pub returns-in-AD-4 : goal.returns-in-AD-4
returns-in-AD-4 c = long_of 69 83 24 c.args.a c.args.b (omega arith) (omega arith) (omega arith) (omega arith) es_long

pub returns-in-AD-5 : goal.returns-in-AD-5
returns-in-AD-5 c = long_of 67 90 24 c.args.a c.args.b (omega arith) (omega arith) (omega arith) (omega arith) cz_long

pub returns-in-AD-6 : goal.returns-in-AD-6
returns-in-AD-6 c = long_of 82 79 24 c.args.a c.args.b (omega arith) (omega arith) (omega arith) (omega arith) ro_long

pub returns-in-CH-2 : goal.returns-in-CH-2
returns-in-CH-2 c = long_of 76 86 21 c.args.a c.args.b (omega arith) (omega arith) (omega arith) (omega arith) lv_long

pub returns-in-AT-4 : goal.returns-in-AT-4
returns-in-AT-4 c = long_of 76 85 20 c.args.a c.args.b (omega arith) (omega arith) (omega arith) (omega arith) lu_long

pub returns-in-AD-2 : goal.returns-in-AD-2
returns-in-AD-2 c = long_of 83 75 24 c.args.a c.args.b (omega arith) (omega arith) (omega arith) (omega arith) sk_long
