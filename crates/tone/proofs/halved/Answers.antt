-- `tone::halved` is a rounded product by a power of two. Assumes nothing.
use mathlib.Core.Path.{◌≡◌, sym, ◌∙◌}
use Prim.Native.Nat.{◌^◌}
use lib.IntN.{ℤ}
use lib.Signed.{shr_z}
use mir.Syntax.{w16}
use mir.Val.{SFits, to_z, of_z}
use mir.Facts.{to_z-of_z}
use Rattle.numbers.proofs.Floor.{floor_fits}
use Rattle.operations.proofs.Shift.{right_back}
use Rattle.tone.proofs.Halves.{half_fits, halved}
use Rattle.tone.proofs.halved.Goals as goal
use Rattle.tone.proofs.halved.Goals.{Start}

module _ (c : Start) where
  abbrev y : ℤ
  y = shr_z c.args.x (2 ^ c.args.n)

  y_fits : SFits w16 y
  y_fits = floor_fits (2 ^ c.args.n) c.ranges.x

  shifted : to_z w16 (of_z w16 (shr_z (to_z w16 (of_z w16 c.args.x)) (2 ^ c.args.n))) ≡ y
  shifted = right_back w16 c.args.x c.args.n c.ranges.x

  again : to_z w16 (of_z w16 (shr_z y 2)) ≡ shr_z y 2
  again = to_z-of_z (floor_fits 2 y_fits)

pub overflow_sub-result : goal.overflow_sub-result
overflow_sub-result c = rw (shifted c, again c) (half_fits (y c) (y_fits c))

pub returns : goal.returns
returns c = rw (shifted c, again c) (to_z-of_z (half_fits (y c) (y_fits c)) ∙ sym (halved c.args.x c.ranges.x c.args.n c.requires))
