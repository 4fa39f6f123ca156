-- `spectrum::compare` gives the whole clause. Assumes nothing.
use Rattle.std.proofs.Common.{rules}
use mir.Facts.{to_z-of_z}
use Rattle.operations.proofs.Laws.{l_sub_fits}
use Rattle.spectrum.specs.Spectrum.{l_dm_of, compare_of}
use Rattle.spectrum.proofs.Size.{size_abs}
use Rattle.spectrum.proofs.compare.Goals as goal

pub returns : goal.returns
unfolding compare_of
returns c =
    let e = size_abs _ (l_sub_fits (l_dm_of c.args.av0 c.args.rav1 c.args.normrav1) c.args.lastdm) in search (rules, to_z-of_z)
